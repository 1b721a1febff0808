use Rattle.std.proofs.Common.{◌≡◌, ◌-◌, ◌<◌, Some, map, length, get_or, take, Contains, sym, ◌∙◌, subst, arith}
use Rattle.std.specs.List.{slice_get}
use Rattle.std.proofs.lemmas.List.{length-map}
use Rattle.std.proofs.lemmas.List.Elements.{Contains-push}
use Rattle.guard_names.specs.declared.recursion.Pending.{Pending}
use Rattle.guard_names.specs.inside.Searches.{Rises, IsSearchOf}
use Rattle.guard_names.proofs.Recursive.Parts.{rises_popped}
use Rattle.guard_names.proofs.Recursive.Searching.{searched_taken, taken_from}
use Rattle.guard_names.proofs.Recursive.Lists.{last_split}
use Rattle.guard_names.proofs.recursion.Search.step.Goals as goal

pub follow-requires-clause-inside : goal.follow-requires-clause-inside
follow-requires-clause-inside c =
    let us = map (λ v. v.items) c.args.uses.now in
    let count : length us ≡ length c.args.uses.now = length-map c.args.uses.now (λ v. v.items) in
    let t = c.in-Some-next_use.ensures.taken in
    let taken : Pending = record { place = t.0; used = c.in-Some-next_use.used } in
    let p = c.requires.search.is_path.pending_used taken (subst (λ x. Contains x taken) (sym t.2) (Contains-push c.next_use.new.pending.items taken)) in
    let r : c.in-Some-next_use.used < length us = c.requires.inside (get_or c.args.self.now.path.items t.0 0) c.in-Some-next_use.used p.1 in
    omega (arith, r, count)

pub follow-requires-clause-search : goal.follow-requires-clause-search
follow-requires-clause-search c =
    searched_taken (map (λ v. v.items) c.args.uses.now) _ _ _ c.args.self.now.pending.items c.next_use.new.pending.items _ (record { place = c.in-Some-next_use.ensures.taken.0; used = c.in-Some-next_use.used })
    c.requires.search c.in-Some-next_use.ensures.taken.2

pub follow-requires-clause-from : goal.follow-requires-clause-from
follow-requires-clause-from c =
    let parts = c.args.self.now.parts.items in
    let was : Some c.in-Some.part ≡ slice_get parts (length parts - 1) =
    subst (λ x. Some c.in-Some.part ≡ slice_get x (length x - 1)) c.deref.ensures.value (c.in-Some.ensures ∙ c.last.ensures.value) in
    taken_from (map (λ v. v.items) c.args.uses.now) c.args.self.now.marks.items c.args.self.now.path.items parts _ c.in-Some.part c.args.self.now.pending.items c.next_use.new.pending.items c.args.self.now.first
    c.in-Some-next_use.ensures.taken.0 c.in-Some-next_use.used c.requires.search (last_split parts c.in-Some.part was) c.in-Some-next_use.ensures.taken.2 c.in-Some-next_use.ensures.taken.1

pub leave-requires-clause-start : goal.leave-requires-clause-start
leave-requires-clause-start c =
    let parts = c.args.self.now.parts.items in
    let was : Some c.in-Some.part ≡ slice_get parts (length parts - 1) =
    subst (λ x. Some c.in-Some.part ≡ slice_get x (length x - 1)) c.deref.ensures.value (c.in-Some.ensures ∙ c.last.ensures.value) in
    let r = rises_popped 0 (take (length parts - 1) parts) (length c.args.self.now.path.items) c.in-Some.part (subst (λ x. Rises 0 x (length c.args.self.now.path.items)) (last_split parts c.in-Some.part was) c.requires.search.rises) in
    omega (arith, r.1)

pub returns-in-None-clause-search : goal.returns-in-None-clause-search
returns-in-None-clause-search c =
    let us = map (λ v. v.items) c.args.uses.now in
    let kept = c.in-None.ensures.kept in
    c.leave.ensures.search us
    (subst (λ x. IsSearchOf us c.args.self.now.marks.items c.args.self.now.path.items c.args.self.now.parts.items x c.args.self.now.first (λ _. ⊥)) (sym kept) c.requires.search)
    (λ e h. c.in-None.ensures.none c.requires.search.is_path.pending_rising e (subst (λ x. Contains x e) kept h))
