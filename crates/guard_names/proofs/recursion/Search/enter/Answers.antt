use Rattle.std.proofs.Common.{◌≡◌, ◌<◌, map, length, ◌∙◌, ap, arith, length-append}
use Rattle.std.proofs.lemmas.List.{length-map}
use Rattle.guard_names.specs.inside.Queues.{used_by}
use Rattle.guard_names.proofs.InOrder.Settling.{row_is}
use Rattle.guard_names.proofs.Recursive.Searching.{searched_entered, steps_entered}
use Rattle.guard_names.proofs.Recursive.Lists.{pending_more}
use Rattle.guard_names.proofs.recursion.Search.enter.Goals as goal

pub returns-clause-search : goal.returns-clause-search
returns-clause-search c =
    let us = map (λ v. v.items) c.args.uses.now in
    let count : length us ≡ length c.args.uses.now = length-map c.args.uses.now (λ v. v.items) in
    let below : c.args.number < length us = omega (arith, count, c.requires.inside) in
    let row_same : c.deref.result.now ≡ used_by us c.args.number = c.deref.ensures.value ∙ row_is (λ v. v.items) c.args.uses.now c.args.number c.index-uses-number.result c.index-uses-number.is c.requires.inside in
    searched_entered us c.args.self.now.marks.items c.args.self.now.path.items _ c.args.self.now.parts.items _ c.args.self.now.pending.items _ c.args.self.now.first c.args.number c.len-place.result c.deref.result.now
    c.requires.search c.requires.new below row_same c.requires.comes c.in_ok-push.ensures.items c.in_ok-push-2.ensures.items c.in_ok-add_pending.ensures (c.len-place.ensures ∙ c.args.self.now.path.ok.0)

pub returns-clause-left : goal.returns-clause-left
returns-clause-left c =
    let us = map (λ v. v.items) c.args.uses.now in
    let count : length us ≡ length c.args.uses.now = length-map c.args.uses.now (λ v. v.items) in
    let below : c.args.number < length us = omega (arith, count, c.requires.inside) in
    let row_same : c.deref.result.now ≡ used_by us c.args.number = c.deref.ensures.value ∙ row_is (λ v. v.items) c.args.uses.now c.args.number c.index-uses-number.result c.index-uses-number.is c.requires.inside in
    steps_entered us c.args.self.now.marks.items c.args.number c.len-place.result _ _ _ _ c.deref.result.now c.requires.new c.requires.search.sized below row_same
    (pending_more c.args.self.now.pending.items c.add_pending.new.into.items c.len-place.result c.deref.result.now c.in_ok-add_pending.ensures)
    (ap length c.in_ok-push-2.ensures.items ∙ length-append c.args.self.now.parts.items _)
