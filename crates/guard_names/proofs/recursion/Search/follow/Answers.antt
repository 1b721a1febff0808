use Rattle.std.proofs.Common.{◌<◌, map, length, sym, ◌∙◌, arith}
use Rattle.std.proofs.lemmas.List.{length-map}
use Rattle.guard_names.specs.declared.recursion.Mark.TheVariants.{New}
use Rattle.guard_names.proofs.Recursive.Paths.{comes_to}
use Rattle.guard_names.proofs.Recursive.Searching.{searched_left, searched_joined}
use Rattle.guard_names.proofs.Recursive.Lists.{any_default}
use Rattle.guard_names.proofs.recursion.Search.follow.Goals as goal

pub enter-requires-clause-comes : goal.enter-requires-clause-comes
enter-requires-clause-comes c =
    let f = c.requires.from in
    comes_to (map (λ v. v.items) c.args.uses.now) _ _ _ _ _ _ _ c.requires.search.is_path f.from c.args.used f.here f.last f.uses

pub returns-in-OnPath-clause-search : goal.returns-in-OnPath-clause-search
returns-in-OnPath-clause-search c =
    let f = c.requires.from in
    let count = length-map c.args.uses.now (λ v. v.items) in
    let below : c.args.used < length c.args.self.now.marks.items = omega (arith, count, c.requires.search.sized, c.requires.inside) in
    searched_joined (map (λ v. v.items) c.args.uses.now) _ _ c.args.self.now.parts.items _ _ _ c.args.used c.in-OnPath.place f.from c.requires.search
    (any_default c.args.self.now.marks.items c.args.used New c.index.result.now below ∙ sym c.index.ensures ∙ c.in-OnPath.is) c.join.ensures f.here f.last f.uses

pub returns-in-Done-clause-search : goal.returns-in-Done-clause-search
returns-in-Done-clause-search c =
    let count = length-map c.args.uses.now (λ v. v.items) in
    let below : c.args.used < length c.args.self.now.marks.items = omega (arith, count, c.requires.search.sized, c.requires.inside) in
    searched_left (map (λ v. v.items) c.args.uses.now) _ _ _ _ _ c.args.used c.requires.search
    (any_default c.args.self.now.marks.items c.args.used New c.index.result.now below ∙ sym c.index.ensures ∙ c.in-Done.is)
