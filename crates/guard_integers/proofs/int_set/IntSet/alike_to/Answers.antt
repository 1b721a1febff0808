use Rattle.std.proofs.Common.{rules, arith, ◌≡◌, ◌≤ℤ◌, ◌<ℤ◌, ◌+ℤ◌, ℤ, pos, to_z, of_z, IsTrue, not, sym, ap, subst, ◌∙◌}
use Rattle.std.specs.Int.{w128}
use Rattle.std.specs.Int.RustNames.{FitsSigned}
use Rattle.std.proofs.lemmas.Int.{ints, to_z-of_z}
use Rattle.guard_model.specs.Limits.{fits_128_bits}
use Rattle.guard_integers.specs.Integers.{holds}
use Rattle.guard_integers.specs.Ranges.{one_holds}
use Rattle.guard_integers.specs.inside.Computing.{greatest}
use Rattle.guard_integers.proofs.RangeLists.AsSets.{alike_has, next_has}
use Rattle.guard_integers.proofs.int_set.IntSet.alike_to.Goals as goal

-- what the ranges hold at the first integer, however that is written
at_first : (c : goal.After-alike_to) → one_holds c.deref.result.now (to_z w128 (of_z w128 c.args.first)) ≡ one_holds c.self.inside.ranges.items c.args.first
at_first c = ap (one_holds c.deref.result.now) (to_z-of_z _ c.args.first c.ranges.first) ∙ ap (λ rs. one_holds rs c.args.first) c.deref.ensures.value

pub returns-clause-alike : goal.returns-clause-alike
returns-clause-alike c = λ x from to.
    let held : FitsSigned w128 c.alike_to.result = search rules in
    let up_to : x ≤ℤ c.alike_to.result = omega (arith, ints) in
    let from_first : to_z w128 (of_z w128 c.args.first) ≤ℤ x = omega (arith, ints) in
    let alike : one_holds c.self.inside.ranges.items x ≡ one_holds c.self.inside.ranges.items c.args.first =
    sym (ap (λ rs. one_holds rs x) c.deref.ensures.value) ∙ c.alike_to.ensures.alike x from_first up_to ∙ at_first c in
    rw (← c.self.view_is) (alike_has c.self.inside.ranges.items c.args.first c.alike_to.result x c.ranges.first held from up_to alike)

pub returns-clause-last : goal.returns-clause-last
returns-clause-last c = λ next.
    let held : FitsSigned w128 c.alike_to.result = search rules in
    let is = to_z-of_z _ c.alike_to.result held in
    let fits : IsTrue (fits_128_bits (c.alike_to.result +ℤ pos 1)) = subst (λ (z : ℤ). IsTrue (fits_128_bits (z +ℤ pos 1))) is next in
    let turns : c.alike_to.result <ℤ greatest → one_holds c.self.inside.ranges.items (c.alike_to.result +ℤ pos 1) ≡ not (one_holds c.self.inside.ranges.items c.args.first) =
    λ before. sym (ap (λ rs. one_holds rs (c.alike_to.result +ℤ pos 1)) c.deref.ensures.value) ∙ c.alike_to.ensures.last before ∙ ap not (at_first c) in
    ap (λ z. holds c.args.self.now (z +ℤ pos 1)) is
    ∙ rw (← c.self.view_is) (next_has c.self.inside.ranges.items c.args.first c.alike_to.result c.ranges.first fits turns)
