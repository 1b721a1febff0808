use Rattle.std.proofs.Common.{◌≡◌, ◌+◌, ◌∷◌, ◌∙◌, get_or, drop, drop-cons, add-one, sym}
use Rattle.guard_model.specs.ValueView.{value_view}
use Rattle.guard_policy.specs.inside.KeptRules.{rules_kept}
use Rattle.guard_policy.specs.PolicyView.{route_view}
use Rattle.guard_policy.proofs.Denials.{found_first, searched_on}
use Rattle.guard_policy.proofs.decision.first_denying_rule.Goals as goal

pub returns-then-denies_at : goal.returns-then-denies_at
returns-then-denies_at c =
    let numbers = c.args.numbers.now in
    let i = c.loop-number.number-index in
    let front : drop i numbers ≡ get_or numbers i 0 ∷ drop (i + 1) numbers = rw add-one (drop-cons numbers i 0 c.loop-number-test.true) in
    found_first (rules_kept c.args.kept.now) (route_view c.args.route.now) (value_view c.args.value.now) (drop i numbers) (drop (i + 1) numbers) (get_or numbers i 0)
    _ front (sym c.denies_at.ensures ∙ c.if-denies_at.true) c.loop-number.invariant

pub loop-number-preserved : goal.loop-number-preserved
loop-number-preserved c =
    let numbers = c.args.numbers.now in
    let i = c.loop-number.number-index in
    let front : drop i numbers ≡ get_or numbers i 0 ∷ drop (i + 1) numbers = rw add-one (drop-cons numbers i 0 c.loop-number-test.true) in
    searched_on (rules_kept c.args.kept.now) (route_view c.args.route.now) (value_view c.args.value.now) (drop i numbers) (drop (i + 1) numbers) (get_or numbers i 0)
    _ front (sym c.denies_at.ensures ∙ c.if-denies_at.false) c.loop-number.invariant
