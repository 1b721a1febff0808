use Rattle.std.proofs.Common.{ℕ, min, length, ap, ◌∙◌}
use Rattle.guard_eval.proofs.Codes.{all_marked}
use Rattle.guard_eval.proofs.windows.mark.Goals as goal

pub returns-clause-marked : goal.returns-clause-marked
returns-clause-marked c = λ place within.
    all_marked _ _ c.args.begin c.args.low c.args.high (length c.args.known.now) c.saturating_sub-start.result c.min-end.result c.loop-place.place place within c.saturating_sub-start.ensures
    (c.min-end.ensures ∙ ap (λ (e : ℕ). min (length c.args.known.now) e) c.saturating_sub.ensures) c.loop-place-test.false
    (c.loop-place.invariant.1 place) (c.loop-place.invariant.2 place) (c.loop-place.invariant.3 place)
