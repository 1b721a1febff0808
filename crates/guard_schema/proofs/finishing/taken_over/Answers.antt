use Rattle.std.proofs.Common.{◌≡◌, ℕ, ap, ◌∙◌, arith}
use Rattle.guard_schema.specs.inside.InTurn as in_turn
use Rattle.guard_schema.specs.Views.{filling_view}
use Rattle.guard_schema.proofs.Filled.Moves.{none_yet, taken_over_more, one_more_left}
use Rattle.guard_schema.proofs.finishing.taken_over.Goals as goal

pub loop-init : goal.loop-init
loop-init c = record { reached = omega arith; so_far = none_yet (filling_view c.args.filling) }

pub one_taken_over-requires : goal.one_taken_over-requires
one_taken_over-requires c = record {
  enough = one_more_left c.loop.counter c.args.filling.left.items c.loop.so_far.left.items
      (ap (λ (f : in_turn.Filling). f.left) c.loop.invariant.so_far)
      (omega (arith, c.loop-test.true, c.requires.enough));
}

pub loop-preserved : goal.loop-preserved
loop-preserved c = record {
  reached = omega (arith, c.loop-test.true);
  so_far = c.in_ok-so_far.ensures ∙ ap (λ (f : in_turn.Filling). in_turn.taken_over 1 f) c.loop.invariant.so_far
      ∙ taken_over_more c.loop.counter (filling_view c.args.filling);
}

pub returns : goal.returns
returns c =
    let there : c.loop.counter ≡ c.args.count = omega (arith, c.loop.invariant.reached, c.loop-test.false) in
    c.loop.invariant.so_far ∙ ap (λ (n : ℕ). in_turn.taken_over n (filling_view c.args.filling)) there
