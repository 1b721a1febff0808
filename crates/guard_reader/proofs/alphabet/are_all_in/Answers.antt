use Rattle.std.proofs.Common.{drop, ap, ◌∙◌, arith}
use Rattle.std.proofs.lemmas.List.{take_all, length-drop}
use Rattle.std.specs.List.{list_all}
use Rattle.guard_eval.specs.Elements.{is_in_some}
use Rattle.guard_reader.proofs.Blocks.{goes_on, stops}
use Rattle.guard_reader.proofs.alphabet.are_all_in.Goals as goal

pub returns-then-not-are_first_in : goal.returns-then-not-are_first_in
returns-then-not-are_first_in c =
    stops (is_in_some c.args.ranges.now) 32 c.loop-rest.rest.now _ c.are_first_in.ensures c.if-not-are_first_in.true ∙ c.loop-rest.invariant

pub loop-rest-preserved : goal.loop-rest-preserved
loop-rest-preserved c =
    let is_in = is_in_some c.args.ranges.now in
    ap (list_all is_in) (take_all _ (drop 32 c.loop-rest.rest.now) (omega (arith, length-drop 32 c.loop-rest.rest.now)))
    ∙ goes_on is_in 32 c.loop-rest.rest.now _ c.are_first_in.ensures c.if-not-are_first_in.false ∙ c.loop-rest.invariant
