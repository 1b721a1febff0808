use Rattle.std.proofs.Common.{◌≡◌, take, map, cond}
use Rattle.guard_eval.specs.Elements.{is_in_some}
use Rattle.guard_reader.proofs.alphabet.are_first_in.Given as goal

abbrev pub invariant-loop-low : goal.invariant-loop-low
invariant-loop-low l = l.outside ≡ map (λ x. cond (is_in_some (take l.low-index l.ranges) x) 0 255) l.lanes
