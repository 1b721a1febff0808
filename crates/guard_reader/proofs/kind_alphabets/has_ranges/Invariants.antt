use Rattle.std.proofs.Common.{◌≡◌, ℕ, true, take}
use Rattle.guard_eval.specs.Elements.{is_in_some}
use Rattle.guard_model.specs.Alphabets.{is_character}
use Rattle.guard_reader.proofs.kind_alphabets.has_ranges.Given as goal

abbrev pub invariant-loop-low : goal.invariant-loop-low
invariant-loop-low l = (c : ℕ) → is_in_some (take l.low-index l.ranges) c ≡ true → is_character l.kind c ≡ true
