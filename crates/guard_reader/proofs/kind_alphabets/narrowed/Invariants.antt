use Rattle.std.proofs.Common.{◌≡◌, ◌<◌, ℕ, take}
use Rattle.arrayvec.specs.ArrayVec.{array_vec_len}
use Rattle.guard_eval.specs.Elements.{is_in_some}
use Rattle.guard_reader.proofs.kind_alphabets.narrowed.Given as goal

abbrev pub invariant-loop-low : goal.invariant-loop-low
invariant-loop-low l = (array_vec_len l.narrowed ≡ l.low-index) × ((o : ℕ) → o < 256 → is_in_some l.narrowed.items o ≡ is_in_some (take l.low-index l.ranges) o)
