use Rattle.std.proofs.Common.{◌≡◌, ◌+◌, ◌≤◌, length, ℕ, List}
use Rattle.std.specs.List.{count_by}
use Rattle.guard_reader.specs.inside.Firsts.{is_first}
use Rattle.guard_reader.proofs.texts.count_firsts.Given as goal

pub record Counted (os rest : List ℕ) (count : ℕ) : Type 0 where
  pub counted : count + count_by is_first rest ≡ count_by is_first os
  pub room : count + length rest ≤ length os

abbrev pub invariant-loop-rest : goal.invariant-loop-rest
invariant-loop-rest l = Counted l.octets l.rest l.count

abbrev pub decreases-loop-rest : goal.decreases-loop-rest
decreases-loop-rest l = length l.rest
