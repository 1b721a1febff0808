use Rattle.std.proofs.Common.{◌≡◌, length}
use Rattle.guard_notes.specs.TokenNotes.{are_swapped}
use Rattle.guard_notes.proofs.token_notes.are_swapped.Given as goal

-- what is left is swapped if all is
abbrev pub invariant-loop-left : goal.invariant-loop-left
invariant-loop-left l = are_swapped l.left l.right ≡ are_swapped l.word l.other

abbrev pub decreases-loop-left : goal.decreases-loop-left
decreases-loop-left l = length l.left
