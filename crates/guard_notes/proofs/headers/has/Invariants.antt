use Rattle.std.proofs.Common.{◌≡◌, drop}
use Rattle.guard_notes.specs.PolicyNotes.{has}
use Rattle.guard_notes.proofs.headers.has.Given as goal

-- what is left has them if the text does
abbrev pub invariant-loop-place : goal.invariant-loop-place
invariant-loop-place l = has l.mark (drop l.place l.text) ≡ has l.mark l.text
