use Rattle.std.proofs.Common.{◌≡◌, drop}
use Rattle.std.specs.Prelude.{find}
use Rattle.guard_lexer.specs.inside.Reading.{stands_at}
use Rattle.guard_lexer.proofs.mark.find_mark.Given as goal

abbrev pub invariant-loop-mark : goal.invariant-loop-mark
invariant-loop-mark l = find (stands_at l.text) (drop l.mark-index l.table) ≡ find (stands_at l.text) l.table
