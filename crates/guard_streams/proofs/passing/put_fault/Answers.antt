use Rattle.guard_streams.proofs.Putting.{puts_behind, puts_part, part_first}
use Rattle.guard_streams.proofs.passing.put_fault.Goals as goal

pub returns-in_err-put_line : goal.returns-in_err-put_line
returns-in_err-put_line g c =
    puts_part _ _ _ _ c.from_residual.ensures.1 (part_first _ _ _ (rw (c.as_bytes.ensures.value, c.text.ensures) at c.in_err-put_line.ensures.puts))

pub returns : goal.returns
returns g c =
    puts_behind _ _ _ _ _ _ _ (rw (c.as_bytes.ensures.value, c.text.ensures) at c.in_ok-put_line.ensures.puts) c.put_note.ensures
