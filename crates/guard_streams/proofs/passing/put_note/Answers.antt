use Rattle.guard_frames.proofs.Appending.{Appends_none}
use Rattle.guard_streams.proofs.passing.put_note.Goals as goal

pub returns-in_default : goal.returns-in_default
returns-in_default g c = rw c.in_default.is (Appends_none _)

pub returns-in-FrameTooLong : goal.returns-in-FrameTooLong
returns-in-FrameTooLong g c =
    rw (c.in-Some.is, c.in-FrameTooLong.is, ← c.totals.ensures, ← c.next_number-number.ensures, ← c.left.ensures) c.put_frame.ensures.puts

pub returns-in-TornFrame : goal.returns-in-TornFrame
returns-in-TornFrame g c =
    rw (c.in-Some.is, c.in-TornFrame.is, ← c.totals.ensures, ← c.next_number-number.ensures, ← c.left-in-TornFrame.ensures)
    c.put_frame-in-TornFrame.ensures.puts
