-- What is printed of a fault of a link or of a run: its number and its name.
use Rattle.std.specs.Prelude.{ℕ, List, codes}
use Rattle.guard_frames.specs.declared.link.LinkFault.{LinkFault}
use Rattle.guard_frames.specs.declared.link.LinkFault.TheVariants.{FrameTooLong, WriteFailed, Closed, TornFrame}
use Rattle.guard_frames.specs.declared.running.RunFault.{RunFault}
use Rattle.guard_frames.specs.declared.running.RunFault.TheVariants as run

abbrev pub fault_text : LinkFault → List ℕ
fault_text FrameTooLong = codes "F1 FrameTooLong"
fault_text WriteFailed = codes "F2 WriteFailed"
fault_text Closed = codes "F3 Closed"
fault_text TornFrame = codes "F4 TornFrame"

abbrev pub run_text : RunFault → List ℕ
run_text run.FrameTooLong = fault_text FrameTooLong
run_text run.WriteFailed = fault_text WriteFailed
run_text run.TornFrame = fault_text TornFrame
run_text run.ReadFailed = codes "F5 ReadFailed"
run_text run.OutOfMemory = codes "OutOfMemory"
