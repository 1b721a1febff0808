-- How often links had each fault.
use Rattle.std.specs.Prelude.{ℕ, Result, Ok, Err}
use Rattle.guard_frames.specs.Totals.{later}
use Rattle.guard_frames.specs.declared.link.LinkFault.{LinkFault}
use Rattle.guard_frames.specs.declared.link.LinkFault.TheVariants.{FrameTooLong, WriteFailed, Closed, TornFrame}
use Rattle.guard_streams.specs.declared.faults.Faults.{Faults}

abbrev pub no_faults : Faults
no_faults = record { frame_too_long = 0; write_failed = 0; closed = 0; torn_frame = 0 }

-- these, and the one with which a link answered
abbrev pub faulted : Faults → Result (Unit {0}) LinkFault → Faults
faulted f (Ok done) = f
faulted f (Err FrameTooLong) = record f { frame_too_long = later f.frame_too_long 1 }
faulted f (Err WriteFailed) = record f { write_failed = later f.write_failed 1 }
faulted f (Err Closed) = record f { closed = later f.closed 1 }
faulted f (Err TornFrame) = record f { torn_frame = later f.torn_frame 1 }
