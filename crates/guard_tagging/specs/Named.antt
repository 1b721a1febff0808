-- Which refusals name a fault: all, unless memory ran out.
use Rattle.std.specs.Prelude.{Option, Some, None, Result, Ok, Err}
use Rattle.guard_tagging.specs.declared.fault.TagFault.{TagFault}
use Rattle.guard_tagging.specs.declared.fault.TagFault.TheVariants as fault

abbrev pub named : TagFault → Option TagFault
named fault.OutOfMemory = None
named f = Some f

-- this, unless there is a fault
abbrev pub unless : {A : Type 0} → Option TagFault → A → Result A TagFault
unless None x = Ok x
unless (Some f) x = Err f

-- nothing, unless there is a fault
abbrev pub allowed : Option TagFault → Result (Unit {0}) TagFault
allowed None = Ok tt
allowed (Some f) = Err f
