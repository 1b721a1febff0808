-- A fault on its way out of the reading functions, and the path to it, which is kept apart.
use Rattle.std.specs.Prelude.{List, Option, Some, None}
use Rattle.guard_model.specs.declared.site.Step.{Step}
use Rattle.guard_der.specs.Breach.{AbstractBreach}
use Rattle.guard_der.specs.declared.faults.Fault.{Fault}
use Rattle.guard_der.specs.declared.faults.Fault.TheVariants as fault

-- the breach that it names by this path, where memory didn't run out
abbrev pub fault_of : List Step → Fault → Option AbstractBreach
fault_of steps (fault.Breach code at) = Some (record { code = code; at = at; path = steps })
fault_of steps fault.OutOfMemory = None
