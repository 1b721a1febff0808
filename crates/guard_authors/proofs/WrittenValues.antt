-- From the tokens of a text to the value that it writes, or to why it writes none.
use Rattle.std.proofs.Common.{◌≡◌, ◌≢◌, ℕ, List, refl}
use Rattle.std.specs.Prelude.{None}
use Rattle.guard_model.specs.AbstractType.{AbstractType}
use Rattle.guard_model.specs.AbstractValue.{AbstractValue}
use Rattle.guard_syntax.specs.Trees.{WrittenValue}
use Rattle.guard_values.specs.Denotes.{Denotes}
use Rattle.guard_values.specs.Meanings.{Meaning}
use Rattle.reads_back.specs.ReadingBack.{IsReadAs}
use Rattle.guard_schema.specs.Faults.{named}
use Rattle.guard_schema.specs.declared.fault.SchemaFault.{SchemaFault}
use Rattle.guard_schema.specs.declared.fault.SchemaFault.TheVariants.{OutOfMemory}
use Rattle.guard_files.specs.declared.fault.Fault.TheVariants.{Schema}
use Rattle.guard_files.specs.Devices.{Device}
use Rattle.guard_files.specs.Writing.{TellsWith}
use Rattle.guard_authors.specs.ValueTexts.{IsNoValue, IsWrittenAs, TellsNoValue, value_note}

pub is_read_as : (m : Meaning) (t : AbstractType) (text : List ℕ) (tree : WrittenValue) (v : AbstractValue) → IsWrittenAs text tree → Denotes m t tree v → IsReadAs m t text v
is_read_as m t text tree v w d = record { place = 1; tokens = w.tokens; lexed = w.lexed; tree = tree; written = w.written; denoted = d }

pub out_of_memory : (m : Meaning) (t : AbstractType) (text : List ℕ) (e : SchemaFault) → named e ≡ None → IsNoValue m t text e
out_of_memory m t text OutOfMemory none = tt
out_of_memory m t text _ none = absurd cc

pub told_with_place : (text : List ℕ) (f : SchemaFault) (err : Device) (status : ℕ) → f ≢ OutOfMemory
    → TellsWith (Schema f) (value_note text f) err status → TellsNoValue text f err status
told_with_place text OutOfMemory err status other h = absurd (other refl)
told_with_place text _ err status other h = h
