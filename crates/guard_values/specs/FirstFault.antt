-- Which fault of a written value is named.
use Rattle.std.specs.Prelude.{◌≡◌, [], Some, slice_get, ◌⊎◌}
use Rattle.guard_model.specs.AbstractType.{AbstractType}
use Rattle.guard_syntax.specs.Trees.{WrittenValue}
use Rattle.guard_values.specs.declared.fault.ValueFault.{ValueFault}
use Rattle.guard_values.specs.Meanings.{Meaning}
use Rattle.guard_values.specs.Faults.{faults_of}
use Rattle.guard_values.specs.Conditions.{IsTooLong}

-- The first one; or, where there is none, V8 at the value: an encoding that is too long is looked for last.
abbrev pub IsFirstFault : Meaning → AbstractType → WrittenValue → ValueFault → Type 0
IsFirstFault m t tree f =
    (slice_get (faults_of m t tree) 0 ≡ Some f) ⊎ ((faults_of m t tree ≡ []) × IsTooLong m t tree f)
