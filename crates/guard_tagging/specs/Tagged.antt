-- What comes of a written type whose names of types all mean types: the type that it denotes where nothing is wrong with
-- it, else its first fault. Of a written type with another name nothing comes.
use Rattle.std.specs.Prelude.{◌≡◌, ℕ, List, Some, None, IfSome, true}
use Rattle.guard_model.specs.AbstractType.{AbstractType}
use Rattle.guard_tagcheck.specs.Limits.{is_within_limits}
use Rattle.guard_syntax.specs.Trees.{WrittenType}
use Rattle.guard_tagging.specs.declared.fault.TagFault.{TagFault}
use Rattle.guard_tagging.specs.Faults.{first_fault}
use Rattle.guard_tagging.specs.KnownNames.{IsKnown}
use Rattle.guard_tagging.specs.Types.{Surroundings, denoted}

-- `before` is the number of types in the definitions before it
abbrev pub IsTagged : Surroundings → ℕ → WrittenType → AbstractType → Type 0
IsTagged around before written t =
    (first_fault around before written ≡ None) × (t ≡ denoted around written) × IsKnown around written

abbrev pub IsFirstFault : Surroundings → ℕ → WrittenType → TagFault → Type 0
IsFirstFault around before written fault = (first_fault around before written ≡ Some fault) × IsKnown around written

-- the types that names mean keep the limits
abbrev pub KeepLimits : Surroundings → Type 0
KeepLimits around = (name : List ℕ) → IfSome (around.meaning name) (λ m. is_within_limits m.ty ≡ true)
