-- Why a file isn't read, as the parts of the code answer it.
use Rattle.std.specs.Prelude.{ℕ, List}
use Rattle.guard_files.specs.declared.fault.Fault.{Fault}
use Rattle.guard_files.specs.declared.fault.Fault.TheVariants.{CannotRead, TooLarge, Schema, Policy, Run, NoMemory}
use Rattle.guard_files.specs.Files.{Told}
use Rattle.guard_files.specs.Reading.{FirstMissing, NamesFile}

-- nothing can be read at the first of these names in a folder at which that is so, and its path is named; or memory ran
-- out
abbrev pub CannotAllBeRead : Told → List ℕ → List (List ℕ) → Fault → Type 0
CannotAllBeRead told beside names = NamesFile (FirstMissing told beside names)

-- it is found before any module is looked at, or memory ran out
abbrev pub IsBeforeModules : Fault → Type 0
IsBeforeModules (Schema f) = ⊥
IsBeforeModules (CannotRead file obstacle) = Unit {0}
IsBeforeModules (TooLarge file) = Unit {0}
IsBeforeModules (Policy f) = Unit {0}
IsBeforeModules (Run f) = Unit {0}
IsBeforeModules NoMemory = Unit {0}
