-- The numbers by which the code knows the modules of declarations.
use Rattle.std.specs.Prelude.{◌≡◌, List, Option, Some, None}
use Rattle.guard_syntax.specs.Trees.{WrittenModule}
use Rattle.guard_names.specs.declared.declarations.Declaration.{Declaration}
use Rattle.guard_names.specs.declared.declarations.Home.{Home}
use Rattle.guard_names.specs.declared.declarations.Origin.{Origin}
use Rattle.guard_names.specs.declared.declarations.Origin.TheVariants as origin
use Rattle.guard_names.specs.TableViews.{module_number}

abbrev pub HasNumber : List WrittenModule → Option Home → Type 0
HasNumber ms None = Unit {0}
HasNumber ms (Some home) = module_number ms home.name.now ≡ Some home.number

abbrev pub HasSource : List WrittenModule → Origin → Type 0
HasSource ms origin.Module = Unit {0}
HasSource ms (origin.Import from number) = number ≡ module_number ms from.now
HasSource ms (origin.Assignment number exports) = Unit {0}

-- those of the module in which it is declared, and of the one from which it is imported
abbrev pub IsNumbered : List WrittenModule → Declaration → Type 0
IsNumbered ms d = HasNumber ms d.scope × HasSource ms d.origin
