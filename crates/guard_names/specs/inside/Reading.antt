-- What the code is proved to compute, as functions on the trees of the definitions.
use Rattle.std.specs.Prelude.{ℕ, List, Vec, map, Option, Some, None, Result, Ok, Err}
use Rattle.std.specs.List.{flat_map, filter_map}
use Rattle.guard_model.specs.Answer.{◌>>=◌}
use Rattle.guard_model.specs.declared.site.Site.{Site}
use Rattle.guard_syntax.specs.Trees.{WrittenAssignment, WrittenModule}
use Rattle.guard_names.specs.declared.fault.NameFault.{NameFault}
use Rattle.guard_names.specs.declared.fault.NameFault.TheVariants.{Duplicate, Undefined, NoModule, NotExported, ImportNotDefined}
use Rattle.guard_names.specs.Mentions.{mentions}
use Rattle.guard_names.specs.Declarations.{Numbers}
use Rattle.guard_names.specs.Meanings.{number_meant}
use Rattle.guard_names.specs.Faults.{duplicate, no_module, not_defined, not_exported, undefined}

abbrev pub nothing : {A : Type 0} → A → Unit {0}
nothing a = tt

-- a refusal with this fault at the site, where there is one, else Ok
abbrev pub refused_at : (Site → NameFault) → Option Site → Result (Unit {0}) NameFault
refused_at fault None = Ok tt
refused_at fault (Some site) = Err (fault site)

-- ---- the faults, one kind after the other

abbrev pub check_imports : List WrittenModule → Result (Unit {0}) NameFault
check_imports ms =
    refused_at NoModule (no_module ms) >>= λ _.
    (refused_at ImportNotDefined (not_defined ms) >>= λ _.
    refused_at NotExported (not_exported ms))

abbrev pub check_names : List WrittenModule → Result (Unit {0}) NameFault
check_names ms =
    refused_at Duplicate (duplicate ms) >>= λ _.
    (check_imports ms >>= λ _.
    refused_at Undefined (undefined ms))

-- ---- uses

-- the definitions that an assignment uses, in the order in which it mentions them
abbrev pub used_in : Numbers → List ℕ → WrittenAssignment → List ℕ
used_in numbers home a = filter_map (λ x. numbers home x.name) (mentions a)

-- of each assignment of a module
abbrev pub used_in_module : Numbers → WrittenModule → List (List ℕ)
used_in_module numbers m = map (used_in numbers m.name) m.assignments

-- the definitions that each definition uses
abbrev pub uses_of_all : List WrittenModule → List (List ℕ)
uses_of_all ms = flat_map (used_in_module (number_meant ms)) ms

-- what the code keeps of them
abbrev pub listed_uses : {Y Z : Type 0} → Vec (Vec ℕ Y) Z → List (List ℕ)
listed_uses all = map (λ v. v.items) all.items
