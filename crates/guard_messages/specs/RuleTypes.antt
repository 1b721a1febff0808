-- The type of a rule, by its names, and where a module assigns it.
use Rattle.std.specs.Prelude.{ℕ, List, [], ◌∷◌, ◌++◌, codes, map, bytes_eq, Option, Some, None, if◌then◌else◌}
use Rattle.guard_model.specs.declared.site.Site.{Site}
use Rattle.guard_syntax.specs.ModuleViews.{module_view}
use Rattle.guard_syntax.specs.Trees.{WrittenAssignment, WrittenModule}
use Rattle.guard_policy.specs.Policies.{AbstractRule}
use Rattle.guard_notes.specs.Sources.{AbstractSources, place_lines, sources_view}
use Rattle.guard_notes.specs.declared.notes.Place.TheVariants.{At}
use Rattle.guard_messages.specs.declared.rule_types.Grounds.{Grounds}

-- What a verdict is explained over: the texts, and the trees of the modules.
pub record AbstractGrounds : Type 0 where
  pub sources : AbstractSources
  pub modules : List WrittenModule

abbrev pub grounds_view : Grounds → AbstractGrounds
grounds_view g = record { sources = sources_view g.sources; modules = map module_view g.modules.now }

-- `  type Orders.Big`: the module, and the type
abbrev pub type_line : AbstractRule → List ℕ
type_line r = codes "  type " ++ (r.home ++ (codes "." ++ (r.type_name ++ codes "\n")))

-- ---- where it is assigned

-- the first of these assignments that assigns the name
abbrev pub assigned_among : List ℕ → List WrittenAssignment → Option Site
assigned_among name [] = None
assigned_among name (a ∷ others) = if bytes_eq a.name name then Some a.site else assigned_among name others

-- in the module of this name
abbrev pub assigned_at : List ℕ → List ℕ → List WrittenModule → Option Site
assigned_at home name [] = None
assigned_at home name (m ∷ others) =
    if bytes_eq m.name home then assigned_among name m.assignments else assigned_at home name others

-- the file, the line with a mark under the column
abbrev pub site_lines : AbstractSources → Option Site → List ℕ
site_lines s None = []
site_lines s (Some site) = place_lines s (At site)

-- ---- both

abbrev pub rule_type_lines : AbstractGrounds → AbstractRule → List ℕ
rule_type_lines g r = type_line r ++ site_lines g.sources (assigned_at r.home r.type_name g.modules)
