-- What the values of the code mean.
use Rattle.std.specs.Prelude.{ℕ, List, map, string_bytes, Option, Some, None, option_map, option_and_then, slice_get}
use Rattle.std.specs.Arc.{arc_value}
use Rattle.guard_model.specs.TypeView.{component_view, shared_type_view}
use Rattle.std.specs.Global.{Global}
use Rattle.std.specs.declared.sync.Arc.{Arc}
use Rattle.guard_model.specs.declared.value.Value.{Value}
use Rattle.guard_syntax.specs.Trees.{WrittenOfConstraint}
use Rattle.guard_syntax.specs.SetViews.{constraint_view}
use Rattle.guard_syntax.specs.declared.tree.OfConsTree.{OfConsTree}
use Rattle.guard_names.specs.NamesView.{modules_of, order_of}
use Rattle.guard_schema.specs.declared.progress.Progress.{Progress}
use Rattle.guard_schema.specs.declared.progress.Definition as code_definition
use Rattle.guard_schema.specs.declared.schema.Schema.{Schema}
use Rattle.guard_schema.specs.declared.build.NamedDefinition.{NamedDefinition}
use Rattle.guard_schema.specs.declared.built_modules.BuiltModules.{BuiltModules}
use Rattle.guard_schema.specs.declared.index.TypeIndex.{TypeIndex}
use Rattle.guard_schema.specs.declared.finishing.Filling as code_filling
use Rattle.guard_schema.specs.Known.{Built, Known}
use Rattle.guard_schema.specs.Pairs.{built_view, paired}
use Rattle.guard_schema.specs.inside.InTurn.{Filling}
use Rattle.guard_names.specs.Places as places
use Rattle.guard_schema.specs.Entries.{Entry, looked_up, unvalued}
use Rattle.guard_schema.specs.Schemas.{AbstractSchema}

-- ---- what is built

abbrev pub definition_view : code_definition.Definition → Built
definition_view d = built_view (arc_value d.ty) d.value

abbrev pub built_in : Progress → List Built
built_in p = paired p.known.types.items p.known.values.items

abbrev pub known_view : Progress → Known
known_view p = record { modules = modules_of p.names.now; order = order_of p.names.now; built = built_in p }

abbrev pub filling_view : code_filling.Filling → Filling
filling_view f = record { done = map component_view f.done.items; left = map component_view f.left.items }

abbrev pub before_view : OfConsTree → WrittenOfConstraint
before_view c = record { site = c.site; size = c.size; constraint = constraint_view c.cons.value }

-- ---- the schema: its types by the names of definitions

abbrev pub entry_view : NamedDefinition → Entry
entry_view n = record { home = n.home.now; name = n.name.now; place = n.place }

-- what an index has under the two names
abbrev pub found_in : TypeIndex → List ℕ → List ℕ → Option (Option ℕ)
found_in index home name = option_and_then (λ places. looked_up (λ key. key.items) name places.entries)
    (looked_up (λ key. key.items) home index.homes.entries)

abbrev pub place_in : TypeIndex → List ℕ → List ℕ → Option ℕ
place_in index home name = option_and_then (λ place. place) (found_in index home name)

abbrev pub unvalued_at : List (Option (Arc Value Global)) → Option ℕ → Option ℕ
unvalued_at values None = None
unvalued_at values (Some place) = unvalued place (slice_get values place)

-- the place of the definition of this number, where it assigns a type
abbrev pub type_place : List ℕ → List (Option (Arc Value Global)) → ℕ → Option ℕ
type_place order values number = unvalued_at values (places.place_in order number)

abbrev pub schema_view : Schema → AbstractSchema
schema_view s = record {
  modules = map string_bytes s.modules.items;
  types = λ home name. option_map shared_type_view (option_and_then (slice_get s.known.types.items) (place_in s.index home name));
}

-- what is known of modules that are built
abbrev pub known_of : BuiltModules → Known
known_of b = record {
  modules = modules_of b.names;
  order = order_of b.names;
  built = paired b.schema.known.types.items b.schema.known.values.items;
}
