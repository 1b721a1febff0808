-- What a table says of a name.
use Rattle.std.specs.Prelude.{ℕ, suc, Bool, false, ◌&&◌, List, [], ◌∷◌, map, Option, Some, None, option_map, bytes_eq, nat_eq, if◌then◌else◌}
use Rattle.std.specs.Map.{lookup}
use Rattle.std.specs.Option.{option_eq}
use Rattle.guard_syntax.specs.Trees.{WrittenModule}
use Rattle.guard_syntax.specs.ModuleViews.{module_view}
use Rattle.guard_names.specs.declared.table.Key.{Key}
use Rattle.guard_names.specs.declared.table.Table.{Table}
use Rattle.guard_names.specs.declared.meanings.Meanings.{Meanings}
use Rattle.guard_names.specs.Declarations.{Origins, Numbers}
use Rattle.guard_names.specs.inside.DeclarationViews.{origin_view}

-- the number of the module of this name: the place of the first one
abbrev pub module_number : List WrittenModule → List ℕ → Option ℕ
module_number [] name = None
module_number (m ∷ ms) name = if bytes_eq name m.name then Some 0 else option_map suc (module_number ms name)

-- whether a module is there and has the number that a key has, if it has one
abbrev pub is_number : Option ℕ → Option ℕ → Bool
is_number None number = false
is_number (Some k) number = option_eq nat_eq (Some k) number

abbrev pub is_scope : List WrittenModule → Option (List ℕ) → Option ℕ → Bool
is_scope ms None number = option_eq nat_eq None number
is_scope ms (Some home) number = is_number (module_number ms home) number

abbrev pub is_key : List WrittenModule → Option (List ℕ) → List ℕ → Key → Bool
is_key ms scope name k = is_scope ms scope k.scope && bytes_eq name k.name.now

-- where the name comes from that is declared there
abbrev pub origin_in : Table → Origins
origin_in t scope name =
    option_map origin_view (lookup (is_key (map module_view t.modules.now) scope name) t.origins.entries)

-- the definition of a name in the module of a name
abbrev pub meaning_in : Meanings → Numbers
meaning_in t home name = lookup (is_key (map module_view t.modules.now) (Some home) name) t.numbers.entries
