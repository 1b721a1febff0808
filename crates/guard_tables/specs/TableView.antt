-- What a table stands for.
use Rattle.std.specs.Prelude.{List, ◌∷◌, map}
use Rattle.guard_model.specs.AbstractType.{AbstractType}
use Rattle.guard_model.specs.TypeView.{type_view}
use Rattle.guard_tables.specs.declared.table.Table.{Table}

abbrev pub declared_of : Table → AbstractType
declared_of table = type_view table.types.0

-- in order
abbrev pub rules_of : Table → List AbstractType
rules_of table = map type_view table.types.1

-- the list of its types: the declared one, then those of the rules
abbrev pub table_types : Table → List AbstractType
table_types table = declared_of table ∷ rules_of table
