-- Which elements constrain which kinds of types (X.680 clause 51), as one table.
use Rattle.std.specs.Prelude.{Bool, true}
use Rattle.std.specs.Option.{is_some}
use Rattle.guard_model.specs.AbstractType.{AbstractKind}
use Rattle.guard_model.specs.Kinds.{is_integer, has_size, is_string, element_of, has_parts}
use Rattle.guard_syntax.specs.Trees as written
use Rattle.guard_syntax.specs.Trees.{WrittenElementForm}

abbrev pub applies : AbstractKind → WrittenElementForm → Bool
-- a set in parentheses: what is in it applies or doesn't (50.1)
applies kind (written.parentheses set) = true
-- 51.2: all kinds
applies kind (written.value tree) = true
-- 51.3: all kinds, of the same base
applies kind (written.contained includes site name) = true
-- 51.4: INTEGER
applies kind (written.range r) = is_integer kind
-- 51.5: BIT STRING, OCTET STRING, character strings, SEQUENCE OF and SET OF
applies kind (written.size c) = has_size kind
-- 51.7: character strings
applies kind (written.from c) = is_string kind
-- 51.8.4: SEQUENCE OF and SET OF
applies kind (written.with_component c) = is_some (element_of kind)
-- 51.8.5: SEQUENCE, SET and CHOICE
applies kind (written.with_components partial ps) = has_parts kind
