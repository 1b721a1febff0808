-- Many values of one type, asked together: their parts at one place are a column, and all their elements are asked at once.
use Rattle.std.specs.Prelude.{ℕ, suc, nat_eq, Bool, true, false, ◌&&◌, List, [], ◌∷◌, ◌++◌, map, Option, Some, None, if◌then◌else◌}
use Rattle.std.specs.Borrow.{Bor}
use Rattle.std.specs.List.{list_all}
use Rattle.std.specs.Option.{is_none}
use Rattle.guard_model.specs.AbstractType as type
use Rattle.guard_model.specs.AbstractType.{AbstractType, AbstractKind, Components, Constraint, Constraints, type_of, no_components, component, no_constraints, constraint}
use Rattle.guard_model.specs.AbstractValue as value
use Rattle.guard_model.specs.AbstractValue.{AbstractValue, Items}
use Rattle.guard_model.specs.ValueView.{value_view}
use Rattle.guard_model.specs.TypeView.{constraint_view}
use Rattle.guard_model.specs.declared.ty.Cons.{Cons}
use Rattle.guard_model.specs.declared.value.Value.{Value}
use Rattle.guard_eval.specs.Presence.{field_at, if_there}
use Rattle.guard_eval.specs.inside.Failures.{failure, failure_by, failure_inside, first_failure}

abbrev pub values_view : List (Bor Value) → List AbstractValue
values_view values = map (λ v. value_view v.now) values

-- ---- of one value: the walk finds nothing that it fails, of its type, of the type's own constraints, of its parts

abbrev pub keeps : AbstractType → AbstractValue → Bool
keeps t v = is_none (failure t v)

abbrev pub keeps_own : AbstractType → AbstractValue → Bool
keeps_own (type_of tags kind cons) v = is_none (first_failure cons kind v)

abbrev pub keeps_inside : AbstractKind → AbstractValue → Bool
keeps_inside kind v = is_none (failure_inside kind v)

-- ---- of one value and constraints that are gathered: the walk finds nothing that it fails of one, of all

abbrev pub gathered_view : List (Bor Cons) → List Constraint
gathered_view cons = map (λ c. constraint_view c.now) cons

abbrev pub passes : AbstractKind → AbstractValue → Constraint → Bool
passes kind v c = is_none (failure_by c kind v)

abbrev pub passes_all : List Constraint → AbstractKind → AbstractValue → Bool
passes_all cs kind v = list_all (passes kind v) cs

-- ---- the column at a place: the components there that aren't absent, or the alternatives there that are chosen

abbrev pub part_of : Bool → ℕ → AbstractValue → Option AbstractValue
part_of true i (value.chosen j v) = if nat_eq i j then Some v else None
part_of true i _ = None
part_of false i (value.fields fs) = field_at i fs
part_of false i _ = None

abbrev pub with_part : Option AbstractValue → List AbstractValue → List AbstractValue
with_part None vs = vs
with_part (Some v) vs = v ∷ vs

abbrev pub column : Bool → ℕ → List AbstractValue → List AbstractValue
column of_choice i [] = []
column of_choice i (v ∷ vs) = with_part (part_of of_choice i v) (column of_choice i vs)

-- whether the value's parts keep their types, from the place on that these components have
abbrev pub parts_keep : Bool → ℕ → Components → AbstractValue → Bool
parts_keep of_choice i no_components v = true
parts_keep of_choice i (component name t presence cs) v =
    if_there (keeps t) (part_of of_choice i v) && parts_keep of_choice (suc i) cs v

-- ---- elements

abbrev pub listed : Items → List AbstractValue
listed value.no_items = []
listed (value.item v vs) = v ∷ listed vs

abbrev pub elements_in : AbstractValue → List AbstractValue
elements_in (value.items vs) = listed vs
elements_in _ = []

abbrev pub elements_of : List AbstractValue → List AbstractValue
elements_of [] = []
elements_of (v ∷ vs) = elements_in v ++ elements_of vs

-- ---- types that constrain nothing

abbrev pub are_none : Constraints → Bool
are_none no_constraints = true
are_none (constraint c cs) = false

abbrev mutual
  pub is_free : AbstractType → Bool
  is_free (type_of tags kind cons) = are_none cons && has_free_parts kind

  pub has_free_parts : AbstractKind → Bool
  has_free_parts type.boolean = true
  has_free_parts (type.integer names) = true
  has_free_parts (type.bit_string names) = true
  has_free_parts type.octet_string = true
  has_free_parts type.null = true
  has_free_parts type.object_identifier = true
  has_free_parts (type.enumerated items) = true
  has_free_parts (type.characters k) = true
  has_free_parts (type.sequence cs) = are_free cs
  has_free_parts (type.set cs) = are_free cs
  has_free_parts (type.choice cs) = are_free cs
  has_free_parts (type.sequence_of t) = is_free t
  has_free_parts (type.set_of t) = is_free t

  pub are_free : Components → Bool
  are_free no_components = true
  are_free (component name t presence cs) = is_free t && are_free cs
