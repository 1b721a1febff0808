-- Worked examples, computed from the definitions.
use Rattle.std.specs.Prelude.{◌≡◌, ℕ, zero, suc, pos, true, false, List, [], ◌∷◌, None, Some, refl, codes, replicate}
use Rattle.guard_model.specs.declared.site.Site.{Site}
use Rattle.guard_model.specs.declared.tag.Class.TheVariants.{Universal, Context}
use Rattle.guard_model.specs.declared.tag.Tag.{Tag}
use Rattle.guard_model.specs.declared.ty.Limit.TheVariants.{At}
use Rattle.guard_model.specs.declared.ty.Word.TheVariants.{Present}
use Rattle.guard_model.specs.AbstractType as type
use Rattle.guard_model.specs.AbstractType.{AbstractType, Constraint, Constraints, Element, type_of, no_components, component, at, no_constraints, constraint}
use Rattle.guard_model.specs.AbstractValue as value
use Rattle.guard_tables.specs.declared.fault.TableFault.TheVariants.{RuleTypeMismatch, TooManyConditions, TooManyRules}
use Rattle.guard_tables.specs.Conditions.{conditions}
use Rattle.guard_tables.specs.Nodes.{ways}
use Rattle.guard_tables.specs.Plan.{Body, Parts, plan, simple, choice, no_parts, part}
use Rattle.guard_tables.specs.TableNodes.{ascend, blank}
use Rattle.guard_tables.specs.Tables.{first_fault}

abbrev pub universal : ℕ → Tag
universal n = record { class = Universal; number = n }

abbrev pub context : ℕ → Tag
context n = record { class = Context; number = n }

abbrev pub site : Site
site = record { text = 1; line = 1; column = 1 }

abbrev pub one : Element → Constraint
one element = at site element

abbrev pub only : Element → Constraints
only element = constraint (one element) no_constraints

abbrev pub boolean : AbstractType
boolean = type_of (universal 1 ∷ []) type.boolean no_constraints

-- INTEGER with these constraints
abbrev pub integer : Constraints → AbstractType
integer cons = type_of (universal 2 ∷ []) (type.integer []) cons

-- so many single values
abbrev pub numbers : ℕ → Constraints
numbers zero = no_constraints
numbers (suc n) = constraint (one (type.single_value (value.integer (pos n)))) (numbers n)

abbrev pub up_to : ℕ → Element
up_to n = type.range (At (pos 0)) (At (pos n))

-- ---- parts that ascend by their outermost tags: by class, then by number (X.680 8.6)

abbrev pub with_part : List Tag → Body → Parts → Parts
with_part tags body ps = part blank.side (plan tags false body) ps

abbrev pub null : Body
null = simple type.null []

pub universal_before_context :
    ascend None (with_part (universal 5 ∷ []) null (with_part (context 0 ∷ []) null (with_part (context 1 ∷ universal 5 ∷ []) null no_parts)))
    ≡ true
universal_before_context = refl

pub one_descends : ascend None (with_part (context 1 ∷ []) null (with_part (context 0 ∷ []) null no_parts)) ≡ false
one_descends = refl

pub an_untagged_choice : ascend None (with_part (universal 5 ∷ []) null (with_part [] (choice no_parts) no_parts)) ≡ false
an_untagged_choice = refl

-- ---- how many rules

pub as_many_rules_as_may_be : first_fault boolean (replicate 255 boolean) ≡ None
as_many_rules_as_may_be = refl

pub one_rule_more : first_fault boolean (replicate 256 boolean) ≡ Some TooManyRules
one_rule_more = refl

pub too_many_come_first : first_fault boolean (replicate 256 (integer no_constraints)) ≡ Some TooManyRules
too_many_come_first = refl

-- ---- conditions of one node: both types, the union, and its values

pub as_many_conditions_as_may_be : first_fault (integer no_constraints) (integer (only (type.union (numbers 253))) ∷ [])
    ≡ None
as_many_conditions_as_may_be = refl

pub one_condition_more : first_fault (integer no_constraints) (integer (only (type.union (numbers 254))) ∷ [])
    ≡ Some TooManyConditions
one_condition_more = refl

-- ---- a rule's type

abbrev pub tagged : AbstractType
tagged = type_of (context 0 ∷ universal 2 ∷ []) (type.integer []) no_constraints

pub other_tags : first_fault (integer no_constraints) (integer (only (up_to 9)) ∷ tagged ∷ [])
    ≡ Some (RuleTypeMismatch 1)
other_tags = refl

pub other_base : first_fault (integer no_constraints) (boolean ∷ tagged ∷ []) ≡ Some (RuleTypeMismatch 0)
other_base = refl

pub mismatches_come_before_conditions :
    first_fault (integer no_constraints) (integer (only (type.union (numbers 254))) ∷ boolean ∷ [])
    ≡ Some (RuleTypeMismatch 1)
mismatches_come_before_conditions = refl

-- ---- what is counted where

-- SEQUENCE (SIZE (0..2)) OF INTEGER (0..5)
abbrev pub list : AbstractType
list = type_of (universal 16 ∷ []) (type.sequence_of (integer (only (up_to 5)))) (only (type.size (one (up_to 2))))

-- SEQUENCE { first INTEGER (0..5), rest SEQUENCE (SIZE (0..2)) OF INTEGER (0..5) } with these constraints after it
abbrev pub pair : Constraints → AbstractType
pair cons = type_of (universal 16 ∷ []) (type.sequence
    (component (codes "first") (integer (only (up_to 5))) type.mandatory
    (component (codes "rest") list type.mandatory no_components))) cons

pub nodes_of_a_pair : ways (pair no_constraints) ≡ [] ∷ (0 ∷ []) ∷ (1 ∷ []) ∷ (1 ∷ 0 ∷ []) ∷ []
nodes_of_a_pair = refl

-- the type and SIZE, and not what is inside SIZE
pub at_a_list : conditions (list ∷ []) [] ≡ 2
at_a_list = refl

-- the type whose part the element is, and the range
pub at_its_element : conditions (list ∷ []) (0 ∷ []) ≡ 2
at_its_element = refl

-- (WITH COMPONENTS {..., first (0..3) PRESENT, rest (WITH COMPONENT (0..3))})
abbrev pub inner : Element
inner = type.with_components true
    (type.part_within site 0 (one (up_to 3)) (Some Present)
    (type.part_within site 1 (one (type.with_component (one (up_to 3)))) None type.no_parts))

pub at_a_constrained_pair : conditions (pair (only inner) ∷ []) [] ≡ 2
at_a_constrained_pair = refl

pub at_its_first_part : conditions (pair (only inner) ∷ []) (0 ∷ []) ≡ 3
at_its_first_part = refl

pub at_its_list : conditions (pair (only inner) ∷ []) (1 ∷ []) ≡ 3
at_its_list = refl

pub at_an_element_of_its_list : conditions (pair (only inner) ∷ []) (1 ∷ 0 ∷ []) ≡ 3
at_an_element_of_its_list = refl

-- A contained subtype is one more type whose parts the nodes are, with all that it asks itself:
-- two types and the constraint that contains one, then both types' ranges and what is asked of the first part.
pub at_a_contained_subtype : conditions (pair (only (type.contained_subtype (pair (only inner)))) ∷ []) [] ≡ 4
at_a_contained_subtype = refl

pub at_a_part_of_a_contained_subtype :
    conditions (pair (only (type.contained_subtype (pair (only inner)))) ∷ []) (0 ∷ []) ≡ 5
at_a_part_of_a_contained_subtype = refl

-- a contained subtype inside WITH COMPONENTS: (WITH COMPONENTS {..., rest (List)})
pub at_a_subtype_contained_in_a_part :
    conditions (pair
    (only (type.with_components true (type.part_within site 1 (one (type.contained_subtype list)) None type.no_parts)))
    ∷ [])
    (1 ∷ 0 ∷ [])
    ≡ 4
at_a_subtype_contained_in_a_part = refl
