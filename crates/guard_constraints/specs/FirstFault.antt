-- Which fault of a constraint tree is named: that of the first check that fails. An element is checked before what
-- is inside it, and what is written first before the rest.
use Rattle.std.specs.Prelude.{◌≡◌, List, [], ◌∷◌, ◌++◌, Option, Some, None, ◌⊎◌}
use Rattle.std.specs.Option.{option_map}
use Rattle.guard_model.specs.declared.site.Site.{Site}
use Rattle.guard_model.specs.AbstractType.{AbstractType, AbstractKind}
use Rattle.guard_model.specs.Kinds.{kind_of, type_of_size, element_of}
use Rattle.guard_syntax.specs.Trees as written
use Rattle.guard_syntax.specs.Trees.{WrittenValue, WrittenEnd, WrittenSet, WrittenSetForm, WrittenUnited, WrittenIntersection, WrittenMet, WrittenDifference, WrittenElement, WrittenElementForm, WrittenConstraint, WrittenParts, set_node, all_except, union, none_united, united, intersection, none_met, met, element_alone, element_except, element_node, constraint, no_parts, part, part_in}
use Rattle.guard_values.specs.declared.fault.ValueFault.{ValueFault}
use Rattle.guard_values.specs.FirstFault.{IsFirstFault}
use Rattle.guard_values.specs.Meanings.{Meaning}
use Rattle.guard_values.specs.Places.{Located}
use Rattle.guard_constraints.specs.declared.fault.ConsFault.{ConsFault}
use Rattle.guard_constraints.specs.declared.fault.ConsFault.TheVariants as fault
use Rattle.guard_constraints.specs.Visible.{Visible}
use Rattle.guard_constraints.specs.RangeEnds.{value_of_end}
use Rattle.guard_constraints.specs.PermittedAlphabets.{items_of}
use Rattle.guard_constraints.specs.ListedParts.{named_in}
use Rattle.guard_constraints.specs.Faults.{own_fault, items_fault, named_bits_fault}

-- ---- checks

pub data Check : Type 0 where
  -- of an element: its fault, where it has one
  element_has : Option ConsFault → Check
  -- of a value that is written there, under its type
  value_under : AbstractType → WrittenValue → Check

-- the written value denotes nothing, and this is the fault that is named of it
abbrev pub HasFault : Meaning → AbstractType → WrittenValue → Type 0
HasFault m t tree = (g : ValueFault) × IsFirstFault m t tree g

-- the fault of the first check that fails; C9 says which one the value has
abbrev pub IsOfFirst : Meaning → List Check → ConsFault → Type 0
IsOfFirst m [] f = ⊥
IsOfFirst m (element_has None ∷ rest) f = IsOfFirst m rest f
IsOfFirst m (element_has (Some g) ∷ rest) f = f ≡ g
IsOfFirst m (value_under t tree ∷ rest) f =
    ((g : ValueFault) × IsFirstFault m t tree g × (f ≡ fault.Value g)) ⊎ ((HasFault m t tree → ⊥) × IsOfFirst m rest f)

-- ---- what is checked, in turn

-- MIN and MAX are no values
abbrev pub end_checks : AbstractType → Option WrittenEnd → List Check
end_checks t None = []
end_checks t (Some e) = value_under t (value_of_end e) ∷ []

-- of what is on the type that is there
abbrev pub checks_on : (AbstractType → List Check) → Option AbstractType → List Check
checks_on found None = []
checks_on found (Some u) = found u

abbrev pub type_there : Option Located → Option AbstractType
type_there found = option_map (λ p. p.ty) found

abbrev mutual
  pub checks : Visible → AbstractType → WrittenConstraint → List Check
  checks names t (constraint site set) = set_checks names t set

  pub set_checks : Visible → AbstractType → WrittenSet → List Check
  set_checks names t (set_node site form) = set_form_checks names t form

  pub set_form_checks : Visible → AbstractType → WrittenSetForm → List Check
  set_form_checks names t (all_except e) = element_checks names t e
  set_form_checks names t (union first others) = intersection_checks names t first ++ united_checks names t others

  pub united_checks : Visible → AbstractType → WrittenUnited → List Check
  united_checks names t none_united = []
  united_checks names t (united mark one others) = intersection_checks names t one ++ united_checks names t others

  pub intersection_checks : Visible → AbstractType → WrittenIntersection → List Check
  intersection_checks names t (intersection site first others) =
      difference_checks names t first ++ met_checks names t others

  pub met_checks : Visible → AbstractType → WrittenMet → List Check
  met_checks names t none_met = []
  met_checks names t (met mark one others) = difference_checks names t one ++ met_checks names t others

  pub difference_checks : Visible → AbstractType → WrittenDifference → List Check
  difference_checks names t (element_alone site e) = element_checks names t e
  difference_checks names t (element_except site e f) = element_checks names t e ++ element_checks names t f

  pub element_checks : Visible → AbstractType → WrittenElement → List Check
  element_checks names t (element_node site form) =
      element_has (own_fault names t site form) ∷ checks_inside names t site form

  -- what is inside an element that has no fault of its own
  pub checks_inside : Visible → AbstractType → Site → WrittenElementForm → List Check
  checks_inside names t site (written.parentheses set) = set_checks names t set
  checks_inside names t site (written.value tree) = value_under t tree ∷ []
  checks_inside names t site (written.contained includes name_site name) = []
  checks_inside names t site (written.range r) = end_checks t r.low ++ end_checks t r.high
  -- that named bits have no SIZE is looked at after all that is inside it
  checks_inside names t site (written.size inner) =
      checks names type_of_size inner ++ element_has (named_bits_fault (kind_of t) site) ∷ []
  checks_inside names t site (written.from (constraint inner set)) =
      element_has (items_fault (kind_of t) (items_of set)) ∷ []
  checks_inside names t site (written.with_component inner) =
      checks_on (λ u. checks names u inner) (element_of (kind_of t))
  checks_inside names t site (written.with_components partial ps) = part_checks names (kind_of t) ps

  -- the constraints of the parts in written order
  pub part_checks : Visible → AbstractKind → WrittenParts → List Check
  part_checks names kind no_parts = []
  part_checks names kind (part site name presence others) = part_checks names kind others
  part_checks names kind (part_in site name inner presence others) =
      checks_on (λ u. checks names u inner) (type_there (named_in kind name)) ++ part_checks names kind others

-- ---- the fault that is named

abbrev pub IsFirstConstraintFault : Visible → AbstractType → WrittenConstraint → ConsFault → Type 0
IsFirstConstraintFault names t tree f = IsOfFirst names.values (checks names t tree) f
