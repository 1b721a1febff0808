-- The first constraint that a value fails: its site, and the path to the part that fails it.
use Rattle.std.specs.Prelude.{◌≡◌, ℕ, zero, suc, Bool, true, false, not, ◌&&◌, List, [], ◌∷◌, Option, Some, None, ◌↔◌, IsTrue}
use Rattle.guard_model.specs.declared.site.Site.{Site}
use Rattle.guard_model.specs.declared.site.Step.{Step}
use Rattle.guard_model.specs.declared.site.Step.TheVariants.{Component, Element}
use Rattle.guard_model.specs.declared.ty.Word.{Word}
use Rattle.guard_model.specs.AbstractType as type
use Rattle.guard_model.specs.AbstractType.{AbstractType, AbstractKind, Components, Constraint, Constraints, Parts, type_of, no_components, component, at, no_constraints, constraint}
use Rattle.guard_model.specs.AbstractValue as value
use Rattle.guard_model.specs.AbstractValue.{AbstractValue, Fields, Items}
use Rattle.guard_model.specs.Components.{components_in, component_at}
use Rattle.guard_model.specs.Same.{same}
use Rattle.guard_model.specs.TypeView.{OneComponent}
use Rattle.guard_der.specs.Fits.{fits}
use Rattle.guard_der.specs.ProperConstraints.{takes_size}
use Rattle.guard_eval.specs.declared.violation.Violation.{Violation}
use Rattle.guard_eval.specs.Elements.{has_base, is_between, has_size, is_spelled_in}
use Rattle.guard_eval.specs.Presence.{element_kind, kind_at, has_parts, part_at, is_there, is_placed, first_intruder}
use Rattle.guard_eval.specs.Member.{is_member, holds, some_hold}
use Rattle.std.specs.Option.{option_or}

pub record AbstractViolation : Type 0 where
  pub site : Site
  pub path : List Step

abbrev pub violation_view : Violation → AbstractViolation
violation_view w = record { site = w.site; path = w.path.items }

-- a rule's number and what the value violates there
abbrev pub shortfall_view : ℕ × Violation → ℕ × AbstractViolation
shortfall_view r = (r.0, violation_view r.1)

-- with the path from the value that has this one in it
abbrev pub below : Step → Option AbstractViolation → Option AbstractViolation
below step None = None
below step (Some w) = Some (record { site = w.site; path = step ∷ w.path })

-- the value itself violates the constraint at this site
abbrev pub here : Site → Option AbstractViolation
here site = Some (record { site = site; path = [] })

-- blamed where it doesn't hold
abbrev pub unless : Bool → Site → Option AbstractViolation
unless true site = None
unless false site = here site

-- the first of what is found in the elements, the first of which is element i
abbrev pub first_among : (AbstractValue → Option AbstractViolation) → ℕ → Items → Option AbstractViolation
first_among find i value.no_items = None
first_among find i (value.item v vs) = option_or (below (Element i) (find v)) (first_among find (suc i) vs)

-- in the elements of a list; on other values WITH COMPONENT is blamed itself
abbrev pub blame_in_items : (AbstractValue → Option AbstractViolation) → Site → AbstractValue → Option AbstractViolation
blame_in_items find site (value.items vs) = first_among find 0 vs
blame_in_items find site _ = here site

-- The name of a part whose presence isn't as said. Of a component that the type doesn't have there is no path.
abbrev pub misplaced : Bool → Site → ℕ → Option OneComponent → Option Word → Bool → Option AbstractViolation
misplaced partial site i None word there = here site
misplaced partial site i (Some c) word there = below (Component i) (unless (is_placed partial (Some c) word there) site)

-- in the value of the part at this place, if it is there
abbrev pub blame_in_part :
    (AbstractValue → Option AbstractViolation) → ℕ → Option AbstractValue → Option AbstractViolation
blame_in_part find i None = None
blame_in_part find i (Some v) = below (Component i) (find v)

-- a part that should be absent, since a full list doesn't name it
abbrev pub blame_intruder : Site → Option ℕ → Option AbstractViolation
blame_intruder site None = None
blame_intruder site (Some i) = below (Component i) (here site)

abbrev mutual
  -- the constraints of the type itself, then those of its components in written order, of the chosen alternative, or of
  -- its elements in turn
  pub violation : AbstractType → AbstractValue → Option AbstractViolation
  violation (type_of tags kind cons) v = option_or (first_failing cons kind v) (violation_inside kind v)

  pub violation_inside : AbstractKind → AbstractValue → Option AbstractViolation
  violation_inside (type.sequence cs) (value.fields fs) = violation_from 0 cs fs
  violation_inside (type.set cs) (value.fields fs) = violation_from 0 cs fs
  violation_inside (type.choice cs) (value.chosen i v) = below (Component i) (violation_of_chosen cs i v)
  violation_inside (type.sequence_of t) (value.items vs) = first_among (violation t) 0 vs
  violation_inside (type.set_of t) (value.items vs) = first_among (violation t) 0 vs
  violation_inside _ v = None

  -- from component i on
  pub violation_from : ℕ → Components → Fields → Option AbstractViolation
  violation_from i (component name t presence cs) (value.present v fs) =
      option_or (below (Component i) (violation t v)) (violation_from (suc i) cs fs)
  violation_from i (component name t presence cs) (value.absent fs) = violation_from (suc i) cs fs
  violation_from i _ _ = None

  -- in the value of the alternative at this place
  pub violation_of_chosen : Components → ℕ → AbstractValue → Option AbstractViolation
  violation_of_chosen no_components i v = None
  violation_of_chosen (component name t presence cs) zero v = violation t v
  violation_of_chosen (component name t presence cs) (suc i) v = violation_of_chosen cs i v

  pub first_failing : Constraints → AbstractKind → AbstractValue → Option AbstractViolation
  first_failing no_constraints kind v = None
  first_failing (constraint c cs) kind v = option_or (blame c kind v) (first_failing cs kind v)

  -- Most elements are blamed themselves. An intersection blames its first failing part, EXCEPT its left side where that
  -- fails and otherwise itself, WITH COMPONENT what fails in the first failing element.
  pub blame : Constraint → AbstractKind → AbstractValue → Option AbstractViolation
  blame (at site (type.single_value w)) kind v = unless (same w v) site
  blame (at site (type.contained_subtype t)) kind v = unless (has_base kind t && is_member t v) site
  blame (at site (type.range low high)) kind v = unless (is_between low high v) site
  blame (at site (type.size c)) kind v = unless (takes_size kind && has_size (holds c (type.integer [])) v) site
  blame (at site (type.permitted_alphabet ranges)) kind v = unless (is_spelled_in ranges v) site
  blame (at site (type.with_component c)) kind v = blame_in_items (blame c (element_kind kind)) site v
  -- the first failing name in written order, then the first part that should be absent
  blame (at site (type.with_components partial ps)) kind v =
      option_or (unless (has_parts v) site)
      (option_or (first_failing_part ps partial kind v) (blame_intruder site (first_intruder partial kind ps v)))
  blame (at site (type.union cs)) kind v = unless (some_hold cs kind v) site
  blame (at site (type.intersection cs)) kind v = first_failing cs kind v
  blame (at site (type.except c d)) kind v = option_or (blame c kind v) (unless (not (holds d kind v)) site)
  blame (at site (type.all_except c)) kind v = unless (not (holds c kind v)) site

  -- of each part its presence, then its constraint
  pub first_failing_part : Parts → Bool → AbstractKind → AbstractValue → Option AbstractViolation
  first_failing_part type.no_parts partial kind v = None
  first_failing_part (type.part site i word ps) partial kind v =
      option_or
      (misplaced partial site i (component_at i (components_in kind)) word (is_there i v))
      (first_failing_part ps partial kind v)
  first_failing_part (type.part_within site i c word ps) partial kind v =
      option_or
      (option_or
      (misplaced partial site i (component_at i (components_in kind)) word (is_there i v))
      (blame_in_part (blame c (kind_at i kind)) i (part_at i v)))
      (first_failing_part ps partial kind v)

-- a value that fits violates nothing exactly where it is a member
abbrev pub MembersViolateNothing : Type 0
MembersViolateNothing =
    (t : AbstractType) (v : AbstractValue) → IsTrue (fits t v) → (violation t v ≡ None) ↔ IsTrue (is_member t v)
