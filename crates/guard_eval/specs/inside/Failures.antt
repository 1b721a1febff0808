-- What the code computes: the first violation in one walk. Elements that are blamed themselves are tested by the same
-- walk, contained types are not asked whether the value fits, and paths have the bounds of the code's numbers.
use Rattle.std.specs.Prelude.{ℕ, zero, suc, Bool, false, List, ◌∷◌, take, Option, Some, None, option_map, ◌||◌, min}
use Rattle.std.specs.Option.{option_or, is_none, is_some}
use Rattle.guard_model.specs.declared.site.Site.{Site}
use Rattle.guard_model.specs.declared.site.Step.{Step}
use Rattle.guard_model.specs.declared.site.Step.TheVariants.{Component, Element}
use Rattle.guard_model.specs.declared.ty.Word.{Word}
use Rattle.guard_model.specs.AbstractType as type
use Rattle.guard_model.specs.AbstractType.{AbstractType, AbstractKind, Components, Constraint, Constraints, Parts, type_of, no_components, component, at, no_constraints, constraint}
use Rattle.guard_model.specs.AbstractValue as value
use Rattle.guard_model.specs.AbstractValue.{AbstractValue, Fields, Items}
use Rattle.guard_model.specs.Components.{components_in, component_at}
use Rattle.guard_model.specs.Same.{same}
use Rattle.guard_model.specs.TypeView.{OneComponent, OnePart}
use Rattle.guard_eval.specs.Elements.{is_between, has_size, is_spelled_in}
use Rattle.guard_eval.specs.Presence.{element_kind, kind_at, has_parts, part_at, is_there, is_placed, first_intruder}
use Rattle.guard_eval.specs.Violations.{AbstractViolation, here, unless}

-- what was found, with the path to it, which is kept apart
abbrev pub found_by : List Step → Option Site → Option AbstractViolation
found_by steps found = option_map (λ site. record { site = site; path = steps }) found

-- places as far as the code's steps count
abbrev pub near : Step → Step
near (Component i) = Component (min i 255)
near (Element i) = Element (min i 4294967295)

abbrev pub under : Step → Option AbstractViolation → Option AbstractViolation
under step None = None
under step (Some w) = Some (record { site = w.site; path = near step ∷ take 31 w.path })

abbrev pub failure_among : (AbstractValue → Option AbstractViolation) → ℕ → Items → Option AbstractViolation
failure_among find i value.no_items = None
failure_among find i (value.item v vs) = option_or (under (Element i) (find v)) (failure_among find (suc i) vs)

abbrev pub failure_in_items :
    (AbstractValue → Option AbstractViolation) → Site → AbstractValue → Option AbstractViolation
failure_in_items find site (value.items vs) = failure_among find 0 vs
failure_in_items find site _ = here site

abbrev pub placing_failure : Bool → Site → ℕ → Option OneComponent → Option Word → Bool → Option AbstractViolation
placing_failure partial site i None word there = here site
placing_failure partial site i (Some c) word there =
    under (Component i) (unless (is_placed partial (Some c) word there) site)

abbrev pub failure_in_part :
    (AbstractValue → Option AbstractViolation) → ℕ → Option AbstractValue → Option AbstractViolation
failure_in_part find i None = None
failure_in_part find i (Some v) = under (Component i) (find v)

abbrev pub intruder_failure : Site → Option ℕ → Option AbstractViolation
intruder_failure site None = None
intruder_failure site (Some i) = under (Component i) (here site)

abbrev mutual
  pub failure : AbstractType → AbstractValue → Option AbstractViolation
  failure (type_of tags kind cons) v = option_or (first_failure cons kind v) (failure_inside kind v)

  pub failure_inside : AbstractKind → AbstractValue → Option AbstractViolation
  failure_inside (type.sequence cs) (value.fields fs) = failure_from 0 cs fs
  failure_inside (type.set cs) (value.fields fs) = failure_from 0 cs fs
  failure_inside (type.choice cs) (value.chosen i v) = under (Component i) (failure_of_chosen cs i v)
  failure_inside (type.sequence_of t) (value.items vs) = failure_among (failure t) 0 vs
  failure_inside (type.set_of t) (value.items vs) = failure_among (failure t) 0 vs
  failure_inside _ v = None

  pub failure_from : ℕ → Components → Fields → Option AbstractViolation
  failure_from i (component name t presence cs) (value.present v fs) =
      option_or (under (Component i) (failure t v)) (failure_from (suc i) cs fs)
  failure_from i (component name t presence cs) (value.absent fs) = failure_from (suc i) cs fs
  failure_from i _ _ = None

  pub failure_of_chosen : Components → ℕ → AbstractValue → Option AbstractViolation
  failure_of_chosen no_components i v = None
  failure_of_chosen (component name t presence cs) zero v = failure t v
  failure_of_chosen (component name t presence cs) (suc i) v = failure_of_chosen cs i v

  pub first_failure : Constraints → AbstractKind → AbstractValue → Option AbstractViolation
  first_failure no_constraints kind v = None
  first_failure (constraint c cs) kind v = option_or (failure_by c kind v) (first_failure cs kind v)

  pub some_allows : Constraints → AbstractKind → AbstractValue → Bool
  some_allows no_constraints kind v = false
  some_allows (constraint c cs) kind v = is_none (failure_by c kind v) || some_allows cs kind v

  pub failure_by : Constraint → AbstractKind → AbstractValue → Option AbstractViolation
  failure_by (at site (type.single_value w)) kind v = unless (same w v) site
  failure_by (at site (type.contained_subtype t)) kind v = unless (is_none (failure t v)) site
  failure_by (at site (type.range low high)) kind v = unless (is_between low high v) site
  failure_by (at site (type.size c)) kind v = unless (has_size (λ n. is_none (failure_by c kind n)) v) site
  failure_by (at site (type.permitted_alphabet ranges)) kind v = unless (is_spelled_in ranges v) site
  failure_by (at site (type.with_component c)) kind v = failure_in_items (failure_by c (element_kind kind)) site v
  failure_by (at site (type.with_components partial ps)) kind v =
      option_or (unless (has_parts v) site)
      (option_or (first_part_failure ps partial kind v) (intruder_failure site (first_intruder partial kind ps v)))
  failure_by (at site (type.union cs)) kind v = unless (some_allows cs kind v) site
  failure_by (at site (type.intersection cs)) kind v = first_failure cs kind v
  failure_by (at site (type.except c d)) kind v =
      option_or (failure_by c kind v) (unless (is_some (failure_by d kind v)) site)
  failure_by (at site (type.all_except c)) kind v = unless (is_some (failure_by c kind v)) site

  pub first_part_failure : Parts → Bool → AbstractKind → AbstractValue → Option AbstractViolation
  first_part_failure type.no_parts partial kind v = None
  first_part_failure (type.part site i word ps) partial kind v =
      option_or
      (placing_failure partial site i (component_at i (components_in kind)) word (is_there i v))
      (first_part_failure ps partial kind v)
  first_part_failure (type.part_within site i c word ps) partial kind v =
      option_or
      (option_or
      (placing_failure partial site i (component_at i (components_in kind)) word (is_there i v))
      (failure_in_part (failure_by c (kind_at i kind)) i (part_at i v)))
      (first_part_failure ps partial kind v)

-- of one part: its presence, then its constraint
abbrev pub failure_within : OnePart → AbstractKind → AbstractValue → Option AbstractViolation
failure_within p kind v = elim p.within [
  | None ↦ None
  | Some c ↦ failure_in_part (failure_by c (kind_at p.place kind)) p.place (part_at p.place v)
]

abbrev pub part_failure : OnePart → Bool → AbstractKind → AbstractValue → Option AbstractViolation
part_failure p partial kind v =
    option_or
    (placing_failure partial p.site p.place (component_at p.place (components_in kind)) p.word (is_there p.place v))
    (failure_within p kind v)
