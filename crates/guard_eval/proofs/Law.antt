-- A value that fits a type violates no constraint exactly where it is a member.
use Rattle.std.proofs.Common.{◌≡◌, refl, sym, ◌∙◌, ap, ℕ, zero, suc, Bool, true, false, ◌&&◌, IsTrue, Option, Some, None}
use Rattle.std.specs.Option.{option_or, is_none}
use Rattle.std.proofs.lemmas.Bool.{and_parts}
use Rattle.guard_model.specs.declared.site.Site.{Site}
use Rattle.guard_model.specs.declared.site.Step.{Step}
use Rattle.guard_model.specs.declared.site.Step.TheVariants.{Component, Element}
use Rattle.guard_model.specs.declared.ty.Word.{Word}
use Rattle.guard_model.specs.AbstractType as type
use Rattle.guard_model.specs.AbstractType.{AbstractType, AbstractKind, Components, Constraint, Constraints, Parts, type_of, no_components, component, at, no_constraints, constraint}
use Rattle.guard_model.specs.AbstractValue as value
use Rattle.guard_model.specs.AbstractValue.{AbstractValue, Fields, Items}
use Rattle.guard_model.specs.Components.{components_in, component_at}
use Rattle.guard_model.specs.TypeView.{OneComponent}
use Rattle.guard_der.specs.Fits.{fits, fits_kind, fits_fields, fits_alternative, every_fits, are_few, fits_items, may_be_absent}
use Rattle.guard_eval.specs.Elements.{every_item, has_each}
use Rattle.guard_eval.specs.Presence.{element_kind, kind_at, has_parts, part_at, is_there, if_there, is_placed, first_intruder}
use Rattle.guard_eval.specs.Member.{holds, all_hold, parts_hold, is_member, parts_are_members, fields_are_members, chosen_is_member}
use Rattle.guard_eval.specs.Violations.{AbstractViolation, below, unless, first_among, blame_in_items, misplaced, blame_in_part, blame_intruder, violation, violation_inside, violation_from, violation_of_chosen, first_failing, blame, first_failing_part, MembersViolateNothing}

-- the test is true exactly where nothing is found
abbrev pub is_clear : Option AbstractViolation → Bool
is_clear w = is_none w

pub clear_either : (v w : Option AbstractViolation) → is_clear (option_or v w) ≡ (is_clear v && is_clear w)
clear_either None w = refl
clear_either (Some v) w = refl

clear_below : (step : Step) (w : Option AbstractViolation) → is_clear (below step w) ≡ is_clear w
clear_below step None = refl
clear_below step (Some w) = refl

pub clear_unless : (b : Bool) (site : Site) → is_clear (unless b site) ≡ b
clear_unless true site = refl
clear_unless false site = refl

and_both : {a b c d : Bool} → a ≡ c → b ≡ d → (a && b) ≡ (c && d)
and_both e f = cc

and_three : (a b c : Bool) → (a && (b && c)) ≡ ((a && b) && c)
and_three true b c = refl
and_three false b c = refl

either : {a b : Bool} (v w : Option AbstractViolation) → is_clear v ≡ a → is_clear w ≡ b → is_clear (option_or v w) ≡ (a && b)
either v w e f = clear_either v w ∙ and_both e f

-- ---- constraints

items_clear : (find : AbstractValue → Option AbstractViolation) (test : AbstractValue → Bool) → ((v : AbstractValue) → is_clear (find v) ≡ test v)
    → (i : ℕ) (vs : Items) → is_clear (first_among find i vs) ≡ every_item test vs
items_clear find test agree i value.no_items = refl
items_clear find test agree i (value.item v vs) =
    either (below (Element i) (find v)) (first_among find (suc i) vs) (clear_below (Element i) (find v) ∙ agree v) (items_clear find test agree (suc i) vs)

each_clear : (find : AbstractValue → Option AbstractViolation) (test : AbstractValue → Bool) → ((v : AbstractValue) → is_clear (find v) ≡ test v)
    → (site : Site) (v : AbstractValue) → is_clear (blame_in_items find site v) ≡ has_each test v
each_clear find test agree site (value.items vs) = items_clear find test agree 0 vs
each_clear find test agree site _ = refl

misplaced_clear : (partial : Bool) (site : Site) (i : ℕ) (found : Option OneComponent) (word : Option Word) (there : Bool)
    → is_clear (misplaced partial site i found word there) ≡ is_placed partial found word there
misplaced_clear partial site i None word there = refl
misplaced_clear partial site i (Some c) word there =
    clear_below (Component i) (unless (is_placed partial (Some c) word there) site) ∙ clear_unless (is_placed partial (Some c) word there) site

part_clear : (find : AbstractValue → Option AbstractViolation) (test : AbstractValue → Bool) → ((v : AbstractValue) → is_clear (find v) ≡ test v)
    → (i : ℕ) (part : Option AbstractValue) → is_clear (blame_in_part find i part) ≡ if_there test part
part_clear find test agree i None = refl
part_clear find test agree i (Some v) = clear_below (Component i) (find v) ∙ agree v

intruder_clear : (site : Site) (i : Option ℕ) → is_clear (blame_intruder site i) ≡ is_none i
intruder_clear site None = refl
intruder_clear site (Some i) = refl

mutual
  pub constraints_clear : (cs : Constraints) (kind : AbstractKind) (v : AbstractValue) → is_clear (first_failing cs kind v) ≡ all_hold cs kind v
  constraints_clear no_constraints kind v = refl
  constraints_clear (constraint c cs) kind v = either (blame c kind v) (first_failing cs kind v) (constraint_clear c kind v) (constraints_clear cs kind v)

  pub constraint_clear : (c : Constraint) (kind : AbstractKind) (v : AbstractValue) → is_clear (blame c kind v) ≡ holds c kind v
  constraint_clear (at site (type.with_component c)) kind v =
      each_clear (blame c (element_kind kind)) (holds c (element_kind kind)) (λ w. constraint_clear c (element_kind kind) w) site v
  constraint_clear (at site (type.with_components partial ps)) kind v =
      either (unless (has_parts v) site) _ (clear_unless (has_parts v) site)
      (either (first_failing_part ps partial kind v) (blame_intruder site (first_intruder partial kind ps v)) (listed_clear ps partial kind v) (intruder_clear site (first_intruder partial kind ps v)))
      ∙ and_three (has_parts v) (parts_hold ps partial kind v) (is_none (first_intruder partial kind ps v))
  constraint_clear (at site (type.intersection cs)) kind v = constraints_clear cs kind v
  constraint_clear (at site (type.except c d)) kind v =
      either (blame c kind v) _ (constraint_clear c kind v) (clear_unless _ site)
  constraint_clear (at site (type.single_value w)) kind v = clear_unless _ site
  constraint_clear (at site (type.contained_subtype t)) kind v = clear_unless _ site
  constraint_clear (at site (type.range low high)) kind v = clear_unless _ site
  constraint_clear (at site (type.size c)) kind v = clear_unless _ site
  constraint_clear (at site (type.permitted_alphabet ranges)) kind v = clear_unless _ site
  constraint_clear (at site (type.union cs)) kind v = clear_unless _ site
  constraint_clear (at site (type.all_except c)) kind v = clear_unless _ site

  listed_clear : (ps : Parts) (partial : Bool) (kind : AbstractKind) (v : AbstractValue) → is_clear (first_failing_part ps partial kind v) ≡ parts_hold ps partial kind v
  listed_clear type.no_parts partial kind v = refl
  listed_clear (type.part site i word ps) partial kind v =
      either (misplaced partial site i (component_at i (components_in kind)) word (is_there i v)) (first_failing_part ps partial kind v)
      (misplaced_clear partial site i (component_at i (components_in kind)) word (is_there i v)) (listed_clear ps partial kind v)
  listed_clear (type.part_within site i c word ps) partial kind v =
      either _ (first_failing_part ps partial kind v)
      (either (misplaced partial site i (component_at i (components_in kind)) word (is_there i v)) (blame_in_part (blame c (kind_at i kind)) i (part_at i v))
      (misplaced_clear partial site i (component_at i (components_in kind)) word (is_there i v))
      (part_clear (blame c (kind_at i kind)) (holds c (kind_at i kind)) (λ w. constraint_clear c (kind_at i kind) w) i (part_at i v)))
      (listed_clear ps partial kind v)

-- ---- types

fitting_items_clear : (find : AbstractValue → Option AbstractViolation) (test fit : AbstractValue → Bool)
    → ((v : AbstractValue) → IsTrue (fit v) → is_clear (find v) ≡ test v)
    → (i : ℕ) (vs : Items) → IsTrue (every_fits fit vs) → is_clear (first_among find i vs) ≡ every_item test vs
fitting_items_clear find test fit agree i value.no_items h = refl
fitting_items_clear find test fit agree i (value.item v vs) h =
    let k = and_parts (fit v) (every_fits fit vs) h in
    either (below (Element i) (find v)) (first_among find (suc i) vs) (clear_below (Element i) (find v) ∙ agree v k.0) (fitting_items_clear find test fit agree (suc i) vs k.1)

-- what a member is besides that it fits
and_fits : (a b c : Bool) → IsTrue a → (b && c) ≡ ((a && b) && c)
and_fits true b c h = refl
and_fits false b c h = absurd cc

mutual
  pub type_clear : (t : AbstractType) (v : AbstractValue) → IsTrue (fits t v) → is_clear (violation t v) ≡ is_member t v
  type_clear (type_of tags kind cons) v h =
      either (first_failing cons kind v) (violation_inside kind v) (constraints_clear cons kind v) (kind_clear kind v h)
      ∙ and_fits (fits_kind kind v) (all_hold cons kind v) (parts_are_members kind v) h

  kind_clear : (kind : AbstractKind) (v : AbstractValue) → IsTrue (fits_kind kind v) → is_clear (violation_inside kind v) ≡ parts_are_members kind v
  kind_clear (type.sequence cs) (value.fields fs) h = components_clear 0 cs fs h
  kind_clear (type.set cs) (value.fields fs) h = components_clear 0 cs fs h
  kind_clear (type.choice cs) (value.chosen i v) h = clear_below (Component i) (violation_of_chosen cs i v) ∙ chosen_clear cs i v h
  kind_clear (type.sequence_of t) (value.items vs) h =
      fitting_items_clear (violation t) (is_member t) (fits t) (λ v k. type_clear t v k) 0 vs (and_parts (are_few vs) (every_fits (fits t) vs) h).1
  kind_clear (type.set_of t) (value.items vs) h =
      fitting_items_clear (violation t) (is_member t) (fits t) (λ v k. type_clear t v k) 0 vs
      (and_parts (are_few vs) (every_fits (fits t) vs) (and_parts (fits_items (fits t) vs) _ h).0).1
  kind_clear type.boolean v h = refl
  kind_clear (type.integer names) v h = refl
  kind_clear (type.bit_string names) v h = refl
  kind_clear type.octet_string v h = refl
  kind_clear type.null v h = refl
  kind_clear type.object_identifier v h = refl
  kind_clear (type.enumerated items) v h = refl
  kind_clear (type.characters k) v h = refl
  kind_clear _ _ h = absurd cc

  components_clear : (i : ℕ) (cs : Components) (fs : Fields) → IsTrue (fits_fields cs fs) → is_clear (violation_from i cs fs) ≡ fields_are_members cs fs
  components_clear i no_components value.no_fields h = refl
  components_clear i (component name t presence cs) (value.absent fs) h =
      components_clear (suc i) cs fs (and_parts (may_be_absent presence) (fits_fields cs fs) h).1
  components_clear i (component name t presence cs) (value.present v fs) h =
      let k = and_parts (fits t v) (fits_fields cs fs) h in
      either (below (Component i) (violation t v)) (violation_from (suc i) cs fs)
      (clear_below (Component i) (violation t v) ∙ type_clear t v k.0) (components_clear (suc i) cs fs k.1)
  components_clear i _ _ h = absurd cc

  chosen_clear : (cs : Components) (i : ℕ) (v : AbstractValue) → IsTrue (fits_alternative cs i v) → is_clear (violation_of_chosen cs i v) ≡ chosen_is_member cs i v
  chosen_clear no_components i v h = absurd cc
  chosen_clear (component name t presence cs) zero v h = type_clear t v h
  chosen_clear (component name t presence cs) (suc i) v h = chosen_clear cs i v h

none_from : (w : Option AbstractViolation) → IsTrue (is_clear w) → w ≡ None
none_from None e = refl
none_from (Some w) e = absurd cc

pub members_violate_nothing : MembersViolateNothing
members_violate_nothing t v h =
    (λ e. sym (type_clear t v h) ∙ ap is_clear e, λ e. none_from (violation t v) (type_clear t v h ∙ e))
