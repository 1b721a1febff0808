-- Why a written constraint denotes nothing: for each fault the condition that stands at its site. `FirstFault` has the
-- order in which they are looked for.
use Rattle.std.specs.Prelude.{◌≡◌, true, false, List, [], ◌∷◌, Option, Some, None, IsTrue, ◌⊎◌}
use Rattle.guard_model.specs.declared.site.Site.{Site}
use Rattle.guard_model.specs.AbstractType.{AbstractType, AbstractKind}
use Rattle.guard_model.specs.Kinds.{kind_of, is_choice, has_named_bits, type_of_size, element_of}
use Rattle.guard_syntax.specs.Trees as written
use Rattle.guard_syntax.specs.Trees.{WrittenEnd, WrittenSet, WrittenSetForm, WrittenUnited, WrittenIntersection, WrittenMet, WrittenDifference, WrittenElement, WrittenElementForm, WrittenConstraint, WrittenParts, set_node, all_except, union, none_united, united, intersection, none_met, met, element_alone, element_except, element_node, constraint, no_parts, part, part_in}
use Rattle.guard_values.specs.declared.fault.ValueFault.{ValueFault}
use Rattle.guard_values.specs.declared.fault.ValueFault.TheVariants as value_fault
use Rattle.guard_values.specs.Meanings.{Meaning}
use Rattle.guard_values.specs.Places.{Located}
use Rattle.guard_values.specs.Conditions.{IsFaultIn}
use Rattle.guard_constraints.specs.declared.fault.ConsFault.{ConsFault}
use Rattle.guard_constraints.specs.declared.fault.ConsFault.TheVariants as fault
use Rattle.guard_constraints.specs.Visible.{Visible, has_base_of}
use Rattle.guard_constraints.specs.Applies.{applies}
use Rattle.guard_constraints.specs.RangeEnds.{value_of_end}
use Rattle.guard_constraints.specs.PermittedAlphabets.{AlphabetItem, items_of, bad_item}
use Rattle.guard_constraints.specs.ListedParts.{PartHead, heads, has_bad_word, named_in, is_present}

-- ---- C1, C2 and C3

-- C1, at the element: it doesn't apply to a type of this kind (clause 51).
abbrev pub IsNotApplicable : Site → AbstractType → Site → WrittenElementForm → Type 0
IsNotApplicable s t site form = (s ≡ site) × (applies (kind_of t) form ≡ false)

-- C2, at the range: `<` is at MIN or at MAX, which this profile hasn't.
abbrev pub IsExclusiveLimit : Site → Site → WrittenElementForm → Type 0
IsExclusiveLimit s site (written.range r) =
    (s ≡ site) × (((r.above_low ≡ true) × (r.low ≡ None)) ⊎ ((r.below_high ≡ true) × (r.high ≡ None)))
IsExclusiveLimit s site _ = ⊥

-- C3, at the word FROM: what is inside isn't a union of strings and of ranges between two characters.
abbrev pub IsAlphabetForm : Site → Site → WrittenElementForm → Type 0
IsAlphabetForm s site (written.from (constraint inner set)) = (s ≡ site) × (items_of set ≡ None)
IsAlphabetForm s site _ = ⊥

-- ---- C4 to C7: parts of WITH COMPONENTS

-- P holds of some part, its constraint aside.
abbrev pub SomePart : (PartHead → Type 0) → List PartHead → Type 0
SomePart P [] = ⊥
SomePart P (h ∷ hs) = P h ⊎ SomePart P hs

-- P holds of some part, and of one that is written after it.
abbrev pub SomePair : (PartHead → PartHead → Type 0) → List PartHead → Type 0
SomePair P [] = ⊥
SomePair P (h ∷ hs) = SomePart (P h) hs ⊎ SomePair P hs

-- C4, at the part's name: over a SEQUENCE or SET a presence word at a component that isn't OPTIONAL, over a CHOICE the
-- word OPTIONAL (51.8.9).
abbrev pub IsPresenceWord : Site → AbstractType → WrittenElementForm → Type 0
IsPresenceWord s t (written.with_components partial ps) =
    SomePart (λ h. (s ≡ h.site) × IsTrue (has_bad_word (kind_of t) h)) (heads ps)
IsPresenceWord s t _ = ⊥

-- C5, at the part's name: no component or alternative has it (51.8.5).
abbrev pub IsUnknownComponent : Site → AbstractType → WrittenElementForm → Type 0
IsUnknownComponent s t (written.with_components partial ps) =
    SomePart (λ h. (s ≡ h.site) × (named_in (kind_of t) h.name ≡ None)) (heads ps)
IsUnknownComponent s t _ = ⊥

-- C6, at the part's name: a part that is written before has the same name.
abbrev pub IsRepeatedComponent : Site → WrittenElementForm → Type 0
IsRepeatedComponent s (written.with_components partial ps) =
    SomePair (λ earlier later. (s ≡ later.site) × (later.name ≡ earlier.name)) (heads ps)
IsRepeatedComponent s _ = ⊥

-- C7, at the part's name: over a CHOICE it is PRESENT, and so is a part that is written before.
abbrev pub IsTwoPresent : Site → AbstractType → WrittenElementForm → Type 0
IsTwoPresent s t (written.with_components partial ps) =
    IsTrue (is_choice (kind_of t))
    × SomePair (λ earlier later. (s ≡ later.site) × IsTrue (is_present earlier) × IsTrue (is_present later)) (heads ps)
IsTwoPresent s t _ = ⊥

-- ---- C8 and C10

-- C8, at the element: the contained type has another base, or there is none (51.3).
abbrev pub IsContainedMismatch : Visible → Site → AbstractType → Site → WrittenElementForm → Type 0
IsContainedMismatch names s t site (written.contained includes name_site name) =
    (s ≡ site) × (has_base_of t (names.types name) ≡ false)
IsContainedMismatch names s t site _ = ⊥

-- C10, at the word SIZE: the type is a BIT STRING with named bits, of which this profile has no SIZE (22.7).
abbrev pub IsSizeOnNamedBits : Site → AbstractType → Site → WrittenElementForm → Type 0
IsSizeOnNamedBits s t site (written.size inner) = (s ≡ site) × IsTrue (has_named_bits (kind_of t))
IsSizeOnNamedBits s t site _ = ⊥

-- ---- C9: values that are written in an element

abbrev pub HasFaultyEnd : Meaning → ValueFault → AbstractType → Option WrittenEnd → Type 0
HasFaultyEnd m g t None = ⊥
HasFaultyEnd m g t (Some e) = IsFaultIn m t (value_of_end e) g

-- V6, at a string inside FROM: a character of it is outside the alphabet of the type (clause 41).
abbrev pub HasBadString : AbstractKind → List AlphabetItem → ValueFault → Type 0
HasBadString kind [] g = ⊥
HasBadString kind (i ∷ items) g =
    ((s : Site) × (bad_item kind i ≡ Some s) × (g ≡ value_fault.BadCharacter s)) ⊎ HasBadString kind items g

-- C9, with the value's own fault, at that fault's site: of a value, of an end of a range, or of a string inside FROM.
abbrev pub HasFaultyValue : Visible → ValueFault → AbstractType → WrittenElementForm → Type 0
HasFaultyValue names g t (written.value tree) = IsFaultIn names.values t tree g
HasFaultyValue names g t (written.range r) = HasFaultyEnd names.values g t r.low ⊎ HasFaultyEnd names.values g t r.high
HasFaultyValue names g t (written.from (constraint inner set)) =
    (items : List AlphabetItem) × (items_of set ≡ Some items) × HasBadString (kind_of t) items g
HasFaultyValue names g t _ = ⊥

-- ---- of one element, by the fault

abbrev pub Stands : Visible → ConsFault → AbstractType → Site → WrittenElementForm → Type 0
Stands names (fault.NotApplicable s) t site form = IsNotApplicable s t site form
Stands names (fault.ExclusiveLimit s) t site form = IsExclusiveLimit s site form
Stands names (fault.AlphabetForm s) t site form = IsAlphabetForm s site form
Stands names (fault.PresenceWord s) t site form = IsPresenceWord s t form
Stands names (fault.UnknownComponent s) t site form = IsUnknownComponent s t form
Stands names (fault.RepeatedComponent s) t site form = IsRepeatedComponent s form
Stands names (fault.TwoPresent s) t site form = IsTwoPresent s t form
Stands names (fault.ContainedMismatch s) t site form = IsContainedMismatch names s t site form
Stands names (fault.Value g) t site form = HasFaultyValue names g t form
Stands names (fault.SizeOnNamedBits s) t site form = IsSizeOnNamedBits s t site form
Stands names fault.OutOfMemory t site form = ⊥

-- ---- of the elements of a constraint, each with the type that it constrains

abbrev mutual
  -- P holds of some element: its type, its site and its form.
  pub Somewhere : (AbstractType → Site → WrittenElementForm → Type 0) → AbstractType → WrittenConstraint → Type 0
  Somewhere P t (constraint site set) = InSet P t set

  pub InSet : (AbstractType → Site → WrittenElementForm → Type 0) → AbstractType → WrittenSet → Type 0
  InSet P t (set_node site form) = InSetForm P t form

  pub InSetForm : (AbstractType → Site → WrittenElementForm → Type 0) → AbstractType → WrittenSetForm → Type 0
  InSetForm P t (all_except e) = InElement P t e
  InSetForm P t (union first others) = InIntersection P t first ⊎ InUnited P t others

  pub InUnited : (AbstractType → Site → WrittenElementForm → Type 0) → AbstractType → WrittenUnited → Type 0
  InUnited P t none_united = ⊥
  InUnited P t (united mark one others) = InIntersection P t one ⊎ InUnited P t others

  pub InIntersection : (AbstractType → Site → WrittenElementForm → Type 0) → AbstractType → WrittenIntersection → Type 0
  InIntersection P t (intersection site first others) = InDifference P t first ⊎ InMet P t others

  pub InMet : (AbstractType → Site → WrittenElementForm → Type 0) → AbstractType → WrittenMet → Type 0
  InMet P t none_met = ⊥
  InMet P t (met mark one others) = InDifference P t one ⊎ InMet P t others

  pub InDifference : (AbstractType → Site → WrittenElementForm → Type 0) → AbstractType → WrittenDifference → Type 0
  InDifference P t (element_alone site e) = InElement P t e
  InDifference P t (element_except site e f) = InElement P t e ⊎ InElement P t f

  pub InElement : (AbstractType → Site → WrittenElementForm → Type 0) → AbstractType → WrittenElement → Type 0
  InElement P t (element_node site form) = P t site form ⊎ Inside P t form

  pub Inside : (AbstractType → Site → WrittenElementForm → Type 0) → AbstractType → WrittenElementForm → Type 0
  Inside P t (written.parentheses set) = InSet P t set
  Inside P t (written.value tree) = ⊥
  Inside P t (written.contained includes name_site name) = ⊥
  Inside P t (written.range r) = ⊥
  Inside P t (written.size inner) = Somewhere P type_of_size inner
  Inside P t (written.from inner) = ⊥
  Inside P t (written.with_component inner) =
      (u : AbstractType) × (element_of (kind_of t) ≡ Some u) × Somewhere P u inner
  Inside P t (written.with_components partial ps) = InParts P (kind_of t) ps

  pub InParts : (AbstractType → Site → WrittenElementForm → Type 0) → AbstractKind → WrittenParts → Type 0
  InParts P kind no_parts = ⊥
  InParts P kind (part site name presence others) = InParts P kind others
  InParts P kind (part_in site name inner presence others) =
      ((p : Located) × (named_in kind name ≡ Some p) × Somewhere P p.ty inner) ⊎ InParts P kind others

-- ---- all faults

-- The fault's condition stands at its site, in some element of the constraint.
abbrev pub IsConstraintFaultIn : Visible → AbstractType → WrittenConstraint → ConsFault → Type 0
IsConstraintFaultIn names t tree f = Somewhere (Stands names f) t tree
