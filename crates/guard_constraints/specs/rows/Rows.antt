-- Worked examples of constraint trees: which elements apply, the first fault, and what is read. That the definition
-- says what is read is a law.
use Rattle.std.specs.Prelude.{◌≡◌, ℕ, ◌+◌, pos, true, false, List, [], ◌∷◌, codes, Option, Some, None, Ok, refl}
use Rattle.std.proofs.Common.{inl, inr, sym, subst}
use Rattle.guard_model.specs.declared.site.Site.{Site}
use Rattle.guard_model.specs.declared.ty.CharKind.TheVariants.{Ia5}
use Rattle.guard_model.specs.declared.tag.Class.TheVariants.{Universal}
use Rattle.guard_model.specs.AbstractType as type
use Rattle.guard_model.specs.AbstractType.{AbstractType, AbstractKind, AbstractPresence, Components, Constraint, Constraints, at, type_of, no_components, component}
use Rattle.guard_syntax.specs.declared.tree.JoinMark.TheVariants.{Sign}
use Rattle.guard_syntax.specs.declared.tree.PresenceWord.{PresenceWord}
use Rattle.guard_syntax.specs.declared.tree.PresenceWord.TheVariants as says
use Rattle.guard_syntax.specs.declared.tree.StringKind.TheVariants as string
use Rattle.guard_syntax.specs.Trees as written
use Rattle.guard_syntax.specs.Trees.{WrittenSet, WrittenDifference, WrittenElementForm, WrittenConstraint, WrittenParts, value_node, set_node, all_except, union, none_united, united, intersection, none_met, met, element_alone, element_node, constraint, no_parts, part}
use Rattle.guard_values.specs.declared.fault.ValueFault.TheVariants as value_fault
use Rattle.guard_constraints.specs.declared.fault.ConsFault.TheVariants as fault
use Rattle.guard_values.specs.Places.{Located}
use Rattle.guard_constraints.specs.Visible.{Visible}
use Rattle.guard_constraints.specs.PermittedAlphabets.{items_of, items_of_form}
use Rattle.guard_constraints.specs.ListedParts.{heads}
use Rattle.guard_constraints.specs.PartFaults.{part_fault}
use Rattle.guard_constraints.specs.Faults.{own_fault}
use Rattle.guard_constraints.specs.FirstFault.{IsFirstConstraintFault}
use Rattle.guard_constraints.specs.Conditions.{IsConstraintFaultIn}
use Rattle.guard_constraints.specs.inside.Reading.{read, read_set, read_set_form, read_united, read_intersection, read_met, read_difference, read_element, read_element_form}

-- ---- notation

abbrev column : ℕ → Site
column n = record { text = 1; line = 1; column = n }

-- no name is visible
abbrev nothing : Visible
nothing = record { values = λ name. None; types = λ name. None }

abbrev tagged : ℕ → AbstractKind → AbstractType
tagged n kind = type_of (record { class = Universal; number = n } ∷ []) kind type.no_constraints

abbrev set_of_element : Site → WrittenElementForm → WrittenSet
set_of_element site form =
    set_node site (union (intersection site (element_alone site (element_node site form)) none_met) none_united)

abbrev in_parentheses : ℕ → WrittenElementForm → WrittenConstraint
in_parentheses n form = constraint (column n) (set_of_element (column (n + 1)) form)

abbrev text_at : ℕ → List ℕ → WrittenElementForm
text_at n spelling = written.value (value_node (column n) (written.text string.Characters spelling))

abbrev part_at : ℕ → List ℕ → Option PresenceWord → WrittenParts → WrittenParts
part_at n name presence others = part (column n) name presence others

-- ---- an element's own fault

-- BOOLEAN (SIZE (1)): C1 at SIZE
size_of_boolean : own_fault nothing (tagged 1 type.boolean) (column 10)
    (written.size (in_parentheses 15 (text_at 16 []))) ≡ Some (fault.NotApplicable (column 10))
size_of_boolean = refl

-- INTEGER (MIN<..5): C2 at MIN
abbrev below_five : WrittenElementForm
below_five =
    written.range (record {
      low = None;
      above_low = true;
      below_high = false;
      high = Some (record {
        site = column 16;
        form = written.end_integer (record { site = column 16; minus = false; digits = codes "5" });
      });
    })

min_left_out : own_fault nothing (tagged 2 (type.integer [])) (column 10) below_five
    ≡ Some (fault.ExclusiveLimit (column 10))
min_left_out = refl

-- on BOOLEAN the same is C1
range_of_boolean : own_fault nothing (tagged 1 type.boolean) (column 10) below_five
    ≡ Some (fault.NotApplicable (column 10))
range_of_boolean = refl

-- IA5String (FROM (ALL EXCEPT "q")): C3 at FROM
all_except_q : own_fault nothing (tagged 22 (type.characters Ia5)) (column 12)
    (written.from (constraint (column 17) (set_node (column 18)
    (all_except (element_node (column 29) (text_at 29 (0x22 ∷ 0x71 ∷ 0x22 ∷ [])))))))
    ≡ Some (fault.AlphabetForm (column 12))
unfolding items_of items_of_form
all_except_q = refl

-- INTEGER (Level) where no such type is visible: C8
unknown_type : own_fault nothing (tagged 2 (type.integer [])) (column 10)
    (written.contained false (column 10) (codes "Level")) ≡ Some (fault.ContainedMismatch (column 10))
unknown_type = refl

-- ---- parts of WITH COMPONENTS

abbrev one_component : List ℕ → AbstractPresence → Components → Components
one_component name presence others = component name (tagged 5 type.null) presence others

-- SEQUENCE { a NULL, b NULL OPTIONAL }
abbrev a_and_b : AbstractKind
a_and_b =
    type.sequence (one_component (codes "a") type.mandatory (one_component (codes "b") type.optional no_components))

-- CHOICE { a NULL, b NULL }
abbrev a_or_b : AbstractKind
a_or_b = type.choice (one_component (codes "a") type.mandatory (one_component (codes "b") type.mandatory no_components))

-- { b PRESENT, a PRESENT }: C4 at the a, which isn't OPTIONAL
word_on_mandatory : part_fault a_and_b
    (heads (part_at 30 (codes "b") (Some says.Present) (part_at 41 (codes "a") (Some says.Present) no_parts)))
    ≡ Some (fault.PresenceWord (column 41))
word_on_mandatory = refl

-- { c PRESENT, a PRESENT }: C4 comes before the unknown c, whose word counts for nothing
word_before_name : part_fault a_and_b
    (heads (part_at 30 (codes "c") (Some says.Present) (part_at 41 (codes "a") (Some says.Present) no_parts)))
    ≡ Some (fault.PresenceWord (column 41))
word_before_name = refl

-- { c PRESENT }: C5
unknown_name : part_fault a_and_b (heads (part_at 30 (codes "c") (Some says.Present) no_parts))
    ≡ Some (fault.UnknownComponent (column 30))
unknown_name = refl

-- { b, b }: C6 at the second
name_again : part_fault a_and_b (heads (part_at 30 (codes "b") None (part_at 33 (codes "b") None no_parts)))
    ≡ Some (fault.RepeatedComponent (column 33))
name_again = refl

-- over a CHOICE, { a OPTIONAL }: C4
optional_alternative : part_fault a_or_b (heads (part_at 30 (codes "a") (Some says.Optional) no_parts))
    ≡ Some (fault.PresenceWord (column 30))
optional_alternative = refl

-- over a CHOICE, { a PRESENT, b PRESENT }: C7 at the b
both_present : part_fault a_or_b
    (heads (part_at 30 (codes "a") (Some says.Present) (part_at 41 (codes "b") (Some says.Present) no_parts)))
    ≡ Some (fault.TwoPresent (column 41))
both_present = refl

-- over a CHOICE, { a PRESENT, b ABSENT } has no fault
one_present : part_fault a_or_b
    (heads (part_at 30 (codes "a") (Some says.Present) (part_at 41 (codes "b") (Some says.Absent) no_parts))) ≡ None
one_present = refl

-- ---- what is joined, and with which sites

-- the type that every upper-case name means
abbrev level : AbstractType
level = tagged 2 (type.integer [])

abbrev levels : Visible
levels = record { values = λ name. None; types = λ name. Some level }

abbrev level_at : ℕ → WrittenDifference
level_at n = element_alone (column n) (element_node (column n) (written.contained false (column n) (codes "L")))

abbrev is_level : ℕ → Constraint
is_level n = at (column n) (type.contained_subtype level)

abbrev both : Constraint → Constraint → Constraints
both c d = type.constraint c (type.constraint d type.no_constraints)

-- INTEGER (L | L ^ L): the intersection is one operand of the union
abbrev united_levels : WrittenConstraint
united_levels =
    constraint (column 15) (set_node (column 16) (union (intersection (column 16) (level_at 16) none_met)
    (united Sign (intersection (column 20) (level_at 20) (met Sign (level_at 24) none_met)) none_united)))

intersection_first : read levels level united_levels
    ≡ Ok (at (column 16) (type.union
    (both (is_level 16) (at (column 20) (type.intersection (both (is_level 20) (is_level 24)))))))
unfolding read read_set read_set_form read_united read_intersection read_met read_difference read_element
    read_element_form
intersection_first = refl

-- INTEGER ((L | L) ^ L): the intersection is at the parenthesis that it begins with, the union inside at its own first
-- token
abbrev met_levels : WrittenConstraint
met_levels =
    constraint (column 15) (set_node (column 16) (union (intersection (column 16)
    (element_alone (column 16)
    (element_node (column 16)
    (written.parentheses (set_node (column 17) (union (intersection (column 17) (level_at 17) none_met)
    (united Sign (intersection (column 21) (level_at 21) none_met) none_united))))))
    (met Sign (level_at 26) none_met)) none_united))

parenthesis_first : read levels level met_levels
    ≡ Ok (at (column 16) (type.intersection
    (both (at (column 17) (type.union (both (is_level 17) (is_level 21)))) (is_level 26))))
unfolding read read_set read_set_form read_united read_intersection read_met read_difference read_element
    read_element_form
parenthesis_first = refl

-- on BOOLEAN it is C8 at the first
other_base : IsFirstConstraintFault levels (tagged 1 type.boolean) met_levels (fault.ContainedMismatch (column 17))
other_base = refl

-- ---- values, and what comes after them

abbrev truth_at : ℕ → WrittenElementForm
truth_at n = written.value (value_node (column n) (written.boolean true))

-- BIT STRING { read(0) }
abbrev flags : AbstractType
flags = tagged 3 (type.bit_string (record { name = codes "read"; number = pos 0 } ∷ []))

-- it may have no SIZE, but what is inside is looked at before: C9, V1 at TRUE
size_of_truth : IsFirstConstraintFault nothing flags
    (in_parentheses 14 (written.size (in_parentheses 20 (truth_at 21))))
    (fault.Value (value_fault.WrongNotation (column 21)))
size_of_truth = inl (value_fault.WrongNotation (column 21), inl refl, refl)

-- (SIZE (L)) of it, where L is INTEGER: C10 at SIZE
abbrev size_of_level : WrittenElementForm
size_of_level = written.size (in_parentheses 20 (written.contained false (column 21) (codes "L")))

size_of_flags : IsFirstConstraintFault levels flags (in_parentheses 14 size_of_level)
    (fault.SizeOnNamedBits (column 15))
size_of_flags = refl

-- ---- conditions that stand at the sites of faults

-- ((L | L) ^ L) on BOOLEAN, where L is INTEGER: C8 at the first L
other_base_stands : IsConstraintFaultIn levels (tagged 1 type.boolean) met_levels (fault.ContainedMismatch (column 17))
other_base_stands = inl (inl (inr (inl (inl (inl (refl, refl))))))

-- (SIZE (L)) on a BIT STRING with named bits: C10 at SIZE
named_bits_stand : IsConstraintFaultIn levels flags (in_parentheses 14 size_of_level)
    (fault.SizeOnNamedBits (column 15))
named_bits_stand = inl (inl (inl (refl, refl)))

-- (WITH COMPONENTS {..., b, b})
abbrev b_twice : WrittenConstraint
b_twice =
    in_parentheses 10
    (written.with_components true (part_at 33 (codes "b") None (part_at 36 (codes "b") None no_parts)))

-- C6 stands at the second b
repeated_stands : IsConstraintFaultIn nothing (tagged 16 a_and_b) b_twice (fault.RepeatedComponent (column 36))
repeated_stands = inl (inl (inl (inl (inl (refl, refl)))))

abbrev IsNone : Option Located → Type 0
IsNone None = Unit {0}
IsNone (Some l) = ⊥

-- C5 stands nowhere: both parts name a component
not_unknown : (s : Site) → IsConstraintFaultIn nothing (tagged 16 a_and_b) b_twice (fault.UnknownComponent s) → ⊥
not_unknown s (inl (inl (inl (inl h)))) = subst IsNone (sym h.1) tt
not_unknown s (inl (inl (inl (inr (inl h))))) = subst IsNone (sym h.1) tt
not_unknown s (inl (inl (inl (inr (inr h))))) = h
not_unknown s (inl (inl (inr h))) = h
not_unknown s (inl (inr h)) = h
not_unknown s (inr h) = h
