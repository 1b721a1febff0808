-- The test `same_type` decides equality of abstract types.
use Rattle.std.proofs.Common.{◌≡◌, ℕ, true, ◌&&◌, Option, Some, None, nat_eq, refl, ap, arith}
use Rattle.std.specs.Bool.{Decides}
use Rattle.std.specs.Cmp.Lexicographic.{pointwise, pointwise_decides}
use Rattle.std.specs.Str.{bytes_eq}
use Rattle.std.proofs.lemmas.Bool.{and_from, and_parts, false≢true}
use Rattle.std.proofs.lemmas.Bool.Decides.{Decides-eqb, Decides-int_eq}
use Rattle.std.proofs.lemmas.Slice.Eq.{bytes_eq-Decides}
use Rattle.guard_model.specs.AbstractType.{AbstractType, AbstractKind, AbstractPresence, Components, Constraint, Constraints, Element, NamedNumber, Parts, mandatory, optional, pending, default, type_of, boolean, integer, bit_string, octet_string, null, object_identifier, enumerated, characters, sequence, set, choice, sequence_of, set_of, no_components, component, at, no_constraints, constraint, single_value, contained_subtype, range, size, permitted_alphabet, with_component, with_components, union, intersection, except, all_except, no_parts, part, part_within}
use Rattle.guard_model.specs.Same.{same_truth}
use Rattle.guard_model.specs.SameType.{same_site, same_named, character_rank, same_limit, word_rank, same_word, same_range, same_presence, same_type, same_kind, same_components, same_constraints, same_constraint, same_element, same_parts, same_base}
use Rattle.guard_model.specs.SameBase.{HasSameBase, bare_kind_of}
use Rattle.guard_model.specs.Tags.{same_tag}
use Rattle.guard_model.specs.declared.tag.Tag.{Tag}
use Rattle.guard_model.specs.declared.site.Site.{Site}
use Rattle.guard_model.specs.declared.ty.CharKind.{CharKind}
use Rattle.guard_model.specs.declared.ty.CharKind.TheVariants.{Numeric, Printable, Ia5, Visible, Utf8}
use Rattle.guard_model.specs.declared.ty.Limit.{Limit}
use Rattle.guard_model.specs.declared.ty.Limit.TheVariants.{Free, At, Past}
use Rattle.guard_model.specs.declared.ty.Word.{Word}
use Rattle.guard_model.specs.declared.ty.Word.TheVariants.{Present, Absent, Optional}
use Rattle.guard_model.proofs.Tags.{tag_Decides}
use Rattle.guard_model.proofs.Sameness.{equal_values, same_itself, equal_truth, same_truth_itself}

number_itself : (n : ℕ) → nat_eq n n ≡ true
number_itself n = (Decides-eqb n n).1 refl

kind_of_rank : (a b : CharKind) → character_rank a ≡ character_rank b → a ≡ b
kind_of_rank Numeric Numeric h = refl
kind_of_rank Printable Printable h = refl
kind_of_rank Ia5 Ia5 h = refl
kind_of_rank Visible Visible h = refl
kind_of_rank Utf8 Utf8 h = refl
kind_of_rank _ _ h = absurd (omega arith)

word_of_rank : (a b : Word) → word_rank a ≡ word_rank b → a ≡ b
word_of_rank Present Present h = refl
word_of_rank Absent Absent h = refl
word_of_rank Optional Optional h = refl
word_of_rank _ _ h = absurd (omega arith)

equal_sites : (a b : Site) → same_site a b ≡ true → a ≡ b
equal_sites a b h =
    let text : a.text ≡ b.text = (Decides-eqb a.text b.text).0 (and_parts _ _ h).0 in
    let rest = (and_parts (nat_eq a.text b.text) _ h).1 in
    let line : a.line ≡ b.line = (Decides-eqb a.line b.line).0 (and_parts _ _ rest).0 in
    let column : a.column ≡ b.column = (Decides-eqb a.column b.column).0 (and_parts (nat_eq a.line b.line) _ rest).1 in
    λ i. record { text = text i; line = line i; column = column i }

site_itself : (a : Site) → same_site a a ≡ true
site_itself a = and_from _ _ (number_itself a.text) (and_from _ _ (number_itself a.line) (number_itself a.column))

named_Decides : (a b : NamedNumber) → Decides (same_named a b) (a ≡ b)
named_Decides a b = (
  λ h.
      let name : a.name ≡ b.name = (bytes_eq-Decides a.name b.name).0 (and_parts _ _ h).0 in
      let number : a.number ≡ b.number = (Decides-int_eq a.number b.number).0 (and_parts (bytes_eq a.name b.name) _ h).1 in
      λ i. record { name = name i; number = number i },
  λ e. rw e (and_from _ _ ((bytes_eq-Decides b.name b.name).1 refl) ((Decides-int_eq b.number b.number).1 refl)),
)

range_Decides : (a b : ℕ × ℕ) → Decides (same_range a b) (a ≡ b)
range_Decides a b = (
  λ h.
      let low : a.0 ≡ b.0 = (Decides-eqb a.0 b.0).0 (and_parts _ _ h).0 in
      let high : a.1 ≡ b.1 = (Decides-eqb a.1 b.1).0 (and_parts (nat_eq a.0 b.0) _ h).1 in
      λ i. (low i, high i),
  λ e. rw e (and_from _ _ (number_itself b.0) (number_itself b.1)),
)

equal_limits : (a b : Limit) → same_limit a b ≡ true → a ≡ b
equal_limits Free Free h = refl
equal_limits (At a) (At b) h = ap At ((Decides-int_eq a b).0 h)
equal_limits (Past a) (Past b) h = ap Past ((Decides-int_eq a b).0 h)
equal_limits _ _ h = absurd (false≢true h)

limit_itself : (a : Limit) → same_limit a a ≡ true
limit_itself Free = refl
limit_itself (At a) = (Decides-int_eq a a).1 refl
limit_itself (Past a) = (Decides-int_eq a a).1 refl

equal_words : (a b : Option Word) → same_word a b ≡ true → a ≡ b
equal_words None None h = refl
equal_words (Some v) (Some w) h = ap Some (word_of_rank v w ((Decides-eqb (word_rank v) (word_rank w)).0 h))
equal_words None (Some w) h = absurd (false≢true h)
equal_words (Some v) None h = absurd (false≢true h)

word_itself : (a : Option Word) → same_word a a ≡ true
word_itself None = refl
word_itself (Some v) = number_itself (word_rank v)

equal_presences : (a b : AbstractPresence) → same_presence a b ≡ true → a ≡ b
equal_presences mandatory mandatory h = refl
equal_presences optional optional h = refl
equal_presences pending pending h = refl
equal_presences (default a) (default b) h = ap default (equal_values a b h)
equal_presences _ _ h = absurd (false≢true h)

presence_itself : (a : AbstractPresence) → same_presence a a ≡ true
presence_itself mandatory = refl
presence_itself optional = refl
presence_itself pending = refl
presence_itself (default a) = same_itself a

mutual
  equal_types : (a b : AbstractType) → same_type a b ≡ true → a ≡ b
  equal_types (type_of ts k cs) (type_of us l ds) h =
      let tags : ts ≡ us = (pointwise_decides tag_Decides ts us).0 (and_parts _ _ h).0 in
      let rest = (and_parts (pointwise same_tag ts us) _ h).1 in
      let kinds : k ≡ l = equal_kinds k l (and_parts _ _ rest).0 in
      let constraints : cs ≡ ds = equal_constraints cs ds (and_parts (same_kind k l) _ rest).1 in
      λ i. type_of (tags i) (kinds i) (constraints i)

  equal_kinds : (a b : AbstractKind) → same_kind a b ≡ true → a ≡ b
  equal_kinds boolean boolean h = refl
  equal_kinds (integer ns) (integer ms) h = ap integer ((pointwise_decides named_Decides ns ms).0 h)
  equal_kinds (bit_string ns) (bit_string ms) h = ap bit_string ((pointwise_decides named_Decides ns ms).0 h)
  equal_kinds octet_string octet_string h = refl
  equal_kinds null null h = refl
  equal_kinds object_identifier object_identifier h = refl
  equal_kinds (enumerated ns) (enumerated ms) h = ap enumerated ((pointwise_decides named_Decides ns ms).0 h)
  equal_kinds (characters k) (characters l) h = ap characters (kind_of_rank k l ((Decides-eqb (character_rank k) (character_rank l)).0 h))
  equal_kinds (sequence cs) (sequence ds) h = ap sequence (equal_components cs ds h)
  equal_kinds (set cs) (set ds) h = ap set (equal_components cs ds h)
  equal_kinds (choice cs) (choice ds) h = ap choice (equal_components cs ds h)
  equal_kinds (sequence_of t) (sequence_of u) h = ap sequence_of (equal_types t u h)
  equal_kinds (set_of t) (set_of u) h = ap set_of (equal_types t u h)
  equal_kinds _ _ h = absurd (false≢true h)

  equal_components : (a b : Components) → same_components a b ≡ true → a ≡ b
  equal_components no_components no_components h = refl
  equal_components (component n t p cs) (component m u q ds) h =
      let first = (and_parts (bytes_eq n m && (same_type t u && same_presence p q)) (same_components cs ds) h).0 in
      let names : n ≡ m = (bytes_eq-Decides n m).0 (and_parts _ _ first).0 in
      let rest = (and_parts (bytes_eq n m) _ first).1 in
      let types : t ≡ u = equal_types t u (and_parts _ _ rest).0 in
      let presences : p ≡ q = equal_presences p q (and_parts (same_type t u) _ rest).1 in
      let behind : cs ≡ ds = equal_components cs ds (and_parts (bytes_eq n m && (same_type t u && same_presence p q)) _ h).1 in
      λ i. component (names i) (types i) (presences i) (behind i)
  equal_components _ _ h = absurd (false≢true h)

  equal_constraints : (a b : Constraints) → same_constraints a b ≡ true → a ≡ b
  equal_constraints no_constraints no_constraints h = refl
  equal_constraints (constraint c cs) (constraint d ds) h =
      let first : c ≡ d = equal_constraint c d (and_parts _ _ h).0 in
      let behind : cs ≡ ds = equal_constraints cs ds (and_parts (same_constraint c d) _ h).1 in
      λ i. constraint (first i) (behind i)
  equal_constraints _ _ h = absurd (false≢true h)

  equal_constraint : (a b : Constraint) → same_constraint a b ≡ true → a ≡ b
  equal_constraint (at s e) (at r f) h =
      let sites : s ≡ r = equal_sites s r (and_parts _ _ h).0 in
      let elements : e ≡ f = equal_elements e f (and_parts (same_site s r) _ h).1 in
      λ i. at (sites i) (elements i)

  equal_elements : (a b : Element) → same_element a b ≡ true → a ≡ b
  equal_elements (single_value v) (single_value w) h = ap single_value (equal_values v w h)
  equal_elements (contained_subtype t) (contained_subtype u) h = ap contained_subtype (equal_types t u h)
  equal_elements (range a b) (range c d) h =
      let low : a ≡ c = equal_limits a c (and_parts _ _ h).0 in
      let high : b ≡ d = equal_limits b d (and_parts (same_limit a c) _ h).1 in
      λ i. range (low i) (high i)
  equal_elements (size c) (size d) h = ap size (equal_constraint c d h)
  equal_elements (permitted_alphabet rs) (permitted_alphabet ss) h = ap permitted_alphabet ((pointwise_decides range_Decides rs ss).0 h)
  equal_elements (with_component c) (with_component d) h = ap with_component (equal_constraint c d h)
  equal_elements (with_components a ps) (with_components b qs) h =
      let partial : a ≡ b = equal_truth a b (and_parts _ _ h).0 in
      let parts : ps ≡ qs = equal_parts ps qs (and_parts (same_truth a b) _ h).1 in
      λ i. with_components (partial i) (parts i)
  equal_elements (union cs) (union ds) h = ap union (equal_constraints cs ds h)
  equal_elements (intersection cs) (intersection ds) h = ap intersection (equal_constraints cs ds h)
  equal_elements (except a b) (except c d) h =
      let first : a ≡ c = equal_constraint a c (and_parts _ _ h).0 in
      let second : b ≡ d = equal_constraint b d (and_parts (same_constraint a c) _ h).1 in
      λ i. except (first i) (second i)
  equal_elements (all_except c) (all_except d) h = ap all_except (equal_constraint c d h)
  equal_elements _ _ h = absurd (false≢true h)

  equal_parts : (a b : Parts) → same_parts a b ≡ true → a ≡ b
  equal_parts no_parts no_parts h = refl
  equal_parts (part s j w ps) (part r k v qs) h =
      let first = (and_parts (same_site s r && (nat_eq j k && same_word w v)) (same_parts ps qs) h).0 in
      let sites : s ≡ r = equal_sites s r (and_parts _ _ first).0 in
      let rest = (and_parts (same_site s r) _ first).1 in
      let places : j ≡ k = (Decides-eqb j k).0 (and_parts _ _ rest).0 in
      let words : w ≡ v = equal_words w v (and_parts (nat_eq j k) _ rest).1 in
      let behind : ps ≡ qs = equal_parts ps qs (and_parts (same_site s r && (nat_eq j k && same_word w v)) _ h).1 in
      λ i. part (sites i) (places i) (words i) (behind i)
  equal_parts (part_within s j c w ps) (part_within r k d v qs) h =
      let first = (and_parts (same_site s r && (nat_eq j k && (same_constraint c d && same_word w v))) (same_parts ps qs) h).0 in
      let sites : s ≡ r = equal_sites s r (and_parts _ _ first).0 in
      let rest = (and_parts (same_site s r) _ first).1 in
      let places : j ≡ k = (Decides-eqb j k).0 (and_parts _ _ rest).0 in
      let inside = (and_parts (nat_eq j k) _ rest).1 in
      let constraints : c ≡ d = equal_constraint c d (and_parts _ _ inside).0 in
      let words : w ≡ v = equal_words w v (and_parts (same_constraint c d) _ inside).1 in
      let behind : ps ≡ qs = equal_parts ps qs (and_parts (same_site s r && (nat_eq j k && (same_constraint c d && same_word w v))) _ h).1 in
      λ i. part_within (sites i) (places i) (constraints i) (words i) (behind i)
  equal_parts _ _ h = absurd (false≢true h)

mutual
  type_itself : (a : AbstractType) → same_type a a ≡ true
  type_itself (type_of ts k cs) = and_from _ _ ((pointwise_decides tag_Decides ts ts).1 refl) (and_from _ _ (kind_itself k) (constraints_itself cs))

  kind_itself : (a : AbstractKind) → same_kind a a ≡ true
  kind_itself boolean = refl
  kind_itself (integer ns) = (pointwise_decides named_Decides ns ns).1 refl
  kind_itself (bit_string ns) = (pointwise_decides named_Decides ns ns).1 refl
  kind_itself octet_string = refl
  kind_itself null = refl
  kind_itself object_identifier = refl
  kind_itself (enumerated ns) = (pointwise_decides named_Decides ns ns).1 refl
  kind_itself (characters k) = number_itself (character_rank k)
  kind_itself (sequence cs) = components_itself cs
  kind_itself (set cs) = components_itself cs
  kind_itself (choice cs) = components_itself cs
  kind_itself (sequence_of t) = type_itself t
  kind_itself (set_of t) = type_itself t

  components_itself : (a : Components) → same_components a a ≡ true
  components_itself no_components = refl
  components_itself (component n t p cs) = and_from _ _ (and_from _ _ ((bytes_eq-Decides n n).1 refl) (and_from _ _ (type_itself t) (presence_itself p))) (components_itself cs)

  constraints_itself : (a : Constraints) → same_constraints a a ≡ true
  constraints_itself no_constraints = refl
  constraints_itself (constraint c cs) = and_from _ _ (constraint_itself c) (constraints_itself cs)

  constraint_itself : (a : Constraint) → same_constraint a a ≡ true
  constraint_itself (at s e) = and_from _ _ (site_itself s) (element_itself e)

  element_itself : (a : Element) → same_element a a ≡ true
  element_itself (single_value v) = same_itself v
  element_itself (contained_subtype t) = type_itself t
  element_itself (range a b) = and_from _ _ (limit_itself a) (limit_itself b)
  element_itself (size c) = constraint_itself c
  element_itself (permitted_alphabet rs) = (pointwise_decides range_Decides rs rs).1 refl
  element_itself (with_component c) = constraint_itself c
  element_itself (with_components a ps) = and_from _ _ (same_truth_itself a) (parts_itself ps)
  element_itself (union cs) = constraints_itself cs
  element_itself (intersection cs) = constraints_itself cs
  element_itself (except c d) = and_from _ _ (constraint_itself c) (constraint_itself d)
  element_itself (all_except c) = constraint_itself c

  parts_itself : (a : Parts) → same_parts a a ≡ true
  parts_itself no_parts = refl
  parts_itself (part s j w ps) = and_from _ _ (and_from _ _ (site_itself s) (and_from _ _ (number_itself j) (word_itself w))) (parts_itself ps)
  parts_itself (part_within s j c w ps) = and_from _ _ (and_from _ _ (site_itself s) (and_from _ _ (number_itself j) (and_from _ _ (constraint_itself c) (word_itself w)))) (parts_itself ps)

pub same_kind-Decides : (a b : AbstractKind) → Decides (same_kind a b) (a ≡ b)
same_kind-Decides a b = (equal_kinds a b, λ e. rw e (kind_itself b))

pub same_type-Decides : (a b : AbstractType) → Decides (same_type a b) (a ≡ b)
same_type-Decides a b = (equal_types a b, λ e. rw e (type_itself b))

pub same_base-Decides : (a b : AbstractType) → Decides (same_base a b) (HasSameBase a b)
same_base-Decides a b = same_kind-Decides (bare_kind_of a) (bare_kind_of b)
