-- Equality of abstract types, as a test.
use Rattle.std.specs.Prelude.{ℕ, Bool, true, false, ◌&&◌, Option, nat_eq}
use Rattle.std.specs.Cmp.Lexicographic.{pointwise}
use Rattle.std.specs.Option.{option_eq}
use Rattle.std.specs.Ordering.{int_eq}
use Rattle.std.specs.Str.{bytes_eq}
use Rattle.guard_model.specs.AbstractType.{AbstractType, AbstractKind, AbstractPresence, Components, Constraint, Constraints, Element, NamedNumber, Parts, mandatory, optional, pending, default, type_of, boolean, integer, bit_string, octet_string, null, object_identifier, enumerated, characters, sequence, set, choice, sequence_of, set_of, no_components, component, at, no_constraints, constraint, single_value, contained_subtype, range, size, permitted_alphabet, with_component, with_components, union, intersection, except, all_except, no_parts, part, part_within}
use Rattle.guard_model.specs.Same.{same, same_truth}
use Rattle.guard_model.specs.SameBase.{bare_kind_of}
use Rattle.guard_model.specs.Tags.{same_tag}
use Rattle.guard_model.specs.declared.site.Site.{Site}
use Rattle.guard_model.specs.declared.ty.CharKind.{CharKind}
use Rattle.guard_model.specs.declared.ty.CharKind.TheVariants.{Numeric, Printable, Ia5, Visible, Utf8}
use Rattle.guard_model.specs.declared.ty.Limit.{Limit}
use Rattle.guard_model.specs.declared.ty.Limit.TheVariants.{Free, At, Past}
use Rattle.guard_model.specs.declared.ty.Word.{Word}
use Rattle.guard_model.specs.declared.ty.Word.TheVariants.{Present, Absent, Optional}

abbrev pub same_site : Site → Site → Bool
same_site a b = nat_eq a.text b.text && (nat_eq a.line b.line && nat_eq a.column b.column)

abbrev pub same_named : NamedNumber → NamedNumber → Bool
same_named a b = bytes_eq a.name b.name && int_eq a.number b.number

-- the place of the kind in the list of kinds
abbrev pub character_rank : CharKind → ℕ
character_rank Numeric = 0
character_rank Printable = 1
character_rank Ia5 = 2
character_rank Visible = 3
character_rank Utf8 = 4

abbrev pub same_limit : Limit → Limit → Bool
same_limit Free Free = true
same_limit (At a) (At b) = int_eq a b
same_limit (Past a) (Past b) = int_eq a b
same_limit _ _ = false

-- the place of the word in the list of words
abbrev pub word_rank : Word → ℕ
word_rank Present = 0
word_rank Absent = 1
word_rank Optional = 2

abbrev pub same_word : Option Word → Option Word → Bool
same_word a b = option_eq (λ v w. nat_eq (word_rank v) (word_rank w)) a b

abbrev pub same_range : ℕ × ℕ → ℕ × ℕ → Bool
same_range a b = nat_eq a.0 b.0 && nat_eq a.1 b.1

abbrev pub same_presence : AbstractPresence → AbstractPresence → Bool
same_presence mandatory mandatory = true
same_presence optional optional = true
same_presence pending pending = true
same_presence (default a) (default b) = same a b
same_presence _ _ = false

abbrev mutual
  pub same_type : AbstractType → AbstractType → Bool
  same_type (type_of ts k cs) (type_of us l ds) = pointwise same_tag ts us && (same_kind k l && same_constraints cs ds)

  pub same_kind : AbstractKind → AbstractKind → Bool
  same_kind boolean boolean = true
  same_kind (integer ns) (integer ms) = pointwise same_named ns ms
  same_kind (bit_string ns) (bit_string ms) = pointwise same_named ns ms
  same_kind octet_string octet_string = true
  same_kind null null = true
  same_kind object_identifier object_identifier = true
  same_kind (enumerated ns) (enumerated ms) = pointwise same_named ns ms
  same_kind (characters k) (characters l) = nat_eq (character_rank k) (character_rank l)
  same_kind (sequence cs) (sequence ds) = same_components cs ds
  same_kind (set cs) (set ds) = same_components cs ds
  same_kind (choice cs) (choice ds) = same_components cs ds
  same_kind (sequence_of t) (sequence_of u) = same_type t u
  same_kind (set_of t) (set_of u) = same_type t u
  same_kind _ _ = false

  pub same_components : Components → Components → Bool
  same_components no_components no_components = true
  same_components (component n t p cs) (component m u q ds) =
      (bytes_eq n m && (same_type t u && same_presence p q)) && same_components cs ds
  same_components _ _ = false

  pub same_constraints : Constraints → Constraints → Bool
  same_constraints no_constraints no_constraints = true
  same_constraints (constraint c cs) (constraint d ds) = same_constraint c d && same_constraints cs ds
  same_constraints _ _ = false

  pub same_constraint : Constraint → Constraint → Bool
  same_constraint (at s e) (at r f) = same_site s r && same_element e f

  pub same_element : Element → Element → Bool
  same_element (single_value v) (single_value w) = same v w
  same_element (contained_subtype t) (contained_subtype u) = same_type t u
  same_element (range a b) (range c d) = same_limit a c && same_limit b d
  same_element (size c) (size d) = same_constraint c d
  same_element (permitted_alphabet rs) (permitted_alphabet ss) = pointwise same_range rs ss
  same_element (with_component c) (with_component d) = same_constraint c d
  same_element (with_components a ps) (with_components b qs) = same_truth a b && same_parts ps qs
  same_element (union cs) (union ds) = same_constraints cs ds
  same_element (intersection cs) (intersection ds) = same_constraints cs ds
  same_element (except a b) (except c d) = same_constraint a c && same_constraint b d
  same_element (all_except c) (all_except d) = same_constraint c d
  same_element _ _ = false

  pub same_parts : Parts → Parts → Bool
  same_parts no_parts no_parts = true
  same_parts (part s i w ps) (part r j v qs) = (same_site s r && (nat_eq i j && same_word w v)) && same_parts ps qs
  same_parts (part_within s i c w ps) (part_within r j d v qs) =
      (same_site s r && (nat_eq i j && (same_constraint c d && same_word w v))) && same_parts ps qs
  same_parts _ _ = false

-- whether two types have the same base, as a test
abbrev pub same_base : AbstractType → AbstractType → Bool
same_base a b = same_kind (bare_kind_of a) (bare_kind_of b)
