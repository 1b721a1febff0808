-- What is said of a tree under a proper type is a value of the type.
use Rattle.std.proofs.Common.{◌≡◌, ℕ, zero, suc, Bool, true, false, cond, not, ◌&&◌, ◌||◌, ℤ, List, [], ◌∷◌, length, Option, Some, None, inl, inr, refl, sym, ap, ◌∙◌, subst}
use Rattle.std.specs.Prelude.{nat_le, IsTrue, IfSome, bytes_eq, chars}
use Rattle.std.specs.Ordering.{int_eq}
use Rattle.std.specs.Str.{is_utf8}
use Rattle.std.proofs.lemmas.Bool.{and_from, and_parts}
use Rattle.std.proofs.lemmas.Bool.Decides.{Decides-int_eq}
use Rattle.std.proofs.lemmas.Option.{same_Some}
use Rattle.guard_model.specs.declared.ty.CharKind.{CharKind}
use Rattle.guard_model.specs.SameType.{same_base}
use Rattle.guard_model.specs.AbstractType as type
use Rattle.guard_model.specs.AbstractType.{AbstractType, AbstractKind, AbstractPresence, Components, NamedNumber, type_of, no_components, component}
use Rattle.guard_model.specs.AbstractValue as value
use Rattle.guard_model.specs.AbstractValue.{AbstractValue, Fields, items_of}
use Rattle.guard_model.proofs.Components.{item_count_is}
use Rattle.guard_tagcheck.specs.Distinct.{component_type}
use Rattle.guard_der.specs.Der.{der, item_encodings}
use Rattle.guard_der.specs.Fits as fitting
use Rattle.guard_der.specs.Fits.{every_fits, descends, ascend_from, are_ascending, fits_items, fits_set, fits, fits_kind, fits_fields, fits_alternative, may_be_absent}
use Rattle.guard_model.specs.NamedLists.{is_item, number_named}
use Rattle.guard_model.specs.Alphabets.{fits_characters}
use Rattle.guard_model.specs.Limits.{fits_128_bits}
use Rattle.guard_der.specs.ProperConstraints.{is_short}
use Rattle.guard_der.specs.Sound.{is_proper, is_proper_kind, is_proper_presence, are_proper}
use Rattle.guard_der.proofs.Types.BareTypes.{same_base_fits}
use Rattle.guard_syntax.specs.declared.tree.StringKind.{StringKind}
use Rattle.guard_syntax.specs.declared.tree.StringKind.TheVariants as string
use Rattle.guard_syntax.specs.Trees as written
use Rattle.guard_syntax.specs.Trees.{WrittenNumber, WrittenArc, WrittenValue, WrittenValueForm, WrittenEntries, value_node, no_entries, entry}
use Rattle.guard_syntax.specs.Numbers.{number_of}
use Rattle.guard_values.specs.Strings.{binary_digits, hexadecimal_bits, quoted}
use Rattle.guard_values.specs.Meanings.{Governed, Meaning, AreFitting, own_number}
use Rattle.guard_model.specs.Kinds.{kind_of}
use Rattle.guard_values.specs.Simple.{boolean_value, null_value, integer_value, text_value, characters_value, arcs_value, numbered_value, visible_value, named_value}
use Rattle.guard_values.specs.Places.{entry_places, is_among, FieldDenotes, FieldsDenote}
use Rattle.guard_values.specs.Arrangement.{octets_in, encoding_in, comes_after, inserted, arranged, are_short}
use Rattle.guard_values.specs.Denotes.{alternatives_of, ChosenDenotes, are_few, BracesDenote, Says, FormSays, EntrySays, EntriesSay}
use Rattle.guard_values.proofs.Denoted.SettledFields.{located_type}
use Rattle.guard_values.proofs.Braces.ProperComponents.{proper_parts, proper_there, choice_parts}
use Rattle.guard_values.proofs.SetOf.Insertion.{insert_by, sorted_by, Follow, Ascend, ascend_sorted}
use Rattle.guard_values.proofs.SetOf.EncodingOrder.{one_way, chain}
use Rattle.guard_values.proofs.Fitting.OctetsOfBits.{binary_small, hexadecimal_small, octets_fit, kept_fit, named_fit}
use Rattle.guard_values.proofs.Fitting.ArcsWithinLimits.{arcs_fit}
use Rattle.std.specs.Cmp.{IsStrictWeakOrder}

-- ---- types and kinds

fits_is : (t : AbstractType) (v : AbstractValue) → fits t v ≡ fits_kind (kind_of t) v
fits_is (type_of tags kind cons) v = refl

pub proper_kind : (t : AbstractType) → is_proper t ≡ true → is_proper_kind (kind_of t) ≡ true
proper_kind (type_of tags kind cons) proper = (and_parts _ (is_proper_kind kind) proper).1

-- ---- without a value inside

carried : (P : AbstractValue → Type 0) (w v : AbstractValue) → ◌≡◌ {A = Option AbstractValue} (Some w) (Some v) → P w → P v
carried P w v e h = subst P (same_Some w v e) h

where_true : (b : Bool) (w v : AbstractValue) → cond b (Some w) None ≡ Some v → (b ≡ true) × (w ≡ v)
where_true true w v e = (refl, same_Some w v e)
where_true false w v e = absurd cc

boolean_fits : (kind : AbstractKind) (b : Bool) (v : AbstractValue) → boolean_value kind b ≡ Some v → fits_kind kind v ≡ true
boolean_fits type.boolean b v e = carried (λ w. fits_kind type.boolean w ≡ true) (value.boolean b) v e refl
boolean_fits _ b v e = absurd cc

null_fits : (kind : AbstractKind) (v : AbstractValue) → null_value kind ≡ Some v → fits_kind kind v ≡ true
null_fits type.null v e = carried (λ w. fits_kind type.null w ≡ true) value.null v e refl
null_fits _ v e = absurd cc

integer_fits : (kind : AbstractKind) (n : WrittenNumber) (v : AbstractValue) → integer_value kind n ≡ Some v → fits_kind kind v ≡ true
integer_fits (type.integer ns) n v e =
    let h = where_true (fits_128_bits (number_of n)) (value.integer (number_of n)) v e in
    subst (λ w. fits_kind (type.integer ns) w ≡ true) h.1 h.0
integer_fits _ n v e = absurd cc

characters_fit : (k : CharKind) (octets : List ℕ) (v : AbstractValue) → characters_value k octets ≡ Some v → fits_kind (type.characters k) v ≡ true
characters_fit k octets v e =
    let h = where_true (is_utf8 octets && fits_characters k (chars octets)) (value.characters (chars octets)) v e in
    subst (λ w. fits_kind (type.characters k) w ≡ true) h.1 (and_parts (is_utf8 octets) (fits_characters k (chars octets)) h.0).1

text_fits : (kind : AbstractKind) (k : StringKind) (spelling : List ℕ) (v : AbstractValue) → text_value kind k spelling ≡ Some v → fits_kind kind v ≡ true
text_fits (type.bit_string names) string.Bits spelling v e = carried (λ w. fits_kind (type.bit_string names) w ≡ true) _ v e (kept_fit names (binary_digits spelling) (binary_small spelling))
text_fits (type.bit_string names) string.Hexadecimal spelling v e = carried (λ w. fits_kind (type.bit_string names) w ≡ true) _ v e (kept_fit names (hexadecimal_bits spelling) (hexadecimal_small spelling))
text_fits type.octet_string string.Bits spelling v e = carried (λ w. fits_kind type.octet_string w ≡ true) _ v e (octets_fit (binary_digits spelling) (binary_small spelling))
text_fits type.octet_string string.Hexadecimal spelling v e = carried (λ w. fits_kind type.octet_string w ≡ true) _ v e (octets_fit (hexadecimal_bits spelling) (hexadecimal_small spelling))
text_fits (type.characters k) string.Characters spelling v e = characters_fit k (quoted spelling) v e
text_fits _ _ spelling v e = absurd cc

arcs_said_fit : (kind : AbstractKind) (arcs : List WrittenArc) (v : AbstractValue) → arcs_value kind arcs ≡ Some v → fits_kind kind v ≡ true
arcs_said_fit type.object_identifier arcs v e = arcs_fit arcs v e
arcs_said_fit _ arcs v e = absurd cc

-- ---- names

same_numbers_here : (z y : ℤ) → ◌≡◌ {A = Option ℤ} (Some z) (Some y) → z ≡ y
same_numbers_here z y e = cc

either_true : (a b : Bool) → b ≡ true → (a || b) ≡ true
either_true true b e = refl
either_true false b e = e

one_item : (b : Bool) (n : NamedNumber) (ns : List NamedNumber) (z : ℤ) (later : Option ℤ) → (later ≡ Some z → is_item z ns ≡ true) → cond b (Some n.number) later ≡ Some z → is_item z (n ∷ ns) ≡ true
one_item true n ns z later inside e = let same : int_eq z n.number ≡ true = (Decides-int_eq z n.number).1 (sym (same_numbers_here n.number z e)) in rw same refl
one_item false n ns z later inside e = either_true (int_eq z n.number) (is_item z ns) (inside e)

named_item : (name : List ℕ) (ns : List NamedNumber) (z : ℤ) → number_named name ns ≡ Some z → is_item z ns ≡ true
named_item name [] z e = absurd cc
named_item name (n ∷ ns) z e = one_item (bytes_eq name n.name) n ns z (number_named name ns) (λ f. named_item name ns z f) e

numbered_fits : (kind : AbstractKind) (name : List ℕ) (z : ℤ) (v : AbstractValue) → own_number kind name ≡ Some z → numbered_value kind z ≡ Some v → fits_kind kind v ≡ true
numbered_fits (type.integer ns) name z v own e =
    let h = where_true (fits_128_bits z) (value.integer z) v e in
    subst (λ w. fits_kind (type.integer ns) w ≡ true) h.1 h.0
numbered_fits (type.enumerated ns) name z v own e =
    let h = where_true (fits_128_bits z) (value.enumerated z) v e in
    subst (λ w. fits_kind (type.enumerated ns) w ≡ true) h.1 (and_from (fits_128_bits z) (is_item z ns) h.0 (named_item name ns z own))
numbered_fits _ name z v own e = absurd cc

visible_fits : (t : AbstractType) (visible : Option Governed) (v : AbstractValue) → IfSome visible (λ g. IsTrue (fits g.ty g.value)) → visible_value t visible ≡ Some v → fits t v ≡ true
visible_fits t None v fit e = absurd cc
visible_fits t (Some g) v fit e =
    let h = where_true (same_base t g.ty) g.value v e in
    subst (λ w. fits t w ≡ true) h.1 (same_base_fits t g.ty g.value h.0 ∙ fit)

named_fits : (own : Option ℤ) (t : AbstractType) (name : List ℕ) (visible : Option Governed) (v : AbstractValue) → own_number (kind_of t) name ≡ own → IfSome visible (λ g. IsTrue (fits g.ty g.value))
    → named_value own t visible ≡ Some v → fits_kind (kind_of t) v ≡ true
named_fits (Some z) t name visible v own fit e = numbered_fits (kind_of t) name z v own e
named_fits None t name visible v own fit e = sym (fits_is t v) ∙ visible_fits t visible v fit e

-- ---- components and alternatives

alternative_fits : (cs : Components) (i : ℕ) (t : AbstractType) (v : AbstractValue) → component_type i cs ≡ Some t → fits t v ≡ true → fits_alternative cs i v ≡ true
alternative_fits no_components i t v e fit = absurd cc
alternative_fits (component name u presence rest) zero t v e fit = let same : t ≡ u = cc in subst (λ x. fits x v ≡ true) same fit
alternative_fits (component name u presence rest) (suc i) t v e fit = alternative_fits rest i t v e fit

chosen_fits : (kind : AbstractKind) (name : List ℕ) (Denoted : AbstractType → AbstractValue → Type 0) (v : AbstractValue) → is_proper_kind kind ≡ true
    → ((u : AbstractType) (w : AbstractValue) → is_proper u ≡ true → Denoted u w → fits u w ≡ true) → ChosenDenotes name (alternatives_of kind) Denoted v → fits_kind kind v ≡ true
chosen_fits (type.choice cs) name Denoted v proper fit h =
    let inside = fit h.0.ty h.1 (proper_there cs name h.0 (choice_parts cs proper).1 h.2) h.3 in
    subst (λ w. fits_kind (type.choice cs) w ≡ true) (sym h.4) (alternative_fits cs h.0.place h.0.ty h.1 (located_type cs name h.0 h.2) inside)
chosen_fits _ name Denoted v proper fit h = let none = h.2 in absurd cc

default_fits : (t : AbstractType) (d : AbstractValue) → is_proper_presence t (type.default d) ≡ true → fits t d ≡ true
default_fits t d e = (and_parts (fits t d) (is_short (der t d)) e).0

present_fits : (b : Bool) (t : AbstractType) (presence : AbstractPresence) (Denoted : AbstractValue → Type 0) (v : AbstractValue) → is_proper_presence t presence ≡ true
    → ((w : AbstractValue) → Denoted w → fits t w ≡ true) → FieldDenotes b Denoted presence (Some v) → fits t v ≡ true
present_fits true t presence Denoted v proper fit h = let same : h.0 ≡ v = sym (same_Some v h.0 h.1) in subst (λ w. fits t w ≡ true) same (fit h.0 h.2)
present_fits false t type.mandatory Denoted v proper fit h = absurd h
present_fits false t type.pending Denoted v proper fit h = absurd h
present_fits false t type.optional Denoted v proper fit h = absurd cc
present_fits false t (type.default d) Denoted v proper fit h = subst (λ w. fits t w ≡ true) (sym (same_Some v d h)) (default_fits t d proper)

absent_fits : (b : Bool) (presence : AbstractPresence) (Denoted : AbstractValue → Type 0) → FieldDenotes b Denoted presence None → may_be_absent presence ≡ true
absent_fits true presence Denoted h = let e = h.1 in absurd cc
absent_fits false type.mandatory Denoted h = absurd h
absent_fits false type.pending Denoted h = absurd h
absent_fits false type.optional Denoted h = refl
absent_fits false (type.default d) Denoted h = absurd cc

fields_fit : (given : List (Option ℕ)) (Denoted : ℕ → AbstractType → AbstractValue → Type 0) (i : ℕ) (cs : Components) (fs : Fields) → are_proper cs ≡ true
    → ((j : ℕ) (u : AbstractType) (w : AbstractValue) → is_proper u ≡ true → Denoted j u w → fits u w ≡ true) → FieldsDenote given Denoted i cs fs → fits_fields cs fs ≡ true
fields_fit given Denoted i no_components value.no_fields proper fit h = refl
fields_fit given Denoted i no_components (value.present v fs) proper fit h = absurd h
fields_fit given Denoted i no_components (value.absent fs) proper fit h = absurd h
fields_fit given Denoted i (component name t presence rest) value.no_fields proper fit h = absurd h
fields_fit given Denoted i (component name t presence rest) (value.present v fs) proper fit h =
    let p = proper_parts name t presence rest proper in
    and_from (fits t v) (fits_fields rest fs) (present_fits (is_among i given) t presence (Denoted i t) v p.1 (λ w d. fit i t w p.0 d) h.0) (fields_fit given Denoted (suc i) rest fs p.2 fit h.1)
fields_fit given Denoted i (component name t presence rest) (value.absent fs) proper fit h =
    let p = proper_parts name t presence rest proper in
    and_from (may_be_absent presence) (fits_fields rest fs) (absent_fits (is_among i given) presence (Denoted i t) h.0) (fields_fit given Denoted (suc i) rest fs p.2 fit h.1)

-- ---- elements

few_items : (vs : List AbstractValue) → are_few vs ≡ true → fitting.are_few (items_of vs) ≡ true
few_items vs few = ap (λ (n : ℕ). nat_le n 4294967295) (item_count_is vs) ∙ few

abbrev pub after_in : AbstractType → AbstractValue → AbstractValue → Bool
after_in t v w = descends (encoding_in t w) (encoding_in t v)

pub order_in : (t : AbstractType) → IsStrictWeakOrder (after_in t)
order_in t = record {
  one_way = λ v w. one_way (encoding_in t w) (encoding_in t v);
  chain = λ v w x h k. chain (encoding_in t x) (encoding_in t w) (encoding_in t v) k h;
}

inserted_in : (t : AbstractType) (v : AbstractValue) (ws : List AbstractValue) → insert_by (after_in t) v ws ≡ inserted t v ws
inserted_in t v [] = refl
inserted_in t v (w ∷ ws) = ap (λ (xs : List AbstractValue). cond (comes_after t v w) (w ∷ xs) (v ∷ w ∷ ws)) (inserted_in t v ws)

pub arranged_in : (t : AbstractType) (vs : List AbstractValue) → sorted_by (after_in t) vs ≡ arranged t vs
arranged_in t [] = refl
arranged_in t (v ∷ vs) = ap (insert_by (after_in t) v) (arranged_in t vs) ∙ inserted_in t v (arranged t vs)

pub arranged_ascend : (t : AbstractType) (vs : List AbstractValue) → Ascend (after_in t) (arranged t vs)
arranged_ascend t vs = subst (Ascend (after_in t)) (arranged_in t vs) (ascend_sorted (after_in t) (order_in t) vs)

-- a test of all elements doesn't depend on their order
one_inserted : (b : Bool) (test : AbstractValue → Bool) (v w : AbstractValue) (ws inside : List AbstractValue) → test v ≡ true → test w ≡ true → every_fits test (items_of ws) ≡ true → every_fits test (items_of inside) ≡ true
    → every_fits test (items_of (cond b (w ∷ inside) (v ∷ w ∷ ws))) ≡ true
one_inserted true test v w ws inside e f h more = and_from (test w) (every_fits test (items_of inside)) f more
one_inserted false test v w ws inside e f h more = and_from (test v) (every_fits test (items_of (w ∷ ws))) e (and_from (test w) (every_fits test (items_of ws)) f h)

every_inserted : (test : AbstractValue → Bool) (t : AbstractType) (v : AbstractValue) (ws : List AbstractValue) → test v ≡ true → every_fits test (items_of ws) ≡ true → every_fits test (items_of (inserted t v ws)) ≡ true
every_inserted test t v [] e h = and_from (test v) true e refl
every_inserted test t v (w ∷ ws) e h =
    let parts = and_parts (test w) (every_fits test (items_of ws)) h in
    one_inserted (comes_after t v w) test v w ws (inserted t v ws) e parts.0 parts.1 (every_inserted test t v ws e parts.1)

pub every_arranged : (test : AbstractValue → Bool) (t : AbstractType) (vs : List AbstractValue) → every_fits test (items_of vs) ≡ true → every_fits test (items_of (arranged t vs)) ≡ true
every_arranged test t [] h = refl
every_arranged test t (v ∷ vs) h =
    let parts = and_parts (test v) (every_fits test (items_of vs)) h in
    every_inserted test t v (arranged t vs) parts.0 (every_arranged test t vs parts.1)

longer : (b : Bool) (v w : AbstractValue) (ws inside : List AbstractValue) → length inside ≡ suc (length ws) → length (cond b (w ∷ inside) (v ∷ w ∷ ws)) ≡ suc (suc (length ws))
longer true v w ws inside e = ap suc e
longer false v w ws inside e = refl

length_inserted : (t : AbstractType) (v : AbstractValue) (ws : List AbstractValue) → length (inserted t v ws) ≡ suc (length ws)
length_inserted t v [] = refl
length_inserted t v (w ∷ ws) = longer (comes_after t v w) v w ws (inserted t v ws) (length_inserted t v ws)

pub length_arranged : (t : AbstractType) (vs : List AbstractValue) → length (arranged t vs) ≡ length vs
length_arranged t [] = refl
length_arranged t (v ∷ vs) = length_inserted t v (arranged t vs) ∙ ap suc (length_arranged t vs)

abbrev has_encoding : AbstractType → AbstractValue → Bool
has_encoding t v = is_short (der t v)

short_every : (t : AbstractType) (vs : List AbstractValue) → are_short t vs ≡ true → every_fits (has_encoding t) (items_of vs) ≡ true
short_every t [] h = refl
short_every t (v ∷ vs) h =
    let parts = and_parts (is_short (der t v)) (are_short t vs) h in
    and_from (is_short (der t v)) (every_fits (has_encoding t) (items_of vs)) parts.0 (short_every t vs parts.1)

short_encoding : (o : Option (List ℕ)) → is_short o ≡ true → o ≡ Some (octets_in o)
short_encoding None h = absurd cc
short_encoding (Some os) h = refl

encodings_of : AbstractType → List AbstractValue → List (List ℕ)
encodings_of t [] = []
encodings_of t (v ∷ vs) = encoding_in t v ∷ encodings_of t vs

encodings_are : (t : AbstractType) (vs : List AbstractValue) → every_fits (has_encoding t) (items_of vs) ≡ true → item_encodings (der t) (items_of vs) ≡ Some (encodings_of t vs)
unfolding encodings_of
encodings_are t [] h = refl
encodings_are t (v ∷ vs) h =
    let parts = and_parts (is_short (der t v)) (every_fits (has_encoding t) (items_of vs)) h in
    rw (short_encoding (der t v) parts.0, encodings_are t vs parts.1) refl

follow_ascends : (t : AbstractType) (v : AbstractValue) (vs : List AbstractValue) → Follow (after_in t) v vs → Ascend (after_in t) vs → ascend_from (encoding_in t v) (encodings_of t vs) ≡ true
unfolding encodings_of
follow_ascends t v [] follow up = refl
follow_ascends t v (w ∷ ws) follow up = and_from (not (descends (encoding_in t v) (encoding_in t w))) (ascend_from (encoding_in t w) (encodings_of t ws)) (rw follow.0 refl) (follow_ascends t w ws up.0 up.1)

all_ascend : (t : AbstractType) (vs : List AbstractValue) → Ascend (after_in t) vs → ascend_from [] (encodings_of t vs) ≡ true
unfolding encodings_of
all_ascend t [] up = refl
all_ascend t (v ∷ vs) up = follow_ascends t v vs up.0 up.1

set_fits : (t : AbstractType) (vs : List AbstractValue) → every_fits (fits t) (items_of vs) ≡ true → are_few vs ≡ true → are_short t vs ≡ true → fits_set (fits t) (der t) (items_of (arranged t vs)) ≡ true
set_fits t vs fit few short =
    let count : are_few (arranged t vs) ≡ true = ap (λ (n : ℕ). nat_le n 4294967295) (length_arranged t vs) ∙ few in
    let encodings = encodings_are t (arranged t vs) (every_arranged (has_encoding t) t vs (short_every t vs short)) in
    and_from (fits_items (fits t) (items_of (arranged t vs))) (are_ascending (item_encodings (der t) (items_of (arranged t vs))))
    (and_from (fitting.are_few (items_of (arranged t vs))) (every_fits (fits t) (items_of (arranged t vs))) (few_items (arranged t vs) count) (every_arranged (fits t) t vs fit))
    (ap are_ascending encodings ∙ all_ascend t (arranged t vs) (arranged_ascend t vs))

-- ---- values in braces

module _ (m : Meaning) (es : WrittenEntries)
    (elements : (u : AbstractType) (ws : List AbstractValue) → is_proper u ≡ true → EntriesSay m u es ws → every_fits (fits u) (items_of ws) ≡ true)
    (entries : (cs : Components) (i : ℕ) (u : AbstractType) (w : AbstractValue) → is_proper u ≡ true → EntrySays m cs es i u w → fits u w ≡ true) where
  braces_fit : (kind : AbstractKind) (v : AbstractValue) → is_proper_kind kind ≡ true → BracesDenote kind es (λ cs i u w. EntrySays m cs es i u w) (λ u ws. EntriesSay m u es ws) v → fits_kind kind v ≡ true
  braces_fit (type.sequence cs) v proper h =
      subst (λ w. fits_kind (type.sequence cs) w ≡ true) (sym h.1.2) (fields_fit (entry_places cs es) (λ i u w. EntrySays m cs es i u w) 0 cs h.1.0 (choice_parts cs proper).1 (λ j u w p d. entries cs j u w p d) h.1.1)
  braces_fit (type.set cs) v proper h =
      subst (λ w. fits_kind (type.set cs) w ≡ true) (sym h.1.2) (fields_fit (entry_places cs es) (λ i u w. EntrySays m cs es i u w) 0 cs h.1.0 (choice_parts cs proper).1 (λ j u w p d. entries cs j u w p d) h.1.1)
  braces_fit (type.sequence_of u) v proper h =
      subst (λ w. fits_kind (type.sequence_of u) w ≡ true) (sym h.3) (and_from (fitting.are_few (items_of h.0)) (every_fits (fits u) (items_of h.0)) (few_items h.0 h.2) (elements u h.0 proper h.1))
  braces_fit (type.set_of u) v proper h = subst (λ w. fits_kind (type.set_of u) w ≡ true) (sym h.4) (set_fits u h.0 (elements u h.0 proper h.1) h.2 h.3)
  braces_fit (type.bit_string []) v proper h = absurd h
  braces_fit (type.bit_string (name ∷ names)) v proper h = subst (λ w. fits_kind (type.bit_string (name ∷ names)) w ≡ true) (sym h.2) (named_fit name names h.0)
  braces_fit _ v proper h = absurd h

-- ---- all trees

mutual
  pub says_fits : (m : Meaning) → AreFitting m → (tree : WrittenValue) (t : AbstractType) (v : AbstractValue) → is_proper t ≡ true → Says m t tree v → fits t v ≡ true
  says_fits m fit (value_node site form) t v proper h = fits_is t v ∙ form_fits m fit form t v (proper_kind t proper) h

  form_fits : (m : Meaning) → AreFitting m → (form : WrittenValueForm) (t : AbstractType) (v : AbstractValue) → is_proper_kind (kind_of t) ≡ true → FormSays m t form v → fits_kind (kind_of t) v ≡ true
  form_fits m fit (written.boolean b) t v proper h = boolean_fits (kind_of t) b v h
  form_fits m fit written.null t v proper h = null_fits (kind_of t) v h
  form_fits m fit (written.integer n) t v proper h = integer_fits (kind_of t) n v h
  form_fits m fit (written.text k spelling) t v proper h = text_fits (kind_of t) k spelling v h
  form_fits m fit (written.reference name) t v proper h = named_fits (own_number (kind_of t) name) t name (m name) v refl (fit name) h
  form_fits m fit (written.chosen name tree) t v proper h = chosen_fits (kind_of t) name (λ u w. Says m u tree w) v proper (λ u w p s. says_fits m fit tree u w p s) h
  form_fits m fit (written.list es) t v proper h = braces_fit m es (λ u ws p s. entries_fit m fit es u ws p s) (λ cs i u w p s. entry_fits m fit es cs i u w p s) (kind_of t) v proper h
  form_fits m fit (written.arcs arcs) t v proper h = arcs_said_fit (kind_of t) arcs v h

  entry_fits : (m : Meaning) → AreFitting m → (es : WrittenEntries) (cs : Components) (i : ℕ) (t : AbstractType) (v : AbstractValue) → is_proper t ≡ true → EntrySays m cs es i t v → fits t v ≡ true
  entry_fits m fit no_entries cs i t v proper h = absurd h
  entry_fits m fit (entry site name tree rest) cs i t v proper (inl h) = says_fits m fit tree t v proper h.1
  entry_fits m fit (entry site name tree rest) cs i t v proper (inr h) = entry_fits m fit rest cs i t v proper h

  pub entries_fit : (m : Meaning) → AreFitting m → (es : WrittenEntries) (t : AbstractType) (ws : List AbstractValue) → is_proper t ≡ true → EntriesSay m t es ws → every_fits (fits t) (items_of ws) ≡ true
  entries_fit m fit no_entries t ws proper h = ap (λ (vs : List AbstractValue). every_fits (fits t) (items_of vs)) h
  entries_fit m fit (entry site None tree rest) t ws proper h =
      ap (λ (vs : List AbstractValue). every_fits (fits t) (items_of vs)) h.4
      ∙ and_from (fits t h.0) (every_fits (fits t) (items_of h.1)) (says_fits m fit tree t h.0 proper h.2) (entries_fit m fit rest t h.1 proper h.3)
  entries_fit m fit (entry site (Some name) tree rest) t ws proper h = absurd h
