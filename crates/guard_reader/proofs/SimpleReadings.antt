-- Simple kinds: what is asked of the value is tested on its contents octets.
use Rattle.std.proofs.Common.{◌≡◌, ℕ, ◌<◌, ◌^◌, Bool, true, false, cond, eqb, List, [], ◌∷◌, length, map, Option, Some, None, Ok, refl, sym, ap, ◌∙◌}
use Rattle.std.specs.Prelude.{ℤ, ◌||◌, not, option_map}
use Rattle.std.specs.List.{AllByRecursion}
use Rattle.std.specs.Ordering.{int_eq}
use Rattle.std.proofs.lemmas.Bool.{eqb-true}
use Rattle.std.proofs.lemmas.Str.{IsUtf8-from_is_utf8, encodes-chars}
use Rattle.guard_model.specs.AbstractType as type
use Rattle.guard_model.specs.AbstractType.{AbstractKind, NamedNumber}
use Rattle.guard_model.specs.AbstractValue as value
use Rattle.guard_model.specs.AbstractValue.{AbstractValue}
use Rattle.guard_model.specs.Kinds.{has_named_bits}
use Rattle.guard_model.specs.declared.ty.CharKind.{CharKind}
use Rattle.guard_model.specs.declared.ty.CharKind.TheVariants.{Numeric, Printable, Ia5, Visible, Utf8}
use Rattle.guard_der.specs.declared.breach.Code.{Code}
use Rattle.guard_der.specs.declared.breach.Code.TheVariants as code
use Rattle.guard_der.specs.Contents.{boolean_octet, character_octets}
use Rattle.guard_der.specs.Der.{contents_octets}
use Rattle.guard_model.specs.NamedLists.{is_item}
use Rattle.guard_der.specs.Octets.{signed_octets, twos_complement}
use Rattle.guard_der.specs.Reading as read
use Rattle.guard_der.specs.Reading.{contents_at, simple_at}
use Rattle.guard_der.specs.Simple.{simple_fault, simple_value, boolean_fault, boolean_of, integer_fault, bits_fault, bits_of, null_fault, is_text, characters_fault, characters_of}
use Rattle.guard_tables.specs.declared.slots.Slots.{Slots}
use Rattle.guard_tables.specs.Marking.{facts, conditions_marked, marked}
use Rattle.guard_tables.specs.Plan.{AbstractCondition, simple}
use Rattle.guard_tables.specs.Standing.{SimpleFor}
use Rattle.guard_reader.specs.Judging.{contents_judged, unless_fault}
use Rattle.guard_reader.specs.Octets.{ok}
use Rattle.guard_der.proofs.Numbers.Integers.{integer_takes}
use Rattle.guard_der.proofs.Types.AllKinds.{kind_lawful}

abbrev Digits : List ℕ → Type 0
Digits os = AllByRecursion (λ o. o < 256) os

-- what conditions look at is the value that was read
known : (one : AbstractKind) (cs : List AbstractCondition) (kind : AbstractKind) (at : ℕ) (os : List ℕ) (m : Slots) (fault : Option Code) (v : AbstractValue)
    → (fault ≡ None → contents_octets kind v ≡ Some os)
    → unless_fault fault (conditions_marked cs (facts v (Some os)) m) ≡ option_map (λ v. marked kind (simple one cs) v m) (ok (read.unless_fault at fault v))
unfolding marked
known one cs kind at os m (Some c) v spelled = refl
known one cs kind at os m None v spelled = ap (λ (x : Option (List ℕ)). Some (conditions_marked cs (facts v x) m)) (sym (spelled refl))

-- the same of a kind with other names
as_other : (one kind : AbstractKind) (cs : List AbstractCondition) (at : ℕ) (os : List ℕ) (m : Slots) → simple_fault one os ≡ simple_fault kind os → simple_value one os ≡ simple_value kind os
    → (simple_fault kind os ≡ None → contents_octets kind (simple_value kind os) ≡ Some os)
    → contents_judged (simple one cs) os m ≡ option_map (λ v. marked kind (simple one cs) v m) (ok (read.unless_fault at (simple_fault kind os) (simple_value kind os)))
unfolding contents_judged
as_other one kind cs at os m fault is spelled =
    ap (λ (f : Option Code). unless_fault f (conditions_marked cs (facts (simple_value one os) (Some os)) m)) fault
    ∙ ap (λ (v : AbstractValue). unless_fault (simple_fault kind os) (conditions_marked cs (facts v (Some os)) m)) is
    ∙ known one cs kind at os m (simple_fault kind os) (simple_value kind os) spelled

-- ---- contents octets of values that were read

boolean_tested : (o : ℕ) (zero full : Bool) → eqb o 0 ≡ zero → eqb o 255 ≡ full → cond (zero || full) None (Some code.BooleanContents) ≡ None → Some (boolean_octet (not zero) ∷ []) ≡ Some (o ∷ [])
boolean_tested o true full z f e = ap (λ (n : ℕ). Some (n ∷ [])) (sym (eqb-true o 0 z))
boolean_tested o false true z f e = ap (λ (n : ℕ). Some (n ∷ [])) (sym (eqb-true o 255 f))
boolean_tested o false false z f e = absurd cc

boolean_spelled : (os : List ℕ) → boolean_fault os ≡ None → contents_octets type.boolean (value.boolean (boolean_of os)) ≡ Some os
boolean_spelled [] e = absurd cc
boolean_spelled (o ∷ []) e = boolean_tested o (eqb o 0) (eqb o 255) refl refl e
boolean_spelled (o ∷ p ∷ os) e = absurd cc

integer_spelled : (os : List ℕ) → Digits os → integer_fault os ≡ None → Some (signed_octets (twos_complement os)) ≡ Some os
integer_spelled os digits e = ap (λ (x : List ℕ). Some x) (integer_takes os digits e).0

no_integer_fault : (fault : Option Code) (item : Bool) → ◌≡◌ {A = Option Code} (elim fault [ Some c ↦ Some c | None ↦ cond item None (Some code.UnknownEnumeration) ]) None → fault ≡ None
no_integer_fault None item e = refl
no_integer_fault (Some c) item e = absurd cc

bits_spelled : (names : List NamedNumber) (os : List ℕ) → bits_fault names os ≡ None → contents_octets (type.bit_string names) (bits_of os) ≡ Some os
bits_spelled names [] e = absurd cc
bits_spelled names (unused ∷ os) e = refl

null_spelled : (os : List ℕ) → null_fault os ≡ None → Some [] ≡ Some os
null_spelled [] e = refl
null_spelled (o ∷ os) e = absurd cc

no_fault : (b : Bool) (c : Code) → cond b None (Some c) ≡ None → b ≡ true
no_fault true c e = refl
no_fault false c e = absurd cc

text_spelled : (k : CharKind) (os : List ℕ) → is_text k os ≡ true → character_octets k (characters_of k os) ≡ os
text_spelled Utf8 os e = encodes-chars os (IsUtf8-from_is_utf8 os e)
text_spelled Numeric os e = refl
text_spelled Printable os e = refl
text_spelled Ia5 os e = refl
text_spelled Visible os e = refl

unless_ok : (at : ℕ) (fault : Option Code) (v : AbstractValue) → fault ≡ None → read.unless_fault at fault v ≡ Ok v
unless_ok at None v e = refl
unless_ok at (Some c) v e = absurd cc

-- ---- kinds with other names

abbrev is_number : ℤ → List ℤ → Bool
is_number z [] = false
is_number z (n ∷ ns) = int_eq z n || is_number z ns

item_numbers : (z : ℤ) (items : List NamedNumber) → is_item z items ≡ is_number z (map (λ n. n.number) items)
item_numbers z [] = refl
item_numbers z (n ∷ ns) = ap (λ (b : Bool). int_eq z n.number || b) (item_numbers z ns)

item_alike : (z : ℤ) (one other : List NamedNumber) → map (λ n. n.number) one ≡ map (λ n. n.number) other → is_item z one ≡ is_item z other
item_alike z one other e = item_numbers z one ∙ ap (is_number z) e ∙ sym (item_numbers z other)

bits_alike : (one other : List NamedNumber) (os : List ℕ) → has_named_bits (type.bit_string one) ≡ has_named_bits (type.bit_string other) → bits_fault one os ≡ bits_fault other os
bits_alike [] [] os e = refl
bits_alike [] (n ∷ ns) os e = absurd cc
bits_alike (n ∷ ns) [] os e = absurd cc
bits_alike (n ∷ ns) (k ∷ ks) [] e = refl
bits_alike (n ∷ ns) (k ∷ ks) (unused ∷ os) e = refl

-- ---- all simple kinds

pub simple_read : (one : AbstractKind) (cs : List AbstractCondition) (kind : AbstractKind) → SimpleFor one kind → (at start : ℕ) (os : List ℕ) (m : Slots) → Digits os → length os < 2 ^ 32
    → contents_judged (simple one cs) os m ≡ option_map (λ v. marked kind (simple one cs) v m) (ok (contents_at kind at start os))
unfolding contents_at simple_at
simple_read type.boolean cs type.boolean f at start os m digits short = as_other type.boolean type.boolean cs at os m refl refl (boolean_spelled os)
simple_read (type.integer ns) cs (type.integer ks) f at start os m digits short = as_other (type.integer ns) (type.integer ks) cs at os m refl refl (integer_spelled os digits)
simple_read (type.bit_string ns) cs (type.bit_string ks) f at start os m digits short = as_other (type.bit_string ns) (type.bit_string ks) cs at os m (bits_alike ns ks os f) refl (bits_spelled ks os)
simple_read type.octet_string cs type.octet_string f at start os m digits short = as_other type.octet_string type.octet_string cs at os m refl refl (λ e. refl)
simple_read type.null cs type.null f at start os m digits short = as_other type.null type.null cs at os m refl refl (null_spelled os)
simple_read type.object_identifier cs type.object_identifier f at start os m digits short =
    as_other type.object_identifier type.object_identifier cs at os m refl refl (λ e. ((kind_lawful type.object_identifier refl refl).takes at start os (simple_value type.object_identifier os) digits short (unless_ok at (simple_fault type.object_identifier os) (simple_value type.object_identifier os) e)).1)
simple_read (type.enumerated ns) cs (type.enumerated ks) f at start os m digits short =
    as_other (type.enumerated ns) (type.enumerated ks) cs at os m
    (ap (λ (b : Bool). elim (integer_fault os) [ Some c ↦ Some c | None ↦ cond b None (Some code.UnknownEnumeration) ]) (item_alike (twos_complement os) ns ks f)) refl
    (λ e. integer_spelled os digits (no_integer_fault (integer_fault os) (is_item (twos_complement os) ks) e))
simple_read (type.characters j) cs (type.characters k) f at start os m digits short =
    as_other (type.characters j) (type.characters k) cs at os m (ap (λ (k : CharKind). characters_fault k os) f) (ap (λ (k : CharKind). value.characters (characters_of k os)) f)
    (λ e. ap (λ (x : List ℕ). Some x) (text_spelled k os (no_fault (is_text k os) code.Characters e)))
simple_read one cs kind f at start os m digits short = absurd f
