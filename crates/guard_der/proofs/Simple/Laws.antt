-- Contents of the simple kinds: without a fault they are those of the value that they say, and the other way round.
use Rattle.std.proofs.Common.{◌≡◌, ℕ, zero, suc, ◌+◌, ◌-◌, ◌*◌, ◌^◌, ◌<◌, ◌≤◌, Bool, true, false, cond, ltb, leb, eqb, List, [], ◌∷◌, ◌++◌, length, Option, Some, None, Ok, Err, refl, sym, ap, ◌∙◌, arith, inl, inr}
use Rattle.std.specs.Prelude.{IsTrue, ◌&&◌, ◌||◌, not, flat_map, encode_utf8_all}
use Rattle.std.proofs.lemmas.Bool.{cond-true, cond-false, lt-ltb, le-ltb, ltb-true, leb-true, le-leb, eqb-true, ne_eqb, cases_lt, cases_eq, and_parts, and_from, true≢false}
use Rattle.std.proofs.lemmas.Str.{IsUtf8-from_is_utf8, is_utf8-from_IsUtf8, scalars-chars, encodes-chars, chars-encodes}
use Rattle.guard_model.specs.declared.ty.CharKind.{CharKind}
use Rattle.guard_model.specs.declared.ty.CharKind.TheVariants.{Numeric, Printable, Ia5, Visible, Utf8}
use Rattle.guard_model.specs.AbstractType as type
use Rattle.guard_model.specs.AbstractType.{AbstractKind, NamedNumber}
use Rattle.guard_model.specs.AbstractValue as value
use Rattle.guard_model.specs.AbstractValue.{AbstractValue}
use Rattle.guard_der.specs.declared.breach.Code.{Code}
use Rattle.guard_der.specs.declared.breach.Code.TheVariants as code
use Rattle.guard_der.specs.Octets.{signed_octets, twos_complement, base_128}
use Rattle.guard_der.specs.Contents.{boolean_octet, arcs_octets, character_octets}
use Rattle.guard_der.specs.Der.{contents_octets}
use Rattle.guard_der.specs.Fits.{fits_kind, all_below, has_proper_end, has_zero_end, ends_as_named, fits_bits, fits_arcs}
use Rattle.guard_model.specs.NamedLists.{is_item}
use Rattle.guard_model.specs.Alphabets.{fits_characters}
use Rattle.guard_model.specs.Limits.{fits_128_bits}
use Rattle.guard_der.specs.Simple.{simple_fault, simple_value, integer_fault, are_subidentifiers, subidentifiers, arcs_of, is_text, characters_of}
use Rattle.guard_der.specs.Breach.{AbstractBreach, FaultInSimple, here, after}
use Rattle.guard_der.specs.Reading.{simple_at, unless_fault, fault}
use Rattle.guard_der.proofs.Elements.Steps.{fault_after}
use Rattle.guard_der.proofs.Numbers.Digits.{AreDigits}
use Rattle.guard_der.proofs.Numbers.Integers.{integer_takes, integer_again}
use Rattle.guard_der.proofs.Numbers.Subidentifiers.{takes_start, again_all, base_some}
use Rattle.guard_der.proofs.Elements.Laws.{LawfulBody, Found}
use Rattle.guard_model.proofs.Results.{same_Ok, same_Err}
use Rattle.std.proofs.lemmas.Option.{same_Some}

pub record SimpleLaw (kind : AbstractKind) : Type 0 where
  pub takes : (os : List ℕ) → AreDigits 256 os → simple_fault kind os ≡ None → IsTrue (fits_kind kind (simple_value kind os)) × (contents_octets kind (simple_value kind os) ≡ Some os)
  pub again : (os : List ℕ) (v : AbstractValue) → IsTrue (fits_kind kind v) → contents_octets kind v ≡ Some os → (simple_fault kind os ≡ None) × (simple_value kind os ≡ v)

-- ---- what reading makes of it

read_ok : (f : Option Code) (at : ℕ) (x v : AbstractValue) → unless_fault at f x ≡ Ok v → (f ≡ None) × (x ≡ v)
read_ok None at x v e = (refl, same_Ok {F = AbstractBreach} x v e)
read_ok (Some c) at x v e = absurd cc

read_again : (f : Option Code) (at : ℕ) (x v : AbstractValue) → f ≡ None → x ≡ v → unless_fault at f x ≡ Ok v
read_again None at x v e is = ap (λ (v : AbstractValue). Ok v) is
read_again (Some c) at x v e is = absurd cc

read_err : (f : Option Code) (at : ℕ) (x : AbstractValue) (b : AbstractBreach) → unless_fault at f x ≡ Err b → (c : Code) × (f ≡ Some c) × (b ≡ fault c at)
read_err None at x b e = absurd cc
read_err (Some c) at x b e = (c, refl, sym (same_Err {A = AbstractValue} (fault c at) b e))

read_err_again : (f : Option Code) (at : ℕ) (x : AbstractValue) (c : Code) → f ≡ Some c → unless_fault at f x ≡ Err (fault c at)
read_err_again None at x c e = absurd cc
read_err_again (Some d) at x c e = ap (λ (c : Code). Err (fault c at)) (same_Some d c e)

simple_takes : (kind : AbstractKind) → SimpleLaw kind → (at start : ℕ) (os : List ℕ) (v : AbstractValue) → AreDigits 256 os → length os < 2 ^ 32 → simple_at kind at start os ≡ Ok v → IsTrue (fits_kind kind v) × (contents_octets kind v ≡ Some os)
unfolding simple_at
simple_takes kind law at start os v digits short e =
    let r = read_ok (simple_fault kind os) at (simple_value kind os) v e in
    rw (← r.1) (law.takes os digits r.0)

simple_again : (kind : AbstractKind) → SimpleLaw kind → (at start : ℕ) (os : List ℕ) (v : AbstractValue) → IsTrue (fits_kind kind v) → contents_octets kind v ≡ Some os → simple_at kind at start os ≡ Ok v
unfolding simple_at
simple_again kind law at start os v fits e = let a = law.again os v fits e in read_again (simple_fault kind os) at (simple_value kind os) v a.0 a.1

simple_found : (kind : AbstractKind) (at size : ℕ) (os : List ℕ) (b : AbstractBreach) → AreDigits 256 os → length os < 2 ^ 32 → simple_at kind at (at + size) os ≡ Err b → Found (FaultInSimple kind size) at os b
unfolding simple_at
simple_found kind at size os b digits short e =
    let r = read_err (simple_fault kind os) at (simple_value kind os) b e in
    record { inner = here r.0; found = (r.0, r.1, refl); seen = r.2 ∙ fault_after r.0 at }

simple_refound : (kind : AbstractKind) (at size : ℕ) (os : List ℕ) (c : AbstractBreach) → FaultInSimple kind size os c → simple_at kind at (at + size) os ≡ Err (after at c)
unfolding simple_at
simple_refound kind at size os c (why, found, is) = read_err_again (simple_fault kind os) at (simple_value kind os) why found ∙ ap (λ (b : AbstractBreach). Err b) (fault_after why at ∙ ap (after at) (sym is))

pub simple_paths : (kind : AbstractKind) (at start : ℕ) (os : List ℕ) (b : AbstractBreach) → simple_at kind at start os ≡ Err b → length b.path ≤ 0
unfolding simple_at
simple_paths kind at start os b e = let r = read_err (simple_fault kind os) at (simple_value kind os) b e in omega (arith, ap (λ (b : AbstractBreach). length b.path) r.2)

pub simple_lawful : (kind : AbstractKind) → SimpleLaw kind → LawfulBody (fits_kind kind) (contents_octets kind) (simple_at kind) (FaultInSimple kind) 0
simple_lawful kind law = record {
  takes = simple_takes kind law;
  again = simple_again kind law;
  fault = simple_found kind;
  found = simple_refound kind;
  paths = simple_paths kind;
}

-- ---- BOOLEAN, NULL, OCTET STRING

no_fault : {A : Type 0} (b : Bool) (c : A) → cond b None (Some c) ≡ None → b ≡ true
no_fault true c e = refl
no_fault false c e = absurd cc

one_of : (o : ℕ) → (eqb o 0 || eqb o 255) ≡ true → boolean_octet (not (eqb o 0)) ≡ o
one_of o e =
    elim (cases_eq o 0) [
      | inl zeros ↦ rw zeros refl
      | inr other ↦ let some : eqb o 0 ≡ false = ne_eqb o 0 other in
          ap (λ (b : Bool). boolean_octet (not b)) some ∙ sym (eqb-true o 255 (rw some at e))
    ]

boolean_takes : (os : List ℕ) → AreDigits 256 os → simple_fault type.boolean os ≡ None → IsTrue (fits_kind type.boolean (simple_value type.boolean os)) × (contents_octets type.boolean (simple_value type.boolean os) ≡ Some os)
boolean_takes [] digits e = absurd cc
boolean_takes (o ∷ p ∷ os) digits e = absurd cc
boolean_takes (o ∷ []) digits e = (refl, ap (λ (n : ℕ). Some (n ∷ [])) (one_of o (no_fault (eqb o 0 || eqb o 255) code.BooleanContents e)))

boolean_bit : (b : Bool) → (simple_fault type.boolean (boolean_octet b ∷ []) ≡ None) × (simple_value type.boolean (boolean_octet b ∷ []) ≡ value.boolean b)
boolean_bit true = (refl, refl)
boolean_bit false = (refl, refl)

boolean_again : (os : List ℕ) (v : AbstractValue) → IsTrue (fits_kind type.boolean v) → contents_octets type.boolean v ≡ Some os → (simple_fault type.boolean os ≡ None) × (simple_value type.boolean os ≡ v)
boolean_again os (value.boolean b) fits e = rw (← same_Some (boolean_octet b ∷ []) os e) (boolean_bit b)
boolean_again os v fits e = absurd cc

pub boolean_law : SimpleLaw type.boolean
boolean_law = record { takes = boolean_takes; again = boolean_again }

null_takes : (os : List ℕ) → AreDigits 256 os → simple_fault type.null os ≡ None → IsTrue (fits_kind type.null (simple_value type.null os)) × (contents_octets type.null (simple_value type.null os) ≡ Some os)
null_takes [] digits e = (refl, refl)
null_takes (o ∷ os) digits e = absurd cc

null_again : (os : List ℕ) (v : AbstractValue) → IsTrue (fits_kind type.null v) → contents_octets type.null v ≡ Some os → (simple_fault type.null os ≡ None) × (simple_value type.null os ≡ v)
null_again os value.null fits e = rw (← same_Some [] os e) (refl, refl)
null_again os v fits e = absurd cc

pub null_law : SimpleLaw type.null
null_law = record { takes = null_takes; again = null_again }

pub all_octets : (os : List ℕ) → AreDigits 256 os → all_below 256 os ≡ true
all_octets [] digits = refl
all_octets (o ∷ os) digits = and_from (ltb o 256) (all_below 256 os) (lt-ltb o 256 digits.0) (all_octets os digits.1)

octets_again : (os : List ℕ) (v : AbstractValue) → IsTrue (fits_kind type.octet_string v) → contents_octets type.octet_string v ≡ Some os → (simple_fault type.octet_string os ≡ None) × (simple_value type.octet_string os ≡ v)
octets_again os (value.octet_string x) fits e = (refl, ap value.octet_string (sym (same_Some x os e)))
octets_again os v fits e = absurd cc

pub octets_law : SimpleLaw type.octet_string
octets_law = record { takes = λ os digits e. (all_octets os digits, refl); again = octets_again }

-- ---- INTEGER, ENUMERATED

integer_values : (ns : List NamedNumber) (os : List ℕ) (v : AbstractValue) → IsTrue (fits_kind (type.integer ns) v) → contents_octets (type.integer ns) v ≡ Some os → (simple_fault (type.integer ns) os ≡ None) × (simple_value (type.integer ns) os ≡ v)
integer_values ns os (value.integer z) fits e = let a = integer_again z fits in rw (← same_Some (signed_octets z) os e) (a.0, ap value.integer a.1)
integer_values ns os v fits e = absurd cc

pub integer_law : (ns : List NamedNumber) → SimpleLaw (type.integer ns)
integer_law ns = record {
  takes = λ os digits e. let t = integer_takes os digits e in (t.1, ap (λ (x : List ℕ). Some x) t.0);
  again = integer_values ns;
}

no_number_fault : (f : Option Code) (b : Bool) → ◌≡◌ {A = Option Code} (elim f [ Some c ↦ Some c | None ↦ cond b None (Some code.UnknownEnumeration) ]) None → (f ≡ None) × (b ≡ true)
no_number_fault None b e = (refl, no_fault b code.UnknownEnumeration e)
no_number_fault (Some c) b e = absurd cc

known_number : (f : Option Code) (b : Bool) → f ≡ None → b ≡ true → ◌≡◌ {A = Option Code} (elim f [ Some c ↦ Some c | None ↦ cond b None (Some code.UnknownEnumeration) ]) None
known_number None b e is = cond-true b _ _ is
known_number (Some c) b e is = absurd cc

enumerated_values : (ns : List NamedNumber) (os : List ℕ) (v : AbstractValue) → IsTrue (fits_kind (type.enumerated ns) v) → contents_octets (type.enumerated ns) v ≡ Some os → (simple_fault (type.enumerated ns) os ≡ None) × (simple_value (type.enumerated ns) os ≡ v)
enumerated_values ns os (value.enumerated z) fits e =
    let f = and_parts (fits_128_bits z) (is_item z ns) fits in
    let a = integer_again z f.0 in
    rw (← same_Some (signed_octets z) os e) (known_number (integer_fault (signed_octets z)) (is_item (twos_complement (signed_octets z)) ns) a.0 (rw a.1 f.1), ap value.enumerated a.1)
enumerated_values ns os v fits e = absurd cc

pub enumerated_law : (ns : List NamedNumber) → SimpleLaw (type.enumerated ns)
enumerated_law ns = record {
  takes = λ os digits e.
      let f = no_number_fault (integer_fault os) (is_item (twos_complement os) ns) e in
      let t = integer_takes os digits f.0 in
      (and_from (fits_128_bits (twos_complement os)) (is_item (twos_complement os) ns) t.1 f.1, ap (λ (x : List ℕ). Some x) t.0);
  again = enumerated_values ns;
}

-- ---- BIT STRING

abbrev end_fault : Bool → Bool → Bool → Option Code
end_fault proper zeros named = cond (not proper) (Some code.BitStringContents) (cond (not zeros) (Some code.UnusedBits) (cond (not named) (Some code.TrailingZeroBit) None))

no_end_fault : (proper zeros named : Bool) → end_fault proper zeros named ≡ None → (proper ≡ true) × (zeros ≡ true) × (named ≡ true)
no_end_fault true true true e = (refl, refl, refl)
no_end_fault true true false e = absurd cc
no_end_fault true false named e = absurd cc
no_end_fault false zeros named e = absurd cc

fine_end : (proper zeros named : Bool) → proper ≡ true → zeros ≡ true → named ≡ true → end_fault proper zeros named ≡ None
fine_end proper zeros named p q r = rw (p, q, r) refl

bits_take : (ns : List NamedNumber) (os : List ℕ) → AreDigits 256 os → simple_fault (type.bit_string ns) os ≡ None
    → IsTrue (fits_kind (type.bit_string ns) (simple_value (type.bit_string ns) os)) × (contents_octets (type.bit_string ns) (simple_value (type.bit_string ns) os) ≡ Some os)
bits_take ns [] digits e = absurd cc
bits_take ns (unused ∷ os) digits e =
    let f = no_end_fault (has_proper_end os unused) (has_zero_end os unused) (ends_as_named ns os unused) e in
    let octets = and_from (all_below 256 os) (has_proper_end os unused) (all_octets os digits.1) f.0 in
    (and_from (fits_bits os unused) (ends_as_named ns os unused) (and_from (all_below 256 os && has_proper_end os unused) (has_zero_end os unused) octets f.1) f.2, refl)

bits_again : (ns : List NamedNumber) (os : List ℕ) (v : AbstractValue) → IsTrue (fits_kind (type.bit_string ns) v) → contents_octets (type.bit_string ns) v ≡ Some os
    → (simple_fault (type.bit_string ns) os ≡ None) × (simple_value (type.bit_string ns) os ≡ v)
bits_again ns os (value.bit_string x unused) fits e =
    let n = and_parts (fits_bits x unused) (ends_as_named ns x unused) fits in
    let a = and_parts (all_below 256 x && has_proper_end x unused) (has_zero_end x unused) n.0 in
    let b = and_parts (all_below 256 x) (has_proper_end x unused) a.0 in
    rw (← same_Some (unused ∷ x) os e) (fine_end (has_proper_end x unused) (has_zero_end x unused) (ends_as_named ns x unused) b.1 a.1 n.1, refl)
bits_again ns os v fits e = absurd cc

pub bits_law : (ns : List NamedNumber) → SimpleLaw (type.bit_string ns)
bits_law ns = record { takes = bits_take ns; again = bits_again ns }

-- ---- OBJECT IDENTIFIER

no_id_fault : (form below : Bool) → ◌≡◌ {A = Option Code} (cond form (cond below None (Some code.ObjectIdTooLong)) (Some code.ObjectIdContents)) None → (form ≡ true) × (below ≡ true)
no_id_fault true true e = (refl, refl)
no_id_fault true false e = absurd cc
no_id_fault false below e = absurd cc

fine_id : (form below : Bool) → form ≡ true → below ≡ true → ◌≡◌ {A = Option Code} (cond form (cond below None (Some code.ObjectIdTooLong)) (Some code.ObjectIdContents)) None
fine_id true true p q = refl
fine_id true false p q = absurd cc
fine_id false below p q = absurd cc

-- the arcs of subidentifiers
first_arcs : (s : ℕ) (rest : List ℕ) → s < 2 ^ 128 → all_below (2 ^ 128) rest ≡ true → (fits_arcs (arcs_of (s ∷ rest)) ≡ true) × (arcs_octets (arcs_of (s ∷ rest)) ≡ flat_map base_128 (s ∷ rest))
first_arcs s rest small below =
    elim (cases_lt s 40) [
      | inl zeros ↦
          let number : 40 * 0 + s ≡ s = omega arith in
          rw (cond-true (ltb s 40) (0 ∷ s ∷ rest) (cond (ltb s 80) (1 ∷ (s - 40) ∷ rest) (2 ∷ (s - 80) ∷ rest)) (lt-ltb s 40 zeros)) (
            and_from ((true && (false || leb s 39)) && ltb (40 * 0 + s) (2 ^ 128)) (all_below (2 ^ 128) rest) (and_from (leb s 39) (ltb (40 * 0 + s) (2 ^ 128)) (le-leb s 39 (omega (arith, zeros))) (rw number (lt-ltb s (2 ^ 128) small))) below,
            ap (λ (n : ℕ). base_128 n ++ flat_map base_128 rest) number,
          )
      | inr more ↦ elim (cases_lt s 80) [
        | inl ones ↦
            let number : 40 * 1 + (s - 40) ≡ s = omega arith in
            rw (cond-false (ltb s 40) (0 ∷ s ∷ rest) (cond (ltb s 80) (1 ∷ (s - 40) ∷ rest) (2 ∷ (s - 80) ∷ rest)) (le-ltb s 40 more), cond-true (ltb s 80) (1 ∷ (s - 40) ∷ rest) (2 ∷ (s - 80) ∷ rest) (lt-ltb s 80 ones)) (
              and_from ((true && (false || leb (s - 40) 39)) && ltb (40 * 1 + (s - 40)) (2 ^ 128)) (all_below (2 ^ 128) rest) (and_from (leb (s - 40) 39) (ltb (40 * 1 + (s - 40)) (2 ^ 128)) (le-leb (s - 40) 39 (omega (arith, ones))) (rw number (lt-ltb s (2 ^ 128) small))) below,
              ap (λ (n : ℕ). base_128 n ++ flat_map base_128 rest) number,
            )
        | inr twos ↦
            let number : 40 * 2 + (s - 80) ≡ s = omega arith in
            rw (cond-false (ltb s 40) (0 ∷ s ∷ rest) (cond (ltb s 80) (1 ∷ (s - 40) ∷ rest) (2 ∷ (s - 80) ∷ rest)) (le-ltb s 40 more), cond-false (ltb s 80) (1 ∷ (s - 40) ∷ rest) (2 ∷ (s - 80) ∷ rest) (le-ltb s 80 twos)) (
              and_from (ltb (40 * 2 + (s - 80)) (2 ^ 128)) (all_below (2 ^ 128) rest) (rw number (lt-ltb s (2 ^ 128) small)) below,
              ap (λ (n : ℕ). base_128 n ++ flat_map base_128 rest) number,
            )
      ]
    ]

arcs_take : (ss : List ℕ) → 0 < length ss → all_below (2 ^ 128) ss ≡ true → (fits_arcs (arcs_of ss) ≡ true) × (arcs_octets (arcs_of ss) ≡ flat_map base_128 ss)
arcs_take [] some below = absurd (omega arith)
arcs_take (s ∷ rest) some below = let b = and_parts (ltb s (2 ^ 128)) (all_below (2 ^ 128) rest) below in first_arcs s rest (ltb-true s (2 ^ 128) b.0) b.1

no_numbers : (ns os : List ℕ) → flat_map base_128 ns ≡ os → not (eqb (length os) 0) ≡ true → 0 < length ns
no_numbers [] os e some = absurd (true≢false (sym some ∙ ap (λ (x : List ℕ). not (eqb (length x) 0)) (sym e)))
no_numbers (n ∷ ns) os e some = omega arith

some_numbers : (os : List ℕ) → not (eqb (length os) 0) ≡ true → flat_map base_128 (subidentifiers 0 os) ≡ os → 0 < length (subidentifiers 0 os)
some_numbers os some whole = no_numbers (subidentifiers 0 os) os whole some

-- a number has some octets
some_more : (xs ys : List ℕ) → 0 < length xs → not (eqb (length (xs ++ ys)) 0) ≡ true
some_more [] ys some = absurd (omega arith)
some_more (x ∷ xs) ys some = ap not (ne_eqb (suc (length (xs ++ ys))) 0 (λ e. absurd (omega (arith, e))))

some_octets : (n : ℕ) (rest : List ℕ) → not (eqb (length (base_128 n ++ rest)) 0) ≡ true
some_octets n rest = some_more (base_128 n) rest (base_some n)

split : (x y : ℕ) (arcs : List ℕ) → x ≤ 2 → (eqb x 2 || leb y 39) ≡ true → arcs_of ((40 * x + y) ∷ arcs) ≡ x ∷ y ∷ arcs
split zero y arcs two low =
    let number : 40 * 0 + y ≡ y = omega arith in
    ap (λ (n : ℕ). arcs_of (n ∷ arcs)) number ∙ cond-true (ltb y 40) _ _ (lt-ltb y 40 (omega (arith, leb-true y 39 low)))
split (suc zero) y arcs two low =
    let small : y ≤ 39 = leb-true y 39 low in
    let back : (40 * 1 + y) - 40 ≡ y = omega arith in
    cond-false (ltb (40 * 1 + y) 40) _ _ (le-ltb (40 * 1 + y) 40 (omega arith)) ∙ cond-true (ltb (40 * 1 + y) 80) _ _ (lt-ltb (40 * 1 + y) 80 (omega (arith, small))) ∙ ap (λ (n : ℕ). 1 ∷ n ∷ arcs) back
split (suc (suc zero)) y arcs two low =
    let back : (40 * 2 + y) - 80 ≡ y = omega arith in
    cond-false (ltb (40 * 2 + y) 40) _ _ (le-ltb (40 * 2 + y) 40 (omega arith)) ∙ cond-false (ltb (40 * 2 + y) 80) _ _ (le-ltb (40 * 2 + y) 80 (omega arith)) ∙ ap (λ (n : ℕ). 2 ∷ n ∷ arcs) back
split (suc (suc (suc x))) y arcs two low = absurd (omega (arith, two))

id_takes : (os : List ℕ) → AreDigits 256 os → simple_fault type.object_identifier os ≡ None → IsTrue (fits_kind type.object_identifier (simple_value type.object_identifier os)) × (contents_octets type.object_identifier (simple_value type.object_identifier os) ≡ Some os)
id_takes os digits e =
    let f = no_id_fault (not (eqb (length os) 0) && are_subidentifiers true os) (all_below (2 ^ 128) (subidentifiers 0 os)) e in
    let g = and_parts (not (eqb (length os) 0)) (are_subidentifiers true os) f.0 in
    let whole = takes_start os digits g.1 f.1 in
    let a = arcs_take (subidentifiers 0 os) (some_numbers os g.0 whole) f.1 in
    (a.0, ap (λ (x : List ℕ). Some x) (a.1 ∙ whole))

arcs_again : (x y : ℕ) (arcs : List ℕ) → fits_arcs (x ∷ y ∷ arcs) ≡ true → (all_below (2 ^ 128) ((40 * x + y) ∷ arcs) ≡ true) × (arcs_of ((40 * x + y) ∷ arcs) ≡ x ∷ y ∷ arcs)
arcs_again x y arcs fits =
    let a = and_parts ((leb x 2 && (eqb x 2 || leb y 39)) && ltb (40 * x + y) (2 ^ 128)) (all_below (2 ^ 128) arcs) fits in
    let b = and_parts (leb x 2 && (eqb x 2 || leb y 39)) (ltb (40 * x + y) (2 ^ 128)) a.0 in
    let c = and_parts (leb x 2) (eqb x 2 || leb y 39) b.0 in
    (and_from (ltb (40 * x + y) (2 ^ 128)) (all_below (2 ^ 128) arcs) b.1 a.1, split x y arcs (leb-true x 2 c.0) c.1)

id_values : (os : List ℕ) (v : AbstractValue) → IsTrue (fits_kind type.object_identifier v) → contents_octets type.object_identifier v ≡ Some os → (simple_fault type.object_identifier os ≡ None) × (simple_value type.object_identifier os ≡ v)
id_values os (value.object_identifier []) fits e = absurd cc
id_values os (value.object_identifier (x ∷ [])) fits e = absurd cc
id_values os (value.object_identifier (x ∷ y ∷ arcs)) fits e =
    let a = arcs_again x y arcs fits in
    let n = again_all ((40 * x + y) ∷ arcs) a.0 in
    let some = some_octets (40 * x + y) (flat_map base_128 arcs) in
    rw (← same_Some (arcs_octets (x ∷ y ∷ arcs)) os e) (
      fine_id (not (eqb (length (arcs_octets (x ∷ y ∷ arcs))) 0) && are_subidentifiers true (arcs_octets (x ∷ y ∷ arcs))) (all_below (2 ^ 128) (subidentifiers 0 (arcs_octets (x ∷ y ∷ arcs))))
          (and_from (not (eqb (length (arcs_octets (x ∷ y ∷ arcs))) 0)) (are_subidentifiers true (arcs_octets (x ∷ y ∷ arcs))) some n.0) (rw n.1 a.0),
      rw n.1 (ap value.object_identifier a.1),
    )
id_values os v fits e = absurd cc

pub id_law : SimpleLaw type.object_identifier
id_law = record { takes = id_takes; again = id_values }

-- ---- character strings

text_take : (k : CharKind) (os : List ℕ) → is_text k os ≡ true → (fits_characters k (characters_of k os) ≡ true) × (character_octets k (characters_of k os) ≡ os)
text_take Utf8 os e = let u = IsUtf8-from_is_utf8 os e in (scalars-chars os u, encodes-chars os u)
text_take Numeric os e = (e, refl)
text_take Printable os e = (e, refl)
text_take Ia5 os e = (e, refl)
text_take Visible os e = (e, refl)

text_again : (k : CharKind) (cs : List ℕ) → fits_characters k cs ≡ true → (is_text k (character_octets k cs) ≡ true) × (characters_of k (character_octets k cs) ≡ cs)
text_again Utf8 cs e = (is_utf8-from_IsUtf8 (encode_utf8_all cs) (cs, (e, refl)), chars-encodes cs e)
text_again Numeric cs e = (e, refl)
text_again Printable cs e = (e, refl)
text_again Ia5 cs e = (e, refl)
text_again Visible cs e = (e, refl)

text_values : (k : CharKind) (os : List ℕ) (v : AbstractValue) → IsTrue (fits_kind (type.characters k) v) → contents_octets (type.characters k) v ≡ Some os → (simple_fault (type.characters k) os ≡ None) × (simple_value (type.characters k) os ≡ v)
text_values k os (value.characters cs) fits e =
    let t = text_again k cs fits in
    rw (← same_Some (character_octets k cs) os e) (cond-true (is_text k (character_octets k cs)) _ _ t.0, ap value.characters t.1)
text_values k os v fits e = absurd cc

pub text_law : (k : CharKind) → SimpleLaw (type.characters k)
text_law k = record {
  takes = λ os digits e. let t = text_take k os (no_fault (is_text k os) code.Characters e) in (t.0, ap (λ (x : List ℕ). Some x) t.1);
  again = text_values k;
}
