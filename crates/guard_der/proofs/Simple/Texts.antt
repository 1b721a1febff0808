-- Octets that spell text, and the characters that they spell.
use Rattle.std.proofs.Common.{◌≡◌, ℕ, zero, suc, ◌<◌, ◌||◌, Bool, true, false, cond, List, [], ◌∷◌, Option, Some, None, inl, inr, nat_eq, refl, sym, ap, ◌∙◌, arith}
use Rattle.std.specs.Prelude.{IsTrue}
use Rattle.std.specs.Char.{is_ascii_alphabetic, is_ascii_digit}
use Rattle.std.specs.Int.{is_in_range}
use Rattle.std.specs.Str.{IsAscii, IsUtf8, chars, encode_utf8_all}
use Rattle.std.proofs.lemmas.Bool.{and_parts, or_cases, leb-true, ltb-true, eqb-true}
use Rattle.std.proofs.lemmas.Str.{IsUtf8-from_is_utf8, is_utf8-from_IsUtf8, IsUtf8-from_ascii, chars-IsAscii, scalars-chars, encodes-chars}
use Rattle.guard_model.proofs.Tests.{same_test}
use Rattle.guard_model.specs.Alphabets.{is_character, is_printable_mark, fits_characters, all_characters}
use Rattle.guard_model.specs.declared.ty.CharKind.{CharKind}
use Rattle.guard_model.specs.declared.ty.CharKind.TheVariants.{Numeric, Printable, Ia5, Visible, Utf8}
use Rattle.guard_der.specs.Contents.{character_octets}
use Rattle.guard_der.specs.Simple.{is_text, characters_of}

-- ---- the alphabets with one octet a character lie below 128

in_range_low : (low high c : ℕ) → high < 128 → is_in_range low high c ≡ true → c < 128
in_range_low low high c small h = omega (arith, leb-true c high (and_parts _ _ h).1)

equal_low : (n c : ℕ) → n < 128 → nat_eq c n ≡ true → c < 128
equal_low n c small h = omega (arith, eqb-true c n h)

digit_low : (c : ℕ) → is_ascii_digit c ≡ true → c < 128
digit_low c h = in_range_low 48 57 c (omega arith) h

letter_low : (c : ℕ) → is_ascii_alphabetic c ≡ true → c < 128
letter_low c h = elim (or_cases _ _ h) [ inl e ↦ in_range_low 65 90 c (omega arith) e | inr e ↦ in_range_low 97 122 c (omega arith) e ]

mark_low : (c : ℕ) → is_printable_mark c ≡ true → c < 128
mark_low c h = elim (or_cases _ _ h) [
  | inr e ↦ equal_low 63 c (omega arith) e
  | inl h ↦ elim (or_cases _ _ h) [
    | inr e ↦ equal_low 61 c (omega arith) e
    | inl h ↦ elim (or_cases _ _ h) [
      | inr e ↦ equal_low 58 c (omega arith) e
      | inl h ↦ elim (or_cases _ _ h) [
        | inr e ↦ in_range_low 43 47 c (omega arith) e
        | inl h ↦ elim (or_cases _ _ h) [ inl e ↦ equal_low 32 c (omega arith) e | inr e ↦ in_range_low 39 41 c (omega arith) e ]
      ]
    ]
  ]
]

-- the kinds with one octet a character
abbrev HasOneOctet : CharKind → Type 0
HasOneOctet Utf8 = ⊥
HasOneOctet _ = Unit {0}

low : (k : CharKind) (c : ℕ) → HasOneOctet k → is_character k c ≡ true → c < 128
low Numeric c one h = elim (or_cases (nat_eq c 32) (is_ascii_digit c) h) [ inl e ↦ equal_low 32 c (omega arith) e | inr e ↦ digit_low c e ]
low Printable c one h = elim (or_cases (is_ascii_digit c || is_ascii_alphabetic c) (is_printable_mark c) h) [
  | inl e ↦ elim (or_cases (is_ascii_digit c) (is_ascii_alphabetic c) e) [ inl e ↦ digit_low c e | inr e ↦ letter_low c e ]
  | inr e ↦ mark_low c e
]
low Ia5 c one h = ltb-true c 128 h
low Visible c one h = in_range_low 32 126 c (omega arith) h
low Utf8 c one h = absurd one

are_low : (k : CharKind) (cs : List ℕ) → HasOneOctet k → all_characters k cs ≡ true → IsAscii cs
are_low k [] one h i = omega arith
are_low k (c ∷ cs) one h zero = low k c one (and_parts (is_character k c) (all_characters k cs) h).0
are_low k (c ∷ cs) one h (suc i) = are_low k cs one (and_parts (is_character k c) (all_characters k cs) h).1 i

low_encoded : (cs : List ℕ) → IsAscii cs → encode_utf8_all cs ≡ cs
low_encoded cs all = sym (ap encode_utf8_all (chars-IsAscii cs all)) ∙ encodes-chars cs (IsUtf8-from_ascii cs all)

-- characters of one octet each are written in octets as their codes
own_codes : (k : CharKind) (octets : List ℕ) → HasOneOctet k → IsUtf8 octets → all_characters k (chars octets) ≡ true → chars octets ≡ octets
own_codes k octets one spelled h = sym (low_encoded (chars octets) (are_low k (chars octets) one h)) ∙ encodes-chars octets spelled

-- the octets of a text are what is written for its characters
pub characters_written : (k : CharKind) (octets : List ℕ) → IsUtf8 octets → IsTrue (fits_characters k (chars octets)) → character_octets k (chars octets) ≡ octets
characters_written Utf8 octets spelled h = encodes-chars octets spelled
characters_written Numeric octets spelled h = own_codes Numeric octets tt spelled h
characters_written Printable octets spelled h = own_codes Printable octets tt spelled h
characters_written Ia5 octets spelled h = own_codes Ia5 octets tt spelled h
characters_written Visible octets spelled h = own_codes Visible octets tt spelled h

-- ---- octets as text

tested_alike : (k : CharKind) (octets : List ℕ) → HasOneOctet k → IsUtf8 octets → all_characters k (chars octets) ≡ all_characters k octets
tested_alike k octets one spelled = same_test (all_characters k (chars octets)) (all_characters k octets)
    (λ h. sym (ap (all_characters k) (own_codes k octets one spelled h)) ∙ h)
    (λ h. ap (all_characters k) (chars-IsAscii octets (are_low k octets one h)) ∙ h)

-- UTF-8 whose characters are of the kind's alphabet is text of the kind
pub text_tested : (k : CharKind) (octets : List ℕ) → IsUtf8 octets → fits_characters k (chars octets) ≡ is_text k octets
text_tested Utf8 octets spelled = scalars-chars octets spelled ∙ sym (is_utf8-from_IsUtf8 octets spelled)
text_tested Numeric octets spelled = tested_alike Numeric octets tt spelled
text_tested Printable octets spelled = tested_alike Printable octets tt spelled
text_tested Ia5 octets spelled = tested_alike Ia5 octets tt spelled
text_tested Visible octets spelled = tested_alike Visible octets tt spelled

read_alike : (k : CharKind) (octets : List ℕ) → HasOneOctet k → all_characters k octets ≡ true → IsUtf8 octets × (chars octets ≡ octets)
read_alike k octets one h = let all = are_low k octets one h in (IsUtf8-from_ascii octets all, chars-IsAscii octets all)

pub text_read : (k : CharKind) (octets : List ℕ) → is_text k octets ≡ true → IsUtf8 octets × (chars octets ≡ characters_of k octets)
text_read Utf8 octets h = (IsUtf8-from_is_utf8 octets h, refl)
text_read Numeric octets h = read_alike Numeric octets tt h
text_read Printable octets h = read_alike Printable octets tt h
text_read Ia5 octets h = read_alike Ia5 octets tt h
text_read Visible octets h = read_alike Visible octets tt h

no_text : (k : CharKind) (octets : List ℕ) (test : Bool) → is_text k octets ≡ test → (IsUtf8 octets → ⊥) → test ≡ false
no_text k octets true is none = absurd (none (text_read k octets is).0)
no_text k octets false is none = refl

abbrev text_in : CharKind → List ℕ → Option (List ℕ)
text_in k octets = cond (is_text k octets) (Some (characters_of k octets)) None

pub is_read : (k : CharKind) (octets : List ℕ) → IsUtf8 octets → fits_characters k (chars octets) ≡ true → Some (chars octets) ≡ text_in k octets
is_read k octets spelled fits = let is = sym (text_tested k octets spelled) ∙ fits in rw is (ap Some (text_read k octets is).1)

pub is_not_read : (k : CharKind) (octets : List ℕ) → IsUtf8 octets → fits_characters k (chars octets) ≡ false → None ≡ text_in k octets
is_not_read k octets spelled fails = rw (sym (text_tested k octets spelled) ∙ fails) refl

pub not_spelled : (k : CharKind) (octets : List ℕ) → (IsUtf8 octets → ⊥) → None ≡ text_in k octets
not_spelled k octets none = rw (no_text k octets (is_text k octets) refl none) refl
