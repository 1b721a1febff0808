-- Strings of digits and strings in quotes, as they are written, are read as one token each.
use Rattle.std.proofs.Common.{◌≡◌, ℕ, zero, suc, ◌+◌, ◌/◌, ◌%◌, ◌<◌, ◌≤◌, Bool, true, false, cond, ◌&&◌, not, ltb, List, [], ◌∷◌, ◌++◌, map, flat_map, IsUtf8, refl, sym, ap, subst, ◌∙◌, inl, inr, nat_lt, nat_eq, append_assoc, arith}
use Rattle.std.specs.List.{list_all}
use Rattle.std.proofs.lemmas.Bool.{and_parts, and_from, cases_Bool, cond-false, both_ways, false≢true}
use Rattle.std.proofs.lemmas.Bool.Decides.{nat_tests}
use Rattle.std.proofs.lemmas.Str.{IsUtf8-append, IsUtf8-encode}
use lib.Utf8.{encode, next, scalar, scalars}
use Rattle.guard_lexer.specs.Octets.{is_line_end, is_quote, is_apostrophe, is_of_bits, is_of_hexadecimal}
use Rattle.guard_lexer.specs.Items.{is_string_rest, is_digits_rest}
use Rattle.guard_der.specs.Fits.{all_below}
use Rattle.guard_syntax.specs.Lexemes.{Lexeme, character_string, bit_string, hexadecimal_string}
use Rattle.guard_report.specs.Strings.{digit, two_digits, hexadecimal, bit_digit, binary}
use Rattle.guard_report.specs.CharacterStrings.{is_within, is_hidden, as_quoted, in_quotes}
use Rattle.reads_back.specs.Names.{are_seen}
use Rattle.reads_back.proofs.Ascii.{is_ascii, are_ascii, ascii_text}
use Rattle.reads_back.proofs.Cuts.{Reads}
use Rattle.reads_back.proofs.WordPieces.{is_apart, no_quote}
use Rattle.reads_back.proofs.StringPieces.{character_piece, bits_piece, hexadecimal_piece}

-- ---- strings of digits

-- a digit of the string, in ASCII and no apostrophe
abbrev pub is_sound_digit : (ℕ → Bool) → ℕ → Bool
is_sound_digit test octet = test octet && not (is_apostrophe octet) && is_ascii octet

abbrev are_sound : (ℕ → Bool) → List ℕ → Bool
are_sound test octets = list_all (is_sound_digit test) octets

digits_rest : (test : ℕ → Bool) (letter : ℕ) (ds : List ℕ) → are_sound test ds ≡ true → (nat_eq letter letter ≡ true) → is_digits_rest test letter (ds ++ 39 ∷ letter ∷ []) ≡ true
digits_rest test letter [] h same = and_from _ _ same refl
digits_rest test letter (d ∷ ds) h same =
    let p = and_parts (is_sound_digit test d) (are_sound test ds) h in
    let q = and_parts (test d && not (is_apostrophe d)) (is_ascii d) p.0 in
    let r = and_parts (test d) (not (is_apostrophe d)) q.0 in
    let other : is_apostrophe d ≡ false = grind (arith, nat_tests, r.1) in
    cond-false (is_apostrophe d) _ _ other ∙ and_from _ _ r.0 (digits_rest test letter ds p.1 same)

sound-ascii : (test : ℕ → Bool) (letter : ℕ) (ds : List ℕ) → are_sound test ds ≡ true → is_ascii letter ≡ true → are_ascii (ds ++ 39 ∷ letter ∷ []) ≡ true
sound-ascii test letter [] h low = and_from _ _ low refl
sound-ascii test letter (d ∷ ds) h low =
    let p = and_parts (is_sound_digit test d) (are_sound test ds) h in
    and_from _ _ (and_parts (test d && not (is_apostrophe d)) (is_ascii d) p.0).1 (sound-ascii test letter ds p.1 low)

hex_digit : (n : ℕ) → n < 16 → is_sound_digit is_of_hexadecimal (digit n) ≡ true
hex_digit n h =
    elim (cases_Bool (nat_lt n 10)) [
      | inl low ↦ rw low (let lt : n < 10 = grind (arith, nat_tests, low) in grind (arith, nat_tests, lt))
      | inr high ↦ rw high (let ge : 10 ≤ n = grind (arith, nat_tests, high) in grind (arith, nat_tests, ge, h))
    ]

hex_digits : (octets : List ℕ) → all_below 256 octets ≡ true → are_sound is_of_hexadecimal (flat_map two_digits octets) ≡ true
hex_digits [] h = refl
hex_digits (o ∷ os) h =
    let p = and_parts (nat_lt o 256) (all_below 256 os) h in
    let lt : o < 256 = grind (arith, nat_tests, p.0) in
    and_from _ _ (hex_digit (o / 16) (omega (arith, lt))) (and_from _ _ (hex_digit (o % 16) (omega arith)) (hex_digits os p.1))

pub hexadecimal_reads : (octets rest : List ℕ) (ls : List Lexeme) → all_below 256 octets ≡ true → Reads rest ls → Reads (hexadecimal octets ++ rest) (hexadecimal_string (hexadecimal octets) ∷ ls)
hexadecimal_reads octets rest ls h r =
    let ds = flat_map two_digits octets in
    let sound = hex_digits octets h in
    hexadecimal_piece (ds ++ 39 ∷ 72 ∷ []) rest ls (ascii_text (39 ∷ ds ++ 39 ∷ 72 ∷ []) (and_from _ _ refl (sound-ascii is_of_hexadecimal 72 ds sound refl))) (digits_rest is_of_hexadecimal 72 ds sound refl) r

bit_digits : (bits : List ℕ) → are_sound is_of_bits (map bit_digit bits) ≡ true
bit_digits [] = refl
bit_digits (zero ∷ bits) = bit_digits bits
bit_digits (suc b ∷ bits) = bit_digits bits

pub binary_reads : (bits rest : List ℕ) (ls : List Lexeme) → Reads rest ls → Reads (binary bits ++ rest) (bit_string (binary bits) ∷ ls)
binary_reads bits rest ls r =
    let ds = map bit_digit bits in
    let sound = bit_digits bits in
    bits_piece (ds ++ 39 ∷ 66 ∷ []) rest ls (ascii_text (39 ∷ ds ++ 39 ∷ 66 ∷ []) (and_from _ _ refl (sound-ascii is_of_bits 66 ds sound refl))) (digits_rest is_of_bits 66 ds sound refl) r

-- ---- strings in quotes

-- what stands in a string as it is
abbrev pub is_as_it_is : ℕ → Bool
is_as_it_is octet = not (is_line_end octet) && not (is_quote octet)

pub as_it_is : (o : ℕ) → is_as_it_is o ≡ true → (is_line_end o ≡ false) × (is_quote o ≡ false)
as_it_is o h =
    let p = and_parts (not (is_line_end o)) (not (is_quote o)) h in (
      elim (cases_Bool (is_line_end o)) [ inl y ↦ absurd (false≢true (sym (ap not y) ∙ p.0)) | inr n ↦ n ],
      elim (cases_Bool (is_quote o)) [ inl y ↦ absurd (false≢true (sym (ap not y) ∙ p.1)) | inr n ↦ n ],
    )

above : (o : ℕ) → 128 ≤ o → is_as_it_is o ≡ true
above o h = grind (arith, nat_tests)

pub seen_low : (c : ℕ) → is_hidden c ≡ false → is_line_end c ≡ false
seen_low c h =
    elim (cases_Bool (is_within 0 31 c)) [
      | inl y ↦ absurd (both_ways (is_hidden c) h (rw y refl))
      | inr n ↦ grind (arith, nat_tests, n)
    ]

code_plain : (c : ℕ) (x y z : Bool) → is_line_end c ≡ false → is_quote c ≡ false
    → list_all is_as_it_is (cond x (c ∷ []) (cond y ((192 + c / 64) ∷ next c ∷ []) (cond z ((224 + c / 4096) ∷ next (c / 64) ∷ next c ∷ []) ((240 + c / 262144) ∷ next (c / 4096) ∷ next (c / 64) ∷ next c ∷ [])))) ≡ true
code_plain c true y z a b = rw (a, b) refl
code_plain c false true z a b = and_from _ _ (above (192 + c / 64) (omega arith)) (and_from _ _ (above (next c) (omega arith)) refl)
code_plain c false false true a b = and_from _ _ (above (224 + c / 4096) (omega arith)) (and_from _ _ (above (next (c / 64)) (omega arith)) (and_from _ _ (above (next c) (omega arith)) refl))
code_plain c false false false a b = and_from _ _ (above (240 + c / 262144) (omega arith)) (and_from _ _ (above (next (c / 4096)) (omega arith)) (and_from _ _ (above (next (c / 64)) (omega arith)) (and_from _ _ (above (next c) (omega arith)) refl)))

pub encode_plain : (c : ℕ) → is_line_end c ≡ false → is_quote c ≡ false → list_all is_as_it_is (encode c) ≡ true
unfolding encode
encode_plain c a b = code_plain c (ltb c 128) (ltb c 2048) (ltb c 65536) a b

string_rest_one : (o p : ℕ) (ps : List ℕ) → is_as_it_is o ≡ true → is_string_rest (p ∷ ps) ≡ true → is_string_rest (o ∷ p ∷ ps) ≡ true
string_rest_one o p ps plain h = let a = as_it_is o plain in cond-false (is_line_end o) _ _ a.0 ∙ cond-false (is_quote o) _ _ a.1 ∙ h

string_rest_on : (o : ℕ) (ps : List ℕ) → is_as_it_is o ≡ true → is_string_rest ps ≡ true → is_string_rest (o ∷ ps) ≡ true
string_rest_on o [] plain h = absurd (false≢true h)
string_rest_on o (p ∷ ps) plain h = string_rest_one o p ps plain h

string_rest-append : (os ps : List ℕ) → list_all is_as_it_is os ≡ true → is_string_rest ps ≡ true → is_string_rest (os ++ ps) ≡ true
string_rest-append [] ps plain h = h
string_rest-append (o ∷ os) ps plain h =
    let p = and_parts (is_as_it_is o) (list_all is_as_it_is os) plain in
    string_rest_on o (os ++ ps) p.0 (string_rest-append os ps p.1 h)

quoted_one : (c : ℕ) (ps : List ℕ) → is_hidden c ≡ false → is_string_rest ps ≡ true → is_string_rest (as_quoted c ++ ps) ≡ true
quoted_one c ps seen h =
    elim (cases_Bool (nat_eq c 34)) [
      | inl quote ↦ rw quote h
      | inr other ↦ rw other (string_rest-append (encode c) ps (encode_plain c (seen_low c seen) other) h)
    ]

pub seen_parts : (c : ℕ) (cs : List ℕ) → are_seen (c ∷ cs) ≡ true → (is_hidden c ≡ false) × (are_seen cs ≡ true)
seen_parts c cs h =
    let p = and_parts (not (is_hidden c)) (are_seen cs) h in
    (elim (cases_Bool (is_hidden c)) [ inl y ↦ absurd (false≢true (sym (ap not y) ∙ p.0)) | inr n ↦ n ], p.1)

quoted_rest : (cs : List ℕ) → are_seen cs ≡ true → is_string_rest (flat_map as_quoted cs ++ 34 ∷ []) ≡ true
quoted_rest [] h = refl
quoted_rest (c ∷ cs) h =
    let p = seen_parts c cs h in
    subst (λ (x : List ℕ). is_string_rest x ≡ true) (sym (append_assoc (as_quoted c) (flat_map as_quoted cs) (34 ∷ []))) (quoted_one c (flat_map as_quoted cs ++ 34 ∷ []) p.0 (quoted_rest cs p.1))

one_utf8 : (c : ℕ) → scalar c ≡ true → IsUtf8 (as_quoted c)
one_utf8 c h =
    elim (cases_Bool (nat_eq c 34)) [
      | inl quote ↦ rw quote (ascii_text (34 ∷ 34 ∷ []) refl)
      | inr other ↦ rw other (IsUtf8-encode c h)
    ]

quoted_utf8 : (cs : List ℕ) → scalars cs ≡ true → IsUtf8 (flat_map as_quoted cs ++ 34 ∷ [])
quoted_utf8 [] h = ascii_text (34 ∷ []) refl
quoted_utf8 (c ∷ cs) h =
    let p = and_parts (scalar c) (scalars cs) h in
    subst IsUtf8 (sym (append_assoc (as_quoted c) (flat_map as_quoted cs) (34 ∷ []))) (IsUtf8-append (as_quoted c) (flat_map as_quoted cs ++ 34 ∷ []) (one_utf8 c p.0) (quoted_utf8 cs p.1))

pub quoted_reads : (cs rest : List ℕ) (ls : List Lexeme) → are_seen cs ≡ true → scalars cs ≡ true → is_apart rest ≡ true → Reads rest ls → Reads (in_quotes cs ++ rest) (character_string (in_quotes cs) ∷ ls)
quoted_reads cs rest ls seen proper apart r =
    let os = flat_map as_quoted cs ++ 34 ∷ [] in
    character_piece os rest ls (IsUtf8-append (34 ∷ []) os (ascii_text (34 ∷ []) refl) (quoted_utf8 cs proper)) (quoted_rest cs seen) (no_quote rest apart) r
