-- What numbers, arcs and strings in quotes say: the number, the arcs and the characters of the value.
use Rattle.std.proofs.Common.{◌≡◌, ℕ, suc, ◌+◌, ◌*◌, ◌^◌, ◌<◌, true, false, ◌&&◌, ◌||◌, not, cond, ℤ, pos, negsuc, List, [], ◌∷◌, ◌++◌, map, flat_map, chars, Some, None, nat_lt, nat_le, nat_eq, refl, sym, ap, ◌∙◌, inl, inr, append_assoc, arith}
use Rattle.std.specs.List.{list_all}
use Rattle.std.specs.Option.{option_or}
use Rattle.std.specs.Str.{is_utf8}
use Rattle.std.proofs.lemmas.Bool.{and_parts, and_from, cases_Bool, cond-true, cond-false, false≢true}
use Rattle.std.proofs.lemmas.Bool.Decides.{nat_tests}
use Rattle.std.proofs.lemmas.Str.{is_utf8-from_IsUtf8, chars-encodes}
use lib.Utf8.{encode, encodes}
use Rattle.guard_model.specs.declared.ty.CharKind.{CharKind}
use Rattle.guard_model.specs.AbstractValue as value
use Rattle.guard_model.specs.AbstractValue.{AbstractValue}
use Rattle.guard_model.specs.Alphabets.{fits_characters}
use Rattle.guard_model.specs.Limits.{fits_128_bits}
use Rattle.guard_der.specs.Fits.{all_below, fits_arcs, fits_first_arcs}
use Rattle.guard_lexer.specs.Octets.{is_quote}
use Rattle.guard_syntax.specs.Numbers.{number_of, signed}
use Rattle.guard_values.specs.ObjectIdentifiers.{arc_number, arc_numbers, is_large, large_arc, large_second, too_large_arc, are_arcs}
use Rattle.guard_values.specs.Strings.{up_to_quote, quoted}
use Rattle.guard_values.specs.Simple.{within_limits, characters_value}
use Rattle.guard_report.specs.CharacterStrings.{is_hidden, as_quoted, in_quotes}
use Rattle.reads_back.specs.Names.{are_seen}
use Rattle.reads_back.specs.inside.TreeOf.{number_written, arc_written}
use Rattle.reads_back.proofs.Decimals.{decimal_value}
use Rattle.reads_back.proofs.StringTexts.{is_as_it_is, as_it_is, encode_plain, seen_low, seen_parts}
use Rattle.reads_back.proofs.Characters.{proper_codes}
use Rattle.reads_back.proofs.Arcs.{all_arcs}

-- ---- numbers

pub number_said : (z : ℤ) → fits_128_bits z ≡ true → number_of (number_written z) ≡ z
number_said (pos n) h =
    let lt : n < 2 ^ 127 = grind (arith, nat_tests) in
    ap (λ (x : ℕ). pos x) (decimal_value n (omega (arith, lt)))
number_said (negsuc n) h =
    let lt : n < 2 ^ 127 = grind (arith, nat_tests) in
    ap (signed true) (decimal_value (suc n) (omega (arith, lt)))

-- ---- arcs

wide : (n : ℕ) → nat_lt n (2 ^ 128) ≡ true → n < 10 ^ 64
wide n h = let lt : n < 2 ^ 128 = grind (arith, nat_tests) in omega (arith, lt)

numbers_said : (arcs : List ℕ) → all_below (2 ^ 128) arcs ≡ true → arc_numbers (map arc_written arcs) ≡ arcs
numbers_said [] h = refl
numbers_said (a ∷ arcs) h =
    let p = and_parts (nat_lt a (2 ^ 128)) (all_below (2 ^ 128) arcs) h in
    let first : arc_number (arc_written a) ≡ a = decimal_value a (wide a p.0) in
    let others : arc_numbers (map arc_written arcs) ≡ arcs = numbers_said arcs p.1 in
    λ i. first i ∷ others i

not_large : (a n : ℕ) → n ≡ a → nat_lt a (2 ^ 128) ≡ true → is_large n ≡ false
not_large a n e h = ap is_large e ∙ ap not h

none_large : (arcs : List ℕ) → all_below (2 ^ 128) arcs ≡ true → large_arc (map arc_written arcs) ≡ None
none_large [] h = refl
none_large (a ∷ arcs) h =
    let p = and_parts (nat_lt a (2 ^ 128)) (all_below (2 ^ 128) arcs) h in
    cond-false (is_large (arc_number (arc_written a))) (Some (arc_written a).site) (large_arc (map arc_written arcs)) (not_large a (arc_number (arc_written a)) (decimal_value a (wide a p.0)) p.0) ∙ none_large arcs p.1

second_small : (x y n m : ℕ) → n ≡ x → m ≡ y → 40 * x + y < 2 ^ 128 → (nat_eq n 2 && is_large (80 + m)) ≡ false
second_small x y n m e f h =
    elim (cases_Bool (nat_eq n 2)) [
      | inl two ↦
          let is : n ≡ 2 = grind (arith, nat_tests, two) in
          let small : 80 + m < 2 ^ 128 = omega (arith, is, e, f, h) in
          let test : nat_lt (80 + m) (2 ^ 128) ≡ true = grind (arith, nat_tests, small) in
          rw two (ap not test)
      | inr other ↦ rw other refl
    ]

first_arcs : (x y : ℕ) → fits_first_arcs x y ≡ true → ((nat_le x 2 && (nat_eq x 2 || nat_le y 39)) ≡ true) × (40 * x + y < 2 ^ 128)
first_arcs x y h =
    let p = and_parts (nat_le x 2 && (nat_eq x 2 || nat_le y 39)) (nat_lt (40 * x + y) (2 ^ 128)) h in
    (p.0, grind (arith, nat_tests, p.1))

pub arcs_said : (arcs : List ℕ) → fits_arcs arcs ≡ true → within_limits (too_large_arc (map arc_written arcs)) (arc_numbers (map arc_written arcs)) ≡ Some (value.object_identifier arcs)
arcs_said [] h = absurd (false≢true h)
arcs_said (x ∷ []) h = absurd (false≢true h)
arcs_said (x ∷ y ∷ arcs) h =
    let all = x ∷ y ∷ arcs in
    let below = all_arcs all h in
    let p = and_parts (fits_first_arcs x y) (all_below (2 ^ 128) arcs) h in
    let f = first_arcs x y p.0 in
    let b = and_parts (nat_lt x (2 ^ 128)) (nat_lt y (2 ^ 128) && all_below (2 ^ 128) arcs) below in
    let c = and_parts (nat_lt y (2 ^ 128)) (all_below (2 ^ 128) arcs) b.1 in
    let second : large_second (map arc_written all) ≡ None =
    cond-false (nat_eq (arc_number (arc_written x)) 2 && is_large (80 + arc_number (arc_written y))) (Some (arc_written y).site) None
    (second_small x y (arc_number (arc_written x)) (arc_number (arc_written y)) (decimal_value x (wide x b.0)) (decimal_value y (wide y c.0)) f.1) in
    let none : too_large_arc (map arc_written all) ≡ None = λ i. option_or (none_large all below i) (second i) in
    let numbers : arc_numbers (map arc_written all) ≡ all = numbers_said all below in
    let same : within_limits (too_large_arc (map arc_written all)) (arc_numbers (map arc_written all)) ≡ within_limits None all = λ i. within_limits (none i) (numbers i) in
    same ∙ cond-true (are_arcs all) (Some (value.object_identifier all)) None f.0

-- ---- characters

up_one : (o p : ℕ) (ps : List ℕ) → is_quote o ≡ false → up_to_quote (o ∷ p ∷ ps) ≡ o ∷ up_to_quote (p ∷ ps)
up_one o p ps h = cond-false (is_quote o) (cond (is_quote p) (o ∷ up_to_quote ps) []) (o ∷ up_to_quote (p ∷ ps)) h

-- there is something more
abbrev Some_more : List ℕ → Type 0
Some_more [] = ⊥
Some_more (o ∷ os) = Unit {0}

more_after : (os ps : List ℕ) → Some_more ps → Some_more (os ++ ps)
more_after [] ps h = h
more_after (o ∷ os) ps h = tt

up_on : (o : ℕ) (ps : List ℕ) → is_quote o ≡ false → Some_more ps → up_to_quote (o ∷ ps) ≡ o ∷ up_to_quote ps
up_on o [] h some = absurd some
up_on o (p ∷ ps) h some = up_one o p ps h

no_quote : (o : ℕ) → is_as_it_is o ≡ true → is_quote o ≡ false
no_quote o h = (as_it_is o h).1

up_plain : (os ps : List ℕ) → list_all is_as_it_is os ≡ true → Some_more ps → up_to_quote (os ++ ps) ≡ os ++ up_to_quote ps
up_plain [] ps h some = refl
up_plain (o ∷ os) ps h some =
    let p = and_parts (is_as_it_is o) (list_all is_as_it_is os) h in
    up_on o (os ++ ps) (no_quote o p.0) (more_after os ps some) ∙ ap (λ (xs : List ℕ). o ∷ xs) (up_plain os ps p.1 some)

quote_code : (c : ℕ) → nat_eq c 34 ≡ true → encode c ≡ 34 ∷ []
unfolding encode
quote_code c h = let e : c ≡ 34 = grind (arith, nat_tests) in ap encode e

up_quoted : (c : ℕ) (ps : List ℕ) → is_hidden c ≡ false → Some_more ps → up_to_quote (as_quoted c ++ ps) ≡ encode c ++ up_to_quote ps
up_quoted c ps seen some =
    elim (cases_Bool (nat_eq c 34)) [
      | inl quote ↦ ap (λ (x : List ℕ). up_to_quote (x ++ ps)) (cond-true (nat_eq c 34) (34 ∷ 34 ∷ []) (encode c) quote) ∙ sym (ap (λ (x : List ℕ). x ++ up_to_quote ps) (quote_code c quote))
      | inr other ↦ ap (λ (x : List ℕ). up_to_quote (x ++ ps)) (cond-false (nat_eq c 34) (34 ∷ 34 ∷ []) (encode c) other) ∙ up_plain (encode c) ps (encode_plain c (seen_low c seen) other) some
    ]

up_all : (cs : List ℕ) → are_seen cs ≡ true → up_to_quote (flat_map as_quoted cs ++ 34 ∷ []) ≡ encodes cs
up_all [] h = refl
up_all (c ∷ cs) h =
    let p = seen_parts c cs h in
    let tail = flat_map as_quoted cs ++ 34 ∷ [] in
    ap up_to_quote (append_assoc (as_quoted c) (flat_map as_quoted cs) (34 ∷ [])) ∙ up_quoted c tail p.0 (more_after (flat_map as_quoted cs) (34 ∷ []) tt) ∙ ap (λ (xs : List ℕ). encode c ++ xs) (up_all cs p.1)

pub characters_said : (k : CharKind) (cs : List ℕ) → fits_characters k cs ≡ true → are_seen cs ≡ true → characters_value k (quoted (in_quotes cs)) ≡ Some (value.characters cs)
characters_said k cs fit seen =
    let proper = proper_codes k cs fit in
    let again : chars (encodes cs) ≡ cs = chars-encodes cs proper in
    let whole : (is_utf8 (encodes cs) && fits_characters k (chars (encodes cs))) ≡ true =
    and_from _ _ (is_utf8-from_IsUtf8 (encodes cs) (cs, (proper, refl))) (ap (fits_characters k) again ∙ fit) in
    ap (characters_value k) (up_all cs seen) ∙ cond-true (is_utf8 (encodes cs) && fits_characters k (chars (encodes cs))) (Some (value.characters (chars (encodes cs)))) None whole ∙ ap (λ (xs : List ℕ). Some (value.characters xs)) again
