-- The mark that is found in the table is the longest that the text begins with.
use Rattle.std.proofs.Common.{◌≡◌, ℕ, ◌≤◌, ◌<◌, Bool, true, leb, ◌&&◌, List, [], ◌∷◌, ◌++◌, length, take, Option, Some, refl, sym, ap, ◌∙◌, inl, inr, arith}
use Rattle.std.specs.Prelude.{bytes_eq, find}
use Rattle.std.specs.List.{list_all, list_any}
use Rattle.std.proofs.lemmas.Bool.{and_parts, or_cases, cases_Bool, false≢true, both_ways, cond-true, cond-false, leb-true}
use Rattle.std.proofs.lemmas.List.{take_at}
use Rattle.std.proofs.lemmas.Option.{same_Some, none-some}
use Rattle.std.proofs.lemmas.Slice.Eq.{bytes_eq-Decides}
use Rattle.guard_model.proofs.Tests.{chosen}
use Rattle.guard_lexer.specs.Spelling.{mark_spelling, marks}
use Rattle.guard_lexer.specs.inside.Reading.{stands_at, mark_at}
use Rattle.guard_lexer.specs.declared.token.Mark.{Mark}
use Rattle.guard_lexer.specs.declared.token.Mark.TheVariants as mark

abbrev pub mark_len : Mark → ℕ
mark_len m = length (mark_spelling m)

pub mark-nonempty : (m : Mark) → 0 < mark_len m
mark-nonempty mark.Assignment = omega arith
mark-nonempty m = omega arith

-- no mark is longer than one before it
descending : List Mark → Bool
descending [] = true
descending (m ∷ ms) = list_all (λ n. leb (mark_len n) (mark_len m)) ms && descending ms

abbrev has_spelling : List ℕ → List Mark → Bool
has_spelling octets table = list_any (λ m. bytes_eq (mark_spelling m) octets) table

bounded : (octets : List ℕ) (limit : ℕ) (table : List Mark) → list_all (λ n. leb (mark_len n) limit) table ≡ true → has_spelling octets table ≡ true → length octets ≤ limit
bounded octets limit [] below has = absurd (false≢true has)
bounded octets limit (m ∷ ms) below has =
    let p = and_parts (leb (mark_len m) limit) (list_all (λ n. leb (mark_len n) limit) ms) below in
    elim (or_cases (bytes_eq (mark_spelling m) octets) (has_spelling octets ms) has) [
      | inl here ↦ let e = (bytes_eq-Decides (mark_spelling m) octets).0 here in omega (arith, ap length e, leb-true _ _ p.0)
      | inr later ↦ bounded octets limit ms p.1 later
    ]

stands-same : (text : List ℕ) (m n : Mark) → mark_spelling m ≡ mark_spelling n → stands_at text m ≡ stands_at text n
stands-same text m n e = ap (λ (s : List ℕ). bytes_eq s (take (length s) text)) e

found : (text : List ℕ) (table : List Mark) → descending table ≡ true → (m : Mark) → has_spelling (mark_spelling m) table ≡ true → stands_at text m ≡ true
    → (n : Mark) × (find (stands_at text) table ≡ Some n) × (mark_len m ≤ mark_len n)
unfolding descending
found text [] ordered m has stands = absurd (false≢true has)
found text (x ∷ xs) ordered m has stands =
    let p = and_parts (list_all (λ n. leb (mark_len n) (mark_len x)) xs) (descending xs) ordered in
    elim (cases_Bool (stands_at text x)) [
      | inl here ↦ (
        x,
        cond-true (stands_at text x) (Some x) (find (stands_at text) xs) here,
        elim (or_cases (bytes_eq (mark_spelling x) (mark_spelling m)) (has_spelling (mark_spelling m) xs) has) [
          | inl same ↦ let e = (bytes_eq-Decides (mark_spelling x) (mark_spelling m)).0 same in omega (arith, ap length e)
          | inr later ↦ bounded (mark_spelling m) (mark_len x) xs p.0 later
        ],
      )
      | inr not_here ↦
          elim (or_cases (bytes_eq (mark_spelling x) (mark_spelling m)) (has_spelling (mark_spelling m) xs) has) [
            | inl same ↦ absurd (both_ways (stands_at text x) not_here (stands-same text x m ((bytes_eq-Decides (mark_spelling x) (mark_spelling m)).0 same) ∙ stands))
            | inr later ↦
                let r = found text xs p.1 m later stands in
                (r.0, cond-false (stands_at text x) (Some x) (find (stands_at text) xs) not_here ∙ r.1, r.2)
          ]
    ]

marks-descend : descending marks ≡ true
unfolding descending
marks-descend = refl

mark-in : (m : Mark) → has_spelling (mark_spelling m) marks ≡ true
mark-in mark.Assignment = refl
mark-in m = refl

abbrev spelled_mark : List ℕ → Option Mark
spelled_mark octets = find (λ m. bytes_eq (mark_spelling m) octets) marks

mark-back : (m : Mark) → spelled_mark (mark_spelling m) ≡ Some m
mark-back mark.Assignment = refl
mark-back m = refl

-- no two marks are spelled alike
pub same_mark : (m n : Mark) → mark_spelling m ≡ mark_spelling n → m ≡ n
same_mark m n e = same_Some m n (sym (mark-back m) ∙ ap spelled_mark e ∙ mark-back n)

pub stands : (m : Mark) (after : List ℕ) → stands_at (mark_spelling m ++ after) m ≡ true
stands m after = (bytes_eq-Decides (mark_spelling m) (take (mark_len m) (mark_spelling m ++ after))).1 (sym (take_at (mark_spelling m) after (mark_len m) refl))

-- what is found where a mark begins
pub mark-found : (m : Mark) (after : List ℕ) → (n : Mark) × (mark_at (mark_spelling m ++ after) ≡ Some n) × (mark_len m ≤ mark_len n)
unfolding mark_at
mark-found m after = found (mark_spelling m ++ after) marks marks-descend m (mark-in m) (stands m after)

-- the text begins with what is found
find-Some : (test : Mark → Bool) (table : List Mark) (m : Mark) → find test table ≡ Some m → test m ≡ true
find-Some test [] m e = absurd (none-some m e)
find-Some test (x ∷ xs) m e =
    elim (chosen (test x) _ _ (Some m) e) [
      | inl (here, is) ↦ sym (ap test (same_Some x m is)) ∙ here
      | inr (not_here, later) ↦ find-Some test xs m later
    ]

pub mark-stands : (text : List ℕ) (m : Mark) → mark_at text ≡ Some m → mark_spelling m ≡ take (mark_len m) text
unfolding mark_at
mark-stands text m e = (bytes_eq-Decides (mark_spelling m) (take (mark_len m) text)).0 (find-Some (stands_at text) marks m e)
