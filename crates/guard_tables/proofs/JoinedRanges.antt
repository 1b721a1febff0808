-- Ranges of character codes, joined one after another.
use Rattle.std.proofs.Common.{rules, arith, ◌≡◌, ℕ, ◌+◌, ◌<◌, ◌≤◌, max, Bool, true, false, ◌&&◌, ◌||◌, IsTrue, nat_le, List, [], ◌∷◌, ◌++◌, length, drop, get_or, refl, sym, ap, ◌∙◌}
use Rattle.std.proofs.lemmas.Bool.Decides.{nat_tests}
use Rattle.std.proofs.lemmas.List.{at_drop_more}
use Rattle.std.specs.Int.{is_in_range}
use Rattle.guard_eval.specs.Elements.{is_in_some}
use Rattle.guard_tables.specs.Alphabets.{begin_after, are_apart}
use Rattle.guard_tables.specs.inside.JoinedRanges.{begin_by}

-- ---- apart

apart_parts : (a b c : Bool) → (a && (b && c)) ≡ true → (a ≡ true) × (b ≡ true) × (c ≡ true)
apart_parts true true true e = (refl, refl, refl)
apart_parts true true false e = absurd cc
apart_parts true false c e = absurd cc
apart_parts false b c e = absurd cc

apart_whole : (a b c : Bool) → a ≡ true → b ≡ true → c ≡ true → IsTrue (a && (b && c))
apart_whole a b c e f g = rw (e, f, g) refl

begin_alike : (code : ℕ) (front : List (ℕ × ℕ)) (first last end : ℕ) → begin_after code (front ++ (first, last) ∷ []) ≡ begin_after code (front ++ (first, end) ∷ [])
begin_alike code [] first last end = refl
begin_alike code (r ∷ rs) first last end = refl

-- with another end of the last
pub ends_later : (front : List (ℕ × ℕ)) (first last end : ℕ) → IsTrue (are_apart (front ++ (first, last) ∷ [])) → first ≤ end → IsTrue (are_apart (front ++ (first, end) ∷ []))
ends_later [] first last end apart le = grind (arith, nat_tests)
ends_later (r ∷ rs) first last end apart le =
    let parts = apart_parts (nat_le r.0 r.1) (begin_after r.1 (rs ++ (first, last) ∷ [])) (are_apart (rs ++ (first, last) ∷ [])) apart in
    apart_whole _ _ _ parts.0 (sym (begin_alike r.1 rs first last end) ∙ parts.1) (ends_later rs first last end parts.2 le)

pub last_has_one : (front : List (ℕ × ℕ)) (first last : ℕ) → IsTrue (are_apart (front ++ (first, last) ∷ [])) → first ≤ last
last_has_one [] first last apart = grind (arith, nat_tests)
last_has_one (r ∷ rs) first last apart =
    let parts = apart_parts (nat_le r.0 r.1) (begin_after r.1 (rs ++ (first, last) ∷ [])) (are_apart (rs ++ (first, last) ∷ [])) apart in
    last_has_one rs first last parts.2

begin_still : (code : ℕ) (front : List (ℕ × ℕ)) (r : ℕ × ℕ) (more : List (ℕ × ℕ)) → begin_after code ((front ++ r ∷ []) ++ more) ≡ begin_after code (front ++ r ∷ [])
begin_still code [] r more = refl
begin_still code (s ∷ ss) r more = refl

-- with one more, above the last
pub one_above : (front : List (ℕ × ℕ)) (first last low high : ℕ) → IsTrue (are_apart (front ++ (first, last) ∷ [])) → last + 1 < low → low ≤ high
    → IsTrue (are_apart ((front ++ (first, last) ∷ []) ++ (low, high) ∷ []))
one_above [] first last low high apart above some = grind (arith, nat_tests)
one_above (r ∷ rs) first last low high apart above some =
    let parts = apart_parts (nat_le r.0 r.1) (begin_after r.1 (rs ++ (first, last) ∷ [])) (are_apart (rs ++ (first, last) ∷ [])) apart in
    apart_whole _ _ _ parts.0 (begin_still r.1 rs (first, last) ((low, high) ∷ []) ∙ parts.1) (one_above rs first last low high parts.2 above some)

pub one_alone : (low high : ℕ) → low ≤ high → IsTrue (are_apart ((low, high) ∷ []))
one_alone low high some = grind (arith, nat_tests)

-- ---- in order

pub begin_both : (code : ℕ) (rs ss : List (ℕ × ℕ)) → begin_by code (rs ++ ss) ≡ (begin_by code rs && begin_by code ss)
begin_both code [] ss = refl
begin_both code (r ∷ rs) ss = let ih = begin_both code rs ss in grind rules

pub begin_later : (code later : ℕ) (rs : List (ℕ × ℕ)) → code ≤ later → IsTrue (begin_by code rs) → IsTrue (begin_by later rs)
begin_later code later [] le order = refl
begin_later code later (r ∷ rs) le order =
    let rest : IsTrue (begin_by code rs) = grind rules in
    let first : IsTrue (nat_le r.0 code) = grind rules in
    let ih = begin_later code later rs le rest in
    let here : IsTrue (nat_le r.0 later) = grind (arith, nat_tests) in
    grind rules

-- ---- the characters

pub joined_range : (first last low high c : ℕ) → first ≤ low → low ≤ last + 1 → low ≤ high → is_in_range first (max last high) c ≡ (is_in_range first last c || is_in_range low high c)
joined_range first last low high c in_order touches some = grind (arith, nat_tests)

pub no_character : (low high c : ℕ) → high < low → is_in_range low high c ≡ false
no_character low high c over = grind (arith, nat_tests)

-- ---- one after another

pub more_of : (all total : List (ℕ × ℕ)) (i : ℕ) (old new : Bool) (r : ℕ × ℕ) (c : ℕ) → i < length all → r ≡ get_or all i r → new ≡ (old || is_in_range r.0 r.1 c)
    → (old || is_in_some (drop i all) c) ≡ is_in_some total c → (new || is_in_some (drop (i + 1) all) c) ≡ is_in_some total c
more_of all total i old new r c lt is added so_far =
    ap (λ (b : Bool). b || is_in_some (drop (i + 1) all) c) added
    ∙ or_later old (is_in_range r.0 r.1 c) (is_in_some (drop (i + 1) all) c)
    ∙ ap (λ (s : ℕ × ℕ). old || (is_in_range s.0 s.1 c || is_in_some (drop (i + 1) all) c)) is
    ∙ sym (ap (λ (b : Bool). old || b) (at_drop_more (λ (rs : List (ℕ × ℕ)). is_in_some rs c) all i r lt))
    ∙ so_far
  where
    or_later : (a b d : Bool) → ((a || b) || d) ≡ (a || (b || d))
    or_later true b d = refl
    or_later false b d = refl
