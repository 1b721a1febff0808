-- Tables of which codes some ranges have, marked one range after the other.
use Rattle.std.proofs.Common.{◌≡◌, ℕ, ◌+◌, ◌-◌, ◌<◌, ◌≤◌, Bool, true, false, ◌&&◌, ◌||◌, min, get_or, replicate, refl, sym, ap, ◌∙◌, inl, inr, arith, List, length}
use Rattle.std.specs.Int.{is_in_range}
use Rattle.std.proofs.lemmas.Bool.{cases_lt, le-leb, lt-leb}
use Rattle.std.proofs.lemmas.List.{get_or-replicate}
use Rattle.std.proofs.lemmas.List.Folds.{list_any_at}
use Rattle.guard_eval.specs.Elements.{is_in_some}

pub none_marked : (size code : ℕ) (later : Bool) → code < size → (get_or (replicate size false) code false || later) ≡ later
none_marked size code later lt = ap (λ (b : Bool). b || later) (get_or-replicate size code false false lt)

or_false : (a : Bool) → (a || false) ≡ a
or_false true = refl
or_false false = refl

or_true : (a : Bool) → (a || true) ≡ true
or_true true = refl
or_true false = refl

and_false : (a : Bool) → (a && false) ≡ false
and_false true = refl
and_false false = refl

in_range : (first last code : ℕ) → first ≤ code → code ≤ last → is_in_range first last code ≡ true
in_range first last code a b = rw (le-leb first code a, le-leb code last b) refl

below_range : (first last code : ℕ) → code < first → is_in_range first last code ≡ false
below_range first last code a = rw (lt-leb first code a) refl

above_range : (first last code : ℕ) → last < code → is_in_range first last code ≡ false
above_range first last code a = rw (lt-leb code last a) (and_false _)

-- what is marked once the places from the first one up to the end are
pub all_marked : (old now : Bool) (begin low high size start end at place : ℕ) → place < size → start ≡ low - begin → end ≡ min size ((high + 1) - begin) → end ≤ at
    → (start ≤ place → place < at → (now ≡ true) × (begin + place ≤ high)) → (place < start → now ≡ old) → (at ≤ place → now ≡ old) → now ≡ (old || is_in_range low high (begin + place))
all_marked old now begin low high size start end at place within starts is ends marked before after = elim (cases_lt place start) [
  | inl below ↦ before below ∙ sym (ap (λ (b : Bool). old || b) (below_range low high (begin + place) (omega (arith, starts, below))) ∙ or_false old)
  | inr from ↦ elim (cases_lt place at) [
    | inl under ↦ (marked from under).0 ∙ sym (ap (λ (b : Bool). old || b) (in_range low high (begin + place) (omega (arith, starts, from)) (marked from under).1) ∙ or_true old)
    | inr past ↦ after past ∙ sym (ap (λ (b : Bool). old || b) (above_range low high (begin + place) (omega (arith, within, is, ends, past))) ∙ or_false old)
  ]
]

-- a range that has the whole window has each place of it
pub window_had : (rs : List (ℕ × ℕ)) (i : ℕ) (d : ℕ × ℕ) (first size place : ℕ) → i < length rs → (get_or rs i d).0 ≤ first → first + size ≤ (get_or rs i d).1 → place < size
    → get_or (replicate size true) place false ≡ is_in_some rs (first + place)
window_had rs i d first size place lt low high within =
    get_or-replicate size place true false within
    ∙ sym (list_any_at (λ (r : ℕ × ℕ). is_in_range r.0 r.1 (first + place)) rs i d lt (in_range (get_or rs i d).0 (get_or rs i d).1 (first + place) (omega (arith, low)) (omega (arith, high, within))))
