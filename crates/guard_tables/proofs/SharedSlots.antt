-- Types that are kept once each fail the slots of all that have them.
use Rattle.std.proofs.Common.{◌≡◌, ℕ, zero, suc, ◌+◌, ◌<◌, Bool, true, false, eqb, List, [], ◌∷◌, map, Option, Some, None, slice_get, refl, sym, ap, ◌∙◌, arith}
use Rattle.std.specs.Prelude.{not, ◌&&◌, ◌||◌}
use Rattle.std.proofs.lemmas.Bool.{eq-eqb, ne_eqb}
use Rattle.guard_model.specs.AbstractType.{AbstractType}
use Rattle.guard_model.specs.AbstractValue.{AbstractValue}
use Rattle.guard_eval.specs.Member.{is_member}
use Rattle.guard_tables.specs.Demands.{demands_fail}
use Rattle.guard_tables.specs.Laws.{has_failed}
use Rattle.guard_tables.specs.Slots.{none, only, has}
use Rattle.guard_tables.specs.inside.Sharing.{slots_for, demands_by}
use Rattle.guard_tables.proofs.SlotSets.{none_law, only_law}
use Rattle.guard_tables.proofs.Truths.{or_no, has_added_if}

-- whether the place with this number is this one
abbrev is_told : ℕ → List ℕ → ℕ → Bool
is_told at [] i = false
is_told at (p ∷ ps) zero = eqb p at
is_told at (p ∷ ps) (suc i) = is_told at ps i

neither : (a b c : Bool) → a ≡ false → b ≡ false → (a || (b && c)) ≡ false
neither false false c e f = refl
neither true b c e f = absurd cc
neither false true c e f = absurd cc

none_below : (at n slot : ℕ) (places : List ℕ) → slot < n → has (slots_for at n places) slot ≡ false
none_below at n slot [] lt = none_law slot
none_below at n slot (p ∷ ps) lt =
    has_added_if (eqb p at) (only n) (slots_for at (suc n) ps) slot
    ∙ neither (has (slots_for at (suc n) ps) slot) (has (only n) slot) (eqb p at)
    (none_below at (suc n) slot ps (omega (arith, lt)))
    (only_law n slot ∙ ne_eqb n slot (λ e. absurd (omega (arith, lt, e))))

one_side : (a b c : Bool) → a ≡ false → b ≡ true → (a || (b && c)) ≡ c
one_side false true c e f = refl
one_side true b c e f = absurd cc
one_side false false c e f = absurd cc

other_side : (a b c : Bool) → b ≡ false → (a || (b && c)) ≡ a
other_side true false c f = refl
other_side false false c f = refl
other_side a true c f = absurd cc

slots_told : (at n i slot : ℕ) (places : List ℕ) → slot ≡ n + i → has (slots_for at n places) slot ≡ is_told at places i
slots_told at n i slot [] e = none_law slot
slots_told at n zero slot (p ∷ ps) e =
    has_added_if (eqb p at) (only n) (slots_for at (suc n) ps) slot
    ∙ one_side (has (slots_for at (suc n) ps) slot) (has (only n) slot) (eqb p at)
    (none_below at (suc n) slot ps (omega (arith, e)))
    (only_law n slot ∙ eq-eqb n slot (omega (arith, e)))
slots_told at n (suc i) slot (p ∷ ps) e =
    has_added_if (eqb p at) (only n) (slots_for at (suc n) ps) slot
    ∙ other_side (has (slots_for at (suc n) ps) slot) (has (only n) slot) (eqb p at)
    (only_law n slot ∙ ne_eqb n slot (λ same. absurd (omega (arith, e, same))))
    ∙ slots_told at (suc n) i slot ps (omega (arith, e))

-- ---- what fails

-- of a slot whose place is this one
abbrev by_place : ℕ → ℕ → List AbstractType → AbstractValue → Bool
by_place place at [] v = false
by_place place at (t ∷ ts) v = (eqb place at && not (is_member t v)) || by_place place (suc at) ts v

nothing_later : (place at : ℕ) (ts : List AbstractType) (v : AbstractValue) → place < at → by_place place at ts v ≡ false
nothing_later place at [] v lt = refl
nothing_later place at (t ∷ ts) v lt =
    ap (λ (b : Bool). (b && not (is_member t v)) || by_place place (suc at) ts v) (ne_eqb place at (λ e. absurd (omega (arith, lt, e))))
    ∙ nothing_later place (suc at) ts v (omega (arith, lt))

by_place_is : (i place at : ℕ) (ts : List AbstractType) (t : AbstractType) (v : AbstractValue) → place ≡ at + i → slice_get ts i ≡ Some t → by_place place at ts v ≡ not (is_member t v)
by_place_is i place at [] t v e there = absurd cc
by_place_is zero place at (u ∷ us) t v e there =
    let same : u ≡ t = cc in
    ap (λ (b : Bool). (b && not (is_member u v)) || by_place place (suc at) us v) (eq-eqb place at (omega (arith, e)))
    ∙ ap (λ (b : Bool). not (is_member u v) || b) (nothing_later place (suc at) us v (omega (arith, e)))
    ∙ or_no (not (is_member u v))
    ∙ ap (λ (x : AbstractType). not (is_member x v)) same
by_place_is (suc i) place at (u ∷ us) t v e there =
    ap (λ (b : Bool). (b && not (is_member u v)) || by_place place (suc at) us v) (ne_eqb place at (λ same. absurd (omega (arith, e, same))))
    ∙ by_place_is i place (suc at) us t v (omega (arith, e)) there

told_at : (at i place : ℕ) (places : List ℕ) → slice_get places i ≡ Some place → is_told at places i ≡ eqb place at
told_at at i place [] e = absurd cc
told_at at zero place (p ∷ ps) e = let same : p ≡ place = cc in ap (λ (x : ℕ). eqb x at) same
told_at at (suc i) place (p ∷ ps) e = told_at at i place ps e

-- a slot whose number has this place
at_place : (at slot i place : ℕ) (ts : List AbstractType) (places : List ℕ) (v : AbstractValue) → slot ≡ i → slice_get places i ≡ Some place
    → demands_fail slot v (demands_by at ts places) ≡ by_place place at ts v
at_place at slot i place [] places v e there = refl
at_place at slot i place (t ∷ ts) places v e there =
    ap (λ (b : Bool). (b && not (is_member t v)) || demands_fail slot v (demands_by (suc at) ts places)) (slots_told at 0 i slot places (omega (arith, e)) ∙ told_at at i place places there)
    ∙ ap (λ (b : Bool). (eqb place at && not (is_member t v)) || b) (at_place (suc at) slot i place ts places v e there)

told_none : (at i : ℕ) (places : List ℕ) → slice_get places i ≡ None → is_told at places i ≡ false
told_none at i [] e = refl
told_none at zero (p ∷ ps) e = absurd cc
told_none at (suc i) (p ∷ ps) e = told_none at i ps e

-- a slot whose number has none
at_none : (at slot : ℕ) (ts : List AbstractType) (places : List ℕ) (v : AbstractValue) → slice_get places slot ≡ None → demands_fail slot v (demands_by at ts places) ≡ false
at_none at slot [] places v e = refl
at_none at slot (t ∷ ts) places v e =
    ap (λ (b : Bool). (b && not (is_member t v)) || demands_fail slot v (demands_by (suc at) ts places)) (slots_told at 0 slot slot places (omega arith) ∙ told_none at slot places e)
    ∙ at_none (suc at) slot ts places v e

-- ---- by all of them

failed_some : (ts : List AbstractType) (places : List ℕ) (all : List AbstractType) (slot place : ℕ) → map (slice_get ts) places ≡ map Some all → slice_get places slot ≡ Some place → (v : AbstractValue)
    → (t : AbstractType) × (slice_get ts place ≡ Some t) × (has_failed all v slot ≡ not (is_member t v))
failed_some ts [] all slot place e there v = absurd cc
failed_some ts (p ∷ ps) [] slot place e there v = absurd cc
failed_some ts (p ∷ ps) (t ∷ all) zero place e there v =
    let head : slice_get ts p ≡ Some t = cc in
    let same : p ≡ place = cc in
    (t, ap (slice_get ts) (sym same) ∙ head, refl)
failed_some ts (p ∷ ps) (t ∷ all) (suc slot) place e there v =
    let tail : map (slice_get ts) ps ≡ map Some all = cc in
    failed_some ts ps all slot place tail there v

failed_none : (ts : List AbstractType) (places : List ℕ) (all : List AbstractType) (slot : ℕ) → map (slice_get ts) places ≡ map Some all → slice_get places slot ≡ None → (v : AbstractValue) → has_failed all v slot ≡ false
failed_none ts places [] slot e there v = refl
failed_none ts [] (t ∷ all) slot e there v = absurd cc
failed_none ts (p ∷ ps) (t ∷ all) zero e there v = absurd cc
failed_none ts (p ∷ ps) (t ∷ all) (suc slot) e there v = let tail : map (slice_get ts) ps ≡ map Some all = cc in failed_none ts ps all slot tail there v

by_found : (ts : List AbstractType) (places : List ℕ) (all : List AbstractType) (slot : ℕ) (v : AbstractValue) → map (slice_get ts) places ≡ map Some all → (r : Option ℕ) → slice_get places slot ≡ r
    → demands_fail slot v (demands_by 0 ts places) ≡ has_failed all v slot
by_found ts places all slot v e None none = at_none 0 slot ts places v none ∙ sym (failed_none ts places all slot e none v)
by_found ts places all slot v e (Some place) there =
    let f = failed_some ts places all slot place e there v in
    at_place 0 slot slot place ts places v refl there ∙ by_place_is place place 0 ts f.0 v (omega arith) f.1 ∙ sym f.2

-- the slots of those of which the value is no member
pub by_places : (ts : List AbstractType) (places : List ℕ) (all : List AbstractType) (v : AbstractValue) (slot : ℕ) → map (slice_get ts) places ≡ map Some all
    → demands_fail slot v (demands_by 0 ts places) ≡ has_failed all v slot
by_places ts places all v slot e = by_found ts places all slot v e (slice_get places slot) refl
