-- Types that are kept once each: where each of all is, and how much they ask.
use Rattle.std.proofs.Common.{◌≡◌, ℕ, zero, suc, ◌+◌, ◌<◌, ◌≤◌, Bool, true, false, cond, ltb, List, [], ◌∷◌, ◌++◌, map, length, drop, get_or, Option, Some, slice_get, unwrap_or, refl, sym, ap, ◌∙◌, arith}
use Rattle.std.specs.Borrow.{Bor}
use Rattle.std.proofs.lemmas.Bool.{ltb-true, ltb-false}
use Rattle.std.proofs.lemmas.List.{at_drop_more}
use Rattle.guard_model.specs.AbstractType.{AbstractType}
use Rattle.guard_model.specs.Kinds.{kind_of}
use Rattle.guard_model.specs.SameType.{same_type}
use Rattle.guard_model.specs.TypeView.{type_view}
use Rattle.guard_model.specs.declared.ty.Ty.{Ty}
use Rattle.guard_model.proofs.SameTypes.{same_type-Decides}
use Rattle.guard_tables.specs.Apt.{AreApt}
use Rattle.guard_tables.specs.Conditions.{of_type, conditions}
use Rattle.guard_tables.specs.OfParts.{of_demands}
use Rattle.guard_tables.specs.Laws.{AllMayJudge}
use Rattle.guard_tables.specs.Tables.{types_view}
use Rattle.guard_tables.specs.inside.Sharing.{place_of, with_type, shared, places_of, demands_by}
use Rattle.guard_tables.proofs.Bases.{base_is}
use Rattle.guard_tables.proofs.Speaking.{proper_of_sound}

-- ---- where one is

abbrev place_by : Bool → List AbstractType → AbstractType → ℕ
place_by b us t = cond b 0 (suc (place_of us t))

found : (ts : List AbstractType) (t : AbstractType) → place_of ts t < length ts → slice_get ts (place_of ts t) ≡ Some t
found [] t lt = absurd (omega (arith, lt))
found (u ∷ us) t lt =
    let f = λ (b : Bool). same_type u t ≡ b → place_by b us t < suc (length us) → slice_get (u ∷ us) (place_by b us t) ≡ Some t in
    (elim (same_type u t) as f [
      | true ↦ λ e lt. ap Some ((same_type-Decides u t).0 e)
      | false ↦ λ e lt. found us t (omega (arith, lt))
    ]) refl lt

within : (ts : List AbstractType) (t : AbstractType) → place_of ts t ≤ length ts
within [] t = omega arith
within (u ∷ us) t =
    let f = λ (b : Bool). place_by b us t ≤ suc (length us) in
    elim (same_type u t) as f [
      | true ↦ omega arith
      | false ↦ let h = within us t in omega (arith, h)
    ]

-- ---- in the lists of the code

pub here : (types : List (Bor Ty)) (place : ℕ) (u : Bor Ty) (t : AbstractType) (b : Bool) → place < length types → u ≡ get_or types place u → b ≡ same_type (type_view u.now) t → b ≡ true
    → (all : ℕ) → place + place_of (types_view (drop place types)) t ≡ all → place ≡ all
here types place u t b lt is test told all sum =
    let one : place_of (types_view (drop place types)) t ≡ place_by (same_type (type_view u.now) t) (types_view (drop (place + 1) types)) t =
    at_drop_more (λ (ts : List (Bor Ty)). place_of (types_view ts) t) types place u lt ∙ ap (λ (v : Bor Ty). place_by (same_type (type_view v.now) t) (types_view (drop (place + 1) types)) t) (sym is) in
    let none : place_by (same_type (type_view u.now) t) (types_view (drop (place + 1) types)) t ≡ 0 = ap (λ (b : Bool). place_by b (types_view (drop (place + 1) types)) t) (sym test ∙ told) in
    omega (arith, one, none, sum)

pub further : (types : List (Bor Ty)) (place : ℕ) (u : Bor Ty) (t : AbstractType) (b : Bool) → place < length types → u ≡ get_or types place u → b ≡ same_type (type_view u.now) t → b ≡ false
    → (all : ℕ) → place + place_of (types_view (drop place types)) t ≡ all → (place + 1) + place_of (types_view (drop (place + 1) types)) t ≡ all
further types place u t b lt is test untold all sum =
    let one : place_of (types_view (drop place types)) t ≡ place_by (same_type (type_view u.now) t) (types_view (drop (place + 1) types)) t =
    at_drop_more (λ (ts : List (Bor Ty)). place_of (types_view ts) t) types place u lt ∙ ap (λ (v : Bor Ty). place_by (same_type (type_view v.now) t) (types_view (drop (place + 1) types)) t) (sym is) in
    let next : place_by (same_type (type_view u.now) t) (types_view (drop (place + 1) types)) t ≡ suc (place_of (types_view (drop (place + 1) types)) t) = ap (λ (b : Bool). place_by b (types_view (drop (place + 1) types)) t) (sym test ∙ untold) in
    omega (arith, one, next, sum)

-- ---- with more after it

stays : (ts us : List AbstractType) (place : ℕ) (t : AbstractType) → slice_get ts place ≡ Some t → slice_get (ts ++ us) place ≡ Some t
stays [] us place t e = absurd cc
stays (x ∷ xs) us zero t e = e
stays (x ∷ xs) us (suc place) t e = stays xs us place t e

last : (ts : List AbstractType) (place : ℕ) (t : AbstractType) → place ≡ length ts → slice_get (ts ++ t ∷ []) place ≡ Some t
last [] zero t e = refl
last [] (suc place) t e = absurd (omega (arith, e))
last (x ∷ xs) zero t e = absurd (omega (arith, e))
last (x ∷ xs) (suc place) t e = last xs place t (omega (arith, e))

with_keeps : (ts : List AbstractType) (t : AbstractType) (place : ℕ) (u : AbstractType) → slice_get ts place ≡ Some u → slice_get (with_type ts t) place ≡ Some u
with_keeps ts t place u e =
    let f = λ (b : Bool). slice_get (cond b ts (ts ++ t ∷ [])) place ≡ Some u in
    elim (ltb (place_of ts t) (length ts)) as f [ true ↦ e | false ↦ stays ts (t ∷ []) place u e ]

with_has : (ts : List AbstractType) (t : AbstractType) → slice_get (with_type ts t) (place_of ts t) ≡ Some t
with_has ts t =
    let f = λ (b : Bool). ltb (place_of ts t) (length ts) ≡ b → slice_get (cond b ts (ts ++ t ∷ [])) (place_of ts t) ≡ Some t in
    (elim (ltb (place_of ts t) (length ts)) as f [
      | true ↦ λ e. found ts t (ltb-true (place_of ts t) (length ts) e)
      | false ↦ λ e. let high = ltb-false (place_of ts t) (length ts) e in let low = within ts t in last ts (place_of ts t) t (omega (arith, high, low))
    ]) refl

shared_keeps : (rest ts : List AbstractType) (place : ℕ) (u : AbstractType) → slice_get ts place ≡ Some u → slice_get (shared ts rest) place ≡ Some u
shared_keeps [] ts place u e = e
shared_keeps (t ∷ rest) ts place u e = shared_keeps rest (with_type ts t) place u (with_keeps ts t place u e)

-- each of those that come is at its place
pub are_at : (rest ts : List AbstractType) → map (slice_get (shared ts rest)) (places_of ts rest) ≡ map Some rest
are_at [] ts = refl
are_at (t ∷ rest) ts =
    ap (λ (x : Option AbstractType). x ∷ map (slice_get (shared (with_type ts t) rest)) (places_of (with_type ts t) rest))
    (shared_keeps rest (with_type ts t) (place_of ts t) t (with_has ts t))
    ∙ ap (λ (xs : List (Option AbstractType)). Some t ∷ xs) (are_at rest (with_type ts t))

pub first_at : (rest : List AbstractType) (declared : AbstractType) → slice_get (shared (declared ∷ []) rest) 0 ≡ Some declared
first_at rest declared = shared_keeps rest (declared ∷ []) 0 declared refl

pub as_many : (rest ts : List AbstractType) → length (places_of ts rest) ≡ length rest
as_many [] ts = refl
as_many (t ∷ rest) ts = ap suc (as_many rest (with_type ts t))

pub told_types : (ts : List AbstractType) (d : AbstractType) (places : List ℕ) (all : List AbstractType) → map (slice_get ts) places ≡ map Some all → map (λ place. unwrap_or (slice_get ts place) d) places ≡ all
told_types ts d [] [] e = refl
told_types ts d [] (t ∷ all) e = absurd cc
told_types ts d (p ∷ ps) [] e = absurd cc
told_types ts d (p ∷ ps) (t ∷ all) e =
    let head : slice_get ts p ≡ Some t = cc in
    let tail : map (slice_get ts) ps ≡ map Some all = cc in
    ap (λ (x : Option AbstractType). unwrap_or x d ∷ map (λ place. unwrap_or (slice_get ts place) d) ps) head
    ∙ ap (λ (xs : List AbstractType). t ∷ xs) (told_types ts d ps all tail)

-- ---- how much they ask

conditions_one : (ts : List AbstractType) (t : AbstractType) (way : List ℕ) → conditions (ts ++ t ∷ []) way ≡ conditions ts way + of_type t way
conditions_one [] t way = omega arith
conditions_one (u ∷ us) t way = let e = conditions_one us t way in omega (arith, e)

conditions_with : (ts : List AbstractType) (t : AbstractType) (way : List ℕ) → conditions (with_type ts t) way ≤ conditions ts way + of_type t way
conditions_with ts t way =
    let f = λ (b : Bool). conditions (cond b ts (ts ++ t ∷ [])) way ≤ conditions ts way + of_type t way in
    elim (ltb (place_of ts t) (length ts)) as f [ true ↦ omega arith | false ↦ let e = conditions_one ts t way in omega (arith, e) ]

conditions_shared : (rest ts : List AbstractType) (way : List ℕ) → conditions (shared ts rest) way ≤ conditions ts way + conditions rest way
conditions_shared [] ts way = omega arith
conditions_shared (t ∷ rest) ts way =
    let a = conditions_shared rest (with_type ts t) way in
    let b = conditions_with ts t way in
    omega (arith, a, b)

count_by : (at : ℕ) (ts : List AbstractType) (places : List ℕ) (way : List ℕ) → of_demands (demands_by at ts places) way ≡ conditions ts way
count_by at [] places way = refl
count_by at (t ∷ ts) places way = let e = count_by (suc at) ts places way in omega (arith, e)

-- no more than all
pub ask_no_more : (declared : AbstractType) (rest : List AbstractType) (places : List ℕ) (way : List ℕ)
    → of_demands (demands_by 0 (shared (declared ∷ []) rest) places) way ≤ conditions (declared ∷ rest) way
ask_no_more declared rest places way =
    let a = count_by 0 (shared (declared ∷ []) rest) places way in
    let b = conditions_shared rest (declared ∷ []) way in
    omega (arith, a, b)

-- ---- of whom they may be asked

judge_one : (declared : AbstractType) (ts : List AbstractType) (t : AbstractType) → AllMayJudge declared ts → AllMayJudge declared (t ∷ []) → AllMayJudge declared (ts ++ t ∷ [])
judge_one declared [] t a h = h
judge_one declared (u ∷ us) t a h = (a.0, a.1, judge_one declared us t a.2 h)

judge_with : (declared : AbstractType) (ts : List AbstractType) (t : AbstractType) → AllMayJudge declared ts → AllMayJudge declared (t ∷ []) → AllMayJudge declared (with_type ts t)
judge_with declared ts t a h =
    let f = λ (b : Bool). AllMayJudge declared (cond b ts (ts ++ t ∷ [])) in
    elim (ltb (place_of ts t) (length ts)) as f [ true ↦ a | false ↦ judge_one declared ts t a h ]

pub judge_shared : (declared : AbstractType) (rest ts : List AbstractType) → AllMayJudge declared ts → AllMayJudge declared rest → AllMayJudge declared (shared ts rest)
judge_shared declared [] ts a h = a
judge_shared declared (t ∷ rest) ts a h = judge_shared declared rest (with_type ts t) (judge_with declared ts t a (h.0, h.1, tt)) h.2

pub by_apt : (declared : AbstractType) (at : ℕ) (ts : List AbstractType) (places : List ℕ) → AllMayJudge declared ts → AreApt (kind_of declared) (demands_by at ts places)
by_apt declared at [] places h = tt
by_apt declared at (t ∷ ts) places h = ((base_is t declared h.0, proper_of_sound t h.1), by_apt declared (suc at) ts places h.2)
