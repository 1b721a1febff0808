-- Where no node of a type is crowded, none needs more slots than there are.
use Rattle.std.proofs.Common.{◌≡◌, ℕ, suc, ◌≤◌, false, List, [], ◌∷◌, ◌++◌, map, refl, arith}
use Rattle.std.specs.Prelude.{nat_le}
use Rattle.std.specs.List.{AllByRecursion, list_any}
use Rattle.std.proofs.lemmas.Bool.{or_parts, leb-true, not-false}
use Rattle.guard_model.specs.AbstractType as type
use Rattle.guard_model.specs.AbstractType.{AbstractType, AbstractKind, Components, type_of, no_components, component}
use Rattle.guard_tables.specs.Conditions.{conditions, is_crowded, has_crowded_node}
use Rattle.guard_tables.specs.Nodes.{ways, ways_inside, ways_among}
use Rattle.guard_tables.specs.Demands.{SlotDemand}
use Rattle.guard_tables.specs.OfParts.{each_of, within_of, terms_at, of_demands, demands_from, NeedsFew, NeedsFewInside, NeedsFewAmong}
use Rattle.guard_tables.proofs.PartCounts.{each_law, within_law}

abbrev AllFew : (List ℕ → ℕ) → List (List ℕ) → Type 0
AllFew count ws = AllByRecursion (λ way. count way ≤ 256) ws

front : (count : List ℕ → ℕ) (xs ys : List (List ℕ)) → AllFew count (xs ++ ys) → AllFew count xs
front count [] ys a = tt
front count (x ∷ xs) ys a = (a.0, front count xs ys a.1)

back : (count : List ℕ → ℕ) (xs ys : List (List ℕ)) → AllFew count (xs ++ ys) → AllFew count ys
back count [] ys a = a
back count (x ∷ xs) ys a = back count xs ys a.1

-- one step on
step : (count part : List ℕ → ℕ) (place : ℕ) → ((way : List ℕ) → part way ≤ count (place ∷ way)) → (ws : List (List ℕ)) → AllFew count (map (λ way. place ∷ way) ws) → AllFew part ws
step count part place h [] a = tt
step count part place h (w ∷ ws) a = let x = h w in let y = a.0 in (omega (arith, x, y), step count part place h ws a.1)

mutual
  few : (t : AbstractType) (demands : List SlotDemand) → AllFew (of_demands demands) (ways t) → NeedsFew t demands
  few (type_of tags kind cons) demands a = (a.0, few_inside kind demands a.1)

  few_inside : (kind : AbstractKind) (demands : List SlotDemand) → AllFew (of_demands demands) (ways_inside kind) → NeedsFewInside kind (terms_at demands)
  few_inside (type.sequence cs) demands a = few_among cs 0 demands a
  few_inside (type.set cs) demands a = few_among cs 0 demands a
  few_inside (type.choice cs) demands a = few_among cs 0 demands a
  few_inside (type.sequence_of t) demands a = few t (each_of (terms_at demands)) (step (of_demands demands) (of_demands (each_of (terms_at demands))) 0 (λ way. each_law demands 0 way) (ways t) a)
  few_inside (type.set_of t) demands a = few t (each_of (terms_at demands)) (step (of_demands demands) (of_demands (each_of (terms_at demands))) 0 (λ way. each_law demands 0 way) (ways t) a)
  few_inside _ demands a = tt

  few_among : (cs : Components) (i : ℕ) (demands : List SlotDemand) → AllFew (of_demands demands) (ways_among i cs) → NeedsFewAmong i cs (terms_at demands)
  few_among no_components i demands a = tt
  few_among (component name t presence cs) i demands a = (
    few t (within_of i (terms_at demands)) (step (of_demands demands) (of_demands (within_of i (terms_at demands))) i (λ way. within_law demands i way) (ways t) (front (of_demands demands) (map (λ way. i ∷ way) (ways t)) (ways_among (suc i) cs) a)),
    few_among cs (suc i) demands (back (of_demands demands) (map (λ way. i ∷ way) (ways t)) (ways_among (suc i) cs) a),
  )

-- ---- of a table's types

all_few : (count : List ℕ → ℕ) (types : List AbstractType) (ws : List (List ℕ)) → ((way : List ℕ) → count way ≤ conditions types way) → list_any (is_crowded types) ws ≡ false → AllFew count ws
all_few count types [] no_more h = tt
all_few count types (w ∷ ws) no_more h =
    let p = or_parts (is_crowded types w) (list_any (is_crowded types) ws) h in
    let few_here : conditions types w ≤ 256 = leb-true (conditions types w) 256 (not-false (nat_le (conditions types w) 256) p.0) in
    let one = no_more w in
    (omega (arith, few_here, one), all_few count types ws no_more p.1)

-- that ask no more than these types
pub few_asked : (declared : AbstractType) (types : List AbstractType) (demands : List SlotDemand) → ((way : List ℕ) → of_demands demands way ≤ conditions types way) → has_crowded_node types declared ≡ false → NeedsFew declared demands
few_asked declared types demands no_more h = few declared demands (all_few (of_demands demands) types (ways declared) no_more h)

same_count : (n : ℕ) (types : List AbstractType) (way : List ℕ) → of_demands (demands_from n types) way ≡ conditions types way
same_count n [] way = refl
same_count n (t ∷ ts) way = let e = same_count (suc n) ts way in omega (arith, e)

not_crowded : (n : ℕ) (types : List AbstractType) (ws : List (List ℕ)) → list_any (is_crowded types) ws ≡ false → AllFew (of_demands (demands_from n types)) ws
not_crowded n types [] h = tt
not_crowded n types (w ∷ ws) h =
    let p = or_parts (is_crowded types w) (list_any (is_crowded types) ws) h in
    let few_here : conditions types w ≤ 256 = leb-true (conditions types w) 256 (not-false (nat_le (conditions types w) 256) p.0) in
    let same = same_count n types w in
    (omega (arith, few_here, same), not_crowded n types ws p.1)

pub few_law : (declared : AbstractType) (types : List AbstractType) → has_crowded_node types declared ≡ false → NeedsFew declared (demands_from 0 types)
few_law declared types h = few declared (demands_from 0 types) (not_crowded 0 types (ways declared) h)
