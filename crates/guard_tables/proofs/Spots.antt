-- What the nodes of a table stand for, node by node.
use Rattle.std.proofs.Common.{◌≡◌, ℕ, zero, suc, ◌+◌, ◌-◌, ◌<◌, ◌≤◌, true, List, [], ◌∷◌, ◌++◌, length, take, drop, get_or, slice_get, vec_len, Some, refl, sym, ap, ◌∙◌, arith, inl, inr, length-append, drop-cons}
use Rattle.std.specs.Prelude.{map}
use Rattle.std.proofs.lemmas.List.{get_or-take, drop-take, take_at, take_all}
use Rattle.std.proofs.Math.Seq.{get_or-append_seam}
use Rattle.std.proofs.lemmas.Option.{slice_get_read, slice_get_cases}
use Rattle.guard_tables.specs.declared.node.Hot.{Hot}
use Rattle.guard_tables.specs.declared.node.Cold.{Cold}
use Rattle.guard_tables.specs.declared.node.Kind.{Kind}
use Rattle.guard_tables.specs.declared.node.Kind.TheVariants as kind
use Rattle.guard_tables.specs.declared.node_list.Nodes.{Nodes}
use Rattle.guard_tables.specs.NodeViews.{implication_view}
use Rattle.guard_tables.specs.NodesView.{spots_in}
use Rattle.guard_tables.specs.Plan.{Plan, plan, series, set, choice, list, set_of, asked, formula, part, body_in, tags_in, form_in}
use Rattle.guard_tables.specs.TableNodes.{Spot, side_of, spot_at, spot_of, spots_from, spots_of, blank, body_of_kind, tags_of_kind, form_of_kind, own_tags, conditions_of, parts_between, parts_of, IsNode, has_inner}

-- ---- a front of a list

take_twice : (n m : ℕ) (xs : List Spot) → n ≤ m → take n (take m xs) ≡ take n xs
take_twice zero m xs h = refl
take_twice (suc n) zero xs h = absurd (omega (arith, h))
take_twice (suc n) (suc m) [] h = refl
take_twice (suc n) (suc m) (x ∷ xs) h = ap (λ ys. x ∷ ys) (take_twice n m xs (omega (arith, h)))

pub drop_front : (first count k : ℕ) (xs : List Spot) → first + count ≤ k → take count (drop first (take k xs)) ≡ take count (drop first xs)
drop_front first count k xs h =
    let whole : k ≡ first + (k - first) = omega (arith, h) in
    ap (λ (k : ℕ). take count (drop first (take k xs))) whole ∙ ap (take count) (drop-take first (k - first) xs) ∙ take_twice count (k - first) (drop first xs) (omega (arith, h))

-- ---- where what a node stands for is found

end_is : (before : List Spot) (s : Spot) → length (before ++ s ∷ []) ≡ length before + 1
end_is before s = length-append before (s ∷ [])

kept : (hs : List Hot) (cs : List Cold) (before : List Spot) → take (length before) (spots_from hs cs before) ≡ before
unfolding spots_from
kept [] cs before = take_all (length before) before (omega arith)
kept (h ∷ hs) [] before = take_all (length before) before (omega arith)
kept (h ∷ hs) (c ∷ cs) before =
    let s = spot_of h c before in
    sym (take_twice (length before) (length (before ++ s ∷ [])) (spots_from hs cs (before ++ s ∷ [])) (omega (arith, end_is before s)))
    ∙ ap (take (length before)) (kept hs cs (before ++ s ∷ []))
    ∙ take_at before (s ∷ []) (length before) refl

-- the first of them
first_found : (hs : List Hot) (cs : List Cold) (before : List Spot) (h : Hot) (c : Cold) → spot_at (spots_from (h ∷ hs) (c ∷ cs) before) (length before) ≡ spot_of h c (take (length before) (spots_from (h ∷ hs) (c ∷ cs) before))
unfolding spots_from
first_found hs cs before h c =
    let s = spot_of h c before in
    let all : List Spot = spots_from hs cs (before ++ s ∷ []) in
    sym (get_or-take (length (before ++ s ∷ [])) all (length before) blank (omega (arith, end_is before s)))
    ∙ ap (λ (ss : List Spot). spot_at ss (length before)) (kept hs cs (before ++ s ∷ []))
    ∙ get_or-append_seam before s [] blank
    ∙ ap (λ (ss : List Spot). spot_of h c ss) (sym (kept (h ∷ hs) (c ∷ cs) before))

found : (hs : List Hot) (cs : List Cold) (before : List Spot) (k : ℕ) (h : Hot) (c : Cold) → slice_get hs k ≡ Some h → slice_get cs k ≡ Some c
    → spot_at (spots_from hs cs before) (length before + k) ≡ spot_of h c (take (length before + k) (spots_from hs cs before))
unfolding spots_from
found [] cs before k h c there cold = absurd cc
found (x ∷ hs) [] before k h c there cold = absurd cc
found (x ∷ hs) (y ∷ cs) before zero h c there cold =
    let at : length before + 0 ≡ length before = omega arith in
    let hot : x ≡ h = cc in
    let rest : y ≡ c = cc in
    rw (at, ← hot, ← rest) (first_found hs cs before x y)
found (x ∷ hs) (y ∷ cs) before (suc k) h c there cold =
    let s = spot_of x y before in
    let at : length (before ++ s ∷ []) + k ≡ length before + suc k = omega (arith, end_is before s) in
    rw (← at) (found hs cs (before ++ s ∷ []) k h c there cold)

-- ---- a node looks at those before it alone

abbrev pub plan_of_kind : Kind → Hot → Cold → List Spot → Plan
plan_of_kind k h c spots = plan (tags_of_kind k c.tag (tags_in (spot_at spots h.first).plan)) (form_of_kind k (form_in (spot_at spots h.first).plan)) (body_of_kind k h c spots)

pub same_plan : (k : Kind) (h : Hot) (c : Cold) (spots : List Spot) (n : ℕ) → h.first + h.count ≤ n → (has_inner k ≡ true → h.first < n) → plan_of_kind k h c (take n spots) ≡ plan_of_kind k h c spots
same_plan (kind.Simple k) h c spots n before inner = refl
same_plan kind.Series h c spots n before inner = ap (λ (ss : List Spot). plan (own_tags c.tag) true (series (parts_of ss))) (drop_front h.first h.count n spots before)
same_plan kind.Set h c spots n before inner = ap (λ (ss : List Spot). plan (own_tags c.tag) true (set (parts_of ss))) (drop_front h.first h.count n spots before)
same_plan kind.Choice h c spots n before inner = ap (λ (ss : List Spot). plan (own_tags c.tag) true (choice (parts_of ss))) (drop_front h.first h.count n spots before)
same_plan kind.List h c spots n before inner = ap (λ (s : Spot). plan (own_tags c.tag) true (list s.plan)) (get_or-take n spots h.first blank (inner refl))
same_plan kind.SetOf h c spots n before inner = ap (λ (s : Spot). plan (own_tags c.tag) true (set_of s.plan)) (get_or-take n spots h.first blank (inner refl))
same_plan kind.Wrapper h c spots n before inner = ap (λ (s : Spot). plan (tags_of_kind kind.Wrapper c.tag (tags_in s.plan)) (form_in s.plan) (body_in s.plan)) (get_or-take n spots h.first blank (inner refl))
same_plan kind.Asked h c spots n before inner = ap (λ (s : Spot). plan (tags_in s.plan) (form_in s.plan) (asked (conditions_of c) (body_in s.plan))) (get_or-take n spots h.first blank (inner refl))
same_plan kind.Formula h c spots n before inner = ap (λ (s : Spot). plan (tags_in s.plan) (form_in s.plan) (formula (map implication_view c.implications.items) (body_in s.plan))) (get_or-take n spots h.first blank (inner refl))

abbrev pub spot_with : Hot → Cold → Plan → Spot
spot_with h c p = record { side = side_of h c; plan = p }

pub same_spot : (h : Hot) (c : Cold) (spots : List Spot) (n : ℕ) → h.first + h.count ≤ n → (has_inner h.kind ≡ true → h.first < n) → spot_of h c (take n spots) ≡ spot_of h c spots
unfolding spot_of
same_spot h c spots n before inner = ap (spot_with h c) (same_plan h.kind h c spots n before inner)

-- ---- of a table

-- the node that is hot and cold, and what it stands for
pub record NodeAt (t : Nodes) (k : ℕ) (h : Hot) : Type 0 where
  pub cold : Cold
  pub cold_there : slice_get t.colds.items k ≡ Some cold
  pub node : IsNode h cold (spots_in t) k
  pub spot : spot_at (spots_in t) k ≡ spot_of h cold (spots_in t)

pub known : (t : Nodes) (k : ℕ) (h : Hot) (c : Cold) → slice_get t.hots.items k ≡ Some h → slice_get t.colds.items k ≡ Some c → NodeAt t k h
unfolding spots_in spots_of
known t k h c there cold =
    let node = t.built.each k h c there cold in
    let at : 0 + k ≡ k = omega arith in
    record {
      cold = c;
      cold_there = cold;
      node = node;
      spot = ap (λ (k : ℕ). spot_at (spots_from t.hots.items t.colds.items []) k) (sym at) ∙ found t.hots.items t.colds.items [] k h c there cold
          ∙ ap (λ (k : ℕ). spot_of h c (take k (spots_from t.hots.items t.colds.items []))) at ∙ same_spot h c (spots_in t) k node.before node.inner;
    }

pub node_at : (t : Nodes) (k : ℕ) (h : Hot) → k < vec_len t.hots → h ≡ get_or t.hots.items k h → NodeAt t k h
node_at t k h lt is =
    let short : k < length t.hots.items = omega (arith, lt, t.hots.ok.0) in
    let there : slice_get t.hots.items k ≡ Some h = slice_get_read t.hots.items (length t.hots.items) k h refl short is in
    elim ((slice_get_cases t.colds.items k).1) [
      | inl (c, within, cold, at) ↦ known t k h c there cold
      | inr (past, none) ↦ absurd (omega (arith, past, t.built.lengths))
    ]

-- the cold part that is read there
pub cold_at : (t : Nodes) (k : ℕ) (h : Hot) (c : Cold) (n : NodeAt t k h) → k < vec_len t.hots → c ≡ get_or t.colds.items k c → n.cold ≡ c
cold_at t k h c n lt is =
    let short : k < length t.colds.items = omega (arith, lt, t.hots.ok.0, t.built.lengths) in
    let there : slice_get t.colds.items k ≡ Some c = slice_get_read t.colds.items (length t.colds.items) k c refl short is in
    let again : slice_get t.colds.items k ≡ Some n.cold = n.cold_there in
    cc

-- the same where no hot part was read
pub cold_spot : (t : Nodes) (k : ℕ) (c : Cold) → k < vec_len t.hots → c ≡ get_or t.colds.items k c → (h : Hot) × (spot_at (spots_in t) k ≡ spot_of h c (spots_in t))
unfolding known
cold_spot t k c lt is =
    let short : k < length t.hots.items = omega (arith, lt, t.hots.ok.0) in
    let short_cold : k < length t.colds.items = omega (arith, short, t.built.lengths) in
    let cold : slice_get t.colds.items k ≡ Some c = slice_get_read t.colds.items (length t.colds.items) k c refl short_cold is in
    elim ((slice_get_cases t.hots.items k).1) [
      | inl (h, within, there, at) ↦ (h, (known t k h c there cold).spot)
      | inr (past, none) ↦ absurd (omega (arith, past))
    ]

pub there_at : (t : Nodes) (k : ℕ) (h : Hot) → k < vec_len t.hots → h ≡ get_or t.hots.items k h → slice_get t.hots.items k ≡ Some h
there_at t k h lt is = slice_get_read t.hots.items (length t.hots.items) k h refl (omega (arith, lt, t.hots.ok.0)) is

pub spots_count : (hs : List Hot) (cs : List Cold) (before : List Spot) → length cs ≡ length hs → length (spots_from hs cs before) ≡ length before + length hs
unfolding spots_from
spots_count [] cs before e = omega arith
spots_count (h ∷ hs) [] before e = absurd (omega (arith, e))
spots_count (h ∷ hs) (c ∷ cs) before e = let s = spot_of h c before in omega (arith, spots_count hs cs (before ++ s ∷ []) (omega (arith, e)), end_is before s)

pub spots_length : (t : Nodes) → length (spots_in t) ≡ vec_len t.hots
unfolding spots_in spots_of
spots_length t = omega (arith, spots_count t.hots.items t.colds.items [] t.built.lengths, t.hots.ok.0)

-- the first of the parts that are left, and the others
pub parts_step : (spots : List Spot) (k end : ℕ) → k < end → end ≤ length spots → parts_between spots k (end - k) ≡ part (spot_at spots k).side (spot_at spots k).plan (parts_between spots (suc k) (end - suc k))
parts_step spots k end lt room =
    let n : end - k ≡ suc (end - suc k) = omega (arith, lt) in
    ap (λ (ss : List Spot). parts_of (take (end - k) ss)) (drop-cons spots k blank (omega (arith, lt, room)))
    ∙ ap (λ (n : ℕ). parts_of (take n (spot_at spots k ∷ drop (suc k) spots))) n
