-- The pairs that are found by notes of tags are those that must differ and share one, and the least of them is kept.
use Rattle.std.proofs.Common.{◌≡◌, ℕ, zero, suc, ◌+◌, ◌<◌, ◌≤◌, Bool, true, false, List, [], ◌∷◌, length, get_or, Option, Some, None, ◌⊎◌, inl, inr, refl, sym, ap, ◌∙◌, arith}
use Rattle.std.specs.Prelude.{IsTrue, nat_le, if◌then◌else◌}
use Rattle.std.specs.Option.{option_or}
use Rattle.std.proofs.lemmas.Bool.{both_ways, cases_lt, leb-true, leb-false}
use Rattle.std.proofs.lemmas.Option.{same_Some, none-some}
use Rattle.guard_model.specs.declared.tag.Tag.{Tag}
use Rattle.guard_model.specs.AbstractType.{Components, no_components, component}
use Rattle.guard_model.specs.TypeView.{OneComponent}
use Rattle.guard_model.specs.Components.{component_at}
use Rattle.guard_model.specs.Counts.{component_count}
use Rattle.guard_model.specs.declared.ty.Comp.{Comp}
use Rattle.guard_model.proofs.Components.{in_view}
use Rattle.guard_model.proofs.TypeViews.{opened, component_view_is}
use Rattle.guard_tagcheck.specs.FirstTags.{begins_with}
use Rattle.guard_tagcheck.specs.inside.Noting.{IsEarliest, Notes, IsNoted, lesser}
use Rattle.guard_tagcheck.specs.Search.{is_passed, first_pair}
use Rattle.guard_tagcheck.proofs.LeastPairs.{PassedAt, Pair, pair_some, pair_none}
use Rattle.guard_tagcheck.proofs.NotedTags.{earliest_from}
use Rattle.guard_tagcheck.proofs.OneClash.{one_pair}
use Rattle.guard_tagcheck.proofs.SharedTags.{share_from, share_to}

-- component i is one of the first n, may begin with the tag, and an encoding may get from it to component n
abbrev pub Open : Bool → Components → ℕ → Tag → ℕ → Type 0
Open s cs n tag i =
    (i < n) × ((k : ℕ) → i ≤ k → k < n → PassedAt s cs k) × ((a : OneComponent) × (component_at i cs ≡ Some a) × IsTrue (begins_with a.ty tag))

-- the notes before component n
abbrev pub Kept : Bool → Components → ℕ → (Tag → Option ℕ) → Type 0
Kept s cs n notes = (tag : Tag) → IsEarliest (Open s cs n tag) (notes tag)

pub nothing_kept : (s : Bool) (cs : Components) (notes : Tag → Option ℕ) → ((tag : Tag) → notes tag ≡ None) → Kept s cs 0 notes
nothing_kept s cs notes none = λ tag. rw (none tag) (λ i o. omega (arith, o.0))

module _ (s : Bool) (cs : Components) (n : ℕ) (c : OneComponent) (at : component_at n cs ≡ Some c) where
  same_component : (i : ℕ) → i ≡ n → (a : OneComponent) → component_at i cs ≡ Some a → c ≡ a
  same_component i is a there = same_Some c a (sym at ∙ (sym (ap (λ (k : ℕ). component_at k cs) is) ∙ there))

  passed_here : IsTrue (is_passed s c.presence) → PassedAt s cs n
  passed_here passed = rw at passed

  passed_from : PassedAt s cs n → IsTrue (is_passed s c.presence)
  passed_from passed = rw at at passed

  passed_to : IsTrue (is_passed s c.presence) → (i : ℕ) → ((k : ℕ) → i ≤ k → k < n → PassedAt s cs k) → (k : ℕ) → i ≤ k → k < n + 1 → PassedAt s cs k
  passed_to passed i before k le lt = elim (cases_lt k n) [
    | inl less ↦ before k le less
    | inr more ↦ let same : k ≡ n = omega (arith, lt, more) in rw same (passed_here passed)
  ]

  -- ---- the notes after component n

  earlier_open : (tag : Tag) (i : ℕ) → i < n → Open s cs (n + 1) tag i → Open s cs n tag i
  earlier_open tag i lt o = (lt, λ k le less. o.1 k le (omega (arith, less)), o.2)

  kept_at : (tag : Tag) (o : Option ℕ) (b : Bool) → begins_with c.ty tag ≡ b → IsTrue (is_passed s c.presence) → IsEarliest (Open s cs n tag) o → IsEarliest (Open s cs (n + 1) tag) (option_or o (if b then Some n else None))
  kept_at tag (Some i) b begins passed (is, least) = (
    (omega (arith, is.0), passed_to passed i is.1, is.2),
    λ j x. elim (cases_lt j n) [
      | inl lt ↦ least j (earlier_open tag j lt x)
      | inr le ↦ omega (arith, is.0, le)
    ],
  )
  kept_at tag None true begins passed none = (
    (omega arith, passed_to passed n (λ k le lt. absurd (omega (arith, le, lt))), (c, at, begins)),
    λ j x. elim (cases_lt j n) [
      | inl lt ↦ absurd (none j (earlier_open tag j lt x))
      | inr le ↦ le
    ],
  )
  kept_at tag None false begins passed none = λ j x. elim (cases_lt j n) [
    | inl lt ↦ none j (earlier_open tag j lt x)
    | inr le ↦ both_ways (begins_with c.ty tag) begins (ap (λ (a : OneComponent). begins_with a.ty tag) (same_component j (omega (arith, le, x.0)) x.2.0 x.2.1) ∙ x.2.2)
  ]

  pub kept_passed : (old new : Tag → Option ℕ) → IsTrue (is_passed s c.presence) → Kept s cs n old → Notes old (begins_with c.ty) n new → Kept s cs (n + 1) new
  kept_passed old new passed kept noted = λ tag. rw (noted tag) (kept_at tag (old tag) (begins_with c.ty tag) refl passed (kept tag))

  pub kept_stopped : (new : Tag → Option ℕ) → is_passed s c.presence ≡ false → ((tag : Tag) → new tag ≡ None) → Kept s cs (n + 1) new
  kept_stopped new stopped none = λ tag. rw (none tag) (λ i o. both_ways (is_passed s c.presence) stopped (passed_from (o.1 n (omega (arith, o.0)) (omega arith))))

  -- ---- the pairs whose second one is component n

  pair_from : (old : Tag → Option ℕ) → Kept s cs n old → (i : ℕ) → IsNoted old (begins_with c.ty) n i → Pair s cs i n
  pair_from old kept i (tag, begins, had, lt) =
      let h : IsEarliest (Open s cs n tag) (Some i) = rw had at (kept tag) in
      let o = h.0 in
      (lt, o.1, (o.2.0, c, o.2.1, at, share_to o.2.0.ty c.ty (tag, o.2.2, begins)))

  noted_from : (tag : Tag) (o : Option ℕ) (i : ℕ) → IsEarliest (Open s cs n tag) o → Open s cs n tag i → (j : ℕ) × (o ≡ Some j) × (j ≤ i) × (j < n)
  noted_from tag None i none x = absurd (none i x)
  noted_from tag (Some j) i (is, least) x = (j, refl, least i x, is.0)

  noted_to : (old : Tag → Option ℕ) → Kept s cs n old → (i : ℕ) → Pair s cs i n → (j : ℕ) × IsNoted old (begins_with c.ty) n j × (j ≤ i)
  noted_to old kept i (lt, passed, (a, b, first, second, shared)) =
      let t = share_from a.ty b.ty shared in
      let begins : begins_with c.ty t.0 ≡ true = ap (λ (x : OneComponent). begins_with x.ty t.0) (same_component n refl b second) ∙ t.2 in
      let h = noted_from t.0 (old t.0) i (kept t.0) (lt, passed, (a, first, t.1)) in
      (h.0, (t.0, begins, h.1, h.3), h.2)

  pub pairs_here : (old : Tag → Option ℕ) (first : Option ℕ) → Kept s cs n old → IsEarliest (IsNoted old (begins_with c.ty) n) first → IsEarliest (λ i. Pair s cs i n) first
  pairs_here old first kept is = earliest_from (IsNoted old (begins_with c.ty) n) (λ i. Pair s cs i n) first (pair_from old kept) (noted_to old kept) is

-- ---- the least of the pairs so far

abbrev IsLeastOf : (ℕ → ℕ → Type 0) → Option (ℕ × ℕ) → Type 0
IsLeastOf P None = (x y : ℕ) → P x y → ⊥
IsLeastOf P (Some p) = P p.0 p.1 × ((x y : ℕ) → P x y → (p.0 < x) ⊎ ((p.0 ≡ x) × (p.1 ≤ y)))

-- of those whose second one is one of the first n
abbrev pub LeastSoFar : Bool → Components → ℕ → Option (ℕ × ℕ) → Type 0
LeastSoFar s cs n least = IsLeastOf (λ x y. Pair s cs x y × (y < n)) least

pub none_so_far : (s : Bool) (cs : Components) → LeastSoFar s cs 0 None
none_so_far s cs = λ x y p. omega (arith, p.1)

module _ (P : ℕ → ℕ → Type 0) (n : ℕ) where
  abbrev Below : ℕ → ℕ → ℕ → Type 0
  Below m x y = P x y × (y < m)

  last_or_before : (x y : ℕ) → Below (n + 1) x y → Below n x y ⊎ ((y ≡ n) × P x n)
  last_or_before x y (p, lt) = elim (cases_lt y n) [
    | inl less ↦ inl (p, less)
    | inr le ↦ let same : y ≡ n = omega (arith, lt, le) in inr (same, rw same at p)
  ]

  last_is_least : (i : ℕ) → P i n → ((x : ℕ) → P x n → i ≤ x) → ((x y : ℕ) → Below n x y → i < x) → IsLeastOf (Below (n + 1)) (Some (i, n))
  last_is_least i is least before = (
    (is, omega arith),
    λ x y p. elim (last_or_before x y p) [
      | inl earlier ↦ inl (before x y earlier)
      | inr (same, last) ↦ elim (cases_lt i x) [ inl lt ↦ inl lt | inr le ↦ inr (omega (arith, le, least x last), omega (arith, same)) ]
    ],
  )

  still_least : (p : ℕ × ℕ) → IsLeastOf (Below n) (Some p) → ((x : ℕ) → P x n → p.0 ≤ x) → IsLeastOf (Below (n + 1)) (Some p)
  still_least p (is, least) others = (
    (is.0, omega (arith, is.1)),
    λ x y q. elim (last_or_before x y q) [
      | inl earlier ↦ least x y earlier
      | inr (same, last) ↦ elim (cases_lt p.0 x) [ inl lt ↦ inl lt | inr le ↦ inr (omega (arith, le, others x last), omega (arith, same, is.1)) ]
    ],
  )

  before_all : (p : ℕ × ℕ) (i : ℕ) → IsLeastOf (Below n) (Some p) → i < p.0 → (x y : ℕ) → Below n x y → i < x
  before_all p i (is, least) lt x y q = elim (least x y q) [ inl less ↦ omega (arith, lt, less) | inr (same, le) ↦ omega (arith, lt, same) ]

  one_of_both : (p : ℕ × ℕ) (i : ℕ) (b : Bool) → nat_le p.0 i ≡ b → IsLeastOf (Below n) (Some p) → IsEarliest (λ x. P x n) (Some i) → IsLeastOf (Below (n + 1)) (if b then Some p else Some (i, n))
  one_of_both p i true le least first = still_least p least (λ x q. omega (arith, leb-true p.0 i le, first.1 x q))
  one_of_both p i false gt least first = last_is_least i first.0 first.1 (before_all p i least (leb-false p.0 i gt))

  least_of_both : (least : Option (ℕ × ℕ)) (first : Option ℕ) → IsLeastOf (Below n) least → IsEarliest (λ x. P x n) first → IsLeastOf (Below (n + 1)) (lesser least first n)
  least_of_both None None none never = λ x y p. elim (last_or_before x y p) [ inl earlier ↦ none x y earlier | inr (same, last) ↦ never x last ]
  least_of_both (Some p) None least never = still_least p least (λ x q. absurd (never x q))
  least_of_both None (Some i) none first = last_is_least i first.0 first.1 (λ x y p. absurd (none x y p))
  least_of_both (Some p) (Some i) least first = one_of_both p i (nat_le p.0 i) refl least first

pub least_so_far : (s : Bool) (cs : Components) (n : ℕ) (least : Option (ℕ × ℕ)) (first : Option ℕ) → LeastSoFar s cs n least → IsEarliest (λ i. Pair s cs i n) first → LeastSoFar s cs (n + 1) (lesser least first n)
least_so_far s cs n least first so_far here = least_of_both (λ x y. Pair s cs x y) n least first so_far here

-- ---- the least of all is the one that the search finds

there_is : (i : ℕ) (cs : Components) (a : OneComponent) → component_at i cs ≡ Some a → i < component_count cs
there_is i no_components a e = absurd (none-some a e)
there_is zero (component name t presence rest) a e = omega arith
there_is (suc i) (component name t presence rest) a e = omega (arith, there_is i rest a e)

among_all : (s : Bool) (cs : Components) (n : ℕ) → component_count cs ≤ n → (x y : ℕ) → Pair s cs x y → Pair s cs x y × (y < n)
among_all s cs n le x y p = (p, omega (arith, le, there_is y cs p.2.1 p.2.3))

same_least : (s : Bool) (cs : Components) (n : ℕ) (least found : Option (ℕ × ℕ)) → component_count cs ≤ n → first_pair s 0 cs ≡ found → LeastSoFar s cs n least → least ≡ found
same_least s cs n None None le e so_far = refl
same_least s cs n None (Some p) le e none =
    let m = pair_some s 0 cs p e in
    absurd (none m.0 m.1 (among_all s cs n le m.0 m.1 m.4))
same_least s cs n (Some p) None le e so_far = absurd (pair_none s 0 cs e p.0 p.1 so_far.0.0)
same_least s cs n (Some p) (Some q) le e so_far =
    let m = pair_some s 0 cs q e in
    let same = one_pair p.0 p.1 m.0 m.1 (so_far.1 m.0 m.1 (among_all s cs n le m.0 m.1 m.4)) (m.5 p.0 p.1 so_far.0.0) in
    let first : p.0 ≡ q.0 = omega (arith, same.0, m.2) in
    let second : p.1 ≡ q.1 = omega (arith, same.1, m.3) in
    ap (λ (i : ℕ). Some (i, p.1)) first ∙ ap (λ (j : ℕ). Some (q.0, j)) second

pub is_first_pair : (s : Bool) (cs : Components) (n : ℕ) (least : Option (ℕ × ℕ)) → component_count cs ≤ n → LeastSoFar s cs n least → least ≡ first_pair s 0 cs
is_first_pair s cs n least le so_far = same_least s cs n least (first_pair s 0 cs) le refl so_far

-- ---- the component that a loop is at

pub component_here : (comps : List Comp) (i : ℕ) (comp : Comp) → i < length comps → comp ≡ get_or comps i comp → component_at i (in_view comps) ≡ Some (opened comp)
component_here [] i comp lt is = absurd (omega (arith, lt))
component_here (c ∷ comps) zero comp lt is = ap Some (component_view_is c) ∙ ap (λ (c : Comp). Some (opened c)) (sym is)
component_here (c ∷ comps) (suc i) comp lt is = component_here comps i comp (omega (arith, lt)) is
