-- One node more.
use Rattle.std.proofs.Common.{◌≡◌, ℕ, zero, suc, ◌+◌, ◌<◌, ◌≤◌, List, [], ◌∷◌, ◌++◌, length, take, slice_get, None, Some, refl, sym, ap, subst, ◌∙◌, arith, inl, inr, length-append}
use Rattle.std.specs.Prelude.{◌⊎◌}
use Rattle.std.proofs.lemmas.List.{take_at}
use Rattle.std.proofs.lemmas.Option.{same_Some}
use Rattle.guard_tables.specs.declared.node.Hot.{Hot}
use Rattle.guard_tables.specs.declared.node.Cold.{Cold}
use Rattle.guard_tables.specs.NodeViews.{identifier_of, other_of}
use Rattle.guard_tables.specs.Plan.{tags_in, form_in}
use Rattle.guard_tables.specs.TableNodes.{Spot, spot_of, spots_from, spots_of, parts_of, parts_between, ascend, IsNode, IsBuilt, IsPlain}
use Rattle.guard_tables.proofs.Spots.{drop_front, same_spot, spots_count}

pub one_more : (hs : List Hot) (cs : List Cold) (h : Hot) (c : Cold) (before : List Spot) → length cs ≡ length hs → spots_from (hs ++ h ∷ []) (cs ++ c ∷ []) before ≡ spots_from hs cs before ++ spot_of h c (spots_from hs cs before) ∷ []
unfolding spots_from
one_more [] [] h c before e = refl
one_more [] (y ∷ cs) h c before e = absurd (omega (arith, e))
one_more (x ∷ hs) [] h c before e = absurd (omega (arith, e))
one_more (x ∷ hs) (y ∷ cs) h c before e = one_more hs cs h c (before ++ spot_of x y before ∷ []) (omega (arith, e))

-- what a node stands for stays, whatever comes after it
pub stays : (h : Hot) (c : Cold) (spots more : List Spot) (k : ℕ) → k ≤ length spots → IsNode h c spots k → spot_of h c spots ≡ spot_of h c (spots ++ more)
stays h c spots more k within n =
    let front : take (length spots) (spots ++ more) ≡ spots = take_at spots more (length spots) refl in
    ap (spot_of h c) (sym front) ∙ same_spot h c (spots ++ more) (length spots) (omega (arith, n.before, within)) (λ e. let i = n.inner e in omega (arith, i, within))

-- and so do its parts
same_parts : (first count : ℕ) (spots more : List Spot) → first + count ≤ length spots → parts_between spots first count ≡ parts_between (spots ++ more) first count
same_parts first count spots more within =
    let front : take (length spots) (spots ++ more) ≡ spots = take_at spots more (length spots) refl in
    ap (λ (ss : List Spot). parts_between ss first count) (sym front) ∙ ap parts_of (drop_front first count (length spots) (spots ++ more) within)

pub kept_node : (h : Hot) (c : Cold) (spots more : List Spot) (k : ℕ) → k ≤ length spots → IsNode h c spots k → IsNode h c (spots ++ more) k
kept_node h c spots more k within n =
    let same = stays h c spots more k within n in
    record {
      before = n.before;
      inner = n.inner;
      few = n.few;
      ascending = λ e. ap (ascend None) (sym (same_parts h.first h.count spots more (omega (arith, n.before, within)))) ∙ n.ascending e;
      identifier = subst (λ (s : Spot). h.identifier ≡ identifier_of (tags_in s.plan) (form_in s.plan)) same n.identifier;
      other = subst (λ (s : Spot). h.other ≡ other_of (tags_in s.plan) (form_in s.plan)) same n.other;
      unwatched = n.unwatched;
      unasked = n.unasked;
      plain = subst (λ (s : Spot). IsPlain h s) same n.plain;
    }

-- the elements of a list with one more
front_or_last : {A : Type 0} (xs : List A) (x y : A) (k : ℕ) → slice_get (xs ++ x ∷ []) k ≡ Some y → ((k < length xs) × (slice_get xs k ≡ Some y)) ⊎ ((k ≡ length xs) × (x ≡ y))
front_or_last [] x y zero e = inr (refl, same_Some x y e)
front_or_last [] x y (suc k) e = absurd cc
front_or_last (z ∷ xs) x y zero e = inl (omega arith, e)
front_or_last (z ∷ xs) x y (suc k) e = elim (front_or_last xs x y k e) [
  | inl f ↦ inl (omega (arith, f.0), f.1)
  | inr l ↦ inr (omega (arith, l.0), l.1)
]

each_node : (nodes : List Hot) (colds : List Cold) (hot : Hot) (cold : Cold) → IsBuilt nodes colds → IsNode hot cold (spots_of nodes colds) (length nodes) → (k : ℕ) (h : Hot) (c : Cold) → slice_get (nodes ++ hot ∷ []) k ≡ Some h → slice_get (colds ++ cold ∷ []) k ≡ Some c
    → IsNode h c (spots_of nodes colds ++ spot_of hot cold (spots_of nodes colds) ∷ []) k
unfolding spots_of
each_node nodes colds hot cold built new k h c there cold_there =
    let spots = spots_of nodes colds in
    let last = spot_of hot cold spots ∷ [] in
    let size : length spots ≡ length nodes = omega (arith, spots_count nodes colds [] built.lengths) in
    elim (front_or_last nodes hot h k there) [
      | inl f ↦ elim (front_or_last colds cold c k cold_there) [
        | inl g ↦ kept_node h c spots last k (omega (arith, size, f.0)) (built.each k h c f.1 g.1)
        | inr g ↦ absurd (omega (arith, g.0, f.0, built.lengths))
      ]
      | inr f ↦ elim (front_or_last colds cold c k cold_there) [
        | inl g ↦ absurd (omega (arith, g.0, f.0, built.lengths))
        | inr g ↦ rw (f.0, ← f.1, ← g.1) (kept_node hot cold spots last (length nodes) (omega (arith, size)) new)
      ]
    ]

pub built_more : (nodes : List Hot) (colds : List Cold) (hot : Hot) (cold : Cold) → IsBuilt nodes colds → IsNode hot cold (spots_of nodes colds) (length nodes) → IsBuilt (nodes ++ hot ∷ []) (colds ++ cold ∷ [])
unfolding spots_of
built_more nodes colds hot cold built new = record {
  lengths = omega (arith, built.lengths, length-append nodes (hot ∷ []), length-append colds (cold ∷ []));
  each = λ k h c there cold_there. subst (λ (spots : List Spot). IsNode h c spots k) (sym (one_more nodes colds hot cold [] built.lengths)) (each_node nodes colds hot cold built new k h c there cold_there);
}

pub nothing_built : IsBuilt [] []
nothing_built = record { lengths = refl; each = λ k h c there cold. absurd cc }
