-- A type has at most one clash that comes first.
use Rattle.std.proofs.Common.{◌≡◌, ℕ, ◌<◌, ◌≤◌, List, [], ◌∷◌, ◌⊎◌, inl, inr, sym, ap, ◌∙◌, arith}
use Rattle.guard_model.specs.declared.site.Step.{Step}
use Rattle.guard_model.specs.AbstractType.{AbstractType}
use Rattle.guard_tagcheck.specs.Distinct.{CollideAt, Distinct, AbstractClash, place, Before, IsClash}

same_place : (s r : Step) → s ≡ r → place s ≡ place r
same_place s r e = ap place e

not_both : (p q : List Step) → Before p q → Before q p → ⊥
not_both [] [] b d = b
not_both [] (r ∷ q) b d = d
not_both (s ∷ p) [] b d = b
not_both (s ∷ p) (r ∷ q) (inl lt) (inl gt) = omega (arith, lt, gt)
not_both (s ∷ p) (r ∷ q) (inl lt) (inr (is, d)) = omega (arith, lt, same_place r s is)
not_both (s ∷ p) (r ∷ q) (inr (is, b)) (inl gt) = omega (arith, gt, same_place s r is)
not_both (s ∷ p) (r ∷ q) (inr (is, b)) (inr (back, d)) = not_both p q b d

one_path : (p q : List Step) → (p ≡ q) ⊎ Before p q → (q ≡ p) ⊎ Before q p → p ≡ q
one_path p q (inl e) d = e
one_path p q (inr b) (inl e) = sym e
one_path p q (inr b) (inr d) = absurd (not_both p q b d)

pub one_pair : (i j k l : ℕ) → (i < k) ⊎ ((i ≡ k) × (j ≤ l)) → (k < i) ⊎ ((k ≡ i) × (l ≤ j)) → (i ≡ k) × (j ≡ l)
one_pair i j k l (inl lt) (inl gt) = absurd (omega (arith, lt, gt))
one_pair i j k l (inl lt) (inr (e, le)) = absurd (omega (arith, lt, e))
one_pair i j k l (inr (e, le)) (inl gt) = absurd (omega (arith, gt, e))
one_pair i j k l (inr (e, le)) (inr (back, ge)) = (e, omega (arith, le, ge))

on_path : (t : AbstractType) (p q : List Step) → p ≡ q → (i j : ℕ) → CollideAt t q i j → CollideAt t p i j
on_path t p q e i j x = rw e x

pub one_clash : (t : AbstractType) (c d : AbstractClash) → IsClash t c → IsClash t d → c ≡ d
one_clash t c d x y =
    let path = one_path c.path d.path (x.1 d.path d.first d.second y.0) (y.1 c.path c.first c.second x.0) in
    let pair = one_pair c.first c.second d.first d.second (x.2 d.first d.second (on_path t c.path d.path path d.first d.second y.0)) (y.2 c.first c.second (on_path t d.path c.path (sym path) c.first c.second x.0)) in
    ap (λ (p : List Step). record { path = p; first = c.first; second = c.second }) path
    ∙ ap (λ (n : ℕ). record { path = d.path; first = n; second = c.second }) pair.0
    ∙ ap (λ (n : ℕ). record { path = d.path; first = d.first; second = n }) pair.1

pub not_distinct : (t : AbstractType) (c : AbstractClash) → IsClash t c → Distinct t → ⊥
not_distinct t c x distinct = distinct c.path c.first c.second x.0
