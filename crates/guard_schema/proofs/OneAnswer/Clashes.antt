-- A type has one first clash at most.
use Rattle.std.proofs.Common.{◌≡◌, ℕ, ◌<◌, ◌≤◌, List, [], ◌∷◌, ◌⊎◌, inl, inr, sym, ap, subst, ◌∙◌, arith}
use Rattle.guard_model.specs.declared.site.Step.{Step}
use Rattle.guard_model.specs.AbstractType.{AbstractType}
use Rattle.guard_tagcheck.specs.Distinct.{AbstractClash, IsClash, CollideAt, Before, place}

never_round : (p q : List Step) → Before p q → Before q p → ⊥
never_round [] [] h k = h
never_round [] (r ∷ q) h k = k
never_round (s ∷ p) [] h k = h
never_round (s ∷ p) (r ∷ q) (inl h) (inl k) = omega (arith, h, k)
never_round (s ∷ p) (r ∷ q) (inl h) (inr k) = let e : place r ≡ place s = ap place k.0 in omega (arith, h, e)
never_round (s ∷ p) (r ∷ q) (inr h) (inl k) = let e : place s ≡ place r = ap place h.0 in omega (arith, k, e)
never_round (s ∷ p) (r ∷ q) (inr h) (inr k) = never_round p q h.1 k.1

same_path : (t : AbstractType) (c d : AbstractClash) → IsClash t c → IsClash t d → c.path ≡ d.path
same_path t c d h k = by (h.1 d.path d.first d.second k.0) (k.1 c.path c.first c.second h.0)
  where
    by : (c.path ≡ d.path) ⊎ Before c.path d.path → (d.path ≡ c.path) ⊎ Before d.path c.path → c.path ≡ d.path
    by (inl e) r = e
    by (inr b) (inl e) = sym e
    by (inr b) (inr b') = absurd (never_round c.path d.path b b')

module _ (t : AbstractType) (c d : AbstractClash) (h : IsClash t c) (k : IsClash t d) where
  path : c.path ≡ d.path
  path = same_path t c d h k

  least : (a b x y : ℕ) → (a < x) ⊎ ((a ≡ x) × (b ≤ y)) → (x < a) ⊎ ((x ≡ a) × (y ≤ b)) → (a ≡ x) × (b ≡ y)
  least a b x y (inl l) (inl m) = absurd (omega (arith, l, m))
  least a b x y (inl l) (inr m) = let e = m.0 in absurd (omega (arith, l, e))
  least a b x y (inr l) (inl m) = let e = l.0 in absurd (omega (arith, m, e))
  least a b x y (inr l) (inr m) = let e = l.1 in let f = m.1 in (l.0, omega (arith, e, f))

  pair : (c.first ≡ d.first) × (c.second ≡ d.second)
  pair = least c.first c.second d.first d.second
      (h.2 d.first d.second (subst (λ (p : List Step). CollideAt t p d.first d.second) (sym path) k.0))
      (k.2 c.first c.second (subst (λ (p : List Step). CollideAt t p c.first c.second) path h.0))

  abbrev made : List Step → ℕ → ℕ → AbstractClash
  made p i j = record { path = p; first = i; second = j }

  pub one_clash : c ≡ d
  one_clash = ap (λ (p : List Step). made p c.first c.second) path ∙ ap (λ (i : ℕ). made d.path i c.second) pair.0
      ∙ ap (λ (j : ℕ). made d.path d.first j) pair.1
