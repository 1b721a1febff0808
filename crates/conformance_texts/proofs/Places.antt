-- What holds at each place below a count and at each one from there on holds at each place.
use Rattle.std.proofs.Common.{◌≡◌, ◌+◌, ◌<◌, ◌≤◌, ℕ, inl, inr, subst, arith}
use Rattle.std.proofs.lemmas.Bool.{cases_lt}

module _ (Holds : ℕ → Type 0) where
  pub up_to : (count place : ℕ) → ((k : ℕ) → k < count → Holds k) → Holds count → place < count + 1 → Holds place
  up_to count place before here lt = elim (cases_lt place count) [
    | inl below ↦ before place below
    | inr at ↦ let same : count ≡ place = omega (arith, lt, at) in subst Holds same here
  ]

  pub everywhere : (count place : ℕ) → ((k : ℕ) → k < count → Holds k) → (count ≤ place → Holds place) → Holds place
  everywhere count place before behind = elim (cases_lt place count) [
    | inl below ↦ before place below
    | inr at ↦ behind at
  ]
