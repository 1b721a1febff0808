-- What is known of the definitions that are built, one after the other in their order.
use Rattle.std.proofs.Common.{◌≡◌, ℕ, zero, suc, ◌+◌, ◌<◌, List, [], ◌∷◌, ◌++◌, length, Some, None, slice_get, refl, ◌∙◌, ap, arith}
use Rattle.std.proofs.lemmas.Option.{same_Some}
use Rattle.guard_model.specs.AbstractType.{AbstractType}
use Rattle.guard_syntax.specs.Trees.{WrittenModule}
use Rattle.guard_tagging.specs.Faults.{nodes}
use Rattle.guard_tagging.specs.Surroundings.{meaning_at, known_after, known_from, nodes_of_all}
use Rattle.guard_tagging.specs.Types.{Meaning}

-- ---- a number below the count is that of a definition

pub no_such : {X : Type 0} (xs : List X) (i : ℕ) → i < length xs → None ≡ slice_get xs i → ⊥
no_such [] i l h = absurd (omega (arith, l))
no_such (x ∷ xs) zero l h = cc
no_such (x ∷ xs) (suc i) l h = no_such xs i (omega (arith, l)) h

-- ---- a definition more after those that are built

module _ (ms : List WrittenModule) (order : List ℕ) where
  pub known_end : (known : List Meaning) (rest : List ℕ) → known_after ms order known rest [] ≡ known
  known_end known [] = refl
  known_end known (n ∷ rest) = refl

  known_more : (known : List Meaning) (rest : List ℕ) (types : List AbstractType) (t : AbstractType) (number : ℕ)
      → slice_get rest (length types) ≡ Some number
      → known_after ms order known rest (types ++ t ∷ [])
      ≡ known_after ms order known rest types
      ++ meaning_at ms order (known_after ms order known rest types) number t ∷ []
  known_more known [] types t number h = absurd cc
  known_more known (n ∷ rest) [] t number h =
      known_end (known ++ meaning_at ms order known n t ∷ []) rest
      ∙ ap (λ k. known ++ meaning_at ms order known k t ∷ []) (same_Some n number h)
  known_more known (n ∷ rest) (u ∷ types) t number h =
      known_more (known ++ meaning_at ms order known n u ∷ []) rest types t number h

  pub known_from_more : (types : List AbstractType) (t : AbstractType) (number : ℕ)
      → slice_get order (length types) ≡ Some number
      → known_from ms order (types ++ t ∷ [])
      ≡ known_from ms order types ++ meaning_at ms order (known_from ms order types) number t ∷ []
  known_from_more types t number h = known_more [] order types t number h

pub nodes_more : (types : List AbstractType) (t : AbstractType)
    → nodes_of_all (types ++ t ∷ []) ≡ nodes_of_all types + nodes t
nodes_more [] t = omega arith
nodes_more (u ∷ types) t = omega (arith, nodes_more types t)
