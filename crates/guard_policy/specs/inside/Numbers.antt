-- The numbers of the rules of each message, as they are gathered, and the rules of these numbers.
use Rattle.std.specs.Prelude.{◌≡◌, ℕ, List, [], ◌∷◌, bytes_eq, slice_get, Some, None, option_map, unwrap_or}
use Rattle.std.specs.Map.{lookup}
use Rattle.guard_policy.specs.declared.numbered.Numbered.{Numbered}
use Rattle.guard_policy.specs.Policies.{AbstractRule}
use Rattle.guard_policy.specs.inside.Listings.{numbers_for}

-- what is gathered under a name
abbrev pub numbers_in : Numbered → List ℕ → List ℕ
numbers_in numbered name =
    unwrap_or (option_map (λ numbers. numbers.items) (lookup (λ key. bytes_eq name key.now) numbered.named.entries)) []

abbrev pub AreNumbered : List AbstractRule → Numbered → Type 0
AreNumbered rules numbered = (name : List ℕ) → numbers_in numbered name ≡ numbers_for name 0 rules

-- the rules of these numbers
abbrev pub picked : List AbstractRule → List ℕ → List AbstractRule
picked rules [] = []
picked rules (n ∷ ns) = elim (slice_get rules n) [ Some r ↦ r ∷ picked rules ns | None ↦ picked rules ns ]
