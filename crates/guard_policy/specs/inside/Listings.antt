-- What the name of a message leads to: the message, and the rules that speak of it.
use Rattle.std.specs.Prelude.{◌≡◌, ℕ, ◌+◌, Bool, false, ◌&&◌, List, [], ◌∷◌, bytes_eq, slice_get, Option, Some, None, option_map, if◌then◌else◌}
use Rattle.std.specs.Map.{lookup}
use Rattle.guard_policy.specs.declared.index.Index.{Index}
use Rattle.guard_policy.specs.declared.index.Listed.{Listed}
use Rattle.guard_model.specs.AbstractValue.{AbstractValue}
use Rattle.guard_policy.specs.Decisions.{NumberedRule, speaks_of, is_allowing, denies}
use Rattle.guard_policy.specs.Policies.{AbstractMessage, AbstractRule, AbstractRoute}

-- the place of the first message of this name, and the numbers of the rules that speak of it
pub record AbstractListed : Type 0 where
  pub place : ℕ
  pub numbers : List ℕ

-- the place of the first message of this name, where the first of the list has this place
abbrev pub place_among : List ℕ → ℕ → List AbstractMessage → Option ℕ
place_among name i [] = None
place_among name i (m ∷ ms) = if bytes_eq m.name name then Some i else place_among name (i + 1) ms

-- the numbers of the rules that speak of the message, where the first of the list has this number
abbrev pub numbers_for : List ℕ → ℕ → List AbstractRule → List ℕ
numbers_for name i [] = []
numbers_for name i (r ∷ rs) =
    if bytes_eq r.message name then i ∷ numbers_for name (i + 1) rs else numbers_for name (i + 1) rs

abbrev pub listing : List AbstractMessage → List AbstractRule → List ℕ → Option AbstractListed
listing messages rules name =
    option_map (λ place. record { place = place; numbers = numbers_for name 0 rules }) (place_among name 0 messages)

-- ---- in the code

abbrev pub listed_view : Listed → AbstractListed
listed_view l = record { place = l.place; numbers = l.rules.items }

abbrev pub found_in : Index → List ℕ → Option AbstractListed
found_in index name = option_map listed_view (lookup (λ key. bytes_eq name key.octets.items) index.listed.entries)

abbrev pub IsIndex : List AbstractMessage → List AbstractRule → Index → Type 0
IsIndex messages rules index = (name : List ℕ) → found_in index name ≡ listing messages rules name

-- ---- rules by their numbers

-- the rules of these numbers
abbrev pub rules_at : List AbstractRule → List ℕ → List NumberedRule
rules_at rules [] = []
rules_at rules (n ∷ ns) = elim (slice_get rules n) [
  | Some r ↦ record { number = n; rule = r } ∷ rules_at rules ns
  | None ↦ rules_at rules ns
]

-- those that speak of the route
abbrev pub heard : AbstractRoute → List NumberedRule → List NumberedRule
heard route [] = []
heard route (r ∷ rs) = if speaks_of route r.rule then r ∷ heard route rs else heard route rs

-- the rule of this number speaks of the route and denies the value
abbrev pub denies_at : List AbstractRule → ℕ → AbstractRoute → AbstractValue → Bool
denies_at rules n route v = elim (slice_get rules n) [ Some r ↦ speaks_of route r && denies r v | None ↦ false ]

-- the rule of this number, where it speaks of the route and allows something
abbrev pub allowing_at : List AbstractRule → ℕ → AbstractRoute → Option AbstractRule
allowing_at rules n route = elim (slice_get rules n) [
  | Some r ↦ if speaks_of route r && is_allowing r then Some r else None
  | None ↦ None
]
