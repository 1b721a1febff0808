-- The items of a list at their places.
use Rattle.std.proofs.Common.{◌≡◌, ℕ, zero, suc, false, ◌<◌, ◌≤◌, length, get_or, List, [], ◌∷◌, Option, Some, None, Bor}
use Rattle.std.proofs.Common.{MatchOption, option_map, refl, sym, ap, arith}
use Rattle.std.specs.List.{HoldsAt}
use Rattle.guard_model.specs.ValueView.{value_view, items_view}
use Rattle.guard_model.specs.declared.value.Value.{Value}
use Rattle.guard_report.specs.Parts.{item_at}
use Rattle.guard_report.specs.Shown.{is_no_item}

item_is : (vs : List Value) (i : ℕ) (v : Value) → i < length vs → v ≡ get_or vs i v → item_at i (items_view vs) ≡ Some (value_view v)
item_is [] i v lt e = absurd (omega arith)
item_is (w ∷ vs) zero v lt e = sym (ap (λ (x : Value). Some (value_view x)) e)
item_is (w ∷ vs) (suc i) v lt e = item_is vs i v (omega arith) e

item_past : (vs : List Value) (i : ℕ) → length vs ≤ i → item_at i (items_view vs) ≡ None
item_past [] i le = refl
item_past (w ∷ vs) zero le = absurd (omega arith)
item_past (w ∷ vs) (suc i) le = item_past vs i (omega arith)

-- as `get` finds them
pub item_looked_up : (found : Option (Bor Value)) (vs : List Value) (i : ℕ)
    → MatchOption found (length vs ≤ i) (λ c. (i < length vs) × HoldsAt (λ d. c.now ≡ d) vs i)
    → option_map (λ v. value_view v.now) found ≡ item_at i (items_view vs)
item_looked_up None vs i h = sym (item_past vs i h)
item_looked_up (Some g) vs i h = sym (item_is vs i g.now h.0 (h.1 g.now))

pub some_item : (vs : List Value) → 1 ≤ length vs → false ≡ is_no_item (items_view vs)
some_item [] le = absurd (omega arith)
some_item (v ∷ vs) le = refl
