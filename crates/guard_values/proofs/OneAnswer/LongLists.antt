-- Lists whose elements have too many octets in all.
use Rattle.std.proofs.Common.{◌≡◌, ℕ, ◌-◌, ◌<◌, ◌≤◌, Bool, true, false, List, ◌∷◌, length, Option, Some, None, refl, sym, ap, ◌∙◌, arith}
use Rattle.guard_model.specs.AbstractType.{AbstractType}
use Rattle.guard_model.specs.AbstractValue.{AbstractValue}
use Rattle.guard_der.specs.Der.{der}
use Rattle.guard_der.specs.ProperConstraints.{is_short}
use Rattle.guard_values.specs.Arrangement.{arranged}
use Rattle.guard_values.proofs.Counting.Sums.{size, total_some}
use Rattle.guard_values.proofs.Counting.CountedLists.{items_joined, item_added, arranged_size}
use Rattle.guard_values.proofs.OneAnswer.LengthsInside.{Within, short_within, same_Some}

-- with more octets than there is room for, or none
abbrev pub IsOver : ℕ → AbstractType → List AbstractValue → Type 0
IsOver room u vs = (n : ℕ) → size (items_joined u vs) ≡ Some n → room < n

-- ---- one more element

pub over_first : (room : ℕ) (u : AbstractType) (v : AbstractValue) (vs : List AbstractValue) (os : List ℕ) → der u v ≡ Some os → room < length os → IsOver room u (v ∷ vs)
over_first room u v vs os is more = λ n e.
    let t = total_some (size (der u v)) (size (items_joined u vs)) n (sym (item_added u v vs) ∙ e) in
    let same : length os ≡ t.0 = same_Some (length os) t.0 (sym (ap size is) ∙ t.2) in
    omega (arith, same, more, t.4)

pub over_later : (room : ℕ) (u : AbstractType) (v : AbstractValue) (vs : List AbstractValue) (os : List ℕ) → der u v ≡ Some os → length os ≤ room → IsOver (room - length os) u vs → IsOver room u (v ∷ vs)
over_later room u v vs os is within over = λ n e.
    let t = total_some (size (der u v)) (size (items_joined u vs)) n (sym (item_added u v vs) ∙ e) in
    let same : length os ≡ t.0 = same_Some (length os) t.0 (sym (ap size is) ∙ t.2) in
    let rest : room - length os < t.1 = over t.1 t.3 in
    omega (arith, same, within, rest, t.4)

pub over_none : (room : ℕ) (u : AbstractType) (v : AbstractValue) (vs : List AbstractValue) → der u v ≡ None → IsOver room u (v ∷ vs)
over_none room u v vs is = λ n e.
    let t = total_some (size (der u v)) (size (items_joined u vs)) n (sym (item_added u v vs) ∙ e) in
    let both : ◌≡◌ {A = Option ℕ} None (Some t.0) = sym (ap size is) ∙ t.2 in
    absurd cc

-- in another order
pub over_arranged : (room : ℕ) (u : AbstractType) (vs : List AbstractValue) → IsOver room u vs → IsOver room u (arranged u vs)
over_arranged room u vs over = λ n e. over n (sym (arranged_size u vs) ∙ e)

-- ---- encodings that are too long

pub over_not_within : (u : AbstractType) (vs : List AbstractValue) → IsOver 1048576 u vs → Within 1048576 (items_joined u vs) → ⊥
over_not_within u vs over h =
    let more : 1048576 < length h.0 = over (length h.0) (ap size h.1) in
    let most : length h.0 ≤ 1048576 = h.2 in
    absurd (omega (arith, more, most))

pub not_short : (o : Option (List ℕ)) → (Within 1048576 o → ⊥) → is_short o ≡ false
not_short o none = here (is_short o) refl where
  here : (b : Bool) → is_short o ≡ b → is_short o ≡ false
  here true is = absurd (none (short_within o is))
  here false is = is
