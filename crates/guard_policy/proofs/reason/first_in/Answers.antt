use Rattle.std.proofs.Common.{rules, ◌≡◌, ℕ, zero, suc, ◌+◌, ◌-◌, ◌<◌, ◌≤◌, List, [], ◌∷◌, slice_get, Bool, true, false, ◌&&◌, not, cond, Option, None, Some, option_map, option_and_then, refl, ap, sym, ◌∙◌, subst, arith}
use Rattle.std.specs.Borrow.{Bor}
use Rattle.std.specs.Option.{option_copied}
use Rattle.std.proofs.lemmas.Bool.{ne_eqb}
use Rattle.std.proofs.lemmas.Option.{slice_get_past}
use Rattle.guard_tables.specs.declared.slots.Slots.{Slots}
use Rattle.guard_tables.specs.Slots.{only, without, has, IsLowest}
use Rattle.guard_tables.proofs.SlotSets.{none_law, only_law}
use Rattle.guard_tables.proofs.SlotRanges.{without_law}
use Rattle.guard_policy.specs.Passing.{first_in}
use Rattle.guard_policy.proofs.ByMarks.{none_in}
use Rattle.guard_policy.proofs.Listed.{item_there}
use Rattle.guard_policy.proofs.reason.first_in.Goals as goal

-- the number at this place, where the set has its slot, and no slot of those before it
found_at : (m : Slots) (k : ℕ) (numbers : List ℕ) (n : ℕ) → ((slot : ℕ) → slot ≡ n + k → has m slot ≡ true)
    → ((i slot : ℕ) → i < n → slot ≡ i + k → has m slot ≡ false) → first_in m k numbers ≡ slice_get numbers n
found_at m k [] n at before = sym (slice_get_past [] n (omega arith))
found_at m k (x ∷ xs) zero at before = ap (λ b. cond b (Some x) (first_in m (suc k) xs)) (at k (omega arith))
found_at m k (x ∷ xs) (suc n) at before =
    ap (λ b. cond b (Some x) (first_in m (suc k) xs)) (before 0 k (omega arith) (omega arith))
    ∙ found_at m (suc k) xs n (λ slot e. at slot (omega (arith, e))) (λ i slot lt e. before (suc i) slot (omega (arith, lt)) (omega (arith, e)))

-- ---- without the slot of the declared type

abbrev of_rules : Slots → Slots
of_rules m = without m (only 0)

lacks_first : (m : Slots) → has (of_rules m) 0 ≡ false
lacks_first m = without_law m (only 0) 0 ∙ ap (λ b. has m 0 && not b) (only_law 0 0) ∙ and_false (has m 0)
  where
    and_false : (b : Bool) → (b && false) ≡ false
    and_false true = refl
    and_false false = refl

has_others : (m : Slots) (n slot : ℕ) → slot ≡ n + 1 → has m slot ≡ has (of_rules m) (suc n)
has_others m n slot e =
    ap (has m) (omega (arith, e))
    ∙ sym (without_law m (only 0) (suc n)
    ∙ ap (λ b. has m (suc n) && not b) (only_law 0 (suc n) ∙ ne_eqb 0 (suc n) (λ same. absurd (omega (arith, same)))) ∙ and_true (has m (suc n)))
  where
    and_true : (b : Bool) → (b && true) ≡ b
    and_true true = refl
    and_true false = refl

not_first : (m : Slots) (slot : ℕ) → IsLowest (of_rules m) (Some slot) → 1 ≤ slot
not_first m zero lowest = absurd (let e = sym (lacks_first m) ∙ lowest.0 in cc)
not_first m (suc n) lowest = omega arith

at_lowest : (m : Slots) (numbers : List ℕ) (slot : Option ℕ) → IsLowest (of_rules m) slot
    → option_and_then (λ s. slice_get numbers (s - 1)) slot ≡ first_in m 1 numbers
at_lowest m numbers None empty = sym (none_in m 1 numbers (λ n slot e. has_others m n slot e ∙ ap (λ (k : Slots). has k (suc n)) empty ∙ none_law (suc n)))
at_lowest m numbers (Some zero) lowest = absurd (let e = sym (lacks_first m) ∙ lowest.0 in cc)
at_lowest m numbers (Some (suc n)) lowest =
    ap (slice_get numbers) (omega arith)
    ∙ sym (found_at m 1 numbers n (λ slot e. has_others m n slot e ∙ lowest.0) (λ i slot lt e. has_others m i slot e ∙ lowest.1 (suc i) (omega (arith, lt))))

-- ---- as the code has it

copied_now : (r : Option (Bor ℕ)) → option_copied r ≡ option_map (λ x. x.now) r
copied_now None = refl
copied_now (Some x) = refl

pub returns-in_err-slot : goal.returns-in_err-slot
returns-in_err-slot c =
    let m = c.args.slots.now in
    let gone : c.from_residual.result ≡ None = search rules in
    gone ∙ at_lowest m c.args.numbers.now None (sym (c.without.ensures ∙ ap (without m) c.only.ensures) ∙ c.in_err-slot.ensures)

pub overflow_sub-from : goal.overflow_sub-from
overflow_sub-from c =
    let m = c.args.slots.now in
    rw c.from.ensures
    (not_first m c.in_ok-slot.slot (subst (λ (k : Slots). IsLowest k (Some c.in_ok-slot.slot)) (c.without.ensures ∙ ap (without m) c.only.ensures) c.in_ok-slot.ensures))

pub returns : goal.returns
returns c =
    let m = c.args.slots.now in
    let ns = c.args.numbers.now in
    c.copied.ensures ∙ copied_now c.get.result ∙ item_there ns (c.from.result - 1) c.get.result c.get.ensures.lookup
    ∙ ap (λ (slot : ℕ). slice_get ns (slot - 1)) c.from.ensures
    ∙ at_lowest m ns (Some c.in_ok-slot.slot)
    (subst (λ (k : Slots). IsLowest k (Some c.in_ok-slot.slot)) (c.without.ensures ∙ ap (without m) c.only.ensures) c.in_ok-slot.ensures)
