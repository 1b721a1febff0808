-- Small laws of truth values, and of sets of slots to which something is added.
use Rattle.std.proofs.Common.{◌≡◌, ℕ, Bool, true, false, refl, sym, ap, ◌∙◌}
use Rattle.std.specs.Prelude.{not, ◌&&◌, ◌||◌}
use Rattle.guard_tables.specs.declared.slots.Slots.{Slots}
use Rattle.guard_tables.specs.Slots.{has}
use Rattle.guard_tables.specs.Formulas.{failed_unless}
use Rattle.guard_tables.specs.Lay.{added_if}
use Rattle.guard_tables.proofs.SlotSets.{added_law}

pub or_no : (b : Bool) → (b || false) ≡ b
or_no true = refl
or_no false = refl

pub and_yes : (b : Bool) → (b && true) ≡ b
and_yes true = refl
and_yes false = refl

pub and_no : (b : Bool) → (b && false) ≡ false
and_no true = refl
and_no false = refl

pub not_twice : (b : Bool) → not (not b) ≡ b
not_twice true = refl
not_twice false = refl

pub or_again : (a b c : Bool) → ((a || b) || c) ≡ (a || (b || c))
or_again true b c = refl
or_again false b c = refl

pub or_swapped : (a b c : Bool) → ((a || b) || c) ≡ ((a || c) || b)
or_swapped true b c = refl
or_swapped false true true = refl
or_swapped false true false = refl
or_swapped false false true = refl
or_swapped false false false = refl

pub crossed : (a b c d : Bool) → ((a || b) || (c || d)) ≡ ((a || c) || (b || d))
crossed true b c d = refl
crossed false true true d = refl
crossed false true false d = refl
crossed false false c d = refl

-- where nothing fails
pub nothing_more : (m h : Bool) → m ≡ (m || (h && false))
nothing_more true h = refl
nothing_more false true = refl
nothing_more false false = refl

pub both_fail : (m h x y : Bool) → ((m || (h && not x)) || (h && not y)) ≡ (m || (h && not (x && y)))
both_fail true h x y = refl
both_fail false true true y = refl
both_fail false true false y = refl
both_fail false false x y = refl

pub has_unless : (b : Bool) (k m : Slots) (slot : ℕ) → has (failed_unless b k m) slot ≡ (has m slot || (has k slot && not b))
has_unless true k m slot = nothing_more (has m slot) (has k slot)
has_unless false k m slot = added_law m k slot ∙ ap (λ (x : Bool). has m slot || x) (sym (and_yes (has k slot)))

pub has_added_if : (b : Bool) (k m : Slots) (slot : ℕ) → has (added_if b k m) slot ≡ (has m slot || (has k slot && b))
has_added_if true k m slot = added_law m k slot ∙ ap (λ (x : Bool). has m slot || x) (sym (and_yes (has k slot)))
has_added_if false k m slot = nothing_more (has m slot) (has k slot)
