-- Conditions on numbers: what fails of them, one after the other and in segments.
use Rattle.std.proofs.Common.{◌≡◌, ℕ, ◌+◌, ℤ, ◌<◌, Bool, true, false, List, [], map, length, drop, get_or, Some, None, refl, sym, ap, ◌∙◌}
use Rattle.std.specs.Prelude.{◌&&◌, ◌≤ℤ◌}
use Rattle.std.proofs.lemmas.List.{at_drop_more}
use Rattle.guard_tables.specs.declared.node.Condition.{Condition}
use Rattle.guard_tables.specs.declared.slots.Slots.{Slots}
use Rattle.guard_tables.specs.Formulas.{failed_unless}
use Rattle.guard_tables.specs.Marking.{Facts, test_passes, conditions_marked, is_on_number, are_on_numbers}
use Rattle.guard_tables.specs.NodeViews.{test_view, condition_view}
use Rattle.guard_tables.specs.Plan.{AbstractCondition}
use Rattle.guard_tables.specs.Slots.{none, added}
use Rattle.guard_tables.specs.Segments.{Fails, FailsAlike}
use Rattle.guard_tables.proofs.SlotSums.{added_none, added_again}

-- ---- one after the other

unless_added : (b : Bool) (slots m k : Slots) → failed_unless b slots (added m k) ≡ added m (failed_unless b slots k)
unless_added true slots m k = refl
unless_added false slots m k = added_again m k slots

-- before any is tested
pub none_yet : (cs : List AbstractCondition) (f : Facts) (m k : Slots) → k ≡ none → conditions_marked cs f (added m k) ≡ conditions_marked cs f m
none_yet cs f m k is = ap (λ (k : Slots). conditions_marked cs f (added m k)) is ∙ ap (conditions_marked cs f) (added_none m)

-- with one condition more, c
pub one_more : (cs : List Condition) (i : ℕ) (c : Condition) (z : ℤ) (b : Bool) (k new : Slots) → i < length cs → c ≡ get_or cs i c
    → ((f : Facts) → f.number ≡ Some z → test_passes (test_view c.test) f ≡ b) → new ≡ failed_unless b c.slots k
    → ((f : Facts) (m : Slots) → f.number ≡ Some z → conditions_marked (map condition_view (drop i cs)) f (added m k) ≡ conditions_marked (map condition_view cs) f m)
    → (f : Facts) (m : Slots) → f.number ≡ Some z
    → conditions_marked (map condition_view (drop (i + 1) cs)) f (added m new) ≡ conditions_marked (map condition_view cs) f m
one_more cs i c z b k new lt is passes told so_far f m n =
    let rest = map condition_view (drop (i + 1) cs) in
    ap (λ (k : Slots). conditions_marked rest f (added m k)) told
    ∙ ap (conditions_marked rest f) (sym (unless_added b c.slots m k))
    ∙ ap (λ (x : Bool). conditions_marked rest f (failed_unless x c.slots (added m k))) (sym (passes f n))
    ∙ ap (λ (c : Condition). conditions_marked rest f (failed_unless (test_passes (test_view c.test) f) c.slots (added m k))) is
    ∙ sym (at_drop_more (λ (ds : List Condition). conditions_marked (map condition_view ds) f (added m k)) cs i c lt)
    ∙ so_far f m n

pub numbers_more : (cs : List Condition) (i : ℕ) (c : Condition) (all : Bool) → i < length cs → c ≡ get_or cs i c → true ≡ is_on_number (test_view c.test)
    → are_on_numbers (map condition_view (drop i cs)) ≡ all → are_on_numbers (map condition_view (drop (i + 1) cs)) ≡ all
numbers_more cs i c all lt is number so_far =
    ap (λ (b : Bool). b && are_on_numbers (map condition_view (drop (i + 1) cs))) (number ∙ ap (λ (c : Condition). is_on_number (test_view c.test)) is)
    ∙ sym (at_drop_more (λ (ds : List Condition). are_on_numbers (map condition_view ds)) cs i c lt) ∙ so_far

-- ---- for two numbers alike

pub alike_more : (cs : List Condition) (i : ℕ) (c : Condition) (y z : ℤ) → i < length cs → c ≡ get_or cs i c
    → ((f g : Facts) → f.number ≡ Some y → g.number ≡ Some z → test_passes (test_view c.test) f ≡ test_passes (test_view c.test) g)
    → FailsAlike (map condition_view (drop (i + 1) cs)) y z → FailsAlike (map condition_view (drop i cs)) y z
alike_more cs i c y z lt is tests rest f g m p q =
    let next : (f : Facts) → conditions_marked (map condition_view (drop i cs)) f m
    ≡ conditions_marked (map condition_view (drop (i + 1) cs)) f (failed_unless (test_passes (test_view c.test) f) c.slots m) =
    λ f. at_drop_more (λ (ds : List Condition). conditions_marked (map condition_view ds) f m) cs i c lt
    ∙ ap (λ (c : Condition). conditions_marked (map condition_view (drop (i + 1) cs)) f (failed_unless (test_passes (test_view c.test) f) c.slots m)) (sym is) in
    next f
    ∙ rest f g (failed_unless (test_passes (test_view c.test) f) c.slots m) p q
    ∙ ap (λ (b : Bool). conditions_marked (map condition_view (drop (i + 1) cs)) g (failed_unless b c.slots m)) (tests f g p q)
    ∙ sym (next g)

-- ---- in segments

abbrev only_number : ℤ → Facts
only_number z = record { number = Some z; size = None; characters = []; contents = None }

pub made : (cs : List AbstractCondition) (first last : ℤ) (failed : Slots) → true ≡ are_on_numbers cs
    → ((z : ℤ) → first ≤ℤ z → z ≤ℤ last → FailsAlike cs z first) → Fails cs first failed
    → (z : ℤ) → first ≤ℤ z → z ≤ℤ last → (are_on_numbers cs ≡ true) × Fails cs z failed
made cs first last failed numbers alike fails z above below = (
  sym numbers,
  λ f m n. alike z above below f (only_number first) m n refl ∙ fails (only_number first) m refl,
)
