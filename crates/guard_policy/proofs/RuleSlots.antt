-- Sets of the rules of one message, as slots.
use Rattle.std.proofs.Common.{◌≡◌, ◌≢◌, ℕ, zero, suc, ◌+◌, ◌<◌, List, [], ◌∷◌, ◌++◌, length, map, take, get_or, Bool, true, false, cond, ◌&&◌, ◌||◌, not, refl, ap, sym, ◌∙◌, arith}
use Rattle.std.specs.Prelude.{◌^◌}
use Rattle.std.specs.Int.Bits.{bit_and, bit_xor}
use Rattle.std.proofs.lemmas.Nat.{and_le_l}
use Rattle.std.specs.List.{list_any}
use Rattle.std.proofs.lemmas.Bool.{eq-eqb, ne_eqb, false≢true}
use Rattle.guard_tables.specs.declared.slots.Slots.{Slots}
use Rattle.guard_tables.specs.Slots.{none, only, added, without, has}
use Rattle.guard_tables.specs.inside.SlotWords.{InWords}
use Rattle.guard_tables.proofs.SlotSets.{none_law, only_law, added_law}
use Rattle.guard_tables.proofs.SlotRanges.{without_law}
use Rattle.guard_tables.proofs.SlotSums.{added_none, none_added, added_again}
use Rattle.guard_tables.proofs.SlotWords.{none_in, only_in, added_in, same_slots}
use Rattle.std.specs.Borrow.{Bor}
use Rattle.std.proofs.lemmas.List.{map_push, length-map}
use Rattle.guard_policy.specs.declared.policy.SaidRule.{SaidRule}
use Rattle.guard_policy.specs.Policies.{AbstractRule}
use Rattle.guard_policy.specs.SaidView.{said_view}
use Rattle.guard_policy.specs.inside.Said.{rules_view}
use Rattle.guard_policy.specs.Routing.{slots_from, slots_where, common}
use Rattle.guard_policy.proofs.EntriesRead.{taken_is}
use Rattle.guard_policy.proofs.Listed.{taken_length}

-- ---- one more at the end

abbrev with_slot : Bool → ℕ → Slots → Slots
with_slot b slot m = cond b (added m (only slot)) m

pub slots-push : (k : ℕ) (bs : List Bool) (b : Bool) (n : ℕ) → n ≡ length bs + k → slots_from k (bs ++ b ∷ []) ≡ with_slot b n (slots_from k bs)
slots-push k [] true n e = let here : k ≡ n = omega (arith, e) in added_none (only k) ∙ ap only here ∙ sym (none_added (only n))
slots-push k [] false n e = refl
slots-push k (true ∷ bs) true n e =
    ap (added (only k)) (slots-push (suc k) bs true n (omega (arith, e))) ∙ sym (added_again (only k) (slots_from (suc k) bs) (only n))
slots-push k (true ∷ bs) false n e = ap (added (only k)) (slots-push (suc k) bs false n (omega (arith, e)))
slots-push k (false ∷ bs) b n e = slots-push (suc k) bs b n (omega (arith, e))

-- of the rules that a loop has looked at
slots_taken : (f : AbstractRule → Bool) (rules : List (Bor SaidRule)) (i : ℕ) (r : Bor SaidRule) → i < length rules → r ≡ get_or rules i r
    → slots_where f (rules_view (take (i + 1) rules)) ≡ with_slot (f (said_view r.now)) (i + 1) (slots_where f (rules_view (take i rules)))
slots_taken f rules i r lt is =
    let before = rules_view (take i rules) in
    let counted = taken_length (λ (x : Bor SaidRule). said_view x.now) rules i lt in
    let same = length-map before f in
    ap (slots_where f) (taken_is (λ (x : Bor SaidRule). said_view x.now) rules i r lt is)
    ∙ ap (slots_from 1) (map_push f before (said_view r.now))
    ∙ slots-push 1 (map f before) (f (said_view r.now)) (i + 1) (omega (arith, counted, same))

pub slot_in : (f : AbstractRule → Bool) (rules : List (Bor SaidRule)) (i : ℕ) (r : Bor SaidRule) (slots : Slots) → i < length rules → r ≡ get_or rules i r
    → f (said_view r.now) ≡ true → slots ≡ slots_where f (rules_view (take i rules)) → added slots (only (i + 1)) ≡ slots_where f (rules_view (take (i + 1) rules))
slot_in f rules i r slots lt is passes so_far =
    ap (λ (m : Slots). added m (only (i + 1))) so_far
    ∙ ap (λ b. with_slot b (i + 1) (slots_where f (rules_view (take i rules)))) (sym passes) ∙ sym (slots_taken f rules i r lt is)

pub slot_out : (f : AbstractRule → Bool) (rules : List (Bor SaidRule)) (i : ℕ) (r : Bor SaidRule) (slots : Slots) → i < length rules → r ≡ get_or rules i r
    → f (said_view r.now) ≡ false → slots ≡ slots_where f (rules_view (take i rules)) → slots ≡ slots_where f (rules_view (take (i + 1) rules))
slot_out f rules i r slots lt is fails so_far =
    so_far ∙ ap (λ b. with_slot b (i + 1) (slots_where f (rules_view (take i rules)))) (sym fails) ∙ sym (slots_taken f rules i r lt is)

-- ---- which slots they have

-- what is at a place, false where nothing is
abbrev pub true_at : List Bool → ℕ → Bool
true_at [] n = false
true_at (b ∷ bs) zero = b
true_at (b ∷ bs) (suc n) = true_at bs n

has_early : (k : ℕ) (bs : List Bool) (slot : ℕ) → slot < k → has (slots_from k bs) slot ≡ false
has_early k [] slot lt = none_law slot
has_early k (true ∷ bs) slot lt =
    added_law (only k) (slots_from (suc k) bs) slot
    ∙ ap (λ b. b || has (slots_from (suc k) bs) slot) (only_law k slot ∙ ne_eqb k slot (λ e. absurd (omega (arith, lt, e))))
    ∙ has_early (suc k) bs slot (omega (arith, lt))
has_early k (false ∷ bs) slot lt = has_early (suc k) bs slot (omega (arith, lt))

or_false : (b : Bool) → (b || false) ≡ b
or_false true = refl
or_false false = refl

has_from : (k : ℕ) (bs : List Bool) (n slot : ℕ) → slot ≡ n + k → has (slots_from k bs) slot ≡ true_at bs n
has_from k [] n slot e = none_law slot
has_from k (true ∷ bs) zero slot e =
    added_law (only k) (slots_from (suc k) bs) slot
    ∙ ap (λ b. b || has (slots_from (suc k) bs) slot) (only_law k slot ∙ eq-eqb k slot (omega (arith, e)))
has_from k (false ∷ bs) zero slot e = has_early (suc k) bs slot (omega (arith, e))
has_from k (true ∷ bs) (suc n) slot e =
    added_law (only k) (slots_from (suc k) bs) slot
    ∙ ap (λ b. b || has (slots_from (suc k) bs) slot) (only_law k slot ∙ ne_eqb k slot (λ same. absurd (omega (arith, e, same))))
    ∙ has_from (suc k) bs n slot (omega (arith, e))
has_from k (false ∷ bs) (suc n) slot e = has_from (suc k) bs n slot (omega (arith, e))

-- They say of each slot from 1 on what is at its place in the list, and haven't slot 0.
pub record Says (bs : List Bool) (m : Slots) : Type 0 where
  pub first : has m 0 ≡ false
  pub others : (n : ℕ) → has m (suc n) ≡ true_at bs n
  pub words : InWords m

in_words : (k : ℕ) (bs : List Bool) → InWords (slots_from k bs)
in_words k [] = none_in
in_words k (true ∷ bs) = added_in (only k) (slots_from (suc k) bs) (only_in k) (in_words (suc k) bs)
in_words k (false ∷ bs) = in_words (suc k) bs

pub says_slots : (bs : List Bool) → Says bs (slots_from 1 bs)
says_slots bs = record {
  first = has_early 1 bs 0 (omega arith);
  others = λ n. has_from 1 bs n (suc n) (omega arith);
  words = in_words 1 bs;
}

-- ---- those in common

both_left : (a b : Bool) → (a && not (a && not b)) ≡ (a && b)
both_left true true = refl
both_left true false = refl
both_left false b = refl

has_common : (m k : Slots) (slot : ℕ) → has (common m k) slot ≡ (has m slot && has k slot)
has_common m k slot =
    without_law m (without m k) slot ∙ ap (λ b. has m slot && not b) (without_law m k slot) ∙ both_left (has m slot) (has k slot)

less_in : (a b : ℕ) → a < 2 ^ 64 → bit_and a (bit_xor a b) < 2 ^ 64
less_in a b p = let low = and_le_l a (bit_xor a b) in omega (arith, p, low)

without_in : (m k : Slots) → InWords m → InWords (without m k)
unfolding without
without_in m k p = record { first = less_in m.first k.first p.first; second = less_in m.second k.second p.second; third = less_in m.third k.third p.third }

abbrev pub both : List Bool → List Bool → List Bool
both [] cs = []
both (b ∷ bs) [] = []
both (b ∷ bs) (c ∷ cs) = (b && c) ∷ both bs cs

and_false : (b : Bool) → (b && false) ≡ false
and_false true = refl
and_false false = refl

at_both : (bs cs : List Bool) (n : ℕ) → (true_at bs n && true_at cs n) ≡ true_at (both bs cs) n
at_both [] cs n = refl
at_both (b ∷ bs) [] n = and_false (true_at (b ∷ bs) n)
at_both (b ∷ bs) (c ∷ cs) zero = refl
at_both (b ∷ bs) (c ∷ cs) (suc n) = at_both bs cs n

-- of a set, and of another of which no more is known than its slots from 1 on
pub common_says : (bs cs : List Bool) (m k : Slots) → Says bs m → ((n : ℕ) → has k (suc n) ≡ true_at cs n) → Says (both bs cs) (common m k)
common_says bs cs m k p shows = record {
  first = has_common m k 0 ∙ ap (λ b. b && has k 0) p.first;
  others = λ n. has_common m k (suc n) ∙ ap (λ b. b && has k (suc n)) (p.others n) ∙ ap (λ b. true_at bs n && b) (shows n) ∙ at_both bs cs n;
  words = without_in m (without m k) p.words;
}

pub both_mapped : {A : Type 0} (f g : A → Bool) (xs : List A) → both (map f xs) (map g xs) ≡ map (λ x. f x && g x) xs
both_mapped f g [] = refl
both_mapped f g (x ∷ xs) = ap (λ (bs : List Bool). (f x && g x) ∷ bs) (both_mapped f g xs)

-- ---- whether there is one

abbrev pub any : List Bool → Bool
any bs = list_any (λ b. b) bs

some_place : (bs : List Bool) → any bs ≡ true → (n : ℕ) × (true_at bs n ≡ true)
some_place [] e = absurd cc
some_place (true ∷ bs) e = (0, refl)
some_place (false ∷ bs) e = let rest = some_place bs e in (suc rest.0, rest.1)

no_place : (bs : List Bool) (n : ℕ) → any bs ≡ false → true_at bs n ≡ false
no_place [] n e = refl
no_place (true ∷ bs) n e = absurd cc
no_place (false ∷ bs) zero e = refl
no_place (false ∷ bs) (suc n) e = no_place bs n e

filled : (bs : List Bool) (m : Slots) → Says bs m → any bs ≡ true → m ≢ none
filled bs m p e empty =
    let place = some_place bs e in
    false≢true (sym (none_law (suc place.0)) ∙ ap (λ (k : Slots). has k (suc place.0)) (sym empty) ∙ p.others place.0 ∙ place.1)

pub empty : (bs : List Bool) (m : Slots) → Says bs m → any bs ≡ false → m ≡ none
empty bs m p e = same_slots m none p.words none_in (by p.first (λ n. p.others n ∙ no_place bs n e))
  where
    by : has m 0 ≡ false → ((n : ℕ) → has m (suc n) ≡ false) → (slot : ℕ) → has m slot ≡ has none slot
    by first others zero = first ∙ sym (none_law 0)
    by first others (suc n) = others n ∙ sym (none_law (suc n))

-- as it is decided
pub filled_any : (bs : List Bool) (m : Slots) → Says bs m → m ≢ none → any bs ≡ true
filled_any bs m p more = by (any bs) refl
  where
    by : (b : Bool) → any bs ≡ b → any bs ≡ true
    by true e = e
    by false e = absurd (more (empty bs m p e))

pub empty_any : (bs : List Bool) (m : Slots) → Says bs m → m ≡ none → any bs ≡ false
empty_any bs m p is = by (any bs) refl
  where
    by : (b : Bool) → any bs ≡ b → any bs ≡ false
    by true e = absurd (filled bs m p e is)
    by false e = e

pub any_mapped : {A : Type 0} (f : A → Bool) (xs : List A) → any (map f xs) ≡ list_any f xs
any_mapped f [] = refl
any_mapped f (x ∷ xs) = ap (λ b. f x || b) (any_mapped f xs)
