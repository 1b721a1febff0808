-- How often rules decided, one frame at a time and some at once.
use Rattle.std.proofs.Common.{◌≡◌, ◌≤◌, ◌<◌, ◌+◌, ◌∙◌, ℕ, zero, suc, List, [], ◌∷◌, ◌++◌, ap, sym, refl, length, map, take, slice_set, slice_get, arith}
use Rattle.std.specs.Prelude.{slice_index_or, min, Some}
use Rattle.std.proofs.lemmas.List.{map-append}
use Rattle.std.proofs.lemmas.Option.{same_Some, none-some}
use Rattle.std.proofs.Math.Numerals.{add-one}
use Rattle.guard_policy.specs.Policies.{AbstractRule}
use Rattle.guard_frames.specs.Totals.{later}
use Rattle.guard_streams.specs.declared.rule_counts.RuleCount.{RuleCount}
use Rattle.guard_frames.specs.declared.why.Reason.TheVariants.{UnknownMessage, Undecodable, OutsideType, DeniedBy, NotAllowed, NoRule}
use Rattle.guard_frames.specs.declared.why.Why.{Why}
use Rattle.guard_frames.specs.declared.why.Why.TheVariants.{BadHeader, NoMemory, Decided}
use Rattle.guard_streams.specs.Counters.{AbstractCount, AbstractForce, count_view, fresh, some_more, deny_one, allow_some, allow_all}

-- none where there is no such rule
pub none_more : (rules : List RuleCount) (i n : ℕ) → length rules ≤ i → some_more (map count_view rules) i n ≡ map count_view rules
none_more [] i n past = refl
none_more (r ∷ rules) zero n past = absurd (omega (arith, past))
none_more (r ∷ rules) (suc i) n past = ap (λ (xs : List AbstractCount). count_view r ∷ xs) (none_more rules i n (omega (arith, past)))

pub counted_at : (rules : List RuleCount) (i : ℕ) (r : RuleCount) (k n : ℕ) → i < length rules → r ≡ slice_index_or rules i r → n ≡ min (r.frames + k) 18446744073709551615 →
    map count_view (slice_set rules i (record { name = r.name; denies = r.denies; frames = n })) ≡ some_more (map count_view rules) i k
counted_at [] i r k n inside at more = absurd (omega (arith, inside))
counted_at (x ∷ rules) zero r k n inside at more =
    let here : count_view (record { name = r.name; denies = r.denies; frames = n }) ≡ record (count_view x) { frames = later x.frames k } = rw (more, at) refl in
    ap (λ (c : AbstractCount). c ∷ map count_view rules) here
counted_at (x ∷ rules) (suc i) r k n inside at more =
    ap (λ (xs : List AbstractCount). count_view x ∷ xs) (counted_at rules i r k n (omega (arith, inside)) at more)

-- ---- some at once are as many one by one

pub later_more : (is n k m : ℕ) → m ≡ n + k → later (later is n) k ≡ later is m
later_more is n k m e = omega (arith, e)

then_more : (counts : List AbstractCount) (i n k m : ℕ) → m ≡ n + k → some_more (some_more counts i n) i k ≡ some_more counts i m
then_more [] i n k m e = refl
then_more (c ∷ counts) zero n k m e = ap (λ (x : ℕ). record c { frames = x } ∷ counts) (later_more c.frames n k m e)
then_more (c ∷ counts) (suc i) n k m e = ap (λ (xs : List AbstractCount). c ∷ xs) (then_more counts i n k m e)

-- a rule so many times, and then these
abbrev pub times : ℕ → ℕ → List ℕ → List ℕ
times zero rule rules = rules
times (suc n) rule rules = times n rule (rule ∷ rules)

pub allow_times : (f : AbstractForce) (rule n : ℕ) (before : List ℕ) → 0 < n → allow_some (allow_all f before) rule n ≡ allow_all f (times n rule before)
allow_times f rule zero before some = absurd (omega (arith, some))
allow_times f rule (suc zero) before some = refl
allow_times f rule (suc (suc n)) before some =
    let g : AbstractForce = allow_all f before in
    ap (λ (rules : List AbstractCount). record g { rules = rules }) (sym (then_more g.rules rule 1 (suc n) (suc (suc n)) (omega arith)))
    ∙ allow_times f rule (suc n) (rule ∷ before) (omega arith)

-- ---- which of two rules decided first is the same

one_more_each : (counts : List AbstractCount) (i j : ℕ) → some_more (some_more counts i 1) j 1 ≡ some_more (some_more counts j 1) i 1
one_more_each [] i j = refl
one_more_each (c ∷ counts) zero zero = refl
one_more_each (c ∷ counts) zero (suc j) = refl
one_more_each (c ∷ counts) (suc i) zero = refl
one_more_each (c ∷ counts) (suc i) (suc j) = ap (λ (xs : List AbstractCount). c ∷ xs) (one_more_each counts i j)

deny_allow : (f : AbstractForce) (rule : ℕ) (why : Why) → deny_one (allow_some f rule 1) why ≡ allow_some (deny_one f why) rule 1
deny_allow f i BadHeader = refl
deny_allow f i NoMemory = refl
deny_allow f i (Decided UnknownMessage) = refl
deny_allow f i (Decided Undecodable) = refl
deny_allow f i (Decided OutsideType) = refl
deny_allow f i (Decided (DeniedBy j)) =
    ap (λ (rules : List AbstractCount). record f { rules = rules }) (one_more_each f.rules i j)
deny_allow f i (Decided NotAllowed) = refl
deny_allow f i (Decided NoRule) = refl

pub deny_allowed : (f : AbstractForce) (rules : List ℕ) (why : Why) → deny_one (allow_all f rules) why ≡ allow_all (deny_one f why) rules
deny_allowed f [] why = refl
deny_allowed f (rule ∷ before) why =
    deny_allow (allow_all f before) rule why ∙ ap (λ (g : AbstractForce). allow_some g rule 1) (deny_allowed f before why)

-- ---- the rules of a policy, one by one

take_one : (rules : List AbstractRule) (i : ℕ) (r : AbstractRule) → slice_get rules i ≡ Some r → take (suc i) rules ≡ take i rules ++ r ∷ []
take_one [] i r at = absurd (none-some r at)
take_one (x ∷ rules) zero r at = ap (λ (y : AbstractRule). y ∷ []) (same_Some x r at)
take_one (x ∷ rules) (suc i) r at = ap (λ (xs : List AbstractRule). x ∷ xs) (take_one rules i r at)

pub one_rule_more : (counts : List RuleCount) (rules : List AbstractRule) (i : ℕ) (r : AbstractRule) (c : RuleCount) → slice_get rules i ≡ Some r →
    count_view c ≡ fresh r → map count_view counts ≡ map fresh (take i rules) → map count_view (counts ++ c ∷ []) ≡ map fresh (take (i + 1) rules)
one_rule_more counts rules i r c at is so_far =
    map-append count_view counts (c ∷ [])
    ∙ ap (λ (xs : List AbstractCount). xs ++ count_view c ∷ []) so_far
    ∙ ap (λ (x : AbstractCount). map fresh (take i rules) ++ x ∷ []) is
    ∙ sym (map-append fresh (take i rules) (r ∷ []))
    ∙ ap (λ (xs : List AbstractRule). map fresh xs) (sym (take_one rules i r at))
    ∙ ap (λ (k : ℕ). map fresh (take k rules)) (sym (add-one i))
