-- The totals, as frames are decided one after another.
use Rattle.std.proofs.Common.{◌≡◌, ◌<◌, ℕ, ◌+◌, ◌^◌, List, [], ◌∷◌, ◌++◌, ◌∙◌, ap, sym, refl, length, Bool, true, false, cond, arith}
use Rattle.std.specs.List.{filter}
use Rattle.guard_frames.specs.declared.totals.Totals.{Totals}
use Rattle.guard_frames.specs.Totals.{later, no_frames, after_going, after_staying, next_number, counted_one, counted}
use Rattle.guard_frames.specs.declared.unsent.Unsent.{Unsent}
use Rattle.guard_frames.specs.inside.Unsent.{none_after, totals_with}
use Rattle.guard_frames.specs.Outcomes.{Outcome}
use Rattle.guard_frames.specs.Guarding.{Counts}

pub later_later : (n j k : ℕ) → later (later n j) k ≡ later n (j + k)
later_later n j k = omega arith

pub counted-append : (t : Totals) (os ps : List Outcome) → counted (counted t os) ps ≡ counted t (os ++ ps)
counted-append t [] ps = refl
counted-append t (o ∷ os) ps = counted-append (counted_one t o) os ps

one_numbered : (b : Bool) (t : Totals) → next_number (cond b (after_going t) (after_staying t)) ≡ later (next_number t) 1
one_numbered true t = refl
one_numbered false t = refl

-- a number counts all frames before it, those that go and the others
pub numbers_on : (t : Totals) (os : List Outcome) → next_number (counted t os) ≡ later (next_number t) (length os)
numbers_on t [] = omega arith
numbers_on t (o ∷ os) =
    let rest : next_number (counted (counted_one t o) os) ≡ later (next_number (counted_one t o)) (length os) = numbers_on (counted_one t o) os in
    let last : later (later (next_number t) 1) (length os) ≡ later (next_number t) (length (o ∷ os)) = omega arith in
    rest ∙ ap (λ n. later n (length os)) (one_numbered o.goes t) ∙ last

-- ---- the totals with frames that wait

pub with_none : (t : Totals) (start : ℕ) → t.frames < 2 ^ 64 → t.passed < 2 ^ 64 → totals_with (none_after t start) ≡ t
with_none t start few fewer =
    let frames : later t.frames 0 ≡ t.frames = omega (arith, few) in
    let passed : later t.passed 0 ≡ t.passed = omega (arith, fewer) in
    λ i. record { frames = frames i; passed = passed i; denied = t.denied }

pub with_one_more : (u : Unsent) → totals_with (record { totals = u.totals; frames = u.frames + 1; start = u.start }) ≡ after_going (totals_with u)
with_one_more u =
    λ i. record { frames = sym (later_later u.totals.frames u.frames 1) i; passed = sym (later_later u.totals.passed u.frames 1) i; denied = u.totals.denied }

-- after one more that stays
pub with_none_behind : (u : Unsent) (t : Totals) (start : ℕ) → t ≡ after_staying (totals_with u) → totals_with (none_after t start) ≡ t
with_none_behind u t start e = with_none t start (omega (arith, ap (λ x. x.frames) e)) (omega (arith, ap (λ x. x.passed) e))

-- ---- how many there are of each kind, from no frames on

frames_counted : (t : Totals) (os : List Outcome) → t.frames < 2 ^ 64 → (counted t os).frames ≡ later t.frames (length os)
frames_counted t [] fits = omega (arith, fits)
frames_counted t (o ∷ os) fits =
    let last : later (later t.frames 1) (length os) ≡ later t.frames (length (o ∷ os)) = omega arith in
    elim o.goes as (λ b. (counted (cond b (after_going t) (after_staying t)) os).frames ≡ later t.frames (length (o ∷ os))) [
      | true ↦ frames_counted (after_going t) os (omega arith) ∙ last
      | false ↦ frames_counted (after_staying t) os (omega arith) ∙ last
    ]

passed_counted : (t : Totals) (os : List Outcome) → t.passed < 2 ^ 64 →
    (counted t os).passed ≡ later t.passed (length (filter (λ (o : Outcome). o.goes) os))
passed_counted t [] fits = omega (arith, fits)
passed_counted t (o ∷ os) fits =
    let going : List Outcome = filter (λ (o : Outcome). o.goes) os in
    let last : later (later t.passed 1) (length going) ≡ later t.passed (length (o ∷ going)) = omega arith in
    elim o.goes as (λ b. (counted (cond b (after_going t) (after_staying t)) os).passed ≡ later t.passed (length (cond b (o ∷ going) going))) [
      | true ↦ passed_counted (after_going t) os (omega arith) ∙ last
      | false ↦ passed_counted (after_staying t) os fits
    ]

denied_counted : (t : Totals) (os : List Outcome) → t.denied < 2 ^ 64 →
    (counted t os).denied ≡ later t.denied (length (filter (λ (o : Outcome). cond o.goes false true) os))
denied_counted t [] fits = omega (arith, fits)
denied_counted t (o ∷ os) fits =
    let staying : List Outcome = filter (λ (o : Outcome). cond o.goes false true) os in
    let last : later (later t.denied 1) (length staying) ≡ later t.denied (length (o ∷ staying)) = omega arith in
    elim o.goes as (λ b. (counted (cond b (after_going t) (after_staying t)) os).denied
    ≡ later t.denied (length (cond (cond b false true) (o ∷ staying) staying))) [
      | true ↦ denied_counted (after_going t) os fits
      | false ↦ denied_counted (after_staying t) os (omega arith) ∙ last
    ]

pub counts : (os : List Outcome) (t : Totals) → t ≡ counted no_frames os → Counts os t
counts os t e = record {
  all = ap (λ (x : Totals). x.frames) e ∙ frames_counted no_frames os (omega arith);
  go = ap (λ (x : Totals). x.passed) e ∙ passed_counted no_frames os (omega arith);
  stay = ap (λ (x : Totals). x.denied) e ∙ denied_counted no_frames os (omega arith);
}
