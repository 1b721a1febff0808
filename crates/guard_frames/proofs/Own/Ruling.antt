-- Frames that were decided under one policy, and others after them.
use Rattle.std.proofs.Common.{◌≡◌, ◌<◌, ℕ, ◌+◌, ◌^◌, List, [], ◌∷◌, ◌++◌, ◌∙◌, ap, refl, subst, length, append_assoc, arith}
use Rattle.std.specs.List.{concat}
use Rattle.std.proofs.lemmas.List.Folds.{concat-append}
use Rattle.guard_policy.specs.Policies.{AbstractPolicy}
use Rattle.guard_frames.specs.Totals.{later}
use Rattle.guard_frames.specs.Outcomes.{Outcome, frames_of}
use Rattle.guard_frames.specs.Guarding.{text_out, AllAdd}
use Rattle.guard_frames.specs.OfPolicy.{decision_of}
use Rattle.guard_frames.proofs.Going.{frames_of-append, text_out-append}
use Rattle.guard_frames.specs.InForce.{Ruled, outcomes_of, frames_ruled, AllAddUnder}

abbrev pub under : AbstractPolicy → List Outcome → List Ruled
under p [] = []
under p (o ∷ os) = record { policy = p; outcome = o } ∷ under p os

pub outcomes_under : (p : AbstractPolicy) (os : List Outcome) (xs : List Ruled) → outcomes_of (under p os ++ xs) ≡ os ++ outcomes_of xs
outcomes_under p [] xs = refl
outcomes_under p (o ∷ os) xs = ap (λ (z : List Outcome). o ∷ z) (outcomes_under p os xs)

pub frames_under : (p : AbstractPolicy) (os : List Outcome) (xs : List Ruled) → frames_ruled (under p os ++ xs) ≡ frames_of os ++ frames_ruled xs
frames_under p os xs = ap frames_of (outcomes_under p os xs) ∙ frames_of-append os (outcomes_of xs)

pub joined_under : (p : AbstractPolicy) (os : List Outcome) (xs : List Ruled) →
    concat (frames_ruled (under p os ++ xs)) ≡ concat (frames_of os) ++ concat (frames_ruled xs)
joined_under p os xs = ap concat (frames_under p os xs) ∙ concat-append (frames_of os) (frames_ruled xs)

pub text_under : (p : AbstractPolicy) (os : List Outcome) (xs : List Ruled) →
    text_out (outcomes_of (under p os ++ xs)) ≡ text_out os ++ text_out (outcomes_of xs)
text_under p os xs = ap text_out (outcomes_under p os xs) ∙ text_out-append os (outcomes_of xs)

pub length_under : (p : AbstractPolicy) (os : List Outcome) (xs : List Ruled) → length (under p os ++ xs) ≡ length os + length xs
length_under p [] xs = omega arith
length_under p (o ∷ os) xs = omega (arith, length_under p os xs)

pub AllAdd_under : (p : AbstractPolicy) (n : ℕ) (os : List Outcome) (xs : List Ruled) (s t : List ℕ) → n < 2 ^ 64 →
    AllAdd (λ _. decision_of p) n os s → AllAddUnder (later n (length os)) xs t → AllAddUnder n (under p os ++ xs) (s ++ t)
AllAdd_under p n [] xs s t fits h q =
    let e : later n 0 ≡ n = omega (arith, fits) in
    let q₁ : AllAddUnder n xs t = subst (λ (k : ℕ). AllAddUnder k xs t) e q in
    rw h q₁
AllAdd_under p n (o ∷ os) xs s t fits (a, b, joined, first, others) q =
    let e : later n (length (o ∷ os)) ≡ later (later n 1) (length os) = omega arith in
    let q₁ : AllAddUnder (later (later n 1) (length os)) xs t = subst (λ (k : ℕ). AllAddUnder k xs t) e q in (
      a,
      b ++ t,
      rw joined (append_assoc a b t),
      first,
      AllAdd_under p (later n 1) os xs b t (omega arith) others q₁,
    )
