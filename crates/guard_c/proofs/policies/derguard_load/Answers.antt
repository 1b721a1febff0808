use Rattle.std.proofs.Common.{◌≡◌, ◌∙◌, ap, refl, inl, inr, Option}
use Rattle.std.specs.Prelude.{IsSomeAnd, None, Some}
use Rattle.guard_c.specs.Holding.{policy_in, policy_of}
use Rattle.guard_c.specs.Statuses.{number}
use Rattle.guard_c.specs.declared.status.Status.TheVariants.{Done}
use Rattle.guard_c.proofs.policies.derguard_load.Goals as goal

there : {A : Type 0} (o : Option A) (P : A → Type 0) → IsSomeAnd o P → (x : A) × (o ≡ Some x) × P x
there None P h = absurd h
there (Some x) P h = (x, refl, h)

pub returns-in-Ok-clause-answer : goal.returns-in-Ok-clause-answer
returns-in-Ok-clause-answer c =
    let found = there (policy_in c.in-Ok.loaded.value) _ c.in-Ok.ensures.said in (
      Done,
      c.number.ensures,
      inl (record {
        policy = found.0;
        said = found.2;
        held = ap policy_of c.fill.ensures ∙ found.1;
        untold = c.put.ensures;
        done = refl;
      }),
    )

pub returns-in-Ok-clause-only : goal.returns-in-Ok-clause-only
returns-in-Ok-clause-only c = λ p said other. ap policy_of c.fill.ensures ∙ c.in-Ok.ensures.only p said

pub returns-in-Err-clause-answer : goal.returns-in-Err-clause-answer
returns-in-Err-clause-answer c = (
  c.refuse.result,
  c.number-in-Err.ensures,
  inr (record { why = c.in-Err.why; none = c.in-Err.ensures.refused; same = refl; told = c.refuse.ensures.refused }),
)

pub returns-in-Err-clause-only : goal.returns-in-Err-clause-only
returns-in-Err-clause-only c = λ p said other. absurd (other (c.number-in-Err.ensures ∙ ap number (c.refuse.ensures.unnamed (c.in-Err.ensures.only p said))))
