use Rattle.std.proofs.Common.{ℕ, List, [], ◌∷◌, ap, inr, refl}
use Rattle.std.proofs.lemmas.Result.{err_from_is_err_and}
use Rattle.guard_policy.specs.PolicyView.{policy_view}
use Rattle.guard_files.proofs.Refusals.{say_nothing, say_alike, say_none_alike}
use Rattle.guard_messages.specs.FirstRun.{first_module, first_policy}
use Rattle.guard_messages.proofs.built_in.first_lines.Goals as goal

pub returns-clause-first : goal.returns-clause-first
returns-clause-first c = (
  policy_view c.in_ok-policy.policy,
  say_alike (first_module ∷ []) first_policy (c.as_bytes.result.now ∷ []) c.as_bytes-2.result.now (ap (λ (t : List ℕ). t ∷ []) c.as_bytes.ensures.value) c.as_bytes-2.ensures.value
      (policy_view c.in_ok-policy.policy) c.in_ok-policy.ensures.said,
  c.in_ok-decide_first.ensures,
)

pub returns-in_err-policy-clause-none : goal.returns-in_err-policy-clause-none
returns-in_err-policy-clause-none c =
    let e = err_from_is_err_and c.from_residual.result c.from_residual.ensures.1 in
    rw (e.1, e.2) (say_nothing (first_module ∷ []) first_policy c.in_err-policy.field-0.0
    (say_none_alike (first_module ∷ []) first_policy (c.as_bytes.result.now ∷ []) c.as_bytes-2.result.now (ap (λ (t : List ℕ). t ∷ []) c.as_bytes.ensures.value) c.as_bytes-2.ensures.value
    c.in_err-policy.field-0.0 c.in_err-policy.ensures.refused))

pub returns-in_err-decide_first-clause-none : goal.returns-in_err-decide_first-clause-none
returns-in_err-decide_first-clause-none c =
    let e = err_from_is_err_and c.from_residual-in_err-decide_first.result c.from_residual-in_err-decide_first.ensures.1 in
    rw (e.1, e.2) (inr refl)
