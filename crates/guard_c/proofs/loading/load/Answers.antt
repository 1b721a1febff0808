use Rattle.std.proofs.Common.{◌∙◌, ap, sym, Some}
use Rattle.std.proofs.lemmas.Result.{err_from_is_err_and}
use Rattle.guard_model.proofs.Results.{same_Ok}
use Rattle.guard_policy.specs.PolicyView.{policy_view}
use Rattle.guard_frames.specs.Texts.{named}
use Rattle.guard_c.proofs.Faults.{unnamed}
use Rattle.guard_c.proofs.loading.load.Goals as goal

pub returns-in_err-policy-clause-only : goal.returns-in_err-policy-clause-only
returns-in_err-policy-clause-only c =
    let e = err_from_is_err_and c.from_residual.result c.from_residual.ensures.1 in
    rw (e.1, e.2) (λ p said. unnamed (named c.in_err-policy.field-0.0) p (c.in_err-policy.ensures.only p said))

pub returns-in-Ok-clause-only : goal.returns-in-Ok-clause-only
returns-in-Ok-clause-only c = λ p said. c.in-Ok.ensures ∙ ap Some (sym (same_Ok p (policy_view c.in_ok-policy.policy) (c.in_ok-policy.ensures.only p said)))
