use Rattle.std.proofs.Common.{◌≡◌, ◌∙◌, ap, refl, inl}
use Rattle.guard_c.specs.Holding.{policy_of}
use Rattle.guard_c.specs.inside.Taken.{policy_under}
use Rattle.guard_c.specs.declared.status.Status.TheVariants.{Done}
use Rattle.guard_c.proofs.policies.derguard_share.Goals as goal

pub returns-in-Ok-clause-answer : goal.returns-in-Ok-clause-answer
returns-in-Ok-clause-answer c =
    let same : policy_under c.owner_in.result ≡ policy_of c.args.policy.now.kept = c.owner_in.ensures ∙ ap policy_of c.take-taken.ensures.held in
    let shared = rw c.in-Ok.is at c.share-shared.ensures in
    (Done, c.number.ensures, inl (refl, λ none. shared.0 (same ∙ none), ap policy_of c.fill.ensures ∙ shared.1 ∙ same))
