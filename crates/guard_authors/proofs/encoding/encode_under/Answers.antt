use Rattle.std.proofs.Common.{◌∙◌, ap, inl, inr, refl, sym}
use Rattle.guard_policy.specs.Policies.{declared_message}
use Rattle.guard_policy.specs.PolicyView.{policy_view}
use Rattle.guard_policy.specs.SaidView.{said_message_view}
use Rattle.guard_authors.proofs.encoding.encode_under.Goals as goal

pub encode_given-requires : goal.encode_given-requires
encode_given-requires g c = c.in-Some.ensures.sound

pub returns-in-Some : goal.returns-in-Some
returns-in-Some g c =
    let p = policy_view c.args.loaded.now.policy in
    inr (said_message_view c.in-Some.message, ap (declared_message p) (sym c.as_bytes.ensures.value) ∙ sym c.in-Some.ensures.declared, c.encode_given.ensures)

pub returns-in-None : goal.returns-in-None
returns-in-None g c =
    let p = policy_view c.args.loaded.now.policy in
    inl (ap (declared_message p) (sym c.as_bytes.ensures.value) ∙ sym c.in-None.ensures.declared, (refl, refl), refl, c.tell_line.ensures)
