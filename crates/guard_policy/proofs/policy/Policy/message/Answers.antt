use Rattle.std.proofs.Common.{rules, ◌≡◌, None, sym}
use Rattle.guard_policy.specs.Policies.{declared_type}
use Rattle.guard_policy.specs.PolicyView.{policy_view}
use Rattle.guard_policy.proofs.Keeping.{message_first, no_message}
use Rattle.guard_policy.proofs.Listed.{declared_none}
use Rattle.guard_policy.proofs.policy.Policy.message.Goals as goal

pub returns-in_err-kept-clause-declared : goal.returns-in_err-kept-clause-declared
returns-in_err-kept-clause-declared c =
    let p = policy_view c.args.self.now in
    let name = c.args.name.now in
    let gone : c.from_residual.result ≡ None = search rules in
    rw gone (sym (no_message p.messages name (declared_none p.rules name (declared_type p name) c.in_err-kept.ensures.listed)))

pub returns-clause-declared : goal.returns-clause-declared
returns-clause-declared c =
    rw (c.deref.ensures, c.deref-2.ensures, c.declared.ensures.declared, c.deref-4.ensures)
    (sym (message_first c.args.name.now c.args.self.now.kept.messages.items c.in_ok-kept.kept.now c.in_ok-kept.ensures.first))
