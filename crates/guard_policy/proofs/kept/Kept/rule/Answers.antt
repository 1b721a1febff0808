use Rattle.std.proofs.Common.{Some, ap, ◌∙◌}
use Rattle.guard_model.specs.TypeView.{type_view}
use Rattle.guard_policy.specs.KeptView.{kept_rule_view}
use Rattle.guard_policy.specs.inside.KeptRules.{rules_kept}
use Rattle.guard_policy.proofs.Keeping.{type_missing, typed_is}
use Rattle.guard_policy.proofs.Listed.{viewed}
use Rattle.guard_policy.proofs.kept.Kept.rule.Goals as goal

pub unreachable-requires : goal.unreachable-requires
unreachable-requires c =
    let p = c.args.self.now in
    type_missing p.messages.items (rules_kept p) c.args.number c.in_ok-rule.rule.now
    (viewed (kept_rule_view p.messages.items) p.rules.items c.args.number (Some c.in_ok-rule.rule) (rw c.deref.ensures.value at c.in_ok-rule.ensures.lookup))
    p.consistent.rules_sound c.in_default.ensures

pub returns : goal.returns
returns c =
    let p = c.args.self.now in
    rw (c.deref-2.ensures, c.deref-3.ensures, c.deref-4.ensures, c.deref-5.ensures, c.deref-6.ensures, c.deref-7.ensures)
    (ap Some (typed_is p.messages.items c.in_ok-rule.rule.now (type_view c.in-Some.ty.now) c.in-Some.ensures)
    ∙ viewed (kept_rule_view p.messages.items) p.rules.items c.args.number (Some c.in_ok-rule.rule) (rw c.deref.ensures.value at c.in_ok-rule.ensures.lookup))
