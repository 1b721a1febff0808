use Rattle.std.proofs.Common.{sym}
use Rattle.guard_model.specs.TypeView.{type_view}
use Rattle.guard_policy.specs.PolicyView.{policy_view}
use Rattle.guard_policy.proofs.Applicable.{declared_sound}
use Rattle.guard_files.proofs.allowed.value_of.Goals as goal

pub decode-requires : goal.decode-requires
decode-requires c =
    let p = policy_view c.args.policy.now in
    declared_sound p.messages p.rules c.args.message.now (type_view c.in-Some.ty.now) c.args.policy.now.kept.consistent (sym c.in-Some.ensures)
