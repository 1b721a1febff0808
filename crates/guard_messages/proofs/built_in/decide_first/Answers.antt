use Rattle.std.proofs.Common.{◌∷◌, []}
use Rattle.std.specs.Prelude.{codes}
use Rattle.guard_policy.specs.PolicyView.{policy_view}
use Rattle.guard_messages.specs.FirstRun.{sent}
use Rattle.guard_messages.proofs.Lines.{four_lines}
use Rattle.guard_messages.proofs.built_in.decide_first.Goals as goal

pub returns : goal.returns
returns c =
    four_lines (policy_view c.args.policy.now)
    (sent (codes "level") (0x02 ∷ 0x01 ∷ 0x05 ∷ []))
    (sent (codes "level") (0x02 ∷ 0x01 ∷ 0x14 ∷ []))
    (sent (codes "ping") (0x30 ∷ 0x06 ∷ 0x02 ∷ 0x01 ∷ 0x05 ∷ 0x01 ∷ 0x01 ∷ 0xFF ∷ []))
    (sent (codes "ping") (0x30 ∷ 0x06 ∷ 0x02 ∷ 0x01 ∷ 0x05 ∷ 0x01 ∷ 0x01 ∷ 0x01 ∷ []))
    c.new-out.result.items c.decide.new.out.items c.decide-2.new.out.items c.decide-3.new.out.items c.decide-4.new.out.items
    c.new-out.ensures.items c.in_ok-decide.ensures c.in_ok-decide-2.ensures c.in_ok-decide-3.ensures c.in_ok-decide-4.ensures
