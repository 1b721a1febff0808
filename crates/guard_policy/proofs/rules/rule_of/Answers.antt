use Rattle.std.proofs.Common.{refl}
use Rattle.guard_policy.specs.inside.Said.{names_in}
use Rattle.guard_policy.proofs.NamesSeen.{seen_more}
use Rattle.guard_policy.proofs.rules.rule_of.Goals as goal

pub returns-clause-seen : goal.returns-clause-seen
returns-clause-seen g c =
    seen_more c.args.names.now.keys _ (names_in c.args.names.now) _ (λ q. c.in_ok-insert.ensures.updates.0 (record { ref_ptr = (0, 0); now = q })) (λ q. refl)
