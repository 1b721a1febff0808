use Rattle.std.proofs.Common.{◌≡◌, ◌+◌, ◌∷◌, Some, length, sym, ap, ◌∙◌, subst, arith}
use Rattle.guard_der.proofs.Numbers.Digits.{are_digits}
use Rattle.guard_tables.proofs.OfTables.{few_rules}
use Rattle.guard_tables.specs.NodesView.{root_of}
use Rattle.guard_tables.specs.Slots.{below, without}
use Rattle.guard_tables.specs.TableView.{declared_of, rules_of}
use Rattle.guard_tables.specs.declared.slots.Slots.{Slots}
use Rattle.guard_reader.specs.Judging.{message_judged}
use Rattle.guard_reader.proofs.MarkedTypes.{Given, Members, members_found, some_found}
use Rattle.guard_reader.proofs.table_walk.walk.Goals as goal

pub returns-in_err-failed-clause-only : goal.returns-in_err-failed-clause-only
returns-in_err-failed-clause-only c v fit encoded =
    let t = c.args.table.now in
    let given : Given t.nodes (declared_of t) (rules_of t) c.args.octets.now =
    record { stands = t.stands; sound = t.consistent.declared_sound; few = few_rules (declared_of t) (rules_of t) t.consistent; digits = are_digits 256 c.args.octets.now (λ i _. omega (arith, c.type_inv.octets i)) } in
    absurd (some_found t.nodes (declared_of t) (rules_of t) c.args.octets.now given (sym c.failures.ensures ∙ c.in_err-failed.was) v fit encoded)

pub returns-clause-marks : goal.returns-clause-marks
returns-clause-marks c =
    let t = c.args.table.now in
    let given : Given t.nodes (declared_of t) (rules_of t) c.args.octets.now =
    record { stands = t.stands; sound = t.consistent.declared_sound; few = few_rules (declared_of t) (rules_of t) t.consistent; digits = are_digits 256 c.args.octets.now (λ i _. omega (arith, c.type_inv.octets i)) } in
    let failed : message_judged (root_of t.nodes) c.args.octets.now ≡ Some c.in_ok-failed.failed = sym c.failures.ensures ∙ c.in_ok-failed.was in
    let members : without (below (length (rules_of t) + 1)) c.in_ok-failed.failed ≡ c.without.result = ap (λ (m : Slots). without m c.in_ok-failed.failed) (sym t.all) ∙ sym c.without.ensures in
    subst (λ (m : Slots). Members (declared_of t) (rules_of t) c.args.octets.now m) members
    (members_found t.nodes (declared_of t) (rules_of t) c.args.octets.now given c.in_ok-failed.failed failed (length (rules_of t) + 1) (omega arith))
