use Rattle.std.proofs.Common.{List, map, subst, sym}
use Rattle.guard_der.specs.Octets.{twos_complement}
use Rattle.guard_tables.specs.declared.node.Condition.{Condition}
use Rattle.guard_tables.specs.declared.node.SimpleKind.{SimpleKind}
use Rattle.guard_tables.specs.NodeViews.{condition_view}
use Rattle.guard_tables.specs.inside.Intervals.{PassesAll, IsItemPassed, IsPassed}
use Rattle.guard_tables.proofs.PlainIntervals.{integer_passed, item_passed}
use Rattle.guard_tables.proofs.plain_interval.numbers_passed.Goals as goal

pub returns-in-Integer : goal.returns-in-Integer
returns-in-Integer c = λ os lawful within.
    let z = twos_complement os in
    let passes : PassesAll z (map condition_view c.args.cold.now.conditions.list.items) =
    subst (λ (cs : List Condition). PassesAll z (map condition_view cs)) c.deref.ensures.value (c.passed_by_all.ensures z within) in
    subst (λ (k : SimpleKind). IsPassed k c.args.cold.now os) (sym c.in-Integer.is) (integer_passed c.args.cold.now os lawful passes)

pub returns-in-Enumerated : goal.returns-in-Enumerated
returns-in-Enumerated c = λ os lawful within.
    let z = twos_complement os in
    let found : IsItemPassed z c.args.cold.now.items (map condition_view c.args.cold.now.conditions.list.items) =
    rw (sym c.as_slice.ensures, sym c.deref-in-Enumerated.ensures.value) (c.longest_run.ensures z within) in
    subst (λ (k : SimpleKind). IsPassed k c.args.cold.now os) (sym c.in-Enumerated.is) (item_passed c.args.cold.now os lawful found)
