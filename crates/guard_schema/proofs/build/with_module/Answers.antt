use Rattle.std.proofs.Common.{◌≡◌, ◌++◌, map, length, arith}
use Rattle.guard_names.specs.Declarations.{defined_in}
use Rattle.guard_names.specs.NamesView.{order_of}
use Rattle.guard_syntax.specs.ModuleViews.{module_view}
use Rattle.guard_schema.specs.Entries.{entries_from}
use Rattle.guard_schema.specs.Views.{entry_view, type_place}
use Rattle.guard_schema.proofs.ByNames.Definitions.{next_definition, last_definition}
use Rattle.guard_schema.proofs.build.with_module.Goals as goal

pub loop-assignment-preserved : goal.loop-assignment-preserved
loop-assignment-preserved c =
    let place = type_place (order_of c.args.names.now) c.args.values.now in
    let total = map entry_view c.args.before.items ++ entries_from place (length c.args.before.items)
    (defined_in (module_view c.args.tree.now)) in
    let number : c.len.result ≡ length c.loop-assignment.all.items =
    omega (arith, c.len.ensures, c.loop-assignment.all.ok.0) in
    next_definition place total c.args.tree.now c.loop-assignment.assignment-index c.loop-assignment.all.items
    c.loop-assignment.invariant _ c.assignment-item.result c.definition_named.result
    (rw c.deref-assignment-items.ensures.value at c.loop-assignment-test.true)
    (rw c.deref-assignment-items.ensures.value at c.assignment-item.is)
    (rw (c.place_of-place.ensures, number) at c.definition_named.ensures) c.in_ok-push.ensures.items

pub returns : goal.returns
returns c =
    let place = type_place (order_of c.args.names.now) c.args.values.now in
    let total = map entry_view c.args.before.items ++ entries_from place (length c.args.before.items)
    (defined_in (module_view c.args.tree.now)) in
    last_definition place total c.args.tree.now c.loop-assignment.assignment-index c.loop-assignment.all.items
    c.loop-assignment.invariant (rw c.deref-assignment-items.ensures.value at c.loop-assignment-test.false)
