use Rattle.std.proofs.Common.{map, sym, ◌∙◌}
use Rattle.std.proofs.lemmas.Result.{err_from_is_err_and}
use Rattle.guard_model.proofs.ValueViews.{value_view_object_identifier}
use Rattle.guard_syntax.specs.Views.{arc_view}
use Rattle.guard_values.specs.ObjectIdentifiers.{arc_numbers, large_arc, large_second}
use Rattle.guard_values.specs.Views.{named}
use Rattle.guard_values.proofs.SingleValues.ArcsInTurn.{are_read, arc_stops, second_stops, too_few, enough_arcs}
use Rattle.guard_values.proofs.object_identifiers.object_identifier.Goals as goal

pub returns-in_err-arcs : goal.returns-in_err-arcs
returns-in_err-arcs c =
    let p = err_from_is_err_and c.from_residual.result c.from_residual.ensures.1 in
    rw (p.1, p.2) (arc_stops (named c.in_err-arcs.field-0.0) c.args.site (map arc_view c.args.trees.now) c.in_err-arcs.ensures)

pub check_second-requires : goal.check_second-requires
check_second-requires c = c.deref.ensures.value ∙ (are_read (map arc_view c.args.trees.now) c.in_ok-arcs.arcs.items c.in_ok-arcs.ensures).0

pub returns-in_err-check_second : goal.returns-in_err-check_second
returns-in_err-check_second c =
    let p = err_from_is_err_and c.from_residual-in_err-check_second.result c.from_residual-in_err-check_second.ensures.1 in
    let trees = map arc_view c.args.trees.now in
    rw (p.1, p.2) (second_stops (named c.in_err-check_second.field-0.0) c.args.site (large_arc trees) (large_second trees) (arc_numbers trees) (are_read trees c.in_ok-arcs.arcs.items c.in_ok-arcs.ensures).1 c.in_err-check_second.ensures)

pub returns-then-not-are_arcs : goal.returns-then-not-are_arcs
returns-then-not-are_arcs c =
    let trees = map arc_view c.args.trees.now in
    let read = are_read trees c.in_ok-arcs.arcs.items c.in_ok-arcs.ensures in
    too_few c.args.site (large_arc trees) (large_second trees) (arc_numbers trees) c.in_ok-check_second.field-0 read.1 c.in_ok-check_second.ensures (rw (c.deref-2.ensures.value, read.0) at (sym c.are_arcs.ensures ∙ c.if-not-are_arcs.true))

pub returns : goal.returns
returns c =
    let trees = map arc_view c.args.trees.now in
    let read = are_read trees c.in_ok-arcs.arcs.items c.in_ok-arcs.ensures in
    rw (value_view_object_identifier c.in_ok-from_vec.field-0, c.in_ok-from_vec.ensures, read.0) (enough_arcs c.args.site (large_arc trees) (large_second trees) (arc_numbers trees) c.in_ok-check_second.field-0 read.1 c.in_ok-check_second.ensures
    (rw (c.deref-2.ensures.value, read.0) at (sym c.are_arcs.ensures ∙ c.if-not-are_arcs.false)))
