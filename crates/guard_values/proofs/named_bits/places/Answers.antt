use Rattle.std.proofs.Common.{map}
use Rattle.std.proofs.lemmas.Result.{err_from_is_err_and}
use Rattle.guard_model.specs.inside.Each.{each}
use Rattle.guard_model.proofs.Loops.{stops_at, goes_on, ends_there}
use Rattle.guard_syntax.specs.Views.{entry_view}
use Rattle.guard_values.specs.inside.Reading.{read_place}
use Rattle.guard_values.specs.Views.{named}
use Rattle.guard_values.proofs.named_bits.places.Goals as goal

pub returns-in_err-place : goal.returns-in_err-place
returns-in_err-place c =
    let p = err_from_is_err_and c.from_residual-in_err-place.result c.from_residual-in_err-place.ensures.1 in
    let step = read_place c.args.names.now in
    rw (p.1, p.2) (stops_at step entry_view c.loop-entry.places.items c.args.entries.now c.loop-entry.entry-index (each step (map entry_view c.args.entries.now)) c.loop-entry.invariant
    c.entry-item.result c.entry-item.result c.loop-entry-test.true c.entry-item.is (named c.in_err-place.field-0.0) c.in_err-place.ensures)

pub loop-entry-preserved : goal.loop-entry-preserved
loop-entry-preserved c =
    let step = read_place c.args.names.now in
    rw c.in_ok-push.ensures.items (goes_on step entry_view c.loop-entry.places.items c.args.entries.now c.loop-entry.entry-index (each step (map entry_view c.args.entries.now)) c.loop-entry.invariant
    c.entry-item.result c.entry-item.result c.loop-entry-test.true c.entry-item.is c.in_ok-place.place c.in_ok-place.ensures)

pub returns : goal.returns
returns c =
    let step = read_place c.args.names.now in
    ends_there step entry_view c.loop-entry.places.items c.args.entries.now c.loop-entry.entry-index (each step (map entry_view c.args.entries.now)) c.loop-entry.invariant c.loop-entry-test.false
