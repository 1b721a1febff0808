use Rattle.std.proofs.Common.{[]}
use Rattle.guard_tables.specs.inside.FormViews.{formula_of}
use Rattle.guard_tables.proofs.FormRooms.{own_room, place_room, terms_more, implications_more, next_more}
use Rattle.guard_tables.proofs.demands_at_node.forms_from.Goals as goal

pub slot_at-requires : goal.slot_at-requires
slot_at-requires c = place_room c.loop-place.place c.args.demands.now c.loop-place-test.true c.requires

pub form_with-requires : goal.form_with-requires
form_with-requires c =
    let l = c.loop-place in
    own_room l.place c.slot_at.result c.args.demands.now c.index-demands-place.result (formula_of l.tests []) _ c.loop-place-test.true c.index-demands-place.is c.slot_at.ensures l.invariant.next c.requires

pub loop-place-preserved : goal.loop-place-preserved
loop-place-preserved c =
    let l = c.loop-place in
    let own = c.slot_at.result in
    let demands = c.args.demands.now in
    let a = c.index-demands-place.result in
    let f = formula_of l.tests [] in
    let lt = c.loop-place-test.true in
    let is = c.index-demands-place.is in
    let place = c.slot_at.ensures in
    let puts = c.in_ok-where_failed.ensures.tests in
    record {
      terms = terms_more l.place own demands a f _ _ lt is place puts l.invariant.terms;
      implications = implications_more l.place own demands a f _ _ l.implications.items c.push.new.self.items c.in_ok-where_failed.where_failed lt is place puts c.in_ok-where_failed.ensures.form c.in_ok-push.ensures.items l.invariant.implications;
      next = next_more l.place own demands a f _ _ lt is place puts l.invariant.next;
    }
