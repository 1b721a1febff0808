use Rattle.std.proofs.Common.{◌+◌, suc, codes, length, Option, option_map, subst, arith}
use Rattle.std.specs.Prelude.{IfSome}
use Rattle.guard_model.specs.TypeView.{type_view}
use Rattle.guard_messages.specs.PartsBefore.{AbstractSpotIn, message}
use Rattle.guard_messages.specs.declared.parts_before.SpotIn.{SpotIn}
use Rattle.guard_messages.specs.inside.Spots.{HoldsSound, IsNumbered, StepsTo, due_view, spot_in_view}
use Rattle.guard_messages.proofs.Dues.{numbered_below}
use Rattle.guard_messages.proofs.Spots.{all_made, no_more, one_more}
use Rattle.guard_messages.proofs.parts_before.lines_before.Goals as goal

pub returns-in-None : goal.returns-in-None
returns-in-None c =
    let octets = c.args.octets.now in
    let first : AbstractSpotIn = record { at = 0; way = codes "$"; due = message (type_view c.args.ty.now) } in
    let s = spot_in_view c.loop.spot in
    let old = c.loop.lines.items in
    let new = c.next_spot.new.lines.items in
    let step = subst (λ (o : Option SpotIn). StepsTo octets c.args.breach s old new (option_map spot_in_view o)) c.in-None.is c.in_ok-next.ensures.lines in
    no_more octets c.args.breach (length octets + 64) c.loop.counter first s old new c.loop-test.true step c.loop.invariant.so_far

pub loop-preserved : goal.loop-preserved
loop-preserved c =
    let octets = c.args.octets.now in
    let first : AbstractSpotIn = record { at = 0; way = codes "$"; due = message (type_view c.args.ty.now) } in
    let s = spot_in_view c.loop.spot in
    let i = c.loop.counter in
    let next = c.in-Some.next in
    let old = c.loop.lines.items in
    let new = c.next_spot.new.lines.items in
    let step = subst (λ (o : Option SpotIn). StepsTo octets c.args.breach s old new (option_map spot_in_view o)) c.in-Some.is c.in_ok-next.ensures.lines in
    let numbered = subst (λ (o : Option SpotIn). IfSome o (λ t. IsNumbered (suc i) (due_view t.due))) c.in-Some.is (c.in_ok-next.ensures.few i c.loop.invariant.few) in
    record {
      so_far = one_more octets c.args.breach (length octets + 64) i first s (spot_in_view next) old new c.loop-test.true step c.loop.invariant.so_far;
      sound = subst (λ (o : Option SpotIn). IfSome o (λ t. HoldsSound (due_view t.due))) c.in-Some.is c.in_ok-next.ensures.sound;
      few = numbered_below (suc i) (i + 1) (due_view next.due) (omega arith) numbered;
    }

pub returns : goal.returns
returns c =
    let octets = c.args.octets.now in
    let first : AbstractSpotIn = record { at = 0; way = codes "$"; due = message (type_view c.args.ty.now) } in
    all_made octets c.args.breach (length octets + 64) c.loop.counter first (spot_in_view c.loop.spot) c.loop.lines.items c.loop-test.false c.loop.invariant.so_far
