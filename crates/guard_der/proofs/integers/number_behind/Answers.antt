use Rattle.std.proofs.Common.{◌-◌, ◌<◌, ◌∙◌, get_or, arith}
use Rattle.guard_der.proofs.Numbers.Widths.{room_now, room_kept}
use Rattle.guard_der.proofs.Numbers.Integers.{turned_next, turned_room}
use Rattle.guard_der.proofs.integers.number_behind.Goals as goal

pub overflow_mul-number : goal.overflow_mul-number
overflow_mul-number c = omega (arith, room_now 256 (15 - c.loop-octet.octet-index) (14 - c.loop-octet.octet-index) c.loop-octet.number 170141183460469231731687303715884105728 (omega arith) (omega arith) c.loop-octet.invariant.bound)

pub overflow_add-number : goal.overflow_add-number
overflow_add-number c = omega (arith, room_now 256 (15 - c.loop-octet.octet-index) (14 - c.loop-octet.octet-index) c.loop-octet.number 170141183460469231731687303715884105728 (omega arith) (omega arith) c.loop-octet.invariant.bound)

pub loop-octet-preserved : goal.loop-octet-preserved
loop-octet-preserved c =
    let digit = c.from.ensures ∙ c.turned_if.ensures in
    let octet : get_or c.args.others.now c.loop-octet.octet-index 0 < 256 = omega (arith, c.type_inv.others c.loop-octet.octet-index) in
    record {
      spelled = rw digit (turned_next c.args.turn c.args.first c.args.others.now c.loop-octet.octet-index c.loop-octet.number c.loop-octet-test.true c.loop-octet.invariant.spelled);
      bound = rw digit (turned_room c.args.turn c.loop-octet.number (get_or c.args.others.now c.loop-octet.octet-index 0) c.loop-octet.octet-index octet (omega arith) c.loop-octet.invariant.bound);
    }

pub returns-clause-bound : goal.returns-clause-bound
returns-clause-bound c = room_kept 256 (15 - c.loop-octet.octet-index) c.loop-octet.number 170141183460469231731687303715884105728 (omega arith) c.loop-octet.invariant.bound
