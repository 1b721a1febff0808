use Rattle.std.proofs.Common.{◌+◌, ◌-◌, arith}
use Rattle.guard_der.proofs.Numbers.Widths.{room_next, room_now}
use Rattle.guard_der.proofs.Numbers.Digits.{spell_next}
use Rattle.guard_der.proofs.head.number_of.Goals as goal

pub overflow_mul-number : goal.overflow_mul-number
overflow_mul-number c = omega (arith, room_now 256 (4 - c.loop-octet.octet-index) (3 - c.loop-octet.octet-index) c.loop-octet.number 4294967296 (omega arith) (omega arith) c.loop-octet.invariant.bound)

pub overflow_add-number : goal.overflow_add-number
overflow_add-number c = omega (arith, room_now 256 (4 - c.loop-octet.octet-index) (3 - c.loop-octet.octet-index) c.loop-octet.number 4294967296 (omega arith) (omega arith) c.loop-octet.invariant.bound, c.type_inv.octets c.loop-octet.octet-index)

pub loop-octet-preserved : goal.loop-octet-preserved
loop-octet-preserved c = record {
  spelled = rw (c.from.ensures, c.loop-octet.invariant.spelled) (spell_next c.args.octets.now c.loop-octet.octet-index c.loop-octet-test.true);
  bound = room_next 256 (4 - c.loop-octet.octet-index) (4 - (c.loop-octet.octet-index + 1)) c.loop-octet.number c.from.result 4294967296 (omega arith) (omega (arith, c.type_inv.octets c.loop-octet.octet-index)) c.loop-octet.invariant.bound;
}
