use Rattle.std.proofs.Common.{◌-◌, arith}
use Rattle.guard_der.proofs.Numbers.Widths.{room_next, room_now}
use Rattle.guard_der.proofs.head.+number_after.Goals as goal

pub overflow_mul-result : goal.overflow_mul-result
overflow_mul-result t c = omega (arith, room_now 128 c.args.tries (c.args.tries - 1) c.args.number 268435456 (omega arith) (omega arith) c.requires)

pub overflow_add-result : goal.overflow_add-result
overflow_add-result t c = omega (arith, room_now 128 c.args.tries (c.args.tries - 1) c.args.number 268435456 (omega arith) (omega arith) c.requires)

pub overflow_mul-number : goal.overflow_mul-number
overflow_mul-number t c = omega (arith, room_now 128 c.args.tries (c.args.tries - 1) c.args.number 268435456 (omega arith) (omega arith) c.requires)

pub overflow_add-number : goal.overflow_add-number
overflow_add-number t c = omega (arith, room_now 128 c.args.tries (c.args.tries - 1) c.args.number 268435456 (omega arith) (omega arith) c.requires, c.type_inv.octets 0)

pub number_after-requires : goal.number_after-requires
number_after-requires t c = (omega arith, room_next 128 c.args.tries (c.args.tries - 1) c.args.number c.from-else-octet-lt128.result 268435456 (omega arith) (omega (arith, c.type_inv.octets 0)) c.requires)
