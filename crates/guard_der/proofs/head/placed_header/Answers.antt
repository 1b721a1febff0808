use Rattle.std.proofs.Common.{arith}
use Rattle.guard_der.specs.Views.{head_view}
use Rattle.guard_der.proofs.Numbers.Digits.{are_digits}
use Rattle.guard_der.proofs.Headers.Offsets.{head_room_at}
use Rattle.guard_der.proofs.head.placed_header.Goals as goal

pub overflow_add-result : goal.overflow_add-result
overflow_add-result c =
    let octets = c.args.octets.now in
    omega (arith, head_room_at octets c.args.at (head_view c.in-Ok.head) (are_digits 256 octets (λ i _. omega (arith, c.type_inv.octets i))) c.requires c.in-Ok.ensures)

pub overflow_add-result-in-Ok : goal.overflow_add-result-in-Ok
overflow_add-result-in-Ok c =
    let octets = c.args.octets.now in
    omega (arith, head_room_at octets c.args.at (head_view c.in-Ok.head) (are_digits 256 octets (λ i _. omega (arith, c.type_inv.octets i))) c.requires c.in-Ok.ensures)

pub overflow_add-result-in-Ok-2 : goal.overflow_add-result-in-Ok-2
overflow_add-result-in-Ok-2 c =
    let octets = c.args.octets.now in
    omega (arith, head_room_at octets c.args.at (head_view c.in-Ok.head) (are_digits 256 octets (λ i _. omega (arith, c.type_inv.octets i))) c.requires c.in-Ok.ensures)
