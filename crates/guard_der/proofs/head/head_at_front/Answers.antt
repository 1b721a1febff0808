use Rattle.std.proofs.Common.{◌-◌, ◌%◌, length, take, drop, get_or, arith}
use Rattle.std.proofs.lemmas.List.{length-take, length-drop}
use Rattle.guard_der.proofs.Numbers.Digits.{are_digits}
use Rattle.guard_der.proofs.Headers.TagsAndLengths.{digits_take, digits_drop}
use Rattle.guard_der.proofs.Headers.Heads.{left_over}
use Rattle.guard_der.proofs.head.head_at_front.Goals as goal

pub overflow_sub-result : goal.overflow_sub-result
overflow_sub-result c =
    let octets = c.args.octets.now in
    left_over octets (take (length octets - 1) (drop 1 octets)) c.in_ok-number.rest.now c.in_ok-contents.rest.now (get_or octets 0 0 % 32) c.in_ok-number.number c.in_ok-contents.contents (omega arith)
    (digits_take (length octets - 1) (drop 1 octets) (digits_drop 1 octets (are_digits 256 octets (λ i _. omega (arith, c.type_inv.octets i)))))
    (omega (arith, length-take (length octets - 1) (drop 1 octets), length-drop 1 octets)) c.in_ok-number.ensures c.in_ok-contents.ensures
