use Rattle.std.proofs.Common.{◌∷◌, [], ◌%◌, ◌/◌, ◌-◌, append_assoc, arith}
use Rattle.std.proofs.lemmas.List.{map-append}
use Rattle.guard_der.specs.Octets.{fewest}
use Rattle.guard_der.specs.inside.Digits.{digit_octet}
use Rattle.guard_der.proofs.Numbers.FewestDigits.{fewest_more, part_room}
use Rattle.guard_der.proofs.encoding.octets.+push_fewest.Goals as goal

pub push_fewest-requires : goal.push_fewest-requires
push_fewest-requires t c =
    (omega arith, (c.requires.some, (c.requires.low, (c.requires.octets, part_room c.args.base c.args.limit c.args.more c.args.number (λ e. c.if-more-eq0.false e) c.requires.some c.requires.room))))

pub returns : goal.returns
returns t c =
    let split = fewest_more c.args.base c.args.limit c.args.more c.args.number (λ e. c.if-more-eq0.false e) c.if-number-limit.false in
    let mapped = map-append (digit_octet c.args.form) (fewest c.args.base c.args.limit (c.args.more - 1) (c.args.number / c.args.base)) ((c.args.number % c.args.base) ∷ []) in
    let pushed = c.in_ok-push-2.ensures.items in
    let before = c.in_ok-push_fewest.ensures in
    let octet = c.octet_of-2.ensures in
    rw (pushed, before, octet, split, mapped) (append_assoc c.args.out.now.items _ _)
