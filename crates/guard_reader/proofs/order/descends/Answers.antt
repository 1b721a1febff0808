use Rattle.std.proofs.Common.{drop, rules}
use Rattle.guard_reader.proofs.FirstOctets.{by_four, ended}
use Rattle.guard_reader.proofs.order.descends.Goals as goal

pub returns-in-len4-len4 : goal.returns-in-len4-len4
returns-in-len4-len4 c =
    let xs = c.args.octets.now in
    let ys = c.args.next.now in
    ended _ _ _ xs (drop 4 ys) (search rules)
    (by_four _ _ xs ys (λ i. (c.type_inv.octets i).fits) (λ i. (c.type_inv.next i).fits) c.number-in-len4-len4.ensures c.number.ensures (search rules) (search rules))
