use Rattle.guard_reader.proofs.FirstOctets.{by_eight}
use Rattle.guard_reader.proofs.order.first_eights.Goals as goal

pub returns : goal.returns
returns c = rw (c.first_eight.ensures, c.first_eight-2.ensures) (by_eight c.args.octets.now c.args.next.now (λ i. (c.type_inv.octets i).fits) (λ i. (c.type_inv.next i).fits) c.requires.octets c.requires.next)
