use Rattle.guard_reader.proofs.AtOnce.{lies_in}
use Rattle.guard_reader.proofs.simple.lies_in.Goals as goal

pub returns : goal.returns
returns c = λ t. lies_in c.args.kind c.args.ranges.now c.args.inside.now _ (c.has_one_octet.ensures c.args.inside.now c.if-not-has_one_octet.false)
    (λ k. c.has_ranges.ensures k c.if-not-has_ranges.false) c.are_octets_in.ensures t
