use Rattle.guard_values.proofs.Counting.KnownBounds.{bounded_at}
use Rattle.guard_values.proofs.Counting.KnownLengths.{slot_found}
use Rattle.guard_values.proofs.scope.Known.bound_at.Goals as goal

pub returns : goal.returns
returns c =
    let k = c.args.self.now in
    bounded_at k.bounds.items k.types.items c.args.place c.in_ok-get.field-0.now k.bounded
    (slot_found c.get.result k.bounds.items c.deref.result.now c.args.place c.in_ok-get.field-0 c.deref.ensures.value c.get.ensures.lookup.3 c.in_ok-get.was)
