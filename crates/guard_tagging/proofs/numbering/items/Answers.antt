use Rattle.guard_tagging.proofs.Numbers.Items.{items_read}
use Rattle.guard_tagging.proofs.numbering.items.Goals as goal

pub returns : goal.returns
returns c =
    rw (items_read c.args.trees.now c.in_ok-taken.taken.keys c.in_ok-written.written.items c.in_ok-written.ensures
    (rw c.deref.ensures.value at c.in_ok-taken.ensures)) c.numbered.ensures
