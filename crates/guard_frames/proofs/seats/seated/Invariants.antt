use Rattle.std.proofs.Common.{◌≡◌, ◌≤◌, ◌++◌, length, map, replicate, vec_capacity}
use Rattle.std.specs.Vec.Iter.{into_iter_items}
use Rattle.guard_frames.specs.GatewayView.{links_of, ends_of}
use Rattle.guard_frames.specs.LinkView.{link_view, new_link}
use Rattle.guard_frames.proofs.seats.seated.Given as goal

abbrev pub invariant-loop-ends : goal.invariant-loop-ends
invariant-loop-ends g l =
    (goal.iterator-loop-ends g).can_next l.ends-iterator ×
    (goal.iterator-loop-ends g).is_finite l.ends-iterator ×
    (l.yielded ++ into_iter_items l.ends-iterator ≡ l.fn.ends.items) ×
    (map link_view l.links.items ≡ replicate (length (into_iter_items l.ends-iterator)) new_link) ×
    (links_of l.seats.items ≡ replicate (length l.yielded) new_link) ×
    (ends_of l.seats.items ≡ l.yielded) ×
    (length l.fn.ends.items ≤ vec_capacity l.seats)
