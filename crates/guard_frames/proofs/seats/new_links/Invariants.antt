use Rattle.std.proofs.Common.{◌≡◌, ◌≤◌, map, replicate}
use Rattle.guard_frames.specs.LinkView.{link_view, new_link}
use Rattle.guard_frames.proofs.seats.new_links.Given as goal

abbrev pub invariant-loop : goal.invariant-loop
invariant-loop l = (map link_view l.links.items ≡ replicate l.counter new_link) × (l.counter ≤ l.count)
