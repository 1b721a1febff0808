use Rattle.std.proofs.Common.{◌≡◌, drop}
use Rattle.guard_frames.specs.GatewayView.{gateway_view}
use Rattle.guard_frames.specs.Totals.{no_frames}
use Rattle.guard_streams.specs.Tallying.{with_links}
use Rattle.guard_streams.proofs.sinks.all_totals.Given as goal

abbrev pub invariant-loop-link : goal.invariant-loop-link
invariant-loop-link l =
    with_links l.totals (drop l.link (gateway_view l.gateway).links) ≡ with_links no_frames (gateway_view l.gateway).links
