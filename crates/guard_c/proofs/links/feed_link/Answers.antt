use Rattle.std.proofs.Common.{◌≡◌, ◌≤◌, ◌+◌, length, ap, inr, arith, Some}
use Rattle.guard_policy.specs.PolicyView.{policy_view}
use Rattle.guard_frames.specs.KeptView.{kept_octets}
use Rattle.guard_frames.specs.LinkView.{link_view}
use Rattle.guard_frames.specs.OfPolicy.{decision_of}
use Rattle.guard_frames.proofs.Own.AtSeats.{fed_of}
use Rattle.guard_c.specs.Holding.{held_link_view}
use Rattle.guard_c.specs.declared.held.HeldLink.{HeldLink}
use Rattle.guard_c.proofs.Pieces.{took}
use Rattle.guard_c.proofs.links.feed_link.Goals as goal

pub returns : goal.returns
returns c =
    let p = policy_view c.args.policy.now in
    let old = c.args.link.now in
    let h = c.feed-answer.ensures in
    let new : HeldLink = record { link = c.feed-answer.new.self; reports = c.feed-answer.new.reports } in
    let large : length (link_view old.link).held + length c.args.piece.now ≤ c.args.room =
    omega (arith, c.if-room-piece.false, c.if-room-piece-2.false, c.pending.ensures.held) in
    inr (took p (held_link_view old) c.args.piece.now (held_link_view new) c.args.room (kept_octets c.new-sent.result) (kept_octets c.feed-answer.new.out)
    c.status_of.result c.feed-answer.result c.new-sent.ensures.empty large c.status_of.ensures
    (fed_of (decision_of p) (link_view old.link) c.args.piece.now c.feed-answer.result (link_view c.feed-answer.new.self)
    (Some (kept_octets c.new-sent.result)) (Some (kept_octets c.feed-answer.new.out)) (Some (kept_octets old.reports)) (Some (kept_octets c.feed-answer.new.reports))
    (λ is. let x = h.open is in (x.0, x.1, x.2))
    (λ is. ((h.shut is).0, ap link_view (h.shut is).1, ap (λ k. Some (kept_octets k)) (h.shut is).2, ap (λ k. Some (kept_octets k)) (h.shut is).3))))
