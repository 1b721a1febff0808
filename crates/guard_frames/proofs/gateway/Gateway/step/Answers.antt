use Rattle.std.proofs.Common.{refl, subst, sym, Ok}
use Rattle.guard_policy.specs.PolicyView.{policy_view}
use Rattle.guard_frames.specs.Added.{Added, nothing}
use Rattle.guard_frames.specs.OfPolicy.{gives_of, lets_of}
use Rattle.guard_frames.specs.Reasons.{Noted}
use Rattle.guard_frames.specs.declared.gateway.Event.TheVariants.{Piece, End, Reload}
use Rattle.guard_frames.proofs.Noting.{noted_none}
use Rattle.guard_frames.proofs.Own.Gateways.{step_of, piece_steps, end_steps, end_adds}
use Rattle.guard_frames.proofs.gateway.Gateway.step.Goals as goal

pub returns-in-Piece : goal.returns-in-Piece
returns-in-Piece g c =
    let old = c.args.self.now in
    let so : Added → Type 0 =
    λ added. Noted (gives_of (policy_view old.policy)) (lets_of (policy_view old.policy)) g.W.Watch.notes c.args.watch.now added c.feed_at.new.watch in
    let x = piece_steps g.S.Sink.taken g.S.Sink.has_failed so (policy_view old.policy) old.seats.items c.feed_at.new.seats.items c.in-Piece.link
    c.in-Piece.octets.now c.feed_at.result c.feed_at.ensures in
    rw c.in-Piece.is
    (step_of g.S.Sink.taken g.S.Sink.has_failed so old (Piece c.in-Piece.link c.in-Piece.octets) c.feed_at.result
    (record { policy = old.policy; seats = c.feed_at.new.seats }) x.0 x.1)

pub returns-in-End : goal.returns-in-End
returns-in-End g c =
    let old = c.args.self.now in
    let p = policy_view old.policy in
    let seats = c.end_at.new.seats in
    let so : Added → Type 0 = λ added. Noted (gives_of p) (lets_of p) g.W.Watch.notes c.args.watch.now added c.args.watch.now in
    rw c.in-End.is
    (step_of g.S.Sink.taken g.S.Sink.has_failed so old (End c.in-End.link) c.end_at.result (record { policy = old.policy; seats = seats })
    (end_steps g.S.Sink.taken g.S.Sink.has_failed p old.seats.items seats.items c.in-End.link c.end_at.result c.end_at.ensures)
    (λ well. subst so
    (sym (end_adds g.S.Sink.taken g.S.Sink.has_failed p old.seats.items seats.items c.in-End.link c.end_at.result c.end_at.ensures))
    (noted_none _ (gives_of (policy_view old.policy)) (lets_of (policy_view old.policy)) g.W.Watch.notes c.args.watch.now)))

pub returns-in-Reload : goal.returns-in-Reload
returns-in-Reload g c =
    let old = c.args.self.now in
    let so : Added → Type 0 =
    λ added. Noted (gives_of (policy_view old.policy)) (lets_of (policy_view old.policy)) g.W.Watch.notes c.args.watch.now added c.args.watch.now in
    rw c.in-Reload.is
    (step_of g.S.Sink.taken g.S.Sink.has_failed so old (Reload c.in-Reload.policy) (Ok tt) (record { policy = c.in-Reload.policy; seats = old.seats })
    (nothing, record { answered = refl; same = refl; adds = refl }, refl) (λ well. noted_none _ (gives_of (policy_view old.policy)) (lets_of (policy_view old.policy)) g.W.Watch.notes c.args.watch.now))
