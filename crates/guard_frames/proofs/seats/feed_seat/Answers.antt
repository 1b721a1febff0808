use Rattle.std.proofs.Common.{ap}
use Rattle.guard_frames.specs.Added.{Added}
use Rattle.guard_frames.specs.LinkView.{link_view}
use Rattle.guard_frames.specs.Reasons.{Noted}
use Rattle.guard_frames.proofs.Noting.{noted_same}
use Rattle.guard_frames.proofs.Own.AtSeats.{fed_watched, told_shut, same_ends}
use Rattle.guard_frames.proofs.seats.feed_seat.Goals as goal

pub returns : goal.returns
returns g c =
    let taken = g.S.Sink.taken in
    let old = c.args.seat.now in
    let w = c.feed in
    let h = w.ensures in
    let so : Added → Type 0 =
    λ added. Noted (g.D.Decide.gives c.args.policy.now) (g.D.Decide.lets c.args.policy.now) g.W.Watch.notes c.args.watch.now added w.new.watch in
    let f = fed_watched (g.D.Decide.decides c.args.policy.now) (link_view old.link) c.args.octets.now w.result (link_view w.new.self)
    (taken old.ends.out) (taken w.new.out) (taken old.ends.reports) (taken w.new.reports) so h.open
    (λ is. let e = h.shut is in (e.0, ap link_view e.1, ap taken e.2, ap taken e.3, noted_same _ (g.D.Decide.gives c.args.policy.now) (g.D.Decide.lets c.args.policy.now) g.W.Watch.notes c.args.watch.now w.new.watch e.4)) in
    record {
      added = f.0;
      does = f.1;
      took = f.2;
      failed = h.failed;
      shut = told_shut (g.D.Decide.decides c.args.policy.now) (link_view old.link) c.args.octets.now w.result (link_view w.new.self)
          (λ is. let t = h.open is in (t.0, t.1)) (λ is. let e = h.shut is in same_ends w.new.out w.new.reports old.ends.out old.ends.reports e.2 e.3);
      noted = f.3;
    }
