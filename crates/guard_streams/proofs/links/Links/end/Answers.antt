use Rattle.std.proofs.Common.{◌∙◌, [], ap, max}
use Rattle.guard_frames.specs.Added.{nothing}
use Rattle.guard_frames.specs.GatewayView.{gateway_view}
use Rattle.guard_files.specs.Devices.{device}
use Rattle.guard_files.specs.Records.Record.{end}
use Rattle.guard_streams.specs.declared.following.Following.{Following}
use Rattle.guard_streams.specs.LinksCounted.{maybe_counted}
use Rattle.guard_streams.specs.Turns.{link_status}
use Rattle.guard_streams.specs.inside.Noting.{noted_link, fault_note}
use Rattle.guard_streams.specs.inside.Doing.{mux_of}
use Rattle.guard_streams.proofs.links.Links.end.Goals as goal
use Rattle.guard_streams.proofs.Doings.{end_taken, end_cut, told_ok, told_err, cut_as_error}
use Rattle.guard_streams.proofs.Noting.{end_note}

pub returns-clause-done : goal.returns-clause-done
returns-clause-done g c =
    let t = c.tell_answer in
    let e = c.end_link-answer in
    let n = c.count_end in
    let old = c.args.self.now in
    let note = fault_note (noted_link old.seen (gateway_view e.new.gateway) c.args.link) c.args.link e.result in
    let noted = end_note old.seen old.gateway (gateway_view e.new.gateway) c.args.link e.result nothing e.ensures.step in
    told_ok t.result (rw (n.ensures.seen, n.ensures.gateway) at t.ensures.all) (λ said path told out. end_taken old c.args.link
    e.result e.new.gateway e.ensures.step note noted
    path told t.new.self out (g.E.Sink.taken c.args.err.now) (g.E.Sink.taken t.new.err) (t.ensures.gateway ∙ n.ensures.gateway)
    e.ensures.ready said (t.ensures.status ∙ ap (λ k. max k (link_status [] e.result)) n.ensures.status) (t.ensures.seen ∙ n.ensures.seen)
    (ap (λ (x : Following). maybe_counted x.counted) t.ensures.followed ∙ n.ensures.counted))

pub returns-clause-cut : goal.returns-clause-cut
returns-clause-cut g c =
    let t = c.tell_answer in
    let e = c.end_link-answer in
    let n = c.count_end in
    let old = c.args.self.now in
    let note = fault_note (noted_link old.seen (gateway_view e.new.gateway) c.args.link) c.args.link e.result in
    let noted = end_note old.seen old.gateway (gateway_view e.new.gateway) c.args.link e.result nothing e.ensures.step in
    told_err t.result (rw (n.ensures.seen, n.ensures.gateway) at t.ensures.part) (λ s p path told out failed. cut_as_error s path (mux_of told old)
    (end c.args.link) (device out out failed) (device (g.E.Sink.taken c.args.err.now) (g.E.Sink.taken t.new.err)
    (g.E.Sink.has_failed t.new.err)) p.0
    (end_cut old c.args.link e.result e.new.gateway
    e.ensures.step note noted
    path told out (g.E.Sink.taken c.args.err.now) (g.E.Sink.taken t.new.err) failed
    (g.E.Sink.has_failed t.new.err) p.1 p.2.0 p.2.1 p.2.2))

pub returns-clause-error : goal.returns-clause-error
returns-clause-error g c = told_err c.tell_answer.result c.tell_answer.ensures.part (λ s p. p.0)
