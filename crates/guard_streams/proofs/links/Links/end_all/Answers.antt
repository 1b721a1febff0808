use Rattle.std.proofs.Common.{[], Some, None, arith}
use Rattle.std.proofs.lemmas.Result.{err_from_is_err_and}
use Rattle.guard_streams.proofs.EndsTaken.{none_ended, closed_more, open_more, end_cut_at, all_ended}
use Rattle.guard_streams.proofs.links.Links.end_all.Goals as goal

pub loop-link-init : goal.loop-link-init
loop-link-init g c = record {
  ready = c.requires.ready;
  ended =
      λ path told. none_ended path told c.args.self.now (g.E.Sink.taken c.args.err.now);
}

pub loop-link-preserved-then-is_closed : goal.loop-link-preserved-then-is_closed
loop-link-preserved-then-is_closed g c = record {
  ready = c.loop-link.invariant.ready;
  ended = λ path told. closed_more path told c.args.self.now c.loop-link.self (g.E.Sink.taken c.args.err.now)
      (g.E.Sink.taken c.loop-link.err) c.loop-link.link (rw c.if-is_closed.true at c.is_closed.ensures)
      (c.loop-link.invariant.ended path told);
}

pub loop-link-preserved : goal.loop-link-preserved
loop-link-preserved g c =
    let n = c.end.new in
    let done = c.in_ok-end.ensures.done in
    record {
      ready = (done [] (λ k p. None) (Some [])).ready;
      ended = λ path told. open_more path told c.args.self.now c.loop-link.self n.self
          (g.E.Sink.taken c.args.err.now) (g.E.Sink.taken c.loop-link.err) (g.E.Sink.taken n.err)
          c.loop-link.link (rw c.if-is_closed.false at c.is_closed.ensures) (done path told (Some []))
          (c.loop-link.invariant.ended path told);
    }

pub returns-in_err-end-clause-cut : goal.returns-in_err-end-clause-cut
returns-in_err-end-clause-cut g c =
    let e = err_from_is_err_and c.from_residual.result c.from_residual.ensures.1 in
    let n = c.end.new in
    let cut = c.in_err-end.ensures in
    rw (e.1, e.2) (
      cut.error,
      λ path told out failed. end_cut_at path told c.args.self.now c.loop-link.self out
          (g.E.Sink.taken c.args.err.now) (g.E.Sink.taken c.loop-link.err) (g.E.Sink.taken n.err)
          failed (g.E.Sink.has_failed n.err) c.loop-link.link (rw c.if-is_closed.false at c.is_closed.ensures)
          (c.loop-link.invariant.ended path told) (rw cut.error at (cut.cut path told out failed)),
    )

pub returns-clause-done : goal.returns-clause-done
returns-clause-done g c = λ path told.
    all_ended path told c.args.self.now c.loop-link.self (g.E.Sink.taken c.args.err.now)
    (g.E.Sink.taken c.loop-link.err) c.loop-link.link
    (omega (arith, c.loop-link.invariant.ready.many, c.loop-link-test.false)) (c.loop-link.invariant.ended path told)
