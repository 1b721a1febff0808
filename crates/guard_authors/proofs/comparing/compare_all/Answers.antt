use Rattle.std.proofs.Common.{◌≤◌, ◌^◌, ◌∙◌, arith, sym}
use Rattle.std.proofs.lemmas.Result.{IfErr-weaker, IfOk-weaker, err_from_is_err_and}
use Rattle.guard_frames.specs.Totals.{WentUpBy}
use Rattle.guard_files.proofs.RecordLaws.{asked_more, asked_all}
use Rattle.guard_authors.proofs.FramesCompared.{none_compared, nothing_begun, one_taken, stopped_taking, all_compared, torn_at_end, stopped_reading, lost_at_last}
use Rattle.guard_authors.proofs.comparing.compare_all.Goals as goal

pub loop-init : goal.loop-init
loop-init g c = record {
  so_far = none_compared _ _ _ _ _ _ c.new-held.ensures.items c.in_ok-sums.ensures;
  asked = omega arith;
  left = omega arith;
}

pub returns-in_err-sums-clause-stopped : goal.returns-in_err-sums-clause-stopped
returns-in_err-sums-clause-stopped g c =
    let e = err_from_is_err_and c.from_residual.result c.from_residual.ensures.1 in
    rw (e.1, e.2) (nothing_begun _ _ _ _ (g.O.Sink.has_failed c.args.out.now))

pub returns-in_err-size-clause-stopped : goal.returns-in_err-size-clause-stopped
returns-in_err-size-clause-stopped g c =
    let e = err_from_is_err_and c.from_residual-in_err-size.result c.from_residual-in_err-size.ensures.1 in
    let i = c.loop.invariant in
    let n = c.in_err-size.ensures in
    let few : c.loop.reads ≤ 2 ^ 40 = omega (arith, i.left) in
    rw (e.1, e.2) (stopped_reading _ _ _ _ _ _ _ _ i.so_far c.in_err-size.field-0.0 _ _ _ _ _ _ n.none
    (asked_all _ _ _ c.loop.reads c.next_piece.new.reads few n.fewer i.asked n.counted))

pub returns-in_default-clause-all : goal.returns-in_default-clause-all
returns-in_default-clause-all g c =
    IfOk-weaker c.ended.result _ _
    (λ x h. all_compared _ _ _ _ _ _ _ _ c.loop.invariant.so_far _ (g.O.Sink.has_failed c.loop.out) x
    (c.in_ok-size.ensures.end c.in_default.is) h.0 (sym c.deref.ensures.value ∙ h.1)) c.ended.ensures.whole

pub returns-in_default-clause-stopped : goal.returns-in_default-clause-stopped
returns-in_default-clause-stopped g c =
    IfErr-weaker c.ended.result _ _
    (λ u h. torn_at_end _ _ _ _ _ _ _ _ c.loop.invariant.so_far _ _ _ _ (g.O.Sink.has_failed c.loop.out) u
    (c.in_ok-size.ensures.end c.in_default.is) h.0 (rw c.deref.ensures.value at h.1)) c.ended.ensures.torn

pub returns-in_err-take_piece-clause-stopped : goal.returns-in_err-take_piece-clause-stopped
returns-in_err-take_piece-clause-stopped g c =
    let e = err_from_is_err_and c.from_residual-in_err-take_piece.result c.from_residual-in_err-take_piece.ensures.1 in
    let p = rw c.in-Some.is at c.in_ok-size.ensures.piece in
    rw (e.1, e.2) (stopped_taking _ _ _ _ _ _ _ _ c.loop.invariant.so_far c.in_err-take_piece.field-0.0 _ _ _ _ _ _ _ p.2
    c.in_err-take_piece.ensures.stopped)

pub loop-preserved : goal.loop-preserved
loop-preserved g c =
    let i = c.loop.invariant in
    let p = rw c.in-Some.is at c.in_ok-size.ensures.piece in
    record {
      so_far = one_taken _ _ _ _ _ _ _ _ i.so_far _ _ (g.O.Sink.has_failed c.take_piece.new.out) _ _ _ p.2
          c.in_ok-take_piece.ensures.taken;
      asked = asked_more _ _ _ (2 ^ 40) c.loop.reads c.next_piece.new.reads
          (omega (arith, i.left)) c.in_ok-size.ensures.fewer i.asked c.in_ok-size.ensures.counted;
      left = omega (arith, i.left, p.1);
    }

pub returns-clause-stopped : goal.returns-clause-stopped
returns-clause-stopped g c =
    let i = c.loop.invariant in
    let none : c.loop.reads ≤ 0 = omega (arith, i.left, c.loop-test.false) in
    let asked : WentUpBy (g.S.Source.takes c.args.input.now) (2 ^ 40) (g.S.Source.takes c.loop.input) =
    omega (arith, i.asked, none) in
    lost_at_last _ _ _ _ _ _ _ _ i.so_far _ _ _ (g.O.Sink.has_failed c.loop.out) asked
