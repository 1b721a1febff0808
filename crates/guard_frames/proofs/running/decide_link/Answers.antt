use Rattle.std.proofs.Common.{◌≡◌, ◌<◌, ◌≤◌, ◌^◌, ℕ, [], ◌++◌, ◌∙◌, ap, inr, refl, subst, take, length, length-take, arith}
use Rattle.std.specs.Prelude.{Ok, Err}
use Rattle.std.proofs.lemmas.Result.{err_from_is_err_and}
use Rattle.guard_frames.specs.Totals.{no_frames, WentUpBy}
use Rattle.guard_frames.specs.Outcomes.{frames_of}
use Rattle.guard_frames.specs.Added.{nothing, joined}
use Rattle.guard_frames.specs.Frames.{IsUnfinished}
use Rattle.guard_frames.specs.LinkView.{AbstractLink, link_view}
use Rattle.guard_frames.specs.Runs.{CameInPieces, IsTorn}
use Rattle.guard_frames.proofs.Appending.{both_none, both_joined}
use Rattle.guard_frames.proofs.Asking.{asks_none, asks_trans}
use Rattle.guard_frames.proofs.Composing.{puts_on}
use Rattle.guard_frames.proofs.Counting.{counts}
use Rattle.guard_frames.proofs.Reading.{Consumes_none, Consumes_trans, Consumes_zero, no_pieces, one_more_piece}
use Rattle.guard_frames.proofs.Holding.{empty_unfinished, begins_empty, found_soon}
use Rattle.guard_frames.proofs.Leavings.{runs_all, leaves_closed, watched_closed, write_failed}
use Rattle.guard_frames.proofs.Noting.{watched_none, watched_pause, watched_piece, watched_on}
use Rattle.guard_frames.proofs.running.decide_link.Goals as goal

pub loop-init : goal.loop-init
loop-init g c =
    let start = begins_empty (g.D.Decide.decides c.args.policy.now) no_frames in
    let held = ap (λ (l : AbstractLink). l.held) c.requires.first in
    record {
      room = c.requires.room;
      open_still = ap (λ (l : AbstractLink). l.closed) c.requires.first;
      asked = omega arith;
      so_far = (
        [],
        nothing,
        Consumes_none (g.S.Source.tells c.args.source.now),
        both_none _ _,
        rw (held, ap (λ (l : AbstractLink). l.totals) c.requires.first) start,
        rw held empty_unfinished,
        no_pieces,
        watched_none _ (g.D.Decide.gives c.args.policy.now) (g.D.Decide.lets c.args.policy.now) g.W.Watch.notes (g.D.Decide.decides c.args.policy.now) c.args.watch.now,
      );
      lines = asks_none _;
    }

pub returns-then-count-eq0-clause-runs : goal.returns-then-count-eq0-clause-runs
returns-then-count-eq0-clause-runs g c =
    let h = c.loop.invariant.so_far in
    let zero : c.in-Ok.count ≡ 0 = omega arith in
    record {
      read = h.0;
      added = h.1;
      given = Consumes_zero _ _ _ h.0 c.in-Ok.count c.read_piece.new.buffer.items zero h.2 c.in-Ok.ensures.given;
      taken = h.3;
      holds = (
        (
          record {
            all = runs_all _ h.0 c.loop.link.held.items c.loop.link.totals h.1 (λ rest. rest ≡ []) h.4 c.in_ok-finish.ensures.whole;
            counts = rw c.finish.ensures.totals (counts h.4.outcomes c.loop.link.totals h.4.totals);
          },
          c.in-Ok.ensures.end zero,
        ),
        watched_pause _ (g.D.Decide.gives c.args.policy.now) (g.D.Decide.lets c.args.policy.now) g.W.Watch.notes (g.D.Decide.decides c.args.policy.now) c.args.watch.now c.loop.watch c.pauses.new.self
            c.loop.link.totals h.0 h.1 h.7 (c.loop.link.held.items, h.4) c.pauses.ensures,
      );
    }

pub returns-in_err-finish-clause-runs : goal.returns-in_err-finish-clause-runs
returns-in_err-finish-clause-runs g c =
    let e = err_from_is_err_and c.from_residual.result c.from_residual.ensures.1 in
    let h = c.loop.invariant.so_far in
    let torn = c.in_err-finish.ensures.torn in
    let zero : c.in-Ok.count ≡ 0 = omega arith in
    rw (e.1, e.2, torn.0)
    (record {
      read = h.0;
      added = h.1;
      given = Consumes_zero _ _ _ h.0 c.in-Ok.count c.read_piece.new.buffer.items zero h.2 c.in-Ok.ensures.given;
      taken = h.3;
      holds = (
        (
          runs_all _ h.0 c.loop.link.held.items c.loop.link.totals h.1 IsTorn h.4 (record { some = torn.1; unfinished = h.5 }),
          c.in-Ok.ensures.end zero,
          rw c.finish.ensures.totals (counts h.4.outcomes c.loop.link.totals h.4.totals),
          c.finish.ensures.left,
        ),
        watched_pause _ (g.D.Decide.gives c.args.policy.now) (g.D.Decide.lets c.args.policy.now) g.W.Watch.notes (g.D.Decide.decides c.args.policy.now) c.args.watch.now c.loop.watch c.pauses.new.self
            c.loop.link.totals h.0 h.1 h.7 (c.loop.link.held.items, h.4) c.pauses.ensures,
      );
    })

pub returns-in_err-take-clause-runs : goal.returns-in_err-take-clause-runs
returns-in_err-take-clause-runs g c =
    let e = err_from_is_err_and c.from_residual-in_err-take.result c.from_residual-in_err-take.ensures.1 in
    let h = c.loop.invariant.so_far in
    let p = take c.in-Ok.count c.deref.result.now in
    let fed = c.in_err-take.ensures.puts in
    let puts = puts_on _ no_frames c.loop.link.totals c.take.new.self.totals h.0 c.loop.link.held.items p c.take.new.self.held.items (Err c.in_err-take.field-0.0) h.1 fed.0 h.4 fed.1 in
    let given = rw (← c.deref.ensures.value) at c.in-Ok.ensures.given in
    let size : length c.deref.result.now ≡ 65536 = ap length c.deref.ensures.value ∙ c.in-Ok.ensures.room ∙ c.loop.invariant.room in
    let long = length-take c.in-Ok.count c.deref.result.now in
    let most : length p ≤ 65536 = omega (arith, long, size) in
    let counted : c.in-Ok.count ≡ length p = omega (arith, long, size, c.in-Ok.ensures.within, c.loop.invariant.room, c.in-Ok.ensures.room) in
    rw (e.1, e.2)
    (record {
      read = h.0 ++ p;
      added = joined h.1 fed.0;
      given = Consumes_trans _ _ _ h.0 p h.2 given;
      taken = both_joined _ _ _ _ _ _ h.1 fed.0 h.3 fed.2;
      holds = (
        leaves_closed _ (link_view c.take.new.self) (h.0 ++ p) c.take.new.self.held.items c.in_err-take.field-0.0 (joined h.1 fed.0) _ _ _
            (λ rest frames split long. let soon = found_soon h.0 c.loop.link.held.items p rest (frames_of h.4.outcomes) frames h.4.split h.5 split long in omega (arith, soon, most))
            puts c.in_err-take.ensures.left c.in_err-take.ensures.failed,
        watched_closed (g.D.Decide.gives c.args.policy.now) (g.D.Decide.lets c.args.policy.now) g.W.Watch.notes (g.D.Decide.decides c.args.policy.now) c.args.watch.now c.reads.new.self c.take.new.watch
            c.in_err-take.field-0.0 (h.0 ++ p) h.1 fed.0 _ _ c.in_err-take.ensures.failed
            (watched_piece _ (g.D.Decide.gives c.args.policy.now) (g.D.Decide.lets c.args.policy.now) g.W.Watch.notes (g.D.Decide.decides c.args.policy.now) c.args.watch.now c.loop.watch c.pauses.new.self
            c.reads.new.self c.loop.link.totals c.in-Ok.count h.0 p h.1 h.7 (c.loop.link.held.items, h.4) c.pauses.ensures counted c.reads.ensures) fed.3,
      );
    })

pub returns-in_err-take-clause-failed : goal.returns-in_err-take-clause-failed
returns-in_err-take-clause-failed g c =
    let e = err_from_is_err_and c.from_residual-in_err-take.result c.from_residual-in_err-take.ensures.1 in
    rw (e.1, e.2) (λ is. write_failed c.in_err-take.field-0.0 _ _ c.in_err-take.ensures.failed is)

pub loop-preserved : goal.loop-preserved
loop-preserved g c =
    let h = c.loop.invariant.so_far in
    let p = take c.in-Ok.count c.deref.result.now in
    let fed = c.in_ok-take.ensures.puts in
    let x = puts_on _ no_frames c.loop.link.totals c.take.new.self.totals h.0 c.loop.link.held.items p c.take.new.self.held.items (Ok tt) h.1 fed.0 h.4 fed.1 in
    let given = rw (← c.deref.ensures.value) at c.in-Ok.ensures.given in
    let size : length c.deref.result.now ≡ 65536 = ap length c.deref.ensures.value ∙ c.in-Ok.ensures.room ∙ c.loop.invariant.room in
    let long = length-take c.in-Ok.count c.deref.result.now in
    let some : 0 < length p = omega (arith, long, size, c.in-Ok.ensures.within) in
    let most : length p ≤ 65536 = omega (arith, long, size) in
    let counted : c.in-Ok.count ≡ length p = omega (arith, long, size, c.in-Ok.ensures.within, c.loop.invariant.room, c.in-Ok.ensures.room) in
    record {
      room = c.in-Ok.ensures.room ∙ c.loop.invariant.room;
      open_still = c.in_ok-take.ensures.open;
      asked = omega (arith, c.loop.invariant.asked, c.in-Ok.ensures.counted);
      so_far = (
        h.0 ++ p,
        joined h.1 fed.0,
        Consumes_trans _ _ _ h.0 p h.2 given,
        both_joined _ _ _ _ _ _ h.1 fed.0 h.3 fed.2,
        x.0,
        x.1,
        one_more_piece c.loop.counter h.0 p h.6 some most,
        watched_on _ (g.D.Decide.gives c.args.policy.now) (g.D.Decide.lets c.args.policy.now) g.W.Watch.notes (g.D.Decide.decides c.args.policy.now) c.args.watch.now c.reads.new.self c.take.new.watch
            (h.0 ++ p) h.1 fed.0
            (watched_piece _ (g.D.Decide.gives c.args.policy.now) (g.D.Decide.lets c.args.policy.now) g.W.Watch.notes (g.D.Decide.decides c.args.policy.now) c.args.watch.now c.loop.watch c.pauses.new.self
            c.reads.new.self c.loop.link.totals c.in-Ok.count h.0 p h.1 h.7 (c.loop.link.held.items, h.4) c.pauses.ensures counted c.reads.ensures) fed.3,
      );
      lines = asks_trans _ _ _ c.loop.invariant.lines c.in_ok-take.ensures.lines;
    }

pub returns-clause-unread : goal.returns-clause-unread
returns-clause-unread g c = λ _.
    let h = c.loop.invariant.so_far in
    let all : c.loop.counter ≡ 2 ^ 40 = omega arith in
    inr (record {
      asked = subst (λ (k : ℕ). WentUpBy (g.S.Source.takes c.args.source.now) k (g.S.Source.takes c.loop.source)) all c.loop.invariant.asked;
      read = h.0;
      consumed = h.2;
      pieces = subst (λ (k : ℕ). CameInPieces k h.0) all h.6;
    })

pub returns-clause-runs : goal.returns-clause-runs
returns-clause-runs g c =
    let h = c.loop.invariant.so_far in
    record {
      read = h.0;
      added = h.1;
      given = h.2;
      taken = h.3;
      holds = (
        (
          runs_all _ h.0 c.loop.link.held.items c.loop.link.totals h.1 IsUnfinished h.4 h.5,
          counts h.4.outcomes c.loop.link.totals h.4.totals,
          refl,
        ),
        h.7,
      );
    }

pub returns-in_default-clause-runs : goal.returns-in_default-clause-runs
returns-in_default-clause-runs g c =
    let h = c.loop.invariant.so_far in
    record {
      read = h.0;
      added = h.1;
      given = Consumes_zero _ _ _ h.0 0 [] refl h.2 c.in_default.ensures.none;
      taken = h.3;
      holds = (
        (
          runs_all _ h.0 c.loop.link.held.items c.loop.link.totals h.1 IsUnfinished h.4 h.5,
          counts h.4.outcomes c.loop.link.totals h.4.totals,
          refl,
        ),
        watched_pause _ (g.D.Decide.gives c.args.policy.now) (g.D.Decide.lets c.args.policy.now) g.W.Watch.notes (g.D.Decide.decides c.args.policy.now) c.args.watch.now c.loop.watch c.pauses.new.self
            c.loop.link.totals h.0 h.1 h.7 (c.loop.link.held.items, h.4) c.pauses.ensures,
      );
    }

pub returns-in_err-take-clause-lines : goal.returns-in_err-take-clause-lines
returns-in_err-take-clause-lines g c = asks_trans _ _ _ c.loop.invariant.lines c.in_err-take.ensures.lines
