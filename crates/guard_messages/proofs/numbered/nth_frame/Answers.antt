use Rattle.std.proofs.Common.{◌<◌, ◌≤◌, ◌^◌, take, ℕ, arith}
use Rattle.std.specs.Io.KnownBytes.{Consumes}
use Rattle.std.proofs.lemmas.Result.{err_from_is_err_and}
use Rattle.guard_frames.specs.Frames.{IsFrame}
use Rattle.guard_files.proofs.RecordLaws.{found_size, asked_more, asked_all}
use Rattle.guard_messages.proofs.FramesPassed.{none_passed, one_passed, stops_before}
use Rattle.guard_messages.proofs.numbered.nth_frame.Goals as goal

pub loop-init : goal.loop-init
loop-init g c = record {
  passed = none_passed _;
  asked = omega arith;
  within = omega (arith, c.requires.some);
  left = omega arith;
}

pub loop-preserved : goal.loop-preserved
loop-preserved g c =
    let i = c.loop.invariant in
    let room = c.next_frame.new.room in
    let before = g.S.Source.tells c.loop.source in
    let after = g.S.Source.tells c.next_frame.new.source in
    let f = found_size (λ (n : ℕ). (n ≤ 1048580) × IsFrame (take n room) × (c.next_frame.new.reads < c.loop.reads) × Consumes before after (take n room))
    c.in_ok-_size.field-0 c.in-Some._size c.in-Some.is c.in_ok-_size.ensures.frame in
    record {
      passed = one_passed _ _ _ i.passed _ _ _ f.1 f.3 (omega arith);
      asked = asked_more _ _ _ (2 ^ 40) c.loop.reads c.next_frame.new.reads i.left c.in_ok-_size.ensures.fewer i.asked
          c.in_ok-_size.ensures.counted;
      within = omega (arith, i.within, c.loop-test.true);
      left = omega (arith, i.left, f.2);
    }

pub returns-in_err-_size-clause-stops : goal.returns-in_err-_size-clause-stops
returns-in_err-_size-clause-stops g c =
    let e = err_from_is_err_and c.from_residual.result c.from_residual.ensures.1 in
    let i = c.loop.invariant in
    let n = c.in_err-_size.ensures in
    rw (e.1, e.2) (stops_before _ _ _ i.passed c.in_err-_size.field-0.0 _ _ _ _ _ _ _ n.none.1 n.none.2
    (asked_all _ _ _ c.loop.reads c.next_frame.new.reads i.left n.fewer i.asked n.counted) i.within)
