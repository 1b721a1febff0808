use Rattle.std.proofs.Common.{◌≡◌, ◌<◌, ◌≤◌, ◌^◌, [], inl, inr, sym, subst, take, ℕ, List, arith}
use Rattle.std.specs.Io.KnownBytes.{Consumes}
use Rattle.std.proofs.lemmas.Result.{err_from_is_err_and}
use Rattle.guard_frames.specs.Frames.{IsFrame}
use Rattle.guard_frames.specs.Outcomes.{Outcome}
use Rattle.guard_frames.proofs.Asking.{asks_none, asks_trans}
use Rattle.guard_frames.proofs.Holding.{empty_unfinished}
use Rattle.guard_frames.proofs.Reading.{Consumes_none}
use Rattle.guard_files.proofs.RecordLaws.{found_size, asked_more, asked_all}
use Rattle.guard_streams.proofs.FramesAnswered.{none_answered, one_answered, answers_all, none_asked, answered_to, answered_in_part}
use Rattle.guard_streams.proofs.answering.answer_all.Goals as goal

pub loop-init : goal.loop-init
loop-init g c = record {
  answered = none_answered _ _ _ _ c.none-totals.ensures;
  asked = omega arith;
  left = omega arith;
  lines = asks_none _;
}

pub returns-in_err-size-clause-stops : goal.returns-in_err-size-clause-stops
returns-in_err-size-clause-stops g c =
    let e = err_from_is_err_and c.from_residual.result c.from_residual.ensures.1 in
    let i = c.loop.invariant in
    let n = c.in_err-size.ensures in
    let few : c.loop.reads ≤ 2 ^ 40 = omega (arith, i.left) in
    rw (e.1, e.2) (none_asked _ _ _ _ _ _ i.answered c.in_err-size.field-0.0 _ _ _ _ _ _ _ n.none.1 n.none.2
    (asked_all _ _ _ c.loop.reads c.next_frame.new.reads few n.fewer i.asked n.counted))

pub returns-in_default-clause-all : goal.returns-in_default-clause-all
returns-in_default-clause-all g c =
    let n = c.in_ok-size.ensures.end c.in_default.is in
    answers_all _ _ _ _ _ _ c.loop.invariant.answered _ _ _ _ _ n.0 n.1

pub returns-in_default-answer-clause-stops : goal.returns-in_default-answer-clause-stops
returns-in_default-answer-clause-stops g c =
    let i = c.loop.invariant in
    let room = c.next_frame.new.room in
    let before = g.S.Source.tells c.loop.input in
    let after = g.S.Source.tells c.next_frame.new.source in
    let f = found_size (λ (n : ℕ). (n ≤ 1048580) × IsFrame (take n room) × (c.next_frame.new.reads < c.loop.reads) × Consumes before after (take n room))
    c.in_ok-size.field-0 c.in-Some.size c.in-Some.is c.in_ok-size.ensures.frame in
    let p = c.in_default-answer.ensures.part in
    answered_in_part _ _ _ _ _ _ i.answered _ _ _ _ _ _ p.0 p.1 p.2 c.next_number.result (subst IsFrame (sym p.3) f.1)
    (subst (λ (s : List ℕ). Consumes before after s) (sym p.3) f.3) c.next_number.ensures p.4 p.5 p.6
    c.in_default-answer.ensures.failed

pub returns-in_default-answer-clause-lines : goal.returns-in_default-answer-clause-lines
returns-in_default-answer-clause-lines g c = asks_trans _ _ _ c.loop.invariant.lines c.in_default-answer.ensures.lines

pub loop-preserved : goal.loop-preserved
loop-preserved g c =
    let i = c.loop.invariant in
    let room = c.next_frame.new.room in
    let before = g.S.Source.tells c.loop.input in
    let after = g.S.Source.tells c.next_frame.new.source in
    let f = found_size (λ (n : ℕ). (n ≤ 1048580) × IsFrame (take n room) × (c.next_frame.new.reads < c.loop.reads) × Consumes before after (take n room))
    c.in_ok-size.field-0 c.in-Some.size c.in-Some.is c.in_ok-size.ensures.frame in
    let w = c.in-Ok.ensures.all in
    let x : Outcome = record { frame = take c.in-Some.size room; goes = c.in-Ok.goes } in
    record {
      answered = one_answered _ _ _ _ _ _ i.answered _ _ x w.0 c.next_number.result c.counted_one-totals.result f.1 f.3
          c.next_number.ensures w.1 w.2 (c.counted_one-totals.ensures x.frame);
      asked = asked_more _ _ _ (2 ^ 40) c.loop.reads c.next_frame.new.reads (omega (arith, i.left)) c.in_ok-size.ensures.fewer
          i.asked c.in_ok-size.ensures.counted;
      left = omega (arith, i.left, f.2);
      lines = asks_trans _ _ _ i.lines c.in-Ok.ensures.lines;
    }

pub returns-clause-stops : goal.returns-clause-stops
returns-clause-stops g c =
    let i = c.loop.invariant in
    let none : c.loop.reads ≡ 0 = omega (arith, i.left, c.loop-test.false) in
    answered_to _ _ _ _ _ _ i.answered _ _ _ _ _ [] _ (Consumes_none _) (inl empty_unfinished)
    (empty_unfinished, inr (omega (arith, i.asked, none)))
