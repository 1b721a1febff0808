use Rattle.std.proofs.Common.{◌∙◌, ◌≡◌, ◌≤◌, ◌^◌, [], Err, ap, inr, arith}
use Rattle.std.proofs.lemmas.Result.{err_from_is_err_and}
use Rattle.guard_frames.proofs.Reading.{Consumes_none}
use Rattle.guard_files.specs.Headers.{record_of}
use Rattle.guard_files.specs.declared.stop.Stop.TheVariants.{ReadFailed}
use Rattle.guard_files.proofs.RecordLaws.{asked_more, asked_all}
use Rattle.guard_files.proofs.RecordReading.{short_none, allowed_of, found_is}
use Rattle.guard_streams.proofs.Between.{none_shown, read_more, shown_more}
use Rattle.guard_streams.proofs.Doings.{told_ok, told_err}
use Rattle.guard_streams.proofs.Taking.{none_taken, one_taken, cut_at, ends_taken, none_read}
use Rattle.guard_streams.proofs.muxing.guard.Goals as goal

pub loop-init : goal.loop-init
loop-init g c = record {
  taken = none_taken c.args.path.now _ _ _ (g.F.Files.told c.args.files.now) c.args.links.now c.requires.first
      c.requires.ready;
  asked = omega arith;
  left = omega arith;
  shown = none_shown _ _ _ _ _;
}

pub returns-in_err-header-clause-ends : goal.returns-in_err-header-clause-ends
returns-in_err-header-clause-ends g c =
    let e = err_from_is_err_and c.from_residual.result c.from_residual.ensures.1 in
    let i = c.loop.invariant in
    let n = c.in_err-header.ensures in
    let few : c.loop.reads ≤ 2 ^ 40 = omega (arith, i.left) in
    rw (e.1, e.2) (none_read _ _ _ _ _ _ _ _ _ _ i.taken c.in_err-header.field-0.0 _ _ _ _ _ _ _ n.none.0 n.none.1
    n.none.2
    (asked_all _ _ _ c.loop.reads c.next_record.new.reads few n.fewer i.asked n.counted))

pub returns-in_default-clause-ends : goal.returns-in_default-clause-ends
returns-in_default-clause-ends g c =
    let n = c.in_ok-header.ensures.end c.in_default.is in
    let told = g.F.Files.told c.loop.files in
    ends_taken _ _ _ _ _ _ _ _ _ _ c.loop.invariant.taken c.end_all.result _ _ _ _ _ _ _ c.end_all.new.self n.0 n.1
    (told_ok c.end_all.result c.end_all.ensures.done (λ h. h c.args.path.now told))
    (told_err c.end_all.result c.end_all.ensures.cut (λ s cut. (
      cut.0,
      cut.1 c.args.path.now told (g.O.Sink.taken c.loop.out) (g.O.Sink.has_failed c.loop.out),
    )))

pub returns-in_err-take_record-clause-ends : goal.returns-in_err-take_record-clause-ends
returns-in_err-take_record-clause-ends g c =
    let e = err_from_is_err_and c.from_residual-in_err-take_record.result
    c.from_residual-in_err-take_record.ensures.1 in
    let i = c.loop.invariant in
    let n = found_is c.loop.reads c.next_record.new.reads _ _ c.next_record.new.room c.in_ok-header.field-0
    c.in-Some.header c.in-Some.is c.in_ok-header.ensures.record in
    rw (e.1, e.2) (cut_at _ _ _ _ _ _ _ _ _ _ i.taken c.in_err-take_record.field-0.0 _ _ _ _ _ _ _ _
    (record_of c.in-Some.header c.next_record.new.room) c.take_record.new.links
    (allowed_of c.in-Some.header c.next_record.new.room n.0 (c.next_record.auto.room ∙ c.loop.auto.room
    ∙ c.requires.room)) n.2 c.in_err-take_record.ensures.cut
    (λ is. c.take_record.ensures.unseen (c.in_err-take_record.was ∙ ap Err is)))

pub loop-preserved : goal.loop-preserved
loop-preserved g c =
    let i = c.loop.invariant in
    let n = found_is c.loop.reads c.next_record.new.reads _ _ c.next_record.new.room c.in_ok-header.field-0
    c.in-Some.header c.in-Some.is c.in_ok-header.ensures.record in
    record {
      taken = one_taken _ _ _ _ _ _ _ _ _ _ i.taken _ _ _ (record_of c.in-Some.header c.next_record.new.room) _ _
          (allowed_of c.in-Some.header c.next_record.new.room n.0 (c.next_record.auto.room ∙ c.loop.auto.room
          ∙ c.requires.room)) n.2 c.in_ok-take_record.ensures.done;
      asked = asked_more _ _ _ (2 ^ 40) c.loop.reads c.next_record.new.reads
          (omega (arith, i.left)) c.in_ok-header.ensures.fewer i.asked c.in_ok-header.ensures.counted;
      left = omega (arith, i.left, n.1);
      shown = read_more _ _ _ _ _ _ _ (shown_more _ _ _ _ _ _ _ i.shown _ _ _ _ _ _ _ i.taken (rw c.counted.ensures at c.waits.ensures)) _ _ n.2;
    }

pub returns-clause-ends : goal.returns-clause-ends
returns-clause-ends g c =
    let i = c.loop.invariant in
    let none : c.loop.reads ≡ 0 = omega (arith, i.left, c.loop-test.false) in
    none_read _ _ _ _ _ _ _ _ _ _ i.taken ReadFailed _ _ _ c.loop.reads _ _ _ [] (Consumes_none _)
    (short_none [] (omega arith), inr none) (λ is. omega (arith, i.asked, none))

pub returns-in_err-header-clause-shows : goal.returns-in_err-header-clause-shows
returns-in_err-header-clause-shows g c =
    let i = c.loop.invariant in
    read_more _ _ _ _ _ _ _ (shown_more _ _ _ _ _ _ _ i.shown _ _ _ _ _ _ _ i.taken (rw c.counted.ensures at c.waits.ensures)) _ _ c.in_err-header.ensures.none.1

pub returns-in_default-clause-shows : goal.returns-in_default-clause-shows
returns-in_default-clause-shows g c =
    let i = c.loop.invariant in
    let n = c.in_ok-header.ensures.end c.in_default.is in
    read_more _ _ _ _ _ _ _ (shown_more _ _ _ _ _ _ _ i.shown _ _ _ _ _ _ _ i.taken (rw c.counted.ensures at c.waits.ensures)) _ _ n.0

pub returns-in_err-take_record-clause-shows : goal.returns-in_err-take_record-clause-shows
returns-in_err-take_record-clause-shows g c =
    let i = c.loop.invariant in
    let n = found_is c.loop.reads c.next_record.new.reads _ _ c.next_record.new.room c.in_ok-header.field-0
    c.in-Some.header c.in-Some.is c.in_ok-header.ensures.record in
    read_more _ _ _ _ _ _ _ (shown_more _ _ _ _ _ _ _ i.shown _ _ _ _ _ _ _ i.taken (rw c.counted.ensures at c.waits.ensures)) _ _ n.2

pub returns-clause-shows : goal.returns-clause-shows
returns-clause-shows g c = c.loop.invariant.shown
