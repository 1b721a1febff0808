use Rattle.std.proofs.Common.{◌∙◌, ◌≤◌, ◌^◌, arith}
use Rattle.std.proofs.lemmas.Result.{err_from_is_err_and}
use Rattle.guard_files.specs.Headers.{record_of}
use Rattle.guard_files.proofs.RecordLaws.{found_size, asked_more, asked_all}
use Rattle.guard_files.proofs.RecordReading.{allowed_of, found_is}
use Rattle.guard_messages.specs.inside.Passed.{Completes}
use Rattle.guard_messages.proofs.LinkedFrames.{none_linked, one_linked, completed, refused, ended_before, stopped_before}
use Rattle.guard_messages.proofs.linked.linked_frame.Goals as goal

pub loop-init : goal.loop-init
loop-init g c = record {
  linked = none_linked c.args.link c.args.number _ _ _ c.new-held.ensures.items (omega (arith, c.requires.some));
  asked = omega arith;
  left = omega arith;
}

pub returns-in_err-header-clause-none : goal.returns-in_err-header-clause-none
returns-in_err-header-clause-none g c =
    let e = err_from_is_err_and c.from_residual.result c.from_residual.ensures.1 in
    let i = c.loop.invariant in
    let n = c.in_err-header.ensures in
    let few : c.loop.reads ≤ 2 ^ 40 = omega (arith, i.left) in
    rw (e.1, e.2) (stopped_before _ _ _ _ _ _ i.linked c.in_err-header.field-0.0 _ _ _ _ _ _ n.none.1 n.none.2
    (asked_all _ _ _ c.loop.reads c.next_record.new.reads few n.fewer i.asked n.counted))

pub returns-in_default-clause-none : goal.returns-in_default-clause-none
returns-in_default-clause-none g c =
    let n = c.in_ok-header.ensures.end c.in_default.is in
    ended_before _ _ _ _ _ _ c.loop.invariant.linked c.ended.result _ _ _ _ n.0 n.1
    (rw c.deref.ensures.value at c.ended.ensures)

pub returns-in_err-found-clause-none : goal.returns-in_err-found-clause-none
returns-in_err-found-clause-none g c =
    let e = err_from_is_err_and c.from_residual-in_err-found.result c.from_residual-in_err-found.ensures.1 in
    let n = found_is c.loop.reads c.next_record.new.reads _ _ c.next_record.new.room c.in_ok-header.field-0
    c.in-Some.header c.in-Some.is c.in_ok-header.ensures.record in
    rw (e.1, e.2) (refused _ _ _ _ _ _ c.loop.invariant.linked c.in_err-found.field-0.0 _ _ _ _
    (record_of c.in-Some.header c.next_record.new.room)
    (allowed_of c.in-Some.header c.next_record.new.room n.0 (c.next_record.auto.room ∙ c.loop.auto.room
    ∙ c.requires.room)) n.2 c.in_err-found.ensures.refused)

pub returns-in-Some-found-clause-frame : goal.returns-in-Some-found-clause-frame
returns-in-Some-found-clause-frame g c =
    let n = found_is c.loop.reads c.next_record.new.reads _ _ c.next_record.new.room c.in_ok-header.field-0
    c.in-Some.header c.in-Some.is c.in_ok-header.ensures.record in
    let r = record_of c.in-Some.header c.next_record.new.room in
    let f = found_size (λ frame. Completes c.args.link r c.loop.held.items c.loop.before frame.items)
    c.in_ok-found.found c.in-Some-found.frame c.in-Some-found.is c.in_ok-found.ensures.frame in
    completed _ _ _ _ _ _ c.loop.invariant.linked _ _ _ _ r _
    (allowed_of c.in-Some.header c.next_record.new.room n.0 (c.next_record.auto.room ∙ c.loop.auto.room
    ∙ c.requires.room)) n.2 f

pub loop-preserved : goal.loop-preserved
loop-preserved g c =
    let i = c.loop.invariant in
    let n = found_is c.loop.reads c.next_record.new.reads _ _ c.next_record.new.room c.in_ok-header.field-0
    c.in-Some.header c.in-Some.is c.in_ok-header.ensures.record in
    record {
      linked = one_linked _ _ _ _ _ _ i.linked _ (record_of c.in-Some.header c.next_record.new.room) _ _
          (allowed_of c.in-Some.header c.next_record.new.room n.0 (c.next_record.auto.room ∙ c.loop.auto.room
          ∙ c.requires.room)) n.2 (c.in_ok-found.ensures.none c.in_default-found.is);
      asked = asked_more _ _ _ (2 ^ 40) c.loop.reads c.next_record.new.reads
          (omega (arith, i.left)) c.in_ok-header.ensures.fewer i.asked c.in_ok-header.ensures.counted;
      left = omega (arith, i.left, n.1);
    }
