use Rattle.std.proofs.Common.{◌+◌, ◌-◌, ◌∙◌, ap, sym, subst, take, drop, length, arith}
use Rattle.std.proofs.lemmas.Result.{err_from_is_err_and}
use Rattle.guard_frames.specs.Totals.{after_staying, next_number}
use Rattle.guard_frames.specs.declared.unsent.Unsent.{Unsent}
use Rattle.guard_frames.specs.inside.Judged.{report_line, ReportEnds}
use Rattle.guard_frames.specs.inside.Unsent.{totals_with}
use Rattle.guard_frames.specs.Added.{Added, nothing}
use Rattle.guard_frames.specs.Reasons.{Noted}
use Rattle.guard_frames.proofs.Asking.{asks_none, asks_trans}
use Rattle.guard_frames.proofs.Appending.{sent_more, reported_more, both_none, both_sent, both_reported}
use Rattle.guard_frames.proofs.Noting.{noted_none, noted_staying, but_none, but_told, but_more}
use Rattle.guard_frames.proofs.Counting.{with_none, with_one_more, with_none_behind}
use Rattle.guard_frames.proofs.Recalled.{nothing_recalled}
use Rattle.guard_frames.proofs.Reporting.{goes_as_body, adds_line}
use Rattle.guard_frames.proofs.Steps.{first_at, at_last}
use Rattle.guard_frames.proofs.Waits.{no_lines, at_start, frames_put, so_far_told, broken_out, told_going, told_staying, goes_next, line_breaks, stays_next}
use Rattle.guard_frames.proofs.putting.put_frames.Goals as goal

pub loop-frame-init : goal.loop-frame-init
loop-frame-init g c = (
  nothing,
  rw (c.none-unsent.ensures, with_none c.args.totals 0 (omega arith) (omega arith))
      (at_start (g.D.Decide.decides c.args.policy.now) c.args.totals c.args.octets.now c.none-waiting.result.lines.items c.none-waiting.ensures),
  both_none _ _,
  asks_none _,
  no_lines c.none-waiting.result.lines.items c.none-waiting.ensures,
  rw (c.none-unsent.ensures, c.none-untold.ensures, c.none-waiting.ensures)
      (but_none _ _ _ _ _ _ _ _ (noted_none _ (g.D.Decide.gives c.args.policy.now) (g.D.Decide.lets c.args.policy.now) g.W.Watch.notes c.args.watch.now)),
  nothing_recalled _ _ _ c.none-last.result c.none-last.ensures,
)

pub goes-requires : goal.goes-requires
goes-requires g c = c.loop-frame.invariant.6

-- ---- no whole frame is left

pub returns-in_err-put_going-in-Rest-clause-failure : goal.returns-in_err-put_going-in-Rest-clause-failure
returns-in_err-put_going-in-Rest-clause-failure g c =
    let d = g.D.Decide.decides c.args.policy.now in
    let h = c.loop-frame.invariant in
    let p = c.in_err-put_going-in-Rest.ensures.part in
    let e = err_from_is_err_and c.from_residual.result c.from_residual.ensures.1 in
    rw (e.1, e.2) (
      sent_more h.0 p.0,
      broken_out d c.args.totals (totals_with c.loop-frame.unsent) c.loop-frame.unsent.totals _ c.args.octets.now c.loop-frame.waiting.lines.items p.0
          c.loop-frame.unsent.start c.loop-frame.end h.0
          (λ (x : Added). Noted (g.D.Decide.gives c.args.policy.now) (g.D.Decide.lets c.args.policy.now) g.W.Watch.notes c.args.watch.now x c.tell.new.watch)
          h.1 p.1 p.3 (but_told _ _ _ _ _ _ _ _ _ _ _ h.5 c.tell.ensures),
      both_sent _ _ _ _ _ h.0 p.0 h.2 p.2,
    )

pub put-requires : goal.put-requires
put-requires g c = c.loop-frame.invariant.4

pub returns-in_err-put-in-Rest-clause-failure : goal.returns-in_err-put-in-Rest-clause-failure
returns-in_err-put-in-Rest-clause-failure g c =
    let d = g.D.Decide.decides c.args.policy.now in
    let h = c.loop-frame.invariant in
    let s = c.args.octets.now in
    let waiting = take (c.loop-frame.end - c.loop-frame.unsent.start) (drop c.loop-frame.unsent.start s) in
    let p = c.in_err-put-in-Rest.ensures.part in
    let e = err_from_is_err_and c.from_residual-in_err-put-in-Rest.result c.from_residual-in_err-put-in-Rest.ensures.1 in
    rw (e.1, e.2) (
      reported_more (sent_more h.0 waiting) p.0,
      (
        frames_put d c.args.totals (totals_with c.loop-frame.unsent) c.loop-frame.unsent.totals s c.loop-frame.waiting.lines.items c.loop-frame.unsent.start c.loop-frame.end h.0 h.1 p.0 p.1,
        so_far_told h.0 s c.loop-frame.waiting.lines.items c.loop-frame.unsent.start c.loop-frame.end,
        but_told _ _ _ _ _ _ _ _ _ _ _ h.5 c.tell.ensures,
      ),
      both_reported _ _ _ _ _ (sent_more h.0 waiting) p.0 (both_sent _ _ _ _ _ h.0 waiting h.2 c.in_ok-put_going-in-Rest.ensures.all) p.2,
    )

pub returns-in-Rest-clause-whole : goal.returns-in-Rest-clause-whole
returns-in-Rest-clause-whole g c =
    let d = g.D.Decide.decides c.args.policy.now in
    let h = c.loop-frame.invariant in
    let s = c.args.octets.now in
    let waiting = take (c.loop-frame.end - c.loop-frame.unsent.start) (drop c.loop-frame.unsent.start s) in (
      reported_more (sent_more h.0 waiting) c.loop-frame.waiting.lines.items,
      rw (c.totals_with-totals.ensures) (at_last d c.args.totals (totals_with c.loop-frame.unsent) c.loop-frame.unsent.totals s c.loop-frame.unsent.start c.loop-frame.end c.in-Rest.rest (reported_more h.0 c.loop-frame.waiting.lines.items) h.1.so_far c.in-Rest.ensures),
      both_reported _ _ _ _ _ (sent_more h.0 waiting) c.loop-frame.waiting.lines.items (both_sent _ _ _ _ _ h.0 waiting h.2 c.in_ok-put_going-in-Rest.ensures.all)
          c.in_ok-put-in-Rest.ensures.all,
      but_told _ _ _ _ _ _ _ _ _ _ _ h.5 c.tell.ensures,
    )

-- ---- a frame goes

pub put-requires-in-Goes : goal.put-requires-in-Goes
put-requires-in-Goes g c = c.loop-frame.invariant.4

pub returns-in_err-put-in-Goes-clause-failure : goal.returns-in_err-put-in-Goes-clause-failure
returns-in_err-put-in-Goes-clause-failure g c =
    let h = c.loop-frame.invariant in
    let p = c.in_err-put-in-Goes.ensures.part in
    let e = err_from_is_err_and c.from_residual-in_err-put-in-Goes.result c.from_residual-in_err-put-in-Goes.ensures.1 in
    rw (e.1, e.2) (
      reported_more h.0 p.0,
      (h.1.breaks p.0 p.1, h.5.first, h.5.noted),
      both_reported _ _ _ _ _ h.0 p.0 h.2 p.2,
    )

pub loop-frame-preserved-in-Goes : goal.loop-frame-preserved-in-Goes
loop-frame-preserved-in-Goes g c =
    let d = g.D.Decide.decides c.args.policy.now in
    let h = c.loop-frame.invariant in
    let s = c.args.octets.now in
    let f = c.in-Frame.frame in
    let at = first_at s c.loop-frame.end f h.1.so_far.within c.in-Frame.ensures in
    let goes = goes_as_body d f.octets.now f.body.now c.in-Frame.ensures.body c.in-Goes.ensures.decided.0 in
    let more : Unsent = record { totals = c.loop-frame.unsent.totals; frames = c.loop-frame.unsent.frames + 1; start = c.loop-frame.unsent.start } in (
      reported_more h.0 c.loop-frame.waiting.lines.items,
      goes_next d c.args.totals (totals_with c.loop-frame.unsent) c.loop-frame.unsent.totals (totals_with more) s f.octets.now c.loop-frame.waiting.lines.items c.put-in-Goes.new.self.lines.items
          c.loop-frame.unsent.start c.loop-frame.end h.0 h.1 at goes (with_one_more c.loop-frame.unsent) c.in_ok-put-in-Goes.ensures.none,
      both_reported _ _ _ _ _ h.0 c.loop-frame.waiting.lines.items h.2 c.in_ok-put-in-Goes.ensures.all,
      asks_trans _ _ _ h.3 c.in_ok-put-in-Goes.ensures.lines,
      no_lines c.put-in-Goes.new.self.lines.items c.in_ok-put-in-Goes.ensures.none,
      rw (sym (told_going s f.octets.now c.loop-frame.waiting.lines.items c.put-in-Goes.new.self.lines.items c.loop-frame.unsent.start c.loop-frame.end h.0
          h.1.so_far.ordered at c.in_ok-put-in-Goes.ensures.none))
          (but_more _ _ _ _ _ _ _ _ _ _ _ _ _ _ f.body.now h.5 c.add_one.ensures at.frame c.in-Frame.ensures.body c.in-Goes.ensures.decided.1),
      c.in-Goes.ensures.recalls,
    )

-- ---- a frame stays

pub returns-in_err-put_going-in-Stays-clause-failure : goal.returns-in_err-put_going-in-Stays-clause-failure
returns-in_err-put_going-in-Stays-clause-failure g c =
    let d = g.D.Decide.decides c.args.policy.now in
    let h = c.loop-frame.invariant in
    let p = c.in_err-put_going-in-Stays.ensures.part in
    let e = err_from_is_err_and c.from_residual-in_err-put_going-in-Stays.result c.from_residual-in_err-put_going-in-Stays.ensures.1 in
    rw (e.1, e.2) (
      sent_more h.0 p.0,
      broken_out d c.args.totals (totals_with c.loop-frame.unsent) c.loop-frame.unsent.totals _ c.args.octets.now c.loop-frame.waiting.lines.items p.0
          c.loop-frame.unsent.start c.loop-frame.end h.0
          (λ (x : Added). Noted (g.D.Decide.gives c.args.policy.now) (g.D.Decide.lets c.args.policy.now) g.W.Watch.notes c.args.watch.now x c.tell-in-Stays.new.watch)
          h.1 p.1 p.3 (but_told _ _ _ _ _ _ _ _ _ _ _ h.5 c.tell-in-Stays.ensures),
      both_sent _ _ _ _ _ h.0 p.0 h.2 p.2,
    )

pub line_of-requires : goal.line_of-requires
line_of-requires g c = subst (ReportEnds c.report_on-why.result) (sym c.as_slice.ensures.value) c.report_on-why.ensures.ends

pub add-requires-clause-waiting : goal.add-requires-clause-waiting
add-requires-clause-waiting g c = c.loop-frame.invariant.4

pub returns-in_err-add-in-Stays-clause-failure : goal.returns-in_err-add-in-Stays-clause-failure
returns-in_err-add-in-Stays-clause-failure g c =
    let d = g.D.Decide.decides c.args.policy.now in
    let h = c.loop-frame.invariant in
    let s = c.args.octets.now in
    let f = c.in-Frame.frame in
    let at = first_at s c.loop-frame.end f h.1.so_far.within c.in-Frame.ensures in
    let waiting = take (c.loop-frame.end - c.loop-frame.unsent.start) (drop c.loop-frame.unsent.start s) in
    let said = c.report_on-why.new.line.items in
    let is = c.line_of.ensures.line ∙ ap (report_line c.next_number-number.result c.report_on-why.result) c.as_slice.ensures.value in
    let adds = adds_line d c.next_number-number.result (next_number (totals_with c.loop-frame.unsent)) f.octets.now c.line_of.result.now c.report_on-why.result said
    (c.next_number-number.ensures ∙ ap next_number c.totals_with.ensures) is c.report_on-why.ensures.adds in
    let p = c.in_err-add-in-Stays.ensures.part in
    let e = err_from_is_err_and c.from_residual-in_err-add-in-Stays.result c.from_residual-in_err-add-in-Stays.ensures.1 in
    rw (e.1, e.2) (
      reported_more (sent_more h.0 waiting) p.0,
      (
        line_breaks d c.args.totals (totals_with c.loop-frame.unsent) c.loop-frame.unsent.totals s f.octets.now c.loop-frame.waiting.lines.items c.line_of.result.now p.0 c.loop-frame.unsent.start c.loop-frame.end h.0 h.1 at adds p.1,
        reported_more (so_far_told h.0 s c.loop-frame.waiting.lines.items c.loop-frame.unsent.start c.loop-frame.end) c.line_of.result.now,
        noted_staying _ (g.D.Decide.gives c.args.policy.now) (g.D.Decide.lets c.args.policy.now) g.W.Watch.notes c.args.watch.now c.tell-in-Stays.new.watch c.stays.new.self
            c.next_number-number.result c.report_on-why.result said (so_far_told h.0 s c.loop-frame.waiting.lines.items c.loop-frame.unsent.start c.loop-frame.end)
            c.line_of.result.now (but_told _ _ _ _ _ _ _ _ _ _ _ h.5 c.tell-in-Stays.ensures) is c.report_on-why.ensures.gives c.stays.ensures,
      ),
      both_reported _ _ _ _ _ (sent_more h.0 waiting) p.0 (both_sent _ _ _ _ _ h.0 waiting h.2 c.in_ok-put_going-in-Stays.ensures.all) p.2,
    )

pub loop-frame-preserved : goal.loop-frame-preserved
loop-frame-preserved g c =
    let d = g.D.Decide.decides c.args.policy.now in
    let h = c.loop-frame.invariant in
    let s = c.args.octets.now in
    let f = c.in-Frame.frame in
    let at = first_at s c.loop-frame.end f h.1.so_far.within c.in-Frame.ensures in
    let waiting = take (c.loop-frame.end - c.loop-frame.unsent.start) (drop c.loop-frame.unsent.start s) in
    let said = c.report_on-why.new.line.items in
    let is = c.line_of.ensures.line ∙ ap (report_line c.next_number-number.result c.report_on-why.result) c.as_slice.ensures.value in
    let adds = adds_line d c.next_number-number.result (next_number (totals_with c.loop-frame.unsent)) f.octets.now c.line_of.result.now c.report_on-why.result said
    (c.next_number-number.ensures ∙ ap next_number c.totals_with.ensures) is c.report_on-why.ensures.adds in
    let counts = c.after_staying.ensures ∙ ap after_staying c.totals_with-in-Stays.ensures in
    let q = c.in_ok-add-in-Stays.ensures.all in (
      reported_more (sent_more h.0 waiting) q.0,
      rw (c.none-unsent-in-Stays.ensures, with_none_behind c.loop-frame.unsent c.after_staying.result (c.loop-frame.end + length f.octets.now) counts)
          (stays_next d c.args.totals (totals_with c.loop-frame.unsent) c.loop-frame.unsent.totals c.after_staying.result s f.octets.now c.loop-frame.waiting.lines.items c.line_of.result.now q.0
          c.add.new.self.lines.items c.loop-frame.unsent.start c.loop-frame.end h.0 h.1 at adds counts q.1),
      both_reported _ _ _ _ _ (sent_more h.0 waiting) q.0 (both_sent _ _ _ _ _ h.0 waiting h.2 c.in_ok-put_going-in-Stays.ensures.all) q.2,
      asks_trans _ _ _ h.3 c.in_ok-add-in-Stays.ensures.lines,
      c.in_ok-add-in-Stays.ensures.waiting,
      rw (c.none-unsent-in-Stays.ensures, c.none-untold-in-Stays.ensures) (but_none _ _ _ _ _ _ _ _ (subst (λ (x : Added). Noted (g.D.Decide.gives c.args.policy.now) (g.D.Decide.lets c.args.policy.now) g.W.Watch.notes c.args.watch.now x c.stays.new.self)
          (told_staying s c.loop-frame.waiting.lines.items c.line_of.result.now q.0 c.add.new.self.lines.items c.loop-frame.unsent.start c.loop-frame.end
          (c.loop-frame.end + length f.octets.now) h.0 q.1)
          (noted_staying _ (g.D.Decide.gives c.args.policy.now) (g.D.Decide.lets c.args.policy.now) g.W.Watch.notes c.args.watch.now c.tell-in-Stays.new.watch c.stays.new.self
          c.next_number-number.result c.report_on-why.result said (so_far_told h.0 s c.loop-frame.waiting.lines.items c.loop-frame.unsent.start c.loop-frame.end)
          c.line_of.result.now (but_told _ _ _ _ _ _ _ _ _ _ _ h.5 c.tell-in-Stays.ensures) is c.report_on-why.ensures.gives c.stays.ensures))),
      c.in-Stays.ensures.recalls,
    )

-- ---- each call ends a line

pub returns-in_err-put_going-in-Rest-clause-lines : goal.returns-in_err-put_going-in-Rest-clause-lines
returns-in_err-put_going-in-Rest-clause-lines g c = c.loop-frame.invariant.3

pub returns-in_err-put-in-Rest-clause-lines : goal.returns-in_err-put-in-Rest-clause-lines
returns-in_err-put-in-Rest-clause-lines g c =
    asks_trans _ _ _ c.loop-frame.invariant.3 c.in_err-put-in-Rest.ensures.lines

pub returns-in-Rest-clause-lines : goal.returns-in-Rest-clause-lines
returns-in-Rest-clause-lines g c =
    asks_trans _ _ _ c.loop-frame.invariant.3 c.in_ok-put-in-Rest.ensures.lines

pub returns-in_err-put-in-Goes-clause-lines : goal.returns-in_err-put-in-Goes-clause-lines
returns-in_err-put-in-Goes-clause-lines g c =
    asks_trans _ _ _ c.loop-frame.invariant.3 c.in_err-put-in-Goes.ensures.lines

pub returns-in_err-put_going-in-Stays-clause-lines : goal.returns-in_err-put_going-in-Stays-clause-lines
returns-in_err-put_going-in-Stays-clause-lines g c = c.loop-frame.invariant.3

pub returns-in_err-add-in-Stays-clause-lines : goal.returns-in_err-add-in-Stays-clause-lines
returns-in_err-add-in-Stays-clause-lines g c =
    asks_trans _ _ _ c.loop-frame.invariant.3 c.in_err-add-in-Stays.ensures.lines

-- ---- which sink failed

pub returns-in_err-put_going-in-Rest-clause-failed : goal.returns-in_err-put_going-in-Rest-clause-failed
returns-in_err-put_going-in-Rest-clause-failed g c =
    let e = err_from_is_err_and c.from_residual.result c.from_residual.ensures.1 in
    rw (e.1, e.2) c.in_err-put_going-in-Rest.ensures.failed

pub returns-in_err-put-in-Rest-clause-failed : goal.returns-in_err-put-in-Rest-clause-failed
returns-in_err-put-in-Rest-clause-failed g c =
    let e = err_from_is_err_and c.from_residual-in_err-put-in-Rest.result c.from_residual-in_err-put-in-Rest.ensures.1 in
    rw (e.1, e.2) c.in_err-put-in-Rest.ensures.failed

pub returns-in_err-put-in-Goes-clause-failed : goal.returns-in_err-put-in-Goes-clause-failed
returns-in_err-put-in-Goes-clause-failed g c =
    let e = err_from_is_err_and c.from_residual-in_err-put-in-Goes.result c.from_residual-in_err-put-in-Goes.ensures.1 in
    rw (e.1, e.2) c.in_err-put-in-Goes.ensures.failed

pub returns-in_err-put_going-in-Stays-clause-failed : goal.returns-in_err-put_going-in-Stays-clause-failed
returns-in_err-put_going-in-Stays-clause-failed g c =
    let e = err_from_is_err_and c.from_residual-in_err-put_going-in-Stays.result c.from_residual-in_err-put_going-in-Stays.ensures.1 in
    rw (e.1, e.2) c.in_err-put_going-in-Stays.ensures.failed

pub returns-in_err-add-in-Stays-clause-failed : goal.returns-in_err-add-in-Stays-clause-failed
returns-in_err-add-in-Stays-clause-failed g c =
    let e = err_from_is_err_and c.from_residual-in_err-add-in-Stays.result c.from_residual-in_err-add-in-Stays.ensures.1 in
    rw (e.1, e.2) c.in_err-add-in-Stays.ensures.failed
