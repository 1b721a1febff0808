use Rattle.std.proofs.Common.{rules, refl, ◌≡◌, ◌∙◌, sym, false, true}
use Rattle.guard_files.specs.Devices.{Device, device_of}
use Rattle.guard_json.specs.Taken.{lines_taken, lines_failed}
use Rattle.derguard_program.specs.Requests.{request_view}
use Rattle.derguard_program.specs.Meeting.{answers_lines}
use Rattle.derguard_program.proofs.ByJson.{comes_as_json, by_lines}
use Rattle.derguard_program.proofs.meeting.meet_as_json.Goals as goal

-- `search` finds what a lent sink ends as, where the reference that is behind the lines is still the same one.
pub returns : goal.returns
returns g c =
    let lines = c.meet-status-2.new.err in
    let plain : Device = device_of g.O.Sink.taken g.O.Sink.has_failed c.args.out.now c.meet-status-2.new.out in
    let is : answers_lines (request_view c.args.request.now) ≡ false = sym c.answers_lines.ensures ∙ c.if-answers_lines.false in (
      plain,
      device_of (lines_taken g.E.Sink.taken) lines_failed c.new-lines.result lines,
      c.meet-status-2.ensures,
      rw is refl,
      comes_as_json g.E.Sink.taken c.args.err.now _ lines.sink.now _ lines.sink.ghost_name lines.is_broken lines.written
          lines.begun.items _ _ c.new-lines.ensures.taken refl refl (λ same. search rules),
    )

pub returns-then-answers_lines : goal.returns-then-answers_lines
returns-then-answers_lines g c =
    let lines = c.meet-status.new.err in
    let answers = c.meet-status.new.out in
    let plain : Device = device_of (lines_taken g.O.Sink.taken) lines_failed c.new-answers.result answers in
    let is : answers_lines (request_view c.args.request.now) ≡ true = sym c.answers_lines.ensures ∙ c.if-answers_lines.true in (
      plain,
      device_of (lines_taken g.E.Sink.taken) lines_failed c.new-lines.result lines,
      c.meet-status.ensures,
      by_lines (answers_lines (request_view c.args.request.now)) plain is
          (comes_as_json g.O.Sink.taken c.args.out.now _ answers.sink.now _ answers.sink.ghost_name answers.is_broken
          answers.written answers.begun.items plain _ c.new-answers.ensures.taken refl refl (λ same. search rules)),
      comes_as_json g.E.Sink.taken c.args.err.now _ lines.sink.now _ lines.sink.ghost_name lines.is_broken lines.written
          lines.begun.items _ _ c.new-lines.ensures.taken refl refl (λ same. search rules),
    )
