use Rattle.std.proofs.Common.{Bool, subst, sym}
use Rattle.guard_files.specs.Devices.{input_of, device}
use Rattle.guard_messages.specs.Deciding.{ShowsBy}
use Rattle.guard_messages.specs.Questions.{question_view}
use Rattle.guard_messages.proofs.looking.show_asked.Goals as goal

pub returns-then-question : goal.returns-then-question
returns-then-question g c = rw c.if-question.true (c.write_frame.ensures (g.F.Files.told c.args.files.now))

pub returns-else-question : goal.returns-else-question
returns-else-question g c =
    let told = g.F.Files.told c.args.files.now in
    let q = question_view c.args.question.now in
    let input = input_of (g.S.Source.tells c.args.input.now) (g.S.Source.tells c.show_value.new.input) (g.S.Source.takes c.args.input.now) (g.S.Source.takes c.show_value.new.input) (g.S.Source.has_failed c.show_value.new.input) in
    let out = device (g.O.Sink.taken c.args.out.now) (g.O.Sink.taken c.show_value.new.out) (g.O.Sink.has_failed c.show_value.new.out) in
    let err = device (g.E.Sink.taken c.args.err.now) (g.E.Sink.taken c.show_value.new.err) (g.E.Sink.has_failed c.show_value.new.err) in
    subst (λ (b : Bool). ShowsBy b told q input out err c.show_value.result) (sym c.if-question.false) c.show_value.ensures
