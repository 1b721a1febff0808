use Rattle.std.proofs.Common.{refl}
use Rattle.guard_files.specs.Devices.{device}
use Rattle.guard_files.proofs.GivenAnswers.{gives}
use Rattle.guard_streams.specs.Counting.{display_of}
use Rattle.guard_messages.specs.FirstRun.{IsFirst, IsNoFirst}
use Rattle.derguard_program.proofs.meeting.meet.Goals as goal

pub returns-in-First : goal.returns-in-First
returns-in-First g c =
    let out = device (g.O.Sink.taken c.args.out.now) (g.O.Sink.taken c.give.new.out) (g.O.Sink.has_failed c.give.new.out) in
    let err = device (g.E.Sink.taken c.args.err.now) (g.E.Sink.taken c.give.new.err) (g.E.Sink.has_failed c.give.new.err) in
    rw c.in-First.is ((refl, refl), gives IsFirst IsNoFirst out err c.give.result c.first_run.result c.first_run.ensures.first c.first_run.ensures.none c.give.ensures.written c.give.ensures.told)

pub returns-in-Check : goal.returns-in-Check
returns-in-Check g c = rw c.in-Check.is ((refl, refl), c.check.ensures)

pub returns-in-Decide : goal.returns-in-Decide
returns-in-Decide g c = rw c.in-Decide.is c.decide_asked.ensures

pub returns-in-Show : goal.returns-in-Show
returns-in-Show g c = rw c.in-Show.is (c.show_one.ensures (display_of g.B.Board.shown c.args.counters.now c.args.counters.now))

pub returns-in-Encode : goal.returns-in-Encode
returns-in-Encode g c = rw c.in-Encode.is c.encode.ensures

pub returns-in-Compare : goal.returns-in-Compare
returns-in-Compare g c = rw c.in-Compare.is c.compare.ensures

pub returns-in-Test : goal.returns-in-Test
returns-in-Test g c = rw c.in-Test.is ((refl, refl), c.test.ensures)
