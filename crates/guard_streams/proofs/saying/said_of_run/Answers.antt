use Rattle.std.proofs.Common.{List, ℕ, string_bytes, subst, sym}
use Rattle.guard_frames.specs.declared.running.RunFault.{RunFault}
use Rattle.guard_streams.specs.Saying.{IsSaidOfRun}
use Rattle.guard_streams.proofs.SaidLaws.{none_of_run, if_ok}
use Rattle.guard_streams.proofs.saying.said_of_run.Goals as goal

pub returns-in-ReadFailed : goal.returns-in-ReadFailed
returns-in-ReadFailed g c =
    if_ok c.line_said.result c.line_said.ensures
    (λ line said. subst (λ (f : RunFault). IsSaidOfRun f (string_bytes line)) (sym c.in-ReadFailed.is) said)

pub returns-in-WriteFailed : goal.returns-in-WriteFailed
returns-in-WriteFailed g c =
    if_ok c.line_said-in-WriteFailed.result c.line_said-in-WriteFailed.ensures
    (λ line said. subst (λ (f : RunFault). IsSaidOfRun f (string_bytes line)) (sym c.in-WriteFailed.is) said)

pub returns-in-FrameTooLong : goal.returns-in-FrameTooLong
returns-in-FrameTooLong g c =
    subst (λ (s : List ℕ). IsSaidOfRun c.args.fault s) (sym c.new.ensures.bytes) (none_of_run c.args.fault)
