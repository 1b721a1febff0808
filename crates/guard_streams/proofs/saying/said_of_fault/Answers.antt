use Rattle.std.proofs.Common.{List, ℕ, string_bytes, subst, sym}
use Rattle.guard_files.specs.declared.fault.Fault.{Fault}
use Rattle.guard_streams.specs.Saying.{IsSaid, IsSaidOfFault}
use Rattle.guard_streams.proofs.SaidLaws.{none_of_fault, if_ok}
use Rattle.guard_streams.proofs.saying.said_of_fault.Goals as goal

pub returns-in-CannotRead : goal.returns-in-CannotRead
returns-in-CannotRead g c =
    if_ok c.line_said.result c.line_said.ensures
    (λ line said. subst (λ (f : Fault). IsSaidOfFault f (string_bytes line)) (sym c.in-CannotRead.is)
    (subst (λ (s : List ℕ). IsSaid s (string_bytes line)) c.deref.ensures said))

pub returns-in-TooLarge : goal.returns-in-TooLarge
returns-in-TooLarge g c =
    subst (λ (s : List ℕ). IsSaidOfFault c.args.fault.now s) (sym c.new.ensures.bytes) (none_of_fault c.args.fault.now)
