use Rattle.std.proofs.Common.{[], ℕ, List, inr, subst, sym}
use Rattle.guard_streams.specs.Saying.{IsSaidOfFault}
use Rattle.guard_streams.proofs.SaidLaws.{none_of_fault}
use Rattle.guard_streams.proofs.verbose.tell_unread.Goals as goal

pub returns-in-Ok : goal.returns-in-Ok
returns-in-Ok g c = (
  c.deref.result.now,
  subst (λ (s : List ℕ). IsSaidOfFault c.args.fault.now s) (sym c.deref.ensures) c.in-Ok.ensures,
  c.tell_with.ensures,
)

pub returns-in-Err : goal.returns-in-Err
returns-in-Err g c = ([], none_of_fault c.args.fault.now, inr c.tell_no_memory.ensures)
