use Rattle.std.proofs.Common.{append_assoc}
use Rattle.guard_report.proofs.text.add_verdict.Goals as goal

pub returns-in_ok-add-in-OutsideType : goal.returns-in_ok-add-in-OutsideType
returns-in_ok-add-in-OutsideType c =
    rw c.in-OutsideType.is (rw (c.in_ok-add-in-OutsideType.ensures, append_assoc) at c.add_violation.ensures)

pub returns-in_ok-add-in-NotAllowed : goal.returns-in_ok-add-in-NotAllowed
returns-in_ok-add-in-NotAllowed c =
    rw c.in-NotAllowed.is (rw (c.deref.ensures.value, c.in_ok-add-in-NotAllowed.ensures, append_assoc) at c.add_shortfalls.ensures)
