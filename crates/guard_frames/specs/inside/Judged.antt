-- What is reported of one frame, and its line.
use Rattle.std.specs.Prelude.{ℕ, List, ◌++◌, codes, decimal}
use Rattle.guard_frames.specs.Bodies.{AbstractBody}
use Rattle.guard_frames.specs.Outcomes.{Decision}
use Rattle.guard_frames.specs.Calls.{EndsLine}
use Rattle.guard_frames.specs.declared.why.Reason.{Reason}
use Rattle.guard_frames.specs.declared.why.Why.{Why}
use Rattle.guard_frames.specs.declared.why.Why.TheVariants.{BadHeader, NoMemory, Decided}

-- the line that says why the frame of this number stays; one that is decided to stay has this line
abbrev pub report_line : ℕ → Why → List ℕ → List ℕ
report_line n BadHeader line = decimal n ++ codes " bad-header\n"
report_line n NoMemory line = decimal n ++ codes " no-memory\n"
report_line n (Decided reason) line = line

-- the body stays for this, and this line is reported where it is decided to
abbrev pub IsReportOf : Decision → ℕ → AbstractBody → Why → List ℕ → Type 0
IsReportOf d n b (Decided reason) line = d.Reports n b line
IsReportOf d n b NoMemory line = Unit {0}
IsReportOf d n b BadHeader line = ⊥

-- the line of a body that is decided to stay ends with a line feed
abbrev pub ReportEnds : Why → List ℕ → Type 0
ReportEnds (Decided reason) line = EndsLine line
ReportEnds NoMemory line = Unit {0}
ReportEnds BadHeader line = Unit {0}

-- and gives its reason
abbrev pub ReportGives : (Reason → List ℕ → Type 0) → Why → List ℕ → Type 0
ReportGives Gives (Decided reason) line = Gives reason line
ReportGives Gives NoMemory line = Unit {0}
ReportGives Gives BadHeader line = Unit {0}
