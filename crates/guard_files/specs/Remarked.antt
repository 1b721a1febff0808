-- An answer on standard output with remarks on standard error.
use Rattle.std.specs.Prelude.{◌⊎◌, ℕ, List}
use Rattle.guard_frames.specs.FaultTexts.{fault_text}
use Rattle.guard_frames.specs.declared.link.LinkFault.TheVariants.{WriteFailed}
use Rattle.guard_files.specs.declared.answer.Remarked.{Remarked}
use Rattle.guard_files.specs.Devices.{Device}
use Rattle.guard_files.specs.Writing.{TookAll, TookPart, TellsOctets, TellsLine}

-- what goes to standard output, what to standard error, and the status
pub record AbstractRemarked : Type 0 where
  pub out : List ℕ
  pub remarks : List ℕ
  pub status : ℕ

abbrev pub remarked_view : Remarked → AbstractRemarked
remarked_view r = record { out = r.out.items; remarks = r.remarks.items; status = r.status }

-- Standard output took it, and then standard error the remarks; or standard output failed, which is reported.
abbrev pub WritesRemarked : AbstractRemarked → Device → Device → ℕ → Type 0
WritesRemarked r out err result =
    (TookAll r.out out × TellsOctets r.remarks r.status err result)
    ⊎ (TookPart r.out out × TellsLine (fault_text WriteFailed) 3 err result)
