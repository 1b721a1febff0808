-- What comes in piece by piece, and what is made of it.
use Rattle.std.specs.Prelude.{◌≡◌, ◌≤◌, ◌⊎◌, ℕ, Bool, true, List, [], ◌++◌, drop, length, Option}
use Rattle.std.specs.List.{concat, All}
use Rattle.std.specs.Io.KnownBytes.{Consumes, IsAtEnd}
use Rattle.guard_frames.specs.Frames.{IsFrame, IsTooLong, IsUnfinished}
use Rattle.guard_frames.specs.declared.running.RunFault.TheVariants as run
use Rattle.guard_files.specs.declared.stop.Stop.{Stop}
use Rattle.guard_files.specs.declared.stop.Stop.TheVariants as stop
use Rattle.guard_files.specs.Devices.{Device}
use Rattle.guard_files.specs.Headers.{IsNone}
use Rattle.guard_files.specs.Records.{Record, of_link, record_octets, IsAllowed, LeavesOpen}
use Rattle.guard_files.specs.Records.Record.{end}
use Rattle.guard_files.specs.Writing.{TookAll, TookPart}
use Rattle.guard_authors.specs.declared.comparing.Origin.{Origin}
use Rattle.guard_authors.specs.declared.comparing.Origin.TheVariants.{Stream, Link}
use Rattle.guard_authors.specs.declared.comparing.Uncompared.{Uncompared}
use Rattle.guard_authors.specs.declared.comparing.Uncompared.TheVariants.{Run, BadRecord}
use Rattle.guard_authors.specs.declared.summary.Sums.{Sums}
use Rattle.guard_authors.specs.Differing.{AbstractComparison, AreLines}
use Rattle.guard_authors.specs.inside.Counting.{CountsFrames}

-- why no record could be read
abbrev pub of_stop : Stop → Uncompared
of_stop stop.BadRecord = BadRecord
of_stop stop.ReadFailed = Run run.ReadFailed
of_stop stop.WriteFailed = Run run.ReadFailed
of_stop stop.ErrorFailed = Run run.ReadFailed

-- ---- one read, by what the source tells before and after it

-- these octets came; of a link, with one record
abbrev pub AddsPiece : Origin → Option (List ℕ) → Option (List ℕ) → List ℕ → Type 0
AddsPiece Stream before after octets = Consumes before after octets
AddsPiece (Link link) before after octets =
    (r : Record) × IsAllowed r × LeavesOpen link r × Consumes before after (record_octets r) × (octets ≡ of_link link r)

-- no more come
abbrev pub EndsBehind : Origin → Option (List ℕ) → Option (List ℕ) → Type 0
EndsBehind Stream before after = Consumes before after [] × IsAtEnd after
EndsBehind (Link link) before after =
    Consumes before after (record_octets (end link)) ⊎ (Consumes before after [] × IsAtEnd after)

-- why nothing could be read
abbrev pub StopsReading : Origin → Stop → Option (List ℕ) → Option (List ℕ) → Bool → ℕ → Type 0
StopsReading Stream stop.ReadFailed before after failed reads =
    Consumes before after [] × ((failed ≡ true) ⊎ (reads ≡ 0))
StopsReading Stream stop.BadRecord before after failed reads = ⊥
StopsReading Stream stop.WriteFailed before after failed reads = ⊥
StopsReading Stream stop.ErrorFailed before after failed reads = ⊥
StopsReading (Link link) s before after failed reads =
    (rest : List ℕ) × Consumes before after rest × IsNone s rest (IsAtEnd after) failed reads

-- ---- octets that are held and the piece behind them

-- the octets up to this place are frames, and their lines were added
pub record HasPassed (c : AbstractComparison) (octets : List ℕ) (old : Sums) (before : List ℕ) (at : ℕ) (new : Sums)
    (behind : List ℕ) : Type 0 where
  pub frames : List (List ℕ)
  pub each : All IsFrame frames
  pub split : octets ≡ concat frames ++ drop at octets
  pub within : at ≤ length octets
  pub lines : List ℕ
  pub are : AreLines c old.tally frames lines new.tally
  pub counted : CountsFrames c frames old new
  pub added : behind ≡ before ++ lines

-- the octets are frames and what is left, and these are the lines
pub record AreCompared (c : AbstractComparison) (octets : List ℕ) (old : Sums) (left lines : List ℕ) (new : Sums) : Type 0 where
  pub frames : List (List ℕ)
  pub each : All IsFrame frames
  pub split : octets ≡ concat frames ++ left
  pub are : AreLines c old.tally frames lines new.tally
  pub counted : CountsFrames c frames old new

abbrev pub HasTaken : AbstractComparison → List ℕ → Sums → List ℕ → Sums → Device → Type 0
HasTaken c octets old left new out =
    (lines : List ℕ) × AreCompared c octets old left lines new × IsUnfinished left × TookAll lines out

-- A length is too great, standard output failed, or memory ran out, before the lines were written or behind that.
abbrev pub IsBroken : Uncompared → List ℕ → List ℕ → Device → Type 0
IsBroken (Run run.FrameTooLong) left lines out = IsTooLong left × TookAll lines out
IsBroken (Run run.WriteFailed) left lines out = TookPart lines out
IsBroken (Run run.OutOfMemory) left lines out = TookAll lines out
IsBroken _ left lines out = ⊥

abbrev pub StopsTaking : AbstractComparison → List ℕ → Sums → Uncompared → Device → Type 0
StopsTaking c octets old u out =
    (left : List ℕ) × (lines : List ℕ) × (new : Sums) × AreCompared c octets old left lines new × IsBroken u left lines out
