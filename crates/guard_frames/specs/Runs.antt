-- What a run of one stream adds, by its answer. With `Guarding.antt` this is all that the contract of a run says.
use Rattle.std.specs.Prelude.{◌≡◌, ◌<◌, ◌≤◌, ◌+◌, ◌^◌, ℕ, List, [], length, Option, Result, Ok, Err}
use Rattle.std.specs.List.{concat, All}
use Rattle.std.specs.Io.KnownBytes.{Consumes}
use Rattle.guard_frames.specs.declared.totals.Totals.{Totals}
use Rattle.guard_frames.specs.declared.running.RunFault.{RunFault}
use Rattle.guard_frames.specs.declared.running.RunFault.TheVariants.{FrameTooLong, WriteFailed, TornFrame, ReadFailed, OutOfMemory}
use Rattle.guard_frames.specs.Frames.{IsTooLong, IsUnfinished, ConsistsOf}
use Rattle.guard_frames.specs.Totals.{WentUpBy}
use Rattle.guard_frames.specs.Outcomes.{Decision, Outcome, frames_of}
use Rattle.guard_frames.specs.Guarding.{Counts, text_out, AllAdd, BreaksOff}
use Rattle.guard_frames.specs.Added.{Added, nothing}

-- What was read is frames and a rest, and the frames, numbered from 1, are out or reported.
pub record RunsAll (d : Decision) (read : List ℕ) (added : Added) (Last : List ℕ → Type 0) : Type 0 where
  pub outcomes : List Outcome
  pub rest : List ℕ
  pub split : ConsistsOf read (frames_of outcomes) rest
  pub out : added.out ≡ text_out outcomes
  pub reports : AllAdd (λ _. d) 1 outcomes added.reports
  pub last : Last rest

-- No rest is left; the totals are those of the frames.
pub record RunsToEnd (d : Decision) (read : List ℕ) (totals : Totals) (added : Added) : Type 0 where
  pub all : RunsAll d read added (λ rest. rest ≡ [])
  pub counts : Counts all.outcomes totals

-- A length that no frame may have, at which reading stops: the last octet of the length came in the piece that was read
-- last, of at most 65,536.
pub record IsFoundTooLong (rest : List ℕ) : Type 0 where
  pub too_long : IsTooLong rest
  pub at_once : length rest < 4 + 65536

-- The end came inside a frame: something is left, and it is less than one. It doesn't begin with a length that no frame
-- may have.
pub record IsTorn (rest : List ℕ) : Type 0 where
  pub some : 0 < length rest
  pub unfinished : IsUnfinished rest

-- What is added of the octets that were read, by the answer; `Ended` says that the source had no more to give.
abbrev pub Runs : Decision → List ℕ → Type 0 → Result Totals RunFault → Added → Type 0
Runs d read Ended (Ok totals) added = RunsToEnd d read totals added × Ended
Runs d read Ended (Err FrameTooLong) added = RunsAll d read added IsFoundTooLong
Runs d read Ended (Err TornFrame) added = RunsAll d read added IsTorn × Ended
Runs d read Ended (Err ReadFailed) added = RunsAll d read added IsUnfinished
Runs d read Ended (Err WriteFailed) added = BreaksOff (λ _. d) 1 read added
Runs d read Ended (Err OutOfMemory) added = (read ≡ []) × (added ≡ nothing)

-- ---- how often a source was asked

-- octets that came in so many pieces, each of 1 to 65,536
pub record CameInPieces (count : ℕ) (octets : List ℕ) : Type 0 where
  pub pieces : List (List ℕ)
  pub joined : octets ≡ concat pieces
  pub some : All (λ piece. 0 < length piece) pieces
  pub most : All (λ piece. length piece ≤ 65536) pieces
  pub many : length pieces ≡ count

-- A source was asked 2^40 times, and what it gave came in as many pieces. `takes_old` and `takes_new` count how often
-- the source was asked before and after.
pub record ReadToLimit (takes_old takes_new : ℕ) (source_old source_new : Option (List ℕ)) : Type 0 where
  pub asked : WentUpBy takes_old (2 ^ 40) takes_new
  pub read : List ℕ
  pub consumed : Consumes source_old source_new read
  pub pieces : CameInPieces (2 ^ 40) read
