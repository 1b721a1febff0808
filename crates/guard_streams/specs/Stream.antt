-- What comes of a stream of frames that is guarded, by whether notes are asked for, and by the place at which what is
-- counted is shown, where there is one. This is the page to read of `run`; which notes there are is in Verbose.antt, and
-- what is shown in Counting.antt.
use Rattle.std.specs.Prelude.{ℕ, nat_eq, if◌then◌else◌, ◌≡◌, ◌⊎◌, Bool, true, false, List, ◌++◌, codes, Option, Some, None, Result, Ok, Err}
use Rattle.std.specs.Io.KnownBytes.{Appends, IsAtEnd}
use Rattle.guard_policy.specs.Policies.{AbstractPolicy}
use Rattle.guard_frames.specs.declared.totals.Totals.{Totals}
use Rattle.guard_frames.specs.Added.{Octets, Moves}
use Rattle.guard_frames.specs.Leaving.{Leaves, IsWatched}
use Rattle.guard_frames.specs.LinkView.{AbstractLink}
use Rattle.guard_frames.specs.OfPolicy.{decision_of}
use Rattle.guard_frames.specs.Prefix.{IsProperPrefix}
use Rattle.guard_frames.specs.Runs.{ReadToLimit}
use Rattle.guard_frames.specs.declared.running.RunFault.{RunFault}
use Rattle.guard_frames.specs.declared.running.RunFault.TheVariants.{WriteFailed, ReadFailed}
use Rattle.guard_files.specs.declared.fault.Fault.{Fault}
use Rattle.guard_files.specs.declared.fault.Fault.TheVariants.{Run}
use Rattle.guard_files.specs.Devices.{Input, Device, IsUnread, IsUntouched}
use Rattle.guard_files.specs.Digest.{IsNumberedAt}
use Rattle.guard_files.specs.Files.{Told}
use Rattle.guard_files.specs.Reading.{IsNoPolicyAt}
use Rattle.guard_files.specs.Writing.{Tells}
use Rattle.guard_streams.specs.declared.counts.Counts.{Counts}
use Rattle.guard_streams.specs.declared.seen.Seen.{Seen}
use Rattle.guard_streams.specs.Counted.{no_counts, AreCounted}
use Rattle.guard_streams.specs.Counting.{ShowsCounts}
use Rattle.guard_streams.specs.InForce.{digest_note}
use Rattle.guard_streams.specs.Saying.{TellsUnread}
use Rattle.guard_streams.specs.Shown.{Display}
use Rattle.guard_streams.specs.Verbose.{seen_of, last_lines, TellsNotes, TellsFault}

-- ---- what is guarded

-- What was read comes out or is reported under this policy, by the answer, and this link is left, which tells how many
-- frames there were. The reasons of all lines of the report are counted, and what is counted is shown at the place.
-- Where it ended at a failure of standard error, `Silent`, link and counts needn't say that.
abbrev pub GuardsUnder : Result (Unit {0}) RunFault → AbstractPolicy → List ℕ → Option (List ℕ) → Input → Octets →
    Octets → Type 0 → AbstractLink → Counts → Bool → Display → Type 0
GuardsUnder result p digest place input out reports Silent link counts is_first display =
    Moves (input.before, input.after) out reports
    (λ read added. Leaves (decision_of p) read (IsAtEnd input.after) Silent result link added
    × IsWatched result (AreCounted p no_counts added.reports counts)
    (Silent ⊎ AreCounted p no_counts added.reports counts)
    × ShowsCounts p digest place read added result is_first display)

-- the answer says that an output failed only where one has
abbrev pub IsFailureOf : Result (Unit {0}) RunFault → Device → Device → Type 0
IsFailureOf result out err = result ≡ Err WriteFailed → (out.failed ≡ true) ⊎ (err.failed ≡ true)

-- the answer says that the input failed only where it has, or was asked 2^40 times
abbrev pub IsUnreadOf : Result (Unit {0}) RunFault → Input → Type 0
IsUnreadOf result input = result ≡ Err ReadFailed →
    (input.failed ≡ true) ⊎ ReadToLimit input.asked_before input.asked_after input.before input.after

-- ---- what is said

-- why there is no policy; where notes are asked for, with what the system says
abbrev pub TellsNone : Bool → Fault → Device → ℕ → Type 0
TellsNone true f err status = TellsUnread f err status
TellsNone false f err status = Tells f err status

-- Where notes are asked for, that of the number of the policy's texts is said first, and it is so behind it; or
-- standard error failed in it, and nothing is done.
abbrev pub Opens : Bool → List ℕ → Type 0 → Device → ℕ → (Device → Type 0) → Type 0
Opens true digest Nothing err status So =
    ((begun : Option (List ℕ)) × Appends err.before begun (digest_note digest) × So (record err { before = begun }))
    ⊎ (Nothing × (err.failed ≡ true) × (status ≡ 3)
    × ((part : List ℕ) × IsProperPrefix part (digest_note digest) × Appends err.before err.after part))
Opens false digest Nothing err status So = So err

-- `derguard: cannot write PATH`
abbrev pub unwritten_line : List ℕ → List ℕ
unwritten_line path = codes "derguard: cannot write " ++ path ++ codes "\n"

-- what is said where nothing can be shown at the path: this line, if there is memory for it, or a part of it, where
-- standard error fails
abbrev pub IsNoted : Option (List ℕ) → Bool → Option (List ℕ) → Option (List ℕ) → Type 0
IsNoted None is_shown before after = after ≡ before
IsNoted (Some path) true before after = after ≡ before
IsNoted (Some path) false before after =
    (after ≡ before) ⊎ Appends before after (unwritten_line path)
    ⊎ ((part : List ℕ) × IsProperPrefix part (unwritten_line path) × Appends before after part)

-- 0 where all frames passed
abbrev pub totals_status : Totals → ℕ
totals_status t = if nat_eq t.denied 0 then 0 else 1

-- Standard error has failed, and nothing more is said.
abbrev pub IsSilent : Device → ℕ → Type 0
IsSilent err status = (err.failed ≡ true) × IsUntouched err × (status ≡ 3)

-- What is said at the end, with the status of the totals: the last notes, where notes are asked for. Or the fault, and
-- then with the notes behind its line; or, where standard error has failed, nothing more.
abbrev pub TellsEnd : Bool → Result (Unit {0}) RunFault → Seen → Device → ℕ → Type 0
TellsEnd true (Ok done) s err status = TellsNotes (last_lines s) (totals_status s.totals) err status
TellsEnd false (Ok done) s err status = IsUntouched err × (status ≡ totals_status s.totals)
TellsEnd true (Err f) s err status = IsSilent err status ⊎ TellsFault f s err status
TellsEnd false (Err f) s err status = IsSilent err status ⊎ Tells (Run f) err status

-- ---- the whole stream

-- under this policy, whose texts have this number
pub record GuardsToEnd (verbose : Bool) (place : Option (List ℕ)) (p : AbstractPolicy) (digest : List ℕ)
    (display : Display) (input : Input) (out err : Device) (status : ℕ) : Type 0 where
  pub is_first : Bool
  pub begun : Option (List ℕ)
  pub noted : IsNoted place is_first err.before begun
  pub result : Result (Unit {0}) RunFault
  pub link : AbstractLink
  pub counts : Counts
  pub reported : Option (List ℕ)
  pub guards : GuardsUnder result p digest place input (out.before, out.after) (begun, reported)
      (IsSilent (record err { before = reported }) status) link counts is_first display
  pub failure : IsFailureOf result out err
  pub unread : IsUnreadOf result input
  pub told : TellsEnd verbose result (seen_of digest link counts) (record err { before = reported }) status

-- What comes of a stream under the policy at the path. Where there is none, nothing is read, written or shown.
abbrev pub GuardsStream : Bool → Option (List ℕ) → Told → List ℕ → Display → Input → Device → Device → ℕ → Type 0
GuardsStream verbose place told path display input out err status =
    ((f : Fault) × IsNoPolicyAt told path f × IsUnread input × IsUntouched out × (display.after ≡ display.before)
    × TellsNone verbose f err status)
    ⊎ ((p : AbstractPolicy) × (digest : List ℕ) × IsNumberedAt told path p digest
    × Opens verbose digest (IsUnread input × IsUntouched out × (display.after ≡ display.before)) err status
    (λ behind. GuardsToEnd verbose place p digest display input out behind status))
