-- What comes of `compare`: the frames that come in under two policies. With Differing.antt and
-- Summary.antt this is the page to read of it.
use Rattle.std.specs.Prelude.{◌≡◌, ◌<◌, ◌^◌, ◌⊎◌, ℕ, Bool, true, List, [], ◌++◌, codes, length, map, Option, Some, None, option_map}
use Rattle.std.specs.List.{concat, All}
use Rattle.std.specs.Io.KnownBytes.{Consumes, IsAtEnd}
use Rattle.guard_policy.specs.Policies.{AbstractPolicy}
use Rattle.guard_frames.specs.Frames.{IsFrame, IsTooLong, IsUnfinished}
use Rattle.guard_frames.specs.Totals.{WentUpBy}
use Rattle.guard_frames.specs.FaultTexts.{run_text}
use Rattle.guard_frames.specs.declared.running.RunFault.TheVariants.{FrameTooLong, OutOfMemory, ReadFailed, TornFrame, WriteFailed}
use Rattle.guard_files.specs.declared.fault.Fault.{Fault}
use Rattle.guard_files.specs.declared.fault.Fault.TheVariants as fault
use Rattle.guard_files.specs.Devices.{Input, Device, IsUnread, IsUntouched}
use Rattle.guard_files.specs.Files.{Told, IsLater}
use Rattle.guard_files.specs.Reading.{IsPolicyAt, IsNoPolicyAt}
use Rattle.guard_files.specs.Records.{Record, link_octets, record_octets, IsAllowed, IsBadRecord, IsLink, IsLost, LeavesOpen}
use Rattle.guard_files.specs.Records.Record.{end}
use Rattle.guard_files.specs.Writing.{TookAll, TookPart, Writes, Tells, TellsLine, TellsText, TellsNoMemory}
use Rattle.guard_authors.specs.declared.comparing.Comparing.{Comparing}
use Rattle.guard_authors.specs.declared.comparing.Origin.{Origin}
use Rattle.guard_authors.specs.declared.comparing.Origin.TheVariants.{Stream, Link}
use Rattle.guard_authors.specs.declared.comparing.Uncompared.{Uncompared}
use Rattle.guard_authors.specs.declared.comparing.Uncompared.TheVariants.{Run, BadRecord}
use Rattle.guard_authors.specs.declared.differing.Tally.{Tally}
use Rattle.guard_authors.specs.Differing.{AbstractComparison, AreLines, no_frames, total_line, compared_status}
use Rattle.guard_authors.specs.Summary.{IsSummary}

-- ---- what came in

-- Records and a rest came in, and these are the link's octets in the records.
pub record GivesOfLink (link : ℕ) (before after : Option (List ℕ)) (octets rest : List ℕ) : Type 0 where
  pub records : List Record
  pub allowed : All IsAllowed records
  pub open_still : All (LeavesOpen link) records
  pub given : Consumes before after (concat (map record_octets records) ++ rest)
  pub are : octets ≡ link_octets link records

-- The octets whose frames are compared, all that came in or those of a link; and what came in behind the records.
abbrev pub Gives : Origin → Option (List ℕ) → Option (List ℕ) → List ℕ → List ℕ → Type 0
Gives Stream before after octets rest = Consumes before after octets × (rest ≡ [])
Gives (Link link) before after octets rest = GivesOfLink link before after octets rest

-- no more come: the source ended, or the link did
abbrev pub Ends : Origin → Option (List ℕ) → List ℕ → Type 0
Ends Stream after rest = IsAtEnd after
Ends (Link link) after rest = (rest ≡ record_octets (end link)) ⊎ ((rest ≡ []) × IsAtEnd after)

-- what comes is no record, or is cut short
abbrev pub IsBad : Origin → Input → List ℕ → Type 0
IsBad Stream input rest = ⊥
IsBad (Link link) input rest = IsBadRecord input rest

-- the source failed, or was asked 2^40 times
abbrev pub IsFailed : Origin → Input → List ℕ → Type 0
IsFailed Stream input rest =
    (input.failed ≡ true) ⊎ WentUpBy input.asked_before (2 ^ 40) input.asked_after
IsFailed (Link link) input rest = IsLost input rest

-- ---- what was compared

-- The lines of the frames so far and how many there were; what is left of the octets behind these; and what came in
-- behind the records.
pub record Progress : Type 0 where
  pub lines : List ℕ
  pub tally : Tally
  pub left : List ℕ
  pub rest : List ℕ

pub record Reaches (c : AbstractComparison) (origin : Origin) (before after : Option (List ℕ)) (g : Progress) : Type 0 where
  pub octets : List ℕ
  pub given : Gives origin before after octets g.rest
  pub frames : List (List ℕ)
  pub each : All IsFrame frames
  pub split : octets ≡ concat frames ++ g.left
  pub compared : AreLines c no_frames frames g.lines g.tally

-- ---- what is written

-- All octets are frames. A line for each that differs goes to standard output, or their summary; and how many.
abbrev pub ComparesAll : AbstractComparison → Origin → Input → Device → Device → ℕ → Type 0
ComparesAll c origin input out err status =
    (g : Progress) × (r : Reaches c origin input.before input.after g) × Ends origin input.after g.rest × (g.left ≡ [])
    × ((table : List ℕ) × IsSummary c.summary c r.frames table
    × Writes (g.lines ++ (table ++ total_line g.tally)) (compared_status g.tally) out err status)

-- Why they aren't compared to the end. Standard output has the lines of all frames that came whole before that, or failed
-- inside them; where memory ran out, it has those of the first frames, and maybe not of all.
abbrev pub IsStopped : Uncompared → Origin → Input → Progress → Device → Type 0
IsStopped (Run TornFrame) origin input g out =
    Ends origin input.after g.rest × (0 < length g.left) × IsUnfinished g.left × TookAll g.lines out
IsStopped (Run FrameTooLong) origin input g out = (g.rest ≡ []) × IsTooLong g.left × TookAll g.lines out
IsStopped BadRecord origin input g out = IsBad origin input g.rest × IsUnfinished g.left × TookAll g.lines out
IsStopped (Run ReadFailed) origin input g out = IsFailed origin input g.rest × IsUnfinished g.left × TookAll g.lines out
IsStopped (Run WriteFailed) origin input g out = (g.rest ≡ []) × TookPart g.lines out
IsStopped (Run OutOfMemory) origin input g out = TookAll g.lines out

abbrev pub TellsStopped : Uncompared → Device → ℕ → Type 0
TellsStopped (Run TornFrame) = Tells (fault.Run TornFrame)
TellsStopped (Run FrameTooLong) = Tells (fault.Run FrameTooLong)
TellsStopped BadRecord = TellsLine (codes "bad record") 3
TellsStopped (Run ReadFailed) = TellsLine (run_text ReadFailed) 3
TellsStopped (Run WriteFailed) = TellsLine (run_text WriteFailed) 3
TellsStopped (Run OutOfMemory) = TellsNoMemory

abbrev pub ComparesFrames : AbstractComparison → Origin → Input → Device → Device → ℕ → Type 0
ComparesFrames c origin input out err status =
    ComparesAll c origin input out err status
    ⊎ ((u : Uncompared) × (g : Progress) × Reaches c origin input.before input.after g
    × IsStopped u origin input g out × TellsStopped u err status)

-- ---- what is asked

-- the paths of both policies, whether the places of constraints count, whether a summary stands for the lines of frames,
-- and the number of the link
pub record AbstractComparing : Type 0 where
  pub old : List ℕ
  pub new : List ℕ
  pub by_place : Bool
  pub summary : Bool
  pub link : Option (List ℕ)

abbrev pub comparing_view : Comparing → AbstractComparing
comparing_view a =
    record {
      old = a.old.now;
      new = a.new.now;
      by_place = a.by_place;
      summary = a.summary;
      link = option_map (λ number. number.now) a.link;
    }

-- whose frames are meant: where no link is given all that come in
abbrev pub IsMeant : Option (List ℕ) → Origin → Type 0
IsMeant None Stream = Unit {0}
IsMeant None (Link k) = ⊥
IsMeant (Some word) Stream = ⊥
IsMeant (Some word) (Link k) = IsLink word k

-- ---- the whole

-- nothing is read or written, and this is reported
abbrev pub OnlyTells : (Device → ℕ → Type 0) → Input → Device → Device → ℕ → Type 0
OnlyTells Says input out err status = IsUnread input × IsUntouched out × Says err status

-- under the old policy and the new one, which is read after it; or why there is none
abbrev pub ComparesWith : AbstractPolicy → Told → AbstractComparing → Origin → Input → Device → Device → ℕ → Type 0
ComparesWith p told a origin input out err status =
    ((q : AbstractPolicy) × IsPolicyAt told a.new q
    × ComparesFrames (record { old = p; new = q; by_place = a.by_place; summary = a.summary }) origin input out err
    status)
    ⊎ ((f : Fault) × IsNoPolicyAt told a.new f × OnlyTells (Tells f) input out err status)

abbrev pub ComparesUnder : Told → AbstractComparing → Origin → Input → Device → Device → ℕ → Type 0
ComparesUnder told a origin input out err status =
    ((p : AbstractPolicy) × (after : Told) × IsPolicyAt told a.old p × IsLater told after
    × ComparesWith p after a origin input out err status)
    ⊎ ((f : Fault) × IsNoPolicyAt told a.old f × OnlyTells (Tells f) input out err status)

abbrev pub Compares : Told → AbstractComparing → Input → Device → Device → ℕ → Type 0
Compares told a input out err status =
    ((origin : Origin) × IsMeant a.link origin × ComparesUnder told a origin input out err status)
    ⊎ (((origin : Origin) → IsMeant a.link origin → ⊥)
    × OnlyTells (TellsText (codes "no such link") 2) input out err status)
