-- What comes of a stream of records of many links, by whether notes are asked for, and by the place at which what is
-- counted is shown, where there is one. This is the page to read of `mux`; what comes of one record is in Turns.antt, and
-- what is shown in CountingLinks.antt.
use Rattle.std.specs.Prelude.{◌≡◌, ◌⊎◌, ℕ, Bool, true, false, List, [], ◌∷◌, ◌++◌, Option, Some, None, Result, Ok, Err, map, replicate, codes}
use Rattle.std.specs.List.{concat, All}
use Rattle.std.specs.Io.KnownBytes.{Appends, Consumes, IsAtEnd}
use Rattle.guard_policy.specs.Policies.{AbstractPolicy}
use Rattle.guard_frames.specs.declared.running.RunFault.TheVariants as run
use Rattle.guard_frames.specs.FaultTexts.{run_text}
use Rattle.guard_frames.specs.LinkView.{new_link}
use Rattle.guard_frames.specs.Prefix.{IsProperPrefix}
use Rattle.guard_files.specs.declared.fault.Fault.{Fault}
use Rattle.guard_files.specs.declared.stop.Stop.{Stop}
use Rattle.guard_files.specs.declared.stop.Stop.TheVariants.{BadRecord, ReadFailed, WriteFailed, ErrorFailed}
use Rattle.guard_files.specs.Devices.{Input, Device, IsUnread, IsUntouched}
use Rattle.guard_files.specs.Digest.{IsNumberedAt}
use Rattle.guard_files.specs.Files.{Told, IsLater}
use Rattle.guard_files.specs.Reading.{IsNoPolicyAt}
use Rattle.guard_files.specs.Records.{Record, record_octets, IsAllowed, IsBadRecord, IsLost}
use Rattle.guard_files.specs.Writing.{TellsLine, line_of}
use Rattle.guard_streams.specs.Counters.{AbstractCounted, AbstractForce, nothing_counted, force_of}
use Rattle.guard_streams.specs.CountingLinks.{ShowsCounted, ShowsBetween, ShowsAtEnd}
use Rattle.guard_streams.specs.declared.seen.Seen.{Seen}
use Rattle.guard_streams.specs.Turns.{AbstractMux, Written, Happens, InTurn, all_out, all_err, status_of, ends_left}
use Rattle.guard_streams.specs.Shown.{Shown, Display}
use Rattle.guard_streams.specs.Stream.{IsNoted, Opens, TellsNone}
use Rattle.guard_streams.specs.Verbose.{last_lines, nothing_seen, TellsFault, TellsNotes}

-- What was read is records and then this rest, and the records were taken in turn.
pub record Takes (path : List ℕ) (first : AbstractMux) (input : Input) (rest : List ℕ) : Type 0 where
  pub records : List Record
  pub allowed : All IsAllowed records
  pub given : Consumes input.before input.after (concat (map record_octets records) ++ rest)
  pub written : List Written
  pub last : AbstractMux
  pub in_turn : InTurn path first records written last

-- ---- to the end

-- All that the source gave is records, and after them each link that is open gets its end, in order.
pub record Finishes (path : List ℕ) (first : AbstractMux) (input : Input) (out err : Device) (status : ℕ) : Type 0 where
  pub all : Takes path first input []
  pub at_end : IsAtEnd input.after
  pub closed : List Written
  pub after : AbstractMux
  pub ends : InTurn path all.last (ends_left 0 all.last.gateway.links) closed after
  pub sent : Appends out.before out.after (all_out (all.written ++ closed))
  pub told : Appends err.before err.after (all_err (all.written ++ closed))
  pub greatest : status ≡ status_of (all.written ++ closed)

-- ---- what comes in is at fault

-- All that comes of the records before these octets is out, and nothing else: no link gets its end.
pub record StopsAt (path : List ℕ) (first : AbstractMux) (input : Input) (out err : Device)
    (IsRest : List ℕ → Type 0) : Type 0 where
  pub rest : List ℕ
  pub all : Takes path first input rest
  pub is : IsRest rest
  pub sent : Appends out.before out.after (all_out all.written)
  pub told : Appends err.before err.after (all_err all.written)

-- ---- an output fails

-- standard output in what is written of an event: of that it took the first octets, and standard error nothing
abbrev pub BreaksOut : Device → Device → Written → List ℕ → List ℕ → Type 0
BreaksOut out err w sent told = (out.failed ≡ true) × IsProperPrefix sent w.out × (told ≡ [])

-- standard error, after standard output took all of it
abbrev pub BreaksErr : Device → Device → Written → List ℕ → List ℕ → Type 0
BreaksErr out err w sent told = (err.failed ≡ true) × (sent ≡ w.out) × IsProperPrefix told w.err

-- what is written of an event, after what was written before it, up to where an output fails
pub record WritesPart (path : List ℕ) (old : AbstractMux) (event : Record) (before : List Written) (out err : Device)
    (Breaks : Device → Device → Written → List ℕ → List ℕ → Type 0) : Type 0 where
  pub w : Written
  pub new : AbstractMux
  pub happens : Happens path old event w new
  pub out_part : List ℕ
  pub err_part : List ℕ
  pub breaks : Breaks out err w out_part err_part
  pub sent : Appends out.before out.after (all_out before ++ out_part)
  pub told : Appends err.before err.after (all_err before ++ err_part)

-- It fails in what is written of a record, which is the last one that was read.
pub record BreaksAtRecord (path : List ℕ) (first : AbstractMux) (input : Input) (out err : Device)
    (Breaks : Device → Device → Written → List ℕ → List ℕ → Type 0) : Type 0 where
  pub next : Record
  pub allowed : IsAllowed next
  pub all : Takes path first input (record_octets next)
  pub part : WritesPart path all.last next all.written out err Breaks

-- It fails in what is written of the end of a link, after all records.
pub record BreaksAtEnd (path : List ℕ) (first : AbstractMux) (input : Input) (out err : Device)
    (Breaks : Device → Device → Written → List ℕ → List ℕ → Type 0) : Type 0 where
  pub all : Takes path first input []
  pub at_end : IsAtEnd input.after
  pub before : List Record
  pub next : Record
  pub more : List Record
  pub ends : ends_left 0 all.last.gateway.links ≡ before ++ next ∷ more
  pub closed : List Written
  pub last : AbstractMux
  pub in_turn : InTurn path all.last before closed last
  pub part : WritesPart path last next (all.written ++ closed) out err Breaks

-- ---- why they stop

-- why the links aren't guarded to their ends, and what both outputs took
abbrev pub Stops : Stop → List ℕ → AbstractMux → Input → Device → Device → Type 0
Stops BadRecord path first input out err = StopsAt path first input out err (IsBadRecord input)
Stops ReadFailed path first input out err = StopsAt path first input out err (IsLost input)
Stops WriteFailed path first input out err = BreaksAtRecord path first input out err BreaksOut
Stops ErrorFailed path first input out err =
    BreaksAtRecord path first input out err BreaksErr ⊎ BreaksAtEnd path first input out err BreaksErr

-- what is seen of the records before that
abbrev pub seen_before : (s : Stop) (path : List ℕ) (first : AbstractMux) (input : Input) (out err : Device)
    → Stops s path first input out err → Option Seen
seen_before BadRecord path first input out err h = h.all.last.seen
seen_before ReadFailed path first input out err h = h.all.last.seen
seen_before WriteFailed path first input out err h = h.all.last.seen
seen_before ErrorFailed path first input out err h = None

-- and what is counted of them
abbrev pub counted_before : (s : Stop) (path : List ℕ) (first : AbstractMux) (input : Input) (out err : Device)
    → Stops s path first input out err → Option AbstractCounted
counted_before BadRecord path first input out err h = h.all.last.counted
counted_before ReadFailed path first input out err h = h.all.last.counted
counted_before WriteFailed path first input out err h = None
counted_before ErrorFailed path first input out err h = None

-- ---- what is said at the end

-- what is reported of that, with status 3; nothing more where standard error failed
abbrev pub TellsStop : Stop → Device → ℕ → Type 0
TellsStop BadRecord err status = TellsLine (codes "bad record") 3 err status
TellsStop ReadFailed err status = TellsLine (run_text run.ReadFailed) 3 err status
TellsStop WriteFailed err status = TellsLine (run_text run.WriteFailed) 3 err status
TellsStop ErrorFailed err status = (err.after ≡ err.before) × (status ≡ 3)

-- Why the links aren't guarded to their ends, with what was seen; where nothing was, as without notes. Where standard
-- error failed nothing more is said.
abbrev pub TellsStopWith : Option Seen → Stop → Device → ℕ → Type 0
TellsStopWith None s err status = TellsStop s err status
TellsStopWith (Some seen) BadRecord err status =
    TellsNotes (line_of (codes "bad record") ++ last_lines seen) 3 err status
TellsStopWith (Some seen) ReadFailed err status = TellsFault run.ReadFailed seen err status
TellsStopWith (Some seen) WriteFailed err status = TellsFault run.WriteFailed seen err status
TellsStopWith (Some seen) ErrorFailed err status = TellsStop ErrorFailed err status

-- What is said at the end: the last notes, where something is seen, or why the links aren't guarded to their ends.
abbrev pub TellsGuarded : Result (Unit {0}) Stop → Option Seen → ℕ → Device → ℕ → Type 0
TellsGuarded (Ok done) None greatest err status = IsUntouched err × (status ≡ greatest)
TellsGuarded (Ok done) (Some seen) greatest err status = TellsNotes (last_lines seen) greatest err status
TellsGuarded (Err s) seen greatest err status = TellsStopWith seen s err status

-- The records are guarded to the end, or up to where they aren't; what is counted then is shown, and it is said what
-- there is to say.
abbrev pub EndsGuarded : Result (Unit {0}) Stop → List ℕ → Option (List ℕ) → AbstractMux → Input → Device → Device →
    Option (List ℕ) → ℕ → Shown → Display → Type 0
EndsGuarded (Ok done) path place first input out err reported status last display =
    (greatest : ℕ) × (f : Finishes path first input out (record err { after = reported }) greatest)
    × ShowsAtEnd (Ok done) place f.after.counted display.is_shown last display.after
    × TellsGuarded (Ok done) f.after.seen greatest (record err { before = reported }) status
EndsGuarded (Err s) path place first input out err reported status last display =
    (h : Stops s path first input out (record err { after = reported }))
    × ShowsAtEnd (Err s) place (counted_before s path first input out (record err { after = reported }) h)
    display.is_shown last display.after
    × TellsGuarded (Err s) (seen_before s path first input out (record err { after = reported }) h) 3
    (record err { before = reported }) status

-- ---- the whole stream

-- sixteen links that are open, under this policy; notes are asked for where something is seen
abbrev pub new_mux : AbstractPolicy → Told → Option Seen → Option AbstractCounted → AbstractMux
new_mux p told seen counted = record {
  told = told;
  gateway = record { policy = p; links = replicate 16 new_link };
  seen = seen;
  counted = counted;
}

-- what is seen at first, where notes are asked for
abbrev pub seen_first : Bool → List ℕ → Option Seen
seen_first true digest = Some (nothing_seen digest)
seen_first false digest = None

-- what is counted at first, where it is shown
abbrev pub counted_first : Option (List ℕ) → AbstractForce → Option AbstractCounted
counted_first None force = None
counted_first (Some place) force = Some (nothing_counted force)

-- before the first record, under this policy, whose texts have this number
abbrev pub first_mux : Bool → Option (List ℕ) → AbstractPolicy → List ℕ → Told → AbstractMux
first_mux verbose place p digest told =
    new_mux p told (seen_first verbose digest) (counted_first place (force_of p digest))

-- under it: what is counted is shown at first, which is noted where it can't be, and now and then before a record
pub record GuardsLinksUnder (first : AbstractMux) (path : List ℕ) (place : Option (List ℕ)) (display : Display)
    (input : Input) (out err : Device) (status : ℕ) : Type 0 where
  pub is_first : Bool
  pub begun : Shown
  pub begins : ShowsCounted place first.counted is_first display.before begun
  pub said : Option (List ℕ)
  pub noted : IsNoted place is_first err.before said
  pub last : Shown
  pub shows : ShowsBetween path first input.before input.after place begun last
  pub result : Result (Unit {0}) Stop
  pub reported : Option (List ℕ)
  pub ends : EndsGuarded result path place first input out (record err { before = said }) reported status last display

-- What comes of a stream of records under the policy at the path. Where there is none, nothing is read, written or
-- shown.
abbrev pub GuardsLinks : Bool → Option (List ℕ) → Told → List ℕ → Display → Input → Device → Device → ℕ → Type 0
GuardsLinks verbose place told path display input out err status =
    ((f : Fault) × IsNoPolicyAt told path f × IsUnread input × IsUntouched out × (display.after ≡ display.before)
    × TellsNone verbose f err status)
    ⊎ ((p : AbstractPolicy) × (digest : List ℕ) × (later : Told) × IsNumberedAt told path p digest × IsLater told later
    × Opens verbose digest (IsUnread input × IsUntouched out × (display.after ≡ display.before)) err status
    (λ behind. GuardsLinksUnder (first_mux verbose place p digest later) path place display input out behind status))
