-- What the code does of one record, with what it wrote.
use Rattle.std.specs.Prelude.{◌≡◌, ℕ, Bool, max, true, List, [], ◌∷◌, ◌++◌, length, Option, Some, slice_get, slice_set, Result, Err}
use Rattle.std.specs.List.{All}
use Rattle.std.specs.Io.KnownBytes.{Appends}
use Rattle.guard_frames.specs.declared.gateway.Gateway.{Gateway}
use Rattle.guard_frames.specs.declared.kept.Kept.{Kept}
use Rattle.guard_frames.specs.declared.seats.Ends.{Ends}
use Rattle.guard_frames.specs.Added.{Added, Octets}
use Rattle.guard_frames.specs.Gateways.{AbstractEvent as event, step_answer}
use Rattle.guard_frames.specs.GatewaySteps.{Step}
use Rattle.guard_frames.specs.declared.link.LinkFault.{LinkFault}
use Rattle.guard_frames.specs.GatewayView.{gateway_view, gateway_ends}
use Rattle.guard_frames.specs.KeptView.{kept_octets}
use Rattle.guard_frames.specs.LinkView.{AbstractLink}
use Rattle.guard_frames.specs.Prefix.{IsProperPrefix}
use Rattle.guard_files.specs.declared.stop.Stop.{Stop}
use Rattle.guard_files.specs.declared.stop.Stop.TheVariants.{BadRecord, ReadFailed, WriteFailed, ErrorFailed}
use Rattle.guard_files.specs.Devices.{Input, Device, device}
use Rattle.guard_files.specs.Files.{Told}
use Rattle.guard_files.specs.Records.{Record}
use Rattle.guard_streams.specs.declared.links.Links.{Links}
use Rattle.guard_streams.specs.CountingLinks.{ShowsAtEnd}
use Rattle.guard_streams.specs.LinksCounted.{maybe_counted}
use Rattle.guard_streams.specs.Muxing.{WritesPart, BreaksOut, BreaksErr, TellsGuarded, EndsGuarded}
use Rattle.guard_streams.specs.Passing.{InRecords, marked}
use Rattle.guard_streams.specs.Shown.{Shown, Display}
use Rattle.guard_streams.specs.Turns.{AbstractMux, Written, Happens, InTurn, all_out, all_err, status_of, ends_left}

-- ---- the sinks of a link

-- both have taken nothing since they were emptied
pub record AreEmpty (ends : Ends Kept) : Type 0 where
  pub out : kept_octets ends.out ≡ []
  pub reports : kept_octets ends.reports ≡ []

-- There are sixteen links, and nothing lies in their sinks.
pub record IsReady (g : Gateway Kept) : Type 0 where
  pub many : length (gateway_view g).links ≡ 16
  pub empty : All AreEmpty (gateway_ends g)

-- A piece was fed to this link, whose sinks took what it added.
pub record IsFed (link : ℕ) (old : Gateway Kept) (octets : List ℕ) (answer : Result (Unit {0}) LinkFault)
    (new : Gateway Kept) : Type 0 where
  pub added : Added
  pub step : Step (gateway_view old) (event.piece link octets) (step_answer answer) added (gateway_view new)
  pub ends : Ends Kept
  pub there : slice_get (gateway_ends new) link ≡ Some ends
  pub out : kept_octets ends.out ≡ added.out
  pub reports : kept_octets ends.reports ≡ added.reports
  pub others : gateway_ends new ≡ slice_set (gateway_ends old) link ends

-- What the sinks of this link took is written, and they are emptied; all else stays.
pub record ArePassed (link : ℕ) (ends : Ends Kept) (old new : Gateway Kept) (out err : Octets) : Type 0 where
  pub written : List ℕ
  pub records : InRecords link (kept_octets ends.out) written
  pub sent : Appends out.0 out.1 written
  pub told : Appends err.0 err.1 (marked link (kept_octets ends.reports))
  pub view : gateway_view new ≡ gateway_view old
  pub emptied : Ends Kept
  pub empty : AreEmpty emptied
  pub others : gateway_ends new ≡ slice_set (gateway_ends old) link emptied

-- Standard output failed in the records, and nothing is reported.
pub record IsOutCut (link : ℕ) (ends : Ends Kept) (out err : Device) : Type 0 where
  pub failed : out.failed ≡ true
  pub written : List ℕ
  pub records : InRecords link (kept_octets ends.out) written
  pub part : List ℕ
  pub prefix : IsProperPrefix part written
  pub sent : Appends out.before out.after part
  pub told : err.after ≡ err.before

-- Standard error failed in the lines, after the records.
pub record IsErrCut (link : ℕ) (ends : Ends Kept) (out err : Device) : Type 0 where
  pub failed : err.failed ≡ true
  pub written : List ℕ
  pub records : InRecords link (kept_octets ends.out) written
  pub sent : Appends out.before out.after written
  pub part : List ℕ
  pub prefix : IsProperPrefix part (marked link (kept_octets ends.reports))
  pub told : Appends err.before err.after part

abbrev pub AreCut : Stop → ℕ → Ends Kept → Device → Device → Type 0
AreCut BadRecord link ends out err = ⊥
AreCut ReadFailed link ends out err = ⊥
AreCut WriteFailed link ends out err = IsOutCut link ends out err
AreCut ErrorFailed link ends out err = IsErrCut link ends out err

-- ---- one record

-- the links, what reads of files to come find, and what is seen and counted
abbrev pub mux_of : Told → Links → AbstractMux
mux_of told l = record {
  told = told;
  gateway = gateway_view l.gateway;
  seen = l.seen;
  counted = maybe_counted l.followed.counted;
}

-- The record was taken, and all that is written of it is out.
pub record IsTaken (path : List ℕ) (told_old : Told) (old : Links) (r : Record) (told_new : Told) (new : Links)
    (out err : Octets) : Type 0 where
  pub w : Written
  pub happens : Happens path (mux_of told_old old) r w (mux_of told_new new)
  pub sent : Appends out.0 out.1 w.out
  pub told : Appends err.0 err.1 w.err
  pub status : new.status ≡ max old.status w.status
  pub ready : IsReady new.gateway

-- An output failed in what is written of it.
abbrev pub IsCut : Stop → List ℕ → AbstractMux → Record → Device → Device → Type 0
IsCut BadRecord path old r out err = ⊥
IsCut ReadFailed path old r out err = ⊥
IsCut WriteFailed path old r out err = WritesPart path old r [] out err BreaksOut
IsCut ErrorFailed path old r out err = WritesPart path old r [] out err BreaksErr

-- The records are guarded so far, to the end or to where they aren't: with what is shown and said then of these links it is
-- all that comes of them. What is said after standard error failed changes nothing of that.
abbrev pub EndsWith : Result (Unit {0}) Stop → List ℕ → AbstractMux → Input → Device → Device → Links → Type 0
EndsWith result path first input out err links =
    (place : Option (List ℕ)) (last : Shown) (display : Display) (after : Option (List ℕ)) (failed : Bool) (status : ℕ)
    → (result ≡ Err ErrorFailed → failed ≡ err.failed)
    → ShowsAtEnd result place (maybe_counted links.followed.counted) display.is_shown last display.after
    → TellsGuarded result links.seen links.status (device err.after after failed) status
    → EndsGuarded result path place first input out (device err.before after failed) err.after status last display

-- This link takes no more; or it does.
pub record Is (closed : Bool) (link : ℕ) (l : Links) : Type 0 where
  pub one : AbstractLink
  pub there : slice_get (gateway_view l.gateway).links link ≡ Some one
  pub is : one.closed ≡ closed

-- ---- the ends of the links that are open

-- Each of them was taken, in order.
pub record AreEnded (path : List ℕ) (told : Told) (old new : Links) (err : Octets) : Type 0 where
  pub ws : List Written
  pub ends : InTurn path (mux_of told old) (ends_left 0 (gateway_view old.gateway).links) ws (mux_of told new)
  pub silent : all_out ws ≡ []
  pub reported : Appends err.0 err.1 (all_err ws)
  pub status : new.status ≡ max old.status (status_of ws)

-- Standard error failed in what is said of one of them.
pub record IsEndCut (path : List ℕ) (told : Told) (old : Links) (out err : Device) : Type 0 where
  pub before : List Record
  pub next : Record
  pub more : List Record
  pub ends : ends_left 0 (gateway_view old.gateway).links ≡ before ++ next ∷ more
  pub closed : List Written
  pub last : AbstractMux
  pub in_turn : InTurn path (mux_of told old) before closed last
  pub part : WritesPart path last next closed out err BreaksErr
