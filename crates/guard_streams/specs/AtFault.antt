-- At which frame of its stream a link's fault is, which is noted where notes are asked for.
use Rattle.std.specs.Prelude.{◌≡◌, ℕ, List, [], ◌++◌, length, codes, decimal, Option, Some, None, Result, Ok, Err, slice_get}
use Rattle.guard_frames.specs.declared.link.LinkFault.{LinkFault}
use Rattle.guard_frames.specs.declared.link.LinkFault.TheVariants.{FrameTooLong, WriteFailed, Closed, TornFrame}
use Rattle.guard_frames.specs.Frames.{stated_length, ConsistsOf}
use Rattle.guard_frames.specs.Gateways.{AbstractGateway, AbstractEvent}
use Rattle.guard_frames.specs.Gateways.AbstractEvent.{piece, end, reload}
use Rattle.guard_frames.specs.LinkView.{AbstractLink}
use Rattle.guard_frames.specs.Totals.{later, next_number}
use Rattle.guard_streams.specs.declared.seen.Seen.{Seen}

-- the octets that an event brings to its link
abbrev pub octets_of : AbstractEvent → List ℕ
octets_of (piece i octets) = octets
octets_of (end i) = []
octets_of (reload p) = []

-- What the link holds and what the event brings are whole frames and this rest, which begins the frame of this number.
pub record Begins (g : AbstractGateway) (link : ℕ) (event : AbstractEvent) (number : ℕ) (rest : List ℕ) : Type 0 where
  pub one : AbstractLink
  pub there : slice_get g.links link ≡ Some one
  pub frames : List (List ℕ)
  pub split : ConsistsOf (one.held ++ octets_of event) frames rest
  pub numbered : number ≡ later (next_number one.totals) (length frames)

-- `derguard: link K, frame N, length L` or `derguard: link K, frame N, octets O`
abbrev pub begun_line : ℕ → ℕ → List ℕ → ℕ → List ℕ
begun_line link number word n =
    codes "derguard: link " ++ decimal link ++ codes ", frame " ++ decimal number ++ codes ", " ++ word ++ codes " "
    ++ decimal n ++ codes "\n"

-- What is noted of the event, by the answer of its link: of a frame that is too long its length, and of one that is torn
-- how many octets of it came.
abbrev pub IsFaultNote : Option Seen → AbstractGateway → ℕ → AbstractEvent → Result (Unit {0}) LinkFault → List ℕ → Type 0
IsFaultNote None g link event answer note = note ≡ []
IsFaultNote (Some s) g link event (Ok done) note = note ≡ []
IsFaultNote (Some s) g link event (Err FrameTooLong) note =
    (n : ℕ) × (rest : List ℕ) × Begins g link event n rest
    × (note ≡ begun_line link n (codes "length") (stated_length rest))
IsFaultNote (Some s) g link event (Err TornFrame) note =
    (n : ℕ) × (rest : List ℕ) × Begins g link event n rest × (note ≡ begun_line link n (codes "octets") (length rest))
IsFaultNote (Some s) g link event (Err WriteFailed) note = note ≡ []
IsFaultNote (Some s) g link event (Err Closed) note = note ≡ []
