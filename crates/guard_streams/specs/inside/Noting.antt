-- What the code notes of a link's answer.
use Rattle.std.specs.Prelude.{ℕ, List, [], ◌++◌, codes, slice_get, Option, Some, None, Result, Ok, Err}
use Rattle.guard_frames.specs.declared.link.LinkFault.{LinkFault}
use Rattle.guard_frames.specs.declared.link.LinkFault.TheVariants.{FrameTooLong, WriteFailed, Closed, TornFrame}
use Rattle.guard_frames.specs.Gateways.{AbstractGateway}
use Rattle.guard_frames.specs.LinkView.{AbstractLink}
use Rattle.guard_frames.specs.Totals.{next_number}
use Rattle.guard_streams.specs.declared.seen.Seen.{Seen}
use Rattle.guard_streams.specs.AtFault.{begun_line}
use Rattle.guard_streams.specs.Passing.{fault_line}

-- the link, where notes are asked for
abbrev pub noted_link : Option Seen → AbstractGateway → ℕ → Option AbstractLink
noted_link None g link = None
noted_link (Some s) g link = slice_get g.links link

-- the note, by the link as it has answered
abbrev pub fault_note : Option AbstractLink → ℕ → Result (Unit {0}) LinkFault → List ℕ
fault_note None link answer = []
fault_note (Some l) link (Ok done) = []
fault_note (Some l) link (Err FrameTooLong) = begun_line link (next_number l.totals) (codes "length") l.left
fault_note (Some l) link (Err TornFrame) = begun_line link (next_number l.totals) (codes "octets") l.left
fault_note (Some l) link (Err WriteFailed) = []
fault_note (Some l) link (Err Closed) = []

-- the line of its fault, and the note
abbrev pub answer_lines : Option AbstractLink → ℕ → Result (Unit {0}) LinkFault → List ℕ
answer_lines l link answer = fault_line link answer ++ fault_note l link answer
