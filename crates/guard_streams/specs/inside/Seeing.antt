-- What the code sees of a piece.
use Rattle.std.specs.Prelude.{Option, Some, None, List, Result, Ok, Err}
use Rattle.guard_frames.specs.declared.link.LinkFault.{LinkFault}
use Rattle.guard_frames.specs.declared.link.LinkFault.TheVariants.{FrameTooLong, WriteFailed, Closed, TornFrame}
use Rattle.guard_frames.specs.LinkView.{AbstractLink}
use Rattle.guard_frames.specs.Totals.{no_frames}
use Rattle.guard_streams.specs.declared.counts.Counts.{Counts}
use Rattle.guard_streams.specs.declared.seen.Seen.{Seen}
use Rattle.guard_streams.specs.Counted.{no_counts}
use Rattle.guard_streams.specs.Tallying.{with_links}

-- the counts so far
abbrev pub counts_in : Option Seen → Counts
counts_in None = no_counts
counts_in (Some s) = s.counts

-- the new counts, unless the piece is answered so that they aren't known
abbrev pub known_counts : Result (Unit {0}) LinkFault → Counts → Counts → Counts
known_counts (Ok done) old new = new
known_counts (Err FrameTooLong) old new = new
known_counts (Err WriteFailed) old new = old
known_counts (Err Closed) old new = new
known_counts (Err TornFrame) old new = new

abbrev pub seen_after : Option Seen → Result (Unit {0}) LinkFault → List AbstractLink → Counts → Option Seen
seen_after None answer links counts = None
seen_after (Some s) answer links counts = Some (record {
  digest = s.digest;
  totals = with_links no_frames links;
  counts = known_counts answer s.counts counts;
  left = s.left;
})
