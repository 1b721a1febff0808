-- What is seen of a piece.
use Rattle.std.proofs.Common.{◌≡◌, ℕ, List, ap, refl}
use Rattle.std.specs.Prelude.{Option, Some, None, Result, Ok, Err}
use Rattle.guard_policy.specs.Policies.{AbstractPolicy}
use Rattle.guard_frames.specs.declared.link.LinkFault.{LinkFault}
use Rattle.guard_frames.specs.declared.link.LinkFault.TheVariants.{FrameTooLong, WriteFailed, Closed, TornFrame}
use Rattle.guard_frames.specs.Added.{Added}
use Rattle.guard_frames.specs.LinkView.{AbstractLink}
use Rattle.guard_streams.specs.declared.counts.Counts.{Counts}
use Rattle.guard_streams.specs.declared.seen.Seen.{Seen}
use Rattle.guard_streams.specs.Counted.{AreCounted}
use Rattle.guard_streams.specs.Tallying.{IsSeen}
use Rattle.guard_streams.specs.inside.Seeing.{counts_in, known_counts, seen_after}

counts_by : (p : AbstractPolicy) (answer : Result (Unit {0}) LinkFault) (old new : Counts) (reports : List ℕ)
    → (answer ≡ Err WriteFailed → ⊥) → AreCounted p old reports new → AreCounted p old reports (known_counts answer old new)
counts_by p (Ok done) old new reports well h = h
counts_by p (Err FrameTooLong) old new reports well h = h
counts_by p (Err WriteFailed) old new reports well h = absurd (well refl)
counts_by p (Err Closed) old new reports well h = h
counts_by p (Err TornFrame) old new reports well h = h

pub seen_is : (p : AbstractPolicy) (seen : Option Seen) (answer : Result (Unit {0}) LinkFault) (added : Added)
    (links : List AbstractLink) (counts : Counts)
    → ((answer ≡ Err WriteFailed → ⊥) → AreCounted p (counts_in seen) added.reports counts)
    → IsSeen p seen answer added links (seen_after seen answer links counts)
seen_is p None answer added links counts h = refl
seen_is p (Some s) answer added links counts h = (
  _,
  record {
    totals = refl;
    counts = λ well. counts_by p answer s.counts counts added.reports well (h well);
    same = λ is. ap (λ (a : Result (Unit {0}) LinkFault). known_counts a s.counts counts) is;
    left = refl;
    digest = refl;
  },
  refl,
)
