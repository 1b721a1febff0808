-- What is seen of the frames of links, once a piece of one was taken.
use Rattle.std.specs.Prelude.{◌≡◌, List, [], ◌∷◌, Option, Some, None, Result, Err}
use Rattle.guard_policy.specs.Policies.{AbstractPolicy}
use Rattle.guard_frames.specs.declared.link.LinkFault.{LinkFault}
use Rattle.guard_frames.specs.declared.link.LinkFault.TheVariants.{WriteFailed}
use Rattle.guard_frames.specs.declared.totals.Totals.{Totals}
use Rattle.guard_frames.specs.Added.{Added}
use Rattle.guard_frames.specs.LinkView.{AbstractLink}
use Rattle.guard_frames.specs.Totals.{later, no_frames}
use Rattle.guard_streams.specs.declared.seen.Seen.{Seen}
use Rattle.guard_streams.specs.Counted.{AreCounted}

-- both together
abbrev pub both : Totals → Totals → Totals
both s t = record {
  frames = later s.frames t.frames;
  passed = later s.passed t.passed;
  denied = later s.denied t.denied;
}

-- these, and those that the links tell
abbrev pub with_links : Totals → List AbstractLink → Totals
with_links t [] = t
with_links t (l ∷ links) = with_links (both t l.totals) links

-- The links tell how many frames there were so far. The reasons of the lines that the piece added are counted, unless its
-- link answers that a sink failed, as one does where memory runs out: then none is.
pub record Sees (p : AbstractPolicy) (old : Seen) (answer : Result (Unit {0}) LinkFault) (added : Added)
    (links : List AbstractLink) (new : Seen) : Type 0 where
  pub totals : new.totals ≡ with_links no_frames links
  pub counts : (answer ≡ Err WriteFailed → ⊥) → AreCounted p old.counts added.reports new.counts
  pub same : answer ≡ Err WriteFailed → new.counts ≡ old.counts
  pub left : new.left ≡ old.left
  pub digest : new.digest ≡ old.digest

-- what is seen once a piece added this, by the links after it, where notes are asked for
abbrev pub IsSeen : AbstractPolicy → Option Seen → Result (Unit {0}) LinkFault → Added → List AbstractLink → Option Seen →
    Type 0
IsSeen p None answer added links new = new ≡ None
IsSeen p (Some old) answer added links new = (s : Seen) × Sees p old answer added links s × (new ≡ Some s)
