-- What follows the frames of a piece, and what is counted once it was taken.
use Rattle.std.specs.Prelude.{◌≡◌, ℕ, List, length, Option, Some, None, Result}
use Rattle.guard_policy.specs.Policies.{AbstractPolicy}
use Rattle.guard_frames.specs.declared.link.LinkFault.{LinkFault}
use Rattle.guard_frames.specs.declared.totals.Totals.{Totals}
use Rattle.guard_frames.specs.Added.{Added}
use Rattle.guard_frames.specs.LinkView.{AbstractLink}
use Rattle.guard_frames.specs.Reasons.{Told}
use Rattle.guard_frames.specs.Reasons.Told.{pauses, reads, goes, stays}
use Rattle.guard_frames.specs.Totals.{later, no_frames}
use Rattle.guard_streams.specs.declared.following.Following.{Following}
use Rattle.guard_streams.specs.Counted.{count_told, AreCounted}
use Rattle.guard_streams.specs.Counters.{AbstractCounted, counted_one}
use Rattle.guard_streams.specs.Counting.{CountsFrames}
use Rattle.guard_streams.specs.Faults.{faulted}
use Rattle.guard_streams.specs.LinksCounted.{maybe_counted, IsMore}
use Rattle.guard_streams.specs.Tallying.{with_links}

-- of a frame; octets that come and pauses are counted elsewhere
abbrev pub followed_one : Option AbstractCounted → Told → Option AbstractCounted
followed_one None told = None
followed_one (Some c) (pauses t) = Some c
followed_one (Some c) (reads n) = Some c
followed_one (Some c) (goes count n rule) = Some (counted_one c (goes count n rule))
followed_one (Some c) (stays why) = Some (counted_one c (stays why))

pub record Follows (old : Following) (told : Told) (new : Following) : Type 0 where
  pub counts : new.counts ≡ count_told old.counts told
  pub counted : maybe_counted new.counted ≡ followed_one (maybe_counted old.counted) told

-- what is counted of the frames that added this
pub record Follow (p : AbstractPolicy) (old : AbstractCounted) (added : Added) (new : AbstractCounted) : Type 0 where
  pub frames : CountsFrames p old.tally.counts old.force added new.tally.counts new.force
  pub went : IsMore old.tally.went (length added.out) new.tally.went
  pub came : new.tally.came ≡ old.tally.came
  pub reloads : new.tally.reloads ≡ old.tally.reloads
  pub faults : new.tally.faults ≡ old.tally.faults

abbrev pub AreFollowed : AbstractPolicy → Option AbstractCounted → Added → Option AbstractCounted → Type 0
AreFollowed p None added new = new ≡ None
AreFollowed p (Some old) added new = (c : AbstractCounted) × Follow p old added c × (new ≡ Some c)

-- the reasons of the frames are counted for notes, and what is counted of them beside that
pub record AreNoted (p : AbstractPolicy) (old : Following) (added : Added) (new : Following) : Type 0 where
  pub counts : AreCounted p old.counts added.reports new.counts
  pub counted : AreFollowed p (maybe_counted old.counted) added (maybe_counted new.counted)

-- and of the piece, of so many octets, as a whole
abbrev pub with_piece : AbstractCounted → Totals → ℕ → Result (Unit {0}) LinkFault → AbstractCounted
with_piece c totals octets answer = record c {
  tally = record c.tally {
    totals = totals;
    came = later c.tally.came octets;
    faults = faulted c.tally.faults answer;
  };
}

abbrev pub piece_counted : Option AbstractCounted → Result (Unit {0}) LinkFault → ℕ → List AbstractLink →
    Option AbstractCounted
piece_counted None answer octets links = None
piece_counted (Some c) answer octets links = Some (with_piece c (with_links no_frames links) octets answer)
