-- What is counted of the frames of links, once a piece of one, its end or a new policy was taken.
use Rattle.std.specs.Prelude.{◌≡◌, ℕ, List, length, Option, Some, None, Result}
use Rattle.guard_policy.specs.Policies.{AbstractPolicy}
use Rattle.guard_frames.specs.declared.link.LinkFault.{LinkFault}
use Rattle.guard_frames.specs.Added.{Added}
use Rattle.guard_frames.specs.LinkView.{AbstractLink}
use Rattle.guard_frames.specs.Totals.{later, no_frames}
use Rattle.guard_streams.specs.declared.counted.Counted.{Counted}
use Rattle.guard_streams.specs.Counters.{AbstractCounted, AbstractForce, counted_view, force_of}
use Rattle.guard_streams.specs.Counting.{CountsFrames}
use Rattle.guard_streams.specs.Faults.{faulted}
use Rattle.guard_streams.specs.Tallying.{with_links}

-- where something is counted
abbrev pub maybe_counted : Option Counted → Option AbstractCounted
maybe_counted None = None
maybe_counted (Some c) = Some (counted_view c)

-- the number is so many more, or the greatest of 64 bits
abbrev pub IsMore : ℕ → ℕ → ℕ → Type 0
IsMore old n new = later new 0 ≡ later old n

-- The links tell how many frames there were so far. The octets of the piece came, and those that it added went out; its
-- frames are counted, and so is the fault of its link.
pub record CountsPiece (p : AbstractPolicy) (old : AbstractCounted) (answer : Result (Unit {0}) LinkFault) (octets : List ℕ)
    (added : Added) (links : List AbstractLink) (new : AbstractCounted) : Type 0 where
  pub totals : new.tally.totals ≡ with_links no_frames links
  pub frames : CountsFrames p old.tally.counts old.force added new.tally.counts new.force
  pub came : IsMore old.tally.came (length octets) new.tally.came
  pub went : IsMore old.tally.went (length added.out) new.tally.went
  pub reloads : new.tally.reloads ≡ old.tally.reloads
  pub faults : new.tally.faults ≡ faulted old.tally.faults answer

abbrev pub IsCounted : AbstractPolicy → Option AbstractCounted → Result (Unit {0}) LinkFault → List ℕ → Added →
    List AbstractLink → Option AbstractCounted → Type 0
IsCounted p None answer octets added links new = new ≡ None
IsCounted p (Some old) answer octets added links new =
    (c : AbstractCounted) × CountsPiece p old answer octets added links c × (new ≡ Some c)

-- at the end of a link its fault is counted
abbrev pub ended_counted : Option AbstractCounted → Result (Unit {0}) LinkFault → Option AbstractCounted
ended_counted None answer = None
ended_counted (Some c) answer =
    Some (record c { tally = record c.tally { faults = faulted c.tally.faults answer } })

abbrev pub with_force : AbstractCounted → AbstractForce → AbstractCounted
with_force c f = record { force = f; tally = record c.tally { reloads = later c.tally.reloads 1 } }

-- a new policy, whose texts have this number, is counted, and its rules have decided nothing yet
abbrev pub renewed_counted : Option AbstractCounted → AbstractPolicy → List ℕ → Option AbstractCounted
renewed_counted None p digest = None
renewed_counted (Some c) p digest = Some (with_force c (force_of p digest))
