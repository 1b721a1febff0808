-- What a link gives from here on: it holds octets, and its next frame has a number.
use Rattle.std.proofs.Common.{◌≡◌, ◌⊎◌, ℕ, ◌+◌, Bool, true, false, List, [], ◌++◌, refl, subst, length, arith}
use Rattle.std.specs.List.{concat, All}
use Rattle.guard_policy.specs.Policies.{AbstractPolicy}
use Rattle.guard_frames.specs.Frames.{IsFrame, IsUnfinished, IsTooLong, ConsistsOf}
use Rattle.guard_frames.specs.Totals.{later}
use Rattle.guard_frames.specs.Guarding.{text_out, InPart}
use Rattle.guard_frames.specs.OfPolicy.{decision_of}
use Rattle.guard_frames.proofs.Elements.{All_none}
use Rattle.guard_frames.specs.Added.{Added, nothing}
use Rattle.guard_frames.specs.OwnPieces.{OwnPiece, own_stream}
use Rattle.guard_frames.specs.InForce.{Ruled, outcomes_of, frames_ruled, AllAddUnder, EndsUnder, AreInForce}
use Rattle.guard_frames.specs.OwnStream.{Gives}

pub record AllFrom (n place : ℕ) (held : List ℕ) (pieces : List OwnPiece) (w : Added) : Type 0 where
  pub ruled : List Ruled
  pub rest : List ℕ
  pub split : ConsistsOf (held ++ own_stream pieces) (frames_ruled ruled) rest
  pub in_force : AreInForce (place + length held) pieces place ruled
  pub out : w.out ≡ text_out (outcomes_of ruled)
  pub reports : AllAddUnder n ruled w.reports

pub record PartFrom (n place : ℕ) (held : List ℕ) (pieces : List OwnPiece) (w : Added) : Type 0 where
  pub first : List Ruled
  pub next : List ℕ
  pub policy : AbstractPolicy
  pub more : List ℕ
  pub begins : held ++ own_stream pieces ≡ concat (frames_ruled first) ++ (next ++ more)
  pub each : All IsFrame (frames_ruled first)
  pub frame : IsFrame next
  pub in_force : AreInForce (place + length held) pieces place first
  pub last_in_force : EndsUnder (place + length held) pieces (place + (length (concat (frames_ruled first)) + length next)) policy
  pub lines : List ℕ
  pub all : AllAddUnder n first lines
  pub part : Added
  pub last : InPart (decision_of policy) (later n (length first)) next part
  pub out : w.out ≡ text_out (outcomes_of first) ++ part.out
  pub reports : w.reports ≡ lines ++ part.reports

abbrev pub From : ℕ → ℕ → List ℕ → List OwnPiece → Added → Bool → Type 0
From n place held pieces w false = AllFrom n place held pieces w
From n place held pieces w true = PartFrom n place held pieces w

-- a link that adds nothing
pub none_from : (n place : ℕ) (held : List ℕ) (pieces : List OwnPiece) → (IsUnfinished (held ++ own_stream pieces) ⊎ IsTooLong (held ++ own_stream pieces)) →
    AllFrom n place held pieces nothing
none_from n place held pieces left = record {
  ruled = [];
  rest = held ++ own_stream pieces;
  split = record { whole = refl; each = All_none IsFrame; left = left };
  in_force = tt;
  out = refl;
  reports = refl;
}

from_none : (k : ℕ) → 0 + k ≡ k
from_none k = omega arith

-- a new link
pub from_new : (pieces : List OwnPiece) (w : Added) (b : Bool) → From 1 0 [] pieces w b → Gives pieces w b
from_new pieces w false h = record { ruled = h.ruled; rest = h.rest; split = h.split; in_force = h.in_force; out = h.out; reports = h.reports }
from_new pieces w true h = record {
  first = h.first;
  next = h.next;
  policy = h.policy;
  more = h.more;
  begins = h.begins;
  each = h.each;
  frame = h.frame;
  in_force = h.in_force;
  last_in_force = subst (λ (j : ℕ). EndsUnder 0 pieces j h.policy) (from_none (length (concat (frames_ruled h.first)) + length h.next)) h.last_in_force;
  lines = h.lines;
  all = h.all;
  part = h.part;
  last = h.last;
  out = h.out;
  reports = h.reports;
}
