-- The frames of a stream that go are no longer than the stream.
use Rattle.std.proofs.Common.{◌≡◌, ◌∙◌, ◌≤◌, ◌+◌, ◌++◌, ℕ, Bool, true, false, List, [], ◌∷◌, ap, subst, inl, inr, length, length-append, Ok, Err, Result, arith}
use Rattle.std.specs.List.{concat, filter}
use Rattle.guard_frames.specs.LinkView.{AbstractLink}
use Rattle.guard_frames.specs.LinkSteps.{Fed}
use Rattle.guard_frames.specs.Added.{Added}
use Rattle.guard_frames.specs.Outcomes.{Decision, Outcome, frames_of}
use Rattle.guard_frames.specs.Guarding.{text_out, BreaksOff, InPart}
use Rattle.guard_frames.specs.Feeding.{Decides, Takes}
use Rattle.guard_frames.specs.Totals.{later}
use Rattle.guard_frames.specs.declared.totals.Totals.{Totals}
use Rattle.guard_frames.specs.declared.link.LinkFault.{LinkFault}
use Rattle.guard_frames.specs.declared.link.LinkFault.TheVariants.{FrameTooLong, WriteFailed, Closed, TornFrame}

going_by : (b : Bool) (frame : List ℕ) (os : List Outcome) → length (text_out os) ≤ length (concat (frames_of os))
    → length (text_out (record { frame = frame; goes = b } ∷ os)) ≤ length (concat (frames_of (record { frame = frame; goes = b } ∷ os)))
going_by true frame os shorter = omega (arith, shorter, length-append frame (text_out os), length-append frame (concat (frames_of os)))
going_by false frame os shorter = omega (arith, shorter, length-append frame (concat (frames_of os)))

going_within : (os : List Outcome) → length (text_out os) ≤ length (concat (frames_of os))
going_within [] = omega arith
going_within (o ∷ os) = going_by o.goes o.frame os (going_within os)

decided_within : (d : Decision) (n : Totals) (stream rest : List ℕ) (m : Totals) (added : Added) → Decides d n stream rest m added → length added.out ≤ length stream
decided_within d n stream rest m added h =
    omega (arith, going_within h.outcomes, ap length h.out, ap length h.split.whole, length-append (concat (frames_of h.outcomes)) rest)

part_within : (d : Decision) (n : ℕ) (next : List ℕ) (part : Added) → InPart d n next part → length part.out ≤ length next
part_within d n next part (inl (goes, prefix, none)) = omega (arith, ap length prefix.joined, length-append part.out prefix.more)
part_within d n next part (inr (line, adds, prefix, none)) = omega (arith, ap length none)

broken_within : (decisions : ℕ → Decision) (n : ℕ) (stream : List ℕ) (added : Added) → BreaksOff decisions n stream added → length added.out ≤ length stream
broken_within decisions n stream added h =
    omega (
      arith,
      going_within h.first,
      part_within (decisions (length h.first)) (later n (length h.first)) h.next h.part h.last,
      ap length h.out,
      length-append (text_out h.first) h.part.out,
      ap length h.begins,
      length-append (concat (frames_of h.first)) (h.next ++ h.more),
      length-append h.next h.more,
    )

taken_within : (d : Decision) (n : Totals) (stream : List ℕ) (new : AbstractLink) (answer : Result (Unit {0}) LinkFault) (added : Added)
    → Takes d n stream new answer added → length added.out ≤ length stream
taken_within d n stream new (Ok done) added h = decided_within d n stream new.held new.totals added h.0
taken_within d n stream new (Err FrameTooLong) added h = decided_within d n stream h.0.rest new.totals added h.0.decided
taken_within d n stream new (Err WriteFailed) added h = broken_within (λ _. d) _ stream added h.0
taken_within d n stream new (Err Closed) added h = absurd h
taken_within d n stream new (Err TornFrame) added h = absurd h

pub out_within : (d : Decision) (l : AbstractLink) (piece : List ℕ) (answer : Result (Unit {0}) LinkFault) (new : AbstractLink) (added : Added)
    → Fed d l piece answer new added → length added.out ≤ length l.held + length piece
out_within d l piece answer new added (inl (refuses, none)) = omega (arith, ap (λ (a : Added). length a.out) none)
out_within d l piece answer new added (inr (is_open, takes)) =
    omega (arith, taken_within d l.totals (l.held ++ piece) new answer added takes, length-append l.held piece)
