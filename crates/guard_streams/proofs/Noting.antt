-- At which frame of its stream a link's fault is, by the link as it has answered.
use Rattle.std.proofs.Common.{◌≡◌, ◌∙◌, inl, inr, ℕ, List, [], ap, refl, sym, subst, slice_get, arith}
use Rattle.std.specs.Prelude.{Option, Some, None, Result, Ok, Err, codes}
use Rattle.std.proofs.lemmas.List.{append-nil, length-map}
use Rattle.guard_frames.specs.declared.gateway.Gateway.{Gateway}
use Rattle.guard_frames.specs.declared.kept.Kept.{Kept}
use Rattle.guard_frames.specs.declared.link.LinkFault.{LinkFault}
use Rattle.guard_frames.specs.declared.link.LinkFault.TheVariants.{FrameTooLong, WriteFailed, Closed, TornFrame}
use Rattle.guard_frames.specs.Added.{Added}
use Rattle.guard_frames.specs.Frames.{IsFrame, IsUnfinished}
use Rattle.guard_frames.specs.Gateways.{AbstractGateway, AbstractEvent, AbstractEvent as event, step_answer}
use Rattle.guard_frames.specs.GatewaySteps.{Step}
use Rattle.guard_frames.specs.GatewayView.{gateway_view}
use Rattle.guard_frames.specs.LinkSteps.{Fed, Ended}
use Rattle.guard_frames.specs.LinkView.{AbstractLink}
use Rattle.guard_frames.specs.OfPolicy.{decision_of}
use Rattle.guard_frames.specs.Outcomes.{Outcome, frames_of}
use Rattle.guard_frames.specs.Totals.{later, next_number}
use Rattle.guard_frames.proofs.Counting.{numbers_on}
use Rattle.guard_frames.proofs.Elements.{All_none}
use Rattle.guard_frames.proofs.Own.Gateways.{held_unfinished}
use Rattle.guard_streams.specs.declared.seen.Seen.{Seen}
use Rattle.guard_streams.specs.AtFault.{IsFaultNote, begun_line}
use Rattle.guard_streams.specs.declared.counts.Counts.{Counts}
use Rattle.guard_streams.specs.inside.Seeing.{seen_after}
use Rattle.guard_streams.specs.inside.Noting.{noted_link, fault_note}
use Rattle.guard_streams.proofs.Doings.{set_here, not_answered, same_answer, held_some}

-- ---- one link

after_piece : (s : Seen) (g : AbstractGateway) (link : ℕ) (octets : List ℕ) (l l₁ : AbstractLink)
    (answer : Result (Unit {0}) LinkFault) (added : Added) → slice_get g.links link ≡ Some l
    → Fed (decision_of g.policy) l octets answer l₁ added
    → IsFaultNote (Some s) g link (event.piece link octets) answer (fault_note (Some l₁) link answer)
after_piece s g link octets l l₁ (Ok done) added there h = refl
after_piece s g link octets l l₁ (Err FrameTooLong) added there (inl h) = absurd (cc h.0.answered)
after_piece s g link octets l l₁ (Err FrameTooLong) added there (inr h) =
    let x = h.1.0.decided in
    let os : List Outcome = x.outcomes in
    let many = length-map os (λ (o : Outcome). o.frame) in (
      next_number l₁.totals,
      h.1.0.rest,
      record {
        one = l;
        there = there;
        frames = frames_of os;
        split = x.split;
        numbered = ap next_number x.totals ∙ numbers_on l.totals os
            ∙ ap (λ (k : ℕ). later (next_number l.totals) k) (sym many);
      },
      ap (λ (k : ℕ). begun_line link (next_number l₁.totals) (codes "length") k) h.1.2,
    )
after_piece s g link octets l l₁ (Err WriteFailed) added there h = refl
after_piece s g link octets l l₁ (Err Closed) added there h = refl
after_piece s g link octets l l₁ (Err TornFrame) added there (inl h) = absurd (cc h.0.answered)
after_piece s g link octets l l₁ (Err TornFrame) added there (inr h) = absurd h.1

after_end : (s : Seen) (g : AbstractGateway) (link : ℕ) (l l₁ : AbstractLink) (answer : Result (Unit {0}) LinkFault)
    → slice_get g.links link ≡ Some l → IsUnfinished l.held → Ended l answer l₁
    → IsFaultNote (Some s) g link (event.end link) answer (fault_note (Some l₁) link answer)
after_end s g link l l₁ (Ok done) there unfinished h = refl
after_end s g link l l₁ (Err FrameTooLong) there unfinished (inl h) = absurd (cc h.answered)
after_end s g link l l₁ (Err FrameTooLong) there unfinished (inr h) = elim (held_some l.held) [
  | inl none ↦ absurd (cc (h.whole none))
  | inr some ↦ absurd (cc (h.torn some))
]
after_end s g link l l₁ (Err WriteFailed) there unfinished h = refl
after_end s g link l l₁ (Err Closed) there unfinished h = refl
after_end s g link l l₁ (Err TornFrame) there unfinished (inl h) = absurd (cc h.answered)
after_end s g link l l₁ (Err TornFrame) there unfinished (inr h) =
    let number : next_number l.totals ≡ later (next_number l.totals) 0 = omega arith in (
      next_number l₁.totals,
      l.held,
      record {
        one = l;
        there = there;
        frames = [];
        split = record { whole = append-nil l.held; each = All_none IsFrame; left = inl unfinished };
        numbered = ap next_number h.totals ∙ number;
      },
      ap (λ (k : ℕ). begun_line link (next_number l₁.totals) (codes "octets") k) h.left,
    )

-- ---- the links of a gateway

-- what is noted by a link is noted by the one that has this number after the event
note_there : (s : Seen) (g new : AbstractGateway) (link : ℕ) (e : AbstractEvent) (l : AbstractLink)
    (answer told : Result (Unit {0}) LinkFault) → slice_get new.links link ≡ Some l → answer ≡ told
    → IsFaultNote (Some s) g link e told (fault_note (Some l) link told)
    → IsFaultNote (Some s) g link e answer (fault_note (slice_get new.links link) link answer)
note_there s g new link e l answer told there same h =
    subst (λ (x : Option AbstractLink). IsFaultNote (Some s) g link e answer (fault_note x link answer)) (sym there)
    (subst (λ (a : Result (Unit {0}) LinkFault). IsFaultNote (Some s) g link e a (fault_note (Some l) link a)) (sym same) h)

pub piece_note : (seen : Option Seen) (g new : AbstractGateway) (link : ℕ) (octets : List ℕ)
    (answer : Result (Unit {0}) LinkFault) (added : Added)
    → Step g (event.piece link octets) (step_answer answer) added new
    → IsFaultNote seen g link (event.piece link octets) answer (fault_note (noted_link seen new link) link answer)
piece_note None g new link octets answer added step = refl
piece_note (Some s) g new link octets answer added (inl h) = absurd (not_answered answer h.answered)
piece_note (Some s) g new link octets answer added (inr h) =
    note_there s g new link (event.piece link octets) h.new_link answer h.link_answer
    (ap (λ (x : AbstractGateway). slice_get x.links link) h.others ∙ set_here g.links link h.old_link h.new_link h.there)
    (same_answer answer h.link_answer h.answered)
    (after_piece s g link octets h.old_link h.new_link h.link_answer added h.there h.does)

pub end_note : (seen : Option Seen) (old : Gateway Kept) (new : AbstractGateway) (link : ℕ)
    (answer : Result (Unit {0}) LinkFault) (added : Added)
    → Step (gateway_view old) (event.end link) (step_answer answer) added new
    → IsFaultNote seen (gateway_view old) link (event.end link) answer (fault_note (noted_link seen new link) link answer)
end_note None old new link answer added step = refl
end_note (Some s) old new link answer added (inl h) = absurd (not_answered answer h.answered)
end_note (Some s) old new link answer added (inr h) =
    let at = h.0 in
    note_there s (gateway_view old) new link (event.end link) at.new_link answer at.link_answer
    (ap (λ (x : AbstractGateway). slice_get x.links link) at.others
    ∙ set_here (gateway_view old).links link at.old_link at.new_link at.there)
    (same_answer answer at.link_answer at.answered)
    (after_end s (gateway_view old) link at.old_link at.new_link at.link_answer at.there
    (held_unfinished old.seats.items link at.old_link at.there) at.does)

-- the same once it is seen what came of the piece
same_link : (seen : Option Seen) (told : Result (Unit {0}) LinkFault) (links : List AbstractLink) (counts : Counts) (new : AbstractGateway) (link : ℕ)
    → noted_link seen new link ≡ noted_link (seen_after seen told links counts) new link
same_link None told links counts new link = refl
same_link (Some s) told links counts new link = refl

pub passed_note : (seen : Option Seen) (counts : Counts) (g new passed : AbstractGateway) (link : ℕ) (octets : List ℕ)
    (answer : Result (Unit {0}) LinkFault) (added : Added)
    → Step g (event.piece link octets) (step_answer answer) added new → passed ≡ new
    → IsFaultNote seen g link (event.piece link octets) answer
    (fault_note (noted_link (seen_after seen answer passed.links counts) passed link) link answer)
passed_note seen counts g new passed link octets answer added step same =
    let is : noted_link seen new link ≡ noted_link (seen_after seen answer passed.links counts) passed link =
    ap (λ (x : AbstractGateway). noted_link seen x link) (sym same) ∙ same_link seen answer passed.links counts passed link in
    subst (λ (x : Option AbstractLink). IsFaultNote seen g link (event.piece link octets) answer (fault_note x link answer)) is
    (piece_note seen g new link octets answer added step)
