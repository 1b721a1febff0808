-- What is done to the seats of a gateway, as a step of it.
use Rattle.std.proofs.Common.{◌≡◌, ◌<◌, length, zero, suc, ℕ, List, [], ◌∷◌, ◌∙◌, ap, sym, refl, subst, inl, inr, map, Option, option_map, Some, None, Result, slice_get, slice_set, Bool, Ok, Err}
use Rattle.std.proofs.lemmas.Option.{same_Some, none-some, slice_get-map, slice_get_past}
use Rattle.std.specs.Vec.{with_item}
use Rattle.guard_frames.proofs.Progress.{le_or_gt}
use Rattle.guard_frames.specs.Frames.{IsUnfinished}
use Rattle.guard_frames.specs.Lending.{HasEnds}
use Rattle.guard_policy.specs.Policies.{AbstractPolicy}
use Rattle.guard_policy.specs.PolicyView.{policy_view}
use Rattle.guard_frames.specs.LinkView.{AbstractLink, link_view}
use Rattle.guard_frames.specs.OfPolicy.{decision_of}
use Rattle.guard_frames.specs.declared.link.LinkFault.{LinkFault}
use Rattle.guard_frames.specs.declared.link.LinkFault.TheVariants.{FrameTooLong, WriteFailed, Closed, TornFrame}
use Rattle.guard_frames.specs.declared.gateway.StepFault.{StepFault}
use Rattle.guard_frames.specs.declared.gateway.StepFault.TheVariants.{Link}
use Rattle.guard_frames.specs.declared.seats.Seat.{Seat}
use Rattle.guard_frames.specs.declared.seats.Ends.{Ends}
use Rattle.guard_frames.specs.Added.{Added, nothing}
use Rattle.guard_frames.specs.Gateways.{AbstractGateway, AbstractEvent, step_answer}
use Rattle.guard_frames.specs.Gateways.AbstractEvent.{piece, end}
use Rattle.guard_frames.specs.GatewaySteps.{Step}
use Rattle.guard_frames.specs.inside.Seats.{IsFedAt, IsEndedAt}
use Rattle.guard_frames.specs.declared.gateway.Gateway.{Gateway}
use Rattle.guard_frames.specs.declared.gateway.Event.{Event}
use Rattle.guard_frames.specs.GatewayView.{links_of, ends_of, event_view, Took, IsStepOf}

map_set : {A B : Type 0} (f : A → B) (xs : List A) (i : ℕ) (x : A) → map f (slice_set xs i x) ≡ slice_set (map f xs) i (f x)
map_set f [] i x = refl
map_set f (y ∷ ys) zero x = refl
map_set f (y ∷ ys) (suc i) x = ap (λ zs. f y ∷ zs) (map_set f ys i x)

set_same : {A : Type 0} (xs : List A) (i : ℕ) (x : A) → slice_get xs i ≡ Some x → slice_set xs i x ≡ xs
set_same [] i x h = absurd (none-some x h)
set_same (y ∷ ys) zero x h = ap (λ z. z ∷ ys) (sym (same_Some y x h))
set_same (y ∷ ys) (suc i) x h = ap (λ zs. y ∷ zs) (set_same ys i x h)

mapped_some : {A B : Type 0} (f : A → B) (xs : List A) (i : ℕ) (x : A) → slice_get xs i ≡ Some x → slice_get (map f xs) i ≡ Some (f x)
mapped_some f xs i x h = slice_get-map f xs i ∙ ap (option_map f) h

mapped_none : {A B : Type 0} (f : A → B) (xs : List A) (i : ℕ) → slice_get xs i ≡ None → slice_get (map f xs) i ≡ None
mapped_none f xs i h = slice_get-map f xs i ∙ ap (option_map f) h

abbrev pub gateway_of : {S : Type 0} → AbstractPolicy → List (Seat S) → AbstractGateway
gateway_of p seats = record { policy = p; links = links_of seats }

abbrev pub StepsSeats : {S : Type 0} → (S → Option (List ℕ)) → (S → Bool) → AbstractPolicy → List (Seat S) → AbstractEvent → Result (Unit {0}) StepFault → AbstractPolicy → List (Seat S) → Type 0
StepsSeats taken has_failed p old e answer q new =
    (w : Added) × Step (gateway_of p old) e answer w (gateway_of q new) × Took taken has_failed (ends_of old) e answer w (ends_of new)

told_failed : (told : Result (Unit {0}) LinkFault) → step_answer told ≡ Err (Link WriteFailed) → told ≡ Err WriteFailed
told_failed (Ok done) e = absurd cc
told_failed (Err FrameTooLong) e = absurd cc
told_failed (Err WriteFailed) e = refl
told_failed (Err Closed) e = absurd cc
told_failed (Err TornFrame) e = absurd cc

told_closed : (told : Result (Unit {0}) LinkFault) → step_answer told ≡ Err (Link Closed) → told ≡ Err Closed
told_closed (Ok done) e = absurd cc
told_closed (Err FrameTooLong) e = absurd cc
told_closed (Err WriteFailed) e = absurd cc
told_closed (Err Closed) e = refl
told_closed (Err TornFrame) e = absurd cc

pub piece_steps : {S : Type 0} (taken : S → Option (List ℕ)) (has_failed : S → Bool) (So : Added → Type 0) (p : AbstractPolicy) (old new : List (Seat S)) (i : ℕ) (octets : List ℕ) (answer : Result (Unit {0}) StepFault) →
    IsFedAt (decision_of p) taken has_failed So old i octets answer new →
    (x : StepsSeats taken has_failed p old (piece i octets) answer p new) × ((answer ≡ Err (Link WriteFailed) → ⊥) → So x.0)
piece_steps {S} taken has_failed So p old new i octets answer (inl (h, so)) = (
  (
    nothing,
    inl (record {
      none = mapped_none (λ (x : Seat S). link_view x.link) old i h.none;
      answered = h.answered;
      same = ap (λ (x : List (Seat S)). gateway_of p x) h.same;
      adds = refl;
    }),
    inr (mapped_none (λ (x : Seat S). x.ends) old i h.none, ap (λ (x : List (Seat S)). ends_of x) h.same),
  ),
  λ well. so,
)
piece_steps {S} taken has_failed So p old new i octets answer (inr h) = (
  (
    h.does.added,
    inr (record {
      old_link = link_view h.old_seat.link;
      new_link = link_view h.new_seat.link;
      link_answer = h.link_answer;
      there = mapped_some (λ (x : Seat S). link_view x.link) old i h.old_seat h.there;
      does = h.does.does;
      answered = h.answered;
      others = ap (λ (x : List (Seat S)). gateway_of p x) h.others
          ∙ ap (λ (x : List AbstractLink). record { policy = p; links = x }) (map_set (λ (x : Seat S). link_view x.link) old i h.new_seat);
    }),
    inl (record {
      old_ends = h.old_seat.ends;
      new_ends = h.new_seat.ends;
      there = mapped_some (λ (x : Seat S). x.ends) old i h.old_seat h.there;
      took = h.does.took;
      failed = λ e. h.does.failed (told_failed h.link_answer (sym h.answered ∙ e));
      shut = λ e. h.does.shut (told_closed h.link_answer (sym h.answered ∙ e));
      others = ap (λ (x : List (Seat S)). ends_of x) h.others ∙ map_set (λ (x : Seat S). x.ends) old i h.new_seat;
    }),
  ),
  λ well. h.does.noted (λ e. well (h.answered ∙ ap step_answer e)),
)

pub end_steps : {S : Type 0} (taken : S → Option (List ℕ)) (has_failed : S → Bool) (p : AbstractPolicy) (old new : List (Seat S)) (i : ℕ) (answer : Result (Unit {0}) StepFault) →
    IsEndedAt old i answer new → StepsSeats taken has_failed p old (end i) answer p new
end_steps {S} taken has_failed p old new i answer (inl h) = (
  nothing,
  inl (record {
    none = mapped_none (λ (x : Seat S). link_view x.link) old i h.none;
    answered = h.answered;
    same = ap (λ (x : List (Seat S)). gateway_of p x) h.same;
    adds = refl;
  }),
  ap (λ (x : List (Seat S)). ends_of x) h.same,
)
end_steps {S} taken has_failed p old new i answer (inr h) =
    let there : slice_get (ends_of old) i ≡ Some h.new_seat.ends =
    mapped_some (λ (x : Seat S). x.ends) old i h.old_seat h.there ∙ ap Some (sym h.does.ends) in (
      nothing,
      inr (
        record {
          old_link = link_view h.old_seat.link;
          new_link = link_view h.new_seat.link;
          link_answer = h.link_answer;
          there = mapped_some (λ (x : Seat S). link_view x.link) old i h.old_seat h.there;
          does = h.does.does;
          answered = h.answered;
          others = ap (λ (x : List (Seat S)). gateway_of p x) h.others
              ∙ ap (λ (x : List AbstractLink). record { policy = p; links = x }) (map_set (λ (x : Seat S). link_view x.link) old i h.new_seat);
        },
        refl,
      ),
      ap (λ (x : List (Seat S)). ends_of x) h.others ∙ map_set (λ (x : Seat S). x.ends) old i h.new_seat ∙ set_same (ends_of old) i h.new_seat.ends there,
    )

pub end_adds : {S : Type 0} (taken : S → Option (List ℕ)) (has_failed : S → Bool) (p : AbstractPolicy) (old new : List (Seat S)) (i : ℕ) (answer : Result (Unit {0}) StepFault) →
    (h : IsEndedAt old i answer new) → (end_steps taken has_failed p old new i answer h).0 ≡ nothing
unfolding end_steps
end_adds taken has_failed p old new i answer (inl h) = refl
end_adds taken has_failed p old new i answer (inr h) = refl

pub step_of : {S : Type 0} (taken : S → Option (List ℕ)) (has_failed : S → Bool) (So : Added → Type 0) (old : Gateway S) (event : Event) (answer : Result (Unit {0}) StepFault)
    (new : Gateway S) → (x : StepsSeats taken has_failed (policy_view old.policy) old.seats.items (event_view event) answer (policy_view new.policy) new.seats.items) →
    ((answer ≡ Err (Link WriteFailed) → ⊥) → So x.0) → IsStepOf taken has_failed So old event answer new
step_of taken has_failed So old event answer new h so = record { added = h.0; step = h.1; took = h.2; noted = so }

-- ---- lending

pub has_ends : {S : Type 0} (old : Gateway S) (i : ℕ) (s : Seat S) (w : Ends S) → slice_get old.seats.items i ≡ Some s →
    HasEnds old i w (record { policy = old.policy; seats = with_item old.seats i (record { link = s.link; ends = w }) })
has_ends {S} old i s w there =
    let new : Seat S = record { link = s.link; ends = w } in
    let links : links_of (slice_set old.seats.items i new) ≡ links_of old.seats.items =
    map_set (λ (x : Seat S). link_view x.link) old.seats.items i new
    ∙ set_same (links_of old.seats.items) i (link_view s.link) (mapped_some (λ (x : Seat S). link_view x.link) old.seats.items i s there) in
    record {
      view = ap (λ (x : List AbstractLink). record { policy = policy_view old.policy; links = x }) links;
      ends = map_set (λ (x : Seat S). x.ends) old.seats.items i new;
    }

pub ends_there : {S : Type 0} (seats : List (Seat S)) (i : ℕ) (s : Seat S) → slice_get seats i ≡ Some s → Some s.ends ≡ slice_get (ends_of seats) i
ends_there {S} seats i s there = sym (mapped_some (λ (x : Seat S). x.ends) seats i s there)

pub no_ends : {S : Type 0} (seats : List (Seat S)) (i : ℕ) → (i < length seats → ⊥) → None ≡ slice_get (ends_of seats) i
no_ends {S} seats i past = elim (le_or_gt (length seats) i) [
  | inl le ↦ sym (mapped_none (λ (x : Seat S). x.ends) seats i (slice_get_past seats i le))
  | inr lt ↦ absurd (past lt)
]

-- ---- the link of a number

pub link_there : {S : Type 0} (seats : List (Seat S)) (i : ℕ) (s : Seat S) → slice_get seats i ≡ Some s → Some (link_view s.link) ≡ slice_get (links_of seats) i
link_there {S} seats i s there = sym (mapped_some (λ (x : Seat S). link_view x.link) seats i s there)

pub no_link : {S : Type 0} (seats : List (Seat S)) (i : ℕ) → (i < length seats → ⊥) → None ≡ slice_get (links_of seats) i
no_link {S} seats i past = elim (le_or_gt (length seats) i) [
  | inl le ↦ sym (mapped_none (λ (x : Seat S). link_view x.link) seats i (slice_get_past seats i le))
  | inr lt ↦ absurd (past lt)
]

-- what it holds is less than a frame
pub held_unfinished : {S : Type 0} (seats : List (Seat S)) (i : ℕ) (l : AbstractLink) → slice_get (links_of seats) i ≡ Some l → IsUnfinished l.held
held_unfinished [] i l h = absurd (none-some l h)
held_unfinished (x ∷ seats) zero l h = subst (λ (y : AbstractLink). IsUnfinished y.held) (same_Some (link_view x.link) l h) x.link.unfinished
held_unfinished (x ∷ seats) (suc i) l h = held_unfinished seats i l h
