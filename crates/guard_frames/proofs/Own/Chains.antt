-- What a chain of steps adds to a link.
use Rattle.std.proofs.Common.{◌≡◌, ◌<◌, ◌+◌, ◌⊎◌, ℕ, Bool, true, false, cond, nat_eq, List, [], ◌∷◌, ◌++◌, ◌∙◌, ap, sym, refl, subst, inl, inr, length, Some, Result, Ok, Err, slice_get, arith}
use Rattle.std.specs.List.{concat}
use Rattle.std.proofs.lemmas.List.{append-nil}
use Rattle.guard_policy.specs.Policies.{AbstractPolicy}
use Rattle.guard_frames.specs.LinkView.{AbstractLink, new_link}
use Rattle.guard_frames.specs.Frames.{IsUnfinished}
use Rattle.guard_frames.specs.Totals.{next_number}
use Rattle.guard_frames.specs.Outcomes.{frames_of}
use Rattle.guard_frames.specs.OfPolicy.{decision_of}
use Rattle.guard_frames.specs.declared.link.LinkFault.{LinkFault}
use Rattle.guard_frames.specs.declared.link.LinkFault.TheVariants.{FrameTooLong, WriteFailed, Closed, TornFrame}
use Rattle.guard_frames.specs.declared.gateway.StepFault.{StepFault}
use Rattle.guard_frames.specs.Added.{Added, nothing, joined}
use Rattle.guard_frames.specs.Feeding.{Takes}
use Rattle.guard_frames.specs.LinkSteps.{Fed, Ended, Refuses}
use Rattle.guard_frames.specs.Gateways.{AbstractGateway, AbstractEvent, step_answer}
use Rattle.guard_frames.specs.Gateways.AbstractEvent.{piece, end, reload}
use Rattle.guard_frames.specs.GatewaySteps.{Step, Turn, AreSteps}
use Rattle.guard_frames.specs.OwnPieces.{OwnPiece, pieces_of, is_fault, is_own, added_to, is_failure, is_broken}
use Rattle.guard_frames.specs.OwnStream.{Gives}
use Rattle.guard_frames.proofs.Own.From.{From, none_from, from_new}
use Rattle.guard_frames.proofs.Own.Joining.{from_more, too_long_from, part_from}
use Rattle.guard_frames.proofs.Own.Links.{Does_at, at_own, not_own, at_other, at_none}

-- ---- which events are of link k

abbrev pub Which : Bool → Type 0
Which b = (b ≡ true) ⊎ (b ≡ false)

pub which : (b : Bool) → Which b
which true = inl refl
which false = inr refl

-- ---- a closed link

-- a step leaves it closed, and adds nothing to its sinks
record Past (k : ℕ) (e : AbstractEvent) (answer : Result (Unit {0}) StepFault) (w : Added) (new : AbstractGateway) : Type 0 where
  link : AbstractLink
  there : slice_get new.links k ≡ Some link
  closed : link.closed ≡ true
  adds : is_own k e ≡ true → w ≡ nothing
  sound : is_own k e ≡ true → is_failure answer ≡ false

both_ways : {A : Type 0} (b : Bool) → b ≡ false → b ≡ true → A
both_ways b other is = let both : false ≡ true = sym other ∙ is in absurd cc

open_shut : {A : Type 0} (l : AbstractLink) → l.closed ≡ true → l.closed ≡ false → A
open_shut l shut opened = both_ways l.closed opened shut

still_shut : (k : ℕ) (l : AbstractLink) (g new : AbstractGateway) (answer : Result (Unit {0}) StepFault) (Does : AbstractLink → Result (Unit {0}) LinkFault → AbstractLink → Type 0) →
    (x : Does_at g k l answer new Does) → Refuses l x.link_answer x.next → (x.next.closed ≡ true) × (is_failure answer ≡ false)
still_shut k l g new answer Does x shut =
    let closed : x.next.closed ≡ true = ap (λ (y : AbstractLink). y.closed) shut.same ∙ shut.closed in
    let answered : is_failure answer ≡ false = ap is_failure x.answered ∙ ap (λ (r : Result (Unit {0}) LinkFault). is_failure (step_answer r)) shut.answered in
    (closed, answered)

past : (k : ℕ) (e : AbstractEvent) (answer : Result (Unit {0}) StepFault) (w : Added) (g new : AbstractGateway) (l : AbstractLink) →
    slice_get g.links k ≡ Some l → l.closed ≡ true → Step g e answer w new → Past k e answer w new
past k (piece i octets) answer w g new l there shut step = elim (which (nat_eq i k)) [
  | inl is ↦ elim step [
    | inl none ↦ absurd (not_own g i k l is there none.none)
    | inr at ↦
        let x = at_own g i k l answer new (λ l told l₁. Fed (decision_of g.policy) l octets told l₁ w) is there at in
        elim x.does [
          | inl s ↦
              let still = still_shut k l g new answer (λ l told l₁. Fed (decision_of g.policy) l octets told l₁ w) x s.0 in
              record { link = x.next; there = x.there; closed = still.0; adds = λ _. s.1; sound = λ _. still.1 }
          | inr o ↦ open_shut l shut o.0
        ]
  ]
  | inr other ↦ elim step [
    | inl none ↦
        let s = at_none g k l new there none.same in
        record { link = l; there = s.there; closed = shut; adds = both_ways (nat_eq i k) other; sound = both_ways (nat_eq i k) other }
    | inr at ↦
        let s = at_other g i k l answer new (λ l told l₁. Fed (decision_of g.policy) l octets told l₁ w) other there at in
        record { link = l; there = s.there; closed = shut; adds = both_ways (nat_eq i k) other; sound = both_ways (nat_eq i k) other }
  ]
]
past k (end i) answer w g new l there shut step = elim (which (nat_eq i k)) [
  | inl is ↦ elim step [
    | inl none ↦ absurd (not_own g i k l is there none.none)
    | inr at ↦
        let x = at_own g i k l answer new Ended is there at.0 in
        elim x.does [
          | inl s ↦
              let still = still_shut k l g new answer Ended x s in
              record { link = x.next; there = x.there; closed = still.0; adds = λ _. at.1; sound = λ _. still.1 }
          | inr o ↦ open_shut l shut o.open_before
        ]
  ]
  | inr other ↦ elim step [
    | inl none ↦
        let s = at_none g k l new there none.same in
        record { link = l; there = s.there; closed = shut; adds = both_ways (nat_eq i k) other; sound = both_ways (nat_eq i k) other }
    | inr at ↦
        let s = at_other g i k l answer new Ended other there at.0 in
        record { link = l; there = s.there; closed = shut; adds = both_ways (nat_eq i k) other; sound = both_ways (nat_eq i k) other }
  ]
]
past k (reload p) answer w g new l there shut step = record {
  link = l;
  there = ap (λ (x : AbstractGateway). slice_get x.links k) step.same ∙ there;
  closed = shut;
  adds = both_ways false refl;
  sound = both_ways false refl;
}

pub record Silent (k : ℕ) (ts : List Turn) : Type 0 where
  pub adds : added_to k ts ≡ nothing
  pub sound : is_broken k ts ≡ false

-- a step that adds nothing to the link, before steps that don't
silent_more : (k : ℕ) (t : Turn) (ts : List Turn) → (is_own k t.event ≡ true → t.added ≡ nothing) → (is_own k t.event ≡ true → is_failure t.answer ≡ false) →
    Silent k ts → Silent k (t ∷ ts)
silent_more k t ts adds sound h = elim (which (is_own k t.event)) [
  | inl is ↦ record {
    adds = rw is (ap (λ (x : Added). joined x (added_to k ts)) (adds is) ∙ h.adds);
    sound = rw (is, sound is) h.sound;
  }
  | inr other ↦ record { adds = rw other h.adds; sound = rw other h.sound }
]

-- nothing more is added to a closed link
pub closed_adds_nothing : (k : ℕ) (ts : List Turn) (g after : AbstractGateway) (l : AbstractLink) → slice_get g.links k ≡ Some l → l.closed ≡ true →
    AreSteps g ts after → Silent k ts
closed_adds_nothing k [] g after l there shut steps = record { adds = refl; sound = refl }
closed_adds_nothing k (t ∷ ts) g after l there shut (next, step, steps) =
    let x = past k t.event t.answer t.added g next l there shut step in
    silent_more k t ts x.adds x.sound (closed_adds_nothing k ts next after x.link x.there x.closed steps)

-- ---- an open link

-- what steps add to link k, wherever it is
abbrev Rests : ℕ → List Turn → Type 0
Rests k ts = (g after : AbstractGateway) (l : AbstractLink) (place : ℕ) → slice_get g.links k ≡ Some l → l.closed ≡ false → IsUnfinished l.held → AreSteps g ts after →
    From (next_number l.totals) place l.held (pieces_of k g.policy ts) (added_to k ts) (is_broken k ts)

from_is : (n place : ℕ) (held : List ℕ) (xs : List OwnPiece) (v w : Added) (b c : Bool) → v ≡ w → b ≡ c → From n place held xs v b → From n place held xs w c
from_is n place held xs v w b c e e₁ h = subst (λ (x : Added). From n place held xs x c) e (subst (λ (x : Bool). From n place held xs v x) e₁ h)

rests_under : (k : ℕ) (ts : List Turn) → Rests k ts → (g next after : AbstractGateway) (l : AbstractLink) (place : ℕ) → next.policy ≡ g.policy →
    slice_get next.links k ≡ Some l → l.closed ≡ false → IsUnfinished l.held → AreSteps next ts after →
    From (next_number l.totals) place l.held (pieces_of k g.policy ts) (added_to k ts) (is_broken k ts)
rests_under k ts rests g next after l place e there opened unfinished steps =
    subst (λ (p : AbstractPolicy). From (next_number l.totals) place l.held (pieces_of k p ts) (added_to k ts) (is_broken k ts)) e
    (rests next after l place there opened unfinished steps)

-- a piece of link k
at_piece : (k : ℕ) (octets : List ℕ) (ts : List Turn) → Rests k ts → (g next after : AbstractGateway) (l l₁ : AbstractLink) (told : Result (Unit {0}) LinkFault) (w : Added) (place : ℕ) →
    IsUnfinished l.held → next.policy ≡ g.policy → slice_get next.links k ≡ Some l₁ → AreSteps next ts after →
    Takes (decision_of g.policy) l.totals (l.held ++ octets) l₁ told w →
    From (next_number l.totals) place l.held (record { policy = g.policy; octets = octets } ∷ cond (is_fault (step_answer told)) [] (pieces_of k g.policy ts)) (joined w (added_to k ts))
    (cond (is_failure (step_answer told)) true (is_broken k ts))
at_piece k octets ts rests g next after l l₁ (Ok done) w place unfinished same there steps h =
    from_more l.totals l₁.totals place l.held octets l₁.held g.policy (pieces_of k g.policy ts) w (added_to k ts) (is_broken k ts) unfinished h.0
    (rests_under k ts rests g next after l₁ (place + length (concat (frames_of h.0.outcomes))) same there h.2 h.1 steps)
at_piece k octets ts rests g next after l l₁ (Err FrameTooLong) w place unfinished same there steps h =
    let x : OwnPiece = record { policy = g.policy; octets = octets } in
    let silent = closed_adds_nothing k ts next after l₁ there h.1.closed steps in
    from_is (next_number l.totals) place l.held (x ∷ []) (joined w nothing) (joined w (added_to k ts)) false (is_broken k ts)
    (ap (joined w) (sym silent.adds)) (sym silent.sound)
    (too_long_from l.totals l₁.totals place l.held octets g.policy [] w unfinished h.0)
at_piece k octets ts rests g next after l l₁ (Err WriteFailed) w place unfinished same there steps h =
    let x : OwnPiece = record { policy = g.policy; octets = octets } in
    let silent = closed_adds_nothing k ts next after l₁ there h.1.closed steps in
    from_is (next_number l.totals) place l.held (x ∷ []) (joined w nothing) (joined w (added_to k ts)) true true
    (ap (joined w) (sym silent.adds)) refl
    (part_from (next_number l.totals) place l.held octets g.policy [] w (omega arith) unfinished h.0)
at_piece k octets ts rests g next after l l₁ (Err Closed) w place unfinished same there steps h = absurd h
at_piece k octets ts rests g next after l l₁ (Err TornFrame) w place unfinished same there steps h = absurd h

-- the end of a link is no failure of a sink
ended_sound : (held : List ℕ) (told : Result (Unit {0}) LinkFault) → (0 < length held → told ≡ Err TornFrame) → (held ≡ [] → told ≡ Ok tt) →
    is_failure (step_answer told) ≡ false
ended_sound [] told torn whole = ap (λ (r : Result (Unit {0}) LinkFault). is_failure (step_answer r)) (whole refl)
ended_sound (x ∷ held) told torn whole = ap (λ (r : Result (Unit {0}) LinkFault). is_failure (step_answer r)) (torn (omega arith))

-- the end of link k
at_end : (k : ℕ) (ts : List Turn) (next after : AbstractGateway) (l₁ : AbstractLink) (n place : ℕ) (held : List ℕ) (w : Added) (b : Bool) →
    IsUnfinished held → slice_get next.links k ≡ Some l₁ → l₁.closed ≡ true → AreSteps next ts after → w ≡ nothing → b ≡ false →
    From n place held [] (joined w (added_to k ts)) (cond b true (is_broken k ts))
at_end k ts next after l₁ n place held w b unfinished there shut steps none sound =
    let silent = closed_adds_nothing k ts next after l₁ there shut steps in
    let adds : joined w (added_to k ts) ≡ nothing = ap (λ (x : Added). joined x (added_to k ts)) none ∙ silent.adds in
    let whole : cond b true (is_broken k ts) ≡ false = ap (λ (x : Bool). cond x true (is_broken k ts)) sound ∙ silent.sound in
    let alone : IsUnfinished (held ++ []) = subst IsUnfinished (sym (append-nil held)) unfinished in
    from_is n place held [] nothing (joined w (added_to k ts)) false (cond b true (is_broken k ts)) (sym adds) (sym whole)
    (none_from n place held [] (inl alone))

-- what one step and those after it add to link k
abbrev Onward : ℕ → AbstractEvent → Result (Unit {0}) StepFault → Added → List Turn → AbstractGateway → AbstractLink → ℕ → Type 0
Onward k e answer w ts g l place =
    From (next_number l.totals) place l.held (pieces_of k g.policy (record { event = e; answer = answer; added = w } ∷ ts)) (cond (is_own k e) (joined w (added_to k ts)) (added_to k ts))
    (cond (is_own k e) (cond (is_failure answer) true (is_broken k ts)) (is_broken k ts))

step_more : (k : ℕ) (e : AbstractEvent) (answer : Result (Unit {0}) StepFault) (w : Added) (ts : List Turn) → Rests k ts →
    (g next after : AbstractGateway) (l : AbstractLink) (place : ℕ) → slice_get g.links k ≡ Some l → l.closed ≡ false → IsUnfinished l.held →
    Step g e answer w next → AreSteps next ts after → Onward k e answer w ts g l place
step_more k (piece i octets) answer w ts rests g next after l place there opened unfinished step steps = elim (which (nat_eq i k)) [
  | inl is ↦ elim step [
    | inl none ↦ absurd (not_own g i k l is there none.none)
    | inr at ↦
        let x = at_own g i k l answer next (λ l told l₁. Fed (decision_of g.policy) l octets told l₁ w) is there at in
        elim x.does [
          | inl s ↦ open_shut l s.0.closed opened
          | inr o ↦ rw (is, x.answered) (at_piece k octets ts rests g next after l x.next x.link_answer w place unfinished x.policy x.there steps o.1)
        ]
  ]
  | inr other ↦ elim step [
    | inl none ↦
        let s = at_none g k l next there none.same in
        rw other (rests_under k ts rests g next after l place s.policy s.there opened unfinished steps)
    | inr at ↦
        let s = at_other g i k l answer next (λ l told l₁. Fed (decision_of g.policy) l octets told l₁ w) other there at in
        rw other (rests_under k ts rests g next after l place s.policy s.there opened unfinished steps)
  ]
]
step_more k (end i) answer w ts rests g next after l place there opened unfinished step steps = elim (which (nat_eq i k)) [
  | inl is ↦ elim step [
    | inl none ↦ absurd (not_own g i k l is there none.none)
    | inr at ↦
        let x = at_own g i k l answer next Ended is there at.0 in
        elim x.does [
          | inl s ↦ open_shut l s.closed opened
          | inr o ↦
              let sound : is_failure answer ≡ false = ap is_failure x.answered ∙ ended_sound l.held x.link_answer o.torn o.whole in
              rw is (at_end k ts next after x.next (next_number l.totals) place l.held w (is_failure answer) unfinished x.there o.shut.closed steps at.1 sound)
        ]
  ]
  | inr other ↦ elim step [
    | inl none ↦
        let s = at_none g k l next there none.same in
        rw other (rests_under k ts rests g next after l place s.policy s.there opened unfinished steps)
    | inr at ↦
        let s = at_other g i k l answer next Ended other there at.0 in
        rw other (rests_under k ts rests g next after l place s.policy s.there opened unfinished steps)
  ]
]
step_more k (reload p) answer w ts rests g next after l place there opened unfinished step steps =
    let policy : next.policy ≡ p = ap (λ (x : AbstractGateway). x.policy) step.same in
    let there₁ : slice_get next.links k ≡ Some l = ap (λ (x : AbstractGateway). slice_get x.links k) step.same ∙ there in
    subst (λ (q : AbstractPolicy). From (next_number l.totals) place l.held (pieces_of k q ts) (added_to k ts) (is_broken k ts)) policy
    (rests next after l place there₁ opened unfinished steps)

rests : (k : ℕ) (ts : List Turn) → Rests k ts
rests k [] g after l place there opened unfinished steps =
    none_from (next_number l.totals) place l.held [] (inl (subst IsUnfinished (sym (append-nil l.held)) unfinished))
rests k (t ∷ ts) g after l place there opened unfinished (next, step, steps) =
    step_more k t.event t.answer t.added ts (rests k ts) g next after l place there opened unfinished step steps

pub own_stream_gives : (k : ℕ) (turns : List Turn) (before after : AbstractGateway) → slice_get before.links k ≡ Some new_link → AreSteps before turns after →
    Gives (pieces_of k before.policy turns) (added_to k turns) (is_broken k turns)
own_stream_gives k turns before after there steps =
    let empty : IsUnfinished [] = record { allowed = λ h. absurd (omega (arith, h)); short = λ h. absurd (omega (arith, h)) } in
    let first : next_number new_link.totals ≡ 1 = refl in
    from_new (pieces_of k before.policy turns) (added_to k turns) (is_broken k turns)
    (rests k turns before after new_link 0 there refl empty steps)
