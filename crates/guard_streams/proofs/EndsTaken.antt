-- The ends of the links that are open, one after another.
use Rattle.std.proofs.Common.{◌≡◌, ◌∙◌, ◌≤◌, ◌+◌, max, ℕ, suc, Bool, true, false, List, [], ◌∷◌, ◌++◌, ap, refl, sym, subst, length, drop, arith, append_assoc, add-one, inl, inr}
use Rattle.std.specs.Prelude.{Option, Some, Result}
use Rattle.std.specs.Io.KnownBytes.{Appends}
use Rattle.std.proofs.lemmas.List.{append-nil, drop_all}
use Rattle.guard_frames.specs.declared.gateway.StepFault.{StepFault}
use Rattle.guard_frames.specs.Added.{Added}
use Rattle.guard_frames.specs.Gateways.{AbstractGateway, AbstractEvent as event, step_answer}
use Rattle.guard_frames.specs.GatewaySteps.{Step}
use Rattle.guard_frames.specs.GatewayView.{gateway_view}
use Rattle.guard_frames.specs.LinkView.{AbstractLink}
use Rattle.guard_frames.proofs.Appending.{Appends_none}
use Rattle.guard_files.specs.Devices.{device}
use Rattle.guard_files.specs.Files.{Told}
use Rattle.guard_files.specs.Records.{Record}
use Rattle.guard_files.specs.Records.Record.{end}
use Rattle.guard_streams.specs.declared.links.Links.{Links}
use Rattle.guard_streams.specs.Muxing.{WritesPart, BreaksErr}
use Rattle.guard_streams.specs.Turns.{Written, InTurn, all_out, all_err, status_of, ends_left}
use Rattle.guard_streams.specs.inside.Doing.{mux_of, IsTaken, Is, AreEnded, IsEndCut}
use Rattle.guard_streams.proofs.Turning.{one_more, all_out-more, told_more, status_of-more, after, ends_closed, ends_open, drop_there, drop_set}

-- Those before this link were taken, and these are left.
pub record EndedSoFar (path : List ℕ) (told : Told) (old now : Links) (e e₁ : Option (List ℕ)) (link : ℕ) : Type 0 where
  pub before : List Record
  pub closed : List Written
  pub in_turn : InTurn path (mux_of told old) before closed (mux_of told now)
  pub left : ends_left 0 (gateway_view old.gateway).links ≡ before ++ ends_left link
      (drop link (gateway_view now.gateway).links)
  pub silent : all_out closed ≡ []
  pub reported : Appends e e₁ (all_err closed)
  pub status : now.status ≡ max old.status (status_of closed)

pub none_ended : (path : List ℕ) (told : Told) (old : Links) (e : Option (List ℕ)) → EndedSoFar path told old old e e 0
none_ended path told old e = record {
  before = [];
  closed = [];
  in_turn = (refl, refl);
  left = refl;
  silent = refl;
  reported = Appends_none e;
  status = omega arith;
}

-- the first of the ends that are left
left_open : (l : Links) (link : ℕ) → (h : Is false link l)
    → ends_left link (drop link (gateway_view l.gateway).links) ≡ end link ∷ ends_left (suc link)
    (drop (suc link) (gateway_view l.gateway).links)
left_open l link h =
    ap (ends_left link) (drop_there (gateway_view l.gateway).links link h.one h.there)
    ∙ ends_open link h.one (drop (suc link) (gateway_view l.gateway).links) h.is

left_closed : (l : Links) (link : ℕ) → (h : Is true link l)
    → ends_left link (drop link (gateway_view l.gateway).links) ≡ ends_left (suc link)
    (drop (suc link) (gateway_view l.gateway).links)
left_closed l link h =
    ap (ends_left link) (drop_there (gateway_view l.gateway).links link h.one h.there)
    ∙ ends_closed link h.one (drop (suc link) (gateway_view l.gateway).links) h.is

pub closed_more : (path : List ℕ) (told : Told) (old now : Links) (e e₁ : Option (List ℕ)) (link : ℕ) → Is true link now
    → EndedSoFar path told old now e e₁ link → EndedSoFar path told old now e e₁ (link + 1)
closed_more path told old now e e₁ link closed so_far = record {
  before = so_far.before;
  closed = so_far.closed;
  in_turn = so_far.in_turn;
  left = so_far.left ∙ ap (λ (rs : List Record). so_far.before ++ rs) (left_closed now link closed)
      ∙ ap (λ (n : ℕ). so_far.before ++ ends_left n (drop n (gateway_view now.gateway).links)) (sym (add-one link));
  silent = so_far.silent;
  reported = so_far.reported;
  status = so_far.status;
}

-- what an end leaves of the links after it
ended_rest : (g new : AbstractGateway) (i : ℕ) (told : Result (Unit {0}) StepFault) (added : Added)
    → Step g (event.end i) told added new
    → drop (suc i) new.links ≡ drop (suc i) g.links
ended_rest g new i told added (inl h) = ap (λ (x : AbstractGateway). drop (suc i) x.links) h.same
ended_rest g new i told added (inr h) = ap (λ (x : AbstractGateway). drop (suc i) x.links) h.0.others
    ∙ drop_set g.links i h.0.new_link

pub open_more : (path : List ℕ) (told : Told) (old now new : Links) (e e₁ e₂ : Option (List ℕ)) (link : ℕ)
    → Is false link now
    → IsTaken path told now (end link) told new (Some [], Some []) (e₁, e₂) → EndedSoFar path told old now e e₁ link
    → EndedSoFar path told old new e e₂ (link + 1)
open_more path told old now new e e₁ e₂ link open_now h so_far =
    let rest : List Record = ends_left (suc link) (drop (suc link) (gateway_view now.gateway).links) in
    let p = h.happens.0 in
    let same = ended_rest (gateway_view now.gateway) (gateway_view new.gateway) link
    (step_answer p.answer) p.added p.step in
    let greatest = status_of-more so_far.closed h.w in
    let was = so_far.status in
    let is = h.status in
    let none : h.w.out ≡ [] = sym h.sent in
    record {
      before = so_far.before ++ end link ∷ [];
      closed = so_far.closed ++ h.w ∷ [];
      in_turn = one_more path (mux_of told old) (mux_of told now) (mux_of told new) so_far.before so_far.closed
          (end link) h.w so_far.in_turn h.happens;
      left = so_far.left ∙ ap (λ (rs : List Record). so_far.before ++ rs) (left_open now link open_now)
          ∙ sym (append_assoc so_far.before (end link ∷ []) rest)
          ∙ ap (λ (ls : List AbstractLink). (so_far.before ++ end link ∷ []) ++ ends_left (suc link) ls) (sym same)
          ∙ ap (λ (n : ℕ). (so_far.before ++ end link ∷ []) ++ ends_left n
          (drop n (gateway_view new.gateway).links)) (sym (add-one link));
      silent = all_out-more so_far.closed h.w ∙ ap (λ (s : List ℕ). s ++ h.w.out) so_far.silent ∙ none;
      reported = told_more e e₁ e₂ so_far.closed h.w so_far.reported h.told;
      status = omega (arith, is, was, greatest);
    }

pub end_cut_at : (path : List ℕ) (told : Told) (old now : Links) (o e e₁ e₂ : Option (List ℕ)) (f k : Bool)
    (link : ℕ) → Is false link now
    → EndedSoFar path told old now e e₁ link → WritesPart path (mux_of told now) (end link) [] (device o o f)
    (device e₁ e₂ k) BreaksErr
    → IsEndCut path told old (device o o f) (device e e₂ k)
end_cut_at path told old now o e e₁ e₂ f k link open_now so_far h =
    let sent : Appends o o (all_out so_far.closed) =
    subst (λ (s : List ℕ). Appends o o s) (sym so_far.silent) (Appends_none o) in
    record {
      before = so_far.before;
      next = end link;
      more = ends_left (suc link) (drop (suc link) (gateway_view now.gateway).links);
      ends = so_far.left ∙ ap (λ (rs : List Record). so_far.before ++ rs) (left_open now link open_now);
      closed = so_far.closed;
      last = mux_of told now;
      in_turn = so_far.in_turn;
      part = subst (λ (ws : List Written). WritesPart path (mux_of told now) (end link) ws (device o o f)
          (device e e₂ k) BreaksErr) (append-nil so_far.closed)
          (after path (mux_of told now) (end link) so_far.closed [] o o o e e₁ e₂ f k k BreaksErr
          (λ w s t b. b) sent so_far.reported h);
    }

pub all_ended : (path : List ℕ) (told : Told) (old now : Links) (e e₁ : Option (List ℕ)) (link : ℕ)
    → length (gateway_view now.gateway).links ≤ link
    → EndedSoFar path told old now e e₁ link → AreEnded path told old now (e, e₁)
all_ended path told old now e e₁ link past so_far =
    let none : ends_left link (drop link (gateway_view now.gateway).links) ≡ [] =
    ap (ends_left link) (drop_all link (gateway_view now.gateway).links past) in
    let all : ends_left 0 (gateway_view old.gateway).links ≡ so_far.before = so_far.left
    ∙ ap (λ (rs : List Record). so_far.before ++ rs) none ∙ append-nil so_far.before in
    record {
      ws = so_far.closed;
      ends = subst (λ (rs : List Record). InTurn path (mux_of told old) rs so_far.closed (mux_of told now))
          (sym all) so_far.in_turn;
      silent = so_far.silent;
      reported = so_far.reported;
      status = so_far.status;
    }
