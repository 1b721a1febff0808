-- Records that were taken in turn are steps of a gateway.
use Rattle.std.proofs.Common.{◌≡◌, ◌∙◌, ◌<◌, ℕ, List, [], ◌∷◌, ap, refl, sym, subst, inl, inr, replicate, length, slice_get}
use Rattle.std.specs.Prelude.{Some, Ok}
use Rattle.std.proofs.lemmas.List.{get_or-replicate, length-replicate}
use Rattle.std.proofs.lemmas.Option.{slice_get-get_or}
use Rattle.guard_frames.specs.Added.{nothing}
use Rattle.guard_frames.specs.Gateways.{AbstractGateway, AbstractEvent as event, step_answer}
use Rattle.guard_frames.specs.GatewaySteps.{Turn, AreSteps}
use Rattle.guard_frames.specs.LinkView.{new_link}
use Rattle.guard_files.specs.Records.{Record}
use Rattle.guard_files.specs.Records.Record.{piece, end, reload}
use Rattle.guard_streams.specs.OwnRecords.{AreTurns}
use Rattle.guard_streams.specs.Turns.{AbstractMux, Written, InTurn}

-- some events that the records are, and the steps that these make
pub record Are (path : List ℕ) (old : AbstractMux) (records : List Record) (ws : List Written) (new : AbstractMux) : Type 0 where
  pub turns : List Turn
  pub are : AreTurns path old records ws turns
  pub steps : AreSteps old.gateway turns new.gateway

pub are_turns : (path : List ℕ) (old : AbstractMux) (records : List Record) (ws : List Written) (new : AbstractMux) → InTurn path old records ws new
    → Are path old records ws new
are_turns path old [] ws new (none, same) = record { turns = []; are = (none, refl); steps = ap (λ (m : AbstractMux). m.gateway) same }
are_turns path old (piece link octets ∷ records) ws new (w, others, next, is, happens, rest) =
    let p = happens.0 in
    let t : Turn = record { event = event.piece link octets; answer = step_answer p.answer; added = p.added } in
    let more = are_turns path next records others new rest in record {
      turns = t ∷ more.turns;
      are = (w, others, next, is, happens, inl (t, more.turns, refl, (refl, (p.out, (_, p.err))), more.are));
      steps = (next.gateway, p.step, more.steps);
    }
are_turns path old (end link ∷ records) ws new (w, others, next, is, happens, rest) =
    let p = happens.0 in
    let t : Turn = record { event = event.end link; answer = step_answer p.answer; added = p.added } in
    let more = are_turns path next records others new rest in record {
      turns = t ∷ more.turns;
      are = (w, others, next, is, happens, inl (t, more.turns, refl, (refl, (p.out, (_, p.err))), more.are));
      steps = (next.gateway, p.step, more.steps);
    }
are_turns path old (reload ∷ records) ws new (w, others, next, is, happens, rest) =
    let more = are_turns path next records others new rest in
    elim happens.0 [
      | inl renews ↦ let t : Turn = record { event = event.reload renews.policy; answer = Ok tt; added = nothing } in record {
        turns = t ∷ more.turns;
        are = (w, others, next, is, happens, inl (t, more.turns, refl, (renews.policy, (renews.read.0, renews.read.1, renews.read.2, renews.read.3), refl, ap (λ (x : Written). x.out) renews.noted), more.are));
        steps = (next.gateway, renews.step, more.steps);
      }
      | inr keeps ↦ record {
        turns = more.turns;
        are = (w, others, next, is, happens, inr (keeps, refl, more.are));
        steps = subst (λ (g : AbstractGateway). AreSteps g more.turns new.gateway) keeps.same more.steps;
      }
    ]

-- each of sixteen new links is a new one
pub new_at : (k : ℕ) → k < 16 → slice_get (replicate 16 new_link) k ≡ Some new_link
new_at k few =
    let n : length (replicate 16 new_link) ≡ 16 = length-replicate 16 new_link in
    slice_get-get_or (replicate 16 new_link) k new_link (subst (λ (m : ℕ). k < m) (sym n) few)
    ∙ ap Some (get_or-replicate 16 k new_link new_link few)
