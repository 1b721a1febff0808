-- What the calls of a link say of its seat.
use Rattle.std.proofs.Common.{◌≡◌, ◌<◌, ◌++◌, ℕ, true, false, List, [], sym, refl, subst, inl, inr, length, Option, Result, Ok, Err}
use Rattle.std.specs.Io.KnownBytes.{Appends}
use Rattle.guard_frames.specs.LinkView.{AbstractLink, IsShut}
use Rattle.guard_frames.specs.LinkSteps.{Fed, Ended}
use Rattle.guard_frames.specs.Outcomes.{Decision}
use Rattle.guard_frames.specs.Feeding.{Takes}
use Rattle.guard_frames.specs.Added.{Added, nothing, BothAppend}
use Rattle.guard_frames.specs.declared.link.LinkFault.{LinkFault}
use Rattle.guard_frames.specs.declared.seats.Ends.{Ends}
use Rattle.guard_frames.specs.declared.totals.Totals.{Totals}
use Rattle.guard_frames.specs.declared.link.LinkFault.TheVariants.{WriteFailed, Closed, TornFrame}
use Rattle.guard_frames.proofs.Appending.{Appends_none}
use Rattle.guard_frames.proofs.Own.Chains.{which}

none_taken : (o o₁ r r₁ : Option (List ℕ)) → o₁ ≡ o → r₁ ≡ r → BothAppend (o, o₁) (r, r₁) nothing
none_taken o o₁ r r₁ e e₁ = record {
  sent = subst (λ (x : Option (List ℕ)). Appends o x []) (sym e) (Appends_none o);
  reported = subst (λ (x : Option (List ℕ)). Appends r x []) (sym e₁) (Appends_none r);
}

pub fed_of : (d : Decision) (l : AbstractLink) (octets : List ℕ) (told : Result (Unit {0}) LinkFault) (l₁ : AbstractLink) (o o₁ r r₁ : Option (List ℕ)) →
    (l.closed ≡ false → (added : Added) × Takes d l.totals (l.held ++ octets) l₁ told added × BothAppend (o, o₁) (r, r₁) added) →
    (l.closed ≡ true → (told ≡ Err Closed) × (l₁ ≡ l) × (o₁ ≡ o) × (r₁ ≡ r)) →
    (added : Added) × Fed d l octets told l₁ added × BothAppend (o, o₁) (r, r₁) added
fed_of d l octets told l₁ o o₁ r r₁ opened shut = elim (which l.closed) [
  | inl is ↦
      let s = shut is in
      (nothing, inl (record { closed = is; answered = s.0; same = s.1 }, refl), none_taken o o₁ r r₁ s.2 s.3)
  | inr is ↦
      let t = opened is in
      (t.0, inr (is, t.1), t.2)
]

-- and so of what was added
pub fed_watched : (d : Decision) (l : AbstractLink) (octets : List ℕ) (told : Result (Unit {0}) LinkFault) (l₁ : AbstractLink) (o o₁ r r₁ : Option (List ℕ))
    (So : Added → Type 0) →
    (l.closed ≡ false → (added : Added) × Takes d l.totals (l.held ++ octets) l₁ told added × BothAppend (o, o₁) (r, r₁) added
    × ((told ≡ Err WriteFailed → ⊥) → So added)) →
    (l.closed ≡ true → (told ≡ Err Closed) × (l₁ ≡ l) × (o₁ ≡ o) × (r₁ ≡ r) × So nothing) →
    (added : Added) × Fed d l octets told l₁ added × BothAppend (o, o₁) (r, r₁) added × ((told ≡ Err WriteFailed → ⊥) → So added)
fed_watched d l octets told l₁ o o₁ r r₁ So opened shut = elim (which l.closed) [
  | inl is ↦
      let s = shut is in
      (nothing, inl (record { closed = is; answered = s.0; same = s.1 }, refl), none_taken o o₁ r r₁ s.2 s.3, λ well. s.4)
  | inr is ↦
      let t = opened is in
      (t.0, inr (is, t.1), t.2, t.3)
]

-- an open link doesn't answer that it is closed
not_open : (d : Decision) (n : Totals) (s : List ℕ) (told : Result (Unit {0}) LinkFault) (l₁ : AbstractLink) (added : Added) →
    Takes d n s l₁ told added → told ≡ Err Closed → ⊥
not_open d n s told l₁ added h e = subst (λ (r : Result (Unit {0}) LinkFault). Takes d n s l₁ r added) e h

-- what holds of a closed link holds where it answers so
pub told_shut : {A : Type 0} (d : Decision) (l : AbstractLink) (octets : List ℕ) (told : Result (Unit {0}) LinkFault) (l₁ : AbstractLink) →
    (l.closed ≡ false → (added : Added) × Takes d l.totals (l.held ++ octets) l₁ told added) →
    (l.closed ≡ true → A) → told ≡ Err Closed → A
told_shut d l octets told l₁ opened shut e = elim (which l.closed) [
  | inl is ↦ shut is
  | inr is ↦ let t = opened is in absurd (not_open d l.totals (l.held ++ octets) told l₁ t.0 t.1 e)
]

-- two sinks that stay are the same pair
pub same_ends : {S : Type 0} (a b c d : S) → a ≡ c → b ≡ d → ◌≡◌ {A = Ends S} (record { out = a; reports = b }) (record { out = c; reports = d })
same_ends a b c d e e₁ = rw (e, e₁) refl

pub ended_of : (l : AbstractLink) (told : Result (Unit {0}) LinkFault) (l₁ : AbstractLink) →
    (l.closed ≡ false → 0 < length l.held → told ≡ Err TornFrame) → (l.closed ≡ false → l.held ≡ [] → told ≡ Ok tt) →
    (l.closed ≡ true → (told ≡ Err Closed) × (l₁ ≡ l)) → IsShut l₁ → l₁.totals ≡ l.totals →
    (l.closed ≡ false → l₁.left ≡ length l.held) → Ended l told l₁
ended_of l told l₁ torn whole shut closes totals left = elim (which l.closed) [
  | inl is ↦ inl (record { closed = is; answered = (shut is).0; same = (shut is).1 })
  | inr is ↦ inr (record { open_before = is; torn = torn is; whole = whole is; shut = closes; totals = totals; left = left is })
]
