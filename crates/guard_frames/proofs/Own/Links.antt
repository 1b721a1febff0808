-- What one step says of one link.
use Rattle.std.proofs.Common.{◌≡◌, zero, suc, ℕ, true, false, nat_eq, List, [], ◌∷◌, ◌∙◌, ap, sym, refl, subst, Some, None, Result, slice_get, slice_set}
use Rattle.std.proofs.lemmas.Bool.{eqb-true, eqb-false}
use Rattle.std.proofs.lemmas.Option.{same_Some, none-some}
use Rattle.guard_frames.specs.LinkView.{AbstractLink}
use Rattle.guard_frames.specs.declared.link.LinkFault.{LinkFault}
use Rattle.guard_frames.specs.declared.gateway.StepFault.{StepFault}
use Rattle.guard_frames.specs.Gateways.{AbstractGateway, step_answer}
use Rattle.guard_frames.specs.GatewaySteps.{AtLink}

pub set_here : (xs : List AbstractLink) (i : ℕ) (old new : AbstractLink) → slice_get xs i ≡ Some old → slice_get (slice_set xs i new) i ≡ Some new
set_here [] i old new h = absurd (none-some old h)
set_here (x ∷ xs) zero old new h = refl
set_here (x ∷ xs) (suc i) old new h = set_here xs i old new h

pub set_there : (xs : List AbstractLink) (i k : ℕ) (l new : AbstractLink) → (i ≡ k → ⊥) → slice_get xs k ≡ Some l → slice_get (slice_set xs i new) k ≡ Some l
set_there [] i k l new differs h = absurd (none-some l h)
set_there (x ∷ xs) zero zero l new differs h = absurd (differs refl)
set_there (x ∷ xs) zero (suc k) l new differs h = h
set_there (x ∷ xs) (suc i) zero l new differs h = h
set_there (x ∷ xs) (suc i) (suc k) l new differs h = set_there xs i k l new (λ e. differs (ap suc e)) h

-- a step at link k itself, where it is l
pub record Does_at (g : AbstractGateway) (k : ℕ) (l : AbstractLink) (answer : Result (Unit {0}) StepFault) (new : AbstractGateway)
    (Does : AbstractLink → Result (Unit {0}) LinkFault → AbstractLink → Type 0) : Type 0 where
  pub next : AbstractLink
  pub link_answer : Result (Unit {0}) LinkFault
  pub does : Does l link_answer next
  pub answered : answer ≡ step_answer link_answer
  pub there : slice_get new.links k ≡ Some next
  pub policy : new.policy ≡ g.policy

pub at_own : (g : AbstractGateway) (i k : ℕ) (l : AbstractLink) (answer : Result (Unit {0}) StepFault) (new : AbstractGateway)
    (Does : AbstractLink → Result (Unit {0}) LinkFault → AbstractLink → Type 0) → nat_eq i k ≡ true → slice_get g.links k ≡ Some l →
    AtLink g i answer new Does → Does_at g k l answer new Does
at_own g i k l answer new Does is there h =
    let e : i ≡ k = eqb-true i k is in
    let h₁ : AtLink g k answer new Does = subst (λ (j : ℕ). AtLink g j answer new Does) e h in
    let same : h₁.old_link ≡ l = same_Some h₁.old_link l (sym h₁.there ∙ there) in
    record {
      next = h₁.new_link;
      link_answer = h₁.link_answer;
      does = subst (λ (x : AbstractLink). Does x h₁.link_answer h₁.new_link) same h₁.does;
      answered = h₁.answered;
      there = ap (λ (x : AbstractGateway). slice_get x.links k) h₁.others ∙ set_here g.links k h₁.old_link h₁.new_link h₁.there;
      policy = ap (λ (x : AbstractGateway). x.policy) h₁.others;
    }

-- there is no such link, but link k is there
pub not_own : (g : AbstractGateway) (i k : ℕ) (l : AbstractLink) → nat_eq i k ≡ true → slice_get g.links k ≡ Some l → slice_get g.links i ≡ None → ⊥
not_own g i k l is there none =
    let e : i ≡ k = eqb-true i k is in
    none-some l (sym (subst (λ (j : ℕ). slice_get g.links j ≡ None) e none) ∙ there)

-- a step at another link
pub record Stays (g : AbstractGateway) (k : ℕ) (l : AbstractLink) (new : AbstractGateway) : Type 0 where
  pub there : slice_get new.links k ≡ Some l
  pub policy : new.policy ≡ g.policy

pub at_other : (g : AbstractGateway) (i k : ℕ) (l : AbstractLink) (answer : Result (Unit {0}) StepFault) (new : AbstractGateway)
    (Does : AbstractLink → Result (Unit {0}) LinkFault → AbstractLink → Type 0) → nat_eq i k ≡ false → slice_get g.links k ≡ Some l →
    AtLink g i answer new Does → Stays g k l new
at_other g i k l answer new Does other there h = record {
  there = ap (λ (x : AbstractGateway). slice_get x.links k) h.others ∙ set_there g.links i k l h.new_link (eqb-false i k other) there;
  policy = ap (λ (x : AbstractGateway). x.policy) h.others;
}

pub at_none : (g : AbstractGateway) (k : ℕ) (l : AbstractLink) (new : AbstractGateway) → slice_get g.links k ≡ Some l → new ≡ g → Stays g k l new
at_none g k l new there e = record {
  there = ap (λ (x : AbstractGateway). slice_get x.links k) e ∙ there;
  policy = ap (λ (x : AbstractGateway). x.policy) e;
}
