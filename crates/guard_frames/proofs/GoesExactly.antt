-- Which frames go out.
use Rattle.std.proofs.Common.{◌≡◌, ℕ, List, ◌∙◌, ◌↔◌, sym, subst, drop, true, false, inl, inr}
use Rattle.std.proofs.lemmas.Bool.{false≢true}
use Rattle.guard_frames.specs.Bodies.{AbstractBody, IsBody}
use Rattle.guard_frames.specs.Outcomes.{Decision, FrameGoes, Outcome}
use Rattle.guard_frames.specs.Guarding.{Adds}
use Rattle.guard_frames.proofs.HeaderLaws.{one_body}

-- a frame that stays, and whose body is decided to stay
stays_exactly : (d : Decision) (o : Outcome) (b : AbstractBody) → o.goes ≡ false → IsBody (drop 4 o.frame) b → (d.LetsGo b → ⊥) →
    (o.goes ≡ true) ↔ FrameGoes d o.frame
stays_exactly d o b stays is decided = (
  λ e. absurd (false≢true (sym stays ∙ e)),
  λ go. absurd (decided (subst d.LetsGo (one_body (drop 4 o.frame) go.body b go.is is) go.decided)),
)

pub goes_exactly : (d : Decision) (n : ℕ) (o : Outcome) (line : List ℕ) → Adds d n o line → (o.goes ≡ true) ↔ FrameGoes d o.frame
goes_exactly d n o line (inl x) = (λ e. x.goes, λ go. x.out)
goes_exactly d n o line (inr (inl x)) = stays_exactly d o x.body x.stays x.is x.decided
goes_exactly d n o line (inr (inr x)) = (λ e. absurd (false≢true (sym x.stays ∙ e)), λ go. absurd (x.none go.body go.is))
