-- What is answered of a frame, by what becomes of it.
use Rattle.std.proofs.Common.{◌≡◌, ℕ, List, ap, sym, refl, subst, drop, inl, inr}
use Rattle.std.specs.Prelude.{Some}
use Rattle.std.proofs.lemmas.Bool.{false≢true}
use Rattle.guard_frames.specs.Bodies.{AbstractBody, IsBody, parts_in}
use Rattle.guard_frames.specs.Outcomes.{Decision, BodyGoes, FrameGoes, going, staying}
use Rattle.guard_frames.specs.Guarding.{Adds}
use Rattle.guard_frames.specs.Answering.{pass_line, Answers}
use Rattle.guard_frames.proofs.HeaderLaws.{same_parts}

-- what is in the places of its names, where a body goes, is that body
pub body_that_goes : (d : Decision) (octets : List ℕ) (b : AbstractBody) → BodyGoes d octets → Some b ≡ parts_in octets → IsBody octets b
body_that_goes d octets b go there = subst (IsBody octets) (same_parts octets b go.body there go.is) go.is

-- the line of the frame is the one that says so
pub passes_by : (d : Decision) (n : ℕ) (frame octets : List ℕ) (b : AbstractBody) → octets ≡ drop 4 frame → BodyGoes d octets → Some b ≡ parts_in octets
    → Answers d n (going frame) (pass_line n b)
passes_by d n frame octets b same go there =
    let goes : FrameGoes d frame = subst (BodyGoes d) same go in
    let one : goes.body ≡ b = same_parts (drop 4 frame) b goes.body (subst (λ (o : List ℕ). Some b ≡ parts_in o) same there) goes.is in
    inl (record { out = refl; goes = goes; text = sym (ap (pass_line n) one) })

-- what is reported of a frame that stays is answered
pub stays_by : (d : Decision) (n : ℕ) (frame line : List ℕ) → Adds d n (staying frame) line → Answers d n (staying frame) line
stays_by d n frame line (inl x) = absurd (false≢true x.out)
stays_by d n frame line (inr x) = inr x
