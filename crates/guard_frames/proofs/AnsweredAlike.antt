-- Which frames are answered to go.
use Rattle.std.proofs.Common.{◌≡◌, ℕ, true, List, [], ◌∷◌, ◌∙◌, ap, refl, sym, subst, drop, inl, inr}
use Rattle.guard_frames.specs.Totals.{later}
use Rattle.guard_frames.specs.Outcomes.{Decision, FrameGoes, Outcome, frames_of}
use Rattle.guard_frames.specs.Guarding.{Adds, AllAdd, StaysDecided, StaysBadHeader}
use Rattle.guard_frames.specs.Answering.{Answers, AllAnswer}
use Rattle.guard_frames.proofs.HeaderLaws.{one_body}

first_frame : (x y : List ℕ) (xs ys : List (List ℕ)) → ◌≡◌ {A = List (List ℕ)} (x ∷ xs) (y ∷ ys) → x ≡ y
first_frame x y xs ys e = cc

other_frames : (x y : List ℕ) (xs ys : List (List ℕ)) → ◌≡◌ {A = List (List ℕ)} (x ∷ xs) (y ∷ ys) → xs ≡ ys
other_frames x y xs ys e = cc

no_frame : (y : List ℕ) (ys : List (List ℕ)) → ◌≡◌ {A = List (List ℕ)} [] (y ∷ ys) → ⊥
no_frame y ys e = cc

-- a frame that goes isn't decided to stay
not_decided : (d : Decision) (n : ℕ) (o : Outcome) (line : List ℕ) → FrameGoes d o.frame → StaysDecided d n o line → ⊥
not_decided d n o line go h = h.decided (subst d.LetsGo (one_body (drop 4 o.frame) go.body h.body go.is h.is) go.decided)

not_bad : (d : Decision) (n : ℕ) (o : Outcome) (line : List ℕ) → FrameGoes d o.frame → StaysBadHeader n o line → ⊥
not_bad d n o line go h = h.none go.body go.is

-- what is answered to go goes, and nothing else does
pub answered_goes : (d : Decision) (n : ℕ) (o : Outcome) (line : List ℕ) → Answers d n o line → FrameGoes d o.frame → o.goes ≡ true
answered_goes d n o line (inl x) go = x.out
answered_goes d n o line (inr (inl x)) go = absurd (not_decided d n o line go x)
answered_goes d n o line (inr (inr x)) go = absurd (not_bad d n o line go x)

same_answer : (d : Decision) (n m : ℕ) (o a : Outcome) (line answer : List ℕ) → Adds d n o line → Answers d m a answer → o.frame ≡ a.frame
    → o.goes ≡ a.goes
same_answer d n m o a line answer (inl x) h e = x.out ∙ sym (answered_goes d m a answer h (subst (FrameGoes d) e x.goes))
same_answer d n m o a line answer (inr (inl x)) (inl y) e =
    absurd (not_decided d n o line (subst (FrameGoes d) (sym e) y.goes) x)
same_answer d n m o a line answer (inr (inl x)) (inr (inl y)) e = x.stays ∙ sym y.stays
same_answer d n m o a line answer (inr (inl x)) (inr (inr y)) e = x.stays ∙ sym y.stays
same_answer d n m o a line answer (inr (inr x)) (inl y) e =
    absurd (not_bad d n o line (subst (FrameGoes d) (sym e) y.goes) x)
same_answer d n m o a line answer (inr (inr x)) (inr (inl y)) e = x.stays ∙ sym y.stays
same_answer d n m o a line answer (inr (inr x)) (inr (inr y)) e = x.stays ∙ sym y.stays

same_outcome : (o a : Outcome) → o.frame ≡ a.frame → o.goes ≡ a.goes → o ≡ a
same_outcome o a e f = λ i. record { frame = e i; goes = f i }

pub same_outcomes : (d : Decision) (n m : ℕ) (os bs : List Outcome) (text answers : List ℕ) → AllAdd (λ _. d) n os text → AllAnswer d m bs answers
    → frames_of os ≡ frames_of bs → os ≡ bs
same_outcomes d n m [] [] text answers p q e = refl
same_outcomes d n m [] (a ∷ bs) text answers p q e = absurd (no_frame a.frame (frames_of bs) e)
same_outcomes d n m (o ∷ os) [] text answers p q e = absurd (no_frame o.frame (frames_of os) (sym e))
same_outcomes d n m (o ∷ os) (a ∷ bs) text answers p q e =
    let frame : o.frame ≡ a.frame = first_frame o.frame a.frame (frames_of os) (frames_of bs) e in
    let one : o ≡ a = same_outcome o a frame (same_answer d n m o a p.0 q.0 p.3 q.3 frame) in
    let others : os ≡ bs = same_outcomes d (later n 1) (later m 1) os bs p.1 q.1 p.4 q.4
    (other_frames o.frame a.frame (frames_of os) (frames_of bs) e) in
    ap (λ x. x ∷ os) one ∙ ap (λ xs. a ∷ xs) others
