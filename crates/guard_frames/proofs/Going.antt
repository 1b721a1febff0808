-- Outcomes: frames that all go, one that stays, and what goes out of them.
use Rattle.std.proofs.Common.{◌≡◌, ℕ, List, [], ◌∷◌, ◌++◌, ◌∙◌, ap, refl, Bool}
use Rattle.std.specs.List.{concat, filter}
use Rattle.std.proofs.lemmas.List.{map-append, append-nil}
use Rattle.std.proofs.lemmas.List.Elements.{filter-append}
use Rattle.std.proofs.lemmas.List.Folds.{concat-append}
use Rattle.guard_frames.specs.Outcomes.{Outcome, going, staying, frames_of}
pub use Rattle.guard_frames.specs.Outcomes.{all_going}
use Rattle.guard_frames.specs.Guarding.{text_out}

pub frames_of-append : (os ps : List Outcome) → frames_of (os ++ ps) ≡ frames_of os ++ frames_of ps
frames_of-append os ps = map-append (λ (o : Outcome). o.frame) os ps

pub text_out-append : (os ps : List Outcome) → text_out (os ++ ps) ≡ text_out os ++ text_out ps
text_out-append os ps =
    let goes : Outcome → Bool = λ o. o.goes in
    ap (λ (xs : List Outcome). concat (frames_of xs)) (filter-append goes os ps)
    ∙ ap concat (frames_of-append (filter goes os) (filter goes ps))
    ∙ concat-append (frames_of (filter goes os)) (frames_of (filter goes ps))

pub text_out_staying : (os : List Outcome) (f : List ℕ) → text_out (os ++ staying f ∷ []) ≡ text_out os
text_out_staying os f = text_out-append os (staying f ∷ []) ∙ append-nil (text_out os)

-- ---- frames that all go

pub frames_going : (fs : List (List ℕ)) → frames_of (all_going fs) ≡ fs
frames_going [] = refl
frames_going (f ∷ fs) = ap (λ xs. f ∷ xs) (frames_going fs)

pub text_going : (fs : List (List ℕ)) → text_out (all_going fs) ≡ concat fs
text_going [] = refl
text_going (f ∷ fs) = ap (λ x. f ++ x) (text_going fs)

pub all_going_more : (fs : List (List ℕ)) (f : List ℕ) → all_going (fs ++ f ∷ []) ≡ all_going fs ++ going f ∷ []
all_going_more [] f = refl
all_going_more (g ∷ fs) f = ap (λ os. going g ∷ os) (all_going_more fs f)

-- the frames of some outcomes and of frames that all go after them
pub frames_then_going : (os : List Outcome) (fs : List (List ℕ)) → frames_of (os ++ all_going fs) ≡ frames_of os ++ fs
frames_then_going os fs = frames_of-append os (all_going fs) ∙ ap (λ xs. frames_of os ++ xs) (frames_going fs)

pub text_then_going : (os : List Outcome) (fs : List (List ℕ)) → text_out (os ++ all_going fs) ≡ text_out os ++ concat fs
text_then_going os fs = text_out-append os (all_going fs) ∙ ap (λ x. text_out os ++ x) (text_going fs)
