-- The frames of a stream, answered one after another, and how that ends.
use Rattle.std.proofs.Common.{◌≡◌, ◌∙◌, ◌<◌, ◌^◌, ◌⊎◌, inl, inr, ℕ, Bool, true, List, [], ◌∷◌, ◌++◌, ap, refl, sym, subst, length, arith, append_assoc}
use Rattle.std.specs.Prelude.{Option}
use Rattle.std.specs.List.{concat, All}
use Rattle.std.specs.Io.KnownBytes.{Appends, Consumes, IsAtEnd}
use Rattle.std.proofs.lemmas.List.{append-nil}
use Rattle.std.proofs.lemmas.List.Folds.{concat-append}
use Rattle.guard_frames.specs.declared.running.RunFault.{RunFault}
use Rattle.guard_frames.specs.declared.running.RunFault.TheVariants.{FrameTooLong, WriteFailed, TornFrame, ReadFailed, OutOfMemory}
use Rattle.guard_frames.specs.declared.totals.Totals.{Totals}
use Rattle.guard_frames.specs.Answering.{Answers, AllAnswer}
use Rattle.guard_frames.specs.Frames.{IsFrame, IsTooLong, IsUnfinished}
use Rattle.guard_frames.specs.Outcomes.{Decision, Outcome, frames_of}
use Rattle.guard_frames.specs.Prefix.{IsProperPrefix}
use Rattle.guard_frames.specs.Totals.{later, WentUpBy, no_frames, next_number, counted_one, counted}
use Rattle.guard_frames.proofs.Appending.{Appends_none, Appends_trans}
use Rattle.guard_frames.proofs.Counting.{counted-append, counts}
use Rattle.guard_frames.proofs.Elements.{All_none, All_more}
use Rattle.guard_frames.proofs.Going.{frames_of-append}
use Rattle.guard_frames.proofs.Progress.{number_after}
use Rattle.guard_frames.proofs.Reading.{Consumes_none, Consumes_trans}
use Rattle.guard_frames.proofs.Holding.{empty_unfinished}
use Rattle.guard_files.specs.Devices.{input_of, device}
use Rattle.guard_files.specs.NextFrame.{IsNoFrame}
use Rattle.guard_streams.specs.Answered.{AreAnswered, AnswersAll, AnswersInPart, StopsAnswering}

-- one more line
pub answered_more : (d : Decision) (n : ℕ) (os : List Outcome) (text : List ℕ) (o : Outcome) (line : List ℕ) → n < 2 ^ 64
    → AllAnswer d n os text → Answers d (later n (length os)) o line → AllAnswer d n (os ++ o ∷ []) (text ++ line)
answered_more d n [] text o line fits p q =
    let e : later n 0 ≡ n = omega (arith, fits) in (
      line,
      [],
      ap (λ s. s ++ line) p ∙ sym (append-nil line),
      subst (λ (k : ℕ). Answers d k o line) e q,
      refl,
    )
answered_more d n (x ∷ os) text o line fits (a, b, joined, first, others) q =
    let e : later n (length (x ∷ os)) ≡ later (later n 1) (length os) = omega arith in (
      a,
      b ++ line,
      ap (λ s. s ++ line) joined ∙ append_assoc a b line,
      first,
      answered_more d (later n 1) os b o line (omega arith) others (subst (λ (k : ℕ). Answers d k o line) e q),
    )

-- These frames were read and answered, and all lines are out.
pub record AnsweredSoFar (d : Decision) (a b o o₁ : Option (List ℕ)) (m : Totals) : Type 0 where
  pub outcomes : List Outcome
  pub text : List ℕ
  pub given : Consumes a b (concat (frames_of outcomes))
  pub each : All IsFrame (frames_of outcomes)
  pub answers : AllAnswer d 1 outcomes text
  pub sent : Appends o o₁ text
  pub totals : m ≡ counted no_frames outcomes

pub none_answered : (d : Decision) (a o : Option (List ℕ)) (m : Totals) → m ≡ no_frames → AnsweredSoFar d a a o o m
none_answered d a o m is = record {
  outcomes = [];
  text = [];
  given = Consumes_none a;
  each = All_none IsFrame;
  answers = refl;
  sent = Appends_none o;
  totals = is;
}

module _ (d : Decision) (a b o o₁ : Option (List ℕ)) (m : Totals) (so_far : AnsweredSoFar d a b o o₁ m) where
  frames_more : (x : Outcome) → frames_of (so_far.outcomes ++ x ∷ []) ≡ frames_of so_far.outcomes ++ x.frame ∷ []
  frames_more x = frames_of-append so_far.outcomes (x ∷ [])

  joined_more : (x : Outcome) → concat (frames_of (so_far.outcomes ++ x ∷ [])) ≡ concat (frames_of so_far.outcomes) ++ x.frame
  joined_more x =
      ap concat (frames_more x) ∙ concat-append (frames_of so_far.outcomes) (x.frame ∷ [])
      ∙ ap (λ s. concat (frames_of so_far.outcomes) ++ s) (append-nil x.frame)

  -- the number of the next one
  number : next_number m ≡ later 1 (length so_far.outcomes)
  number = number_after no_frames m so_far.outcomes so_far.totals

  pub one_answered : (c o₂ : Option (List ℕ)) (x : Outcome) (line : List ℕ) (n : ℕ) (k : Totals) → IsFrame x.frame
      → Consumes b c x.frame → n ≡ next_number m → Answers d n x line → Appends o₁ o₂ line → k ≡ counted_one m x
      → AnsweredSoFar d a c o o₂ k
  one_answered c o₂ x line n k frame read is answer sent count = record {
    outcomes = so_far.outcomes ++ x ∷ [];
    text = so_far.text ++ line;
    given = subst (λ (s : List ℕ). Consumes a c s) (sym (joined_more x))
        (Consumes_trans a b c (concat (frames_of so_far.outcomes)) x.frame so_far.given read);
    each = subst (All IsFrame) (sym (frames_more x)) (All_more IsFrame (frames_of so_far.outcomes) x.frame so_far.each frame);
    answers = answered_more d 1 so_far.outcomes so_far.text x line (omega arith) so_far.answers
        (subst (λ (j : ℕ). Answers d j x line) (is ∙ number) answer);
    sent = Appends_trans o o₁ o₂ so_far.text line so_far.sent sent;
    totals = count ∙ ap (λ (t : Totals). counted_one t x) so_far.totals ∙ counted-append no_frames so_far.outcomes (x ∷ []);
  }

  pub answered_to : (c : Option (List ℕ)) (y z : ℕ) (failed f : Bool) (rest : List ℕ) (IsRest : List ℕ → Type 0)
      → Consumes b c rest → IsUnfinished rest ⊎ IsTooLong rest → IsRest rest
      → AreAnswered d (input_of a c y z failed) (device o o₁ f) IsRest
  answered_to c y z failed f rest IsRest read left is = record {
    read = concat (frames_of so_far.outcomes) ++ rest;
    given = Consumes_trans a b c (concat (frames_of so_far.outcomes)) rest so_far.given read;
    outcomes = so_far.outcomes;
    rest = rest;
    split = record { whole = refl; each = so_far.each; left = left };
    text = so_far.text;
    answers = so_far.answers;
    sent = so_far.sent;
    last = is;
  }

  pub answers_all : (c : Option (List ℕ)) (y z : ℕ) (failed f : Bool) → Consumes b c [] → IsAtEnd c
      → AnswersAll d m (input_of a c y z failed) (device o o₁ f)
  unfolding answered_to
  answers_all c y z failed f read at_end = record {
    all = answered_to c y z failed f [] (λ rest. rest ≡ []) read (inl empty_unfinished) refl;
    counts = counts so_far.outcomes m so_far.totals;
    at_end = at_end;
  }

  -- no more can be read
  pub none_asked : (fault : RunFault) (c : Option (List ℕ)) (y z reads : ℕ) (failed f : Bool) (rest : List ℕ)
      → Consumes b c rest → IsNoFrame fault rest (IsAtEnd c) failed reads → (reads ≡ 0 → WentUpBy y (2 ^ 40) z)
      → StopsAnswering fault d (input_of a c y z failed) (device o o₁ f)
  none_asked FrameTooLong c y z reads failed f rest read why asked =
      answered_to c y z failed f rest _ read (inr why.0) why
  none_asked TornFrame c y z reads failed f rest read why asked =
      answered_to c y z failed f rest _ read (inl why.1) why
  none_asked ReadFailed c y z reads failed f rest read why asked =
      answered_to c y z failed f rest _ read (inl why.0) (why.0, elim why.1 [ inl x ↦ inl x | inr x ↦ inr (asked x) ])
  none_asked WriteFailed c y z reads failed f rest read why asked = absurd why
  none_asked OutOfMemory c y z reads failed f rest read why asked = absurd why

  -- standard output fails in the next line
  pub answered_in_part : (c o₂ : Option (List ℕ)) (y z : ℕ) (failed f : Bool) (x : Outcome) (line part : List ℕ) (n : ℕ)
      → IsFrame x.frame → Consumes b c x.frame → n ≡ next_number m → Answers d n x line → IsProperPrefix part line
      → Appends o₁ o₂ part → f ≡ true → AnswersInPart d (input_of a c y z failed) (device o o₂ f)
  answered_in_part c o₂ y z failed f x line part n frame read is answer inside sent broken = record {
    first = so_far.outcomes;
    next = x;
    given = Consumes_trans a b c (concat (frames_of so_far.outcomes)) x.frame so_far.given read;
    each = so_far.each;
    frame = frame;
    lines = so_far.text;
    answers = so_far.answers;
    line = line;
    answer = subst (λ (j : ℕ). Answers d j x line) (is ∙ number) answer;
    part = part;
    inside = inside;
    sent = Appends_trans o o₁ o₂ so_far.text part so_far.sent sent;
    failed = broken;
  }
