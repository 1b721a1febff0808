-- What the contract of a run says is the headline.
use Rattle.std.proofs.Common.{◌≡◌, ℕ, List, [], ◌∷◌, ◌++◌, ◌∙◌, ap, sym, refl, subst, false, true, Ok, inl, inr}
use Rattle.std.proofs.lemmas.Bool.{false≢true}
use Rattle.guard_policy.specs.Policies.{AbstractPolicy}
use Rattle.guard_frames.specs.declared.totals.Totals.{Totals}
use Rattle.guard_frames.specs.Frames.{ConsistsOf}
use Rattle.guard_frames.specs.Totals.{later}
use Rattle.guard_frames.specs.Outcomes.{FrameGoes, Outcome, going, staying, frames_of}
use Rattle.guard_frames.specs.Added.{Added}
use Rattle.guard_frames.specs.Guarding.{text_out, Adds, AllAdd}
use Rattle.guard_frames.specs.OfPolicy.{decision_of}
use Rattle.guard_frames.specs.Runs.{RunsAll, RunsToEnd}
use Rattle.guard_frames.specs.RunsTexts.{RunsTexts}
use Rattle.guard_frames.specs.Headline.{MayGo, Guards, IsGuarded, Headline}
use Rattle.guard_frames.proofs.GoesExactly.{goes_exactly}

goes_of : (p : AbstractPolicy) (frame : List ℕ) → MayGo p frame → FrameGoes (decision_of p) frame
goes_of p frame (b, is, t, v, named, fits, encoded, member, allowed, denied) =
    record { body = b; is = is; decided = (t, v, named, fits, encoded, member, allowed, denied) }

may_go : (p : AbstractPolicy) (frame : List ℕ) → FrameGoes (decision_of p) frame → MayGo p frame
may_go p frame go =
    let d = go.decided in (go.body, go.is, d.0, d.1, d.2, d.3, d.4, d.5, d.6, d.7)

-- what goes out of a first frame that goes, and of one that stays
out_going : (o : Outcome) (os : List Outcome) → o.goes ≡ true → text_out (o ∷ os) ≡ o.frame ++ text_out os
out_going o os e =
    let one : o ≡ going o.frame = λ i. record { frame = o.frame; goes = e i } in
    ap (λ (x : Outcome). text_out (x ∷ os)) one

out_staying : (o : Outcome) (os : List Outcome) → o.goes ≡ false → text_out (o ∷ os) ≡ text_out os
out_staying o os e =
    let one : o ≡ staying o.frame = λ i. record { frame = o.frame; goes = e i } in
    ap (λ (x : Outcome). text_out (x ∷ os)) one

stays : (p : AbstractPolicy) (n : ℕ) (o : Outcome) (line : List ℕ) → Adds (decision_of p) n o line → o.goes ≡ false →
    MayGo p o.frame → ⊥
stays p n o line adds e go =
    absurd (false≢true (sym e ∙ (goes_exactly (decision_of p) n o line adds).1 (goes_of p o.frame go)))

one_more : (p : AbstractPolicy) (n : ℕ) (o : Outcome) (os : List Outcome) (line lines reports : List ℕ) → reports ≡ line ++ lines
    → Adds (decision_of p) n o line → Guards p (later n 1) (frames_of os) (text_out os) lines
    → Guards p n (frames_of (o ∷ os)) (text_out (o ∷ os)) reports
one_more p n o os line lines reports e (inl x) more =
    let same : reports ≡ lines = e ∙ ap (λ l. l ++ lines) x.text in
    inl (
      may_go p o.frame x.goes,
      text_out os,
      out_going o os x.out,
      subst (λ r. Guards p (later n 1) (frames_of os) (text_out os) r) (sym same) more,
    )
one_more p n o os line lines reports e (inr (inl x)) more = inr (
  stays p n o line (inr (inl x)) x.stays,
  line,
  lines,
  inl (x.body, x.is, x.text),
  e,
  subst (λ t. Guards p (later n 1) (frames_of os) t lines) (sym (out_staying o os x.stays)) more,
)
one_more p n o os line lines reports e (inr (inr x)) more = inr (
  stays p n o line (inr (inr x)) x.stays,
  line,
  lines,
  inr (x.none, x.text),
  e,
  subst (λ t. Guards p (later n 1) (frames_of os) t lines) (sym (out_staying o os x.stays)) more,
)

guards : (p : AbstractPolicy) (n : ℕ) (os : List Outcome) (reports : List ℕ) → AllAdd (λ _. decision_of p) n os reports
    → Guards p n (frames_of os) (text_out os) reports
guards p n [] reports e = (refl, e)
guards p n (o ∷ os) reports (line, lines, e, adds, more) =
    one_more p n o os line lines reports e adds (guards p (later n 1) os lines more)

pub guarded : (p : AbstractPolicy) (read : List ℕ) (totals : Totals) (added : Added)
    → RunsToEnd (decision_of p) read totals added → IsGuarded p read added
guarded p read totals added h =
    let run : RunsAll (decision_of p) read added (λ rest. rest ≡ []) = h.all in (
      frames_of run.outcomes,
      subst (λ rest. ConsistsOf read (frames_of run.outcomes) rest) run.last run.split,
      subst (λ out. Guards p 1 (frames_of run.outcomes) out added.reports) (sym run.out)
          (guards p 1 run.outcomes added.reports run.reports),
    )

pub headline : (modules : List (List ℕ)) (text read : List ℕ) (Ended : Type 0) (totals : Totals) (added : Added)
    → RunsTexts modules text read Ended (Ok totals) added → Headline modules text read added
headline modules text read Ended totals added h p say = guarded p read totals added (h.under p say).0
