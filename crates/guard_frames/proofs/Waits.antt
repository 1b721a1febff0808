-- What the loop over some octets has put, where lines wait to be put.
use Rattle.std.proofs.Common.{◌≡◌, ◌⊎◌, ℕ, ◌+◌, ◌-◌, ◌≤◌, List, [], ◌++◌, ◌∙◌, ap, sym, refl, subst, inl, inr, take, drop, length, append_assoc, arith}
use Rattle.std.proofs.lemmas.List.{append-nil}
use Rattle.guard_frames.specs.Prefix.{IsProperPrefix}
use Rattle.guard_frames.specs.declared.totals.Totals.{Totals}
use Rattle.guard_frames.specs.declared.sending.Broken.TheVariants.{Out}
use Rattle.guard_frames.specs.Totals.{after_going, after_staying, next_number}
use Rattle.guard_frames.specs.Outcomes.{Decision, FrameGoes, staying}
use Rattle.guard_frames.specs.Added.{Added, nothing}
use Rattle.guard_frames.specs.Calls.{EndsLine}
use Rattle.guard_frames.specs.Guarding.{Adds, BreaksOff}
use Rattle.guard_frames.specs.inside.Putting.{IsCountOf, IsBroken}
use Rattle.guard_frames.specs.inside.Waiting.{AreLines}
use Rattle.guard_frames.proofs.Appending.{sent_more, reported_more, Prefix_second}
use Rattle.guard_frames.proofs.Asking.{ends_joined}
use Rattle.guard_frames.proofs.Noting.{sent_none}
use Rattle.guard_frames.proofs.Progress.{no_prefix, cuts_one, BreaksAfter}
use Rattle.guard_frames.proofs.Steps.{IsAt, SoFar, between_more, at_first, one_goes, one_stays, breaks_waiting, breaks_report}

-- ---- whole lines

pub no_lines : (s : List ℕ) → s ≡ [] → AreLines s
no_lines s e = λ some. absurd (omega (arith, some, ap length e))

pub more_lines : (s line t : List ℕ) → EndsLine line → t ≡ s ++ line → AreLines t
more_lines s line t ends e = λ some. subst EndsLine (sym e) (ends_joined s line ends)

-- ---- octets that are added

none_reported : (a : Added) (s : List ℕ) → s ≡ [] → reported_more a s ≡ a
none_reported a s e = ap (reported_more a) e ∙ (λ i. record { out = a.out; reports = append-nil a.reports i })

reported_both : (a : Added) (s t : List ℕ) → reported_more (reported_more a s) t ≡ reported_more a (s ++ t)
reported_both a s t = λ i. record { out = a.out; reports = append_assoc a.reports s t i }

-- what was put and waits is what waited and what was added to it
reported_alike : (a : Added) (put left text line : List ℕ) → put ++ left ≡ text ++ line →
    reported_more (reported_more a put) left ≡ reported_more (reported_more a text) line
reported_alike a put left text line e =
    reported_both a put left ∙ ap (reported_more a) e ∙ sym (reported_both a text line)

-- ---- how far the loop has come

-- A sink that fails at these lines breaks the stream off there.
abbrev BreaksAt : Decision → Totals → List ℕ → List ℕ → Added → Type 0
BreaksAt d n s lines added =
    (part : List ℕ) → IsProperPrefix part lines → BreaksOff (λ _. d) (next_number n) s (reported_more added part)

-- These lines wait; with them all up to `sent` is put. While they wait no frame does.
pub record Waits (d : Decision) (n m b : Totals) (s lines : List ℕ) (sent end : ℕ) (added : Added) : Type 0 where
  pub so_far : SoFar d n m b s sent end (reported_more added lines)
  pub breaks : BreaksAt d n s lines added
  pub alone : (lines ≡ []) ⊎ (sent ≡ end)

no_breaks : (d : Decision) (n : Totals) (s lines : List ℕ) (a : Added) → lines ≡ [] → BreaksAt d n s lines a
no_breaks d n s lines a none = λ part inside. absurd (no_prefix part (subst (IsProperPrefix part) none inside))

pub at_start : (d : Decision) (n : Totals) (s lines : List ℕ) → lines ≡ [] → Waits d n n n s lines 0 0 nothing
at_start d n s lines none = record {
  so_far = subst (SoFar d n n n s 0 0) (sym (none_reported nothing lines none)) (at_first d n s);
  breaks = no_breaks d n s lines nothing none;
  alone = inl none;
}

-- no frame waits where lines do
no_frame : (s : List ℕ) (sent end : ℕ) → sent ≡ end → take (end - sent) (drop sent s) ≡ []
no_frame s sent end e =
    let none : end - sent ≡ 0 = omega (arith, e) in
    ap (λ k. take k (drop sent s)) none

-- frames that wait are put
pub frames_put : (d : Decision) (n m b : Totals) (s lines : List ℕ) (sent end : ℕ) (a : Added) → Waits d n m b s lines sent end a →
    BreaksAt d n s lines (sent_more a (take (end - sent) (drop sent s)))
frames_put d n m b s lines sent end a h = elim h.alone [
  | inl none ↦ no_breaks d n s lines (sent_more a (take (end - sent) (drop sent s))) none
  | inr same ↦ subst (BreaksAt d n s lines) (sym (sent_none a (take (end - sent) (drop sent s)) (no_frame s sent end same))) h.breaks
]

-- a sink fails at them
pub frames_break : (d : Decision) (n m b k : Totals) (s lines part : List ℕ) (sent end : ℕ) (a : Added) → Waits d n m b s lines sent end a →
    IsProperPrefix part (take (end - sent) (drop sent s)) → IsCountOf b part k → BreaksAfter d n s k (sent_more a part)
frames_break d n m b k s lines part sent end a h inside count = elim h.alone [
  | inl none ↦
      breaks_waiting d n m b k s part sent end a (subst (SoFar d n m b s sent end) (none_reported a lines none) h.so_far) inside count
  | inr same ↦ absurd (no_prefix part (subst (IsProperPrefix part) (no_frame s sent end same) inside))
]

-- no lines wait then
none_wait : (d : Decision) (n m b : Totals) (s lines part : List ℕ) (sent end : ℕ) (a : Added) → Waits d n m b s lines sent end a →
    IsProperPrefix part (take (end - sent) (drop sent s)) → a.reports ++ lines ≡ a.reports
none_wait d n m b s lines part sent end a h inside = elim h.alone [
  | inl none ↦ ap (λ x. a.reports ++ x) none ∙ append-nil a.reports
  | inr same ↦ absurd (no_prefix part (subst (IsProperPrefix part) (no_frame s sent end same) inside))
]

-- what was put, and the frames and lines that wait
abbrev pub so_far_told : Added → List ℕ → List ℕ → ℕ → ℕ → Added
so_far_told a s lines sent end = reported_more (sent_more a (take (end - sent) (drop sent s))) lines

-- so all that is reported is out
pub broken_out : (d : Decision) (n m b k : Totals) (s lines part : List ℕ) (sent end : ℕ) (a : Added) (So : Added → Type 0) → Waits d n m b s lines sent end a →
    IsProperPrefix part (take (end - sent) (drop sent s)) → IsCountOf b part k → So (so_far_told a s lines sent end) →
    IsBroken d n s (Out k) (sent_more a part) So
broken_out d n m b k s lines part sent end a So h inside count so =
    let x = frames_break d n m b k s lines part sent end a h inside count in
    let out : a.out ++ take (end - sent) (drop sent s) ≡ (a.out ++ part) ++ inside.more =
    sym (append_assoc a.out part inside.more ∙ ap (λ z. a.out ++ z) inside.joined) in
    let told : so_far_told a s lines sent end ≡ sent_more (sent_more a part) inside.more =
    λ i. record { out = out i; reports = none_wait d n m b s lines part sent end a h inside i } in
    (x.0, x.1, inside.more, subst So told so)

-- ---- what a watch is told

-- one more frame that goes, where lines that waited are put
pub told_going : (s f lines left : List ℕ) (sent end : ℕ) (a : Added) → sent ≤ end → IsAt s end f → left ≡ [] →
    sent_more (so_far_told a s lines sent end) f ≡ so_far_told (reported_more a lines) s left sent (end + length f)
told_going s f lines left sent end a le at none =
    let waiting : List ℕ = take (end - sent) (drop sent s) in
    let out : (a.out ++ waiting) ++ f ≡ a.out ++ take (end + length f - sent) (drop sent s) =
    append_assoc a.out waiting f ∙ ap (λ x. a.out ++ x) (sym (between_more sent end s f le at)) in
    let reports : a.reports ++ lines ≡ (a.reports ++ lines) ++ left =
    sym (ap (λ x. (a.reports ++ lines) ++ x) none ∙ append-nil (a.reports ++ lines)) in
    λ i. record { out = out i; reports = reports i }

-- or one that stays, where frames that waited are put, and of its line and of those before it some are left
pub told_staying : (s lines line put left : List ℕ) (sent end next : ℕ) (a : Added) → put ++ left ≡ lines ++ line →
    reported_more (so_far_told a s lines sent end) line
    ≡ so_far_told (reported_more (sent_more a (take (end - sent) (drop sent s))) put) s left next next
told_staying s lines line put left sent end next a same =
    let front : List ℕ = a.out ++ take (end - sent) (drop sent s) in
    let out : front ≡ front ++ take (next - next) (drop next s) =
    sym (ap (λ x. front ++ x) (no_frame s next next refl) ∙ append-nil front) in
    let reports : (a.reports ++ lines) ++ line ≡ (a.reports ++ put) ++ left =
    append_assoc a.reports lines line ∙ ap (λ x. a.reports ++ x) (sym same) ∙ sym (append_assoc a.reports put left) in
    λ i. record { out = out i; reports = reports i }

-- The lines are put, and then a frame goes.
pub goes_next : (d : Decision) (n m c k : Totals) (s f lines left : List ℕ) (sent end : ℕ) (a : Added) → Waits d n m c s lines sent end a → IsAt s end f →
    FrameGoes d f → k ≡ after_going m → left ≡ [] → Waits d n k c s left sent (end + length f) (reported_more a lines)
goes_next d n m c k s f lines left sent end a h at goes counts none =
    let b : Added = reported_more a lines in
    record {
      so_far = subst (SoFar d n k c s sent (end + length f)) (sym (none_reported b left none)) (one_goes d n m c k s f sent end b h.so_far at goes counts);
      breaks = no_breaks d n s left b none;
      alone = inl none;
    }

-- A frame stays, and frames before it were put: a sink fails at the lines that wait or at its own.
pub line_breaks : (d : Decision) (n m c : Totals) (s f lines line part : List ℕ) (sent end : ℕ) (a : Added) → Waits d n m c s lines sent end a → IsAt s end f →
    Adds d (next_number m) (staying f) line → IsProperPrefix part (lines ++ line) →
    BreaksOff (λ _. d) (next_number n) s (reported_more (sent_more a (take (end - sent) (drop sent s))) part)
line_breaks d n m c s f lines line part sent end a h at adds inside =
    let b : Added = sent_more a (take (end - sent) (drop sent s)) in
    elim (cuts_one lines line part inside) [
      | inl waits ↦ frames_put d n m c s lines sent end a h part waits
      | inr cut ↦
          subst (BreaksOff (λ _. d) (next_number n) s) (reported_both b lines cut.0 ∙ ap (reported_more b) (sym cut.1))
          (breaks_report d n m c s f line cut.0 sent end (reported_more a lines) h.so_far at adds cut.2)
    ]

-- What was put of its line and of those before it, and what is left of them waits.
pub stays_next : (d : Decision) (n m c k : Totals) (s f lines line put left : List ℕ) (sent end : ℕ) (a : Added) → Waits d n m c s lines sent end a → IsAt s end f →
    Adds d (next_number m) (staying f) line → k ≡ after_staying m → put ++ left ≡ lines ++ line →
    Waits d n k k s left (end + length f) (end + length f) (reported_more (sent_more a (take (end - sent) (drop sent s))) put)
stays_next d n m c k s f lines line put left sent end a h at adds counts same =
    let b : Added = sent_more a (take (end - sent) (drop sent s)) in
    record {
      so_far = subst (SoFar d n k k s (end + length f) (end + length f)) (sym (reported_alike b put left lines line same))
          (one_stays d n m c k s f line sent end (reported_more a lines) h.so_far at adds counts);
      breaks = λ part inside.
          let inside₁ : IsProperPrefix (put ++ part) (lines ++ line) = subst (IsProperPrefix (put ++ part)) same (Prefix_second part put left inside) in
          subst (BreaksOff (λ _. d) (next_number n) s) (sym (reported_both b put part))
          (line_breaks d n m c s f lines line (put ++ part) sent end a h at adds inside₁);
      alone = inr refl;
    }
