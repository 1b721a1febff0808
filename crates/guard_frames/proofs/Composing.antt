-- Feeding a stream after some of its frames were decided.
use Rattle.std.proofs.Common.{◌≡◌, ◌⊎◌, inl, inr, Bool, true, ℕ, List, ◌++◌, ◌∙◌, ap, sym, refl, subst, length, append_assoc, length-append, arith}
use Rattle.std.specs.Prelude.{Result, Ok, Err}
use Rattle.std.specs.List.{concat, All}
use Rattle.std.proofs.lemmas.List.Elements.{All-append}
use Rattle.std.proofs.lemmas.List.Folds.{concat-append}
use Rattle.guard_frames.specs.Frames.{IsFrame, ConsistsOf}
use Rattle.guard_frames.specs.declared.totals.Totals.{Totals}
use Rattle.guard_frames.specs.Totals.{later, next_number, counted}
use Rattle.guard_frames.specs.Outcomes.{Decision, Outcome, frames_of}
use Rattle.guard_frames.specs.Added.{Added, joined}
use Rattle.guard_frames.specs.Guarding.{text_out, AllAdd, InPart, BreaksOff}
use Rattle.guard_frames.specs.Feeding.{Decides, Takes}
use Rattle.guard_frames.specs.LinkView.{AbstractLink, IsShut}
use Rattle.guard_frames.specs.declared.link.LinkFault.{LinkFault}
use Rattle.guard_frames.specs.declared.link.LinkFault.TheVariants as link
use Rattle.guard_frames.specs.declared.link.Closing.{Closing}
use Rattle.guard_frames.specs.declared.link.Closing.TheVariants.{FrameTooLong, OutFailed, ReportsFailed, TornFrame}
use Rattle.guard_frames.specs.inside.Closing.{link_fault, left_by, Puts, HasFailed, NotedBy}
use Rattle.guard_frames.proofs.Counting.{later_later, counted-append}
use Rattle.guard_frames.proofs.Going.{frames_of-append, text_out-append}
use Rattle.guard_frames.proofs.Progress.{AllAdd-append, number_after}
use Rattle.guard_frames.proofs.Readings.{any_cut}

text_joined : (os ps : List Outcome) (s t : List ℕ) → s ≡ text_out os → t ≡ text_out ps → s ++ t ≡ text_out (os ++ ps)
text_joined os ps s t p q = ap (λ x. x ++ t) p ∙ ap (λ x. text_out os ++ x) q ∙ sym (text_out-append os ps)

-- the frames of a stream were decided, and then those of its rest with a piece after it
pub decides_on : (d : Decision) (n m k : Totals) (s held piece rest : List ℕ) (a b : Added) → Decides d n s held m a → Decides d m (held ++ piece) rest k b →
    Decides d n (s ++ piece) rest k (joined a b)
decides_on d n m k s held piece rest a b x y =
    let os : List Outcome = x.outcomes in
    let ps : List Outcome = y.outcomes in
    let lines : AllAdd (λ _. d) (later (next_number n) (length os)) ps b.reports =
    subst (λ (j : ℕ). AllAdd (λ _. d) j ps b.reports) (number_after n m os x.totals) y.reports in
    record {
      outcomes = os ++ ps;
      split = subst (λ (fs : List (List ℕ)). ConsistsOf (s ++ piece) fs rest) (sym (frames_of-append os ps))
          (any_cut s piece (frames_of os) (frames_of ps) held rest x.split y.split);
      out = text_joined os ps a.out b.out x.out y.out;
      reports = AllAdd-append d (next_number n) os ps a.reports b.reports (omega arith) x.reports lines;
      totals = y.totals ∙ ap (λ j. counted j ps) x.totals ∙ counted-append n os ps;
    }

begins_on : (os ps : List Outcome) (s held piece more : List ℕ) → s ≡ concat (frames_of os) ++ held → held ++ piece ≡ concat (frames_of ps) ++ more →
    s ++ piece ≡ concat (frames_of (os ++ ps)) ++ more
begins_on os ps s held piece more p q =
    ap (λ x. x ++ piece) p ∙ append_assoc (concat (frames_of os)) held piece ∙ ap (λ x. concat (frames_of os) ++ x) q
    ∙ sym (append_assoc (concat (frames_of os)) (concat (frames_of ps)) more)
    ∙ ap (λ x. x ++ more) (sym (concat-append (frames_of os) (frames_of ps)) ∙ ap concat (sym (frames_of-append os ps)))

-- and a sink failed at them
pub breaks_on : (d : Decision) (n m : Totals) (s held piece : List ℕ) (a b : Added) → Decides d n s held m a → BreaksOff (λ _. d) (next_number m) (held ++ piece) b →
    BreaksOff (λ _. d) (next_number n) (s ++ piece) (joined a b)
breaks_on d n m s held piece a b x z =
    let os : List Outcome = x.outcomes in
    let k : ℕ = next_number n in
    let after : next_number m ≡ later k (length os) = number_after n m os x.totals in
    let all : AllAdd (λ _. d) (later k (length os)) z.first z.lines = subst (λ (j : ℕ). AllAdd (λ _. d) j z.first z.lines) after z.all in
    let number : later (next_number m) (length z.first) ≡ later k (length (os ++ z.first)) =
    ap (λ j. later j (length z.first)) after ∙ rw (length-append os z.first) (later_later k (length os) (length z.first)) in
    record {
      first = os ++ z.first;
      next = z.next;
      more = z.more;
      begins = begins_on os z.first s held piece (z.next ++ z.more) x.split.whole z.begins;
      each = subst (All IsFrame) (sym (frames_of-append os z.first)) (All-append IsFrame (frames_of os) (frames_of z.first) x.split.each z.each);
      frame = z.frame;
      lines = a.reports ++ z.lines;
      all = AllAdd-append d k os z.first a.reports z.lines (omega arith) x.reports all;
      part = z.part;
      last = subst (λ (j : ℕ). InPart d j z.next z.part) number z.last;
      out = ap (λ t. a.out ++ t) z.out ∙ sym (append_assoc a.out (text_out z.first) z.part.out)
          ∙ ap (λ t. t ++ z.part.out) (ap (λ t. t ++ text_out z.first) x.out ∙ sym (text_out-append os z.first));
      reports = ap (λ t. a.reports ++ t) z.reports ∙ sym (append_assoc a.reports z.lines z.part.reports);
    }

-- one more piece is taken where the rest of what came before is held
pub puts_on : (d : Decision) (n m k : Totals) (s held piece rest : List ℕ) (result : Result (Unit {0}) Closing) (a b : Added) →
    Decides d n s held m a → Puts d m (held ++ piece) rest k result b → Puts d n (s ++ piece) rest k result (joined a b)
unfolding breaks_on
puts_on d n m k s held piece rest (Ok done) a b x y = (decides_on d n m k s held piece rest a b x y.0, y.1)
puts_on d n m k s held piece rest (Err (FrameTooLong size)) a b x y =
    (record { rest = y.0.rest; decided = decides_on d n m k s held piece y.0.rest a b x y.0.decided; too_long = y.0.too_long }, y.1)
puts_on d n m k s held piece rest (Err OutFailed) a b x y = (
  breaks_on d n m s held piece a b x y.0,
  y.1 ∙ ap (λ (t : Totals). counted t y.0.first) x.totals ∙ counted-append n x.outcomes y.0.first,
)
puts_on d n m k s held piece rest (Err ReportsFailed) a b x y = breaks_on d n m s held piece a b x y
puts_on d n m k s held piece rest (Err (TornFrame count)) a b x y = absurd y

-- ---- what goes wrong closes the link

-- whatever was held
pub puts_closed : (d : Decision) (n m : Totals) (s held rest : List ℕ) (closing : Closing) (a : Added) →
    Puts d n s held m (Err closing) a → Puts d n s rest m (Err closing) a
puts_closed d n m s held rest (FrameTooLong size) a h = h
puts_closed d n m s held rest OutFailed a h = h
puts_closed d n m s held rest ReportsFailed a h = h
puts_closed d n m s held rest (TornFrame count) a h = absurd h

pub takes_closed : (d : Decision) (n : Totals) (s : List ℕ) (new : AbstractLink) (closing : Closing) (a : Added) →
    Puts d n s new.held new.totals (Err closing) a → IsShut new → new.left ≡ left_by closing → Takes d n s new (Err (link_fault closing)) a
takes_closed d n s new (FrameTooLong size) a h shut left = (h.0, shut, left ∙ h.1)
takes_closed d n s new OutFailed a h shut left = (h.0, shut, left)
takes_closed d n s new ReportsFailed a h shut left = (h, shut, left)
takes_closed d n s new (TornFrame count) a h shut left = absurd h

pub told_write_failed : (closing : Closing) (o r : Bool) → HasFailed closing o r
    → ◌≡◌ {A = Result (Unit {0}) LinkFault} (Err (link_fault closing)) (Err link.WriteFailed) → (o ≡ true) ⊎ (r ≡ true)
told_write_failed (FrameTooLong size) o r h e = absurd cc
told_write_failed OutFailed o r h e = inl h
told_write_failed ReportsFailed o r h e = inr h
told_write_failed (TornFrame count) o r h e = absurd cc

pub unlost : (closing : Closing) (So : Added → Type 0) (a : Added) → NotedBy (Err closing) So a
    → (◌≡◌ {A = Result (Unit {0}) LinkFault} (Err (link_fault closing)) (Err link.WriteFailed) → ⊥) → So a
unlost (FrameTooLong size) So a h f = h
unlost OutFailed So a h f = absurd (f refl)
unlost ReportsFailed So a h f = absurd (f refl)
unlost (TornFrame count) So a h f = h
