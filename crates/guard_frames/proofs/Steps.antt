-- What the loop over some octets has put and what waits to be put, in the terms of the loop's reads.
use Rattle.std.proofs.Common.{◌≡◌, ◌≤◌, ◌⊎◌, ℕ, ◌+◌, ◌-◌, List, [], ◌∷◌, ◌++◌, ◌∙◌, ap, sym, refl, subst, inl, inr, take, drop, length, length-drop, arith}
use Rattle.std.specs.Prelude.{Result, OnErr, Ok, Err}
use Rattle.std.proofs.lemmas.List.{take_rest, take-append-drop, drop-drop}
use Rattle.std.proofs.Math.Seq.{take-add}
use Rattle.guard_frames.specs.Frames.{IsFrame, IsUnfinished, IsTooLong}
use Rattle.guard_frames.specs.Prefix.{IsProperPrefix}
use Rattle.guard_frames.specs.declared.cut.Frame.{Frame}
use Rattle.guard_frames.specs.declared.cut.Rest.{Rest}
use Rattle.guard_frames.specs.declared.cut.Rest.TheVariants.{Unfinished, TooLong}
use Rattle.guard_frames.specs.declared.totals.Totals.{Totals}
use Rattle.guard_frames.specs.Totals.{after_going, after_staying, next_number, counted}
use Rattle.guard_frames.specs.Outcomes.{Decision, FrameGoes, Outcome, staying}
use Rattle.guard_frames.specs.Added.{Added, nothing}
use Rattle.guard_frames.specs.Guarding.{Adds, BreaksOff}
use Rattle.guard_frames.specs.Cutting.{IsRest, IsFirst}
use Rattle.guard_frames.specs.inside.Putting.{ArePut, IsCountOf}
use Rattle.guard_frames.proofs.Appending.{sent_more, reported_more}
use Rattle.guard_frames.proofs.Going.{all_going}
use Rattle.guard_frames.proofs.Progress.{Decided, AllGo, AllGo_none, AllGo_more, going_counted, decided_none, decided_going, decided_staying, BreaksAfter, breaks_going, breaks_staying}

pub on_err_of : {A E P : Type 0} (r : Result A E) → P → OnErr r P
on_err_of (Ok x) p = tt
on_err_of (Err e) p = p

-- ---- the frame at `end`

pub record IsAt (s : List ℕ) (end : ℕ) (f : List ℕ) : Type 0 where
  pub frame : IsFrame f
  pub within : end + length f ≤ length s
  pub front : f ≡ take (length f) (drop end s)

-- the first frame of `&s[end..]`
pub first_at : (s : List ℕ) (end : ℕ) (f : Frame) → end ≤ length s → IsFirst (take (length s - end) (drop end s)) f → IsAt s end f.octets.now
first_at s end f within h =
    let h₁ : IsFirst (drop end s) f = subst (λ (x : List ℕ). IsFirst x f) (take_rest s end) h in
    record { frame = h₁.is; within = omega (arith, h₁.within, length-drop end s, within); front = h₁.front }

-- ---- how the octets lie

-- up to `end`
up_to : (sent end : ℕ) (s : List ℕ) → sent ≤ end → take end s ≡ take sent s ++ take (end - sent) (drop sent s)
up_to sent end s le =
    let e : sent + (end - sent) ≡ end = omega (arith, le) in
    ap (λ k. take k s) (sym e) ∙ take-add sent (end - sent) s

-- from `end` on
from_end : (sent end : ℕ) (s : List ℕ) → sent ≤ end → drop (end - sent) (drop sent s) ≡ drop end s
from_end sent end s le =
    let e : sent + (end - sent) ≡ end = omega (arith, le) in
    drop-drop (end - sent) sent s ∙ ap (λ k. drop k s) e

-- up to the end of the frame at `end`
pub up_to_more : (end : ℕ) (s f : List ℕ) → IsAt s end f → take (end + length f) s ≡ take end s ++ f
up_to_more end s f at = take-add end (length f) s ∙ ap (λ x. take end s ++ x) (sym at.front)

-- between them, to the end of the frame at `end`
pub between_more : (sent end : ℕ) (s f : List ℕ) → sent ≤ end → IsAt s end f →
    take (end + length f - sent) (drop sent s) ≡ take (end - sent) (drop sent s) ++ f
between_more sent end s f le at =
    let e : end + length f - sent ≡ (end - sent) + length f = omega (arith, le) in
    ap (λ k. take k (drop sent s)) e ∙ take-add (end - sent) (length f) (drop sent s)
    ∙ ap (λ x. take (end - sent) (drop sent s) ++ x) (ap (take (length f)) (from_end sent end s le) ∙ sym at.front)

all_of : (sent end : ℕ) (s : List ℕ) → sent ≤ end → s ≡ take sent s ++ (take (end - sent) (drop sent s) ++ drop end s)
all_of sent end s le =
    sym (take-append-drop sent s)
    ∙ ap (λ x. take sent s ++ x) (sym (take-append-drop (end - sent) (drop sent s)) ∙ ap (λ x. take (end - sent) (drop sent s) ++ x) (from_end sent end s le))

all_at : (end : ℕ) (s f : List ℕ) → IsAt s end f → s ≡ take end s ++ (f ++ drop (length f) (drop end s))
all_at end s f at =
    sym (take-append-drop end s)
    ∙ ap (λ x. take end s ++ x) (sym (take-append-drop (length f) (drop end s)) ∙ ap (λ x. x ++ drop (length f) (drop end s)) (sym at.front))

-- ---- how far the loop has come

-- Of the octets up to `end`, those up to `sent` are frames that were put; the others are frames that go and wait to be
-- put. The totals were n before all of them, are m after them, and were `between` where the first one waits.
pub record SoFar (d : Decision) (n m between : Totals) (s : List ℕ) (sent end : ℕ) (added : Added) : Type 0 where
  pub ordered : sent ≤ end
  pub within : end ≤ length s
  pub outcomes : List Outcome
  pub put : Decided d n between (take sent s) outcomes added
  pub frames : List (List ℕ)
  pub waiting : AllGo d (take (end - sent) (drop sent s)) frames
  pub totals : m ≡ counted between (all_going frames)

pub at_first : (d : Decision) (n : Totals) (s : List ℕ) → SoFar d n n n s 0 0 nothing
at_first d n s = record {
  ordered = omega arith;
  within = omega arith;
  outcomes = [];
  put = decided_none d n;
  frames = [];
  waiting = AllGo_none d;
  totals = refl;
}

-- one more frame goes
pub one_goes : (d : Decision) (n m b k : Totals) (s f : List ℕ) (sent end : ℕ) (a : Added) → SoFar d n m b s sent end a → IsAt s end f → FrameGoes d f →
    k ≡ after_going m → SoFar d n k b s sent (end + length f) a
one_goes d n m b k s f sent end a h at goes counts =
    let more : AllGo d (take (end - sent) (drop sent s) ++ f) (h.frames ++ f ∷ []) =
    AllGo_more d (take (end - sent) (drop sent s)) f h.frames h.waiting at.frame goes in
    record {
      ordered = omega (arith, h.ordered);
      within = at.within;
      outcomes = h.outcomes;
      put = h.put;
      frames = h.frames ++ f ∷ [];
      waiting = subst (λ (x : List ℕ). AllGo d x (h.frames ++ f ∷ [])) (sym (between_more sent end s f h.ordered at)) more;
      totals = going_counted b m k h.frames f h.totals counts;
    }

-- those that wait are put
all_put : (d : Decision) (n m b : Totals) (s : List ℕ) (sent end : ℕ) (a : Added) → (h : SoFar d n m b s sent end a) →
    Decided d n m (take end s) (h.outcomes ++ all_going h.frames) (sent_more a (take (end - sent) (drop sent s)))
all_put d n m b s sent end a h =
    let os : List Outcome = h.outcomes ++ all_going h.frames in
    let c : Added = sent_more a (take (end - sent) (drop sent s)) in
    let put : Decided d n (counted b (all_going h.frames)) (take sent s ++ take (end - sent) (drop sent s)) os c =
    decided_going d n b (take sent s) (take (end - sent) (drop sent s)) h.outcomes h.frames a h.put h.waiting in
    let there : Decided d n (counted b (all_going h.frames)) (take end s) os c =
    subst (λ (x : List ℕ). Decided d n (counted b (all_going h.frames)) x os c) (sym (up_to sent end s h.ordered)) put in
    subst (λ (k : Totals). Decided d n k (take end s) os c) (sym h.totals) there

-- and one that stays is reported after them
pub one_stays : (d : Decision) (n m c k : Totals) (s f line : List ℕ) (sent end : ℕ) (a : Added) → SoFar d n m c s sent end a → IsAt s end f →
    Adds d (next_number m) (staying f) line → k ≡ after_staying m →
    SoFar d n k k s (end + length f) (end + length f) (reported_more (sent_more a (take (end - sent) (drop sent s))) line)
one_stays d n m c k s f line sent end a h at adds counts =
    let b : Added = sent_more a (take (end - sent) (drop sent s)) in
    let os : List Outcome = (h.outcomes ++ all_going h.frames) ++ staying f ∷ [] in
    let put : Decided d n (after_staying m) (take end s ++ f) os (reported_more b line) =
    decided_staying d n m (take end s) f line (h.outcomes ++ all_going h.frames) b (all_put d n m c s sent end a h) at.frame adds in
    let there : Decided d n (after_staying m) (take (end + length f) s) os (reported_more b line) =
    subst (λ (x : List ℕ). Decided d n (after_staying m) x os (reported_more b line)) (sym (up_to_more end s f at)) put in
    let none : end + length f - (end + length f) ≡ 0 = omega arith in
    record {
      ordered = omega arith;
      within = at.within;
      outcomes = os;
      put = subst (λ (t : Totals). Decided d n t (take (end + length f) s) os (reported_more b line)) (sym counts) there;
      frames = [];
      waiting = subst (λ (j : ℕ). AllGo d (take j (drop (end + length f) s)) []) (sym none) (AllGo_none d);
      totals = refl;
    }

pub left_of : (s : List ℕ) (rest : Rest) → IsRest s rest → IsUnfinished s ⊎ IsTooLong s
left_of s Unfinished h = inl h
left_of s TooLong h = inr h

-- no whole frame is left, and those that wait are put
pub at_last : (d : Decision) (n m b : Totals) (s : List ℕ) (sent end : ℕ) (rest : Rest) (a : Added) → SoFar d n m b s sent end a →
    IsRest (take (length s - end) (drop end s)) rest →
    ArePut d n s (record { end = end; totals = m; rest = rest }) (sent_more a (take (end - sent) (drop sent s)))
at_last d n m b s sent end rest a h left =
    let left₁ : IsRest (drop end s) rest = subst (λ (x : List ℕ). IsRest x rest) (take_rest s end) left in
    let put = all_put d n m b s sent end a h in
    record {
      within = h.within;
      decided = record {
        outcomes = h.outcomes ++ all_going h.frames;
        split = record {
          whole = sym (take-append-drop end s) ∙ ap (λ x. x ++ drop end s) put.whole;
          each = put.each;
          left = left_of (drop end s) rest left₁;
        };
        out = put.out;
        reports = put.reports;
        totals = put.totals;
      };
      next = left₁;
    }

-- ---- a sink fails

pub breaks_waiting : (d : Decision) (n m b k : Totals) (s part : List ℕ) (sent end : ℕ) (a : Added) → SoFar d n m b s sent end a →
    IsProperPrefix part (take (end - sent) (drop sent s)) → IsCountOf b part k → BreaksAfter d n s k (sent_more a part)
breaks_waiting d n m b k s part sent end a h inside count =
    subst (λ (x : List ℕ). BreaksAfter d n x k (sent_more a part)) (sym (all_of sent end s h.ordered))
    (breaks_going d n b k (take sent s) (take (end - sent) (drop sent s)) part (drop end s) h.outcomes h.frames a h.put h.waiting inside count)

pub breaks_report : (d : Decision) (n m c : Totals) (s f line part : List ℕ) (sent end : ℕ) (a : Added) → SoFar d n m c s sent end a → IsAt s end f →
    Adds d (next_number m) (staying f) line → IsProperPrefix part line →
    BreaksOff (λ _. d) (next_number n) s (reported_more (sent_more a (take (end - sent) (drop sent s))) part)
breaks_report d n m c s f line part sent end a h at adds inside =
    let b : Added = sent_more a (take (end - sent) (drop sent s)) in
    subst (λ (x : List ℕ). BreaksOff (λ _. d) (next_number n) x (reported_more b part)) (sym (all_at end s f at))
    (breaks_staying d n m (take end s) f line part (drop (length f) (drop end s)) (h.outcomes ++ all_going h.frames) b
    (all_put d n m c s sent end a h) at.frame adds inside)
