-- What frames add to the outputs, as they are decided one after another.
use Rattle.std.proofs.Common.{◌≡◌, ◌<◌, ◌≤◌, ◌⊎◌, ℕ, ◌+◌, ◌^◌, List, [], ◌∷◌, ◌++◌, ◌∙◌, ap, sym, refl, subst, take, drop, length, inl, inr, append_assoc, length-append, length-drop, arith}
use Rattle.std.specs.List.{concat, All}
use Rattle.std.proofs.lemmas.Grind.{common_steps}
use Rattle.std.proofs.lemmas.List.Elements.{All-append}
use Rattle.std.proofs.lemmas.List.Folds.{concat-append}
use Rattle.std.proofs.lemmas.List.{append_cancel_left, take-append-drop, take-append-le}
use Rattle.std.proofs.Math.Seq.{take-append_seam}
use Rattle.guard_frames.specs.Frames.{stated_length, IsFrame, IsUnfinished, ConsistsOf}
use Rattle.guard_frames.specs.inside.Putting.{IsCountOf}
use Rattle.guard_frames.specs.Prefix.{IsProperPrefix}
use Rattle.guard_frames.specs.declared.totals.Totals.{Totals}
use Rattle.guard_frames.specs.Totals.{later, after_going, after_staying, next_number, counted}
use Rattle.guard_frames.specs.Outcomes.{Decision, FrameGoes, Outcome, going, staying, frames_of}
use Rattle.guard_frames.specs.Added.{Added, nothing}
use Rattle.guard_frames.specs.Guarding.{text_out, Adds, AllAdd, BreaksOff}
use Rattle.guard_frames.proofs.Elements.{All_none, All_first, All_rest, All_more, All_front, All_back}
use Rattle.guard_frames.proofs.Counting.{counted-append, numbers_on}
use Rattle.guard_frames.proofs.Going.{all_going, frames_of-append, all_going_more, text_out_staying, frames_then_going, text_then_going}
use Rattle.guard_frames.proofs.Appending.{sent_more, reported_more}
use Rattle.guard_frames.proofs.Readings.{stated_length-append, one_split}

-- these octets are whole frames, decided in order, and this is what they add; n and m are the totals before and after
-- them
pub record Decided (d : Decision) (n m : Totals) (octets : List ℕ) (outcomes : List Outcome) (added : Added) : Type 0 where
  pub whole : octets ≡ concat (frames_of outcomes)
  pub each : All IsFrame (frames_of outcomes)
  pub out : added.out ≡ text_out outcomes
  pub reports : AllAdd (λ _. d) (next_number n) outcomes added.reports
  pub totals : m ≡ counted n outcomes

-- these octets are whole frames that all go
pub record AllGo (d : Decision) (octets : List ℕ) (frames : List (List ℕ)) : Type 0 where
  pub whole : octets ≡ concat frames
  pub each : All IsFrame frames
  pub go : All (FrameGoes d) frames

pub nothing_after : (s : List ℕ) → s ++ [] ≡ s
nothing_after s = grind (arith, common_steps)

pub concat_more : (fs : List (List ℕ)) (f : List ℕ) → concat (fs ++ f ∷ []) ≡ concat fs ++ f
concat_more fs f = concat-append fs (f ∷ []) ∙ ap (λ x. concat fs ++ x) (nothing_after f)

AllAdd_going : (d : Decision) (n : ℕ) (fs : List (List ℕ)) → All (FrameGoes d) fs → AllAdd (λ _. d) n (all_going fs) []
AllAdd_going d n [] go = refl
AllAdd_going d n (f ∷ fs) go = (
  [],
  [],
  refl,
  inl (record { out = refl; goes = All_first (FrameGoes d) f fs go; text = refl }),
  AllAdd_going d (later n 1) fs (All_rest (FrameGoes d) f fs go),
)

pub AllAdd-append : (d : Decision) (n : ℕ) (os ps : List Outcome) (s t : List ℕ) → n < 2 ^ 64 →
    AllAdd (λ _. d) n os s → AllAdd (λ _. d) (later n (length os)) ps t → AllAdd (λ _. d) n (os ++ ps) (s ++ t)
AllAdd-append d n [] ps s t fits p q =
    let e : later n 0 ≡ n = omega (arith, fits) in
    let q₁ : AllAdd (λ _. d) n ps t = subst (λ (k : ℕ). AllAdd (λ _. d) k ps t) e q in
    rw p q₁
AllAdd-append d n (o ∷ os) ps s t fits (a, b, joined, first, others) q =
    let e : later n (length (o ∷ os)) ≡ later (later n 1) (length os) = omega arith in
    let q₁ : AllAdd (λ _. d) (later (later n 1) (length os)) ps t = subst (λ (k : ℕ). AllAdd (λ _. d) k ps t) e q in (
      a,
      b ++ t,
      rw joined (append_assoc a b t),
      first,
      AllAdd-append d (later n 1) os ps b t (omega arith) others q₁,
    )

-- frames that go add nothing to the reports of those before them
AllAdd_then_going : (d : Decision) (n : ℕ) (os : List Outcome) (fs : List (List ℕ)) (s : List ℕ) → n < 2 ^ 64 → All (FrameGoes d) fs →
    AllAdd (λ _. d) n os s → AllAdd (λ _. d) n (os ++ all_going fs) s
AllAdd_then_going d n os fs s fits go p =
    subst (AllAdd (λ _. d) n (os ++ all_going fs)) (nothing_after s)
    (AllAdd-append d n os (all_going fs) s [] fits p (AllAdd_going d (later n (length os)) fs go))

pub le_or_gt : (n m : ℕ) → (n ≤ m) ⊎ (m < n)
le_or_gt n m = grind arith

pub no_prefix : (part : List ℕ) → IsProperPrefix part [] → ⊥
no_prefix part h = omega (arith, ap length h.joined, length-append part h.more, h.missing)

-- a proper prefix of two parts is one of the first, or the first and one of the second
pub cuts_one : (first second part : List ℕ) → IsProperPrefix part (first ++ second) →
    IsProperPrefix part first ⊎ ((rest : List ℕ) × (part ≡ first ++ rest) × IsProperPrefix rest second)
cuts_one first second part h = elim (le_or_gt (length first) (length part)) [
  | inl le ↦
      let front : take (length first) part ≡ first =
      sym (take-append-le (length first) part h.more le) ∙ ap (take (length first)) h.joined ∙ take-append_seam first second in
      let split : part ≡ first ++ drop (length first) part =
      sym (take-append-drop (length first) part) ∙ ap (λ x. x ++ drop (length first) part) front in
      let e : first ++ (drop (length first) part ++ h.more) ≡ first ++ second =
      sym (append_assoc first (drop (length first) part) h.more) ∙ ap (λ x. x ++ h.more) (sym split) ∙ h.joined in
      inr (
        drop (length first) part,
        split,
        record { more = h.more; joined = append_cancel_left first (drop (length first) part ++ h.more) second e; missing = h.missing },
      )
  | inr gt ↦
      let short : length part ≤ length first = omega (arith, gt) in
      let front : take (length part) first ≡ part =
      sym (take-append-le (length part) first second short) ∙ ap (take (length part)) (sym h.joined) ∙ take-append_seam part h.more in
      inl (record {
        more = drop (length part) first;
        joined = ap (λ x. x ++ drop (length part) first) (sym front) ∙ take-append-drop (length part) first;
        missing = omega (arith, gt, length-drop (length part) first);
      })
]

-- a proper prefix of joined frames is whole frames and a proper prefix of the next
pub record CutsInside (fs : List (List ℕ)) (part : List ℕ) : Type 0 where
  pub first : List (List ℕ)
  pub next : List ℕ
  pub others : List (List ℕ)
  pub split : fs ≡ first ++ next ∷ others
  pub rest : List ℕ
  pub part_is : part ≡ concat first ++ rest
  pub inside : IsProperPrefix rest next

pub cuts_inside : (fs : List (List ℕ)) (part : List ℕ) → IsProperPrefix part (concat fs) → CutsInside fs part
cuts_inside [] part h = absurd (no_prefix part h)
cuts_inside (f ∷ fs) part h = elim (cuts_one f (concat fs) part h) [
  | inl inside ↦ record { first = []; next = f; others = fs; split = refl; rest = part; part_is = refl; inside = inside }
  | inr cut ↦
      let later_part = cuts_inside fs cut.0 cut.2 in
      record {
        first = f ∷ later_part.first;
        next = later_part.next;
        others = later_part.others;
        split = ap (λ xs. f ∷ xs) later_part.split;
        rest = later_part.rest;
        part_is = cut.1 ∙ ap (λ x. f ++ x) later_part.part_is ∙ sym (append_assoc f (concat later_part.first) later_part.rest);
        inside = later_part.inside;
      }
]

pub AllGo_none : (d : Decision) → AllGo d [] []
AllGo_none d = record { whole = refl; each = All_none IsFrame; go = All_none (FrameGoes d) }

pub AllGo_more : (d : Decision) (s f : List ℕ) (fs : List (List ℕ)) → AllGo d s fs → IsFrame f → FrameGoes d f →
    AllGo d (s ++ f) (fs ++ f ∷ [])
AllGo_more d s f fs a frame go = record {
  whole = rw (concat_more fs f) (ap (λ x. x ++ f) a.whole);
  each = All_more IsFrame fs f a.each frame;
  go = All_more (FrameGoes d) fs f a.go go;
}

-- one more frame that goes
pub going_counted : (n m k : Totals) (fs : List (List ℕ)) (f : List ℕ) → m ≡ counted n (all_going fs) → k ≡ after_going m → k ≡ counted n (all_going (fs ++ f ∷ []))
going_counted n m k fs f e e₁ = e₁ ∙ ap after_going e ∙ counted-append n (all_going fs) (going f ∷ []) ∙ ap (counted n) (sym (all_going_more fs f))

pub decided_none : (d : Decision) (n : Totals) → Decided d n n [] [] nothing
decided_none d n = record { whole = refl; each = All_none IsFrame; out = refl; reports = refl; totals = refl }

-- the number of the frame after these
pub number_after : (n m : Totals) (os : List Outcome) → m ≡ counted n os → next_number m ≡ later (next_number n) (length os)
number_after n m os e = ap next_number e ∙ numbers_on n os

-- frames that all go are put after them
pub decided_going : (d : Decision) (n m : Totals) (s t : List ℕ) (os : List Outcome) (fs : List (List ℕ)) (a : Added) →
    Decided d n m s os a → AllGo d t fs → Decided d n (counted m (all_going fs)) (s ++ t) (os ++ all_going fs) (sent_more a t)
decided_going d n m s t os fs a h g = record {
  whole = rw (h.whole, g.whole, frames_then_going os fs) (sym (concat-append (frames_of os) fs));
  each = subst (All IsFrame) (sym (frames_then_going os fs)) (All-append IsFrame (frames_of os) fs h.each g.each);
  out = ap (λ x. x ++ t) h.out ∙ ap (λ x. text_out os ++ x) g.whole ∙ sym (text_then_going os fs);
  reports = AllAdd_then_going d (next_number n) os fs a.reports (omega arith) g.go h.reports;
  totals = ap (λ x. counted x (all_going fs)) h.totals ∙ counted-append n os (all_going fs);
}

-- one that stays is reported after them
pub decided_staying : (d : Decision) (n m : Totals) (s f line : List ℕ) (os : List Outcome) (a : Added) →
    Decided d n m s os a → IsFrame f → Adds d (next_number m) (staying f) line →
    Decided d n (after_staying m) (s ++ f) (os ++ staying f ∷ []) (reported_more a line)
decided_staying d n m s f line os a h frame adds =
    let one : AllAdd (λ _. d) (later (next_number n) (length os)) (staying f ∷ []) line =
    (line, [], sym (nothing_after line), subst (λ (k : ℕ). Adds d k (staying f) line) (number_after n m os h.totals) adds, refl) in
    let frames : frames_of (os ++ staying f ∷ []) ≡ frames_of os ++ f ∷ [] = frames_of-append os (staying f ∷ []) in
    record {
      whole = rw (h.whole, frames) (sym (concat_more (frames_of os) f));
      each = subst (All IsFrame) (sym frames) (All_more IsFrame (frames_of os) f h.each frame);
      out = h.out ∙ sym (text_out_staying os f);
      reports = AllAdd-append d (next_number n) os (staying f ∷ []) a.reports line (omega arith) h.reports one;
      totals = ap (λ x. counted x (staying f ∷ [])) h.totals ∙ counted-append n os (staying f ∷ []);
    }

-- ---- a sink fails after them

-- at the report of one that stays
pub breaks_staying : (d : Decision) (n m : Totals) (s f line part more : List ℕ) (os : List Outcome) (a : Added) →
    Decided d n m s os a → IsFrame f → Adds d (next_number m) (staying f) line → IsProperPrefix part line →
    BreaksOff (λ _. d) (next_number n) (s ++ (f ++ more)) (reported_more a part)
breaks_staying d n m s f line part more os a h frame adds inside =
    let adds₁ : Adds d (later (next_number n) (length os)) (staying f) line =
    subst (λ (k : ℕ). Adds d k (staying f) line) (number_after n m os h.totals) adds in
    record {
      first = os;
      next = f;
      more = more;
      begins = rw h.whole refl;
      each = h.each;
      frame = frame;
      lines = a.reports;
      all = h.reports;
      part = record { out = []; reports = part };
      last = inr (line, adds₁, inside, refl);
      out = h.out ∙ sym (nothing_after (text_out os));
      reports = refl;
    }

-- and these are the totals of the frames before
abbrev pub BreaksAfter : Decision → Totals → List ℕ → Totals → Added → Type 0
BreaksAfter d n s k added = (x : BreaksOff (λ _. d) (next_number n) s added) × (k ≡ counted n x.first)

-- a part of a frame is less than one
part_unfinished : (part f : List ℕ) → IsProperPrefix part f → IsFrame f → IsUnfinished part
part_unfinished part f h frame =
    let size : length part + length h.more ≡ length f = sym (length-append part h.more) ∙ ap length h.joined in
    let missing : 0 < length h.more = h.missing in
    let same : 4 ≤ length part → stated_length f ≡ stated_length part =
    λ four. ap stated_length (sym h.joined) ∙ stated_length-append part h.more four in
    record {
      allowed = λ four. omega (arith, same four, frame.allowed);
      short = λ four. omega (arith, same four, size, missing, frame.exact);
    }

-- at frames that all go, of which these are counted that the sink took whole
pub breaks_going : (d : Decision) (n m k : Totals) (s t part more : List ℕ) (os : List Outcome) (fs : List (List ℕ)) (a : Added) →
    Decided d n m s os a → AllGo d t fs → IsProperPrefix part t → IsCountOf m part k →
    BreaksAfter d n (s ++ (t ++ more)) k (sent_more a part)
breaks_going d n m k s t part more os fs a h g inside count =
    let inside₁ : IsProperPrefix part (concat fs) = subst (IsProperPrefix part) g.whole inside in
    let cut : CutsInside fs part = cuts_inside fs part inside₁ in
    let each : All IsFrame (cut.first ++ cut.next ∷ cut.others) = subst (All IsFrame) cut.split g.each in
    let go : All (FrameGoes d) (cut.first ++ cut.next ∷ cut.others) = subst (All (FrameGoes d)) cut.split g.go in
    let go_first : All (FrameGoes d) cut.first = All_front (FrameGoes d) cut.first (cut.next ∷ cut.others) go in
    let t_is : t ≡ concat cut.first ++ (cut.next ++ concat cut.others) =
    g.whole ∙ ap concat cut.split ∙ concat-append cut.first (cut.next ∷ cut.others) in
    let frame : IsFrame cut.next = All_first IsFrame cut.next cut.others (All_back IsFrame cut.first (cut.next ∷ cut.others) each) in
    let split : ConsistsOf part cut.first cut.rest = record {
      whole = cut.part_is;
      each = All_front IsFrame cut.first (cut.next ∷ cut.others) each;
      left = inl (part_unfinished cut.rest cut.next cut.inside frame);
    } in
    let same : count.0 ≡ cut.first = (one_split part count.0 cut.first count.1 cut.rest count.2 split).0 in (
      record {
        first = os ++ all_going cut.first;
        next = cut.next;
        more = concat cut.others ++ more;
        begins = rw (h.whole, t_is, frames_then_going os cut.first, concat-append (frames_of os) cut.first) (simp append_assoc);
        each = subst (All IsFrame) (sym (frames_then_going os cut.first))
            (All-append IsFrame (frames_of os) cut.first h.each (All_front IsFrame cut.first (cut.next ∷ cut.others) each));
        frame = frame;
        lines = a.reports;
        all = AllAdd_then_going d (next_number n) os cut.first a.reports (omega arith) go_first h.reports;
        part = record { out = cut.rest; reports = [] };
        last = inl (
          All_first (FrameGoes d) cut.next cut.others (All_back (FrameGoes d) cut.first (cut.next ∷ cut.others) go),
          cut.inside,
          refl,
        );
        out = ap (λ x. x ++ part) h.out ∙ ap (λ x. text_out os ++ x) cut.part_is ∙ sym (append_assoc (text_out os) (concat cut.first) cut.rest)
            ∙ ap (λ x. x ++ cut.rest) (sym (text_then_going os cut.first));
        reports = sym (nothing_after a.reports);
      },
      count.3 ∙ ap (λ (xs : List (List ℕ)). counted m (all_going xs)) same ∙ ap (λ (x : Totals). counted x (all_going cut.first)) h.totals
          ∙ counted-append n os (all_going cut.first),
    )
