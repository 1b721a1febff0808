-- A frame that came in several pieces.
use Rattle.std.proofs.Common.{◌≡◌, ◌<◌, ◌≤◌, ℕ, ◌+◌, List, [], ◌∷◌, ◌++◌, ◌∙◌, ap, sym, refl, subst, take, drop, length, inl, inr, append_assoc, length-append, length-drop, arith}
use Rattle.std.specs.Prelude.{Result, Err}
use Rattle.std.specs.List.{concat}
use Rattle.std.proofs.lemmas.List.{take-append-drop, take_all}
use Rattle.guard_frames.specs.Frames.{stated_length, IsFrame, IsUnfinished, IsTooLong, ConsistsOf}
use Rattle.guard_frames.specs.Cutting.{IsRest}
use Rattle.guard_frames.specs.declared.cut.Rest.{Rest}
use Rattle.guard_frames.specs.declared.cut.Rest.TheVariants.{Unfinished, TooLong}
use Rattle.guard_frames.specs.declared.putting.Whole.{Whole}
use Rattle.guard_frames.specs.declared.totals.Totals.{Totals}
use Rattle.guard_frames.specs.Totals.{next_number}
use Rattle.guard_frames.specs.Outcomes.{Decision, frames_of}
use Rattle.guard_frames.specs.Added.{Added, nothing, joined}
use Rattle.guard_frames.specs.Guarding.{BreaksOff}
use Rattle.guard_frames.specs.Feeding.{Decides, DecidesUntilTooLong}
use Rattle.guard_frames.specs.declared.link.Closing.{Closing}
use Rattle.guard_frames.specs.declared.link.Closing.TheVariants.{FrameTooLong}
use Rattle.guard_frames.specs.inside.Closing.{Puts}
use Rattle.guard_frames.specs.inside.Putting.{ArePut, IsBroken, ClosedBy}
use Rattle.guard_frames.specs.declared.sending.Broken.{Broken}
use Rattle.guard_frames.specs.declared.sending.Broken.TheVariants.{Out, Reports}
use Rattle.guard_frames.proofs.Composing.{puts_on}
use Rattle.guard_frames.proofs.Elements.{All_none, All_first}
use Rattle.guard_frames.proofs.Progress.{le_or_gt}
use Rattle.guard_frames.proofs.Reading.{is_empty_list}
use Rattle.guard_frames.proofs.Readings.{stated_length-append, too_long-append, any_cut, one_split}
use Rattle.guard_frames.proofs.Splitting.{a_reading}

-- the octets held now and what is left of the piece
pub held_splits : (h p now : List ℕ) (at : ℕ) → now ≡ h ++ take at p → h ++ p ≡ now ++ drop at p
held_splits h p now at e =
    ap (λ x. h ++ x) (sym (take-append-drop at p)) ∙ sym (append_assoc h (take at p) (drop at p)) ∙ ap (λ x. x ++ drop at p) (sym e)

-- a list taken whole
take_whole : (n : ℕ) (s : List ℕ) → n ≡ length s → take n s ≡ s
take_whole n s e = grind (arith, take_all)

pub no_more_after : (h x now : List ℕ) (body most k : ℕ) → now ≡ h ++ x → 4 ≤ length h → body ≡ stated_length h → length x ≤ most →
    most + length h ≤ body + 4 → length now ≤ stated_length now + 4
no_more_after h x now body most k e header b small room =
    let same : stated_length now ≡ stated_length h = ap stated_length e ∙ stated_length-append h x header in
    let long : length now ≡ length h + length x = ap length e ∙ length-append h x in
    omega (arith, same, long, b, small, room)

-- ---- held octets that were put

pub not_too_long : (rest : Rest) → (rest ≡ TooLong → ⊥) → rest ≡ Unfinished
not_too_long Unfinished h = refl
not_too_long TooLong h = absurd (h refl)

-- where nothing of them is a whole frame, the link holds them with the piece
pub still_unfinished : (d : Decision) (n : Totals) (w : Whole) (h p now : List ℕ) (used : ℕ) (a : Added) → now ≡ h ++ take used p →
    (IsUnfinished now → used ≡ length p) → ArePut d n now w a → w.rest ≡ Unfinished → w.end ≡ 0 → Decides d n (h ++ p) now w.totals a × IsUnfinished now
still_unfinished d n w h p now used a e all x is none =
    let rest : IsUnfinished (drop w.end now) = subst (IsRest (drop w.end now)) is x.next in
    let here : drop w.end now ≡ now = ap (λ k. drop k now) none in
    let rest₁ : IsUnfinished now = subst IsUnfinished here rest in
    let whole : now ≡ h ++ p = e ∙ ap (λ x. h ++ x) (take_whole used p (all rest₁)) in
    let decided : Decides d n now now w.totals a = subst (λ (r : List ℕ). Decides d n now r w.totals a) here x.decided in
    (subst (λ (s : List ℕ). Decides d n s now w.totals a) whole decided, rest₁)

decides_longer : (d : Decision) (n m : Totals) (s rest more : List ℕ) (a : Added) → Decides d n s rest m a → IsTooLong rest → DecidesUntilTooLong d n (s ++ more) m a
decides_longer d n m s rest more a x long =
    let long₁ : IsTooLong (rest ++ more) = too_long-append rest more long in
    record {
      rest = rest ++ more;
      decided = record {
        outcomes = x.outcomes;
        split = record {
          whole = ap (λ z. z ++ more) x.split.whole ∙ append_assoc (concat (frames_of x.outcomes)) rest more;
          each = x.split.each;
          left = inr long₁;
        };
        out = x.out;
        reports = x.reports;
        totals = x.totals;
      };
      too_long = long₁;
    }

-- where they go on with a length that no frame may have, so does the stream
pub too_long_now : (d : Decision) (n : Totals) (w : Whole) (h p now : List ℕ) (used size : ℕ) (a : Added) → now ≡ h ++ take used p →
    ArePut d n now w a → w.rest ≡ TooLong → size ≡ stated_length (drop w.end now) → Puts d n (h ++ p) now w.totals (Err (FrameTooLong size)) a
unfolding decides_longer
too_long_now d n w h p now used size a e x is stated =
    let long : IsTooLong (drop w.end now) = subst (IsRest (drop w.end now)) is x.next in
    subst (λ (s : List ℕ). Puts d n s now w.totals (Err (FrameTooLong size)) a) (sym (held_splits h p now used e)) (
      decides_longer d n w.totals now (drop w.end now) (drop used p) a x.decided long,
      stated ∙ sym (stated_length-append (drop w.end now) (drop used p) long.header),
    )

breaks_longer : (d : Decision) (n : ℕ) (s more : List ℕ) (a : Added) → BreaksOff (λ _. d) n s a → BreaksOff (λ _. d) n (s ++ more) a
breaks_longer d n s more a z = record {
  first = z.first;
  next = z.next;
  more = z.more ++ more;
  begins = rw z.begins (simp append_assoc);
  each = z.each;
  frame = z.frame;
  lines = z.lines;
  all = z.all;
  part = z.part;
  last = z.last;
  out = z.out;
  reports = z.reports;
}

-- where a sink failed at them, it failed at the stream
breaks_now : (d : Decision) (n : ℕ) (h p now : List ℕ) (used : ℕ) (a : Added) → now ≡ h ++ take used p → BreaksOff (λ _. d) n now a → BreaksOff (λ _. d) n (h ++ p) a
breaks_now d n h p now used a e x =
    subst (λ (s : List ℕ). BreaksOff (λ _. d) n s a) (sym (held_splits h p now used e)) (breaks_longer d n now (drop used p) a x)

-- what closes the link then
pub broken_puts : (d : Decision) (n m : Totals) (s held : List ℕ) (b : Broken) (closing : Closing) (a : Added) (So : Added → Type 0) → IsBroken d n s b a So →
    ClosedBy b closing m → Puts d n s held m (Err closing) a
broken_puts d n m s held (Out t) closing a So x is =
    subst (λ (c : Closing). Puts d n s held m (Err c) a) (sym is.0) (x.0, is.1 ∙ x.1)
broken_puts d n m s held Reports closing a So x is = subst (λ (c : Closing). Puts d n s held m (Err c) a) (sym is) x.0

pub broken_longer : (d : Decision) (n : Totals) (h p now : List ℕ) (used : ℕ) (b : Broken) (a : Added) (So : Added → Type 0) → now ≡ h ++ take used p →
    IsBroken d n now b a So → IsBroken d n (h ++ p) b a So
unfolding breaks_longer
broken_longer d n h p now used (Out t) a So e x =
    subst (λ (s : List ℕ). IsBroken d n s (Out t) a So) (sym (held_splits h p now used e))
    (breaks_longer d (next_number n) now (drop used p) a x.0, x.1, x.2, x.3)
broken_longer d n h p now used Reports a So e x = (breaks_now d (next_number n) h p now used a e x.0, x.1, x.2)

-- octets that begin with a frame and have no more than one are that frame
nothing_left : (now rest : List ℕ) (fs : List (List ℕ)) → ConsistsOf now fs rest → length rest < length now →
    (4 ≤ length now → stated_length now ≤ 1048576 → length now ≤ stated_length now + 4) → rest ≡ []
nothing_left now rest [] x less no_more = absurd (omega (arith, ap length x.whole, less))
nothing_left now rest (f ∷ fs) x less no_more =
    let frame : IsFrame f = All_first IsFrame f fs x.each in
    let whole : now ≡ f ++ (concat fs ++ rest) = x.whole ∙ append_assoc f (concat fs) rest in
    let size : length now ≡ length f + (length (concat fs) + length rest) =
    ap length whole ∙ length-append f (concat fs ++ rest) ∙ ap (λ k. length f + k) (length-append (concat fs) rest) in
    let same : stated_length now ≡ stated_length f = ap stated_length whole ∙ stated_length-append f (concat fs ++ rest) frame.header in
    let most : length now ≤ stated_length now + 4 = no_more (omega (arith, size, frame.header)) (omega (arith, same, frame.allowed)) in
    is_empty_list rest (omega (arith, size, same, most, frame.exact))

-- where a frame of them was put, what is left of the piece is put
pub puts_left : (d : Decision) (n m : Totals) (w : Whole) (h p now rest : List ℕ) (used : ℕ) (result : Result (Unit {0}) Closing) (a b : Added) →
    now ≡ h ++ take used p → (4 ≤ length now → stated_length now ≤ 1048576 → length now ≤ stated_length now + 4) → ArePut d n now w a → 0 < w.end →
    Puts d w.totals (drop used p) rest m result b → Puts d n (h ++ p) rest m result (joined a b)
puts_left d n m w h p now rest used result a b e no_more x some y =
    let less : length (drop w.end now) < length now = omega (arith, length-drop w.end now, x.within, some) in
    let none : drop w.end now ≡ [] = nothing_left now (drop w.end now) (frames_of x.decided.outcomes) x.decided.split less no_more in
    let decided : Decides d n now [] w.totals a = subst (λ (r : List ℕ). Decides d n now r w.totals a) none x.decided in
    subst (λ (s : List ℕ). Puts d n s rest m result (joined a b)) (sym (held_splits h p now used e))
    (puts_on d n w.totals m now [] (drop used p) rest result a b decided y)

-- ---- a run, from its first piece on

pub empty_unfinished : IsUnfinished []
empty_unfinished = record { allowed = λ h. absurd (omega (arith, h)); short = λ h. absurd (omega (arith, h)) }

pub begins_empty : (d : Decision) (n : Totals) → Decides d n [] [] n nothing
begins_empty d n = record {
  outcomes = [];
  split = record { whole = refl; each = All_none IsFrame; left = inl empty_unfinished };
  out = refl;
  reports = refl;
  totals = refl;
}

-- ---- a length that no frame may have is found as soon as it is there

-- after octets that are less than a frame, it begins within three octets of the piece
soon : (held piece rest : List ℕ) (fs : List (List ℕ)) → IsUnfinished held → ConsistsOf (held ++ piece) fs rest → IsTooLong rest → length rest < 4 + length piece
soon held piece rest [] h x long =
    let whole : held ++ piece ≡ rest = x.whole in
    let size : length held + length piece ≡ length rest = sym (length-append held piece) ∙ ap length whole in
    elim (le_or_gt 4 (length held)) [
      | inl four ↦
          let same : stated_length rest ≡ stated_length held = ap stated_length (sym whole) ∙ stated_length-append held piece four in
          absurd (omega (arith, same, h.allowed four, long.beyond))
      | inr few ↦ omega (arith, size, few)
    ]
soon held piece rest (f ∷ fs) h x long =
    let frame : IsFrame f = All_first IsFrame f fs x.each in
    let whole : held ++ piece ≡ f ++ (concat fs ++ rest) = x.whole ∙ append_assoc f (concat fs) rest in
    let size : length held + length piece ≡ length f + (length (concat fs) + length rest) =
    sym (length-append held piece) ∙ ap length whole ∙ length-append f (concat fs ++ rest) ∙ ap (λ k. length f + k) (length-append (concat fs) rest) in
    elim (le_or_gt 4 (length held)) [
      | inl four ↦
          let same : stated_length held ≡ stated_length f =
          sym (stated_length-append held piece four) ∙ ap stated_length whole ∙ stated_length-append f (concat fs ++ rest) frame.header in
          omega (arith, size, same, h.short four, frame.exact)
      | inr few ↦ omega (arith, size, few, frame.header)
    ]

-- so it is after a piece more of a stream whose rest was less than a frame
pub found_soon : (s held piece rest : List ℕ) (fs gs : List (List ℕ)) → ConsistsOf s fs held → IsUnfinished held →
    ConsistsOf (s ++ piece) gs rest → IsTooLong rest → length rest < 4 + length piece
found_soon s held piece rest fs gs x h y long =
    let z = a_reading (held ++ piece) in
    let same : rest ≡ z.1 = (one_split (s ++ piece) gs (fs ++ z.0) rest z.1 y (any_cut s piece fs z.0 held z.1 x z.2)).1 in
    let there : IsTooLong z.1 = subst IsTooLong same long in
    let at : length z.1 < 4 + length piece = soon held piece z.1 z.0 h z.2 there in
    omega (arith, at, ap length same)
