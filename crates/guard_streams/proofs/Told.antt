-- What follows from what a watch was told: of the lines that were reported what they say, of the frames that went out by
-- which rules they go, and what a watch that counts has counted.
use Rattle.std.proofs.Common.{◌≡◌, ℕ, List, [], ◌∷◌, ◌++◌, ◌∙◌, ap, sym, refl, subst, drop, length, append_assoc}
use Rattle.std.specs.List.{All, concat}
use Rattle.std.proofs.lemmas.List.{append-nil}
use Rattle.std.proofs.lemmas.List.Elements.{All-head, All-tail}
use Rattle.guard_policy.specs.Policies.{AbstractPolicy}
use Rattle.guard_frames.specs.declared.totals.Totals.{Totals}
use Rattle.guard_frames.specs.declared.why.Why.{Why}
use Rattle.guard_frames.specs.Added.{Added}
use Rattle.guard_frames.specs.Frames.{IsFrame}
use Rattle.guard_frames.specs.OfPolicy.{gives_of, lets_of}
use Rattle.guard_frames.specs.Outcomes.{GoesBy}
use Rattle.guard_frames.specs.Reasons.{Told, Tells, IsTold, Noted}
use Rattle.guard_frames.specs.Reasons.Told.{pauses, reads, goes, stays}
use Rattle.guard_streams.specs.declared.counts.Counts.{Counts}
use Rattle.guard_streams.specs.Allowed.{AreLet}
use Rattle.guard_streams.specs.Counted.{count_one, count_told, count_all, AreSaid, AreCounted}
use Rattle.guard_streams.proofs.Rules.{times}

-- why the frames stay of which a watch was told
unfoldable pub whys_of : List Told → List Why
whys_of [] = []
whys_of (pauses t ∷ before) = whys_of before
whys_of (reads n ∷ before) = whys_of before
whys_of (goes count n rule ∷ before) = whys_of before
whys_of (stays why ∷ before) = why ∷ whys_of before

-- by which rule each goes of which it was told
unfoldable pub rules_in : List Told → List ℕ
rules_in [] = []
rules_in (pauses t ∷ before) = rules_in before
rules_in (reads n ∷ before) = rules_in before
rules_in (goes count n rule ∷ before) = times count rule (rules_in before)
rules_in (stays why ∷ before) = rules_in before

pub said : (At : List ℕ → Added → Totals → Type 0) (p : AbstractPolicy) (told : List Told) (read : List ℕ) (a : Added) →
    Tells At (gives_of p) (lets_of p) told read a → AreSaid p (whys_of told) a.reports
unfolding whys_of
said At p [] read a h = ap (λ (x : Added). x.reports) h.1
said At p (pauses t ∷ before) read a h = said At p before read a h.1
said At p (reads n ∷ before) read a (first, piece, e, size, paused, h) = said At p before first a h
said At p (goes count n rule ∷ before) read a (first, octets, e, are, some, size, h) =
    subst (AreSaid p (whys_of before)) (sym (ap (λ (x : Added). x.reports) e)) (said At p before read first h)
said At p (stays why ∷ before) read a (first, line, e, says, h) =
    (first.reports, line, ap (λ (x : Added). x.reports) e, says, said At p before read first h)

abbrev IsLet : AbstractPolicy → ℕ → List ℕ → Type 0
IsLet p rule frame = IsFrame frame × GoesBy (lets_of p) (drop 4 frame) rule

each_let : (p : AbstractPolicy) (rule : ℕ) (frames : List (List ℕ)) (rules out : List ℕ) → All (IsLet p rule) frames → AreLet p rules out →
    AreLet p (times (length frames) rule rules) (out ++ concat frames)
each_let p rule [] rules out each h = subst (AreLet p rules) (sym (append-nil out)) h
each_let p rule (frame ∷ frames) rules out each h =
    let is : IsLet p rule frame = All-head (IsLet p rule) frame frames each in
    subst (AreLet p (times (length frames) rule (rule ∷ rules))) (append_assoc out frame (concat frames))
    (each_let p rule frames (rule ∷ rules) (out ++ frame) (All-tail (IsLet p rule) frame frames each) (out, frame, refl, is.0, is.1, h))

pub are_let : (At : List ℕ → Added → Totals → Type 0) (p : AbstractPolicy) (told : List Told) (read : List ℕ) (a : Added) →
    Tells At (gives_of p) (lets_of p) told read a → AreLet p (rules_in told) a.out
unfolding rules_in
are_let At p [] read a h = ap (λ (x : Added). x.out) h.1
are_let At p (pauses t ∷ before) read a h = are_let At p before read a h.1
are_let At p (reads n ∷ before) read a (first, piece, e, size, paused, h) = are_let At p before first a h
are_let At p (goes count n rule ∷ before) read a (first, octets, e, are, some, size, h) =
    let out : a.out ≡ first.out ++ octets = ap (λ (x : Added). x.out) e in
    rw (out, are.joined, are.counted) (each_let p rule are.frames (rules_in before) first.out are.each (are_let At p before read first h))
are_let At p (stays why ∷ before) read a (first, line, e, says, h) =
    subst (AreLet p (rules_in before)) (sym (ap (λ (x : Added). x.out) e)) (are_let At p before read first h)

abbrev pub Counting : Counts → Told → Counts → Type 0
Counting c told d = d ≡ count_told c told

counted : (told : List Told) (old new : Counts) → IsTold Counting old told new → new ≡ count_all old (whys_of told)
unfolding whys_of
counted [] old new h = h
counted (pauses t ∷ before) old new h = h.2 ∙ counted before old h.0 h.1
counted (reads n ∷ before) old new h = h.2 ∙ counted before old h.0 h.1
counted (goes count n rule ∷ before) old new h = h.2 ∙ counted before old h.0 h.1
counted (stays why ∷ before) old new h = h.2 ∙ ap (λ (c : Counts). count_one c why) (counted before old h.0 h.1)

pub noted_counted : (p : AbstractPolicy) (old new : Counts) (a : Added) → Noted (gives_of p) (lets_of p) Counting old a new → AreCounted p old a.reports new
noted_counted p old new a h = (whys_of h.0, said _ p h.0 [] a h.1, counted h.0 old new h.2)

-- ---- lines after lines

pub said_on : (p : AbstractPolicy) (xs ys : List Why) (s t : List ℕ) → AreSaid p xs s → AreSaid p ys t → AreSaid p (ys ++ xs) (s ++ t)
said_on p xs [] s t h k = subst (AreSaid p xs) (sym (ap (λ x. s ++ x) k ∙ append-nil s)) h
said_on p xs (y ∷ ys) s t h (first, line, e, says, k) =
    (s ++ first, line, ap (λ x. s ++ x) e ∙ sym (append_assoc s first line), says, said_on p xs ys s first h k)

pub count_all-append : (c : Counts) (xs ys : List Why) → count_all c (ys ++ xs) ≡ count_all (count_all c xs) ys
count_all-append c xs [] = refl
count_all-append c xs (y ∷ ys) = ap (λ (d : Counts). count_one d y) (count_all-append c xs ys)

pub counted_on : (p : AbstractPolicy) (a b c : Counts) (s t : List ℕ) → AreCounted p a s b → AreCounted p b t c → AreCounted p a (s ++ t) c
counted_on p a b c s t h k = (
  k.0 ++ h.0,
  said_on p h.0 k.0 s t h.1 k.1,
  k.2 ∙ ap (λ (d : Counts). count_all d k.0) h.2 ∙ sym (count_all-append a h.0 k.0),
)
