-- The rows of frames, counted one after another.
use Rattle.std.proofs.Common.{◌≡◌, ◌∙◌, ◌+◌, ◌<◌, ◌≤◌, ℕ, Bool, true, false, cond, List, [], ◌∷◌, ◌++◌, ap, refl, sym, subst, length, drop, set, get_or, replicate, arith, append_assoc}
use Rattle.std.specs.Prelude.{nat_eq, Option, None, Some, Result, Ok, Err, OnOk}
use Rattle.std.proofs.lemmas.Grind.{get_or_default_zero}
use Rattle.std.specs.List.{count_by}
use Rattle.std.proofs.lemmas.Bool.{eqb-true, eqb-false, ne_eqb}
use Rattle.std.proofs.lemmas.List.{append-nil, get_or-set_same, get_or-set_other, get_or-replicate, length-set, length-replicate}
use Rattle.std.proofs.lemmas.List.Sums.{sum_by_push}
use Rattle.guard_policy.specs.Policies.{AbstractPolicy}
use Rattle.guard_frames.specs.Bodies.{body_in}
use Rattle.guard_frames.specs.Totals.{later}
use Rattle.guard_authors.specs.declared.summary.Counts.{Counts}
use Rattle.guard_authors.specs.declared.summary.Row.{Row}
use Rattle.guard_authors.specs.declared.summary.Sums.{Sums}
use Rattle.guard_authors.specs.Differing.{AbstractComparison}
use Rattle.guard_authors.specs.Summary.{AreRows, how_often, is_at}
use Rattle.guard_authors.specs.inside.Counting.{AreCounted, AreCounts, BeginsCounting, CountsBodies, CountsBody, CountsFrame, CountsFrames, IsCount, IsCounted, count_at}

-- ---- a row more

often_more : (number : Row → Option ℕ) (rows : List Row) (row : Row) (i : ℕ)
    → how_often number (rows ++ row ∷ []) i ≡ later (how_often number rows i) (cond (is_at i (number row)) 1 0)
often_more number rows row i =
    let more = sum_by_push (λ x. cond (is_at i (number x)) 1 0) rows row in
    let of_one : later 0 (count_by (λ x. is_at i (number x)) (rows ++ row ∷ []))
    ≡ later 0 (count_by (λ x. is_at i (number x)) rows + cond (is_at i (number row)) 1 0) =
    ap (later 0) more in
    of_one ∙ omega arith

often_same : (number : Row → Option ℕ) (rows : List Row) (row : Row) (i : ℕ) → is_at i (number row) ≡ true
    → how_often number (rows ++ row ∷ []) i ≡ later (how_often number rows i) 1
often_same number rows row i same =
    often_more number rows row i ∙ ap (λ b. later (how_often number rows i) (cond b 1 0)) same

often_other : (number : Row → Option ℕ) (rows : List Row) (row : Row) (i : ℕ) → is_at i (number row) ≡ false
    → how_often number (rows ++ row ∷ []) i ≡ how_often number rows i
often_other number rows row i other =
    let none : later (how_often number rows i) 0 ≡ how_often number rows i = omega arith in
    often_more number rows row i ∙ ap (λ b. later (how_often number rows i) (cond b 1 0)) other ∙ none

-- ---- a count

pub none_counted : (number : Row → Option ℕ) (many : ℕ) (counts : List ℕ) → counts ≡ replicate many 0 → IsCount number many [] counts
none_counted number many counts same = (
  ap length same ∙ length-replicate many 0,
  λ i lt. ap (λ xs. count_at xs i) same ∙ get_or-replicate many i 0 0 lt,
)

one_at : (number : Row → Option ℕ) (many : ℕ) (rows : List Row) (row : Row) (counts : List ℕ) (n : ℕ) → Some n ≡ number row
    → IsCount number many rows counts → n < length counts → (i : ℕ) → i < many → (b : Bool) → nat_eq n i ≡ b
    → count_at (set counts n (later (count_at counts n) 1)) i ≡ how_often number (rows ++ row ∷ []) i
one_at number many rows row counts n of h inside i lt true e =
    let same : n ≡ i = eqb-true n i e in
    subst (λ (j : ℕ). count_at (set counts n (later (count_at counts n) 1)) j ≡ later (count_at counts j) 1) same
    (get_or-set_same counts n (later (count_at counts n) 1) 0 inside)
    ∙ ap (λ k. later k 1) (h.1 i lt) ∙ sym (often_same number rows row i (sym (ap (is_at i) of) ∙ e))
one_at number many rows row counts n of h inside i lt false e =
    get_or-set_other counts n i (later (count_at counts n) 1) 0 (λ is. eqb-false n i e (sym is))
    ∙ h.1 i lt ∙ sym (often_other number rows row i (sym (ap (is_at i) of) ∙ e))

-- a number is read, and one more is written
pub counted_at : (counts : List ℕ) (n was is : ℕ) → n < length counts → was ≡ get_or counts n was → is ≡ later was 1
    → (number : Row → Option ℕ) (many : ℕ) (rows : List Row) (row : Row) → Some n ≡ number row
    → IsCount number many rows counts → IsCount number many (rows ++ row ∷ []) (set counts n is)
counted_at counts n was is inside read more number many rows row of h =
    let same : is ≡ later (count_at counts n) 1 =
    more ∙ ap (λ (k : ℕ). later k 1) (read ∙ get_or_default_zero counts n was inside) in
    subst (λ (k : ℕ). IsCount number many (rows ++ row ∷ []) (set counts n k)) (sym same) (
      length-set counts n (later (count_at counts n) 1) ∙ h.0,
      λ i lt. one_at number many rows row counts n of h inside i lt (nat_eq n i) refl,
    )

-- a row that has no number, or none of these counts
pub not_counted : (number : Row → Option ℕ) (many : ℕ) (rows : List Row) (row : Row) (counts : List ℕ) → number row ≡ None
    → IsCount number many rows counts → IsCount number many (rows ++ row ∷ []) counts
not_counted number many rows row counts none h =
    (h.0, λ i lt. h.1 i lt ∙ sym (often_other number rows row i (ap (is_at i) none)))

pub past_counted : (number : Row → Option ℕ) (many : ℕ) (rows : List Row) (row : Row) (counts : List ℕ) (n : ℕ) → Some n ≡ number row
    → length counts ≤ n → IsCount number many rows counts → IsCount number many (rows ++ row ∷ []) counts
past_counted number many rows row counts n of past h = (
  h.0,
  λ i lt. let size = h.0 in
      let other : nat_eq n i ≡ false = ne_eqb n i (λ same. omega (arith, past, lt, same, size)) in
      h.1 i lt ∙ sym (often_other number rows row i (sym (ap (is_at i) of) ∙ other)),
)

-- ---- the frames

rows_then : (p : AbstractPolicy) (fs gs : List (List ℕ)) (a b : List Row) → AreRows p fs a → AreRows p gs b → AreRows p (fs ++ gs) (a ++ b)
rows_then p [] gs a b none h = subst (λ (rows : List Row). AreRows p gs (rows ++ b)) (sym none) h
rows_then p (f ∷ fs) gs a b (row, others, is, more, joined) h =
    (row, others ++ b, is, rows_then p fs gs others b more h, ap (λ rows. rows ++ b) joined)

bodies_then : (p : AbstractPolicy) (fs gs : List (List ℕ)) (a b c : Counts) → CountsBodies p fs a b → CountsBodies p gs b c
    → CountsBodies p (fs ++ gs) a c
bodies_then p fs gs a b c h k = (
  h.0 ++ k.0,
  rows_then p fs gs h.0 k.0 h.1 k.1,
  λ rows before. subst (λ (x : List Row). AreCounts (length p.rules) x c) (append_assoc rows h.0 k.0)
      (k.2 (rows ++ h.0) (h.2 rows before)),
)

bodies_none : (p : AbstractPolicy) (a : Counts) → CountsBodies p [] a a
bodies_none p a = (
  [],
  refl,
  λ rows before. subst (λ (x : List Row). AreCounts (length p.rules) x a) (sym (append-nil rows)) before,
)

bodies_one : (p : AbstractPolicy) (f : List ℕ) (a b : Counts) → CountsBody p (body_in (drop 4 f)) a b → CountsBodies p (f ∷ []) a b
bodies_one p f a b h = (h.0 ∷ [], (h.0, [], h.1, refl, refl), h.2)

bodies_counted : (p : AbstractPolicy) (fs gs : List (List ℕ)) (a b : Counts) → IsCounted p fs a → CountsBodies p gs a b → IsCounted p (fs ++ gs) b
bodies_counted p fs gs a b h k = (h.0 ++ k.0, rows_then p fs gs h.0 k.0 h.1 k.1, k.2 h.0 h.2)

-- ---- under both policies

pub frames_then : (c : AbstractComparison) (fs gs : List (List ℕ)) (a b e : Sums) → CountsFrames c fs a b → CountsFrames c gs b e
    → CountsFrames c (fs ++ gs) a e
frames_then c fs gs a b e h k = λ asked. (
  bodies_then c.old fs gs a.under_old b.under_old e.under_old (h asked).0 (k asked).0,
  bodies_then c.new fs gs a.under_new b.under_new e.under_new (h asked).1 (k asked).1,
)

pub frames_none : (c : AbstractComparison) (a : Sums) → CountsFrames c [] a a
frames_none c a = λ asked. (bodies_none c.old a.under_old, bodies_none c.new a.under_new)

pub frames_one : (c : AbstractComparison) (f : List ℕ) (a b : Sums)
    → (c.summary ≡ true → CountsFrame c (body_in (drop 4 f)) a b) → CountsFrames c (f ∷ []) a b
frames_one c f a b h = λ asked. (
  bodies_one c.old f a.under_old b.under_old (h asked).0,
  bodies_one c.new f a.under_new b.under_new (h asked).1,
)

pub frames_begun : (c : AbstractComparison) (a : Sums) → BeginsCounting c a → AreCounted c [] a
frames_begun c a h = λ asked. (([], refl, h.1), ([], refl, h.2))

pub frames_counted : (c : AbstractComparison) (fs gs : List (List ℕ)) (a b : Sums) → AreCounted c fs a → CountsFrames c gs a b
    → AreCounted c (fs ++ gs) b
frames_counted c fs gs a b h k = λ asked. (
  bodies_counted c.old fs gs a.under_old b.under_old (h asked).0 (k asked).0,
  bodies_counted c.new fs gs a.under_new b.under_new (h asked).1 (k asked).1,
)

-- ---- what holds anyhow

pub ok_if : {A E P : Type 0} (r : Result A E) → P → OnOk r P
ok_if (Ok x) p = p
ok_if (Err e) p = tt
