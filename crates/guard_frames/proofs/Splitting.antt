-- Each stream has a reading as frames and a rest: its first frame is cut off, as long as there is one.
use Rattle.std.proofs.Common.{◌≡◌, ◌≤◌, ◌⊎◌, zero, suc, ℕ, ◌+◌, List, [], ◌∷◌, ◌++◌, ◌∙◌, ap, sym, refl, take, drop, length, inl, inr, append_assoc, length-drop, length-take, arith}
use Rattle.std.specs.List.{concat}
use Rattle.std.proofs.lemmas.List.{take-append-drop}
use Rattle.std.proofs.lemmas.List.Elements.{All-cons}
use Rattle.guard_frames.specs.Frames.{stated_length, IsFrame, IsTooLong, IsUnfinished, ConsistsOf}
use Rattle.guard_frames.proofs.Elements.{All_none}
use Rattle.guard_frames.proofs.Progress.{le_or_gt}
use Rattle.guard_frames.proofs.Readings.{stated_length-append}

-- what octets begin with
abbrev Begins : List ℕ → Type 0
Begins s = ((n : ℕ) × (n ≤ length s) × IsFrame (take n s)) ⊎ (IsUnfinished s ⊎ IsTooLong s)

front_frame : (s : List ℕ) → 4 ≤ length s → stated_length s ≤ 1048576 → stated_length s + 4 ≤ length s → IsFrame (take (stated_length s + 4) s)
front_frame s header allowed whole =
    let n : ℕ = stated_length s + 4 in
    let long : length (take n s) ≡ n = omega (arith, length-take n s, whole) in
    let four : 4 ≤ length (take n s) = omega (arith, long) in
    let same : stated_length s ≡ stated_length (take n s) =
    ap stated_length (sym (take-append-drop n s)) ∙ stated_length-append (take n s) (drop n s) four in
    record { header = four; allowed = omega (arith, same, allowed); exact = omega (arith, long, same) }

begins : (s : List ℕ) → Begins s
begins s = elim (le_or_gt 4 (length s)) [
  | inl header ↦ elim (le_or_gt (stated_length s) 1048576) [
    | inl allowed ↦ elim (le_or_gt (stated_length s + 4) (length s)) [
      | inl whole ↦ inl (stated_length s + 4, whole, front_frame s header allowed whole)
      | inr short ↦ inr (inl (record { allowed = λ _. allowed; short = λ _. short }))
    ]
    | inr beyond ↦ inr (inr (record { header = header; beyond = beyond }))
  ]
  | inr few ↦ inr (inl (record { allowed = λ h. absurd (omega (arith, few, h)); short = λ h. absurd (omega (arith, few, h)) }))
]

abbrev Reading : List ℕ → Type 0
Reading s = (frames : List (List ℕ)) × (rest : List ℕ) × ConsistsOf s frames rest

rest_alone : (s : List ℕ) → (IsUnfinished s ⊎ IsTooLong s) → Reading s
rest_alone s left = ([], s, record { whole = refl; each = All_none IsFrame; left = left })

one_more : (s : List ℕ) (n : ℕ) → IsFrame (take n s) → Reading (drop n s) → Reading s
one_more s n frame r =
    let whole : s ≡ concat (take n s ∷ r.0) ++ r.1 =
    sym (take-append-drop n s) ∙ ap (λ x. take n s ++ x) r.2.whole ∙ sym (append_assoc (take n s) (concat r.0) r.1) in
    (take n s ∷ r.0, r.1, record { whole = whole; each = All-cons IsFrame (take n s) r.0 frame r.2.each; left = r.2.left })

-- of a stream of at most k octets
within : (k : ℕ) (s : List ℕ) → length s ≤ k → Reading s
within zero s h = rest_alone s (inl (record { allowed = λ four. absurd (omega (arith, four, h)); short = λ four. absurd (omega (arith, four, h)) }))
within (suc k) s h = elim (begins s) [
  | inl w ↦
      let n : ℕ = w.0 in
      let le : n ≤ length s = w.1 in
      let frame : IsFrame (take n s) = w.2 in
      let some : 4 ≤ n = omega (arith, frame.header, length-take n s) in
      one_more s n frame (within k (drop n s) (omega (arith, length-drop n s, some, h, le)))
  | inr left ↦ rest_alone s left
]

pub a_reading : (s : List ℕ) → (frames : List (List ℕ)) × (rest : List ℕ) × ConsistsOf s frames rest
a_reading s = within (length s) s (omega arith)
