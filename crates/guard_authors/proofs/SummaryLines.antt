-- The lines of a summary: what is added behind a text, and by the counts as by the rows.
use Rattle.std.proofs.Common.{◌≡◌, ◌∙◌, ◌+◌, ◌<◌, ℕ, Bool, true, false, List, [], ◌∷◌, ◌++◌, length, ap, refl, arith, append_assoc}
use Rattle.std.specs.Prelude.{codes, decimal}
use Rattle.guard_policy.specs.Policies.{AbstractPolicy, AbstractRule}
use Rattle.guard_files.specs.RuleText.{said_text}
use Rattle.guard_authors.specs.declared.summary.Counts.{Counts}
use Rattle.guard_authors.specs.declared.summary.Row.{Row}
use Rattle.guard_authors.specs.declared.summary.Sums.{Sums}
use Rattle.guard_authors.specs.Differing.{AbstractComparison}
use Rattle.guard_authors.specs.Summary.{IsSummary, both_lines, counted_lines, how_often, lines_of, place_of, policy_lines, reason_line, reasons, rule_line, rule_of}
use Rattle.guard_authors.specs.inside.Counting.{AreCounted, AreCounts, count_at, lines_of_counts, summed}

-- ---- what is added

-- the line of a rule, as the code has it
pub line_added : (text : List ℕ) (n : ℕ) (r : AbstractRule)
    → (text ++ said_text r) ++ (codes " " ++ decimal n ++ codes "\n") ≡ text ++ rule_line n r
line_added text n r = simp append_assoc

-- ---- by the counts as by the rows

-- the lines of a policy, as the code has them
pub policy_added : (p : AbstractPolicy) (t x y rules rules₁ counts counts₁ : List ℕ) → rules ≡ rules₁ → counts ≡ counts₁
    → x ≡ t ++ lines_of rule_line (count_at rules) 0 p.rules → y ≡ x ++ lines_of reason_line (count_at counts) 0 reasons
    → y ≡ t ++ policy_lines p (count_at rules₁) (count_at counts₁)
policy_added p t x y rules rules₁ counts counts₁ er es ex ey =
    rw (ey, ex, er, es)
    (append_assoc t (lines_of rule_line (count_at rules₁) 0 p.rules) (lines_of reason_line (count_at counts₁) 0 reasons))

lines_alike : {A : Type 0} (line : ℕ → A → List ℕ) (f g : ℕ → ℕ) (i : ℕ) (xs : List A)
    → ((k : ℕ) → k < i + length xs → f k ≡ g k) → lines_of line f i xs ≡ lines_of line g i xs
lines_alike line f g i [] same = refl
lines_alike line f g i (x ∷ xs) same =
    let here = same i (omega arith) in
    let rest = lines_alike line f g (i + 1) xs (λ k lt. same k (omega (arith, lt))) in
    ap (λ (n : ℕ). line n x ++ lines_of line f (i + 1) xs) here ∙ ap (λ (s : List ℕ). line (g i) x ++ s) rest

counts_alike : (p : AbstractPolicy) (rows : List Row) (counts : Counts) → AreCounts (length p.rules) rows counts
    → lines_of_counts p counts ≡ counted_lines p rows
counts_alike p rows counts h =
    ap (λ (s : List ℕ). s ++ lines_of reason_line (count_at counts.reasons.items) 0 reasons)
    (lines_alike rule_line (count_at counts.rules.items) (how_often rule_of rows) 0 p.rules (λ k lt. h.0.1 k (omega (arith, lt))))
    ∙ ap (λ (s : List ℕ). lines_of rule_line (how_often rule_of rows) 0 p.rules ++ s)
    (lines_alike reason_line (count_at counts.reasons.items) (how_often place_of rows) 0 reasons h.1.1)

summed_as : (asked : Bool) (c : AbstractComparison) (frames : List (List ℕ)) (s : Sums) → c.summary ≡ asked → AreCounted c frames s
    → IsSummary asked c frames (summed asked c s)
summed_as false c frames s is h = refl
summed_as true c frames s is h =
    let old = (h is).0 in
    let new = (h is).1 in (
      old.0,
      new.0,
      old.1,
      new.1,
      ap (λ (x : List ℕ). both_lines x (lines_of_counts c.new s.under_new)) (counts_alike c.old old.0 s.under_old old.2)
          ∙ ap (λ (x : List ℕ). both_lines (counted_lines c.old old.0) x) (counts_alike c.new new.0 s.under_new new.2),
    )

pub is_summary : (c : AbstractComparison) (frames : List (List ℕ)) (s : Sums) → AreCounted c frames s
    → IsSummary c.summary c frames (summed c.summary c s)
is_summary c frames s h = summed_as c.summary c frames s refl h
