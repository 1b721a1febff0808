-- What is counted of frames, as the code counts it.
use Rattle.std.specs.Prelude.{◌≡◌, ◌<◌, ℕ, Bool, true, false, List, [], ◌∷◌, ◌++◌, length, get_or, Option}
use Rattle.guard_policy.specs.Policies.{AbstractPolicy}
use Rattle.guard_frames.specs.Bodies.{AbstractBody}
use Rattle.guard_authors.specs.declared.summary.Counts.{Counts}
use Rattle.guard_authors.specs.declared.summary.Row.{Row}
use Rattle.guard_authors.specs.declared.summary.Sums.{Sums}
use Rattle.guard_authors.specs.Differing.{AbstractComparison, no_frames, total_line}
use Rattle.guard_authors.specs.Summary.{AreRows, IsRow, both_lines, how_often, place_of, policy_lines, rule_of}

-- ---- one policy

abbrev pub count_at : List ℕ → ℕ → ℕ
count_at counts i = get_or counts i 0

-- so many counts, of how many rows are of each number
abbrev pub IsCount : (Row → Option ℕ) → ℕ → List Row → List ℕ → Type 0
IsCount number many rows counts =
    (length counts ≡ many) × ((i : ℕ) → i < many → count_at counts i ≡ how_often number rows i)

-- what is counted of frames in these rows, where there are so many rules
abbrev pub AreCounts : ℕ → List Row → Counts → Type 0
AreCounts many rows counts =
    IsCount rule_of many rows counts.rules.items × IsCount place_of 6 rows counts.reasons.items

-- in these rows and one more
abbrev pub CountsRow : ℕ → Row → Counts → Counts → Type 0
CountsRow many row before after =
    (rows : List Row) → AreCounts many rows before → AreCounts many (rows ++ row ∷ []) after

-- in these rows and more
abbrev pub CountsRows : ℕ → List Row → Counts → Counts → Type 0
CountsRows many more before after =
    (rows : List Row) → AreCounts many rows before → AreCounts many (rows ++ more) after

-- ---- both policies

abbrev pub BeginsCounting : AbstractComparison → Sums → Type 0
BeginsCounting c s =
    (s.tally ≡ no_frames) × AreCounts (length c.old.rules) [] s.under_old × AreCounts (length c.new.rules) [] s.under_new

-- the frame with this body
abbrev pub CountsBody : AbstractPolicy → Option AbstractBody → Counts → Counts → Type 0
CountsBody p body before after = (row : Row) × IsRow p body row × CountsRow (length p.rules) row before after

abbrev pub CountsFrame : AbstractComparison → Option AbstractBody → Sums → Sums → Type 0
CountsFrame c body before after =
    CountsBody c.old body before.under_old after.under_old × CountsBody c.new body before.under_new after.under_new

-- these frames
abbrev pub CountsBodies : AbstractPolicy → List (List ℕ) → Counts → Counts → Type 0
CountsBodies p frames before after = (rows : List Row) × AreRows p frames rows × CountsRows (length p.rules) rows before after

-- these frames, where a summary is asked for
abbrev pub CountsFrames : AbstractComparison → List (List ℕ) → Sums → Sums → Type 0
CountsFrames c frames before after = c.summary ≡ true →
    CountsBodies c.old frames before.under_old after.under_old × CountsBodies c.new frames before.under_new after.under_new

-- all frames so far
abbrev pub IsCounted : AbstractPolicy → List (List ℕ) → Counts → Type 0
IsCounted p frames counts = (rows : List Row) × AreRows p frames rows × AreCounts (length p.rules) rows counts

abbrev pub AreCounted : AbstractComparison → List (List ℕ) → Sums → Type 0
AreCounted c frames s = c.summary ≡ true → IsCounted c.old frames s.under_old × IsCounted c.new frames s.under_new

-- ---- the table, by the counts

abbrev pub lines_of_counts : AbstractPolicy → Counts → List ℕ
lines_of_counts p counts = policy_lines p (count_at counts.rules.items) (count_at counts.reasons.items)

abbrev pub summed : Bool → AbstractComparison → Sums → List ℕ
summed false c s = []
summed true c s = both_lines (lines_of_counts c.old s.under_old) (lines_of_counts c.new s.under_new)

abbrev pub total_text : AbstractComparison → Sums → List ℕ
total_text c s = summed c.summary c s ++ total_line s.tally
