-- What holds of a search of the code.
use Rattle.std.specs.Prelude.{◌≡◌, ℕ, ◌+◌, List, length, slice_index_or}
use Rattle.guard_names.specs.declared.recursion.Mark.{Mark}
use Rattle.guard_names.specs.declared.recursion.Mark.TheVariants.{New}
use Rattle.guard_names.specs.declared.recursion.Search.{Search}
use Rattle.guard_names.specs.inside.Searches.{IsSearchOf, new_left}

abbrev pub mark_of : Search → ℕ → Mark
mark_of s k = slice_index_or s.marks.items k New

-- what was met stays so
abbrev pub KeepsMet : Search → Search → Type 0
KeepsMet old new = (k : ℕ) → ¬ (mark_of old k ≡ New) → ¬ (mark_of new k ≡ New)

-- how many uses are to be followed, and parts to be left
abbrev pub steps_left : List (List ℕ) → Search → ℕ
steps_left us s = new_left s.marks.items us + length s.pending.items + length s.parts.items

module _ (us : List (List ℕ)) (s : Search) where
  -- all uses are followed, but for those excepted
  abbrev pub IsSearchBut : (ℕ → Type 0) → Type 0
  IsSearchBut = IsSearchOf us s.marks.items s.path.items s.parts.items s.pending.items s.first

  abbrev pub IsSearch : Type 0
  IsSearch = IsSearchBut (λ _. ⊥)
