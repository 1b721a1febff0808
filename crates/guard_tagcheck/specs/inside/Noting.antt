-- How tags are noted with the first component that may begin with them, and how the least pair of components that share
-- one is kept.
use Rattle.std.specs.Prelude.{◌≡◌, ℕ, ◌<◌, ◌≤◌, min, Bool, List, Option, Some, None, IsTrue, if◌then◌else◌, is_some, nat_le}
use Rattle.std.specs.Map.{lookup}
use Rattle.std.specs.Option.{option_or}
use Rattle.guard_model.specs.declared.tag.Tag.{Tag}
use Rattle.guard_model.specs.Tags.{same_tag}
use Rattle.guard_model.specs.AbstractType.{AbstractType}
use Rattle.guard_tagcheck.specs.FirstTags.{begins_with}

-- the position that is noted at a tag
abbrev pub noted : List (Tag × ℕ) → Tag → Option ℕ
noted entries tag = lookup (same_tag tag) entries

-- the least position that is so, or None where none is
abbrev pub IsEarliest : (ℕ → Type 0) → Option ℕ → Type 0
IsEarliest IsSo None = (i : ℕ) → IsSo i → ⊥
IsEarliest IsSo (Some first) = IsSo first × ((i : ℕ) → IsSo i → first ≤ i)

-- what is noted, and this position at each of these tags that has none yet
abbrev pub Notes : (Tag → Option ℕ) → (Tag → Bool) → ℕ → (Tag → Option ℕ) → Type 0
Notes old begins position new = (tag : Tag) → new tag ≡ option_or (old tag) (if begins tag then Some position else None)

-- a position is noted at each tag with which an encoding of the type may begin, and at no other
abbrev pub AreNoted : (Tag → Option ℕ) → AbstractType → Type 0
AreNoted notes t = (tag : Tag) → is_some (notes tag) ≡ begins_with t tag

-- position i, which is before this one, is noted at one of these tags
abbrev pub IsNoted : (Tag → Option ℕ) → (Tag → Bool) → ℕ → ℕ → Type 0
IsNoted notes begins position i = (tag : Tag) × IsTrue (begins tag) × (notes tag ≡ Some i) × (i < position)

-- the lesser of two positions that may be missing
abbrev pub earlier : Option ℕ → Option ℕ → Option ℕ
earlier None b = b
earlier (Some i) None = Some i
earlier (Some i) (Some j) = Some (min i j)

-- the least pair so far, or one whose second position comes after all of that
abbrev pub lesser : Option (ℕ × ℕ) → Option ℕ → ℕ → Option (ℕ × ℕ)
lesser least None second = least
lesser None (Some first) second = Some (first, second)
lesser (Some pair) (Some first) second = if nat_le pair.0 first then Some pair else Some (first, second)
