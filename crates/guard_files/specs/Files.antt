-- What reads of files find at a path.
use Rattle.std.specs.Prelude.{◌≡◌, ◌<◌, ◌≤◌, ℕ, zero, suc, List, length, take, Option, Some, None, option_map}
use Rattle.guard_files.specs.declared.files.FilesFault.{FilesFault}
use Rattle.guard_files.specs.declared.files.FilesFault.TheVariants.{CannotRead, OutOfMemory}

-- What each of the reads to come finds at a path, a text or nothing, where that is known; the next read is number 0. A
-- file may change from one read to another. Of those of a disk nothing is known.
abbrev pub Told : Type 0
Told = ℕ → List ℕ → Option (Option (List ℕ))

-- what the reads after the next one find
abbrev pub after_read : Told → Told
after_read told = λ n. told (suc n)

-- what the reads after so many find
abbrev pub after_reads : ℕ → Told → Told
after_reads zero told = told
after_reads (suc n) told = after_reads n (after_read told)

-- some reads later
abbrev pub IsLater : Told → Told → Type 0
IsLater told later = (reads : ℕ) × (later ≡ after_reads reads told)

-- it is what was known, or nothing was known of it
abbrev pub IsAsTold : Option (Option (List ℕ)) → Option (List ℕ) → Type 0
IsAsTold None found = Unit {0}
IsAsTold (Some told) found = found ≡ told

-- the next read can read nothing at the path
abbrev pub HasNone : Told → List ℕ → Type 0
HasNone told path = IsAsTold (told 0 path) None

-- so it is where it is answered that a file can't be read; that memory ran out says nothing of files
abbrev pub FindsNone : Told → List ℕ → FilesFault → Type 0
FindsNone told path (CannotRead obstacle) = HasNone told path
FindsNone told path OutOfMemory = Unit {0}

-- ---- how much of a text is read

-- a read of at most so many octets finds these: the first ones of the text at the path, or all of a shorter one
abbrev pub HasFirst : ℕ → Told → List ℕ → List ℕ → Type 0
HasFirst most told path text =
    IsAsTold (option_map (option_map (take most)) (told 0 path)) (Some text) × (length text ≤ most)

-- Of a module, and of a message in a file, one octet more is read than either may have, so that one that is too long is
-- seen to be.
abbrev pub HasFront : Told → List ℕ → List ℕ → Type 0
HasFront told path text = HasFirst 1048577 told path text

-- A policy or a file of cases is read whole. It has 67,108,864 octets at most.
abbrev pub HasText : Told → List ℕ → List ℕ → Type 0
HasText told path text = IsAsTold (told 0 path) (Some text) × (length text ≤ 67108864)

-- it has more, or isn't known
abbrev pub IsLarger : Option (Option (List ℕ)) → Type 0
IsLarger None = Unit {0}
IsLarger (Some None) = ⊥
IsLarger (Some (Some text)) = 67108864 < length text

abbrev pub IsTooLarge : Told → List ℕ → Type 0
IsTooLarge told path = IsLarger (told 0 path)
