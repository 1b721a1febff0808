-- The numbers of items (X.680 20).
use Rattle.std.specs.Prelude.{◌≡◌, ◌<◌, ℕ, zero, suc, ℤ, pos, Bool, true, false, List, [], ◌∷◌, ◌++◌, length, Option, Some, None}
use Rattle.std.specs.List.{list_any}
use Rattle.std.specs.Ordering.{int_eq}
use Rattle.guard_model.specs.AbstractType.{NamedNumber}
use Rattle.guard_syntax.specs.Trees.{WrittenNamed, WrittenItem, WrittenNumber}
use Rattle.guard_syntax.specs.Numbers.{number_of}

-- the numbers that are written with items
abbrev pub written_number : Option WrittenNumber → List ℤ
written_number None = []
written_number (Some n) = number_of n ∷ []

abbrev pub written_numbers : List WrittenItem → List ℤ
written_numbers [] = []
written_numbers (i ∷ items) = written_number i.number ++ written_numbers items

-- the first number from `n` on that isn't written; where no more numbers are written than there are tries, one more
-- finds it
abbrev pub free_from : List ℤ → ℕ → ℕ → ℕ
free_from written zero n = n
free_from written (suc tries) n =
    elim (list_any (int_eq (pos n)) written) [ true ↦ free_from written tries (suc n) | false ↦ n ]

-- An item with a number has that one. The others get 0, 1 and so on in their order, but no number that is written
-- (20.3).
abbrev pub given_number : List ℤ → ℕ → ℕ → Option WrittenNumber → ℤ
given_number written tries next (Some n) = number_of n
given_number written tries next None = pos (free_from written tries next)

-- the least that the next item without a number can get
abbrev pub next_number : List ℤ → ℕ → ℕ → Option WrittenNumber → ℕ
next_number written tries next (Some n) = next
next_number written tries next None = suc (free_from written tries next)

abbrev pub numbered_from : List ℤ → ℕ → ℕ → List WrittenItem → List NamedNumber
numbered_from written tries next [] = []
numbered_from written tries next (i ∷ items) =
    record { name = i.name; number = given_number written tries next i.number }
    ∷ numbered_from written tries (next_number written tries next i.number) items

abbrev pub numbered : List WrittenItem → List NamedNumber
numbered items = numbered_from (written_numbers items) (length items) 0 items

-- ---- what the law `law_numbering` says of these numbers, in the words of 20.3

abbrev pub is_among : List ℤ → ℤ → Bool
is_among taken number = list_any (int_eq number) taken

-- the number isn't negative, it isn't taken, and each number from 0 up to it is
abbrev pub IsLeastFree : List ℤ → ℤ → Type 0
IsLeastFree taken number =
    (n : ℕ) × (number ≡ pos n) × (is_among taken (pos n) ≡ false) × ((m : ℕ) → m < n → is_among taken (pos m) ≡ true)

abbrev pub HasNumber : List ℤ → Option WrittenNumber → ℤ → Type 0
HasNumber taken (Some n) number = number ≡ number_of n
HasNumber taken None number = IsLeastFree taken number

-- Each item has its name, and the number that is written with it, else the least that is free. Taken are the numbers
-- that are written with any item, and those of the items before.
abbrev pub AreNumbered : List ℤ → List WrittenItem → List NamedNumber → Type 0
AreNumbered taken [] [] = Unit {0}
AreNumbered taken (i ∷ items) (n ∷ ns) =
    (n.name ≡ i.name) × (HasNumber taken i.number n.number × AreNumbered (n.number ∷ taken) items ns)
AreNumbered taken _ _ = ⊥

-- ---- named numbers and named bits

-- each has the number that is written (19.1, 22.1)
abbrev pub named_number : WrittenNamed → NamedNumber
named_number n = record { name = n.name; number = number_of n.number }
