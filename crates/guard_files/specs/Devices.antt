-- Standard input, standard output and standard error, before and after: what each tells, and whether it has failed.
use Rattle.std.specs.Prelude.{◌≡◌, ℕ, Bool, List, Option}

-- A source still tells octets, and counts how often it was asked for some. A real one tells nothing.
pub record Input : Type 0 where
  pub before : Option (List ℕ)
  pub after : Option (List ℕ)
  pub asked_before : ℕ
  pub asked_after : ℕ
  pub failed : Bool

abbrev pub input_of : Option (List ℕ) → Option (List ℕ) → ℕ → ℕ → Bool → Input
input_of before after asked_before asked_after failed =
    record { before = before; after = after; asked_before = asked_before; asked_after = asked_after; failed = failed }

-- what a source tells, how often it was asked, and whether it has failed
abbrev pub source_of : {S : Type 0} → (S → Option (List ℕ)) → (S → ℕ) → (S → Bool) → S → S → Input
source_of tells takes has_failed old new = input_of (tells old) (tells new) (takes old) (takes new) (has_failed new)

-- nothing was read
abbrev pub IsUnread : Input → Type 0
IsUnread i = (i.after ≡ i.before) × (i.asked_after ≡ i.asked_before)

-- A sink tells the octets that it took. A real one tells nothing.
pub record Device : Type 0 where
  pub before : Option (List ℕ)
  pub after : Option (List ℕ)
  pub failed : Bool

abbrev pub device : Option (List ℕ) → Option (List ℕ) → Bool → Device
device before after failed = record { before = before; after = after; failed = failed }

-- what a sink took, and whether it has failed
abbrev pub device_of : {S : Type 0} → (S → Option (List ℕ)) → (S → Bool) → S → S → Device
device_of taken has_failed old new = device (taken old) (taken new) (has_failed new)

-- nothing was written
abbrev pub IsUntouched : Device → Type 0
IsUntouched d = d.after ≡ d.before
