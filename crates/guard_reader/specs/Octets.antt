-- The octets of one element: its contents, and what follows them.
use Rattle.std.specs.Prelude.{ℕ, Bool, ◌&&◌, ◌^◌, List, length, take, drop, nat_lt, Option, Some, None, Result, Ok, Err, if◌then◌else◌}
use Rattle.guard_der.specs.declared.breach.Code.{Code}
use Rattle.guard_der.specs.Fits.{all_below}
use Rattle.guard_der.specs.Head.{length_at}
use Rattle.guard_der.specs.Simple.{are_subidentifiers, subidentifiers}

infixl 10 ◌>>=◌
abbrev pub ◌>>=◌ : {A B : Type 0} → Option A → (A → Option B) → Option B
None >>= f = None
(Some x) >>= f = f x

-- the contents and the rest, of octets after a length of n octets
abbrev pub cut : ℕ → List ℕ → Option (List ℕ × List ℕ)
cut n os = if nat_lt (length os) n then None else Some (take n os, drop n os)

abbrev pub cut_at : Result (ℕ × List ℕ) Code → Option (List ℕ × List ℕ)
cut_at (Err c) = None
cut_at (Ok l) = cut l.0 l.1

-- after an identifier
unfoldable pub split : List ℕ → Option (List ℕ × List ℕ)
split os = cut_at (length_at os)

-- the number of contents octets, 0 where the length is at fault
abbrev pub size_at : Result (ℕ × List ℕ) Code → ℕ
size_at (Err c) = 0
size_at (Ok l) = l.0

-- a value that was read
abbrev pub ok : {A F : Type 0} → Result A F → Option A
ok (Ok x) = Some x
ok (Err f) = None

-- Subidentifiers are well formed and have at most 128 bits (X.690 8.19.2), where the first of them spelled n so far.
abbrev pub reads_on : Bool → ℕ → List ℕ → Bool
reads_on starts n os = are_subidentifiers starts os && all_below (2 ^ 128) (subidentifiers n os)
