-- How many octets an encoding has, as it is counted.
use Rattle.std.specs.Prelude.{ℕ, ◌+◌, List, length, Option, Some, None}
use Rattle.guard_der.specs.Encoding.{short}

-- how many octets there are with so many before them
abbrev pub short_after : ℕ → Option (List ℕ) → Option ℕ
short_after n None = None
short_after n (Some os) = short (n + length os)
