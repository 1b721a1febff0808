-- Octets that begin a character of UTF-8: all but those of the form 10xxxxxx (RFC 3629, section 3).
use Rattle.std.specs.Prelude.{ℕ, Bool, not}
use Rattle.std.specs.Int.{is_in_range}

abbrev pub is_first : ℕ → Bool
is_first o = not (is_in_range 128 191 o)
