-- The characters of a text, as its octets in UTF-8 show them.
use Rattle.std.specs.Prelude.{ℕ, Bool, ◌||◌, nat_lt, nat_le}

-- the octet doesn't continue a character: those that do are from 128 to 191
abbrev pub begins_one : ℕ → Bool
begins_one octet = nat_lt octet 128 || nat_le 192 octet
