-- Names of senders, receivers, messages and rules.
use Rattle.std.specs.Prelude.{ℕ, Bool, ◌&&◌, ◌||◌, nat_le, nat_eq, bytes_eq, codes, List, length}
use Rattle.std.specs.Char.{is_ascii_alphanumeric}
use Rattle.std.specs.List.{list_all}
use Rattle.guard_policy.specs.Policies.{AbstractRoute}

-- a letter, a digit, `-`, `_` or `.`
abbrev pub is_name_octet : ℕ → Bool
is_name_octet c = is_ascii_alphanumeric c || nat_eq c 45 || nat_eq c 95 || nat_eq c 46

-- 1 to 63 of them
abbrev pub is_name : List ℕ → Bool
is_name octets = nat_le 1 (length octets) && nat_le (length octets) 63 && list_all is_name_octet octets

-- what a rule says for every sender, or for every receiver; it is no name
abbrev pub anyone : List ℕ
anyone = codes "*"

-- what a rule may give for its sender or its receiver
abbrev pub is_party : List ℕ → Bool
is_party given = is_name given || bytes_eq given anyone

-- What a rule gives for its sender or its receiver is meant of this one: it is the same name, or `*`.
abbrev pub is_meant : List ℕ → List ℕ → Bool
is_meant given name = bytes_eq given name || bytes_eq given anyone

-- all three are names
abbrev pub is_plain : AbstractRoute → Bool
is_plain route = is_name route.from && is_name route.to && is_name route.message
