-- Lists of octets.
use Rattle.std.specs.Prelude.{ℕ, ◌<◌, ◌^◌, List, All}

-- each is a number of eight bits
abbrev pub IsOctets : List ℕ → Type 0
IsOctets octets = All (λ octet. octet < 2 ^ 8) octets
