-- What is said of which policy is in force, by the number of its texts.
use Rattle.std.specs.Prelude.{ℕ, List, ◌++◌, codes}
use Rattle.hex.specs.Hex.{encode_lower}

-- `derguard: digest HEX`, of a policy that is in force from now on
abbrev pub digest_note : List ℕ → List ℕ
digest_note digest = codes "derguard: digest " ++ encode_lower digest ++ codes "\n"

-- `derguard: the old policy stays, digest HEX`
abbrev pub kept_note : List ℕ → List ℕ
kept_note digest = codes "derguard: the old policy stays, digest " ++ encode_lower digest ++ codes "\n"
