-- One number over the octets of a policy and of its modules.
use Rattle.std.specs.Prelude.{◌≡◌, ℕ, List, ◌∷◌, ◌++◌, length, map}
use Rattle.std.specs.Int.{w64, to_be_bytes}
use Rattle.std.specs.List.{concat}
use Rattle.sha2.specs.Sha256.{sha256}
use Rattle.guard_policy.specs.Policies.{AbstractPolicy}
use Rattle.guard_frames.specs.Texts.{SayPolicy}
use Rattle.guard_files.specs.Files.{Told}
use Rattle.guard_files.specs.Reading.{AreTexts}

-- A text behind its length as eight octets, the high one first. So octets are those of one list of texts alone.
abbrev pub with_length : List ℕ → List ℕ
with_length text = to_be_bytes w64 (length text) ++ text

-- SHA-256 over the policy's text and those of its modules, in the order in which it lists them
abbrev pub digest_of : List ℕ → List (List ℕ) → List ℕ
digest_of text modules = sha256 (concat (map with_length (text ∷ modules)))

-- the texts of the policy at the path say it, and this is their number
abbrev pub IsNumberedAt : Told → List ℕ → AbstractPolicy → List ℕ → Type 0
IsNumberedAt told path p digest =
    (text : List ℕ) × (modules : List (List ℕ)) × AreTexts told path text modules × SayPolicy modules text p
    × (digest ≡ digest_of text modules)
