-- Identifier, length and contents octets (X.690 8.1).
use Rattle.std.specs.Prelude.{ℕ, ◌+◌, ◌*◌, ◌^◌, Bool, true, List, [], ◌∷◌, ◌++◌, length, nat_lt, Option, Some, None, option_and_then, if◌then◌else◌}
use Rattle.guard_model.specs.declared.tag.Tag.{Tag}
use Rattle.guard_model.specs.Tags.{class_rank}
use Rattle.guard_der.specs.Octets.{unsigned_octets, base_128}

-- bit 6 is set on a constructed encoding (X.690 8.1.2.5)
abbrev pub form_bit : Bool → ℕ
form_bit constructed = if constructed then 32 else 0

-- the class in bits 8 and 7; a number up to 30 in bits 5 to 1, a greater one in octets of its own (X.690 8.1.2)
unfoldable pub identifier_octets : Tag → Bool → List ℕ
identifier_octets tag constructed =
    if nat_lt tag.number 31
    then (64 * class_rank tag.class + form_bit constructed + tag.number) ∷ []
    else (64 * class_rank tag.class + form_bit constructed + 31) ∷ base_128 tag.number

-- the definite form with the least octets (X.690 8.1.3, 10.1)
unfoldable pub length_octets : ℕ → List ℕ
length_octets n = if nat_lt n 128 then n ∷ [] else (128 + length (unsigned_octets n)) ∷ unsigned_octets n

-- none where the length needs more than four octets
unfoldable pub element : Tag → Bool → List ℕ → Option (List ℕ)
element tag constructed contents =
    if nat_lt (length contents) (2 ^ 32)
    then Some (identifier_octets tag constructed ++ length_octets (length contents) ++ contents)
    else None

-- Each tag but the last is a wrapper, the outermost first (X.690 8.14). Without a tag the contents are the encoding, as
-- those of an untagged CHOICE are, which are the chosen alternative's encoding (8.13).
abbrev pub tagged : List Tag → Bool → List ℕ → Option (List ℕ)
tagged [] constructed contents = Some contents
tagged (t ∷ []) constructed contents = element t constructed contents
tagged (t ∷ u ∷ ts) constructed contents = option_and_then (element t true) (tagged (u ∷ ts) constructed contents)
