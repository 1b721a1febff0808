-- What `encode` and its parts answer.
use Rattle.std.specs.Prelude.{ℕ, ◌+◌, false, List, [], ◌∷◌, length, nat_le, Option, Some, None, Result, Ok, Err, if◌then◌else◌}
use Rattle.guard_model.specs.AbstractType.{AbstractType}
use Rattle.guard_model.specs.AbstractValue.{AbstractValue}
use Rattle.guard_model.specs.declared.tag.Tag.{Tag}
use Rattle.guard_der.specs.Der.{der, ◌>>=◌}
use Rattle.guard_der.specs.Element.{identifier_octets, length_octets}
use Rattle.guard_der.specs.declared.encoding.EncodeFault.{EncodeFault}
use Rattle.guard_der.specs.declared.encoding.EncodeFault.TheVariants.{TooLong, OutOfMemory}

-- What a refusal says of the value: nothing where memory ran out.
abbrev pub refusal : EncodeFault → Option EncodeFault
refusal TooLong = Some TooLong
refusal OutOfMemory = None

-- what is answered where there is no encoding, as a length in it would need more than four octets
abbrev pub or_too_long : {A : Type 0} → Option A → Result A EncodeFault
or_too_long None = Err TooLong
or_too_long (Some x) = Ok x

-- in octets
abbrev pub longest_encoding : ℕ
longest_encoding = 1048576

abbrev pub limited : Option (List ℕ) → Result (List ℕ) EncodeFault
limited None = Err TooLong
limited (Some os) = if nat_le (length os) longest_encoding then Ok os else Err TooLong

-- The encoding where there is one of at most 1,048,576 octets, else TooLong.
abbrev pub encoding_of : AbstractType → AbstractValue → Result (List ℕ) EncodeFault
encoding_of t v = limited (der t v)

-- ---- how many octets they are

-- the number, where an encoding may have so many octets
abbrev pub short : ℕ → Option ℕ
short n = if nat_le n longest_encoding then Some n else None

-- how many octets the encoding has, where there is one of at most 1,048,576
abbrev pub short_length : Option (List ℕ) → Option ℕ
short_length None = None
short_length (Some os) = short (length os)

-- how many octets stand before so many contents octets: a constructed encoding has as many as a primitive one
abbrev pub header_length : Tag → ℕ → ℕ
header_length t n = length (identifier_octets t false) + length (length_octets n)

-- how many octets so many contents octets have in their tags, the outermost first
abbrev pub length_in : List Tag → Option ℕ → Option ℕ
length_in [] n = n
length_in (t ∷ ts) n = length_in ts n >>= λ k. short (k + header_length t k)
