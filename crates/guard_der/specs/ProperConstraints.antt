-- Which constraints a type may have (X.680 clause 51): which values may be in them, and which kinds may have SIZE.
use Rattle.std.specs.Prelude.{ℕ, Bool, false, not, ◌&&◌, List, length, nat_le, Option, Some, None}
use Rattle.guard_model.specs.AbstractType.{AbstractType, AbstractKind}
use Rattle.guard_model.specs.AbstractValue.{AbstractValue}
use Rattle.guard_model.specs.Kinds.{has_size, has_named_bits}
use Rattle.guard_der.specs.Der.{der}
use Rattle.guard_der.specs.Encoding.{longest_encoding}
use Rattle.guard_der.specs.Fits.{fits}

-- ---- values

-- this profile's limit on the encoding of a value that is written in a type
abbrev pub is_short : Option (List ℕ) → Bool
is_short None = false
is_short (Some os) = nat_le (length os) longest_encoding

-- a value of the type that may be a default, or a single value of a constraint (51.2)
abbrev pub may_stand_in : AbstractType → AbstractValue → Bool
may_stand_in t v = fits t v && is_short (der t v)

-- ---- sizes

-- Bits, octets, characters and elements can be counted (51.5). A BIT STRING with named bits has no SIZE in this
-- profile: its trailing zero bits don't count (22.7).
abbrev pub takes_size : AbstractKind → Bool
takes_size kind = has_size kind && not (has_named_bits kind)

-- ---- types inside

-- There is such a type, and it passes the test.
abbrev pub is_there_and : (AbstractType → Bool) → Option AbstractType → Bool
is_there_and test None = false
is_there_and test (Some t) = test t
