-- How many octets encodings have, as they are counted while values are read.
use Rattle.std.specs.Prelude.{◌≡◌, ℕ, ◌+◌, Bool, Option, if◌then◌else◌}
use Rattle.guard_model.specs.AbstractType.{AbstractType, AbstractKind}
use Rattle.guard_model.specs.ValueView.{value_view}
use Rattle.guard_der.specs.Der.{der, contents_octets, ◌>>=◌}
use Rattle.guard_der.specs.Encoding.{short, short_length}
use Rattle.guard_values.specs.declared.lengths.Counted.{Counted}

-- both together
abbrev pub short_sum : Option ℕ → Option ℕ → Option ℕ
short_sum first others = first >>= λ m. others >>= λ n. short (m + n)

-- of components with one more: one that is left out adds nothing
abbrev pub with_part : Bool → Option ℕ → Option ℕ → Option ℕ
with_part left_out so_far more = if left_out then so_far else short_sum more so_far

-- the value's encoding has so many octets
abbrev pub IsCounted : AbstractType → Counted → Type 0
IsCounted t c = c.length ≡ short_length (der t (value_view c.value))

-- its contents have
abbrev pub HasContents : AbstractKind → Counted → Type 0
HasContents kind c = c.length ≡ short_length (contents_octets kind (value_view c.value))
