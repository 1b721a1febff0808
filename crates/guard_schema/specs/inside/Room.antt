-- Tags under which there is room for so many contents octets.
use Rattle.std.specs.Prelude.{ℕ, Bool, List, IsTrue}
use Rattle.std.specs.Option.{is_some}
use Rattle.guard_model.specs.declared.tag.Tag.{Tag}
use Rattle.guard_model.specs.AbstractType.{AbstractType}
use Rattle.guard_der.specs.Encoding.{short, length_in}
use Rattle.guard_values.specs.SingleValues.{keeps_within}

-- contents of so many octets make an encoding in these tags that isn't too long
abbrev pub has_room : List Tag → ℕ → Bool
has_room tags n = is_some (length_in tags (short n))

-- there is room in these tags for each single value in the type's own constraints
abbrev pub HasRoom : List Tag → AbstractType → Type 0
HasRoom tags t = (n : ℕ) × IsTrue (keeps_within n t) × IsTrue (has_room tags n)
