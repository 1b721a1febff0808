-- Names with their numbers: named numbers of an INTEGER (X.680 19), items of an ENUMERATED (20), and named bits of a BIT
-- STRING (22). What is found in such a list by a name or by a number.
use Rattle.std.specs.Prelude.{ℕ, ℤ, Bool, false, ◌||◌, List, [], ◌∷◌, Option, Some, None, if◌then◌else◌, bytes_eq, string_bytes}
use Rattle.std.specs.Ordering.{int_eq}
use Rattle.guard_model.specs.AbstractType.{NamedNumber}
use Rattle.guard_model.specs.declared.ty.Named.{Named}

abbrev pub named_view : Named → NamedNumber
named_view n = record { name = string_bytes n.name; number = n.number }

-- the number with this name
abbrev pub number_named : List ℕ → List NamedNumber → Option ℤ
number_named name [] = None
number_named name (n ∷ ns) = if bytes_eq name n.name then Some n.number else number_named name ns

abbrev pub is_item : ℤ → List NamedNumber → Bool
is_item z [] = false
is_item z (n ∷ ns) = int_eq z n.number || is_item z ns
