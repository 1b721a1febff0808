-- A list of names as octets and numbers, so that two lists are compared octet by octet and number by number.
use Rattle.std.specs.Prelude.{ℕ, ℤ, List, [], ◌∷◌, ◌++◌}
use Rattle.guard_model.specs.AbstractType.{NamedNumber}

-- each octet of the name behind a 1, and 0 at its end
abbrev pub spelled_name : List ℕ → List ℕ
spelled_name [] = 0 ∷ []
spelled_name (octet ∷ octets) = 1 ∷ octet ∷ spelled_name octets

abbrev pub spelled : List NamedNumber → List ℕ
spelled [] = []
spelled (n ∷ ns) = spelled_name n.name ++ spelled ns

abbrev pub numbers_of : List NamedNumber → List ℤ
numbers_of [] = []
numbers_of (n ∷ ns) = n.number ∷ numbers_of ns
