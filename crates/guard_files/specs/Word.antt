-- The first word of a text.
use Rattle.std.specs.Prelude.{ℕ, nat_eq, List, [], ◌∷◌, if◌then◌else◌}

-- the octets before the first space, 32
abbrev pub first_word : List ℕ → List ℕ
first_word [] = []
first_word (o ∷ text) = if nat_eq o 32 then [] else o ∷ first_word text
