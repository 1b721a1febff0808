-- A table of which codes some ranges have.
use Rattle.std.specs.Prelude.{◌≡◌, ◌<◌, ℕ, Bool, false, List, length, get_or}
use Rattle.guard_eval.specs.Elements.{is_in_some}

-- at each place of the table, whether the ranges have the code of its number
abbrev pub AreKnown : List (ℕ × ℕ) → List Bool → Type 0
AreKnown ranges known = (code : ℕ) → code < length known → get_or known code false ≡ is_in_some ranges code
