-- What reads of files in memory find.
use Rattle.std.specs.Prelude.{ℕ, zero, suc, List, [], ◌∷◌, bytes_eq, Option, Some, None, Vec, if◌then◌else◌}
use Rattle.conformance_programs.specs.declared.memory.Placed.{Placed}

-- the first text at the path
abbrev pub text_at : List Placed → List ℕ → Option (List ℕ)
text_at [] path = None
text_at (first ∷ others) path = if bytes_eq first.path.now path then Some first.text.now else text_at others path

-- what the read of this number finds, where each has its own texts
abbrev pub found : {Z : Type 0} → List (Vec Placed Z) → ℕ → List ℕ → Option (List ℕ)
found [] n path = None
found (now ∷ later) zero path = text_at now.items path
found (now ∷ later) (suc n) path = found later n path
