-- Types by their names, and the modules that they stand in.
use Rattle.std.specs.Prelude.{ℕ, zero, suc, slice_get, List, Option, None}
use Rattle.guard_model.specs.AbstractType.{AbstractType}

-- What modules define: the names of the modules in the order of their texts, and the type of a name in the module of a
-- name, where there is one.
pub record AbstractTypes : Type 0 where
  pub modules : List (List ℕ)
  pub types : List ℕ → List ℕ → Option AbstractType

-- the name of the module at this place of the list of texts, from 1
abbrev pub module_at : List (List ℕ) → ℕ → Option (List ℕ)
module_at modules zero = None
module_at modules (suc text) = slice_get modules text
