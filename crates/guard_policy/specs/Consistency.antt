-- What is asked of the types of a policy's messages and rules: those of each message make a table.
use Rattle.std.specs.Prelude.{◌≡◌, List, ℕ, [], ◌∷◌, All, None, IsTrue, if◌then◌else◌}
use Rattle.std.specs.Str.{bytes_eq}
use Rattle.guard_model.specs.AbstractType.{AbstractType}
use Rattle.guard_der.specs.Sound.{is_sound}
use Rattle.guard_tables.specs.Tables.{first_fault}
use Rattle.guard_policy.specs.Policies.{AbstractMessage, AbstractRule}

-- the types of the rules of this message, whoever sends it to whom, in file order
abbrev pub types_for : List ℕ → List AbstractRule → List AbstractType
types_for name [] = []
types_for name (r ∷ rs) = if bytes_eq r.message name then r.ty ∷ types_for name rs else types_for name rs

-- The message's declared type and the types of its rules make a table: they have the same tags and base, and stay
-- within the limits.
abbrev pub MakesTable : List AbstractRule → AbstractMessage → Type 0
MakesTable rules m = first_fault m.ty (types_for m.name rules) ≡ None

-- Each type is sound, and those of each message and its rules make a table.
pub record IsConsistent (messages : List AbstractMessage) (rules : List AbstractRule) : Type 0 where
  pub messages_sound : All (λ m. IsTrue (is_sound m.ty)) messages
  pub rules_sound : All (λ r. IsTrue (is_sound r.ty)) rules
  pub tables : All (MakesTable rules) messages
