-- Contents octets of a character string that are lawful and pass a test.
use Rattle.std.specs.Prelude.{◌≡◌, ℕ, List, true, Some}
use Rattle.guard_model.specs.AbstractValue as value
use Rattle.guard_model.specs.declared.ty.CharKind.{CharKind}
use Rattle.guard_der.specs.Simple.{characters_of, is_text}
use Rattle.guard_tables.specs.Marking.{facts, test_passes}
use Rattle.guard_tables.specs.Plan.{AbstractTest}

pub record PassesAtOnce (test : AbstractTest) (kind : CharKind) (os : List ℕ) : Type 0 where
  pub lawful : is_text kind os ≡ true
  pub passes : test_passes test (facts (value.characters (characters_of kind os)) (Some os)) ≡ true
