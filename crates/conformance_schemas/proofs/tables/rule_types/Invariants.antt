use Rattle.std.proofs.Common.{All}
use Rattle.std.specs.Prelude.{IsTrue}
use Rattle.guard_der.specs.Sound.{is_sound}
use Rattle.guard_tables.specs.Tables.{types_view}
use Rattle.conformance_schemas.proofs.tables.rule_types.Given as goal

abbrev pub invariant-loop-place : goal.invariant-loop-place
invariant-loop-place l = All (λ t. IsTrue (is_sound t)) (types_view l.rules.items)
