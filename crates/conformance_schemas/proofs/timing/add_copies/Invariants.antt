use Rattle.std.proofs.Common.{All}
use Rattle.std.specs.Prelude.{IsTrue}
use Rattle.guard_der.specs.Sound.{is_sound}
use Rattle.guard_tables.specs.Tables.{types_view}
use Rattle.conformance_schemas.proofs.timing.add_copies.Given as goal

abbrev pub invariant-loop : goal.invariant-loop
invariant-loop l = All (λ t. IsTrue (is_sound t)) (types_view l.found.items)
