use Rattle.std.proofs.Common.{◌≡◌, map, take, string_bytes}
use Rattle.guard_policy.proofs.types.module_names.Given as goal

abbrev pub invariant-loop-place : goal.invariant-loop-place
invariant-loop-place g l = map string_bytes l.names.items ≡ take l.place (g.S.Types.types l.schema).modules
