use Rattle.std.proofs.Common.{◌≡◌, drop}
use Rattle.toml.specs.View.{table_view}
use Rattle.guard_policy.specs.PolicyFaults.{first_missing}
use Rattle.guard_policy.proofs.document.check_texts.Given as goal

-- the first of what is left is the first of all
abbrev pub invariant-loop-key : goal.invariant-loop-key
invariant-loop-key l = first_missing (drop l.key-index l.keys) (table_view l.table) ≡ first_missing l.keys (table_view l.table)
