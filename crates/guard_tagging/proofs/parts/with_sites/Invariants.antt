use Rattle.std.proofs.Common.{◌≡◌, ◌++◌}
use Rattle.std.specs.Prelude.{replicate}
use Rattle.guard_tagging.proofs.parts.with_sites.Given as goal

abbrev pub invariant-loop-added : goal.invariant-loop-added
invariant-loop-added l = l.sites.items ≡ l.fn.sites.items ++ replicate l.added l.site
