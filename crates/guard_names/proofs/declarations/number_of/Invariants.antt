use Rattle.std.proofs.Common.{◌≡◌, ℕ, ◌<◌, false, get_or}
use Rattle.std.specs.Prelude.{bytes_eq}
use Rattle.guard_syntax.specs.declared.tree.Module.{Module}
use Rattle.guard_names.proofs.declarations.number_of.Given as goal

abbrev pub invariant-loop-number : goal.invariant-loop-number
invariant-loop-number l = (k : ℕ) (d : Module) → k < l.number → bytes_eq l.name (get_or l.modules k d).name.now ≡ false
