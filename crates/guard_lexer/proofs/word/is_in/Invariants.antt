use Rattle.std.proofs.Common.{◌≡◌, drop}
use Rattle.std.specs.Prelude.{bytes_eq}
use Rattle.std.specs.List.{list_any}
use Rattle.guard_lexer.proofs.word.is_in.Given as goal

abbrev pub invariant-loop-unsupported : goal.invariant-loop-unsupported
invariant-loop-unsupported l =
    list_any (λ unsupported. bytes_eq l.word unsupported.now) (drop l.unsupported-index l.table)
    ≡ list_any (λ unsupported. bytes_eq l.word unsupported.now) l.table
