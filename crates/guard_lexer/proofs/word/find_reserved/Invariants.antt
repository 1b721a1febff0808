use Rattle.std.proofs.Common.{◌≡◌, drop}
use Rattle.std.specs.Prelude.{bytes_eq}
use Rattle.guard_lexer.specs.inside.Reading.{value_at}
use Rattle.guard_lexer.proofs.word.find_reserved.Given as goal

abbrev pub invariant-loop-spelling : goal.invariant-loop-spelling
invariant-loop-spelling l =
    value_at (λ spelling. bytes_eq l.word spelling.now) (drop l.spelling-index l.table)
    ≡ value_at (λ spelling. bytes_eq l.word spelling.now) l.table
