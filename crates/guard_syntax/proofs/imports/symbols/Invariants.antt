use Rattle.guard_syntax.specs.inside.Cursors.{ahead}
use Rattle.guard_syntax.specs.inside.ReadModule.{read_symbol}
use Rattle.guard_syntax.specs.ModuleViews.{symbol_view}
use Rattle.guard_syntax.proofs.Loops.{PartedSoFar}
use Rattle.guard_syntax.proofs.imports.symbols.Given as goal

abbrev pub invariant-loop : goal.invariant-loop
invariant-loop l = PartedSoFar symbol_view read_symbol (ahead l.at) l.all.items l.counter (ahead l.rest)
