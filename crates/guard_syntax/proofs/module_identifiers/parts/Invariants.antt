use Rattle.guard_syntax.specs.inside.Cursors.{ahead}
use Rattle.guard_syntax.specs.inside.ReadValues.{does_not_close}
use Rattle.guard_syntax.specs.inside.ReadModule.{read_identifier_part}
use Rattle.guard_syntax.specs.ModuleViews.{identifier_part_view}
use Rattle.guard_syntax.proofs.Loops.{EachSoFar}
use Rattle.guard_syntax.proofs.module_identifiers.parts.Given as goal

abbrev pub invariant-loop : goal.invariant-loop
invariant-loop l = EachSoFar identifier_part_view does_not_close read_identifier_part (ahead l.at) l.all.items l.counter (ahead l.rest)
