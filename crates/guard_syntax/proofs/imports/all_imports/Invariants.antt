use Rattle.guard_syntax.specs.inside.Cursors.{ahead}
use Rattle.guard_syntax.specs.inside.ReadModule.{goes_on_importing, read_import}
use Rattle.guard_syntax.specs.ModuleViews.{import_view}
use Rattle.guard_syntax.proofs.Loops.{EachSoFar}
use Rattle.guard_syntax.proofs.imports.all_imports.Given as goal

abbrev pub invariant-loop : goal.invariant-loop
invariant-loop l = EachSoFar import_view goes_on_importing read_import (ahead l.at) l.all.items l.counter (ahead l.rest)
