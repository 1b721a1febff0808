use Rattle.guard_syntax.specs.inside.Cursors.{ahead}
use Rattle.guard_syntax.specs.inside.ReadTypes.{begins_tag, read_tag}
use Rattle.guard_syntax.specs.TypeViews.{tag_view}
use Rattle.guard_syntax.proofs.Loops.{EachSoFar}
use Rattle.guard_syntax.proofs.tags.tags.Given as goal

abbrev pub invariant-loop : goal.invariant-loop
invariant-loop l = EachSoFar tag_view begins_tag read_tag (ahead l.at) l.all.items l.counter (ahead l.rest)
