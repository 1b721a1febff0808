use Rattle.std.proofs.Common.{◌≡◌, ◌<◌}
use Rattle.std.specs.Prelude.{IsTrue}
use Rattle.guard_model.specs.Limits.{deepest_nesting}
use Rattle.guard_tagcheck.specs.Limits.{components_keep_limits, deepest}
use Rattle.guard_tagcheck.specs.Search.{clash_inside}
use Rattle.guard_model.proofs.Components.{left}
use Rattle.guard_tagcheck.proofs.find.+finding.Given as goal

abbrev pub invariant-clash_inside-loop-index : goal.invariant-clash_inside-loop-index
invariant-clash_inside-loop-index l = record {
  so_far : clash_inside l.index (left l.comps l.index) ≡ clash_inside 0 (left l.comps 0);
  limits : IsTrue (components_keep_limits (left l.comps l.index));
  depth : deepest (left l.comps l.index) < deepest_nesting;
}
