use Rattle.guard_model.proofs.Components.{in_view}
use Rattle.guard_tagcheck.specs.inside.Noting.{noted}
use Rattle.guard_tagcheck.proofs.NotedPairs.{Kept, LeastSoFar}
use Rattle.guard_tagcheck.proofs.noting.least_pair.Given as goal

abbrev pub invariant-loop-index : goal.invariant-loop-index
invariant-loop-index l = record {
  kept : Kept l.in_sequence (in_view l.comps) l.index (noted l.notes.entries);
  least : LeastSoFar l.in_sequence (in_view l.comps) l.index l.least;
}
