use Rattle.std.proofs.Common.{◌≡◌, ◌≤◌, map, drop, []}
use Rattle.guard_json.specs.Members.{Part, both, all_of, shortfall_in, pieces_from}
use Rattle.guard_json.specs.inside.Drafting.{Adds}
use Rattle.guard_json.proofs.Pieces.{part_of}
use Rattle.guard_json.proofs.verdicts.add_pieces.Given as goal

abbrev pub invariant-loop-place : goal.invariant-loop-place
invariant-loop-place l = record {
  within : l.start ≤ l.place;
  part : Part;
  added : Adds l.initial.draft l.draft part;
  rest : both part (all_of (map shortfall_in (pieces_from (part_of l.text l.start l.place) (drop l.place l.text))))
      ≡ all_of (map shortfall_in (pieces_from [] l.text));
}
