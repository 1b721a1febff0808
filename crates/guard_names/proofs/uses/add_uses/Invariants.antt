use Rattle.std.proofs.Common.{◌≡◌, ◌++◌, map, drop}
use Rattle.guard_syntax.specs.ModuleViews.{assignment_view}
use Rattle.guard_names.specs.Faults.{first_found, undefined_mention_in}
use Rattle.guard_names.specs.inside.Reading.{used_in, listed_uses}
use Rattle.guard_names.specs.TableViews.{meaning_in}
use Rattle.guard_names.proofs.uses.add_uses.Given as goal

abbrev pub invariant-loop-assignment : goal.invariant-loop-assignment
invariant-loop-assignment l = record {
  found :
      listed_uses l.into ++ map (used_in (meaning_in l.within.meanings.now) l.within.home.now) (map assignment_view (drop l.assignment-index l.tree.assignments.items))
      ≡ listed_uses l.fn.into ++ map (used_in (meaning_in l.within.meanings.now) l.within.home.now) (map assignment_view l.tree.assignments.items);
  rest :
      first_found (undefined_mention_in (meaning_in l.within.meanings.now) l.within.home.now) (map assignment_view (drop l.assignment-index l.tree.assignments.items))
      ≡ first_found (undefined_mention_in (meaning_in l.within.meanings.now) l.within.home.now) (map assignment_view l.tree.assignments.items);
}
