use Rattle.std.proofs.Common.{◌≡◌, map}
use Rattle.guard_names.specs.declared.recursion.Mark.TheVariants.{New}
use Rattle.guard_names.specs.inside.SearchViews.{IsSearch, KeepsMet, mark_of, steps_left}
use Rattle.guard_names.proofs.recursion.Search.visit.Given as goal

abbrev pub invariant-loop : goal.invariant-loop
invariant-loop l = record {
  search : IsSearch (map (λ v. v.items) l.uses) l.self;
  met : ¬ (mark_of l.self l.number ≡ New);
  kept : KeepsMet l.fn.self l.self;
}

abbrev pub decreases-loop : goal.decreases-loop
decreases-loop l = steps_left (map (λ v. v.items) l.uses) l.self
