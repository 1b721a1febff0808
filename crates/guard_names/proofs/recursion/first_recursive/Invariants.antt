use Rattle.std.proofs.Common.{◌≡◌, ℕ, ◌<◌, [], map}
use Rattle.guard_names.specs.declared.recursion.Mark.TheVariants.{New}
use Rattle.guard_names.specs.inside.SearchViews.{IsSearch, mark_of}
use Rattle.guard_names.proofs.recursion.first_recursive.Given as goal

abbrev pub invariant-loop-number : goal.invariant-loop-number
invariant-loop-number l = record {
  search : IsSearch (map (λ v. v.items) l.uses) l.search;
  idle : l.search.path.items ≡ [];
  met : (k : ℕ) → k < l.number → ¬ (mark_of l.search k ≡ New);
}
