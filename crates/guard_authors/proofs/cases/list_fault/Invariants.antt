use Rattle.std.proofs.Common.{◌≡◌, ◌+◌, drop}
use Rattle.toml.specs.View.{items_view}
use Rattle.guard_authors.specs.Cases.{list_fault}
use Rattle.guard_authors.proofs.cases.list_fault.Given as goal

-- the first fault of what is left is the first of all
abbrev pub invariant-loop-place : goal.invariant-loop-place
invariant-loop-place l = list_fault (l.place + 1) (items_view (drop l.place l.items)) ≡ list_fault 1 (items_view l.items)
