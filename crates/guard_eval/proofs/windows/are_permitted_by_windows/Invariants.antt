use Rattle.std.proofs.Common.{◌≡◌, ◌-◌, true, chars}
use Rattle.std.specs.List.{list_all}
use Rattle.guard_eval.proofs.CodeWindows.{is_done}
use Rattle.guard_eval.proofs.windows.are_permitted_by_windows.Given as goal

-- the ranges have each code below the begin
abbrev pub invariant-loop-first : goal.invariant-loop-first
invariant-loop-first l = list_all (is_done l.ranges l.begin) (chars l.text) ≡ true

abbrev pub decreases-loop-first : goal.decreases-loop-first
decreases-loop-first l = 8589934592 - l.begin
