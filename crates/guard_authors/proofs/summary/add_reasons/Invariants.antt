use Rattle.std.proofs.Common.{◌≡◌, ◌++◌, drop, map}
use Rattle.guard_authors.specs.Summary.{lines_of, reason_line}
use Rattle.guard_authors.specs.inside.Counting.{count_at}
use Rattle.guard_authors.proofs.summary.add_reasons.Given as goal

abbrev pub invariant-loop-place : goal.invariant-loop-place
invariant-loop-place l =
    l.text.items ++ lines_of reason_line (count_at l.counts) l.place (map (λ reason. reason.now) (drop l.place l.reasons))
    ≡ l.initial.text.items ++ lines_of reason_line (count_at l.counts) 0 (map (λ reason. reason.now) l.reasons)
