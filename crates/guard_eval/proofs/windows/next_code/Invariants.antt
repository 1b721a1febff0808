use Rattle.std.proofs.Common.{◌≡◌, ◌≤◌, true, length, take, chars, IfSome}
use Rattle.std.specs.List.{list_all}
use Rattle.guard_eval.specs.inside.Windows.{is_clear}
use Rattle.guard_eval.proofs.windows.next_code.Given as goal

abbrev pub invariant-loop-character : goal.invariant-loop-character
invariant-loop-character l = (list_all (is_clear l.begin l.next) (take (length l.yielded) (chars l.text)) ≡ true) × IfSome l.next (λ first. l.begin ≤ first)
