use Rattle.std.proofs.Common.{◌≡◌, length, drop, chars}
use Rattle.std.specs.List.{list_all}
use Rattle.guard_eval.specs.inside.Windows.{is_kept}
use Rattle.guard_eval.proofs.windows.are_kept.Given as goal

abbrev pub invariant-loop-character : goal.invariant-loop-character
invariant-loop-character l = list_all (is_kept l.known l.first) (drop (length l.yielded) (chars l.text)) ≡ list_all (is_kept l.known l.first) (chars l.text)
