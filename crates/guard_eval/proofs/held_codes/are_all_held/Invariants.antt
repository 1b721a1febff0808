use Rattle.std.proofs.Common.{◌≡◌, length, drop}
use Rattle.std.specs.Str.{chars}
use Rattle.std.specs.List.{list_all}
use Rattle.guard_eval.specs.inside.HeldCodes.{has_code}
use Rattle.guard_eval.proofs.held_codes.are_all_held.Given as goal

abbrev pub invariant-loop-character : goal.invariant-loop-character
invariant-loop-character l = list_all (has_code l.codes) (drop (length l.yielded) (chars l.text)) ≡ list_all (has_code l.codes) (chars l.text)
