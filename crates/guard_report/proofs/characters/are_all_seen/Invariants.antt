use Rattle.std.proofs.Common.{◌≡◌, length, drop, not}
use Rattle.std.specs.Str.{chars}
use Rattle.std.specs.List.{list_all}
use Rattle.guard_report.specs.CharacterStrings.{is_hidden}
use Rattle.guard_report.proofs.characters.are_all_seen.Given as goal

abbrev pub invariant-loop-character : goal.invariant-loop-character
invariant-loop-character l =
    list_all (λ code. not (is_hidden code)) (drop (length l.yielded) (chars l.string)) ≡ list_all (λ code. not (is_hidden code)) (chars l.string)
