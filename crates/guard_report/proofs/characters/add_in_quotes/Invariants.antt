use Rattle.std.proofs.Common.{◌≡◌, ◌++◌, length, drop, flat_map}
use Rattle.std.specs.Str.{chars}
use Rattle.guard_report.specs.CharacterStrings.{as_quoted}
use Rattle.guard_report.proofs.characters.add_in_quotes.Given as goal

abbrev pub invariant-loop-character : goal.invariant-loop-character
invariant-loop-character l =
    l.text.items ++ flat_map as_quoted (drop (length l.yielded) (chars l.string)) ≡ l.initial.text.items ++ flat_map as_quoted (chars l.string)
