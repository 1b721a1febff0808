use Rattle.std.proofs.Common.{◌≡◌, length, drop}
use Rattle.std.specs.Str.{chars}
use Rattle.guard_model.specs.Alphabets.{all_characters}
use Rattle.guard_model.proofs.alphabet.are_characters.Given as goal

abbrev pub invariant-loop-character : goal.invariant-loop-character
invariant-loop-character l = all_characters l.kind (drop (length l.yielded) (chars l.text)) ≡ all_characters l.kind (chars l.text)
