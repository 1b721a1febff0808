use Rattle.std.proofs.Common.{◌≡◌, ◌++◌, length, drop, flat_map}
use Rattle.std.specs.Str.{chars}
use Rattle.guard_messages.specs.ValueJson.{in_ascii}
use Rattle.guard_messages.proofs.value_json.in_ascii.Given as goal

abbrev pub invariant-loop-character : goal.invariant-loop-character
invariant-loop-character l =
    l.out.items ++ flat_map in_ascii (drop (length l.yielded) (chars l.text)) ≡ flat_map in_ascii (chars l.text)
