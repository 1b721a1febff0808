use Rattle.std.proofs.Common.{◌≡◌, map, take, string_bytes}
use Rattle.guard_policy.specs.inside.Answers.{texts_view}
use Rattle.guard_policy.proofs.files.copy_of_texts.Given as goal

abbrev pub invariant-loop-text : goal.invariant-loop-text
invariant-loop-text l = map string_bytes l.copy.items ≡ texts_view (take l.text-index l.texts)
