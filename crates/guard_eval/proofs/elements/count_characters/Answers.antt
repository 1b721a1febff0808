use Rattle.std.proofs.Common.{ap, ◌∙◌}
use Rattle.std.specs.List.{count_by}
use Rattle.guard_eval.specs.inside.Characters.{begins_one}
use Rattle.guard_eval.proofs.Characters.{beginnings}
use Rattle.guard_eval.proofs.elements.count_characters.Goals as goal

pub returns : goal.returns
returns c = c.count_beginnings.ensures ∙ ap (count_by begins_one) c.as_bytes.ensures.value ∙ beginnings c.args.text.now c.utf8.text
