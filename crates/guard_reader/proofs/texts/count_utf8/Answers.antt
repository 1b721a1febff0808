use Rattle.std.proofs.Common.{◌∙◌}
use Rattle.guard_reader.proofs.Firsts.{firsts_of_text}
use Rattle.guard_reader.proofs.texts.count_utf8.Goals as goal

pub returns : goal.returns
returns c = c.count_firsts.ensures ∙ firsts_of_text c.args.inside.now c.requires
