use Rattle.std.proofs.Common.{map, sym, ◌∙◌}
use Rattle.guard_model.proofs.Results.{same_Ok}
use Rattle.guard_values.proofs.Denoted.DenotedIsRead.{says_read}
use Rattle.guard_schema.proofs.OneAnswer.Steps.{OneValue}
use Rattle.guard_schema.proofs.OneAnswer.Schemas.{texts_known}
use Rattle.guard_schema.proofs.laws.law_one_known.Goals as goal

one_value : OneValue
one_value names t tree v w h k = same_Ok v w (sym (says_read names.values tree t v h.0)
    ∙ says_read names.values tree t w k.0)

pub returns : goal.returns
returns c = texts_known one_value c.law_one_constraint.ensures c.law_one_fault.ensures (map (λ t. t.now) c.args.texts.now)
