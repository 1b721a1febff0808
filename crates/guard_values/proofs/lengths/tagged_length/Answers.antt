use Rattle.std.proofs.Common.{sym, ap, ◌∙◌}
use Rattle.guard_der.specs.Encoding.{length_in}
use Rattle.guard_der.proofs.Functions.Lengths.{none_in}
use Rattle.guard_values.proofs.lengths.tagged_length.Goals as goal

pub returns-in_err-contents : goal.returns-in_err-contents
returns-in_err-contents c = λ _.
    c.from_residual.ensures ∙ sym (ap (length_in c.args.tags.now) c.in_err-contents.was ∙ none_in c.args.tags.now)
