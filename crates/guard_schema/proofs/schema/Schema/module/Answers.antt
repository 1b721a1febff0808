use Rattle.std.proofs.Common.{sym, ◌∙◌, arith}
use Rattle.guard_schema.specs.Views.{schema_view}
use Rattle.guard_schema.proofs.ByNames.Answers.{named_before}
use Rattle.guard_schema.proofs.schema.Schema.module.Goals as goal

pub returns : goal.returns
returns c = (rw c.deref.ensures.value at c.name_at.ensures)
    ∙ sym (named_before (schema_view c.args.self.now) c.args.text (omega arith))
