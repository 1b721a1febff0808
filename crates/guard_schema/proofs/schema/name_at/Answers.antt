use Rattle.std.proofs.Common.{Some, ap, ◌∙◌}
use Rattle.std.specs.Prelude.{string_bytes}
use Rattle.guard_schema.proofs.ByNames.Answers.{name_there, name_nowhere}
use Rattle.guard_schema.proofs.schema.name_at.Goals as goal

pub returns-in-Some : goal.returns-in-Some
returns-in-Some c = ap Some c.as_str.ensures.value
    ∙ name_there string_bytes c.get.result c.args.names.now c.args.place c.get.ensures.lookup.3 c.in-Some.name
    c.in-Some.is

pub returns-in-None : goal.returns-in-None
returns-in-None c = name_nowhere string_bytes c.get.result c.args.names.now c.args.place c.get.ensures.lookup.3
    c.in-None.is
