use Rattle.std.proofs.Common.{ap, ◌∙◌}
use Rattle.std.specs.Prelude.{Some}
use Rattle.std.specs.List.{list_all}
use Rattle.guard_json.specs.inside.Drafting.{is_fine}
use Rattle.guard_json.proofs.draft.Draft.new.Goals as goal

pub returns-clause-empty : goal.returns-clause-empty
returns-clause-empty c = ap Some c.new-2.ensures.tokens

pub returns-clause-before : goal.returns-clause-before
returns-clause-before c = c.new-2.ensures.before ∙ c.new.ensures.items

pub returns-clause-fine : goal.returns-clause-fine
returns-clause-fine c = ap (list_all is_fine) c.new-2.ensures.tokens
