use Rattle.std.proofs.Common.{map}
use Rattle.guard_syntax.specs.ModuleViews.{module_view}
use Rattle.guard_names.proofs.Declared.Meaning.{number_is_meant}
use Rattle.guard_names.proofs.laws.law_number_meant.Goals as goal

pub returns : goal.returns
returns c = number_is_meant (map module_view c.args.modules.now) c.requires
