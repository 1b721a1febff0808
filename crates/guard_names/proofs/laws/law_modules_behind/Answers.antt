use Rattle.std.proofs.Common.{map}
use Rattle.guard_syntax.specs.ModuleViews.{module_view}
use Rattle.guard_names.proofs.ByNames.Added.{means_as_before}
use Rattle.guard_names.proofs.laws.law_modules_behind.Goals as goal

pub returns : goal.returns
returns c = means_as_before (map module_view c.args.modules.now) (map module_view c.args.more.now) c.requires.first c.requires.whole c.args.home.now c.args.name.now c.requires.home
