use Rattle.std.proofs.Common.{map, subst}
use Rattle.guard_model.specs.Answer.{Gives}
use Rattle.guard_syntax.specs.ModuleViews.{module_view}
use Rattle.guard_names.specs.inside.DeclarationViews.{declaration_view}
use Rattle.guard_names.specs.Faults.{named}
use Rattle.guard_names.specs.inside.Reading.{nothing}
use Rattle.guard_names.specs.TableViews.{origin_in}
use Rattle.guard_names.proofs.Faults.Steps.{last_import_step}
use Rattle.guard_names.proofs.checks.check_imports.Goals as goal

pub returns : goal.returns
returns c =
    subst (Gives nothing named c.check_exported.result)
    (last_import_step (map module_view c.args.modules.now) (map declaration_view c.args.declarations.now) (origin_in c.args.table.now) c.requires.origins c.requires.declared
    c.in_ok-check_modules.ensures c.in_ok-check_assigned.ensures)
    c.check_exported.ensures
