use Rattle.std.proofs.Common.{map, option_map, ap, sym, ◌∙◌}
use Rattle.guard_syntax.specs.ModuleViews.{module_view}
use Rattle.guard_names.specs.Declarations.{exported_number}
use Rattle.guard_names.specs.inside.DeclarationViews.{origin_view}
use Rattle.guard_names.proofs.Declared.Keys.{nothing_there}
use Rattle.guard_names.proofs.table.Table.exported.Goals as goal

pub returns-in_err-number : goal.returns-in_err-number
returns-in_err-number c = λ home is.
    c.from_residual.ensures
    ∙ sym (ap (λ o. exported_number (option_map origin_view o))
    (nothing_there (map module_view c.args.self.now.modules.now) home c.args.name.now c.args.self.now.origins.entries (sym c.in_err-number.was ∙ is)))
