use Rattle.std.proofs.Common.{map, sym, ◌∙◌}
use Rattle.guard_syntax.specs.ModuleViews.{module_view}
use Rattle.guard_names.proofs.Declared.Keys.{nothing_there}
use Rattle.guard_names.proofs.meanings.Meanings.find.Goals as goal

pub returns-in_err-number : goal.returns-in_err-number
returns-in_err-number c = λ home is.
    c.from_residual.ensures
    ∙ sym (nothing_there (map module_view c.args.self.now.modules.now) home c.args.name.now c.args.self.now.numbers.entries (sym c.in_err-number.was ∙ is))
