use Rattle.std.proofs.Common.{◌≡◌, List, None, map, sym, ap, ◌∙◌}
use Rattle.guard_syntax.specs.declared.tree.Module.{Module}
use Rattle.guard_syntax.specs.ModuleViews.{module_view}
use Rattle.guard_names.specs.Meanings.{number_meant, number_meant_in}
use Rattle.guard_names.specs.NamesView.{modules_of}
use Rattle.guard_names.specs.TableViews.{module_number}
use Rattle.guard_names.proofs.Declared.Keys.{nothing_there}
use Rattle.guard_names.proofs.Declared.Modules.{meant_there}
use Rattle.guard_names.proofs.names.Names.module_named.Goals as goal

pub returns-clause-meant : goal.returns-clause-meant
returns-clause-meant c = λ inner.
    let names = c.args.self.now in
    let nowhere : None ≡ module_number (modules_of names) c.args.name.now → number_meant (modules_of names) c.args.name.now inner ≡ None =
    λ none. sym (names.meant c.args.name.now inner)
    ∙ nothing_there (map module_view names.meanings.modules.now) c.args.name.now inner names.meanings.numbers.entries
    (none ∙ ap (λ (ms : List Module). module_number (map module_view ms) c.args.name.now) (sym names.looked_up)) in
    ap (λ place. number_meant_in (modules_of names) place inner) c.number_of.ensures
    ∙ meant_there (modules_of names) c.args.name.now inner nowhere
