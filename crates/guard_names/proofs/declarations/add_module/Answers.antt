use Rattle.std.proofs.Common.{List, map, sym, subst}
use Rattle.std.specs.Prelude.{All}
use Rattle.std.proofs.lemmas.List.Elements.{All-push}
use Rattle.guard_syntax.specs.ModuleViews.{module_view}
use Rattle.guard_names.specs.declared.declarations.Declaration.{Declaration}
use Rattle.guard_names.specs.inside.Numbered.{IsNumbered}
use Rattle.guard_names.proofs.Declared.Modules.{on_ok}
use Rattle.guard_names.proofs.declarations.add_module.Goals as goal

pub returns-clause-numbered : goal.returns-clause-numbered
returns-clause-numbered c =
    let ms = map module_view c.args.modules.now in
    let home = c.home_among-home.ensures.number in
    on_ok c.add_assigned.result
    (λ more all. more ms home (c.in_ok-add_imports.ensures.numbered home
    (subst (λ (xs : List Declaration). All (IsNumbered ms) xs) (sym c.in_ok-push.ensures.items) (All-push (IsNumbered ms) c.args.into.now.items _ all (tt, tt)))))
    c.add_assigned.ensures.numbered
