use Rattle.std.proofs.Common.{Some, List, map, option_map, slice_get, sym, ap, ◌∙◌}
use Rattle.guard_syntax.specs.declared.tree.Module.{Module}
use Rattle.guard_syntax.specs.ModuleViews.{module_view}
use Rattle.guard_names.specs.Meanings.{number_meant_in}
use Rattle.guard_names.specs.NamesView.{modules_of}
use Rattle.guard_names.specs.TableViews.{module_number}
use Rattle.guard_names.proofs.Declared.LookedUp.{read}
use Rattle.guard_names.proofs.Declared.Modules.{meant_at, meant_nowhere}
use Rattle.guard_names.proofs.names.Names.meaning_in.Goals as goal

pub returns : goal.returns
returns c =
    let names = c.args.self.now in
    meant_at names.modules.now c.args.name.now c.in_ok-place.field-0 c.in_ok-number.number.now c.find.result
    (read c.deref.result.now c.in_ok-place.field-0 (Some c.in_ok-number.number) c.in_ok-number.ensures.lookup
    ∙ ap (λ numbers. slice_get numbers c.in_ok-place.field-0) (c.deref.ensures.value ∙ names.numbered))
    (λ home is. c.find.ensures home (is ∙ ap (λ (ms : List Module). module_number (map module_view ms) home) (sym names.looked_up))
    ∙ names.meant home c.args.name.now)
    ∙ ap (λ place. number_meant_in (modules_of names) place c.args.name.now) (sym c.in_ok-place.was)

pub returns-in_err-number : goal.returns-in_err-number
returns-in_err-number c =
    let names = c.args.self.now in
    c.from_residual-in_err-number.ensures
    ∙ meant_nowhere names.modules.now c.args.name.now c.in_ok-place.field-0
    (ap (option_map (λ n. n.now)) (sym c.in_err-number.was)
    ∙ read c.deref.result.now c.in_ok-place.field-0 c.get.result c.get.ensures.lookup
    ∙ ap (λ numbers. slice_get numbers c.in_ok-place.field-0) (c.deref.ensures.value ∙ names.numbered))
    ∙ ap (λ place. number_meant_in (modules_of names) place c.args.name.now) (sym c.in_ok-place.was)
