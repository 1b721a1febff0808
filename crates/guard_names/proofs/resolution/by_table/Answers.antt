use Rattle.std.proofs.Common.{map, subst, ap, ◌∙◌, sym}
use Rattle.std.specs.List.{flat_map}
use Rattle.std.proofs.lemmas.Result.{err_from_is_err_and}
use Rattle.guard_model.specs.Answer.{Refuses}
use Rattle.guard_syntax.specs.ModuleViews.{module_view}
use Rattle.guard_names.specs.declared.fault.NameFault.TheVariants.{Undefined}
use Rattle.guard_names.specs.Declarations.{definition_of}
use Rattle.guard_names.specs.Faults.{named, first_found, undefined_in}
use Rattle.guard_names.specs.inside.Reading.{refused_at, used_in_module}
use Rattle.guard_names.specs.TableViews.{origin_in, meaning_in}
use Rattle.guard_names.proofs.Faults.Steps.{same_numbers}
use Rattle.guard_names.proofs.resolution.by_table.Goals as goal

pub returns-in_err-uses-clause-refused : goal.returns-in_err-uses-clause-refused
returns-in_err-uses-clause-refused c =
    let p = err_from_is_err_and c.from_residual-in_err-uses.result c.from_residual-in_err-uses.ensures.1 in
    let t = origin_in c.args.table.now in
    rw (p.1, p.2)
    (subst (λ n. Refuses (named c.in_err-uses.field-0.0) (refused_at Undefined (first_found (undefined_in t n) (map module_view c.args.modules.now))))
    (same_numbers (meaning_in c.in_ok-meanings.meanings) (definition_of t) c.in_ok-meanings.ensures.found) c.in_err-uses.ensures.refused)

pub returns : goal.returns
returns c =
    let t = origin_in c.args.table.now in
    let same = same_numbers (meaning_in c.in_ok-meanings.meanings) (definition_of t) c.in_ok-meanings.ensures.found in
    let ms = map module_view c.args.modules.now in
    record {
      modules = c.in_ok-meanings.ensures.modules;
      meant = c.in_ok-meanings.ensures.found;
      used = c.in_ok-uses.ensures.found ∙ ap (λ n. flat_map (used_in_module n) ms) same;
      refused = ap (λ n. refused_at Undefined (first_found (undefined_in t n) ms)) (sym same) ∙ c.in_ok-uses.ensures.refused;
    }
