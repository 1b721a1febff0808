use Rattle.std.proofs.Common.{◌++◌, map, refl, ap}
use Rattle.std.specs.List.{flat_map}
use Rattle.std.proofs.lemmas.Result.{err_from_is_err_and}
use Rattle.guard_syntax.specs.ModuleViews.{module_view}
use Rattle.guard_names.specs.declared.fault.NameFault.TheVariants as fault
use Rattle.guard_names.specs.Faults.{named, undefined_in}
use Rattle.guard_names.specs.inside.Reading.{refused_at, used_in_module}
use Rattle.guard_names.specs.TableViews.{origin_in, meaning_in}
use Rattle.guard_names.proofs.Faults.FirstFaults.{refused_so, accepted_so, found_here, passes_here, none_found}
use Rattle.guard_names.proofs.Mentioned.Gathering.{one_more, all_gathered}
use Rattle.guard_names.proofs.uses.uses.Goals as goal

pub returns-in_err-check_exports-clause-refused : goal.returns-in_err-check_exports-clause-refused
returns-in_err-check_exports-clause-refused c =
    let p = err_from_is_err_and c.from_residual.result c.from_residual.ensures.1 in
    rw (p.1, p.2)
    (refused_so (λ s. fault.Undefined s) (named c.in_err-check_exports.field-0.0) _ _ c.in_err-check_exports.ensures
    (λ s h. found_here (undefined_in (origin_in c.args.table.now) (meaning_in c.args.meanings.now)) module_view c.args.modules.now c.loop-module.module-index c.module-item.result
    c.loop-module-test.true c.module-item.is _ c.loop-module.invariant.rest s (rw (← c.listed_exports.ensures, h) refl)))

pub returns-in_err-add_uses-clause-refused : goal.returns-in_err-add_uses-clause-refused
returns-in_err-add_uses-clause-refused c =
    let p = err_from_is_err_and c.from_residual-in_err-add_uses.result c.from_residual-in_err-add_uses.ensures.1 in
    rw (p.1, p.2)
    (refused_so (λ s. fault.Undefined s) (named c.in_err-add_uses.field-0.0) _ _ c.in_err-add_uses.ensures.refused
    (λ s h. found_here (undefined_in (origin_in c.args.table.now) (meaning_in c.args.meanings.now)) module_view c.args.modules.now c.loop-module.module-index c.module-item.result
    c.loop-module-test.true c.module-item.is _ c.loop-module.invariant.rest s (rw (← c.listed_exports.ensures, accepted_so (λ s. fault.Undefined s) _ c.in_ok-check_exports.ensures, h) refl)))

pub loop-module-init : goal.loop-module-init
loop-module-init c = record {
  found = ap (λ xs. map (λ v. v.items) xs ++ flat_map (used_in_module (meaning_in c.args.meanings.now)) (map module_view c.args.modules.now)) c.new-all.ensures.items;
  rest = refl;
}

pub loop-module-preserved : goal.loop-module-preserved
loop-module-preserved c = record {
  found = one_more (λ xs. flat_map (used_in_module (meaning_in c.args.meanings.now)) (map module_view xs)) c.args.modules.now c.loop-module.module-index _ c.module-item.result _ _ _
      c.loop-module-test.true c.module-item.is c.in_ok-add_uses.ensures.found c.loop-module.invariant.found refl;
  rest = passes_here (undefined_in (origin_in c.args.table.now) (meaning_in c.args.meanings.now)) module_view c.args.modules.now c.loop-module.module-index c.module-item.result
      c.loop-module-test.true c.module-item.is _ c.loop-module.invariant.rest
      (rw (← c.listed_exports.ensures, accepted_so (λ s. fault.Undefined s) _ c.in_ok-check_exports.ensures) (accepted_so (λ s. fault.Undefined s) _ c.in_ok-add_uses.ensures.refused));
}

pub returns : goal.returns
returns c = record {
  found = all_gathered (λ xs. flat_map (used_in_module (meaning_in c.args.meanings.now)) (map module_view xs)) c.args.modules.now c.loop-module.module-index _ _ c.loop-module-test.false refl c.loop-module.invariant.found;
  refused = ap (refused_at (λ s. fault.Undefined s))
      (none_found (undefined_in (origin_in c.args.table.now) (meaning_in c.args.meanings.now)) module_view c.args.modules.now c.loop-module.module-index _ c.loop-module-test.false c.loop-module.invariant.rest);
}
