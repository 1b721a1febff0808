use Rattle.std.proofs.Common.{map, ap, ◌∙◌}
use Rattle.std.proofs.lemmas.Result.{err_from_is_err_and}
use Rattle.guard_syntax.specs.ModuleViews.{module_view}
use Rattle.guard_names.proofs.Faults.Refusals.{few_enough, refuses_first, accepts_none}
use Rattle.guard_names.proofs.resolution.resolve.Goals as goal

pub returns-in_err-meanings-clause-refused : goal.returns-in_err-meanings-clause-refused
returns-in_err-meanings-clause-refused c =
    let p = err_from_is_err_and c.from_residual.result c.from_residual.ensures.1 in
    rw (p.1, p.2)
    (refuses_first (map module_view c.args.modules.now) (few_enough module_view c.args.modules.now c.if-modules-gt-MOST_MODULES.false) c.in_err-meanings.field-0.0 c.in_err-meanings.ensures.refused)

pub by_uses-requires : goal.by_uses-requires
by_uses-requires c = record {
  modules = c.in_ok-meanings.ensures.modules;
  named = accepts_none (map module_view c.args.modules.now) (few_enough module_view c.args.modules.now c.if-modules-gt-MOST_MODULES.false) c.in_ok-meanings.ensures.refused;
  meant = c.in_ok-meanings.ensures.meant;
  used = ap (map (λ v. v.items)) c.deref.ensures.value ∙ c.in_ok-meanings.ensures.used;
}

pub returns : goal.returns
returns c = record { faultless = c.by_uses.ensures.faultless; modules = c.by_uses.ensures.modules; refused = c.by_uses.ensures.refused }
