use Rattle.std.proofs.Common.{◌≡◌, ℕ, List, map, ap, ◌∙◌, subst}
use Rattle.std.specs.Prelude.{IfOk}
use Rattle.std.specs.List.{flat_map}
use Rattle.guard_model.specs.Answer.{Gives}
use Rattle.guard_syntax.specs.ModuleViews.{module_view}
use Rattle.guard_names.specs.inside.DeclarationViews.{declaration_view}
use Rattle.guard_names.specs.Faults.{named}
use Rattle.guard_names.specs.inside.Reading.{nothing, used_in_module, listed_uses}
use Rattle.guard_names.specs.TableViews.{origin_in, meaning_in}
use Rattle.guard_names.proofs.Faults.Steps.{numbers_are, last_step}
use Rattle.guard_names.proofs.resolution.meanings_and_uses.Goals as goal

pub returns : goal.returns
returns c =
    let ms = map module_view c.args.modules.now in
    let ds = map declaration_view c.deref.result.now in
    let are = ap (map declaration_view) c.deref.ensures.value ∙ c.in_ok-declared.ensures.found in
    let t = origin_in c.in_ok-table.table in
    let same = numbers_are ms ds are t c.in_ok-table.ensures.found in
    record {
      modules = c.by_table.ensures.modules;
      meant = subst (λ n. IfOk c.by_table.result (λ p. (home name : List ℕ) → meaning_in p.0 home name ≡ n home name)) same c.by_table.ensures.meant;
      used = subst (λ n. IfOk c.by_table.result (λ p. listed_uses p.1 ≡ flat_map (used_in_module n) ms)) same c.by_table.ensures.used;
      refused = subst (Gives nothing named c.by_table.result) (last_step ms ds are t c.in_ok-table.ensures.found c.in_ok-table.ensures.refused c.in_ok-check_imports.ensures) c.by_table.ensures.refused;
    }
