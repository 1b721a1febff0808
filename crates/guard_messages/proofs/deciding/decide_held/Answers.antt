use Rattle.std.proofs.Common.{map, string_bytes}
use Rattle.guard_syntax.specs.ModuleViews.{module_view}
use Rattle.guard_files.specs.Reading.{loaded_view}
use Rattle.guard_files.proofs.ExplainedFaults.{silent}
use Rattle.guard_files.proofs.LoadedTexts.{said_policy}
use Rattle.guard_messages.proofs.deciding.decide_held.Goals as goal

pub returns-in-Ok-clause-decided : goal.returns-in-Ok-clause-decided
returns-in-Ok-clause-decided g c =
    let l = c.in_ok-loaded.loaded in
    let e = c.in_ok-loaded.ensures in
    let modules = map (λ text. text.items) l.texts.now.modules.items in (
      l.texts.now.policy.items,
      map string_bytes l.texts.now.files.items,
      modules,
      (loaded_view l).policy,
      map module_view l.trees.now,
      e.listed,
      said_policy modules l.texts.now.policy.items (loaded_view l) e.said,
      e.trees,
      c.in-Ok.ensures,
    )

pub returns-clause-none : goal.returns-clause-none
returns-clause-none g c =
    silent (g.F.Files.told c.args.files.now) _ (string_bytes c.plain.result.note) _ c.plain.result.fault c.plain.ensures.fault c.plain.ensures.silent
