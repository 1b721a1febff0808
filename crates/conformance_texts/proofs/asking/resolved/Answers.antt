use Rattle.std.proofs.Common.{All, sym, subst}
use Rattle.std.proofs.lemmas.List.Elements.{All-map}
use Rattle.guard_syntax.specs.ModuleViews.{module_view}
use Rattle.guard_tagging.specs.Spelled.{IsSpelledModule}
use Rattle.conformance_texts.proofs.asking.resolved.Goals as goal

pub answer_on-requires : goal.answer_on-requires
answer_on-requires g c = subst (All IsSpelledModule) (sym c.in-Ok.ensures.modules) (All-map IsSpelledModule module_view c.args.modules.now c.requires)
