use Rattle.std.proofs.Common.{All}
use Rattle.guard_syntax.specs.ModuleViews.{module_view}
use Rattle.guard_tagging.specs.Spelled.{IsSpelledModule}
use Rattle.conformance_texts.proofs.texts.modules.Given as goal

abbrev pub invariant-loop-text : goal.invariant-loop-text
invariant-loop-text l = All (λ m. IsSpelledModule (module_view m)) l.modules.items
