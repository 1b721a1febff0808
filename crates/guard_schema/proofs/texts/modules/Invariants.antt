use Rattle.std.proofs.Common.{◌≡◌, map, length}
use Rattle.std.specs.Prelude.{All, IsUtf8}
use Rattle.guard_syntax.specs.ModuleViews.{module_view}
use Rattle.guard_tagging.specs.Spelled.{IsSpelledModule}
use Rattle.guard_schema.proofs.Modules.Texts.{TextsSoFar}
use Rattle.guard_schema.proofs.texts.modules.Given as goal

abbrev pub invariant-loop-text : goal.invariant-loop-text
invariant-loop-text l = record {
  count : length l.modules.items ≡ l.text-index;
  so_far : TextsSoFar l.texts l.text-index (map module_view l.modules.items);
  named : All (λ m. IsUtf8 m.name) (map module_view l.modules.items);
  spelled : All IsSpelledModule (map module_view l.modules.items);
}
