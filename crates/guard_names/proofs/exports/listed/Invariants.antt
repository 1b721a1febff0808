use Rattle.std.proofs.Common.{◌≡◌, ℕ, List, map, take}
use Rattle.std.specs.Prelude.{bytes_eq}
use Rattle.std.specs.List.{list_any}
use Rattle.guard_syntax.specs.ModuleViews.{symbol_view}
use Rattle.guard_names.proofs.exports.listed.Given as goal

abbrev pub invariant-loop-symbol : goal.invariant-loop-symbol
invariant-loop-symbol l =
    (name : List ℕ) → list_any (λ k. bytes_eq name k.now) l.names.keys ≡ list_any (λ s. bytes_eq name s.name) (map symbol_view (take l.symbol-index l.symbols))
