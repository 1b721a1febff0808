-- Which names are exported, by what the code keeps of it.
use Rattle.std.specs.Prelude.{ℕ, Bool, true, List, bytes_eq}
use Rattle.std.specs.List.{list_any}
use Rattle.guard_names.specs.declared.exports.Exports.{Exports}
use Rattle.guard_names.specs.declared.exports.Exports.TheVariants.{All, Listed}

abbrev pub has_name : Exports → List ℕ → Bool
has_name All name = true
has_name (Listed names) name = list_any (λ k. bytes_eq name k.now) names.keys
