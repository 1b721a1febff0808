use Rattle.std.proofs.Common.{◌≡◌, ◌∷◌}
use Rattle.guard_model.specs.TypeView.{type_view}
use Rattle.guard_model.proofs.Components.{left}
use Rattle.guard_tables.specs.Tables.{types_view}
use Rattle.guard_tables.specs.inside.Search.{crowded_among}
use Rattle.guard_tables.proofs.nodes.+nodes.Given as goal

-- none so far has such a node
abbrev pub invariant-crowded_among-loop-place : goal.invariant-crowded_among-loop-place
invariant-crowded_among-loop-place l =
    crowded_among (type_view l.declared ∷ types_view l.rules) l.way l.place (left l.comps l.place)
    ≡ crowded_among (type_view l.declared ∷ types_view l.rules) l.way 0 (left l.comps 0)
