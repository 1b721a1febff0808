use Rattle.std.proofs.Common.{◌≡◌, ◌∷◌, ◌++◌, [], drop}
use Rattle.guard_model.specs.TypeView.{type_view}
use Rattle.guard_tables.specs.Tables.{types_view}
use Rattle.guard_tables.specs.inside.Sharing.{shared, places_of}
use Rattle.guard_tables.proofs.sharing.share.Given as goal

-- with the rules that are left it is what comes of all
abbrev pub invariant-loop-rule : goal.invariant-loop-rule
invariant-loop-rule l =
    let d = type_view l.declared in
    record {
      types : shared (d ∷ types_view l.sharing.others.items) (types_view (drop l.rule-index l.rules)) ≡ shared (d ∷ []) (types_view l.rules);
      places : l.sharing.places.items ++ places_of (d ∷ types_view l.sharing.others.items) (types_view (drop l.rule-index l.rules)) ≡ places_of (d ∷ []) (types_view l.rules);
    }
