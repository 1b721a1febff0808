use Rattle.std.proofs.Common.{◌≡◌, ◌++◌, map, drop}
use Rattle.guard_model.specs.TypeView.{kind_view}
use Rattle.guard_tables.specs.Apt.{AllSpeak}
use Rattle.guard_tables.specs.Lay.{conditions_of}
use Rattle.guard_tables.specs.NodeViews.{condition_view}
use Rattle.guard_tables.specs.inside.DemandViews.{terms_view}
use Rattle.guard_tables.proofs.conditions_at_node.list_of.Given as goal

-- with what comes of the tests that are left it is what comes of all
abbrev pub invariant-loop-term : goal.invariant-loop-term
invariant-loop-term l = record {
  speak : AllSpeak (kind_view l.kind) (terms_view (drop l.term-index l.terms));
  so_far : map condition_view l.conditions.items ++ conditions_of (kind_view l.kind)
      (terms_view (drop l.term-index l.terms)) ≡ conditions_of (kind_view l.kind) (terms_view l.terms);
}
