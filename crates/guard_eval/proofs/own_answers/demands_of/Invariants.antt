use Rattle.std.proofs.Common.{◌≡◌, ◌&&◌, length, drop}
use Rattle.std.specs.List.{list_all}
use Rattle.guard_model.specs.AbstractValue.{AbstractValue}
use Rattle.guard_model.specs.Components.{components_in}
use Rattle.guard_model.specs.Counts.{component_count}
use Rattle.guard_model.specs.TypeView.{kind_view}
use Rattle.guard_eval.specs.inside.Gathered.{are_as_listed}
use Rattle.guard_eval.specs.inside.PartsTogether.{meets}
use Rattle.guard_eval.proofs.own_answers.demands_of.Given as goal

-- the demands so far, with what the WITH COMPONENTS to come say
abbrev pub invariant-loop-listing : goal.invariant-loop-listing
invariant-loop-listing l =
    (length l.demands.places.items ≡ component_count (components_in (kind_view l.kind)))
    × ((v : AbstractValue) → (meets l.demands (kind_view l.kind) v && list_all (are_as_listed (kind_view l.kind) v) (drop l.listing-index l.listings))
    ≡ list_all (are_as_listed (kind_view l.kind) v) l.listings)
