use Rattle.std.proofs.Common.{◌≡◌, length, map, drop}
use Rattle.std.specs.List.{list_all}
use Rattle.guard_model.specs.AbstractType.{AbstractKind}
use Rattle.guard_model.specs.Components.{components_in}
use Rattle.guard_model.specs.TypeView.{kind_view, component_view, components_of}
use Rattle.guard_eval.specs.inside.PartsTogether.{are_within}
use Rattle.guard_eval.specs.inside.Together.{values_view, gathered_view, passes_all, elements_of}
use Rattle.guard_eval.proofs.own_answers.+own_answers.Given as goal

abbrev pub invariant-all_pass_within-loop-place : goal.invariant-all_pass_within-loop-place
invariant-all_pass_within-loop-place l =
    (kind : AbstractKind) → components_in kind ≡ components_of (map component_view l.comps) → length l.places ≡ length l.comps
    → list_all (are_within l.place (drop l.place l.places) kind) (values_view l.values) ≡ list_all (are_within 0 l.places kind) (values_view l.values)

abbrev pub invariant-lists_pass-loop-value : goal.invariant-lists_pass-loop-value
invariant-lists_pass-loop-value l =
    list_all (passes_all (gathered_view l.cons) (kind_view l.kind)) (elements_of (values_view (drop l.value-index l.values)))
    ≡ list_all (passes_all (gathered_view l.cons) (kind_view l.kind)) (elements_of (values_view l.values))
