use Rattle.std.proofs.Common.{◌∙◌, ◌&&◌, List, ap, sym}
use Rattle.std.proofs.lemmas.List.{drop_all}
use Rattle.guard_integers.specs.Integers.{holds}
use Rattle.guard_tables.specs.declared.demands.Demand.{Demand}
use Rattle.guard_policy.specs.Barren.{all_have_number}
use Rattle.guard_policy.specs.inside.Asked.{demands_view}
use Rattle.guard_policy.proofs.NothingShared.{numbers_told, whole}
use Rattle.guard_policy.proofs.barren.have_no_number.Goals as goal

pub returns : goal.returns
returns c =
    let demands = c.args.demands.now in
    let left = c.loop-demand.left in
    numbers_told (demands_view demands) left c.is_empty.result c.is_empty.ensures
    (λ z. sym (whole (holds left z))
    ∙ ap (λ (ds : List Demand). holds left z && all_have_number (demands_view ds) z) (sym (drop_all c.loop-demand.demand-index demands c.loop-demand-test.false))
    ∙ c.loop-demand.invariant z)
