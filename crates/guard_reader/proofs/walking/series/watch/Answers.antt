use Rattle.std.proofs.Common.{◌∙◌, ap, sym, None, Some, cond, Bool}
use Rattle.guard_tables.specs.declared.slots.Slots.{Slots}
use Rattle.guard_tables.specs.Slots.{added}
use Rattle.guard_reader.specs.Judging.{watched}
use Rattle.guard_tables.specs.TableNodes.{Spot, spot_of}
use Rattle.guard_tables.proofs.Spots.{cold_spot}
use Rattle.guard_reader.proofs.walking.series.watch.Goals as goal

pub returns-then-is_default : goal.returns-then-is_default
unfolding watched spot_of
returns-then-is_default c =
    let s = cold_spot c.args.table.now c.args.at c.index-cold.result.now c.requires c.index-cold.ensures in
    ap (λ (s : Spot). watched s.side c.args.inside.now c.args.failed.now) s.1
    ∙ ap (λ (b : Bool). cond b None (Some (added c.args.failed.now c.index-cold.result.now.present))) (sym c.is_default.ensures ∙ c.if-is_default.true)

pub returns : goal.returns
unfolding watched spot_of
returns c =
    let s = cold_spot c.args.table.now c.args.at c.index-cold.result.now c.requires c.index-cold.ensures in
    ap (λ (s : Spot). watched s.side c.args.inside.now c.args.failed.now) s.1
    ∙ ap (λ (b : Bool). cond b None (Some (added c.args.failed.now c.index-cold.result.now.present))) (sym c.is_default.ensures ∙ c.if-is_default.false)
    ∙ ap (λ (m : Slots). Some m) (sym c.add.ensures)
