use Rattle.std.proofs.Common.{◌∙◌, sym, Some, None}
use Rattle.guard_tables.specs.NodesView.{spots_in}
use Rattle.guard_tables.specs.TableNodes.{spot_at}
use Rattle.guard_tables.proofs.Spots.{node_at}
use Rattle.guard_reader.specs.inside.NodeParts.{pass_at}
use Rattle.guard_reader.proofs.NodeTags.{near_front, octet_elsewhere, octet_turned}
use Rattle.guard_reader.proofs.Steps.{yes, no, absent_there, not_whole}
use Rattle.guard_reader.proofs.walking.series.other_part.Goals as goal

pub returns-then-begins : goal.returns-then-begins
returns-then-begins c =
    let h = c.args.node.now in
    let n = node_at c.args.table.now c.args.at h c.requires.room c.requires.node in
    let side = (spot_at (spots_in c.args.table.now) c.args.at).side in
    let pass = pass_at (spots_in c.args.table.now) c.args.at in
    let turned = near_front c.args.table.now c.args.at h n c.args.octets.now c.requires.near
    ∙ octet_turned h.identifier h.other c.args.octets.now c.requires.away (sym c.begins.ensures.same ∙ c.if-begins.true) in
    sym (not_whole side pass c.args.octets.now c.args.failed.now _ (sym turned))

pub returns-then-not-absent_node : goal.returns-then-not-absent_node
returns-then-not-absent_node c =
    let h = c.args.node.now in
    let n = node_at c.args.table.now c.args.at h c.requires.room c.requires.node in
    let side = (spot_at (spots_in c.args.table.now) c.args.at).side in
    let pass = pass_at (spots_in c.args.table.now) c.args.at in
    let away = near_front c.args.table.now c.args.at h n c.args.octets.now c.requires.near
    ∙ octet_elsewhere h.identifier h.other c.args.octets.now c.requires.away (sym c.begins.ensures.same ∙ c.if-begins.false) in
    sym (absent_there side pass c.args.octets.now c.args.failed.now _ None (sym away) (no c.absent_node.result c.absent_node.new.failed _ c.absent_node.ensures c.if-not-absent_node.true))

pub returns : goal.returns
returns c =
    let h = c.args.node.now in
    let n = node_at c.args.table.now c.args.at h c.requires.room c.requires.node in
    let side = (spot_at (spots_in c.args.table.now) c.args.at).side in
    let pass = pass_at (spots_in c.args.table.now) c.args.at in
    let away = near_front c.args.table.now c.args.at h n c.args.octets.now c.requires.near
    ∙ octet_elsewhere h.identifier h.other c.args.octets.now c.requires.away (sym c.begins.ensures.same ∙ c.if-begins.false) in
    sym (absent_there side pass c.args.octets.now c.args.failed.now _ (Some c.absent_node.new.failed) (sym away) (yes c.absent_node.result c.absent_node.new.failed _ c.absent_node.ensures c.if-not-absent_node.false))
