use Rattle.std.proofs.Common.{ℕ, sym, subst}
use Rattle.guard_tables.proofs.Spots.{node_at}
use Rattle.guard_reader.specs.inside.Ranks.{IsLow}
use Rattle.guard_reader.proofs.NodeTags.{identifier_is, other_is}
use Rattle.guard_reader.proofs.set_members.is_below.Goals as goal

pub returns : goal.returns
returns c = λ t.
    let h = c.index-node.result.now in
    let n = node_at c.args.table.now c.args.at h c.requires c.index-node.ensures in (
      subst (λ (o : ℕ). IsLow o c.args.floor) (sym (identifier_is c.args.table.now c.args.at h n)) (c.is_low.ensures c.if-not-is_low.false),
      subst (λ (o : ℕ). IsLow o c.args.floor) (sym (other_is c.args.table.now c.args.at h n)) (c.is_low-2.ensures t),
    )
