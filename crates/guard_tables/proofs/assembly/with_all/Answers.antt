use Rattle.std.proofs.Common.{◌≡◌, ◌++◌, ◌∷◌, sym, ap, ◌∙◌, List}
use Rattle.std.specs.Vec.Iter.{into_iter_items}
use Rattle.guard_tables.specs.declared.new_nodes.Node.{Node}
use Rattle.guard_tables.proofs.Comings.{next_comes, next_came, one_further}
use Rattle.guard_tables.proofs.assembly.with_all.Goals as goal

pub with-requires : goal.with-requires
with-requires c = next_comes c.args.builder c.loop-node.builder c.loop-node.yielded c.in-Some.node (into_iter_items c.next.new.self) c.args.parts.items
    (ap (λ (ns : List Node). c.loop-node.yielded ++ ns) (sym c.in-Some.ensures.steps.0) ∙ c.loop-node.invariant.walked ∙ c.into_iter-node-iterator.ensures.into_iter_gives.0) c.requires c.loop-node.invariant.came

pub loop-node-preserved : goal.loop-node-preserved
loop-node-preserved c =
    let same : c.loop-node.yielded ++ c.in-Some.node ∷ into_iter_items c.next.new.self ≡ into_iter_items c.into_iter-node-iterator.result = ap (λ (ns : List Node). c.loop-node.yielded ++ ns) (sym c.in-Some.ensures.steps.0) ∙ c.loop-node.invariant.walked in
    record {
      walked = one_further c.loop-node.yielded c.in-Some.node (into_iter_items c.next.new.self) ∙ same;
      came = next_came c.args.builder c.loop-node.builder c.in_ok-builder.builder c.loop-node.yielded c.in-Some.node (into_iter_items c.next.new.self) c.args.parts.items (same ∙ c.into_iter-node-iterator.ensures.into_iter_gives.0) c.requires c.loop-node.invariant.came c.in_ok-builder.ensures.hots c.in_ok-builder.ensures.colds;
    }
