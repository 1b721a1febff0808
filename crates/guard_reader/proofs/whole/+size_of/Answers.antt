use Rattle.std.proofs.Common.{◌∙◌, ℕ, Some, ap, arith}
use Rattle.guard_tables.specs.TableNodes.{has_inner}
use Rattle.guard_tables.proofs.Spots.{node_at}
use Rattle.guard_reader.proofs.NodeSteps.{size_is}
use Rattle.guard_reader.proofs.whole.+size_of.Goals as goal

pub size_of-requires : goal.size_of-requires
size_of-requires t c =
    let n = node_at c.args.table.now c.args.at c.index-node.result.now c.requires c.index-node.ensures in
    let inner = n.node.inner (ap has_inner c.in-Wrapper.is) in
    (omega (arith, inner), omega (arith, inner, c.requires))

pub size_of-requires-in-Asked : goal.size_of-requires-in-Asked
size_of-requires-in-Asked t c =
    let n = node_at c.args.table.now c.args.at c.index-node.result.now c.requires c.index-node.ensures in
    let inner = n.node.inner (ap has_inner c.in-Asked.is) in
    (omega (arith, inner), omega (arith, inner, c.requires))

pub size_of-requires-in-Formula : goal.size_of-requires-in-Formula
size_of-requires-in-Formula t c =
    let n = node_at c.args.table.now c.args.at c.index-node.result.now c.requires c.index-node.ensures in
    let inner = n.node.inner (ap has_inner c.in-Formula.is) in
    (omega (arith, inner), omega (arith, inner, c.requires))

pub count-requires : goal.count-requires
count-requires t c =
    let n = node_at c.args.table.now c.args.at c.index-node.result.now c.requires c.index-node.ensures in
    let inner = n.node.inner (ap has_inner c.in-List.is) in
    omega (arith, inner, c.requires)

pub count-requires-in-SetOf : goal.count-requires-in-SetOf
count-requires-in-SetOf t c =
    let n = node_at c.args.table.now c.args.at c.index-node.result.now c.requires c.index-node.ensures in
    let inner = n.node.inner (ap has_inner c.in-SetOf.is) in
    omega (arith, inner, c.requires)

pub returns-in-Simple : goal.returns-in-Simple
returns-in-Simple t c =
    let n = node_at c.args.table.now c.args.at c.index-node.result.now c.requires c.index-node.ensures in
    size_is c.args.table.now c.args.at c.index-node.result.now n _ c.in-Simple.is c.args.inside.now

pub returns-in-Series : goal.returns-in-Series
returns-in-Series t c =
    let n = node_at c.args.table.now c.args.at c.index-node.result.now c.requires c.index-node.ensures in
    size_is c.args.table.now c.args.at c.index-node.result.now n _ c.in-Series.is c.args.inside.now

pub returns-in-Set : goal.returns-in-Set
returns-in-Set t c =
    let n = node_at c.args.table.now c.args.at c.index-node.result.now c.requires c.index-node.ensures in
    size_is c.args.table.now c.args.at c.index-node.result.now n _ c.in-Set.is c.args.inside.now

pub returns-in-Choice : goal.returns-in-Choice
returns-in-Choice t c =
    let n = node_at c.args.table.now c.args.at c.index-node.result.now c.requires c.index-node.ensures in
    size_is c.args.table.now c.args.at c.index-node.result.now n _ c.in-Choice.is c.args.inside.now

pub returns-in-List : goal.returns-in-List
returns-in-List t c =
    let n = node_at c.args.table.now c.args.at c.index-node.result.now c.requires c.index-node.ensures in
    ap (λ (n : ℕ). Some n) c.count.ensures ∙ size_is c.args.table.now c.args.at c.index-node.result.now n _ c.in-List.is c.args.inside.now

pub returns-in-SetOf : goal.returns-in-SetOf
returns-in-SetOf t c =
    let n = node_at c.args.table.now c.args.at c.index-node.result.now c.requires c.index-node.ensures in
    ap (λ (n : ℕ). Some n) c.count-in-SetOf.ensures ∙ size_is c.args.table.now c.args.at c.index-node.result.now n _ c.in-SetOf.is c.args.inside.now

pub returns-in-Wrapper : goal.returns-in-Wrapper
returns-in-Wrapper t c =
    let n = node_at c.args.table.now c.args.at c.index-node.result.now c.requires c.index-node.ensures in
    c.size_of.ensures ∙ size_is c.args.table.now c.args.at c.index-node.result.now n _ c.in-Wrapper.is c.args.inside.now

pub returns-in-Asked : goal.returns-in-Asked
returns-in-Asked t c =
    let n = node_at c.args.table.now c.args.at c.index-node.result.now c.requires c.index-node.ensures in
    c.size_of-in-Asked.ensures ∙ size_is c.args.table.now c.args.at c.index-node.result.now n _ c.in-Asked.is c.args.inside.now

pub returns-in-Formula : goal.returns-in-Formula
returns-in-Formula t c =
    let n = node_at c.args.table.now c.args.at c.index-node.result.now c.requires c.index-node.ensures in
    c.size_of-in-Formula.ensures ∙ size_is c.args.table.now c.args.at c.index-node.result.now n _ c.in-Formula.is c.args.inside.now
