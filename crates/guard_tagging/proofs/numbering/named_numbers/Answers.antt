use Rattle.std.proofs.Common.{◌≡◌, map, ◌++◌, ◌∷◌, [], refl}
use Rattle.std.proofs.lemmas.Result.{err_from_is_err_and}
use Rattle.std.proofs.lemmas.List.{map_push}
use Rattle.guard_model.specs.inside.Each.{each}
use Rattle.guard_model.specs.TypeView.{named_view}
use Rattle.guard_model.proofs.Loops.{stops_at, goes_on, ends_there}
use Rattle.guard_syntax.specs.TypeViews as written
use Rattle.guard_tagging.specs.Named.{named}
use Rattle.guard_tagging.specs.inside.ReadItems.{read_named}
use Rattle.guard_tagging.proofs.numbering.named_numbers.Goals as goal

pub returns-in_err-number : goal.returns-in_err-number
returns-in_err-number c =
    let p = err_from_is_err_and c.from_residual-in_err-number.result c.from_residual-in_err-number.ensures.1 in
    rw (p.1, p.2) (stops_at read_named written.named_view
    (map named_view c.loop-tree.numbers.items) c.args.trees.now c.loop-tree.tree-index
    (each read_named (map written.named_view c.args.trees.now)) c.loop-tree.invariant
    _ _ c.loop-tree-test.true refl (named c.in_err-number.field-0.0) c.in_err-number.ensures)

pub loop-tree-preserved : goal.loop-tree-preserved
loop-tree-preserved c =
    let x = c.in_ok-number.number in
    let e : map named_view c.push.new.self.items ≡ map named_view c.loop-tree.numbers.items ++ named_view x ∷ [] =
    rw c.in_ok-push.ensures.items (map_push named_view c.loop-tree.numbers.items x) in
    rw e (goes_on read_named written.named_view
    (map named_view c.loop-tree.numbers.items) c.args.trees.now c.loop-tree.tree-index
    (each read_named (map written.named_view c.args.trees.now)) c.loop-tree.invariant
    _ _ c.loop-tree-test.true refl (named_view x) c.in_ok-number.ensures)

pub returns : goal.returns
returns c =
    ends_there read_named written.named_view
    (map named_view c.loop-tree.numbers.items) c.args.trees.now c.loop-tree.tree-index
    (each read_named (map written.named_view c.args.trees.now)) c.loop-tree.invariant c.loop-tree-test.false
