use Rattle.std.proofs.Common.{◌≡◌, subst}
use Rattle.std.specs.Prelude.{IfOk}
use Rattle.guard_schema.specs.inside.InTurn.{Filling}
use Rattle.guard_schema.specs.Views.{filling_view}
use Rattle.guard_schema.proofs.Filled.Moves.{one_moves, never_empty}
use Rattle.guard_schema.proofs.finishing.one_taken_over.Goals as goal

pub unreachable-requires : goal.unreachable-requires
unreachable-requires c = never_empty c.args.filling.left.items c.pop_front.new.self.items c.pop_front.result
    c.pop_front.ensures.items c.in-None.is c.pop_front.ensures.rest c.requires.enough

pub returns : goal.returns
returns c =
    let one = one_moves c.args.filling.done.items c.args.filling.left.items c.pop_front.new.self.items
    c.pop_front.result c.pop_front.ensures.items c.in-Some.comp c.in-Some.is in
    subst (λ (s : Filling). IfOk c.with_done.result (λ f. filling_view f ≡ s)) one c.with_done.ensures
