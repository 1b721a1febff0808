use Rattle.std.proofs.Common.{arith, ◌≡◌}
use Rattle.guard_tables.specs.inside.DemandViews.{term_view}
use Rattle.guard_tables.specs.inside.DemandsOfParts.{part_asked, with_term}
use Rattle.guard_tables.proofs.AskedOfParts.{one_changed, not_changed}
use Rattle.guard_tables.proofs.demands_of_parts.add_at.Goals as goal

pub returns-in_ok-receive : goal.returns-in_ok-receive
returns-in_ok-receive c =
    let f = with_term c.args.exclusive c.args.place (term_view c.args.term) in
    let added : part_asked c.receive.new.self ≡ f (part_asked c.index_mut.result.now)
    = λ i. record { demands = c.in_ok-receive.ensures.demands i; absent = c.in_ok-receive.ensures.absent i; present = c.in_ok-receive.ensures.present i } in
    one_changed c.args.parts.now.items c.args.place c.index_mut.result.now c.receive.new.self f
    (omega (arith, c.if-place-len.true, c.len.ensures, c.args.parts.now.ok.0)) c.index_mut.ensures.value added

pub returns-else-place-len : goal.returns-else-place-len
returns-else-place-len c =
    not_changed c.args.parts.now.items c.args.place (with_term c.args.exclusive c.args.place (term_view c.args.term))
    (omega (arith, c.if-place-len.false, c.len.ensures, c.args.parts.now.ok.0))
