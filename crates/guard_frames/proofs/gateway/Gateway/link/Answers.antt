use Rattle.std.proofs.Common.{◌≡◌, ◌∙◌, length, slice_get, Some, ap, sym, arith}
use Rattle.std.proofs.lemmas.Option.{slice_get-get_or}
use Rattle.guard_frames.proofs.Own.Gateways.{link_there, no_link}
use Rattle.guard_frames.proofs.gateway.Gateway.link.Goals as goal

pub returns-in-Some : goal.returns-in-Some
returns-in-Some g c =
    let seats = c.args.self.now.seats.items in
    let s = c.in-Some.seat.now in
    let x = c.in-Some.ensures.lookup in
    let there : slice_get seats c.args.link ≡ Some s =
    ap (λ xs. slice_get xs c.args.link) (sym c.deref.ensures.value) ∙ slice_get-get_or c.deref.result.now c.args.link s x.3.0 ∙ ap Some (sym x.1) in
    link_there seats c.args.link s there

pub returns-in-None : goal.returns-in-None
returns-in-None g c =
    let seats = c.args.self.now.seats.items in
    no_link seats c.args.link (λ lt. omega (arith, lt, c.in-None.ensures.lookup.3, ap length c.deref.ensures.value))
