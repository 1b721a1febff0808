use Rattle.std.proofs.Common.{◌≡◌, ◌<◌, true, false, length, slice_get, Some, refl, arith}
use Rattle.std.proofs.lemmas.Option.{slice_get_read}
use Rattle.guard_frames.proofs.Own.Gateways.{has_ends, ends_there, no_ends}
use Rattle.guard_frames.proofs.gateway.Gateway.ends_mut.Goals as goal

pub returns-in-Some : goal.returns-in-Some
returns-in-Some g c =
    let seats = c.args.self.now.seats in
    let s = c.in-Some.seat.now in
    let within : c.args.link < length seats.items = omega (arith, c.in-Some.ensures.variant.0 refl, seats.ok.0) in
    let there : slice_get seats.items c.args.link ≡ Some s = slice_get_read seats.items (length seats.items) c.args.link s refl within c.in-Some.ensures.value in
    ((refl, λ w. has_ends c.args.self.now c.args.link s w there, refl), record { writes_back = tt; there = ends_there seats.items c.args.link s there })

pub returns-in-None : goal.returns-in-None
returns-in-None g c =
    let seats = c.args.self.now.seats in
    let past : c.args.link < length seats.items → ⊥ = λ lt. (let both : false ≡ true = c.in-None.ensures.variant.1 (omega (arith, lt, seats.ok.0)) in absurd cc) in
    ((refl, λ w. tt, refl), record { writes_back = tt; there = no_ends seats.items c.args.link past })
