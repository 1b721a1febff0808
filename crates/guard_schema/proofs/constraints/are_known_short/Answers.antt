use Rattle.std.proofs.Common.{inr}
use Rattle.guard_constraints.specs.Views.{visible_in}
use Rattle.guard_schema.proofs.Room.Short.{kept_there}
use Rattle.guard_schema.proofs.constraints.are_known_short.Goals as goal

pub returns : goal.returns
returns c = λ told u there.
    let (n, known, room) = c.has_room.ensures told in
    inr (n, kept_there ((visible_in c.args.scope).types c.args.name.now) u c.bound_named.result n c.bound_named.ensures there known, room)
