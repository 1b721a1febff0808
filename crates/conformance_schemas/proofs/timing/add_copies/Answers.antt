use Rattle.std.proofs.Common.{All}
use Rattle.std.proofs.lemmas.List.Elements.{All-push}
use Rattle.std.proofs.lemmas.List.{map-append}
use Rattle.std.specs.Prelude.{IsTrue}
use Rattle.guard_der.specs.Sound.{is_sound}
use Rattle.guard_model.specs.TypeView.{type_view}
use Rattle.guard_tables.specs.Tables.{types_view}
use Rattle.conformance_schemas.proofs.timing.add_copies.Goals as goal

pub loop-preserved : goal.loop-preserved
loop-preserved c =
    let all = All-push (λ t. IsTrue (is_sound t)) (types_view c.loop.found.items) (type_view c.args.ty.now) c.loop.invariant c.requires.sound in
    rw (c.in_ok-push.ensures.items, map-append) all
