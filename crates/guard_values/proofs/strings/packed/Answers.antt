use Rattle.std.proofs.Common.{◌<◌, ◌≤◌, length, arith}
use Rattle.std.proofs.lemmas.Grind.{common_steps}
use Rattle.std.proofs.lemmas.List.Elements.{All-drop}
use Rattle.guard_values.proofs.SingleValues.DigitsInOctets.{next_octet}
use Rattle.guard_values.proofs.strings.packed.Goals as goal

pub loop-rest-preserved : goal.loop-rest-preserved
loop-rest-preserved c =
    let long : 1 ≤ length c.loop-rest.rest.now = grind (arith, common_steps, c.is_empty.ensures, c.loop-rest-test.true) in
    rw (c.in_ok-push.ensures.items, c.filled.ensures, c.rest_after-rest.ensures) (record {
      so_far = next_octet c.args.base c.args.places c.loop-rest.octets.items c.loop-rest.rest.now _ c.requires.places long c.loop-rest.invariant.so_far;
      small = All-drop (λ d. d < c.args.base) c.args.places c.loop-rest.rest.now c.loop-rest.invariant.small;
    })
