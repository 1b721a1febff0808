use Rattle.std.proofs.Common.{◌≡◌, ◌∙◌, ◌++◌, ap}
use Rattle.guard_streams.specs.InForce.{digest_note}
use Rattle.guard_streams.proofs.Putting.{puts}
use Rattle.guard_streams.proofs.in_force.put_digest.Goals as goal

pub returns : goal.returns
returns g c =
    let whole : c.as_slice.result.now ≡ digest_note c.args.digest.now =
    c.as_slice.ensures.value ∙ c.append_digest.ensures.appended ∙ ap (λ x. x ++ digest_note c.args.digest.now) c.new-line.ensures in
    puts _ _ _ _ whole c.put_all.ensures.all c.put_all.ensures.part c.put_all.ensures.failed
