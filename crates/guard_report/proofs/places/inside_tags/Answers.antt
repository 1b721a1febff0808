use Rattle.guard_report.proofs.Tries.{inside_next}
use Rattle.guard_report.proofs.places.inside_tags.Goals as goal

pub loop-tag-preserved : goal.loop-tag-preserved
loop-tag-preserved c =
    inside_next c.args.octets.now c.args.tags.now c.loop-tag._tag-index c.loop-tag.inner c.inside_element-inner.result _
    c.loop-tag-test.true c.inside_element-inner.ensures c.loop-tag.invariant
