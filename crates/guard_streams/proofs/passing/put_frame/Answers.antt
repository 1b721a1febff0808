use Rattle.std.proofs.Common.{◌≡◌, ◌∙◌}
use Rattle.guard_streams.specs.AtFault.{begun_line}
use Rattle.guard_streams.proofs.Chains.{begun_whole}
use Rattle.guard_streams.proofs.Putting.{puts}
use Rattle.guard_streams.proofs.passing.put_frame.Goals as goal

pub returns-clause-puts : goal.returns-clause-puts
returns-clause-puts g c =
    let whole : c.as_slice.result.now ≡ begun_line c.args.link c.args.number c.args.word.now c.args.count =
    begun_whole c.args.link c.args.number c.args.count c.args.word.now _ _ _ _ _ _ _ _ _ _ _ _ _ _
    c.new-whole.ensures c.append.ensures (c.as_bytes.ensures.value ∙ c.format.ensures.text) c.append-2.ensures c.append-3.ensures
    (c.as_bytes-2.ensures.value ∙ c.format-2.ensures.text) c.append-4.ensures c.append-5.ensures c.append-6.ensures
    c.append-7.ensures (c.as_bytes-3.ensures.value ∙ c.format-3.ensures.text) c.append-8.ensures c.append-9.ensures
    c.as_slice.ensures.value in
    puts _ _ _ _ whole c.put_all.ensures.all c.put_all.ensures.part c.put_all.ensures.failed
