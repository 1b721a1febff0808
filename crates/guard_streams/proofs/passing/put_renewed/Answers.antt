use Rattle.std.proofs.Common.{◌≡◌, ◌∙◌, ◌++◌, subst, sym}
use Rattle.guard_frames.specs.Calls.{EndsLine}
use Rattle.guard_streams.specs.InForce.{digest_note}
use Rattle.guard_streams.specs.Turns.{renewed_line}
use Rattle.guard_streams.proofs.Chains.{renewed_whole}
use Rattle.guard_streams.proofs.Putting.{puts}
use Rattle.guard_streams.proofs.passing.put_renewed.Goals as goal

pub returns-clause-puts : goal.returns-clause-puts
returns-clause-puts g c =
    let whole : c.as_slice.result.now ≡ renewed_line c.args.messages c.args.rules ++ digest_note c.args.digest.now =
    c.as_slice.ensures.value ∙ renewed_whole c.args.messages c.args.rules (digest_note c.args.digest.now)
    _ _ _ _ _ _ _ _ _ c.new-whole.ensures c.append.ensures
    (c.as_bytes.ensures.value ∙ c.format.ensures.text) c.append-2.ensures c.append-3.ensures
    (c.as_bytes-2.ensures.value ∙ c.format-2.ensures.text) c.append-4.ensures c.append-5.ensures c.append_digest.ensures.appended in
    puts _ _ _ _ whole c.put_all.ensures.all c.put_all.ensures.part c.put_all.ensures.failed

pub returns-clause-lines : goal.returns-clause-lines
returns-clause-lines g c = c.put_all.ensures.lines (subst EndsLine (sym c.as_slice.ensures.value) c.append_digest.ensures.ends)
