use Rattle.std.proofs.lemmas.Result.{IfErr-weaker}
use Rattle.guard_messages.proofs.LinkedFrames.{unlinked_is}
use Rattle.guard_messages.proofs.finding.frame_of_link.Goals as goal

pub returns-clause-unfound : goal.returns-clause-unfound
returns-clause-unfound g c told =
    IfErr-weaker c.linked_frame.result _ _ (λ u h.
    unlinked_is u told c.args.number.now c.args.word.now _ _ _ c.in-Some.ensures.number c.in-Some-number_in.ensures.number h)
    c.linked_frame.ensures.none
