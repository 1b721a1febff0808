use Rattle.std.proofs.Common.{◌∙◌}
use Rattle.guard_messages.proofs.LinkedFrames.{found_frame}
use Rattle.guard_messages.proofs.linked.take_piece.Goals as goal

pub returns-in_ok-copied-in-Frame-clause-frame : goal.returns-in_ok-copied-in-Frame-clause-frame
returns-in_ok-copied-in-Frame-clause-frame c =
    let p = c.in-Frame.ensures in
    found_frame _ _ _ _ c.in-Frame.at c.in-Frame.size _ (c.as_slice.ensures.value ∙ c.in_ok-add.ensures)
    (c.as_slice-in-Frame.ensures.value ∙ c.in_ok-add.ensures) p.0 p.1 c.in_ok-copied-in-Frame.ensures
