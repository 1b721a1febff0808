use Rattle.guard_authors.proofs.FramesCompared.{none_begun, total_written}
use Rattle.guard_authors.proofs.comparing.compare_frames.Goals as goal

pub returns-in_default : goal.returns-in_default
returns-in_default g c = none_begun _ _ _ _ _ _ _ _ _ c.tell_no_memory.ensures

pub returns-in-Ok-compare_all : goal.returns-in-Ok-compare_all
returns-in-Ok-compare_all g c =
    total_written _ _ _ _ _ _ _ (g.O.Sink.has_failed c.compare_all.new.out) _ _ _ c.in-Ok-compare_all.ensures.all
    c.write_total.ensures
