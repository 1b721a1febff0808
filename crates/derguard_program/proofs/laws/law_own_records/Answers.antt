use Rattle.guard_streams.specs.Muxing.{new_mux}
use Rattle.derguard_program.proofs.OwnRecords.{are_turns, new_at}
use Rattle.derguard_program.proofs.laws.law_own_records.Goals as goal

pub returns : goal.returns
returns c k path p told seen counted records written last few in_turn =
    let old = new_mux p told seen counted in
    let h = are_turns path old records written last in_turn in
    (h.turns, h.are, c.law_own_stream.ensures k h.turns old.gateway last.gateway (new_at k few) h.steps)
