use Rattle.guard_streams.specs.Verbose.{fault_line, last_lines}
use Rattle.guard_streams.proofs.Chains.{three}
use Rattle.guard_streams.proofs.seen.fault_notes.Goals as goal

pub returns : goal.returns
returns c =
    rw c.new-text.ensures.bytes at (three _ _ _ _ (fault_line c.args.fault c.args.seen.now) c.args.said.now
    (last_lines c.args.seen.now) c.in_ok-add_fault.ensures c.in_ok-push_str.ensures.bytes c.in_ok-add_last.ensures)
