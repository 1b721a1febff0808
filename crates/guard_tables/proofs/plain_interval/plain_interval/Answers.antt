use Rattle.guard_tables.proofs.PlainIntervals.{plain_free}
use Rattle.guard_tables.proofs.plain_interval.plain_interval.Goals as goal

pub returns-in-Simple : goal.returns-in-Simple
returns-in-Simple c = λ spots os lawful low high.
    let quiet = c.is_unwatched.ensures c.if-is_unwatched.true in
    plain_free c.args.hot.now c.args.cold.now spots os c.in-Simple.kind c.in-Simple.is quiet.0 quiet.1
    (c.numbers_passed.ensures os lawful (low, high))
