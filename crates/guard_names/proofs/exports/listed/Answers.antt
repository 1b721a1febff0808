use Rattle.guard_names.proofs.Declared.Listing.{more_listed}
use Rattle.guard_names.proofs.exports.listed.Goals as goal

pub loop-symbol-preserved : goal.loop-symbol-preserved
loop-symbol-preserved c = λ q. more_listed c.args.symbols.now c.loop-symbol.symbol-index _ q _ _ c.loop-symbol-test.true (c.loop-symbol.invariant q) (c.in_ok-insert.ensures.updates.0 (record { ref_ptr = (0, 0); now = q }))
