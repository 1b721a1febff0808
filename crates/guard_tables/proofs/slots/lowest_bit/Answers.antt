use Rattle.std.specs.Int.{w64}
use Rattle.std.proofs.lemmas.Nat.Bits.{bit_at-trailing_zeros}
use Rattle.guard_tables.proofs.slots.lowest_bit.Goals as goal

pub returns : goal.returns
returns c =
    let told = bit_at-trailing_zeros w64 c.args.word c.requires c.ranges.word.fits in
    record { within = told.0; set = told.1; others = told.2 }
