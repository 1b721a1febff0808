use Rattle.std.proofs.Common.{◌<◌, arith}
use Rattle.std.specs.Prelude.{slice_index}
use Rattle.guard_values.proofs.SingleValues.DigitsInOctets.{next_digit, small_digit, still_small, product_fits, all_digits}
use Rattle.guard_values.proofs.strings.filled.Goals as goal

pub overflow_mul-number : goal.overflow_mul-number
overflow_mul-number c =
    omega (arith, product_fits c.args.base c.args.places c.loop-place.place c.loop-place.number 0 c.requires.base c.requires.octet c.loop-place-test.true c.loop-place.invariant.small c.requires.base)

pub overflow_add-number : goal.overflow_add-number
overflow_add-number c =
    let below : slice_index c.args.digits.now c.loop-place.place < c.args.base = small_digit c.args.base c.args.digits.now c.loop-place.place c.requires.base c.requires.small in
    omega (arith, c.from.ensures, c.digit_at.ensures, product_fits c.args.base c.args.places c.loop-place.place c.loop-place.number (slice_index c.args.digits.now c.loop-place.place) c.requires.base c.requires.octet c.loop-place-test.true c.loop-place.invariant.small below)

pub loop-place-preserved : goal.loop-place-preserved
loop-place-preserved c =
    let below : slice_index c.args.digits.now c.loop-place.place < c.args.base = small_digit c.args.base c.args.digits.now c.loop-place.place c.requires.base c.requires.small in
    rw (c.from.ensures, c.digit_at.ensures) (record {
      so_far = next_digit c.args.base c.args.places c.loop-place.place c.loop-place.number _ c.args.digits.now c.loop-place-test.true c.loop-place.invariant.so_far;
      small = still_small c.args.base c.loop-place.place c.loop-place.number (slice_index c.args.digits.now c.loop-place.place) c.loop-place.invariant.small below;
    })

pub returns : goal.returns
returns c =
    all_digits c.args.base c.args.places c.loop-place.place c.loop-place.number _ c.args.digits.now c.loop-place-test.false c.loop-place.auto.place-end c.loop-place.invariant.so_far
