use Rattle.std.proofs.Common.{◌≡◌, ◌/◌, ◌<◌, ℕ, length, get_or, refl, ap, ◌∙◌, arith}
use Rattle.std.specs.Prelude.{replicate, set}
use Rattle.std.specs.Int.{div_ceil}
use Rattle.std.specs.Int.Bits.{bit_or}
use Rattle.std.proofs.lemmas.Grind.{get_or_default_zero}
use Rattle.std.proofs.lemmas.List.{length-replicate, length-set}
use Rattle.guard_values.specs.NamedBits.{bits_to_last}
use Rattle.guard_values.proofs.SingleValues.NamedBits.{place_below}
use Rattle.guard_values.proofs.SingleValues.PlacesInOctets.{octet_below, none_marked, one_marked, all_marked}
use Rattle.guard_values.proofs.named_bits.octets_at.Goals as goal

pub loop-place-init : goal.loop-place-init
loop-place-init c =
    let count : c.div_ceil.result ≡ div_ceil (bits_to_last c.args.places.now) 8 = c.div_ceil.ensures ∙ ap (λ (n : ℕ). div_ceil n 8) c.bits_to_last.ensures in
    let zeros : c.in_ok-octets.octets.items ≡ replicate (div_ceil (bits_to_last c.args.places.now) 8) 0 = c.in_ok-octets.ensures.items_if_clones_equal (λ y same. same) ∙ ap (λ (n : ℕ). replicate n 0) count in
    record {
      so_far = zeros ∙ none_marked c.args.places.now;
      count = ap length zeros ∙ length-replicate {A = ℕ} (div_ceil (bits_to_last c.args.places.now) 8) 0;
    }

pub index_mut-requires : goal.index_mut-requires
index_mut-requires c =
    let below : get_or c.args.places.now c.loop-place.place-index 0 < bits_to_last c.args.places.now = place_below c.args.places.now c.loop-place.place-index 0 c.loop-place-test.true in
    omega (arith, octet_below (get_or c.args.places.now c.loop-place.place-index 0) (bits_to_last c.args.places.now) below, c.from.ensures, c.loop-place.invariant.count)

pub loop-place-preserved : goal.loop-place-preserved
loop-place-preserved c =
    let os = c.loop-place.octets.items in
    let p : ℕ = get_or c.args.places.now c.loop-place.place-index 0 in
    let below : p < bits_to_last c.args.places.now = place_below c.args.places.now c.loop-place.place-index 0 c.loop-place-test.true in
    let within : c.from.result < length os = omega (arith, octet_below p (bits_to_last c.args.places.now) below, c.from.ensures, c.loop-place.invariant.count) in
    let octet : c.index_mut.result.now ≡ get_or os (p / 8) 0 = c.index_mut.ensures.value ∙ get_or_default_zero os c.from.result c.index_mut.result.now within ∙ ap (λ (k : ℕ). get_or os k 0) c.from.ensures in
    record {
      so_far = ap (λ (k : ℕ). set os k (bit_or c.index_mut.result.now c.bit_of_octet.result)) c.from.ensures ∙ ap (λ (o : ℕ). set os (p / 8) (bit_or o c.bit_of_octet.result)) octet
          ∙ ap (λ (w : ℕ). set os (p / 8) (bit_or (get_or os (p / 8) 0) w)) c.bit_of_octet.ensures
          ∙ one_marked c.args.places.now os c.loop-place.place-index p c.loop-place-test.true refl c.loop-place.invariant.so_far;
      count = length-set os c.from.result (bit_or c.index_mut.result.now c.bit_of_octet.result) ∙ c.loop-place.invariant.count;
    }

pub returns : goal.returns
returns c = all_marked c.args.places.now c.loop-place.octets.items c.loop-place.place-index c.loop-place-test.false c.loop-place.invariant.so_far
