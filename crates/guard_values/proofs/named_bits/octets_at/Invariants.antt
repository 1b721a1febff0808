use Rattle.std.proofs.Common.{◌≡◌, length}
use Rattle.std.specs.Int.{div_ceil}
use Rattle.guard_values.specs.NamedBits.{bits_to_last}
use Rattle.guard_values.specs.Strings.{octets_of_bits}
use Rattle.guard_values.proofs.SingleValues.PlacesInOctets.{marked_first}
use Rattle.guard_values.proofs.named_bits.octets_at.Given as goal

abbrev pub invariant-loop-place : goal.invariant-loop-place
invariant-loop-place l = record {
  so_far : l.octets.items ≡ octets_of_bits (marked_first l.places l.place-index);
  count : length l.octets.items ≡ div_ceil (bits_to_last l.places) 8;
}
