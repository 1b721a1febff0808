use Rattle.std.proofs.Common.{◌≡◌, ◌+◌, ◌-◌, ◌*◌, ◌^◌, ◌≤◌, ◌∷◌, take}
use Rattle.std.specs.Prelude.{if◌then◌else◌}
use Rattle.guard_der.specs.Octets.{big_endian}
use Rattle.guard_der.specs.Octets.{turned}
use Rattle.guard_der.proofs.integers.number_behind.Given as goal

abbrev pub invariant-loop-octet : goal.invariant-loop-octet
invariant-loop-octet l = record {
  spelled : l.number ≡ big_endian (l.first ∷ take l.octet-index (if l.turn then turned l.others else l.others));
  bound : (l.number + 1) * 256 ^ (15 - l.octet-index) ≤ 2 ^ 127;
}
