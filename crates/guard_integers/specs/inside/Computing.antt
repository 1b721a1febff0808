-- How the gaps and the common parts of lists of ranges are found. No public contract speaks of these.
use Rattle.std.specs.Prelude.{ℤ, pos, negsuc, ◌+ℤ◌, ◌-ℤ◌, Bool, List, [], ◌∷◌, ◌++◌, if◌then◌else◌}
use Rattle.std.specs.Int.Signed.{le_z, lt_z}
use Rattle.std.specs.Int.{int_max, int_min}
use Rattle.guard_integers.specs.declared.ranges.Range.{Range}

-- -2^127
abbrev pub least : ℤ
least = negsuc 170141183460469231731687303715884105727

-- 2^127-1
abbrev pub greatest : ℤ
greatest = pos 170141183460469231731687303715884105727

abbrev pub range_of : ℤ → ℤ → Range
range_of low high = record { low = low; high = high }

-- the integers from `low` on that lie before the range
abbrev pub before : ℤ → Range → List Range
before low r = if lt_z low r.low then range_of low (r.low -ℤ pos 1) ∷ [] else []

-- the integers from `low` on that no range holds
abbrev pub gaps_from : ℤ → List Range → List Range
gaps_from low [] = range_of low greatest ∷ []
gaps_from low (r ∷ rs) = before low r ++ (if lt_z r.high greatest then gaps_from (r.high +ℤ pos 1) rs else [])

-- the integers that both ranges hold
abbrev pub meeting : ℤ → ℤ → List Range
meeting low high = if le_z low high then range_of low high ∷ [] else []

abbrev pub overlap : Range → Range → List Range
overlap r s = meeting (int_max r.low s.low) (int_min r.high s.high)

abbrev pub ends_first : Range → Range → Bool
ends_first r s = lt_z r.high s.high

-- The common parts of one range and a list. Where the range ends before one of the list, `next` goes on from that one.
abbrev pub sweep : (List Range → List Range) → Range → List Range → List Range
sweep next r [] = []
sweep next r (s ∷ ss) = overlap r s ++ (if ends_first r s then next (s ∷ ss) else sweep next r ss)

-- the integers that both lists hold
abbrev pub common_of : List Range → List Range → List Range
common_of [] second = []
common_of (r ∷ rs) second = sweep (common_of rs) r second
