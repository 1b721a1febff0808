-- Sets of integers of signed 128 bits. Contracts know a set by one test alone: whether it holds an integer.
use Rattle.std.specs.Prelude.{◌≡◌, ℤ, Bool, true, false, ◌&&◌, List, refl}
use Rattle.std.specs.List.{list_any}
use Rattle.std.specs.Coded.{Coded, Coded-set, code_by, coded×, coded_list, coded_ℤ}
use Rattle.guard_model.specs.Limits.{fits_128_bits}
use Rattle.guard_integers.specs.declared.ranges.Range.{Range}
use Rattle.guard_integers.specs.Ranges.{one_holds}

-- A set of integers. Contracts say which integers it holds, and not how it is kept.
pub record Integers : Type 0 where
  ranges : List Range

abbrev range_code : Coded Range
range_code = code_by (ℤ × ℤ) (coded× coded_ℤ coded_ℤ) (λ r. (r.low, r.high)) (λ p. record { low = p.0; high = p.1 }) (λ _. refl)

abbrev pub integers_code : Coded Integers
integers_code = code_by (List Range) (coded_list range_code) (λ set. set.ranges) (λ rs. record { ranges = rs }) (λ _. refl)

-- that fields of this type may be compared
pub integers_set : IsSet Integers
integers_set = Coded-set integers_code

pub kept_as : List Range → Integers
kept_as rs = record { ranges = rs }

-- whether the set holds the integer; no set holds one below -2^127 or above 2^127-1
pub holds : Integers → ℤ → Bool
holds set x = fits_128_bits x && one_holds set.ranges x

-- whether one of the sets holds the integer
abbrev pub some_holds : List Integers → ℤ → Bool
some_holds sets x = list_any (λ set. holds set x) sets

pub holds_by : (rs : List Range) (x : ℤ) → holds (kept_as rs) x ≡ fits_128_bits x && one_holds rs x
unfolding holds kept_as
holds_by rs x = refl

twice : (fits held : Bool) → fits && held ≡ fits && (fits && held)
twice true held = refl
twice false held = refl

pub only_fitting : (set : Integers) (x : ℤ) → holds set x ≡ fits_128_bits x && holds set x
unfolding holds
only_fitting set x = twice (fits_128_bits x) (one_holds set.ranges x)
