-- The integers that are written (X.680 clause 19).
use Rattle.std.specs.Prelude.{ℕ, zero, suc, ℤ, pos, negsuc, Bool, true, false}
use Rattle.guard_lexer.specs.Items.{number_value}
use Rattle.guard_syntax.specs.Trees.{WrittenNumber}

-- the number, or what it is with a minus sign before it
abbrev pub signed : Bool → ℕ → ℤ
signed false n = pos n
signed true zero = pos 0
signed true (suc n) = negsuc n

-- SignedNumber ::= number | "-" number (X.680 19.1)
abbrev pub number_of : WrittenNumber → ℤ
number_of n = signed n.minus (number_value n.digits)
