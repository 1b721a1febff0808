-- A set of codes with a table of the first ones: what the table lacks is looked up in the set.
use Rattle.std.specs.Prelude.{ℕ, pos, Bool, get_or}
use Rattle.guard_integers.specs.Integers.{holds}
use Rattle.guard_eval.specs.declared.held_codes.HeldCodes.{HeldCodes}

abbrev pub has_code : HeldCodes → ℕ → Bool
has_code codes c = get_or codes.first c (holds codes.set (pos c))
