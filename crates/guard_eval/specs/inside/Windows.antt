-- Windows of codes: what is known of a text's characters, one window after the other.
use Rattle.std.specs.Prelude.{ℕ, ◌-◌, Bool, true, ◌||◌, List, get_or, nat_le, nat_lt, Option, Some, None}

-- whether the code is below the begin, or isn't below the next code
abbrev pub is_clear : ℕ → Option ℕ → ℕ → Bool
is_clear begin None c = nat_lt c begin
is_clear begin (Some next) c = nat_lt c begin || nat_le next c

-- whether the code is out of the table, whose first place is that of the first code, or is marked there
abbrev pub is_kept : List Bool → ℕ → ℕ → Bool
is_kept known first c = nat_lt c first || get_or known (c - first) true
