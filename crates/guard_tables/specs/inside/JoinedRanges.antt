-- Ranges to which others are joined, as private contracts cite it.
use Rattle.std.specs.Prelude.{ℕ, Bool, List, nat_le}
use Rattle.std.specs.List.{list_all}

-- each begins at this code or before it
abbrev pub begin_by : ℕ → List (ℕ × ℕ) → Bool
begin_by code rs = list_all (λ r. nat_le r.0 code) rs
