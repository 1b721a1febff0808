-- A set and a type where one is allowed.
use Rattle.std.proofs.Common.{◌≡◌, ℕ, suc, ◌-◌, List, ap, arith}
use Rattle.guard_syntax.specs.inside.ReadTokens.{Placed}
use Rattle.guard_syntax.specs.inside.ReadValues.{read_value}
use Rattle.guard_syntax.specs.inside.ReadSets.{read_inner_set, read_set}
use Rattle.guard_syntax.specs.inside.ReadTypes.{read_inner_type, read_type}

pub read_set_above : (levels : ℕ) (ps : List Placed) → (levels ≡ 0 → ⊥) → read_set levels ps ≡ read_inner_set (read_value (levels - 1)) (read_set (levels - 1)) ps
unfolding read_set
read_set_above levels ps above =
    let k : levels ≡ suc (levels - 1) = omega arith in
    ap (λ (n : ℕ). read_set n ps) k

pub read_type_above : (levels : ℕ) (ps : List Placed) → (levels ≡ 0 → ⊥) → read_type levels ps ≡ read_inner_type (read_value (levels - 1)) (read_set (levels - 1)) (read_type (levels - 1)) ps
unfolding read_type
read_type_above levels ps above =
    let k : levels ≡ suc (levels - 1) = omega arith in
    ap (λ (n : ℕ). read_type n ps) k
