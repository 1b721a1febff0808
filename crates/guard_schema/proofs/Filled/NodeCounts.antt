-- Counts that stop at one more than may be held.
use Rattle.std.proofs.Common.{◌≡◌, ℕ, suc, ◌+◌, arith}
use Rattle.std.specs.Prelude.{min}

-- a node, and then those inside it
pub node_then : (before inside one all : ℕ) → one ≡ min (before + 1) 100001 → all ≡ min (one + inside) 100001
    → all ≡ min (before + suc inside) 100001
node_then before inside one all e f = omega (arith, e, f)
