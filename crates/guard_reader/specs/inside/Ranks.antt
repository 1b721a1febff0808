-- First octets whatever the form that they say: tags of one octet ascend with them (X.690 8.1.2).
use Rattle.std.specs.Prelude.{ℕ, ◌+◌, ◌<◌, ◌≤◌, List, [], ◌∷◌, bit_and}
use Rattle.guard_tables.specs.NodesView.{spots_in}
use Rattle.guard_tables.specs.TableNodes.{spot_at}
use Rattle.guard_tables.specs.declared.node_list.Nodes.{Nodes}
use Rattle.guard_reader.specs.Judging.{identifier_in, other_in}

abbrev pub rank : ℕ → ℕ
rank o = bit_and o 223

abbrev pub rank_of : List ℕ → ℕ
rank_of [] = 0
rank_of (o ∷ os) = rank o

abbrev pub IsLow : ℕ → ℕ → Type 0
IsLow o floor = (o < 256) × (rank o ≤ floor)

-- the node's identifier octets have at most this rank
abbrev pub IsBelow : Nodes → ℕ → ℕ → Type 0
IsBelow t k floor =
    IsLow (identifier_in (spot_at (spots_in t) k).plan) floor
    × IsLow (other_in (spot_at (spots_in t) k).plan) floor

-- so many from the first on
abbrev pub AreBelow : Nodes → ℕ → ℕ → ℕ → Type 0
AreBelow t first below floor = (k : ℕ) → first ≤ k → k < first + below → IsBelow t k floor
