-- Nodes that aren't there yet, beside those that are.
use Rattle.std.specs.Prelude.{ℕ, List, [], ◌∷◌, ⊤}
use Rattle.guard_tables.specs.declared.new_nodes.Node.{Node}
use Rattle.guard_tables.specs.Plan.{Plan, Parts, part}
use Rattle.guard_tables.specs.TableNodes.{Spot, spot_of, IsNode}

abbrev pub plan_of_node : Node → List Spot → Plan
plan_of_node n spots = (spot_of n.hot n.cold spots).plan

-- what they stand for beside these
abbrev pub spots_at : List Spot → List Node → List Spot
spots_at spots [] = []
spots_at spots (n ∷ ns) = spot_of n.hot n.cold spots ∷ spots_at spots ns

-- each of them may come at this place
abbrev pub AreNodes : List Node → List Spot → ℕ → Type 0
AreNodes [] spots k = ⊤
AreNodes (n ∷ ns) spots k = IsNode n.hot n.cold spots k × AreNodes ns spots k

-- these parts, and then those
abbrev pub parts_then : List Spot → Parts → Parts
parts_then [] ps = ps
parts_then (s ∷ ss) ps = part s.side s.plan (parts_then ss ps)
