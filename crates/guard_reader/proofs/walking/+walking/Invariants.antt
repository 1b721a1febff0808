use Rattle.std.proofs.Common.{◌≡◌, ◌+◌, ◌-◌, ◌*◌, ◌≤◌, length, [], List, ℕ}
use Rattle.guard_tables.specs.NodesView.{spots_in}
use Rattle.guard_tables.specs.TableNodes.{body_at, parts_between}
use Rattle.guard_reader.specs.Judging.{chosen_judged, contents_judged, fields_judged, elements, ordered}
use Rattle.guard_reader.specs.inside.Members.{AreRead}
use Rattle.guard_reader.specs.inside.NodeParts.{pass_at, sight_at}
use Rattle.guard_reader.specs.inside.Ranks.{AreBelow}
use Rattle.guard_reader.proofs.SetSteps.{members}
use Rattle.guard_reader.proofs.walking.+walking.Given as goal

-- ---- parts stand before wholes

abbrev pub decreases-series::far_fields : goal.decreases-series::far_fields
decreases-series::far_fields l = 16 * (l.first + l.count)

abbrev pub decreases-series::fields : goal.decreases-series::fields
decreases-series::fields l = 16 * (l.first + l.count) + 1

abbrev pub decreases-series::series : goal.decreases-series::series
decreases-series::series l = 16 * (l.first + l.count) + 2

abbrev pub decreases-choices::choice : goal.decreases-choices::choice
decreases-choices::choice l = 16 * l.at

abbrev pub decreases-sets::members : goal.decreases-sets::members
decreases-sets::members l = 16 * l.at

abbrev pub decreases-sets::set : goal.decreases-sets::set
decreases-sets::set l = 16 * l.at + 3

abbrev pub decreases-asked : goal.decreases-asked
decreases-asked l = 16 * l.at

abbrev pub decreases-formula : goal.decreases-formula
decreases-formula l = 16 * l.at

abbrev pub decreases-node_contents : goal.decreases-node_contents
decreases-node_contents l = 16 * l.at + 5

abbrev pub decreases-contents : goal.decreases-contents
decreases-contents l = 16 * l.at + 6

abbrev pub decreases-inner_contents : goal.decreases-inner_contents
decreases-inner_contents l = 16 * l.at + 7

abbrev pub decreases-layered : goal.decreases-layered
decreases-layered l = 16 * l.at + 7

abbrev pub decreases-within_node : goal.decreases-within_node
decreases-within_node l = 16 * l.at + 8

abbrev pub decreases-within_tag : goal.decreases-within_tag
decreases-within_tag l = 16 * l.at + 9

abbrev pub decreases-lists::list : goal.decreases-lists::list
decreases-lists::list l = 16 * l.first + 10

abbrev pub decreases-lists::items : goal.decreases-lists::items
decreases-lists::items l = 16 * l.first + 11

abbrev pub decreases-lists::set_of : goal.decreases-lists::set_of
decreases-lists::set_of l = 16 * l.first + 11

abbrev pub decreases-lists::item : goal.decreases-lists::item
decreases-lists::item l = 16 * l.at + 10

abbrev pub decreases-choices::chosen : goal.decreases-choices::chosen
decreases-choices::chosen l = 16 * l.at + 10

abbrev pub decreases-series::present_node : goal.decreases-series::present_node
decreases-series::present_node l = 16 * l.at + 9

abbrev pub decreases-series::present : goal.decreases-series::present
decreases-series::present l = 16 * l.at + 10

abbrev pub decreases-series::cut_part : goal.decreases-series::cut_part
decreases-series::cut_part l = 16 * l.at + 10

abbrev pub decreases-series::begun_part : goal.decreases-series::begun_part
decreases-series::begun_part l = 16 * l.at + 11

abbrev pub decreases-series::near_part : goal.decreases-series::near_part
decreases-series::near_part l = 16 * l.at + 12

abbrev pub decreases-series::seen_part : goal.decreases-series::seen_part
decreases-series::seen_part l = 16 * l.at + 11

abbrev pub decreases-series::far_part : goal.decreases-series::far_part
decreases-series::far_part l = 16 * l.at + 12

abbrev pub decreases-series::part : goal.decreases-series::part
decreases-series::part l = 16 * l.at + 13

-- ---- what is left is judged as the whole is

abbrev pub invariant-series::fields-loop-k : goal.invariant-series::fields-loop-k
invariant-series::fields-loop-k l = fields_judged (parts_between (spots_in l.table) l.k (l.k-end - l.k)) l.rest l.failed ≡ fields_judged (parts_between (spots_in l.table) l.first l.count) l.fn.inside l.fn.failed

abbrev pub invariant-series::far_fields-loop-k : goal.invariant-series::far_fields-loop-k
invariant-series::far_fields-loop-k l = fields_judged (parts_between (spots_in l.table) l.k (l.k-end - l.k)) l.rest l.failed ≡ fields_judged (parts_between (spots_in l.table) l.first l.count) l.fn.inside l.fn.failed

abbrev pub invariant-choices::choice-loop-k : goal.invariant-choices::choice-loop-k
invariant-choices::choice-loop-k l = chosen_judged (parts_between (spots_in l.table) l.k (l.k-end - l.k)) l.octets l.failed ≡ contents_judged (body_at (spots_in l.table) l.at) l.octets l.fn.failed

abbrev pub invariant-lists::list-loop-rest : goal.invariant-lists::list-loop-rest
invariant-lists::list-loop-rest l = record {
  within : l.at ≤ l.first;
  same : elements (sight_at (spots_in l.table) l.at) (pass_at (spots_in l.table) l.at) l.rest l.failed ≡ elements (sight_at (spots_in l.table) l.first) (pass_at (spots_in l.table) l.first) l.fn.octets l.fn.failed;
}

-- the octets that are left, or an earlier node
abbrev pub decreases-lists::list-loop-rest : goal.decreases-lists::list-loop-rest
decreases-lists::list-loop-rest l = length l.rest + l.at

abbrev pub invariant-lists::set_of-loop-before : goal.invariant-lists::set_of-loop-before
invariant-lists::set_of-loop-before l =
    ordered (sight_at (spots_in l.table) l.first) (pass_at (spots_in l.table) l.first) l.before l.rest l.failed
    ≡ ordered (sight_at (spots_in l.table) l.first) (pass_at (spots_in l.table) l.first) [] l.fn.octets l.fn.failed

abbrev pub decreases-lists::set_of-loop-before : goal.decreases-lists::set_of-loop-before
decreases-lists::set_of-loop-before l = length l.rest

-- which components were read
abbrev pub invariant-sets::members-loop-rest : goal.invariant-sets::members-loop-rest
invariant-sets::members-loop-rest l =
    (places : List ℕ) × AreRead l.read places
    × (members (parts_between (spots_in l.table) l.first l.count) places l.last l.rest l.failed ≡ contents_judged (body_at (spots_in l.table) l.at) l.fn.octets l.fn.failed)
    × (l.below ≤ l.count) × AreBelow l.table l.first l.below l.floor

abbrev pub decreases-sets::members-loop-rest : goal.decreases-sets::members-loop-rest
decreases-sets::members-loop-rest l = length l.rest
