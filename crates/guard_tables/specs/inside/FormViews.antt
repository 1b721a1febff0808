-- What is asked so far at a node, without where it lies in memory.
use Rattle.std.specs.Prelude.{◌≤◌, List, length, map}
use Rattle.guard_tables.specs.declared.formulas.Tests.{Tests}
use Rattle.guard_tables.specs.declared.node.Form as node
use Rattle.guard_tables.specs.Demands.{SlotDemand}
use Rattle.guard_tables.specs.Forms.{Formula, conjoined, forms_from, nothing_yet}
use Rattle.guard_tables.specs.NodeViews.{form_view}
use Rattle.guard_tables.specs.inside.DemandViews.{terms_view}

-- with these formulas
abbrev pub formula_of : Tests → List node.Form → Formula
formula_of t ws = record { terms = terms_view t.terms.items; forms = map form_view ws; next = t.next }

-- a node has room for all slots that these take
abbrev pub RoomFor : List SlotDemand → Type 0
RoomFor demands =
    ((conjoined demands (nothing_yet (length demands))).next ≤ 256)
    × ((forms_from 0 demands (nothing_yet (length demands))).next ≤ 256)
