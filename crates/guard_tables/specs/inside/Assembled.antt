-- How nodes are put together for a type and what is asked of it: each step adds nodes, and answers one that isn't
-- there yet.
use Rattle.std.specs.Prelude.{◌≤◌, ℕ, suc, ◌+◌, ◌≡◌, Bool, true, false, IsTrue, List, [], ◌++◌, map, length, ⊤, ℤ}
use Rattle.guard_model.specs.AbstractType as type
use Rattle.guard_model.specs.AbstractType.{AbstractType, AbstractKind, Components, no_components, component}
use Rattle.guard_model.specs.Counts.{component_count}
use Rattle.guard_model.specs.Kinds.{kind_of}
use Rattle.guard_model.specs.Limits.{most_components}
use Rattle.guard_model.specs.TypeView.{OneComponent}
use Rattle.guard_der.specs.Sound.{is_sound, is_proper_presence}
use Rattle.guard_tables.specs.declared.new_nodes.Group.{Group}
use Rattle.guard_tables.specs.declared.new_nodes.Group.TheVariants as group
use Rattle.guard_tables.specs.declared.new_nodes.Elements.{Elements}
use Rattle.guard_tables.specs.declared.new_nodes.Elements.TheVariants as elements
use Rattle.guard_tables.specs.declared.new_nodes.Node.{Node}
use Rattle.guard_tables.specs.declared.node_list.Assembled.{Assembled}
use Rattle.guard_tables.specs.declared.node_list.Builder.{Builder}
use Rattle.guard_tables.specs.Apt.{AreApt, AllSpeak}
use Rattle.guard_tables.specs.Demands.{SlotDemand, Term}
use Rattle.guard_tables.specs.OfParts.{each_of, within_of, terms_at, NeedsFew}
use Rattle.guard_tables.specs.Lay.{lay_parts, lay_alternatives, side_for, side_chosen}
use Rattle.guard_tables.specs.Plan.{Plan, Body, Parts, Side, series, set, choice, list, set_of}
use Rattle.guard_tables.specs.TableNodes.{Spot, spot_of, spots_of, spot_at}
use Rattle.guard_tables.specs.inside.FormViews.{RoomFor}
use Rattle.guard_tables.specs.inside.DemandsOfParts.{PartAsked}
use Rattle.guard_tables.specs.inside.Aside.{plan_of_node, spots_at, AreNodes, parts_then}

-- what the nodes so far stand for
abbrev pub spots_so_far : Builder → List Spot
spots_so_far b = spots_of b.hots.items b.colds.items

-- ---- what a step adds

-- more nodes after those that were there
pub record Grows (before after : Builder) : Type 0 where
  pub more : List Spot
  pub grown : spots_so_far after ≡ spots_so_far before ++ more

abbrev pub plan_in : Assembled → Plan
plan_in l = plan_of_node l.node (spots_so_far l.builder)

-- the node that isn't there yet stands for this plan
pub record Lays (before : Builder) (l : Assembled) (p : Plan) : Type 0 where
  pub grows : Grows before l.builder
  pub stands : plan_in l ≡ p

-- the node that wasn't with the others is with them now, and the last one
pub record Stacks (l : Assembled) (after : Builder) : Type 0 where
  pub grows : Grows l.builder after
  pub count : length after.hots.items ≡ length l.builder.hots.items + 1
  pub stands : (spot_at (spots_so_far after) (length l.builder.hots.items)).plan ≡ plan_in l

-- the node that isn't there yet is a part of which this is said, and stands for this plan
pub record LaysPart (before : Builder) (l : Assembled) (side : Side) (p : Plan) : Type 0 where
  pub grows : Grows before l.builder
  pub stands : spot_of l.node.hot l.node.cold (spots_so_far l.builder) ≡ record { side = side; plan = p }

-- the parts that these nodes stand for, and then those
abbrev pub parts_in : Builder → List Node → Parts → Parts
parts_in b nodes ps = parts_then (spots_at (spots_so_far b) nodes) ps

-- each of them may come next
abbrev pub MayCome : Builder → List Node → Type 0
MayCome b nodes = AreNodes nodes (spots_so_far b) (length b.hots.items)

-- ---- nodes with parts

abbrev pub body_of_group : Group → Parts → Body
body_of_group group.Series ps = series ps
body_of_group group.Set ps = set ps
body_of_group group.Choice ps = choice ps

-- whether only one of the parts is there
abbrev pub is_exclusive : Group → Bool
is_exclusive group.Series = false
is_exclusive group.Set = false
is_exclusive group.Choice = true

abbrev pub parts_of_group : Group → ℕ → Components → List Term → Parts
parts_of_group group.Series i cs terms = lay_parts i cs terms
parts_of_group group.Set i cs terms = lay_parts i cs terms
parts_of_group group.Choice i cs terms = lay_alternatives i cs terms

abbrev pub body_of_elements : Elements → Plan → Body
body_of_elements elements.List p = list p
body_of_elements elements.SetOf p = set_of p

-- what is said of a part of which this is asked
abbrev pub side_of_part : Group → OneComponent → PartAsked → Plan → Side
side_of_part group.Series c asked p = side_for c.ty c.presence p asked.absent asked.present
side_of_part group.Set c asked p = side_for c.ty c.presence p asked.absent asked.present
side_of_part group.Choice c asked p = side_chosen asked.present

-- the numbers of the items of an ENUMERATED
abbrev pub item_numbers : AbstractKind → List ℤ
item_numbers (type.enumerated items) = map (λ n. n.number) items
item_numbers type.boolean = []
item_numbers (type.integer names) = []
item_numbers (type.bit_string names) = []
item_numbers type.octet_string = []
item_numbers type.null = []
item_numbers type.object_identifier = []
item_numbers (type.characters k) = []
item_numbers (type.sequence cs) = []
item_numbers (type.set cs) = []
item_numbers (type.choice cs) = []
item_numbers (type.sequence_of t) = []
item_numbers (type.set_of t) = []

-- ---- what has to hold of a type and of what is asked of it

pub record MayBeLaid (t : AbstractType) (demands : List SlotDemand) : Type 0 where
  pub sound : IsTrue (is_sound t)
  pub apt : AreApt (kind_of t) demands
  pub room : NeedsFew t demands

-- of these components or alternatives, the first of which is at this place
abbrev pub PartsMayBeLaid : ℕ → Components → List Term → Type 0
PartsMayBeLaid i no_components terms = ⊤
PartsMayBeLaid i (component name t presence cs) terms =
    MayBeLaid t (within_of i terms) × IsTrue (is_proper_presence t presence) × PartsMayBeLaid (suc i) cs terms

abbrev pub KindMayBeLaid : AbstractKind → List Term → Type 0
KindMayBeLaid (type.sequence cs) terms = (component_count cs ≤ most_components) × PartsMayBeLaid 0 cs terms
KindMayBeLaid (type.set cs) terms = (component_count cs ≤ most_components) × PartsMayBeLaid 0 cs terms
KindMayBeLaid (type.choice cs) terms = (component_count cs ≤ most_components) × PartsMayBeLaid 0 cs terms
KindMayBeLaid (type.sequence_of t) terms = MayBeLaid t (each_of terms)
KindMayBeLaid (type.set_of t) terms = MayBeLaid t (each_of terms)
KindMayBeLaid type.boolean terms = ⊤
KindMayBeLaid (type.integer names) terms = ⊤
KindMayBeLaid (type.bit_string names) terms = ⊤
KindMayBeLaid type.octet_string terms = ⊤
KindMayBeLaid type.null terms = ⊤
KindMayBeLaid type.object_identifier terms = ⊤
KindMayBeLaid (type.enumerated items) terms = ⊤
KindMayBeLaid (type.characters k) terms = ⊤

pub record AskedMayBeLaid (kind : AbstractKind) (demands : List SlotDemand) : Type 0 where
  pub speak : AllSpeak kind (terms_at demands)
  pub room : RoomFor demands
  pub parts : KindMayBeLaid kind (terms_at demands)
