-- What the walk takes from a table's nodes.
use Rattle.std.specs.Prelude.{ℕ, ◌≡◌, Bool, true, false, List, get_or, slice_get, Option, Some, None}
use Rattle.guard_model.specs.declared.tag.Tag.{Tag}
use Rattle.guard_tables.specs.declared.node.Hot.{Hot}
use Rattle.guard_tables.specs.declared.node.Kind.{Kind}
use Rattle.guard_tables.specs.declared.node.Kind.TheVariants as kind
use Rattle.guard_tables.specs.declared.node_list.Nodes.{Nodes}
use Rattle.guard_tables.specs.TableNodes.{Spot, spot_at}
use Rattle.guard_reader.specs.Fronts.{front}
use Rattle.guard_reader.specs.Judging.{Pass, Sight, inside_judged}

-- what is at the front of octets, and what is inside the outermost tag, of the node at place k
abbrev pub sight_at : List Spot → ℕ → Sight
sight_at spots k = λ os. front (spot_at spots k).plan os

abbrev pub pass_at : List Spot → ℕ → Pass
pass_at spots k = λ os m. inside_judged (spot_at spots k).plan os m

-- a node in front of another one
abbrev pub has_layers : Kind → Bool
has_layers (kind.Simple k) = false
has_layers kind.Series = false
has_layers kind.Set = false
has_layers kind.Choice = false
has_layers kind.List = false
has_layers kind.SetOf = false
has_layers kind.Wrapper = true
has_layers kind.Asked = true
has_layers kind.Formula = true

abbrev pub is_choice : Kind → Bool
is_choice (kind.Simple k) = false
is_choice kind.Series = false
is_choice kind.Set = false
is_choice kind.Choice = true
is_choice kind.List = false
is_choice kind.SetOf = false
is_choice kind.Wrapper = false
is_choice kind.Asked = false
is_choice kind.Formula = false

abbrev pub is_simple : Kind → Bool
is_simple (kind.Simple k) = true
is_simple kind.Series = false
is_simple kind.Set = false
is_simple kind.Choice = false
is_simple kind.List = false
is_simple kind.SetOf = false
is_simple kind.Wrapper = false
is_simple kind.Asked = false
is_simple kind.Formula = false

-- the tag that a node with this tag puts round another one
abbrev pub tag_round : Kind → Option Tag → Option Tag
tag_round (kind.Simple k) tag = None
tag_round kind.Series tag = None
tag_round kind.Set tag = None
tag_round kind.Choice tag = None
tag_round kind.List tag = None
tag_round kind.SetOf tag = None
tag_round kind.Wrapper tag = tag
tag_round kind.Asked tag = None
tag_round kind.Formula tag = None

-- a node of this kind is there
pub record IsFormula (t : Nodes) (k : ℕ) : Type 0 where
  pub node : Hot
  pub there : slice_get t.hots.items k ≡ Some node
  pub kind : node.kind ≡ kind.Formula

pub record IsAsked (t : Nodes) (k : ℕ) : Type 0 where
  pub node : Hot
  pub there : slice_get t.hots.items k ≡ Some node
  pub kind : node.kind ≡ kind.Asked

pub record IsChoice (t : Nodes) (k : ℕ) : Type 0 where
  pub node : Hot
  pub there : slice_get t.hots.items k ≡ Some node
  pub kind : node.kind ≡ kind.Choice

pub record IsSet (t : Nodes) (k : ℕ) : Type 0 where
  pub node : Hot
  pub there : slice_get t.hots.items k ≡ Some node
  pub kind : node.kind ≡ kind.Set

pub record IsInFront (t : Nodes) (k : ℕ) : Type 0 where
  pub node : Hot
  pub there : slice_get t.hots.items k ≡ Some node
  pub kind : has_layers node.kind ≡ true

-- this node is at place k, if there is one
abbrev pub IsAt : Nodes → ℕ → Hot → Type 0
IsAt t k h = h ≡ get_or t.hots.items k h
