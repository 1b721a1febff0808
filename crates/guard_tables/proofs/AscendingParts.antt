-- Components that ascend by their tags, as a loop meets them and as parts are laid for them.
use Rattle.std.proofs.Common.{◌≡◌, ℕ, suc, ◌+◌, ◌<◌, ◌≤◌, Bool, true, false, List, length, get_or, Option, Some, None, refl, sym, ap, ◌∙◌}
use Rattle.std.specs.Prelude.{◌&&◌}
use Rattle.guard_model.specs.declared.tag.Tag.{Tag}
use Rattle.guard_model.specs.declared.ty.Comp.{Comp}
use Rattle.guard_model.specs.declared.ty.Kind.TheViews.{out-Comp}
use Rattle.guard_model.specs.AbstractType.{Components, type_of, no_components, component}
use Rattle.guard_model.specs.TypeView.{type_view}
use Rattle.guard_model.proofs.Components.{left, left_is, none_left}
use Rattle.guard_der.specs.Reading.{follows}
use Rattle.guard_tables.specs.declared.new_nodes.Group.{Group}
use Rattle.guard_tables.specs.declared.new_nodes.Group.TheVariants as group
use Rattle.guard_tables.specs.declared.new_nodes.Node.{Node}
use Rattle.guard_tables.specs.declared.node_list.Builder.{Builder}
use Rattle.guard_tables.specs.Demands.{Term}
use Rattle.guard_tables.specs.Lay.{lay_parts, lay_alternatives}
use Rattle.guard_tables.specs.Plan.{no_parts}
use Rattle.guard_tables.specs.TableNodes.{outer_tag, comes_next, ascend}
use Rattle.guard_tables.specs.Tables.{tags_of}
use Rattle.guard_tables.specs.inside.Ascending.{components_ascend}
use Rattle.guard_tables.specs.inside.Assembled.{parts_in, parts_of_group}

-- ---- one component after the other

-- the one at a place, with this outermost tag, and those after it
abbrev from_one : Option Tag → Option Tag → List Comp → ℕ → Bool
from_one last tag comps i = comes_next last tag && components_ascend tag (left comps (i + 1))

one_more : (comps : List Comp) (i : ℕ) (comp : Comp) (last tag : Option Tag) (all : Bool) → i < length comps → comp ≡ get_or comps i comp → tag ≡ outer_tag (tags_of (type_view (out-Comp comp).ty))
    → components_ascend last (left comps i) ≡ all → from_one last tag comps i ≡ all
one_more comps i comp last tag all lt is same so_far =
    ap (λ (tag : Option Tag). from_one last tag comps i) same ∙ ap (λ (cs : Components). components_ascend last cs) (sym (left_is comps i comp lt is)) ∙ so_far

pub without_tag : (comps : List Comp) (i : ℕ) (comp : Comp) (last tag : Option Tag) (all : Bool) → i < length comps → comp ≡ get_or comps i comp → tag ≡ outer_tag (tags_of (type_view (out-Comp comp).ty))
    → tag ≡ None → components_ascend last (left comps i) ≡ all → false ≡ all
without_tag comps i comp last tag all lt is same none so_far =
    ap (λ (tag : Option Tag). from_one last tag comps i) (sym none) ∙ one_more comps i comp last tag all lt is same so_far

pub before_last : (comps : List Comp) (i : ℕ) (comp : Comp) (last tag : Option Tag) (own : Tag) (all : Bool) → i < length comps → comp ≡ get_or comps i comp → tag ≡ outer_tag (tags_of (type_view (out-Comp comp).ty))
    → tag ≡ Some own → follows last own ≡ false → components_ascend last (left comps i) ≡ all → false ≡ all
before_last comps i comp last tag own all lt is same some low so_far =
    ap (λ (b : Bool). b && components_ascend (Some own) (left comps (i + 1))) (sym low)
    ∙ ap (λ (tag : Option Tag). from_one last tag comps i) (sym some) ∙ one_more comps i comp last tag all lt is same so_far

pub after_last : (comps : List Comp) (i : ℕ) (comp : Comp) (last tag : Option Tag) (own : Tag) (all : Bool) → i < length comps → comp ≡ get_or comps i comp → tag ≡ outer_tag (tags_of (type_view (out-Comp comp).ty))
    → tag ≡ Some own → follows last own ≡ true → components_ascend last (left comps i) ≡ all → components_ascend (Some own) (left comps (i + 1)) ≡ all
after_last comps i comp last tag own all lt is same some high so_far =
    ap (λ (b : Bool). b && components_ascend (Some own) (left comps (i + 1))) (sym high)
    ∙ ap (λ (tag : Option Tag). from_one last tag comps i) (sym some) ∙ one_more comps i comp last tag all lt is same so_far

pub all_ascend : (comps : List Comp) (i : ℕ) (last : Option Tag) (all : Bool) → length comps ≤ i → components_ascend last (left comps i) ≡ all → true ≡ all
all_ascend comps i last all past so_far = ap (λ (cs : Components). components_ascend last cs) (sym (none_left comps i past)) ∙ so_far

-- ---- the parts that are laid for them

listed_ascend : (last : Option Tag) (i : ℕ) (cs : Components) (terms : List Term) → ascend last (lay_parts i cs terms) ≡ components_ascend last cs
listed_ascend last i no_components terms = refl
listed_ascend last i (component name (type_of tags kind cons) presence cs) terms =
    ap (λ (b : Bool). comes_next last (outer_tag tags) && b) (listed_ascend (outer_tag tags) (suc i) cs terms)

chosen_ascend : (last : Option Tag) (i : ℕ) (cs : Components) (terms : List Term) → ascend last (lay_alternatives i cs terms) ≡ components_ascend last cs
chosen_ascend last i no_components terms = refl
chosen_ascend last i (component name (type_of tags kind cons) presence cs) terms =
    ap (λ (b : Bool). comes_next last (outer_tag tags) && b) (chosen_ascend (outer_tag tags) (suc i) cs terms)

group_ascends : (g : Group) (cs : Components) (terms : List Term) → ascend None (parts_of_group g 0 cs terms) ≡ components_ascend None cs
group_ascends group.Series cs terms = listed_ascend None 0 cs terms
group_ascends group.Set cs terms = listed_ascend None 0 cs terms
group_ascends group.Choice cs terms = chosen_ascend None 0 cs terms

pub laid_ascend : (b : Builder) (ns : List Node) (g : Group) (cs : Components) (terms : List Term) → parts_in b ns no_parts ≡ parts_of_group g 0 cs terms
    → ascend None (parts_in b ns no_parts) ≡ components_ascend None cs
laid_ascend b ns g cs terms stand = ap (ascend None) stand ∙ group_ascends g cs terms
