-- Components with their automatic tags, as they are read one after another, are those of the definition.
use Rattle.std.proofs.Common.{◌≡◌, Bool, true, false, ℕ, suc, ◌+◌, ◌<◌, ◌≤◌, List, [], ◌∷◌, ◌++◌, length, refl, ap, ◌∙◌, arith}
use Rattle.std.specs.Prelude.{max, min}
use Rattle.guard_model.specs.AbstractType as type
use Rattle.guard_model.specs.AbstractType.{AbstractType, Components, type_of}
use Rattle.guard_model.specs.Counts.{component_count}
use Rattle.guard_model.specs.TypeView.{OneComponent, components_of}
use Rattle.guard_model.specs.declared.tag.Tag.{Tag}
use Rattle.guard_model.specs.Limits.{most_components}
use Rattle.guard_tagcheck.specs.Limits.{nesting, deepest}
use Rattle.guard_tagging.specs.Faults.{nodes, nodes_of_components}
use Rattle.guard_tagging.specs.inside.ReadParts.{place_tag, listed}
use Rattle.guard_tagging.specs.Tagging.{is_untagged_choice, put_tag, automatic_tag, with_automatic_tag, with_automatic_tags}
use Rattle.guard_tagging.specs.Types.{tagged_where, join}
use Rattle.guard_tagging.proofs.TagLists.WrittenTags.{with_automatic}

-- the components from a place on, with their automatic tags as they are read
abbrev pub tagged_from : Bool → ℕ → Components → Components
tagged_from automatic place type.no_components = type.no_components
tagged_from automatic place (type.component name t presence cs) =
    type.component name (with_automatic (place_tag automatic place) t) presence (tagged_from automatic (suc place) cs)

-- ---- lists of components

pub listed_forth : (cs : Components) → components_of (listed cs) ≡ cs
listed_forth type.no_components = refl
listed_forth (type.component name t presence cs) = ap (type.component name t presence) (listed_forth cs)

pub listed_count : (automatic : Bool) (place : ℕ) (cs : Components)
    → length (listed (tagged_from automatic place cs)) ≡ component_count cs
listed_count automatic place type.no_components = refl
listed_count automatic place (type.component name t presence cs) = ap suc (listed_count automatic (suc place) cs)

pub listed_join : (a b : Components) → listed (join a b) ≡ listed a ++ listed b
listed_join type.no_components b = refl
listed_join (type.component name t presence a) b =
    ap (λ (cs : List OneComponent). record { name = name; ty = t; presence = presence } ∷ cs) (listed_join a b)

max_assoc : (a b c : ℕ) → max a (max b c) ≡ max (max a b) c
max_assoc a b c = omega arith

pub deepest_join : (a b : Components) → deepest (join a b) ≡ max (deepest a) (deepest b)
deepest_join type.no_components b = let e : deepest b ≡ max 0 (deepest b) = omega arith in e
deepest_join (type.component name t presence a) b =
    ap (max (nesting t)) (deepest_join a b) ∙ max_assoc (nesting t) (deepest a) (deepest b)

plus_assoc : (a b c : ℕ) → a + (b + c) ≡ (a + b) + c
plus_assoc a b c = omega arith

pub nodes_join : (a b : Components) → nodes_of_components (join a b) ≡ nodes_of_components a + nodes_of_components b
nodes_join type.no_components b = let e : nodes_of_components b ≡ 0 + nodes_of_components b = omega arith in e
nodes_join (type.component name t presence a) b =
    ap (λ (n : ℕ). nodes t + n) (nodes_join a b) ∙ plus_assoc (nodes t) (nodes_of_components a) (nodes_of_components b)

-- ---- without automatic tags

pub tagged_not : (place : ℕ) (cs : Components) → tagged_from false place cs ≡ cs
tagged_not place type.no_components = refl
tagged_not place (type.component name t presence cs) = ap (type.component name t presence) (tagged_not (suc place) cs)

-- ---- with them

within : (place : ℕ) → place < most_components → min place most_components ≡ place
within place lt = omega (arith, lt)

pub tagged_all : (place : ℕ) (cs : Components) → place + component_count cs ≤ most_components
    → tagged_from true place cs ≡ with_automatic_tags place cs
tagged_all place type.no_components le = refl
tagged_all place (type.component name t presence cs) le =
    let lt : place < most_components = omega (arith, le) in
    let others = tagged_all (suc place) cs (omega (arith, le)) in
    λ i. type.component name (with_automatic_tag (automatic_tag (within place lt i)) t) presence (others i)

pub tagged_is : (automatic : Bool) (cs : Components) → component_count cs ≤ most_components
    → tagged_from automatic 0 cs ≡ tagged_where automatic cs
tagged_is true cs le = tagged_all 0 cs (omega (arith, le))
tagged_is false cs le = tagged_not 0 cs

-- ---- tags change no number of types

put_nodes : (explicit : Bool) (tag : Tag) (t : AbstractType) → nodes (put_tag explicit tag t) ≡ nodes t
put_nodes true tag (type_of tags kind cons) = refl
put_nodes false tag (type_of [] kind cons) = refl
put_nodes false tag (type_of (outermost ∷ tags) kind cons) = refl

automatic_nodes : (place : ℕ) (cs : Components)
    → nodes_of_components (with_automatic_tags place cs) ≡ nodes_of_components cs
automatic_nodes place type.no_components = refl
automatic_nodes place (type.component name t presence cs) =
    λ i. put_nodes (is_untagged_choice t) (automatic_tag place) t i + automatic_nodes (suc place) cs i

pub tagged_nodes : (automatic : Bool) (cs : Components)
    → nodes_of_components (tagged_where automatic cs) ≡ nodes_of_components cs
tagged_nodes true cs = automatic_nodes 0 cs
tagged_nodes false cs = refl

automatic_count : (place : ℕ) (cs : Components) → component_count (with_automatic_tags place cs) ≡ component_count cs
automatic_count place type.no_components = refl
automatic_count place (type.component name t presence cs) = ap suc (automatic_count (suc place) cs)

pub tagged_count : (automatic : Bool) (cs : Components)
    → component_count (tagged_where automatic cs) ≡ component_count cs
tagged_count true cs = automatic_count 0 cs
tagged_count false cs = refl
