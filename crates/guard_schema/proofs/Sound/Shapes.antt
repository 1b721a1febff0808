-- What is left of a type without its constraints and its defaults: finishing changes nothing of it.
use Rattle.std.proofs.Common.{◌≡◌, ℕ, suc, ◌+◌, Bool, true, false, List, [], ◌∷◌, Option, Some, None, Ok, inl, inr}
use Rattle.std.proofs.Common.{refl}
use Rattle.std.proofs.Common.{sym, ap, ◌∙◌}
use Rattle.guard_model.proofs.Results.{same_Ok}
use Rattle.guard_model.specs.AbstractType as type
use Rattle.guard_model.specs.AbstractType.{AbstractType, AbstractKind, AbstractPresence, Components, Constraint}
use Rattle.guard_model.specs.AbstractType.{type_of}
use Rattle.guard_model.specs.Counts.{component_count}
use Rattle.guard_model.specs.TypeView.{OneComponent}
use Rattle.guard_syntax.specs.declared.tree.Collection.{Collection}
use Rattle.guard_syntax.specs.declared.tree.Collection.TheVariants as collection
use Rattle.guard_syntax.specs.Trees.{WrittenConstraint, WrittenOfConstraint, WrittenPresence, mandatory, optional}
use Rattle.guard_syntax.specs.Trees.{default, WrittenType, type_node, WrittenBase}
use Rattle.guard_syntax.specs.Trees.{structure, choice, of_type, named_type, WrittenComponents}
use Rattle.guard_syntax.specs.Trees.{no_components, component, components_from, WrittenAlternatives, no_alternatives}
use Rattle.guard_syntax.specs.Trees.{alternative}
use Rattle.guard_tagging.specs.Faults.{nodes, nodes_inside, nodes_of_components}
use Rattle.guard_tagging.specs.Types.{structure_kind, of_kind, presence_of, join}
use Rattle.guard_constraints.specs.Visible.{Visible}
use Rattle.guard_schema.specs.Faults.{Outcome}
use Rattle.guard_constraints.specs.Noted.{with_constraint}
use Rattle.guard_schema.specs.Finishing.{put_before, Adds, ConstrainsByOne, ConstrainsElements}
use Rattle.guard_schema.specs.Finishing.{ConstrainsBefore, FillsPresence, FinishesComponent, Finishes}
use Rattle.guard_schema.specs.Finishing.{FinishesKind, Fills, FillsFrom, FillsFromBase, FillsOthers}

abbrev pub shape_of_presence : AbstractPresence → AbstractPresence
shape_of_presence type.mandatory = type.mandatory
shape_of_presence type.optional = type.optional
shape_of_presence type.pending = type.pending
shape_of_presence (type.default v) = type.pending

abbrev mutual
  pub shape : AbstractType → AbstractType
  shape (type_of tags kind cons) = type_of tags (shape_of_kind kind) type.no_constraints

  pub shape_of_kind : AbstractKind → AbstractKind
  shape_of_kind type.boolean = type.boolean
  shape_of_kind (type.integer ns) = type.integer ns
  shape_of_kind (type.bit_string ns) = type.bit_string ns
  shape_of_kind type.octet_string = type.octet_string
  shape_of_kind type.null = type.null
  shape_of_kind type.object_identifier = type.object_identifier
  shape_of_kind (type.enumerated ns) = type.enumerated ns
  shape_of_kind (type.characters k) = type.characters k
  shape_of_kind (type.sequence cs) = type.sequence (shape_of_parts cs)
  shape_of_kind (type.set cs) = type.set (shape_of_parts cs)
  shape_of_kind (type.choice cs) = type.choice (shape_of_parts cs)
  shape_of_kind (type.sequence_of t) = type.sequence_of (shape t)
  shape_of_kind (type.set_of t) = type.set_of (shape t)

  pub shape_of_parts : Components → Components
  shape_of_parts type.no_components = type.no_components
  shape_of_parts (type.component name t presence cs) =
      type.component name (shape t) (shape_of_presence presence) (shape_of_parts cs)

pub count_shape : (cs : Components) → component_count (shape_of_parts cs) ≡ component_count cs
count_shape type.no_components = refl
count_shape (type.component name t presence cs) = ap suc (count_shape cs)

-- the types that it is made of
mutual
  nodes_shape : (t : AbstractType) → nodes (shape t) ≡ nodes t
  nodes_shape (type_of tags kind cons) = ap suc (nodes_inside_shape kind)

  nodes_inside_shape : (kind : AbstractKind) → nodes_inside (shape_of_kind kind) ≡ nodes_inside kind
  nodes_inside_shape (type.sequence cs) = nodes_parts_shape cs
  nodes_inside_shape (type.set cs) = nodes_parts_shape cs
  nodes_inside_shape (type.choice cs) = nodes_parts_shape cs
  nodes_inside_shape (type.sequence_of t) = nodes_shape t
  nodes_inside_shape (type.set_of t) = nodes_shape t
  nodes_inside_shape kind = refl

  nodes_parts_shape : (cs : Components) → nodes_of_components (shape_of_parts cs) ≡ nodes_of_components cs
  nodes_parts_shape type.no_components = refl
  nodes_parts_shape (type.component name t presence cs) =
      ap (λ (n : ℕ). n + nodes_of_components (shape_of_parts cs)) (nodes_shape t)
      ∙ ap (λ (n : ℕ). nodes t + n) (nodes_parts_shape cs)

shape_join : (xs ys : Components) → shape_of_parts (join xs ys) ≡ join (shape_of_parts xs) (shape_of_parts ys)
shape_join type.no_components ys = refl
shape_join (type.component name t presence xs) ys =
    ap (type.component name (shape t) (shape_of_presence presence)) (shape_join xs ys)

shape_structure : (k : Collection) (cs : Components)
    → shape_of_kind (structure_kind k cs) ≡ structure_kind k (shape_of_parts cs)
shape_structure collection.Sequence cs = refl
shape_structure collection.Set cs = refl

shape_element : (k : Collection) (t : AbstractType) → shape_of_kind (of_kind k t) ≡ of_kind k (shape t)
shape_element collection.Sequence t = refl
shape_element collection.Set t = refl

shape_with : (t : AbstractType) (c : Constraint) → shape (with_constraint t c) ≡ shape t
shape_with (type_of tags kind cons) c = refl

-- ---- finishing

module _ (names : Visible) where
  adds_shape : (cs : List WrittenConstraint) (t u : AbstractType) → Adds names cs t (Ok u) → shape u ≡ shape t
  adds_shape [] t u e = ap shape (same_Ok u t e)
  adds_shape (c ∷ cs) t u (inl (v, inl (one, h, e), k)) =
      adds_shape cs v u k ∙ ap shape (same_Ok v (with_constraint t one) e) ∙ shape_with t one
  adds_shape (c ∷ cs) t u (inl (v, inr (f, h, e), k)) = absurd cc
  adds_shape (c ∷ cs) t u (inr (f, h, e)) = absurd cc

  by_one_shape : (c : WrittenOfConstraint) (size : Bool) (t u : AbstractType)
      → ConstrainsByOne names c size t (Ok u) → shape u ≡ shape t
  by_one_shape c true t u (inl (one, h, e)) =
      ap shape (same_Ok u (with_constraint t (type.at c.site (type.size one))) e)
      ∙ shape_with t (type.at c.site (type.size one))
  by_one_shape c true t u (inr (f, h, e)) = absurd cc
  by_one_shape c false t u (inl (one, h, e)) = ap shape (same_Ok u (with_constraint t one) e) ∙ shape_with t one
  by_one_shape c false t u (inr (f, h, e)) = absurd cc

  elements_shape : (c : Option WrittenOfConstraint) (t u : AbstractType) → ConstrainsElements names c t (Ok u)
      → shape u ≡ shape t
  elements_shape None t u e = ap shape (same_Ok u t e)
  elements_shape (Some c) t u h = by_one_shape c c.size t u h

  before_shape : (base : WrittenBase) (t u : AbstractType) → ConstrainsBefore names base t (Ok u) → shape u ≡ shape t
  before_shape (of_type k c w) t u h = elements_shape c t u h
  before_shape (named_type site name) t u (inl (x, short, e)) = ap shape (same_Ok u t e)
  before_shape (named_type site name) t u (inr (f, short, e)) = absurd cc
  before_shape base t u e = ap shape (same_Ok u t e)

  presence_shape : (t : AbstractType) (presence : WrittenPresence) (p : AbstractPresence)
      → FillsPresence names t presence (Ok p) → shape_of_presence p ≡ shape_of_presence (presence_of presence)
  presence_shape t mandatory p e = ap shape_of_presence (same_Ok p type.mandatory e)
  presence_shape t optional p e = ap shape_of_presence (same_Ok p type.optional e)
  presence_shape t (default tree) p (inl (v, h, e)) = ap shape_of_presence (same_Ok p (type.default v) e)
  presence_shape t (default tree) p (inr (f, h, e)) = absurd cc

  module _ (Finish : AbstractType → Outcome AbstractType → Type 0) (presence : WrittenPresence)
      (name : List ℕ) (bare : AbstractType)
      (same : (u : AbstractType) → Finish bare (Ok u) → shape u ≡ shape bare) where
    component_shape : (one : OneComponent) → FinishesComponent names Finish presence name bare (Ok one)
        → (one.name ≡ name) × (shape one.ty ≡ shape bare)
        × (shape_of_presence one.presence ≡ shape_of_presence (presence_of presence))
    component_shape one (inl (u, h, inl (p, k, e))) =
        let is : one ≡ record { name = name; ty = u; presence = p } =
        same_Ok one (record { name = name; ty = u; presence = p }) e in (
          ap (λ (c : OneComponent). c.name) is,
          ap (λ (c : OneComponent). shape c.ty) is
              ∙ same u h,
          ap (λ (c : OneComponent). shape_of_presence c.presence) is ∙ presence_shape u presence p k,
        )
    component_shape one (inl (u, h, inr (f, k, e))) = absurd cc
    component_shape one (inr (f, h, e)) = absurd cc

  put_shape : (one : OneComponent) (name : List ℕ) (t : AbstractType) (presence : AbstractPresence)
      (others rest : Components)
      → (one.name ≡ name) × (shape one.ty ≡ shape t) × (shape_of_presence one.presence ≡ shape_of_presence presence)
      → shape_of_parts others ≡ shape_of_parts rest
      → shape_of_parts (put_before one others) ≡ shape_of_parts (type.component name t presence rest)
  put_shape one name t presence others rest (a, b, c) e =
      ap (λ (n : List ℕ). type.component n (shape one.ty) (shape_of_presence one.presence) (shape_of_parts others)) a
      ∙ ap (λ (u : AbstractType). type.component name u (shape_of_presence one.presence) (shape_of_parts others)) b
      ∙ ap (λ (p : AbstractPresence). type.component name (shape t) p (shape_of_parts others)) c
      ∙ ap (λ (cs : Components). type.component name (shape t) (shape_of_presence presence) cs) e

  mutual
    pub type_shape : (w : WrittenType) (bare t : AbstractType) → Finishes names w bare (Ok t) → shape t ≡ shape bare
    type_shape (type_node site tags base cs) (type_of ts kind cons) t (inl (k, h, inl (v, b, l))) =
        adds_shape cs v t l ∙ before_shape base (type_of ts k cons) v b
        ∙ ap (λ (x : AbstractKind). type_of ts x type.no_constraints) (kind_shape base kind k h)
    type_shape (type_node site tags base cs) (type_of ts kind cons) t (inl (k, h, inr (f, b, e))) = absurd cc
    type_shape (type_node site tags base cs) (type_of ts kind cons) t (inr (f, h, e)) = absurd cc

    pub kind_shape : (base : WrittenBase) (kind k : AbstractKind) → FinishesKind names base kind (Ok k)
        → shape_of_kind k ≡ shape_of_kind kind
    kind_shape (structure c cs) kind k (bare, is, inl (parts, h, e)) =
        ap shape_of_kind (same_Ok k (structure_kind c parts) e) ∙ shape_structure c parts
        ∙ ap (structure_kind c) (list_shape cs bare parts h) ∙ sym (shape_structure c bare)
        ∙ ap shape_of_kind (sym is)
    kind_shape (structure c cs) kind k (bare, is, inr (f, h, e)) = absurd cc
    kind_shape (choice others) kind k (bare, is, inl (parts, h, e)) =
        ap shape_of_kind (same_Ok k (type.choice parts) e) ∙ ap type.choice (others_shape others bare parts h)
        ∙ ap shape_of_kind (sym is)
    kind_shape (choice others) kind k (bare, is, inr (f, h, e)) = absurd cc
    kind_shape (of_type c o w) kind k (bare, is, inl (u, h, e)) =
        ap shape_of_kind (same_Ok k (of_kind c u) e) ∙ shape_element c u ∙ ap (of_kind c) (type_shape w bare u h)
        ∙ sym (shape_element c bare) ∙ ap shape_of_kind (sym is)
    kind_shape (of_type c o w) kind k (bare, is, inr (f, h, e)) = absurd cc
    kind_shape base kind k e = ap shape_of_kind (same_Ok k kind e)

    pub list_shape : (cs : WrittenComponents) (bare parts : Components) → Fills names cs bare (Ok parts)
        → shape_of_parts parts ≡ shape_of_parts bare
    list_shape no_components bare parts (is, e) =
        ap shape_of_parts (same_Ok parts type.no_components e) ∙ ap shape_of_parts (sym is)
    list_shape (component site name t presence cs) bare parts (u, rest, is, inl (one, h, inl (others, k, e))) =
        ap shape_of_parts (same_Ok parts (put_before one others) e)
        ∙ put_shape one name u (presence_of presence) others rest
        (component_shape (Finishes names t) presence name u (type_shape t u) one h)
        (list_shape cs rest others k)
        ∙ ap shape_of_parts (sym is)
    list_shape (component site name t presence cs) bare parts (u, rest, is, inl (one, h, inr (f, k, e))) = absurd cc
    list_shape (component site name t presence cs) bare parts (u, rest, is, inr (f, h, e)) = absurd cc
    list_shape (components_from site t cs) bare parts (taken, rest, is, n, inl (first, h, inl (others, k, e))) =
        ap shape_of_parts (same_Ok parts (join first others) e) ∙ shape_join first others
        ∙ ap (λ (x : Components). join x (shape_of_parts others)) (from_shape t taken first h)
        ∙ ap (λ (x : Components). join (shape_of_parts taken) x) (list_shape cs rest others k)
        ∙ sym (shape_join taken rest) ∙ ap shape_of_parts (sym is)
    list_shape (components_from site t cs) bare parts (taken, rest, is, n, inl (first, h, inr (f, k, e))) = absurd cc
    list_shape (components_from site t cs) bare parts (taken, rest, is, n, inr (f, h, e)) = absurd cc

    from_shape : (t : WrittenType) (taken parts : Components) → FillsFrom names t taken (Ok parts)
        → shape_of_parts parts ≡ shape_of_parts taken
    from_shape (type_node site tags base cs) taken parts h = from_base_shape base taken parts h

    from_base_shape : (base : WrittenBase) (taken parts : Components) → FillsFromBase names base taken (Ok parts)
        → shape_of_parts parts ≡ shape_of_parts taken
    from_base_shape (structure k cs) taken parts h = list_shape cs taken parts h
    from_base_shape (named_type site name) taken parts (t, is, same, e) = ap shape_of_parts (same_Ok parts taken e)
    from_base_shape base taken parts h = absurd h

    pub others_shape : (others : WrittenAlternatives) (bare parts : Components)
        → FillsOthers names others bare (Ok parts) → shape_of_parts parts ≡ shape_of_parts bare
    others_shape no_alternatives bare parts (is, e) =
        ap shape_of_parts (same_Ok parts type.no_components e) ∙ ap shape_of_parts (sym is)
    others_shape (alternative site name t others) bare parts (u, rest, is, inl (one, h, inl (more, k, e))) =
        ap shape_of_parts (same_Ok parts (put_before one more) e)
        ∙ put_shape one name u type.mandatory more rest
        (component_shape (Finishes names t) mandatory name u (type_shape t u) one h)
        (others_shape others rest more k)
        ∙ ap shape_of_parts (sym is)
    others_shape (alternative site name t others) bare parts (u, rest, is, inl (one, h, inr (f, k, e))) = absurd cc
    others_shape (alternative site name t others) bare parts (u, rest, is, inr (f, h, e)) = absurd cc

-- so as many types as before
pub finished_nodes : (names : Visible) (w : WrittenType) (bare t : AbstractType) → Finishes names w bare (Ok t)
    → nodes t ≡ nodes bare
finished_nodes names w bare t h = sym (nodes_shape t) ∙ ap nodes (type_shape names w bare t h) ∙ nodes_shape bare
