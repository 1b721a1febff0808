-- What a tree makes of a bare type, it makes of it also where more names mean something.
use Rattle.std.proofs.Common.{◌≡◌, ℕ, suc, ◌+◌, Bool, true, false, List, [], ◌∷◌, Option, Some, None, Ok, inl, inr}
use Rattle.std.proofs.Common.{refl, sym, ap, ◌∙◌}
use Rattle.guard_model.specs.AbstractType.{AbstractType, AbstractKind, AbstractPresence, Components, type_of}
use Rattle.guard_model.specs.AbstractValue.{AbstractValue}
use Rattle.guard_model.specs.Kinds.{type_of_size}
use Rattle.guard_model.specs.TypeView.{OneComponent}
use Rattle.guard_syntax.specs.Trees.{WrittenValue, WrittenConstraint, WrittenOfConstraint, WrittenPresence, mandatory}
use Rattle.guard_syntax.specs.Trees.{optional, default, WrittenType, type_node, WrittenBase}
use Rattle.guard_syntax.specs.Trees.{structure, choice, of_type, named_type, WrittenComponents}
use Rattle.guard_syntax.specs.Trees.{no_components, component, components_from, WrittenAlternatives, no_alternatives}
use Rattle.guard_syntax.specs.Trees.{alternative}
use Rattle.guard_constraints.specs.Visible.{Visible}
use Rattle.guard_schema.specs.Faults.{Outcome}
use Rattle.guard_schema.specs.Readings.{ReadsMember}
use Rattle.guard_schema.specs.Finishing.{count_of_meant, count_written, count_put_in, count_within, AddsOne, Adds}
use Rattle.guard_schema.specs.Finishing.{Sizes, ConstrainsByOne, ConstrainsElements, ConstrainsBefore, FillsPresence}
use Rattle.guard_schema.specs.Finishing.{FinishesComponent, Finishes, FinishesKind}
use Rattle.guard_schema.specs.Finishing.{Fills, FillsFrom, FillsFromBase, FillsOthers}
use Rattle.guard_schema.proofs.Throughout.Values.{Grows, value_grown}
use Rattle.guard_schema.proofs.Throughout.Constraints.{constraint_grown}

module _ (a b : Visible) (values : Grows a.values b.values) (types : Grows a.types b.types) where
  -- ---- defaults and constraints

  member_grown : (t : AbstractType) (tree : WrittenValue) (v : AbstractValue) → ReadsMember a t tree (Ok v)
      → ReadsMember b t tree (Ok v)
  member_grown t tree v (inl (w, h, k)) = inl (w, value_grown a.values b.values values t tree w h, k)
  member_grown t tree v (inr (f, h, e)) = absurd cc

  one_grown : (c : WrittenConstraint) (t u : AbstractType) → AddsOne a c t (Ok u) → AddsOne b c t (Ok u)
  one_grown c t u (inl (one, h, e)) = inl (one, constraint_grown a b values types t c one h, e)
  one_grown c t u (inr (f, h, e)) = absurd cc

  adds_grown : (cs : List WrittenConstraint) (t u : AbstractType) → Adds a cs t (Ok u) → Adds b cs t (Ok u)
  adds_grown [] t u h = h
  adds_grown (c ∷ cs) t u (inl (v, h, k)) = inl (v, one_grown c t v h, adds_grown cs v u k)
  adds_grown (c ∷ cs) t u (inr (f, h, e)) = absurd cc

  sizes_grown : (c : WrittenOfConstraint) (t u : AbstractType) → Sizes a c t (Ok u) → Sizes b c t (Ok u)
  sizes_grown c t u (inl (one, h, e)) = inl (one, constraint_grown a b values types type_of_size c.constraint one h, e)
  sizes_grown c t u (inr (f, h, e)) = absurd cc

  by_one_grown : (c : WrittenOfConstraint) (size : Bool) (t u : AbstractType)
      → ConstrainsByOne a c size t (Ok u) → ConstrainsByOne b c size t (Ok u)
  by_one_grown c true t u h = sizes_grown c t u h
  by_one_grown c false t u h = one_grown c.constraint t u h

  elements_grown : (c : Option WrittenOfConstraint) (t u : AbstractType) → ConstrainsElements a c t (Ok u)
      → ConstrainsElements b c t (Ok u)
  elements_grown None t u h = h
  elements_grown (Some c) t u h = by_one_grown c c.size t u h

  before_grown : (base : WrittenBase) (t u : AbstractType) → ConstrainsBefore a base t (Ok u)
      → ConstrainsBefore b base t (Ok u)
  before_grown (of_type k c w) t u h = elements_grown c t u h
  before_grown base t u h = h

  presence_grown : (t : AbstractType) (presence : WrittenPresence) (p : AbstractPresence)
      → FillsPresence a t presence (Ok p) → FillsPresence b t presence (Ok p)
  presence_grown t mandatory p h = h
  presence_grown t optional p h = h
  presence_grown t (default tree) p (inl (v, h, e)) = inl (v, member_grown t tree v h, e)
  presence_grown t (default tree) p (inr (f, h, e)) = absurd cc

  module _ (F G : AbstractType → Outcome AbstractType → Type 0) (presence : WrittenPresence)
      (name : List ℕ) (bare : AbstractType)
      (to : (u : AbstractType) → F bare (Ok u) → G bare (Ok u)) where
    component_grown : (one : OneComponent) → FinishesComponent a F presence name bare (Ok one)
        → FinishesComponent b G presence name bare (Ok one)
    component_grown one (inl (u, h, inl (p, k, e))) = inl (u, to u h, inl (p, presence_grown u presence p k, e))
    component_grown one (inl (u, h, inr (f, k, e))) = absurd cc
    component_grown one (inr (f, h, e)) = absurd cc

  -- ---- how many components are put in

  mutual
    same_count : (cs : WrittenComponents) (bare parts : Components) → Fills a cs bare (Ok parts)
        → count_written a cs ≡ count_written b cs
    same_count no_components bare parts h = refl
    same_count (component site name t presence cs) bare parts (u, rest, e, inl (one, h, inl (others, k, d))) =
        ap suc (same_count cs rest others k)
    same_count (component site name t presence cs) bare parts (u, rest, e, inl (one, h, inr (f, k, d))) = absurd cc
    same_count (component site name t presence cs) bare parts (u, rest, e, inr (f, h, d)) = absurd cc
    same_count (components_from site t cs) bare parts (taken, rest, e, n, inl (first, h, inl (others, k, d))) =
        ap (λ m. m + count_written a cs) (same_taken t taken first h)
        ∙ ap (λ m. count_put_in b t + m) (same_count cs rest others k)
    same_count (components_from site t cs) bare parts (taken, rest, e, n, inl (first, h, inr (f, k, d))) = absurd cc
    same_count (components_from site t cs) bare parts (taken, rest, e, n, inr (f, h, d)) = absurd cc

    same_taken : (t : WrittenType) (taken parts : Components) → FillsFrom a t taken (Ok parts)
        → count_put_in a t ≡ count_put_in b t
    same_taken (type_node site tags base cs) taken parts h = same_within base taken parts h

    same_within : (base : WrittenBase) (taken parts : Components) → FillsFromBase a base taken (Ok parts)
        → count_within a base ≡ count_within b base
    same_within (structure k cs) taken parts h = same_count cs taken parts h
    same_within (named_type site name) taken parts (t, is, same, e) = ap count_of_meant (is ∙ sym (types name t is))
    same_within base taken parts h = refl

  -- ---- types

  mutual
    pub type_grown : (w : WrittenType) (bare t : AbstractType) → Finishes a w bare (Ok t) → Finishes b w bare (Ok t)
    type_grown (type_node site tags base cs) (type_of ts kind cons) t (inl (k, h, inl (v, before, after))) =
        inl (
          k,
          kind_grown base kind k h,
          inl (
            v,
            before_grown base (type_of ts k cons) v before,
            adds_grown cs v t after,
          ),
        )
    type_grown (type_node site tags base cs) (type_of ts kind cons) t (inl (k, h, inr (f, before, e))) = absurd cc
    type_grown (type_node site tags base cs) (type_of ts kind cons) t (inr (f, h, e)) = absurd cc

    kind_grown : (base : WrittenBase) (kind k : AbstractKind) → FinishesKind a base kind (Ok k)
        → FinishesKind b base kind (Ok k)
    kind_grown (structure c cs) kind k (bare, is, inl (parts, h, e)) =
        (bare, is, inl (parts, fills_grown cs bare parts h, e))
    kind_grown (structure c cs) kind k (bare, is, inr (f, h, e)) = absurd cc
    kind_grown (choice others) kind k (bare, is, inl (parts, h, e)) =
        (bare, is, inl (parts, others_grown others bare parts h, e))
    kind_grown (choice others) kind k (bare, is, inr (f, h, e)) = absurd cc
    kind_grown (of_type c o t) kind k (bare, is, inl (u, h, e)) = (bare, is, inl (u, type_grown t bare u h, e))
    kind_grown (of_type c o t) kind k (bare, is, inr (f, h, e)) = absurd cc
    kind_grown base kind k h = h

    fills_grown : (cs : WrittenComponents) (bare parts : Components) → Fills a cs bare (Ok parts)
        → Fills b cs bare (Ok parts)
    fills_grown no_components bare parts h = h
    fills_grown (component site name t presence cs) bare parts (u, rest, is, inl (one, h, inl (others, k, e))) = (
      u,
      rest,
      is,
      inl (
        one,
        component_grown (Finishes a t) (Finishes b t) presence name u
            (type_grown t u) one h,
        inl (others, fills_grown cs rest others k, e),
      ),
    )
    fills_grown (component site name t presence cs) bare parts (u, rest, is, inl (one, h, inr (f, k, e))) = absurd cc
    fills_grown (component site name t presence cs) bare parts (u, rest, is, inr (f, h, e)) = absurd cc
    fills_grown (components_from site t cs) bare parts (taken, rest, is, n, inl (first, h, inl (others, k, e))) = (
      taken,
      rest,
      is,
      n ∙ same_taken t taken first h,
      inl
          (first, from_grown t taken first h, inl (others, fills_grown cs rest others k, e)),
    )
    fills_grown (components_from site t cs) bare parts (taken, rest, is, n, inl (first, h, inr (f, k, e))) = absurd cc
    fills_grown (components_from site t cs) bare parts (taken, rest, is, n, inr (f, h, e)) = absurd cc

    from_grown : (t : WrittenType) (taken parts : Components) → FillsFrom a t taken (Ok parts)
        → FillsFrom b t taken (Ok parts)
    from_grown (type_node site tags base cs) taken parts h = from_base_grown base taken parts h

    from_base_grown : (base : WrittenBase) (taken parts : Components) → FillsFromBase a base taken (Ok parts)
        → FillsFromBase b base taken (Ok parts)
    from_base_grown (structure k cs) taken parts h = fills_grown cs taken parts h
    from_base_grown (named_type site name) taken parts (t, is, same, e) = (t, types name t is, same, e)
    from_base_grown base taken parts h = h

    others_grown : (others : WrittenAlternatives) (bare parts : Components) → FillsOthers a others bare (Ok parts)
        → FillsOthers b others bare (Ok parts)
    others_grown no_alternatives bare parts h = h
    others_grown (alternative site name t others) bare parts (u, rest, is, inl (one, h, inl (more, k, e))) = (
      u,
      rest,
      is,
      inl (
        one,
        component_grown (Finishes a t) (Finishes b t) mandatory name u
            (type_grown t u) one h,
        inl (more, others_grown others rest more k, e),
      ),
    )
    others_grown (alternative site name t others) bare parts (u, rest, is, inl (one, h, inr (f, k, e))) = absurd cc
    others_grown (alternative site name t others) bare parts (u, rest, is, inr (f, h, e)) = absurd cc
