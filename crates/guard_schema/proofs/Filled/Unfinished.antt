-- A finished type without what is filled into it is the bare type.
use Rattle.std.proofs.Common.{◌≡◌, ℕ, zero, suc, ◌+◌, Bool, true, false, List, [], ◌∷◌, Option, Some, None, Ok, inl}
use Rattle.std.proofs.Common.{inr, refl, sym, ap, ◌∙◌, arith}
use Rattle.guard_model.proofs.Results.{same_Ok}
use Rattle.guard_model.specs.declared.site.Site.{Site}
use Rattle.guard_model.specs.AbstractType as type
use Rattle.guard_model.specs.AbstractType.{AbstractType, AbstractKind, AbstractPresence, Components, Constraint}
use Rattle.guard_model.specs.AbstractType.{Constraints, type_of}
use Rattle.guard_model.specs.Counts.{component_count}
use Rattle.guard_model.specs.TypeView.{OneComponent}
use Rattle.guard_syntax.specs.declared.tree.Collection.{Collection}
use Rattle.guard_syntax.specs.declared.tree.Collection.TheVariants as collection
use Rattle.guard_syntax.specs.Trees.{WrittenTag, WrittenConstraint, WrittenOfConstraint, WrittenPresence, mandatory}
use Rattle.guard_syntax.specs.Trees.{optional, default, WrittenType, type_node, WrittenBase}
use Rattle.guard_syntax.specs.Trees.{structure, choice, of_type, named_type, WrittenComponents}
use Rattle.guard_syntax.specs.Trees.{no_components, component, components_from, WrittenAlternatives, no_alternatives}
use Rattle.guard_syntax.specs.Trees.{alternative}
use Rattle.guard_tagging.specs.Types.{Surroundings, structure_kind, of_kind, presence_of, join, denoted}
use Rattle.guard_tagging.proofs.Definitions.Meanings.{same_surroundings}
use Rattle.guard_constraints.specs.Visible.{Visible}
use Rattle.guard_schema.specs.Faults.{Outcome}
use Rattle.guard_schema.specs.Known.{Built, types_of, visible}
use Rattle.guard_constraints.specs.Noted.{add, with_constraint}
use Rattle.guard_schema.specs.Finishing.{put_before, constraint_before, count_of_meant}
use Rattle.guard_schema.specs.Finishing.{count_written, count_put_in, count_within, Adds, ConstrainsByOne}
use Rattle.guard_schema.specs.Finishing.{ConstrainsElements, ConstrainsBefore, FillsPresence, FinishesComponent}
use Rattle.guard_schema.specs.Finishing.{Finishes, FinishesKind, Fills, FillsFrom, FillsFromBase, FillsOthers}
use Rattle.guard_schema.specs.Building.{HasValue}
use Rattle.guard_schema.specs.Unfinished.{without_last, without_written, without_before, first_ones, other_ones}
use Rattle.guard_schema.specs.Unfinished.{with_first, without_default, with_parts, with_element, unfinished}
use Rattle.guard_schema.specs.Unfinished.{unfinished_kind, unfinished_list, unfinished_from, unfinished_from_base}
use Rattle.guard_schema.specs.Unfinished.{unfinished_others, IsBareAgain, IsTaggedAgain}
use Rattle.guard_schema.proofs.Filled.ReadyTypes.{count_join}

-- ---- constraints

last_off : (cs : Constraints) (c : Constraint) → without_last (add cs c) ≡ cs
last_off type.no_constraints c = refl
last_off (type.constraint d type.no_constraints) c = refl
last_off (type.constraint d (type.constraint e es)) c = ap (type.constraint d) (last_off (type.constraint e es) c)

-- the type with other constraints
abbrev with_others : AbstractType → (Constraints → Constraints) → AbstractType
with_others (type_of tags kind cons) change = type_of tags kind (change cons)

one_off : (t : AbstractType) (c : Constraint) → with_others (with_constraint t c) without_last ≡ t
one_off (type_of tags kind cons) c = ap (type_of tags kind) (last_off cons c)

others_twice : (t : AbstractType) (f g : Constraints → Constraints)
    → with_others t (λ cs. g (f cs)) ≡ with_others (with_others t f) g
others_twice (type_of tags kind cons) f g = refl

no_change : (t : AbstractType) → with_others t (λ cs. cs) ≡ t
no_change (type_of tags kind cons) = refl

module _ (names : Visible) where
  adds_off : (cs : List WrittenConstraint) (t u : AbstractType) → Adds names cs t (Ok u)
      → with_others u (without_written cs) ≡ t
  adds_off [] t u e = no_change u ∙ same_Ok u t e
  adds_off (c ∷ cs) t u (inl (v, inl (one, h, e), k)) =
      others_twice u (without_written cs) without_last
      ∙ ap (λ (w : AbstractType). with_others w without_last)
      (adds_off cs v u k ∙ same_Ok v (with_constraint t one) e) ∙ one_off t one
  adds_off (c ∷ cs) t u (inl (v, inr (f, h, e), k)) = absurd cc
  adds_off (c ∷ cs) t u (inr (f, h, e)) = absurd cc

  by_one_off : (c : WrittenOfConstraint) (size : Bool) (t u : AbstractType)
      → ConstrainsByOne names c size t (Ok u) → with_others u without_last ≡ t
  by_one_off c true t u (inl (one, h, e)) =
      ap (λ (w : AbstractType). with_others w without_last)
      (same_Ok u (with_constraint t (type.at c.site (type.size one))) e) ∙ one_off t (type.at c.site (type.size one))
  by_one_off c true t u (inr (f, h, e)) = absurd cc
  by_one_off c false t u (inl (one, k, e)) =
      ap (λ (w : AbstractType). with_others w without_last) (same_Ok u (with_constraint t one) e) ∙ one_off t one
  by_one_off c false t u (inr (f, k, e)) = absurd cc

  elements_off : (c : Option WrittenOfConstraint) (t u : AbstractType) → ConstrainsElements names c t (Ok u)
      → with_others u (without_before c) ≡ t
  elements_off None t u e = no_change u ∙ same_Ok u t e
  elements_off (Some c) t u h = by_one_off c c.size t u h

  before_off : (base : WrittenBase) (t u : AbstractType) → ConstrainsBefore names base t (Ok u)
      → with_others u (without_before (constraint_before base)) ≡ t
  before_off (of_type k c w) t u h = elements_off c t u h
  before_off (named_type site name) t u (inl (x, short, e)) = no_change u ∙ same_Ok u t e
  before_off (named_type site name) t u (inr (f, short, e)) = absurd cc
  before_off base t u e = no_change u ∙ same_Ok u t e

-- ---- components

first_joined : (xs ys : Components) (n : ℕ) → component_count xs ≡ n → first_ones n (join xs ys) ≡ xs
first_joined type.no_components ys zero e = refl
first_joined type.no_components ys (suc n) e = absurd (omega (arith, e))
first_joined (type.component name t presence xs) ys zero e = absurd (omega (arith, e))
first_joined (type.component name t presence xs) ys (suc n) e =
    ap (type.component name t presence) (first_joined xs ys n (omega (arith, e)))

others_joined : (xs ys : Components) (n : ℕ) → component_count xs ≡ n → other_ones n (join xs ys) ≡ ys
others_joined type.no_components ys zero e = refl
others_joined type.no_components ys (suc n) e = absurd (omega (arith, e))
others_joined (type.component name t presence xs) ys zero e = absurd (omega (arith, e))
others_joined (type.component name t presence xs) ys (suc n) e = others_joined xs ys n (omega (arith, e))

module _ (names : Visible) where
  presence_off : (t : AbstractType) (presence : WrittenPresence) (p : AbstractPresence)
      → FillsPresence names t presence (Ok p) → without_default presence p ≡ presence_of presence
  presence_off t mandatory p e = same_Ok p type.mandatory e
  presence_off t optional p e = same_Ok p type.optional e
  presence_off t (default tree) p h = refl

  -- a finished component has its name, its type by its tree, and its default is the one that is written
  module _ (Finish : AbstractType → Outcome AbstractType → Type 0) (change : AbstractType → AbstractType)
      (presence : WrittenPresence) (name : List ℕ) (bare : AbstractType)
      (off : (u : AbstractType) → Finish bare (Ok u) → change u ≡ bare) where
    component_off : (one : OneComponent) → FinishesComponent names Finish presence name bare (Ok one)
        → (one.name ≡ name) × (change one.ty ≡ bare) × (without_default presence one.presence ≡ presence_of presence)
    component_off one (inl (u, h, inl (p, k, e))) =
        let same : one ≡ record { name = name; ty = u; presence = p } =
        same_Ok one (record { name = name; ty = u; presence = p }) e in (
          ap (λ (c : OneComponent). c.name) same,
          ap (λ (c : OneComponent). change c.ty) same
              ∙ off u h,
          ap (λ (c : OneComponent). without_default presence c.presence) same
              ∙ presence_off u presence p k,
        )
    component_off one (inl (u, h, inr (f, k, e))) = absurd cc
    component_off one (inr (f, h, e)) = absurd cc

first_off : (forget : AbstractPresence → AbstractPresence) (q : AbstractPresence) (change : AbstractType → AbstractType)
    (name : List ℕ) (bare : AbstractType) (one : OneComponent)
    → (one.name ≡ name) × (change one.ty ≡ bare) × (forget one.presence ≡ q)
    → (rest : Components) (others : Components → Components) (parts : Components) → others parts ≡ rest
    → with_first change forget others (put_before one parts) ≡ type.component name bare q rest
first_off forget q change name bare one (a, b, c) rest others parts e =
    ap (λ (n : List ℕ). type.component n (change one.ty) (forget one.presence) (others parts)) a
    ∙ ap (λ (t : AbstractType). type.component name t (forget one.presence) (others parts)) b
    ∙ ap (λ (p : AbstractPresence). type.component name bare p (others parts)) c ∙ ap (type.component name bare q) e

parts_off : (k : Collection) (change : Components → Components) (parts bare : Components) → change parts ≡ bare
    → with_parts change (structure_kind k parts) ≡ structure_kind k bare
parts_off collection.Sequence change parts bare e = ap type.sequence e
parts_off collection.Set change parts bare e = ap type.set e

element_off : (k : Collection) (change : AbstractType → AbstractType) (u bare : AbstractType) → change u ≡ bare
    → with_element change (of_kind k u) ≡ of_kind k bare
element_off collection.Sequence change u bare e = ap type.sequence_of e
element_off collection.Set change u bare e = ap type.set_of e

-- what a list puts in has as many components
module _ (names : Visible) where
  mutual
    list_count : (cs : WrittenComponents) (bare parts : Components) → Fills names cs bare (Ok parts)
        → component_count parts ≡ count_written names cs
    list_count no_components bare parts (e, d) = ap component_count (same_Ok parts type.no_components d)
    list_count (component site name t presence cs) bare parts (u, rest, e, inl (one, h, inl (others, k, d))) =
        ap component_count (same_Ok parts (put_before one others) d) ∙ ap suc (list_count cs rest others k)
    list_count (component site name t presence cs) bare parts (u, rest, e, inl (one, h, inr (f, k, d))) = absurd cc
    list_count (component site name t presence cs) bare parts (u, rest, e, inr (f, h, d)) = absurd cc
    list_count (components_from site t cs) bare parts (taken, rest, e, n, inl (first, h, inl (others, k, d))) =
        ap component_count (same_Ok parts (join first others) d) ∙ count_join first others
        ∙ ap (λ m. m + component_count others) (from_count t taken first h)
        ∙ ap (λ m. count_put_in names t + m) (list_count cs rest others k)
    list_count (components_from site t cs) bare parts (taken, rest, e, n, inl (first, h, inr (f, k, d))) = absurd cc
    list_count (components_from site t cs) bare parts (taken, rest, e, n, inr (f, h, d)) = absurd cc

    from_count : (t : WrittenType) (taken parts : Components) → FillsFrom names t taken (Ok parts)
        → component_count parts ≡ count_put_in names t
    from_count (type_node site tags base cs) taken parts h = from_base_count base taken parts h

    from_base_count : (base : WrittenBase) (taken parts : Components) → FillsFromBase names base taken (Ok parts)
        → component_count parts ≡ count_within names base
    from_base_count (structure k cs) taken parts h = list_count cs taken parts h
    from_base_count (named_type site name) taken parts (t, is, same, e) =
        ap component_count (same_Ok parts taken e ∙ same) ∙ sym (ap count_of_meant is)
    from_base_count base taken parts h = absurd h

-- ---- types

abbrev with_kind : (AbstractKind → AbstractKind) → AbstractType → AbstractType
with_kind change (type_of tags kind cons) = type_of tags (change kind) cons

module _ (names : Visible) where
  unfinished_is : (site : Site) (tags : List WrittenTag) (base : WrittenBase) (cs : List WrittenConstraint)
      (t : AbstractType)
      → unfinished names (type_node site tags base cs) t ≡ with_kind (unfinished_kind names base)
      (with_others (with_others t (without_written cs)) (without_before (constraint_before base)))
  unfinished_is site tags base cs (type_of ts kind cons) = refl

  mutual
    pub type_off : (w : WrittenType) (bare t : AbstractType) → Finishes names w bare (Ok t)
        → unfinished names w t ≡ bare
    type_off (type_node site tags base cs) (type_of ts kind cons) t (inl (k, h, inl (v, b, l))) =
        unfinished_is site tags base cs t
        ∙ ap (λ (w : AbstractType). with_kind (unfinished_kind names base)
        (with_others w (without_before (constraint_before base)))) (adds_off names cs v t l)
        ∙ ap (with_kind (unfinished_kind names base))
        (before_off names base (type_of ts k cons) v b)
        ∙ ap (λ (x : AbstractKind). type_of ts x cons) (kind_off base kind k h)
    type_off (type_node site tags base cs) (type_of ts kind cons) t (inl (k, h, inr (f, b, e))) = absurd cc
    type_off (type_node site tags base cs) (type_of ts kind cons) t (inr (f, h, e)) = absurd cc

    kind_off : (base : WrittenBase) (kind k : AbstractKind) → FinishesKind names base kind (Ok k)
        → unfinished_kind names base k ≡ kind
    kind_off (structure c cs) kind k (bare, is, inl (parts, h, e)) =
        ap (with_parts (unfinished_list names cs)) (same_Ok k (structure_kind c parts) e)
        ∙ parts_off c (unfinished_list names cs) parts bare (list_off cs bare parts h) ∙ sym is
    kind_off (structure c cs) kind k (bare, is, inr (f, h, e)) = absurd cc
    kind_off (choice others) kind k (bare, is, inl (parts, h, e)) =
        ap (with_parts (unfinished_others names others)) (same_Ok k (type.choice parts) e)
        ∙ ap type.choice (others_off others bare parts h) ∙ sym is
    kind_off (choice others) kind k (bare, is, inr (f, h, e)) = absurd cc
    kind_off (of_type c b w) kind k (bare, is, inl (u, h, e)) =
        ap (with_element (unfinished names w)) (same_Ok k (of_kind c u) e)
        ∙ element_off c (unfinished names w) u bare (type_off w bare u h) ∙ sym is
    kind_off (of_type c b w) kind k (bare, is, inr (f, h, e)) = absurd cc
    kind_off base kind k e = same_Ok k kind e

    list_off : (cs : WrittenComponents) (bare parts : Components) → Fills names cs bare (Ok parts)
        → unfinished_list names cs parts ≡ bare
    list_off no_components bare parts (is, e) = same_Ok parts type.no_components e ∙ sym is
    list_off (component site name t presence cs) bare parts (u, rest, is, inl (one, h, inl (others, k, e))) =
        ap (unfinished_list names (component site name t presence cs)) (same_Ok parts (put_before one others) e)
        ∙ first_off (without_default presence) (presence_of presence) (unfinished names t) name u one
        (component_off names (Finishes names t) (unfinished names t) presence name u
        (type_off t u) one h) rest (unfinished_list names cs) others (list_off cs rest others k)
        ∙ sym is
    list_off (component site name t presence cs) bare parts (u, rest, is, inl (one, h, inr (f, k, e))) = absurd cc
    list_off (component site name t presence cs) bare parts (u, rest, is, inr (f, h, e)) = absurd cc
    list_off (components_from site t cs) bare parts (taken, rest, is, n, inl (first, h, inl (others, k, e))) =
        ap (unfinished_list names (components_from site t cs)) (same_Ok parts (join first others) e)
        ∙ ap (λ (x : Components). join (unfinished_from names t x)
        (unfinished_list names cs (other_ones (count_put_in names t) (join first others))))
        (first_joined first others (count_put_in names t) (from_count names t taken first h))
        ∙ ap (λ (x : Components). join (unfinished_from names t first) (unfinished_list names cs x))
        (others_joined first others (count_put_in names t) (from_count names t taken first h))
        ∙ ap (λ (x : Components). join x (unfinished_list names cs others)) (from_off t taken first h)
        ∙ ap (join taken) (list_off cs rest others k)
        ∙ sym is
    list_off (components_from site t cs) bare parts (taken, rest, is, n, inl (first, h, inr (f, k, e))) = absurd cc
    list_off (components_from site t cs) bare parts (taken, rest, is, n, inr (f, h, e)) = absurd cc

    from_off : (t : WrittenType) (taken parts : Components) → FillsFrom names t taken (Ok parts)
        → unfinished_from names t parts ≡ taken
    from_off (type_node site tags base cs) taken parts h = from_base_off base taken parts h

    from_base_off : (base : WrittenBase) (taken parts : Components) → FillsFromBase names base taken (Ok parts)
        → unfinished_from_base names base parts ≡ taken
    from_base_off (structure k cs) taken parts h = list_off cs taken parts h
    from_base_off (named_type site name) taken parts (t, is, same, e) = same_Ok parts taken e
    from_base_off base taken parts h = absurd h

    others_off : (others : WrittenAlternatives) (bare parts : Components) → FillsOthers names others bare (Ok parts)
        → unfinished_others names others parts ≡ bare
    others_off no_alternatives bare parts (is, e) = same_Ok parts type.no_components e ∙ sym is
    others_off (alternative site name t others) bare parts (u, rest, is, inl (one, h, inl (more, k, e))) =
        ap (unfinished_others names (alternative site name t others)) (same_Ok parts (put_before one more) e)
        ∙ first_off (λ presence. presence) type.mandatory (unfinished names t) name u one
        (component_off names (Finishes names t) (unfinished names t) mandatory name u
        (type_off t u) one h) rest (unfinished_others names others) more (others_off others rest more k)
        ∙ sym is
    others_off (alternative site name t others) bare parts (u, rest, is, inl (one, h, inr (f, k, e))) = absurd cc
    others_off (alternative site name t others) bare parts (u, rest, is, inr (f, h, e)) = absurd cc

-- ---- the laws

pub bare_again : IsBareAgain
bare_again names tree bare t h = type_off names tree bare t h

pub tagged_again : IsTaggedAgain
tagged_again k d surroundings b under (inl (bare, tagged, inl (u, apart, inl (t, finished, value)))) =
    ap (unfinished (visible k d.home.name) d.assignment.ty) (type_built value)
    ∙ type_off (visible k d.home.name) d.assignment.ty bare t finished ∙ tagged.2.1
    ∙ ap (λ (s : Surroundings). denoted s d.assignment.ty)
    (same_surroundings k.modules k.order (types_of k.built) d tagged.0 surroundings tagged.1 under)
  where
    type_built : HasValue k (visible k d.home.name) d.assignment t (Ok b) → b.ty ≡ t
    type_built (inl (v, assigned, inl (w, keeps, e))) =
        ap (λ (c : Built). c.ty) (same_Ok b (record { ty = t; value = v }) e)
    type_built (inl (v, assigned, inr (f, keeps, e))) = absurd cc
    type_built (inr (f, assigned, e)) = absurd cc
tagged_again k d surroundings b under (inl (bare, tagged, inl (u, apart, inr (f, finished, e)))) = absurd cc
tagged_again k d surroundings b under (inl (bare, tagged, inr (f, apart, e))) = absurd cc
tagged_again k d surroundings b under (inr (f, tagged, e)) = absurd cc
