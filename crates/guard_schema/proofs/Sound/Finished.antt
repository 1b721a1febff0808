-- What a tree makes of a bare type is sound, and so are the types that it makes on the way.
use Rattle.std.proofs.Common.{◌≡◌, inl, inr, ℕ, Bool, true, false, ◌&&◌, List, [], ◌∷◌, Option, Some, None, Ok, IsTrue}
use Rattle.std.proofs.Common.{refl, sym, ap, subst, ◌∙◌}
use Rattle.std.specs.Prelude.{nat_le}
use Rattle.std.proofs.lemmas.Bool.{and_parts, and_from}
use Rattle.guard_model.proofs.Results.{same_Ok}
use Rattle.guard_model.specs.declared.tag.Tag.{Tag}
use Rattle.guard_model.specs.AbstractType as type
use Rattle.guard_model.specs.AbstractType.{AbstractType, AbstractKind, AbstractPresence, Components, Constraint}
use Rattle.guard_model.specs.AbstractType.{Constraints, type_of}
use Rattle.guard_model.specs.AbstractValue.{AbstractValue}
use Rattle.guard_model.specs.Counts.{component_count}
use Rattle.guard_model.specs.Kinds.{kind_of, is_choice, type_of_size}
use Rattle.guard_model.specs.Limits.{most_components, deepest_nesting}
use Rattle.guard_model.specs.TypeView.{OneComponent}
use Rattle.guard_tagcheck.specs.Limits.{nesting, is_tagged, are_low}
use Rattle.guard_der.specs.Der.{der}
use Rattle.guard_der.specs.Fits.{fits}
use Rattle.guard_der.specs.Sound.{is_sound, is_proper, is_proper_kind, is_proper_presence, are_proper}
use Rattle.guard_der.specs.Sound.{is_proper_constraint, are_proper_constraints, has_distinct_tags}
use Rattle.guard_der.specs.ProperConstraints.{is_short, takes_size}
use Rattle.guard_syntax.specs.declared.tree.Collection.{Collection}
use Rattle.guard_syntax.specs.declared.tree.Collection.TheVariants as collection
use Rattle.guard_syntax.specs.Trees.{WrittenConstraint, WrittenOfConstraint, WrittenPresence, mandatory, optional}
use Rattle.guard_syntax.specs.Trees.{default, WrittenType, type_node, WrittenBase, plain, numbers, named_bits}
use Rattle.guard_syntax.specs.Trees.{enumerated, structure, choice, of_type, named_type, WrittenComponents}
use Rattle.guard_syntax.specs.Trees.{no_components, component, components_from, WrittenAlternatives, no_alternatives}
use Rattle.guard_syntax.specs.Trees.{alternative}
use Rattle.guard_tagging.specs.Types.{structure_kind, of_kind, presence_of, parts_of, join}
use Rattle.guard_values.specs.Meanings.{AreFitting}
use Rattle.guard_constraints.specs.Visible.{Visible}
use Rattle.guard_constraints.specs.Denotes as constraints
use Rattle.guard_constraints.proofs.Denoted.ProperConstraints.{proper}
use Rattle.guard_constraints.proofs.Denoted.SoundParts.{size_sound}
use Rattle.guard_constraints.proofs.Denoted.WrittenValues.{denoted_fits, sound_proper}
use Rattle.guard_schema.specs.Faults.{Outcome}
use Rattle.guard_schema.specs.LongValues.{long_in_all}
use Rattle.guard_constraints.specs.Noted.{with_constraint}
use Rattle.guard_schema.specs.Finishing.{put_before, AddsOne, Adds, ConstrainsByOne}
use Rattle.guard_schema.specs.Finishing.{ConstrainsElements}
use Rattle.guard_schema.specs.Finishing.{ConstrainsBefore, FillsPresence, FinishesComponent, Finishes, FinishesKind}
use Rattle.guard_schema.specs.Finishing.{Fills, FillsFrom, FillsFromBase, FillsOthers}
use Rattle.guard_schema.specs.inside.Ready.{constraints_on, is_shaped, are_shaped, IsFresh, IsMadeUp, IsMadeUpBase}
use Rattle.guard_schema.specs.inside.Ready.{AreMadeUp, IsPutIn, IsPutInBase, AreMadeUpOthers, IsReady, IsPart}
use Rattle.guard_schema.proofs.OneAnswer.Steps.{one_structure, one_choice, one_element, one_join}
use Rattle.guard_schema.proofs.Filled.OneConstraint.{sound_with}
use Rattle.guard_schema.proofs.Filled.ReadyTypes.{taken_counted}
use Rattle.guard_schema.proofs.Sound.Shapes.{shape_of_kind, shape_of_parts, kind_shape, list_shape, others_shape}
use Rattle.guard_schema.proofs.Sound.Shapes.{count_shape}
use Rattle.guard_schema.proofs.Sound.Shaped.{structure_shaped, choice_shaped, element_shaped, shaped_join, shaped_same}
use Rattle.guard_schema.proofs.Sound.Retagged.{all_again, proper_join}
use Rattle.guard_schema.proofs.Sound.Short.{sound_short}

inside_proper : (t : AbstractType) → IsTrue (is_proper t) → IsTrue (is_proper_kind (kind_of t))
inside_proper (type_of tags kind cons) h =
    (and_parts (is_tagged tags kind && are_low tags && are_proper_constraints cons (type_of tags kind cons))
    (is_proper_kind kind) h).1

constraints_proper : (t : AbstractType) → IsTrue (is_proper t) → IsTrue (are_proper_constraints (constraints_on t) t)
constraints_proper (type_of tags kind cons) h =
    let p = and_parts (is_tagged tags kind && are_low tags && are_proper_constraints cons (type_of tags kind cons))
    (is_proper_kind kind) h in
    (and_parts (is_tagged tags kind && are_low tags) (are_proper_constraints cons (type_of tags kind cons)) p.0).1

kind_parts : (kind : AbstractKind) → IsTrue (is_proper_kind kind) → (tags : List Tag) (cons : Constraints)
    → IsTrue (are_proper (parts_of (type_of tags kind cons)))
kind_parts (type.sequence cs) h tags cons = (and_parts (nat_le (component_count cs) most_components)
    (are_proper cs) h).1
kind_parts (type.set cs) h tags cons = (and_parts (nat_le (component_count cs) most_components) (are_proper cs) h).1
kind_parts (type.choice cs) h tags cons = (and_parts (nat_le (component_count cs) most_components) (are_proper cs) h).1
kind_parts kind h tags cons = refl

proper_parts : (t : AbstractType) → IsTrue (is_proper t) → IsTrue (are_proper (parts_of t))
proper_parts (type_of tags kind cons) h = kind_parts kind (inside_proper (type_of tags kind cons) h) tags cons

-- the parts of the test of a type
whole : (tags : List Tag) (kind : AbstractKind) (cons : Constraints) → IsTrue (is_tagged tags kind && are_low tags)
    → IsTrue (are_proper_constraints cons (type_of tags kind cons))
    → IsTrue (is_proper_kind kind) → IsTrue (is_proper (type_of tags kind cons))
whole tags kind cons tagged apply inside =
    and_from (is_tagged tags kind && are_low tags && are_proper_constraints cons (type_of tags kind cons))
    (is_proper_kind kind)
    (and_from (is_tagged tags kind && are_low tags) (are_proper_constraints cons (type_of tags kind cons)) tagged apply)
    inside

structure_proper : (k : Collection) (cs : Components) → nat_le (component_count cs) most_components ≡ true
    → IsTrue (are_proper cs) → IsTrue (is_proper_kind (structure_kind k cs))
structure_proper collection.Sequence cs few h = and_from (nat_le (component_count cs) most_components) (are_proper cs)
    few h
structure_proper collection.Set cs few h = and_from (nat_le (component_count cs) most_components) (are_proper cs) few h

element_proper : (k : Collection) (t : AbstractType) → IsTrue (is_proper t) → IsTrue (is_proper_kind (of_kind k t))
element_proper collection.Sequence t h = h
element_proper collection.Set t h = h

of_takes_size : (k : Collection) (t : AbstractType) → takes_size (of_kind k t) ≡ true
of_takes_size collection.Sequence t = refl
of_takes_size collection.Set t = refl

not_choice : (k : Collection) (cs : Components) → is_choice (structure_kind k cs) ≡ false
not_choice collection.Sequence cs = refl
not_choice collection.Set cs = refl

no_choice : (k : Collection) (t : AbstractType) → is_choice (of_kind k t) ≡ false
no_choice collection.Sequence t = refl
no_choice collection.Set t = refl

-- a proper type whose parts tags tell apart, and that isn't nested too deep
sound_whole : (t : AbstractType) → IsTrue (is_proper t) → IsTrue (is_shaped t) → IsTrue (is_sound t)
sound_whole t proper shaped =
    let p = and_parts (has_distinct_tags t) (nat_le (nesting t) deepest_nesting) shaped in
    and_from (is_proper t && has_distinct_tags t) (nat_le (nesting t) deepest_nesting)
    (and_from (is_proper t) (has_distinct_tags t) proper p.0) p.1

still_shaped : (ts : List Tag) (kind k : AbstractKind) (cons : Constraints) → shape_of_kind k ≡ shape_of_kind kind
    → IsTrue (is_shaped (type_of ts kind cons)) → IsTrue (is_shaped (type_of ts k cons))
still_shaped ts kind k cons e h =
    shaped_same (type_of ts k cons) (type_of ts kind cons)
    (ap (λ (x : AbstractKind). type_of ts x type.no_constraints) e) ∙ h

-- as many parts as before
still_few : (parts bare : Components) → shape_of_parts parts ≡ shape_of_parts bare
    → IsTrue (nat_le (component_count bare) most_components) → nat_le (component_count parts) most_components ≡ true
still_few parts bare e few =
    ap (λ (n : ℕ). nat_le n most_components) (sym (count_shape parts) ∙ ap component_count e ∙ count_shape bare) ∙ few

module _ (names : Visible) (fit : AreFitting names.values)
    (sound : (name : List ℕ) (u : AbstractType) → names.types name ≡ Some u → IsTrue (is_sound u)) where
  -- ---- constraints

  denoted_proper : (t : AbstractType) (tree : WrittenConstraint) (c : Constraint) → IsTrue (is_sound t)
      → constraints.Denotes names t tree c → IsTrue (is_proper_constraint c t)
  denoted_proper t tree c s h = proper names (λ u w v q d. denoted_fits names.values fit u w v q d) sound t tree c s h

  one_sound : (c : WrittenConstraint) (t u : AbstractType) → IsTrue (is_sound t) → AddsOne names c t (Ok u)
      → IsTrue (is_sound u)
  one_sound c t u s (inl (one, h, e)) = subst (λ (x : AbstractType). IsTrue (is_sound x))
      (sym (same_Ok u (with_constraint t one) e)) (sound_with t one s (denoted_proper t c one s h))
  one_sound c t u s (inr (f, h, e)) = absurd cc

  adds_sound : (cs : List WrittenConstraint) (t u : AbstractType) → IsTrue (is_sound t) → Adds names cs t (Ok u)
      → IsTrue (is_sound u)
  adds_sound [] t u s e = subst (λ (x : AbstractType). IsTrue (is_sound x)) (sym (same_Ok u t e)) s
  adds_sound (c ∷ cs) t u s (inl (v, h, k)) = adds_sound cs v u (one_sound c t v s h) k
  adds_sound (c ∷ cs) t u s (inr (f, h, e)) = absurd cc

  by_one_sound : (c : WrittenOfConstraint) (size : Bool) (t u : AbstractType) → IsTrue (is_sound t)
      → IsTrue (takes_size (kind_of t)) → ConstrainsByOne names c size t (Ok u) → IsTrue (is_sound u)
  by_one_sound c true t u s takes (inl (one, d, e)) =
      subst (λ (x : AbstractType). IsTrue (is_sound x))
      (sym (same_Ok u (with_constraint t (type.at c.site (type.size one))) e))
      (sound_with t (type.at c.site (type.size one)) s
      (and_from (takes_size (kind_of t)) (is_proper_constraint one type_of_size) takes
      (denoted_proper type_of_size c.constraint one size_sound d)))
  by_one_sound c true t u s takes (inr (f, d, e)) = absurd cc
  by_one_sound c false t u s takes h = one_sound c.constraint t u s h

  kept : (t u : AbstractType) → IsTrue (is_sound t) → ◌≡◌ {A = Outcome AbstractType} (Ok u) (Ok t) → IsTrue (is_sound u)
  kept t u s e = subst (λ (x : AbstractType). IsTrue (is_sound x)) (sym (same_Ok u t e)) s

  elements_sound : (c : Option WrittenOfConstraint) (t u : AbstractType) → IsTrue (is_sound t)
      → IsTrue (takes_size (kind_of t)) → ConstrainsElements names c t (Ok u) → IsTrue (is_sound u)
  elements_sound None t u s takes e = kept t u s e
  elements_sound (Some c) t u s takes h = by_one_sound c c.size t u s takes h

  before_sound : (base : WrittenBase) (t u : AbstractType) → IsPart names base t → ConstrainsBefore names base t (Ok u)
      → IsTrue (is_sound u)
  before_sound (of_type k c w) t u s h = elements_sound c t u s.0.0 s.1 h
  before_sound (named_type site name) t u s (inl (x, short, e)) = kept t u (s.0 short) e
  before_sound (named_type site name) t u s (inr (f, short, e)) = absurd cc
  before_sound base t u s e = kept t u s.0 e

  -- ---- defaults

  presence_proper : (t : AbstractType) (presence : WrittenPresence) (p : AbstractPresence) → IsTrue (is_sound t)
      → FillsPresence names t presence (Ok p) → IsTrue (is_proper_presence t p)
  presence_proper t mandatory p s e = subst (λ (x : AbstractPresence). IsTrue (is_proper_presence t x))
      (sym (same_Ok p type.mandatory e)) refl
  presence_proper t optional p s e = subst (λ (x : AbstractPresence). IsTrue (is_proper_presence t x))
      (sym (same_Ok p type.optional e)) refl
  presence_proper t (default tree) p s (inl (v, inl (w, d, inl (y, m, is)), e)) =
      let same : v ≡ w = same_Ok v w is in
      let proper : IsTrue (is_proper_presence t (type.default w)) =
      and_from (fits t w) (is_short (der t w)) (denoted_fits names.values fit t tree w s d) d.1 in
      subst (λ (z : AbstractPresence). IsTrue (is_proper_presence t z))
      (sym (same_Ok p (type.default v) e ∙ ap (λ (z : AbstractValue). type.default z) same)) proper
  presence_proper t (default tree) p s (inl (v, inl (w, d, inr (f, m, is)), e)) = absurd cc
  presence_proper t (default tree) p s (inl (v, inr (f, d, is), e)) = absurd cc
  presence_proper t (default tree) p s (inr (f, h, e)) = absurd cc

  module _ (Finish : AbstractType → Outcome AbstractType → Type 0) (presence : WrittenPresence)
      (name : List ℕ) (bare : AbstractType)
      (finished : (u : AbstractType) → Finish bare (Ok u) → IsTrue (is_sound u)) where
    component_proper : (one : OneComponent) → FinishesComponent names Finish presence name bare (Ok one)
        → IsTrue (is_proper one.ty && is_proper_presence one.ty one.presence)
    component_proper one (inl (u, h, inl (p, k, e))) =
        subst (λ (c : OneComponent). IsTrue (is_proper c.ty && is_proper_presence c.ty c.presence))
        (sym (same_Ok one (record { name = name; ty = u; presence = p }) e))
        (and_from (is_proper u) (is_proper_presence u p) (sound_proper u (finished u h))
        (presence_proper u presence p (finished u h) k))
    component_proper one (inl (u, h, inr (f, k, e))) = absurd cc
    component_proper one (inr (f, h, e)) = absurd cc

  put_proper : (one : OneComponent) (others : Components)
      → IsTrue (is_proper one.ty && is_proper_presence one.ty one.presence) → IsTrue (are_proper others)
      → IsTrue (are_proper (put_before one others))
  put_proper one others h k = and_from (is_proper one.ty && is_proper_presence one.ty one.presence) (are_proper others)
      h k

  -- ---- what the bare type is made up of

  same_type : (name : List ℕ) (t u : AbstractType) (p : AbstractPresence) (xs ys : Components)
      → type.component name t p xs ≡ type.component name u p ys → t ≡ u
  same_type name t u p xs ys e = cc

  same_rest : (name : List ℕ) (t u : AbstractType) (p : AbstractPresence) (xs ys : Components)
      → type.component name t p xs ≡ type.component name u p ys → xs ≡ ys
  same_rest name t u p xs ys e = cc

  tagged_still : (ts : List Tag) (k kind : AbstractKind) → is_choice k ≡ is_choice kind
      → IsTrue (is_tagged ts kind && are_low ts) → IsTrue (is_tagged ts k && are_low ts)
  tagged_still [] k kind e h = subst (λ (b : Bool). IsTrue (b && true)) (sym e) h
  tagged_still (t ∷ ts) k kind e h = h

  -- a type with its parts finished, and no constraints yet
  without_constraints : (ts : List Tag) (k : AbstractKind) (cons : Constraints) → cons ≡ type.no_constraints
      → IsTrue (is_tagged ts k && are_low ts) → IsTrue (is_proper_kind k) → IsTrue (is_shaped (type_of ts k cons))
      → IsTrue (is_sound (type_of ts k cons))
  without_constraints ts k cons none tagged inside shaped =
      sound_whole (type_of ts k cons)
      (whole ts k cons tagged
      (subst (λ (c : Constraints). IsTrue (are_proper_constraints c (type_of ts k cons))) (sym none) refl) inside)
      shaped

  fresh_sound : (ts : List Tag) (kind k : AbstractKind) (cons : Constraints)
      → ◌≡◌ {A = Outcome AbstractKind} (Ok k) (Ok kind) → IsTrue (is_tagged ts kind && are_low ts) → IsFresh kind cons
      → IsTrue (is_shaped (type_of ts kind cons)) → IsTrue (is_sound (type_of ts k cons))
  fresh_sound ts kind k cons e tagged fresh shaped =
      subst (λ (x : AbstractKind). IsTrue (is_sound (type_of ts x cons))) (sym (same_Ok k kind e))
      (without_constraints ts kind cons fresh.0 tagged fresh.1 shaped)

  -- under other tags
  named_sound : (name : List ℕ) (ts : List Tag) (kind : AbstractKind) (cons : Constraints) (u : AbstractType)
      → names.types name ≡ Some u → kind ≡ kind_of u → cons ≡ constraints_on u
      → IsTrue (is_tagged ts kind && are_low ts) → IsTrue (is_shaped (type_of ts kind cons))
      → long_in_all (type_of ts kind cons) cons ≡ None → IsTrue (is_sound (type_of ts kind cons))
  named_sound name ts kind cons (type_of us uk uc) is e f tagged shaped short =
      let p = sound_proper (type_of us uk uc) (sound name (type_of us uk uc) is) in
      sound_whole (type_of ts kind cons)
      (whole ts kind cons tagged (again e f (constraints_proper (type_of us uk uc) p))
      (subst (λ (x : AbstractKind). IsTrue (is_proper_kind x)) (sym e) (inside_proper (type_of us uk uc) p))) shaped
    where
      again : kind ≡ uk → cons ≡ uc → IsTrue (are_proper_constraints uc (type_of us uk uc))
          → IsTrue (are_proper_constraints cons (type_of ts kind cons))
      again a b old =
          all_again us ts kind uc cons cons
          (subst (λ (x : AbstractKind). IsTrue (are_proper_constraints cons (type_of us x uc))) (sym a)
          (subst (λ (x : Constraints). IsTrue (are_proper_constraints x (type_of us uk uc))) (sym b) old)) short

  -- ---- types

  mutual
    pub type_sound : (w : WrittenType) (bare t : AbstractType) → IsReady names w bare → Finishes names w bare (Ok t)
        → IsTrue (is_sound t)
    type_sound (type_node site tags base cs) (type_of ts kind cons) t (made, shaped) (inl (k, h, inl (v, b, l))) =
        adds_sound cs v t (before_sound base (type_of ts k cons) v (kind_part base ts kind k cons made shaped h) b) l
    type_sound (type_node site tags base cs) (type_of ts kind cons) t m (inl (k, h, inr (f, b, e))) = absurd cc
    type_sound (type_node site tags base cs) (type_of ts kind cons) t m (inr (f, h, e)) = absurd cc

    pub kind_part : (base : WrittenBase) (ts : List Tag) (kind k : AbstractKind) (cons : Constraints)
        → IsTrue (is_tagged ts kind && are_low ts) × IsMadeUpBase names base kind cons
        → IsTrue (is_shaped (type_of ts kind cons)) → FinishesKind names base kind (Ok k)
        → IsPart names base (type_of ts k cons)
    kind_part (plain p) ts kind k cons m shaped e = (fresh_sound ts kind k cons e m.0 m.1 shaped, m.1.0)
    kind_part (numbers ns) ts kind k cons m shaped e = (fresh_sound ts kind k cons e m.0 m.1 shaped, m.1.0)
    kind_part (named_bits ns) ts kind k cons m shaped e = (fresh_sound ts kind k cons e m.0 m.1 shaped, m.1.0)
    kind_part (enumerated items) ts kind k cons m shaped e = (fresh_sound ts kind k cons e m.0 m.1 shaped, m.1.0)
    kind_part (structure c cs) ts kind k cons (tagged, (none, (made, at, few, inside))) shaped
        (bare, is, inl (parts, h, e)) =
        let same : made ≡ bare = one_structure c made bare (sym at ∙ is) in
        let final : k ≡ structure_kind c parts = same_Ok k (structure_kind c parts) e in (
          without_constraints ts k cons none
              (tagged_still ts k kind (ap is_choice final ∙ not_choice c parts ∙ sym (not_choice c bare) ∙ ap is_choice
              (sym is))
              tagged)
              (subst (λ (x : AbstractKind). IsTrue (is_proper_kind x)) (sym final)
              (structure_proper c parts (still_few parts bare (list_shape names cs bare parts h)
              (subst (λ (x : Components). IsTrue (nat_le (component_count x) most_components)) same few))
              (list_proper cs bare parts (subst (λ (x : Components). AreMadeUp names cs x) same inside)
              (structure_shaped c ts bare cons
              (subst (λ (x : AbstractKind). IsTrue (is_shaped (type_of ts x cons))) is shaped)) h)))
              (still_shaped ts kind k cons (kind_shape names (structure c cs) kind k (bare, is, inl (parts, h, e))) shaped),
          none,
        )
    kind_part (structure c cs) ts kind k cons m shaped (bare, is, inr (f, h, e)) = absurd cc
    kind_part (choice others) ts kind k cons (tagged, (none, (made, at, few, inside))) shaped
        (bare, is, inl (parts, h, e)) =
        let same : made ≡ bare = one_choice made bare (sym at ∙ is) in
        let final : k ≡ type.choice parts = same_Ok k (type.choice parts) e in (
          without_constraints ts k cons none
              (tagged_still ts k kind (ap is_choice final ∙ ap is_choice (sym is)) tagged)
              (subst (λ (x : AbstractKind). IsTrue (is_proper_kind x)) (sym final)
              (and_from (nat_le (component_count parts) most_components) (are_proper parts)
              (still_few parts bare (others_shape names others bare parts h)
              (subst (λ (x : Components). IsTrue (nat_le (component_count x) most_components)) same few))
              (others_proper others bare parts (subst (λ (x : Components). AreMadeUpOthers names others x) same inside)
              (choice_shaped ts bare cons
              (subst (λ (x : AbstractKind). IsTrue (is_shaped (type_of ts x cons))) is shaped)) h)))
              (still_shaped ts kind k cons (kind_shape names (choice others) kind k (bare, is, inl (parts, h, e))) shaped),
          none,
        )
    kind_part (choice others) ts kind k cons m shaped (bare, is, inr (f, h, e)) = absurd cc
    kind_part (of_type c o w) ts kind k cons (tagged, (none, (made, at, inside))) shaped (bare, is, inl (u, h, e)) =
        let same : made ≡ bare = one_element c made bare (sym at ∙ is) in
        let final : k ≡ of_kind c u = same_Ok k (of_kind c u) e in (
          (
            without_constraints ts k cons none
                (tagged_still ts k kind (ap is_choice final ∙ no_choice c u ∙ sym (no_choice c bare)
                ∙ ap is_choice (sym is)) tagged)
                (subst (λ (x : AbstractKind). IsTrue (is_proper_kind x)) (sym final)
                (element_proper c u (sound_proper u (type_sound w bare u (
                  subst (λ (x : AbstractType). IsMadeUp names w x) same inside,
                  element_shaped c ts bare cons
                      (subst (λ (x : AbstractKind). IsTrue (is_shaped (type_of ts x cons))) is shaped),
                ) h))))
                (still_shaped ts kind k cons (kind_shape names (of_type c o w) kind k (bare, is, inl (u, h, e))) shaped),
            none,
          ),
          ap takes_size final ∙ of_takes_size c u,
        )
    kind_part (of_type c o w) ts kind k cons m shaped (bare, is, inr (f, h, e)) = absurd cc
    kind_part (named_type site name) ts kind k cons (tagged, (u, there, a, b)) shaped e =
        subst (λ (x : AbstractKind). IsPart names (named_type site name) (type_of ts x cons)) (sym (same_Ok k kind e)) (
          λ short. named_sound name ts kind cons u there a b tagged shaped short,
          (u, there, a, b, sound_short u (sound name u there)),
        )

    list_proper : (cs : WrittenComponents) (bare parts : Components) → AreMadeUp names cs bare
        → IsTrue (are_shaped bare) → Fills names cs bare (Ok parts) → IsTrue (are_proper parts)
    list_proper no_components bare parts m shaped (is, e) =
        subst (λ (x : Components). IsTrue (are_proper x)) (sym (same_Ok parts type.no_components e)) refl
    list_proper (component site name t presence cs) bare parts (v, others_made, at, inside, after) shaped
        (u, rest, is, inl (one, h, inl (others, k, e))) =
        let here : v ≡ u = same_type name v u (presence_of presence) others_made rest (sym at ∙ is) in
        let later : others_made ≡ rest = same_rest name v u (presence_of presence) others_made rest (sym at ∙ is) in
        let both = and_parts (is_shaped u) (are_shaped rest)
        (subst (λ (x : Components). IsTrue (are_shaped x)) is shaped) in
        subst (λ (x : Components). IsTrue (are_proper x)) (sym (same_Ok parts (put_before one others) e))
        (put_proper one others
        (component_proper (Finishes names t) presence name u
        (λ x f. type_sound t u x (subst (λ (y : AbstractType). IsMadeUp names t y) here inside, both.0) f) one h)
        (list_proper cs rest others (subst (λ (y : Components). AreMadeUp names cs y) later after) both.1 k))
    list_proper (component site name t presence cs) bare parts m shaped (u, rest, is, inl (one, h, inr (f, k, e))) =
        absurd cc
    list_proper (component site name t presence cs) bare parts m shaped (u, rest, is, inr (f, h, e)) = absurd cc
    list_proper (components_from site t cs) bare parts (put_in, others_made, at, inside, after) shaped
        (taken, rest, is, n, inl (first, h, inl (others, k, e))) =
        let same = one_join put_in others_made taken rest (taken_counted names t put_in inside ∙ sym n) (sym at ∙ is) in
        let both = shaped_join taken rest (subst (λ (x : Components). IsTrue (are_shaped x)) is shaped) in
        subst (λ (x : Components). IsTrue (are_proper x)) (sym (same_Ok parts (join first others) e))
        (proper_join first others
        (from_proper t taken first (subst (λ (y : Components). IsPutIn names t y) same.0 inside) both.0 h)
        (list_proper cs rest others (subst (λ (y : Components). AreMadeUp names cs y) same.1 after) both.1 k))
    list_proper (components_from site t cs) bare parts m shaped (taken, rest, is, n, inl (first, h, inr (f, k, e))) =
        absurd cc
    list_proper (components_from site t cs) bare parts m shaped (taken, rest, is, n, inr (f, h, e)) = absurd cc

    from_proper : (t : WrittenType) (taken parts : Components) → IsPutIn names t taken → IsTrue (are_shaped taken)
        → FillsFrom names t taken (Ok parts) → IsTrue (are_proper parts)
    from_proper (type_node site tags base cs) taken parts m shaped h = from_base_proper base taken parts m shaped h

    from_base_proper : (base : WrittenBase) (taken parts : Components) → IsPutInBase names base taken
        → IsTrue (are_shaped taken) → FillsFromBase names base taken (Ok parts) → IsTrue (are_proper parts)
    from_base_proper (structure k cs) taken parts m shaped h = list_proper cs taken parts m shaped h
    from_base_proper (named_type site name) taken parts m shaped (t, is, same, e) =
        subst (λ (x : Components). IsTrue (are_proper x)) (sym (same_Ok parts taken e ∙ same))
        (proper_parts t (sound_proper t (sound name t is)))
    from_base_proper base taken parts m shaped h = absurd h

    others_proper : (others : WrittenAlternatives) (bare parts : Components) → AreMadeUpOthers names others bare
        → IsTrue (are_shaped bare) → FillsOthers names others bare (Ok parts) → IsTrue (are_proper parts)
    others_proper no_alternatives bare parts m shaped (is, e) =
        subst (λ (x : Components). IsTrue (are_proper x)) (sym (same_Ok parts type.no_components e)) refl
    others_proper (alternative site name t others) bare parts (v, others_made, at, inside, after) shaped
        (u, rest, is, inl (one, h, inl (more, k, e))) =
        let here : v ≡ u = same_type name v u type.mandatory others_made rest (sym at ∙ is) in
        let later : others_made ≡ rest = same_rest name v u type.mandatory others_made rest (sym at ∙ is) in
        let both = and_parts (is_shaped u) (are_shaped rest)
        (subst (λ (x : Components). IsTrue (are_shaped x)) is shaped) in
        subst (λ (x : Components). IsTrue (are_proper x)) (sym (same_Ok parts (put_before one more) e))
        (put_proper one more
        (component_proper (Finishes names t) mandatory name u
        (λ x f. type_sound t u x (subst (λ (y : AbstractType). IsMadeUp names t y) here inside, both.0) f) one h)
        (others_proper others rest more (subst (λ (y : Components). AreMadeUpOthers names others y) later after) both.1
        k))
    others_proper (alternative site name t others) bare parts m shaped (u, rest, is, inl (one, h, inr (f, k, e))) =
        absurd cc
    others_proper (alternative site name t others) bare parts m shaped (u, rest, is, inr (f, h, e)) = absurd cc
