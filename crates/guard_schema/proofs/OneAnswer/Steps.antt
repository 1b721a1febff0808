-- Texts denote one schema at most, and then they have no fault: step by step.
use Rattle.std.proofs.Common.{◌≡◌, ℕ, true, false, List, [], ◌∷◌, Option, Some, None, Ok, Err, inl, refl, sym, ap}
use Rattle.std.proofs.Common.{◌∙◌, arith}
use Rattle.std.proofs.lemmas.Option.{same_Some}
use Rattle.guard_model.specs.declared.site.Site.{Site}
use Rattle.guard_model.specs.AbstractType as type
use Rattle.guard_model.specs.AbstractType.{AbstractType, AbstractKind, Components, Constraint, type_of}
use Rattle.guard_model.specs.Counts.{component_count}
use Rattle.guard_model.specs.AbstractValue.{AbstractValue}
use Rattle.guard_syntax.specs.declared.tree.Collection.{Collection}
use Rattle.guard_syntax.specs.declared.tree.Collection.TheVariants as collection
use Rattle.guard_syntax.specs.Trees.{WrittenValue, WrittenConstraint, WrittenOfConstraint, WrittenPresence}
use Rattle.guard_syntax.specs.Trees.{mandatory, optional, default, WrittenType, type_node, WrittenBase}
use Rattle.guard_syntax.specs.Trees.{structure, choice, of_type, named_type, WrittenComponents}
use Rattle.guard_syntax.specs.Trees.{no_components, component, components_from, WrittenAlternatives, no_alternatives}
use Rattle.guard_syntax.specs.Trees.{alternative}
use Rattle.guard_values.specs.declared.fault.ValueFault.TheVariants as value_fault
use Rattle.guard_values.specs.Denotes as values
use Rattle.guard_values.proofs.FirstFaults.WholeValues.{one_first}
use Rattle.guard_tagging.specs.Types.{structure_kind, of_kind, presence_of, join}
use Rattle.guard_constraints.specs.Visible.{Visible}
use Rattle.guard_constraints.specs.declared.fault.ConsFault.{ConsFault}
use Rattle.guard_constraints.specs.Denotes as constraints
use Rattle.guard_constraints.specs.FirstFault.{IsFirstConstraintFault}
use Rattle.guard_schema.specs.OneAnswer.{SameFault, IsDecided}
use Rattle.guard_schema.specs.Faults.{AbstractFault, Value, Cons, Outcome}
use Rattle.guard_schema.specs.Readings.{HasShortValues, ReadsValue, ReadsMember, ReadsConstraint}
use Rattle.guard_schema.specs.Outcomes.{Is, Then}
use Rattle.guard_schema.specs.Finishing.{Adds, AddsOne, ConstrainsByOne, ConstrainsElements, ConstrainsBefore}
use Rattle.guard_constraints.specs.Noted.{with_constraint}
use Rattle.guard_schema.specs.Finishing.{FillsPresence, FinishesComponent, put_before}
use Rattle.guard_schema.specs.Finishing.{count_put_in, Finishes, FinishesKind, Fills, FillsFrom}
use Rattle.guard_schema.specs.Finishing.{FillsFromBase, FillsOthers}
use Rattle.guard_schema.proofs.Turns.Outcomes.{is_decided, passes_decided, then_decided, found_decided}

-- a tree denotes one value, and one constraint
abbrev pub OneValue : Type 0
OneValue = (names : Visible) (t : AbstractType) (tree : WrittenValue) (v w : AbstractValue)
    → values.Denotes names.values t tree v → values.Denotes names.values t tree w → v ≡ w

abbrev pub OneConstraint : Type 0
OneConstraint = (names : Visible) (t : AbstractType) (tree : WrittenConstraint) (c d : Constraint)
    → constraints.Denotes names t tree c → constraints.Denotes names t tree d → c ≡ d

-- and one first fault
abbrev pub OneConsFault : Type 0
OneConsFault = (names : Visible) (t : AbstractType) (tree : WrittenConstraint) (f g : ConsFault)
    → IsFirstConstraintFault names t tree f → IsFirstConstraintFault names t tree g → f ≡ g

-- where the first value is that is too long
short_decided : (t : AbstractType) → IsDecided (HasShortValues t)
short_decided t = record {
  one = λ x y h k. refl;
  alone = λ x f h k. none_some k.0 (sym h ∙ k.1);
  first = λ f g h k. inl (h.2 ∙ ap (λ (site : Site). Value (value_fault.TooLarge site))
      (same_Some h.0 k.0 (sym h.1 ∙ k.1)) ∙ sym k.2);
}
  where
    none_some : (site : Site) → None ≡ Some site → ⊥
    none_some site e = cc

module _ (one_value : OneValue) (one_constraint : OneConstraint) (one_cons_fault : OneConsFault) (names : Visible) where
  value_decided : (t : AbstractType) (tree : WrittenValue) → IsDecided (ReadsValue names t tree)
  value_decided t tree = record { one = one_value names t tree; alone = alone; first = first }
    where
      first : (f g : AbstractFault) → ReadsValue names t tree (Err f) → ReadsValue names t tree (Err g) → SameFault f g
      first (Value f) (Value g) h k = inl (ap Value (one_first names.values tree t f g h.1 k.1))
      first (Value f) _ h k = absurd k
      first _ g h k = absurd h

      alone : (v : AbstractValue) (f : AbstractFault) → ReadsValue names t tree (Ok v) → ReadsValue names t tree (Err f)
          → ⊥
      alone v (Value f) h k = k.2 v h
      alone v _ h k = k

  constraint_decided : (t : AbstractType) (tree : WrittenConstraint) → IsDecided (ReadsConstraint names t tree)
  constraint_decided t tree = record { one = one_constraint names t tree; alone = alone; first = first }
    where
      first : (f g : AbstractFault) → ReadsConstraint names t tree (Err f) → ReadsConstraint names t tree (Err g)
          → SameFault f g
      first (Cons f) (Cons g) h k = inl (ap Cons (one_cons_fault names t tree f g h.1 k.1))
      first (Cons f) _ h k = absurd k
      first _ g h k = absurd h

      alone : (c : Constraint) (f : AbstractFault) → ReadsConstraint names t tree (Ok c)
          → ReadsConstraint names t tree (Err f) → ⊥
      alone c (Cons f) h k = k.2 c h
      alone c _ h k = k

  pub member_decided : (t : AbstractType) (tree : WrittenValue) → IsDecided (ReadsMember names t tree)
  member_decided t tree = then_decided _ _ (value_decided t tree)
      (λ v. then_decided _ _ (passes_decided _ _) (λ _. is_decided v))

  one_decided : (c : WrittenConstraint) (t : AbstractType) → IsDecided (AddsOne names c t)
  one_decided c t = then_decided _ _ (constraint_decided t c) (λ one. is_decided (with_constraint t one))

  adds_decided : (cs : List WrittenConstraint) (t : AbstractType) → IsDecided (Adds names cs t)
  adds_decided [] t = is_decided t
  adds_decided (c ∷ cs) t = then_decided _ _ (one_decided c t) (adds_decided cs)

  by_one_decided : (c : WrittenOfConstraint) (size : _) (t : AbstractType) → IsDecided (ConstrainsByOne names c size t)
  by_one_decided c true t = then_decided _ _ (constraint_decided _ c.constraint) (λ one. is_decided _)
  by_one_decided c false t = one_decided c.constraint t

  elements_decided : (c : Option WrittenOfConstraint) (t : AbstractType) → IsDecided (ConstrainsElements names c t)
  elements_decided None t = is_decided t
  elements_decided (Some c) t = by_one_decided c c.size t

  before_decided : (base : WrittenBase) (t : AbstractType) → IsDecided (ConstrainsBefore names base t)
  before_decided (of_type k c w) t = elements_decided c t
  before_decided (named_type site name) t = then_decided _ _ (short_decided t) (λ _. is_decided t)
  before_decided base t = is_decided t

  presence_decided : (t : AbstractType) (presence : WrittenPresence) → IsDecided (FillsPresence names t presence)
  presence_decided t mandatory = is_decided type.mandatory
  presence_decided t optional = is_decided type.optional
  presence_decided t (default tree) = then_decided _ _ (member_decided t tree) (λ v. is_decided (type.default v))

  component_decided : (Finish : AbstractType → Outcome AbstractType → Type 0) (presence : WrittenPresence)
      (name : List ℕ) (bare : AbstractType) → IsDecided (Finish bare)
      → IsDecided (FinishesComponent names Finish presence name bare)
  component_decided Finish presence name bare finish =
      then_decided _ _ finish (λ u. then_decided _ _ (presence_decided u presence) (λ p. is_decided _))

-- ---- the parts of a list, of which there is one division

pub one_structure : (k : Collection) (xs ys : Components) → structure_kind k xs ≡ structure_kind k ys → xs ≡ ys
one_structure collection.Sequence xs ys e = cc
one_structure collection.Set xs ys e = cc

pub one_choice : (xs ys : Components) → type.choice xs ≡ type.choice ys → xs ≡ ys
one_choice xs ys e = cc

pub one_element : (k : Collection) (t u : AbstractType) → of_kind k t ≡ of_kind k u → t ≡ u
one_element collection.Sequence t u e = cc
one_element collection.Set t u e = cc

pub one_join : (a b c d : Components) → component_count a ≡ component_count c → join a b ≡ join c d → (a ≡ c) × (b ≡ d)
one_join type.no_components b type.no_components d n e = (refl, e)
one_join type.no_components b (type.component name t p c) d n e = absurd (omega (arith, n))
one_join (type.component name t p a) b type.no_components d n e = absurd (omega (arith, n))
one_join (type.component name t p a) b (type.component name' t' p' c) d n e =
    let names : name ≡ name' = same_name name name' t t' p p' (join a b) (join c d) e in
    let types : t ≡ t' = same_type name name' t t' p p' (join a b) (join c d) e in
    let presences : p ≡ p' = same_presence name name' t t' p p' (join a b) (join c d) e in
    let r = one_join a b c d (omega (arith, n)) (same_rest name name' t t' p p' (join a b) (join c d) e) in
    (same_all name name' t t' p p' a c names types presences r.0, r.1)
  where
    same_name : (n m : List ℕ) (t u : AbstractType) (p q : type.AbstractPresence) (xs ys : Components)
        → type.component n t p xs ≡ type.component m u q ys → n ≡ m
    same_name n m t u p q xs ys e = cc

    same_type : (n m : List ℕ) (t u : AbstractType) (p q : type.AbstractPresence) (xs ys : Components)
        → type.component n t p xs ≡ type.component m u q ys → t ≡ u
    same_type n m t u p q xs ys e = cc

    same_presence : (n m : List ℕ) (t u : AbstractType) (p q : type.AbstractPresence) (xs ys : Components)
        → type.component n t p xs ≡ type.component m u q ys → p ≡ q
    same_presence n m t u p q xs ys e = cc

    same_rest : (n m : List ℕ) (t u : AbstractType) (p q : type.AbstractPresence) (xs ys : Components)
        → type.component n t p xs ≡ type.component m u q ys → xs ≡ ys
    same_rest n m t u p q xs ys e = cc

    same_all : (n m : List ℕ) (t u : AbstractType) (p q : type.AbstractPresence) (xs ys : Components) → n ≡ m → t ≡ u
        → p ≡ q → xs ≡ ys → type.component n t p xs ≡ type.component m u q ys
    same_all n m t u p q xs ys a b c d = cc

-- one component and the others
module _ {B : Type 0} (bare : Components) (name : List ℕ) (p : type.AbstractPresence)
    (Answer : AbstractType → Components → Outcome B → Type 0) where
  abbrev First : AbstractType × Components → Type 0
  First x = bare ≡ type.component name x.0 p x.1

  same_first : (x y : AbstractType × Components) → First x → First y → x ≡ y
  same_first (t, xs) (u, ys) h k = pair t u xs ys (types (type.component name t p xs) (sym h ∙ k)) (others (sym h ∙ k))
    where
      types : (c : Components) → type.component name t p xs ≡ type.component name u p ys → t ≡ u
      types c e = cc

      others : type.component name t p xs ≡ type.component name u p ys → xs ≡ ys
      others e = cc

      pair : (a b : AbstractType) (c d : Components) → a ≡ b → c ≡ d → ◌≡◌ {A = AbstractType × Components} (a, c) (b, d)
      pair a b c d e f = ap (λ (z : AbstractType). (z, c)) e ∙ ap (λ (z : Components). (b, z)) f

  first_decided : ((t : AbstractType) (rest : Components) → IsDecided (Answer t rest))
      → IsDecided {A = B} (λ answer. (t : AbstractType) × (rest : Components) × (bare ≡ type.component name t p rest)
      × Answer t rest answer)
  first_decided decided =
      let by = found_decided First (λ (x : AbstractType × Components). Answer x.0 x.1) same_first
      (λ x. decided x.0 x.1) in
      record {
        one = λ a b h k. by.one a b ((h.0, h.1), h.2, h.3) ((k.0, k.1), k.2, k.3);
        alone = λ a f h k. by.alone a f ((h.0, h.1), h.2, h.3) ((k.0, k.1), k.2, k.3);
        first = λ f g h k. by.first f g ((h.0, h.1), h.2, h.3) ((k.0, k.1), k.2, k.3);
      }

-- so many components and the others
module _ {B : Type 0} (bare : Components) (n : ℕ) (Answer : Components → Components → Outcome B → Type 0) where
  abbrev FirstOnes : Components × Components → Type 0
  FirstOnes x = (bare ≡ join x.0 x.1) × (component_count x.0 ≡ n)

  same_ones : (x y : Components × Components) → FirstOnes x → FirstOnes y → x ≡ y
  same_ones (a, b) (c, d) h k = pair (one_join a b c d (h.1 ∙ sym k.1) (sym h.0 ∙ k.0))
    where
      pair : (a ≡ c) × (b ≡ d) → ◌≡◌ {A = Components × Components} (a, b) (c, d)
      pair r = ap (λ (z : Components). (z, b)) r.0 ∙ ap (λ (z : Components). (c, z)) r.1

  ones_decided : ((taken rest : Components) → IsDecided (Answer taken rest))
      → IsDecided {A = B} (λ answer. (taken : Components) × (rest : Components) × (bare ≡ join taken rest)
      × (component_count taken ≡ n) × Answer taken rest answer)
  ones_decided decided =
      let by = found_decided FirstOnes (λ (x : Components × Components). Answer x.0 x.1) same_ones
      (λ x. decided x.0 x.1) in
      record {
        one = λ a b h k. by.one a b ((h.0, h.1), (h.2, h.3), h.4) ((k.0, k.1), (k.2, k.3), k.4);
        alone = λ a f h k. by.alone a f ((h.0, h.1), (h.2, h.3), h.4) ((k.0, k.1), (k.2, k.3), k.4);
        first = λ f g h k. by.first f g ((h.0, h.1), (h.2, h.3), h.4) ((k.0, k.1), (k.2, k.3), k.4);
      }

-- where something else holds as well
also_decided : {B : Type 0} (P : Type 0) (Answer : Outcome B → Type 0) → IsDecided Answer
    → IsDecided {A = B} (λ answer. P × Answer answer)
also_decided P Answer decided = record {
  one = λ a b h k. decided.one a b h.1 k.1;
  alone =
      λ a f h k. decided.alone a f h.1 k.1;
  first = λ f g h k. decided.first f g h.1 k.1;
}

never_decided : {B : Type 0} → IsDecided {A = B} (λ answer. ⊥)
never_decided = record { one = λ a b h k. absurd h; alone = λ a f h k. h; first = λ f g h k. absurd h }

-- ---- types

module _ (one_value : OneValue) (one_constraint : OneConstraint) (one_cons_fault : OneConsFault) (names : Visible) where
  mutual
    pub type_decided : (t : WrittenType) (bare : AbstractType) → IsDecided (Finishes names t bare)
    type_decided (type_node site tags base cs) (type_of ts kind cons) =
        then_decided _ _ (kind_decided base kind)
        (λ k. then_decided _ _ (before_decided one_value one_constraint one_cons_fault names base (type_of ts k cons))
        (adds_decided one_value one_constraint one_cons_fault names cs))

    kind_decided : (base : WrittenBase) (kind : AbstractKind) → IsDecided (FinishesKind names base kind)
    kind_decided (structure k cs) kind =
        found_decided (λ (bare : Components). kind ≡ structure_kind k bare)
        (λ (bare : Components). Then (Fills names cs bare) (λ parts. Is (structure_kind k parts)))
        (λ x y h l. one_structure k x y (sym h ∙ l))
        (λ bare. then_decided _ _ (fills_decided cs bare) (λ parts. is_decided (structure_kind k parts)))
    kind_decided (choice others) kind =
        found_decided (λ (bare : Components). kind ≡ type.choice bare)
        (λ (bare : Components). Then (FillsOthers names others bare) (λ parts. Is (type.choice parts)))
        (λ x y h l. one_choice x y (sym h ∙ l))
        (λ bare. then_decided _ _ (others_decided others bare) (λ parts. is_decided (type.choice parts)))
    kind_decided (of_type k c t) kind =
        found_decided (λ (bare : AbstractType). kind ≡ of_kind k bare)
        (λ (bare : AbstractType). Then (Finishes names t bare) (λ u. Is (of_kind k u)))
        (λ x y h l. one_element k x y (sym h ∙ l))
        (λ bare. then_decided _ _ (type_decided t bare) (λ u. is_decided (of_kind k u)))
    kind_decided base kind = is_decided kind

    fills_decided : (cs : WrittenComponents) (bare : Components) → IsDecided (Fills names cs bare)
    fills_decided no_components bare = also_decided (bare ≡ type.no_components) (Is type.no_components)
        (is_decided type.no_components)
    fills_decided (component site name t presence cs) bare =
        first_decided bare name (presence_of presence)
        (λ u rest. Then (FinishesComponent names (Finishes names t) presence name u)
        (λ one. Then (Fills names cs rest) (λ others. Is (put_before one others))))
        (λ u rest. then_decided _ _ (component_decided one_value one_constraint one_cons_fault names
        (Finishes names t) presence name u (type_decided t u))
        (λ one. then_decided _ _ (fills_decided cs rest) (λ others. is_decided (put_before one others))))
    fills_decided (components_from site t cs) bare =
        ones_decided bare (count_put_in names t)
        (λ taken rest. Then (FillsFrom names t taken)
        (λ parts. Then (Fills names cs rest) (λ others. Is (join parts others))))
        (λ taken rest. then_decided _ _ (from_decided t taken)
        (λ parts. then_decided _ _ (fills_decided cs rest) (λ others. is_decided (join parts others))))

    from_decided : (t : WrittenType) (taken : Components) → IsDecided (FillsFrom names t taken)
    from_decided (type_node site tags base cs) taken = from_base_decided base taken

    from_base_decided : (base : WrittenBase) (taken : Components) → IsDecided (FillsFromBase names base taken)
    from_base_decided (structure k cs) taken = fills_decided cs taken
    from_base_decided (named_type site name) taken =
        let by = is_decided taken in
        record {
          one = λ a b h k. by.one a b h.3 k.3;
          alone = λ a f h k. by.alone a f h.3 k.3;
          first =
              λ f g h k. by.first f g h.3 k.3;
        }
    from_base_decided base taken = never_decided

    others_decided : (others : WrittenAlternatives) (bare : Components) → IsDecided (FillsOthers names others bare)
    others_decided no_alternatives bare = also_decided (bare ≡ type.no_components) (Is type.no_components)
        (is_decided type.no_components)
    others_decided (alternative site name t others) bare =
        first_decided bare name type.mandatory
        (λ u rest. Then (FinishesComponent names (Finishes names t) mandatory name u)
        (λ one. Then (FillsOthers names others rest) (λ parts. Is (put_before one parts))))
        (λ u rest. then_decided _ _ (component_decided one_value one_constraint one_cons_fault names
        (Finishes names t) mandatory name u (type_decided t u))
        (λ one. then_decided _ _ (others_decided others rest) (λ parts. is_decided (put_before one parts))))
