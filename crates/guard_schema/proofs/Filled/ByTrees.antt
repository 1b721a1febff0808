-- What is filled component by component is what the written type says, where the bare type is the one that it has by
-- its tags.
use Rattle.std.proofs.Common.{◌≡◌, ℕ, List, [], ◌∷◌, ◌++◌, take, drop, Result, Ok, Err, inl, inr, refl, sym, ap, subst}
use Rattle.std.proofs.Common.{◌∙◌, append_assoc}
use Rattle.std.proofs.lemmas.List.{append-nil}
use Rattle.guard_model.proofs.Results.{same_Ok, same_Err}
use Rattle.guard_model.specs.AbstractType as type
use Rattle.guard_model.specs.AbstractType.{AbstractType, AbstractKind, Components, Constraints, type_of}
use Rattle.guard_model.specs.Counts.{component_count}
use Rattle.guard_model.specs.TypeView.{OneComponent, components_of}
use Rattle.guard_syntax.specs.declared.tree.Collection.{Collection}
use Rattle.guard_syntax.specs.declared.tree.Collection.TheVariants as collection
use Rattle.guard_syntax.specs.Trees.{WrittenPresence, mandatory, WrittenType, type_node, WrittenBase}
use Rattle.guard_syntax.specs.Trees.{structure, choice, of_type, named_type, WrittenComponents}
use Rattle.guard_syntax.specs.Trees.{no_components, component, components_from, WrittenAlternatives, no_alternatives}
use Rattle.guard_syntax.specs.Trees.{alternative}
use Rattle.guard_tagging.specs.Types.{structure_kind, of_kind, presence_of, join}
use Rattle.guard_constraints.specs.Visible.{Visible}
use Rattle.guard_schema.specs.Outcomes.{Is, Then}
use Rattle.guard_schema.specs.Faults.{AbstractFault, Outcome}
use Rattle.guard_schema.specs.Finishing.{put_before, count_of_meant, Adds, ConstrainsBefore, FinishesComponent}
use Rattle.guard_schema.specs.Finishing.{FillsPresence, Finishes, FinishesKind, Fills, FillsFrom, FillsFromBase}
use Rattle.guard_schema.specs.Finishing.{FillsOthers}
use Rattle.guard_schema.specs.inside.InTurn.{Filling, taken_over, FillsAll, FillsNext, ListInTurn, ElementInTurn}
use Rattle.guard_schema.specs.inside.InTurn.{FinishesInTurn, KindInTurn, FillsInTurn, FromInTurn, FromBaseInTurn}
use Rattle.guard_schema.specs.inside.InTurn.{OthersInTurn}
use Rattle.guard_schema.proofs.Turns.Outcomes.{flattened}
use Rattle.guard_schema.specs.inside.Ready.{listed, constraints_on, IsMadeUp, IsMadeUpBase, AreMadeUp, IsPutIn}
use Rattle.guard_schema.specs.inside.Ready.{IsPutInBase}
use Rattle.guard_schema.specs.inside.Ready.{AreMadeUpOthers}
use Rattle.guard_schema.proofs.Filled.ReadyTypes.{taken_counted}

-- a first step that leads to another one
module _ {A B F : Type 0} (First Other : Result A F → Type 0) (Next : A → Result B F → Type 0)
    (go : (r : Result A F) → First r → Other r) where
  pub first_led : (answer : Result B F) → Then First Next answer → Then Other Next answer
  first_led answer (inl (x, h, k)) = inl (x, go (Ok x) h, k)
  first_led answer (inr (f, h, e)) = inr (f, go (Err f) h, e)

-- ---- lists of components

abbrev pub filling : List OneComponent → List OneComponent → Filling
filling done left = record { done = done; left = left }

components_listed : (cs : Components) → components_of (listed cs) ≡ cs
components_listed type.no_components = refl
components_listed (type.component name t presence cs) = ap (type.component name t presence) (components_listed cs)

pub listed_join : (xs ys : Components) → listed (join xs ys) ≡ listed xs ++ listed ys
listed_join type.no_components ys = refl
listed_join (type.component name t presence xs) ys =
    ap (λ zs. record { name = name; ty = t; presence = presence } ∷ zs) (listed_join xs ys)

taken_first : (cs : Components) (after : List OneComponent) → take (component_count cs) (listed cs ++ after) ≡ listed cs
taken_first type.no_components after = refl
taken_first (type.component name t presence cs) after =
    ap (λ zs. record { name = name; ty = t; presence = presence } ∷ zs) (taken_first cs after)

left_after : (cs : Components) (after : List OneComponent) → drop (component_count cs) (listed cs ++ after) ≡ after
left_after type.no_components after = refl
left_after (type.component name t presence cs) after = left_after cs after

moved_all : (cs : Components) (done after : List OneComponent)
    → taken_over (component_count cs) (filling done (listed cs ++ after)) ≡ filling (done ++ listed cs) after
moved_all cs done after =
    ap (λ (x : List OneComponent). filling (done ++ x) (drop (component_count cs) (listed cs ++ after)))
    (taken_first cs after)
    ∙ ap (λ (x : List OneComponent). filling (done ++ listed cs) x) (left_after cs after)

-- ---- from those that are left to those that are finished: what a list makes of its bare components, where others are
-- left after them

abbrev pub Filled : (Outcome Components → Type 0) → List OneComponent → List OneComponent → Outcome Filling → Type 0
Filled Good done after (Ok f) = (parts : Components) × Good (Ok parts) × (f ≡ filling (done ++ listed parts) after)
Filled Good done after (Err e) = Good (Err e)

abbrev pub Fitting : (Filling → Outcome Filling → Type 0) → (Outcome Components → Type 0) → Components → Type 0
Fitting Fill Good bare = (done after : List OneComponent) (answer : Outcome Filling)
    → Fill (filling done (listed bare ++ after)) answer → Filled Good done after answer

module _ (Fill : Filling → Outcome Filling → Type 0) (Good : Outcome Components → Type 0) (bare : Components)
    (fits : Fitting Fill Good bare) (wrap : Components → AbstractKind) where
  all_filled : (f : Filling) → Fill (filling [] (listed bare)) (Ok f) → (parts : Components) × Good (Ok parts)
      × (components_of f.done ≡ parts)
  all_filled f h = by (fits [] [] (Ok f) (subst (λ (xs : List OneComponent). Fill (filling [] xs) (Ok f))
      (sym (append-nil (listed bare))) h))
    where
      by : Filled Good [] [] (Ok f) → (parts : Components) × Good (Ok parts) × (components_of f.done ≡ parts)
      by (parts, good, e) = (parts, good, ap (λ (g : Filling). components_of g.done) e ∙ components_listed parts)

  wrapped : (answer : Outcome AbstractKind) → Then (FillsAll Fill (listed bare))
      (λ ps. Is (wrap (components_of ps))) answer → Then Good (λ parts. Is (wrap parts)) answer
  wrapped answer (inl (ps, inl (f, h, d), e)) = by (all_filled f h)
    where
      by : (parts : Components) × Good (Ok parts) × (components_of f.done ≡ parts)
          → Then Good (λ parts. Is (wrap parts)) answer
      by (parts, good, same) = inl (
        parts,
        good,
        e
            ∙ ap (λ (x : Components). Ok (wrap x)) (ap components_of (same_Ok ps f.done d) ∙ same),
      )
  wrapped answer (inl (ps, inr (f, h, d), e)) = absurd cc
  wrapped answer (inr (f, inl (g, h, d), e)) = absurd cc
  wrapped answer (inr (f, inr (g, h, d), e)) =
      inr (
        f,
        subst (λ (x : AbstractFault). Good (Err x)) (sym (same_Err f g d))
            (fits [] [] (Err g) (subst (λ (xs : List OneComponent). Fill (filling [] xs) (Err g))
            (sym (append-nil (listed bare))) h)),
        e,
      )

list_filled : (k : Collection) (Fill : Filling → Outcome Filling → Type 0) (Good : Outcome Components → Type 0)
    (bare : Components) → Fitting Fill Good bare
    → (answer : Outcome AbstractKind) → ListInTurn Fill (structure_kind k bare) answer
    → Then Good (λ parts. Is (structure_kind k parts)) answer
list_filled collection.Sequence Fill Good bare fits answer h = wrapped Fill Good bare fits type.sequence answer h
list_filled collection.Set Fill Good bare fits answer h = wrapped Fill Good bare fits type.set answer h

element_filled : (k : Collection) (Finish Good : AbstractType → Outcome AbstractType → Type 0) (bare : AbstractType)
    → ((r : Outcome AbstractType) → Finish bare r → Good bare r)
    → (answer : Outcome AbstractKind) → ElementInTurn Finish (of_kind k bare) answer
    → Then (Good bare) (λ u. Is (of_kind k u)) answer
element_filled collection.Sequence Finish Good bare go answer h =
    first_led (Finish bare) (Good bare) (λ u. Is (type.sequence_of u)) go answer h
element_filled collection.Set Finish Good bare go answer h =
    first_led (Finish bare) (Good bare) (λ u. Is (type.set_of u)) go answer h

-- ---- types

module _ (names : Visible) where
  one_led : (Finish Good : AbstractType → Outcome AbstractType → Type 0) (presence : WrittenPresence)
      (name : List ℕ) (bare : AbstractType) → ((r : Outcome AbstractType) → Finish bare r → Good bare r)
      → (answer : Outcome OneComponent) → FinishesComponent names Finish presence name bare answer
      → FinishesComponent names Good presence name bare answer
  one_led Finish Good presence name bare go answer h =
      first_led (Finish bare) (Good bare) (λ u. Then (FillsPresence names u presence)
      (λ p. Is (record { name = name; ty = u; presence = p }))) go answer h

  next_flat : (Finish : AbstractType → Outcome AbstractType → Type 0) (presence : WrittenPresence)
      (done left : List OneComponent) (c : OneComponent) (Rest : Filling → Outcome Filling → Type 0)
      (answer : Outcome Filling)
      → Then (FillsNext names Finish presence done (c ∷ left)) Rest answer
      → Then (FinishesComponent names Finish presence c.name c.ty)
      (λ one. Rest (filling (done ++ one ∷ []) left)) answer
  next_flat Finish presence done left c Rest answer h =
      flattened (FinishesComponent names Finish presence c.name c.ty)
      (λ (one : OneComponent). filling (done ++ one ∷ []) left) Rest answer h

  abbrev GoodNext : (AbstractType → Outcome AbstractType → Type 0) → WrittenPresence → List ℕ → AbstractType
      → (Outcome Components → Type 0) → Outcome Components → Type 0
  GoodNext Finish presence name u Good =
      Then (FinishesComponent names Finish presence name u)
      (λ one. Then Good (λ others. Is (put_before one others)))

  -- one component, and then the others
  module _ (Finish Finish' : AbstractType → Outcome AbstractType → Type 0) (presence : WrittenPresence)
      (name : List ℕ) (u : AbstractType) (go : (r : Outcome AbstractType) → Finish u r → Finish' u r)
      (Rest : Filling → Outcome Filling → Type 0) (Good : Outcome Components → Type 0) (rest : Components)
      (fits : Fitting Rest Good rest) (done after : List OneComponent) where
    then_rest : (one : OneComponent) → FinishesComponent names Finish' presence name u (Ok one)
        → (answer : Outcome Filling) → Filled Good (done ++ one ∷ []) after answer
        → Filled (GoodNext Finish' presence name u Good) done after answer
    then_rest one h (Ok f) (parts, good, e) = (
      put_before one parts,
      inl (one, h, inl (parts, good, refl)),
      e
          ∙ ap (λ (d : List OneComponent). filling d after) (append_assoc done (one ∷ []) (listed parts)),
    )
    then_rest one h (Err f) good = inl (one, h, inr (f, good, refl))

    next_filled : (p : type.AbstractPresence) (answer : Outcome Filling)
        → Then (FillsNext names Finish presence done
        (record { name = name; ty = u; presence = p } ∷ (listed rest ++ after))) Rest answer
        → Filled (GoodNext Finish' presence name u Good) done after answer
    next_filled p answer h = by (next_flat Finish presence done (listed rest ++ after)
        (record { name = name; ty = u; presence = p }) Rest answer h)
      where
        by : Then (FinishesComponent names Finish presence name u)
            (λ one. Rest (filling (done ++ one ∷ []) (listed rest ++ after))) answer
            → Filled (GoodNext Finish' presence name u Good) done after answer
        by (inl (one, i, j)) = then_rest one (one_led Finish Finish' presence name u go (Ok one) i) answer
            (fits (done ++ one ∷ []) after answer j)
        by (inr (f, i, e)) =
            subst (λ (r : Outcome Filling). Filled (GoodNext Finish' presence name u Good) done after r) (sym e)
            (inr (f, one_led Finish Finish' presence name u go (Err f) i, refl))

  -- what a list says of its bare components, where more is said of these
  module _ (Good Better : Outcome Components → Type 0) (go : (r : Outcome Components) → Good r → Better r)
      (done after : List OneComponent) where
    filled_led : (answer : Outcome Filling) → Filled Good done after answer → Filled Better done after answer
    filled_led (Ok f) (parts, good, e) = (parts, go (Ok parts) good, e)
    filled_led (Err f) good = go (Err f) good

  -- those that COMPONENTS OF puts in, and then the others
  module _ (From Rest : Filling → Outcome Filling → Type 0) (GoodFrom Good : Outcome Components → Type 0)
      (taken rest : Components) (from_fits : Fitting From GoodFrom taken) (fits : Fitting Rest Good rest)
      (done after : List OneComponent) where
    abbrev GoodBoth : Outcome Components → Type 0
    GoodBoth = Then GoodFrom (λ parts. Then Good (λ others. Is (join parts others)))

    then_others : (parts : Components) → GoodFrom (Ok parts) → (answer : Outcome Filling)
        → Filled Good (done ++ listed parts) after answer → Filled GoodBoth done after answer
    then_others parts h (Ok f) (others, good, e) = (
      join parts others,
      inl (parts, h, inl (others, good, refl)),
      e
          ∙ ap (λ (d : List OneComponent). filling d after)
          (append_assoc done (listed parts) (listed others)
          ∙ ap (λ (x : List OneComponent). done ++ x) (sym (listed_join parts others))),
    )
    then_others parts h (Err f) good = inl (parts, h, inr (f, good, refl))

    both_filled : (answer : Outcome Filling) → Then
        (From (filling done (listed taken ++ (listed rest ++ after)))) Rest answer → Filled GoodBoth done after answer
    both_filled answer (inl (m, i, j)) = by (from_fits done (listed rest ++ after) (Ok m) i)
      where
        by : Filled GoodFrom done (listed rest ++ after) (Ok m) → Filled GoodBoth done after answer
        by (parts, good, e) = then_others parts good answer
            (fits (done ++ listed parts) after answer (subst (λ (g : Filling). Rest g answer) e j))
    both_filled answer (inr (f, i, e)) = subst (λ (r : Outcome Filling). Filled GoodBoth done after r) (sym e)
        (inr (f, from_fits done (listed rest ++ after) (Err f) i, refl))

  mutual
    pub type_filled : (w : WrittenType) (bare : AbstractType) → IsMadeUp names w bare → (answer : Outcome AbstractType)
        → FinishesInTurn names w bare answer → Finishes names w bare answer
    type_filled (type_node site tags base cs) (type_of ts kind cons) b answer h =
        first_led (KindInTurn names base kind) (FinishesKind names base kind)
        (λ finished. Then (ConstrainsBefore names base (type_of ts finished cons)) (Adds names cs))
        (kind_filled base kind cons b.1) answer h

    pub kind_filled : (base : WrittenBase) (kind : AbstractKind) (cons : Constraints)
        → IsMadeUpBase names base kind cons
        → (answer : Outcome AbstractKind) → KindInTurn names base kind answer → FinishesKind names base kind answer
    kind_filled (structure k cs) kind cons (none, (bare, e, few, are)) answer h = (
      bare,
      e,
      list_filled k (FillsInTurn names cs) (Fills names cs bare) bare (components_filled cs bare are) answer
          (subst (λ (x : AbstractKind). ListInTurn (FillsInTurn names cs) x answer) e h),
    )
    kind_filled (choice others) kind cons (none, (bare, e, few, are)) answer h = (
      bare,
      e,
      wrapped (OthersInTurn names others) (FillsOthers names others bare) bare
          (others_filled others bare are) type.choice answer
          (subst (λ (x : AbstractKind). KindInTurn names (choice others) x answer) e h),
    )
    kind_filled (of_type k c t) kind cons (none, (bare, e, is)) answer h = (
      bare,
      e,
      element_filled k (FinishesInTurn names t) (Finishes names t) bare (type_filled t bare is) answer
          (subst (λ (x : AbstractKind). ElementInTurn (FinishesInTurn names t) x answer) e h),
    )
    kind_filled base kind cons b answer h = h

    pub components_filled : (cs : WrittenComponents) (bare : Components) → AreMadeUp names cs bare
        → Fitting (FillsInTurn names cs) (Fills names cs bare) bare
    components_filled no_components bare e done after answer h =
        subst (λ (r : Outcome Filling). Filled (Fills names no_components bare) done after r) (sym h) (
          type.no_components,
          (e, refl),
          ap (λ (b : Components). filling done (listed b ++ after)) e
              ∙ ap (λ (d : List OneComponent). filling d after) (sym (append-nil done)),
        )
    components_filled (component site name t presence cs) bare (u, rest, e, is, are) done after answer h =
        filled_led (GoodNext (Finishes names t) presence name u (Fills names cs rest))
        (Fills names (component site name t presence cs) bare) (λ r good. (u, rest, e, good)) done after answer
        (next_filled (FinishesInTurn names t) (Finishes names t) presence name u (type_filled t u is)
        (FillsInTurn names cs) (Fills names cs rest) rest (components_filled cs rest are) done after
        (presence_of presence) answer
        (subst (λ (b : Components). Then (FillsNext names (FinishesInTurn names t) presence done
        (listed b ++ after)) (FillsInTurn names cs) answer) e h))
    components_filled (components_from site t cs) bare (taken, rest, e, from, are) done after answer h =
        filled_led (Then (FillsFrom names t taken)
        (λ parts. Then (Fills names cs rest) (λ others. Is (join parts others))))
        (Fills names (components_from site t cs) bare)
        (λ r good. (taken, rest, e, taken_counted names t taken from, good)) done after answer
        (both_filled (FromInTurn names t) (FillsInTurn names cs) (FillsFrom names t taken)
        (Fills names cs rest) taken rest (from_filled t taken from)
        (components_filled cs rest are) done after answer
        (subst (λ (xs : List OneComponent). Then (FromInTurn names t (filling done xs)) (FillsInTurn names cs) answer)
        (ap (λ (b : Components). listed b ++ after) e
        ∙ ap (λ (x : List OneComponent). x ++ after) (listed_join taken rest)
        ∙ append_assoc (listed taken) (listed rest) after) h))

    pub from_filled : (t : WrittenType) (taken : Components) → IsPutIn names t taken
        → Fitting (FromInTurn names t) (FillsFrom names t taken) taken
    from_filled (type_node site tags base cs) taken h = from_base_filled base taken h

    pub from_base_filled : (base : WrittenBase) (taken : Components) → IsPutInBase names base taken
        → Fitting (FromBaseInTurn names base) (FillsFromBase names base taken) taken
    from_base_filled (structure k cs) taken h done after answer x = components_filled cs taken h done after answer x
    from_base_filled (named_type site name) taken (t, is, same) done after answer h =
        subst (λ (r : Outcome Filling). Filled (FillsFromBase names (named_type site name) taken) done after r) (sym h) (
          taken,
          (t, is, same, refl),
          ap (λ (n : ℕ). taken_over n (filling done (listed taken ++ after)))
              (ap count_of_meant is ∙ sym (ap component_count same)) ∙ moved_all taken done after,
        )
    from_base_filled base taken h done after answer x = absurd h

    pub others_filled : (others : WrittenAlternatives) (bare : Components) → AreMadeUpOthers names others bare
        → Fitting (OthersInTurn names others) (FillsOthers names others bare) bare
    others_filled no_alternatives bare e done after answer h =
        subst (λ (r : Outcome Filling). Filled (FillsOthers names no_alternatives bare) done after r) (sym h) (
          type.no_components,
          (e, refl),
          ap (λ (b : Components). filling done (listed b ++ after)) e
              ∙ ap (λ (d : List OneComponent). filling d after) (sym (append-nil done)),
        )
    others_filled (alternative site name t others) bare (u, rest, e, is, are) done after answer h =
        filled_led (GoodNext (Finishes names t) mandatory name u (FillsOthers names others rest))
        (FillsOthers names (alternative site name t others) bare) (λ r good. (u, rest, e, good)) done after answer
        (next_filled (FinishesInTurn names t) (Finishes names t) mandatory name u (type_filled t u is)
        (OthersInTurn names others) (FillsOthers names others rest) rest
        (others_filled others rest are) done after type.mandatory answer
        (subst (λ (b : Components). Then (FillsNext names (FinishesInTurn names t) mandatory done
        (listed b ++ after)) (OthersInTurn names others) answer) e h))
