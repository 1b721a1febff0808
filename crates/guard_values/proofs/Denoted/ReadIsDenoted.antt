-- What is read is what the definition says of a tree.
use Rattle.std.proofs.Common.{◌≡◌, ℕ, zero, suc, ◌+◌, Bool, true, false, cond, not, ◌&&◌, ℤ, List, [], ◌∷◌, Option, Some, None, Ok, Err, inl, inr, option_map, refl, sym, ap, ◌∙◌, subst, arith}
use Rattle.std.specs.Prelude.{nat_le, nat_lt}
use Rattle.std.proofs.lemmas.Bool.{and_from}
use Rattle.std.proofs.lemmas.Bool.Decides.{eqb_tells}
use Rattle.std.proofs.lemmas.Grind.{common_steps}
use Rattle.guard_model.specs.Answer.{◌>>=◌}
use Rattle.guard_model.proofs.Results.{same_Ok, bind_ok, made_ok, guard_ok}
use Rattle.guard_model.specs.declared.site.Site.{Site}
use Rattle.guard_model.specs.AbstractType as type
use Rattle.guard_model.specs.AbstractType.{AbstractType, AbstractKind, AbstractPresence, Components, no_components, component}
use Rattle.guard_model.specs.AbstractValue as value
use Rattle.guard_model.specs.AbstractValue.{AbstractValue, Fields, items_of}
use Rattle.guard_tagcheck.specs.Distinct.{component_type}
use Rattle.guard_der.specs.Der.{der}
use Rattle.guard_der.specs.ProperConstraints.{is_short}
use Rattle.guard_model.specs.Slots.{all_absent}
use Rattle.guard_der.specs.Reading.{is_filled, fill, field_before}
use Rattle.guard_syntax.specs.Trees as written
use Rattle.guard_syntax.specs.Trees.{WrittenNumber, WrittenArc, WrittenValue, WrittenValueForm, WrittenEntries, value_node, no_entries, entry}
use Rattle.guard_values.specs.declared.fault.ValueFault.{ValueFault}
use Rattle.guard_values.specs.declared.fault.ValueFault.TheVariants.{WrongNotation, UnknownName, RepeatedComponent, OutOfOrder, BadObjectId, TooLarge}
use Rattle.guard_values.specs.ObjectIdentifiers.{arc_numbers, too_large_arc, are_arcs}
use Rattle.guard_values.specs.Meanings.{Governed, Meaning, own_number}
use Rattle.guard_model.specs.Kinds.{kind_of}
use Rattle.guard_values.specs.NamedBits.{ones_at}
use Rattle.guard_values.proofs.SingleValues.NamedBits.{places_said}
use Rattle.guard_values.specs.Simple.{bits_value, boolean_value, null_value, integer_value, text_value, within_limits, arcs_value, numbered_value, visible_value, named_value}
use Rattle.guard_values.specs.Places.{Located, located, entry_place, entry_places, is_among, are_in_order, are_different, LeftOut, FieldDenotes, FieldsDenote}
use Rattle.guard_values.specs.Arrangement.{arranged, are_short}
use Rattle.guard_values.specs.Denotes.{alternatives_of, ChosenDenotes, are_few, BracesDenote, Says, FormSays, EntrySays, EntriesSay}
use Rattle.guard_values.specs.inside.Reading.{Read, answered, read_places, read_integer, string_fault, limited_arcs, read_arcs, read_named, placed, entry_at, settled, completed, limited, few, read_chosen, read_fields, read_braces, perhaps_limited, site_of, element_at, read, read_form, read_entries, read_elements}
use Rattle.guard_values.specs.Forms.{are_too_few_arcs}
use Rattle.guard_values.proofs.Denoted.SettledFields.{field_at, HasFields, has_absent, has_filled, nothing_at, filled_there, kept_elsewhere, unfilled_elsewhere, located_type}

-- ---- without a value inside

pub answered_ok : {A : Type 0} (f : ValueFault) (o : Option A) (v : A) → answered f o ≡ Ok v → o ≡ Some v
answered_ok f None v e = absurd cc
answered_ok f (Some w) v e = ap Some (same_Ok w v e)

integer_said : (site : Site) (kind : AbstractKind) (n : WrittenNumber) (v : AbstractValue) → read_integer site kind n ≡ Ok v → integer_value kind n ≡ Some v
integer_said site (type.integer ns) n v e = answered_ok (TooLarge n.site) (integer_value (type.integer ns) n) v e
integer_said site _ n v e = absurd cc

named_said : (site : Site) (t : AbstractType) (own : Option ℤ) (visible : Option Governed) (v : AbstractValue) → read_named site t own visible ≡ Ok v → named_value own t visible ≡ Some v
named_said site t (Some z) visible v e = answered_ok (TooLarge site) (numbered_value (kind_of t) z) v e
named_said site t None None v e = absurd cc
named_said site t None (Some g) v e = answered_ok (WrongNotation site) (visible_value t (Some g)) v e

lawful_said : (f : ValueFault) (b : Bool) (w v : AbstractValue) → cond b (Ok w) (Err f) ≡ Ok v → cond b (Some w) None ≡ Some v
lawful_said f true w v e = ap Some (same_Ok w v e)
lawful_said f false w v e = absurd cc

limits_said : (site : Site) (large : Option Site) (arcs : List ℕ) (v : AbstractValue) → limited_arcs site large arcs ≡ Ok v → within_limits large arcs ≡ Some v
limits_said site (Some s) arcs v e = absurd cc
limits_said site None arcs v e = lawful_said (BadObjectId site) (are_arcs arcs) (value.object_identifier arcs) v e

arcs_said : (site : Site) (kind : AbstractKind) (arcs : List WrittenArc) (v : AbstractValue) → read_arcs site kind arcs ≡ Ok v → arcs_value kind arcs ≡ Some v
arcs_said site type.object_identifier arcs v e = limits_said site (too_large_arc arcs) (arc_numbers arcs) v e
arcs_said site _ arcs v e = absurd cc

-- ---- a chosen alternative

chosen_there : (site : Site) (found : Option Located) (value_read : AbstractType → Read AbstractValue) (v : AbstractValue)
    → (answered (UnknownName site) found >>= λ l. value_read l.ty >>= λ w. Ok (value.chosen l.place w)) ≡ Ok v
    → (l : Located) × (w : AbstractValue) × (found ≡ Some l) × (value_read l.ty ≡ Ok w) × (v ≡ value.chosen l.place w)
chosen_there site None value_read v e = absurd cc
chosen_there site (Some l) value_read v e = let m = made_ok (value_read l.ty) (λ w. value.chosen l.place w) v e in (l, m.0, refl, m.1, sym m.2)

chosen_said : (site : Site) (kind : AbstractKind) (name : List ℕ) (value_read : AbstractType → Read AbstractValue) (Denoted : AbstractType → AbstractValue → Type 0) (v : AbstractValue)
    → ((u : AbstractType) (w : AbstractValue) → value_read u ≡ Ok w → Denoted u w) → read_chosen site kind name value_read ≡ Ok v → ChosenDenotes name (alternatives_of kind) Denoted v
chosen_said site (type.choice cs) name value_read Denoted v says e = let c = chosen_there site (located name cs) value_read v e in (c.0, c.1, c.2, says c.0.ty c.1 c.3, c.4)
chosen_said site _ name value_read Denoted v says e = absurd cc

-- ---- elements

pub limited_ok : (site : Site) (t : AbstractType) (w v : AbstractValue) → limited site t w ≡ Ok v → (is_short (der t v) ≡ true) × (w ≡ v)
limited_ok site t w v e = split (is_short (der t w)) refl e where
  split : (b : Bool) → is_short (der t w) ≡ b → cond b (Ok w) (Err (TooLarge site)) ≡ Ok v → (is_short (der t v) ≡ true) × (w ≡ v)
  split true short e = let same : w ≡ v = same_Ok w v e in (let P : AbstractValue → Type 0 = λ x. is_short (der t x) ≡ true in subst P same short, same)
  split false short e = absurd cc

perhaps_ok : (short : Bool) (site : Site) (t : AbstractType) (w v : AbstractValue) → perhaps_limited short site t w ≡ Ok v → (short ≡ true → is_short (der t v) ≡ true) × (w ≡ v)
perhaps_ok true site t w v e = let p = limited_ok site t w v e in (λ _. p.0, p.1)
perhaps_ok false site t w v e = (λ h. absurd cc, same_Ok w v e)

element_ok : (short : Bool) (t : AbstractType) (site place : Site) (value_read : Read AbstractValue) (v : AbstractValue) → element_at short t site None place value_read ≡ Ok v
    → (value_read ≡ Ok v) × (short ≡ true → is_short (der t v) ≡ true)
element_ok short t site place value_read v e =
    let b = bind_ok value_read (λ w. perhaps_limited short place t w) v e in
    let p = perhaps_ok short place t b.0 v b.2 in
    (b.1 ∙ ap Ok p.1, p.0)

pub few_ok : (site : Site) (vs ws : List AbstractValue) → few site vs ≡ Ok ws → (are_few vs ≡ true) × (vs ≡ ws)
few_ok site vs ws e = split (are_few vs) refl e where
  split : (b : Bool) → are_few vs ≡ b → cond b (Ok vs) (Err (TooLarge site)) ≡ Ok ws → (are_few vs ≡ true) × (vs ≡ ws)
  split true is e = (is, same_Ok vs ws e)
  split false is e = absurd cc

-- ---- entries for components

pub placed_ok : (ordered : Bool) (next : ℕ) (fs : Fields) (site : Site) (found : Option Located) (l : Located) → placed ordered next fs site found ≡ Ok l
    → (found ≡ Some l) × (is_filled l.place fs ≡ false) × ((ordered && nat_lt l.place next) ≡ false)
placed_ok ordered next fs site None l e = absurd cc
placed_ok ordered next fs site (Some k) l e =
    let one = guard_ok (is_filled k.place fs) (RepeatedComponent site) (cond (ordered && nat_lt k.place next) (Err (OutOfOrder site)) (Ok k)) l e in
    let two = guard_ok (ordered && nat_lt k.place next) (OutOfOrder site) (Ok k) l one.1 in
    let same : k ≡ l = same_Ok k l two.1 in
    let P : Located → Type 0 = λ x. (◌≡◌ {A = Option Located} (Some k) (Some x)) × (is_filled x.place fs ≡ false) × ((ordered && nat_lt x.place next) ≡ false) in
    subst P same (refl, one.0, two.0)

not_late : (ordered : Bool) (place next : ℕ) → (ordered && nat_lt place next) ≡ false → ordered ≡ true → nat_le next place ≡ true
not_late true place next e h = grind (arith, common_steps)
not_late false place next e h = absurd cc

pub entry_ok : (ordered : Bool) (cs : Components) (next : ℕ) (fs : Fields) (site : Site) (name : Option (List ℕ)) (value_read : AbstractType → Read AbstractValue) (x : ℕ × AbstractValue)
    → entry_at ordered cs next fs site name value_read ≡ Ok x
    → (l : Located) × (entry_place cs name ≡ Some l.place) × (component_type l.place cs ≡ Some l.ty) × (is_filled l.place fs ≡ false) × (ordered ≡ true → nat_le next l.place ≡ true) × (value_read l.ty ≡ Ok x.1) × (l.place ≡ x.0)
entry_ok ordered cs next fs site None value_read x e = absurd cc
entry_ok ordered cs next fs site (Some name) value_read x e =
    let b = bind_ok (placed ordered next fs site (located name cs)) (λ l. value_read l.ty >>= λ v. Ok (l.place, v)) x e in
    let l = b.0 in
    let p = placed_ok ordered next fs site (located name cs) l b.1 in
    let m = made_ok (value_read l.ty) (λ v. (l.place, v)) x b.2 in
    let P : ℕ × AbstractValue → Type 0 = (λ y. (value_read l.ty ≡ Ok y.1) × (l.place ≡ y.0)) in
    let same = subst P m.2 (m.1, refl) in
    (l, ap (option_map (λ k. k.place)) p.0, located_type cs name l p.0, p.1, not_late ordered l.place next p.2, same.0, same.1)

-- what the entries leave in the fields
pub record EntriesSaid (m : Meaning) (ordered : Bool) (cs : Components) (next : ℕ) (before after : Fields) (es : WrittenEntries) : Type 0 where
  pub different : are_different (entry_places cs es) ≡ true
  pub free : (j : ℕ) → is_among j (entry_places cs es) ≡ true → is_filled j before ≡ false
  pub order : ordered ≡ true → are_in_order next (entry_places cs es) ≡ true
  pub kept : (j : ℕ) → is_among j (entry_places cs es) ≡ false → field_at j after ≡ field_at j before
  pub given : (j : ℕ) (u : AbstractType) → is_among j (entry_places cs es) ≡ true → component_type j cs ≡ Some u → (v : AbstractValue) × (field_at j after ≡ Some v) × EntrySays m cs es j u v
  pub shape : HasFields cs after

filled_where : (j : ℕ) (v : AbstractValue) (fs : Fields) → field_at j fs ≡ Some v → is_filled j fs ≡ true
filled_where j v value.no_fields e = absurd cc
filled_where zero v (value.present w fs) e = refl
filled_where zero v (value.absent fs) e = absurd cc
filled_where (suc j) v (value.present w fs) e = filled_where j v fs e
filled_where (suc j) v (value.absent fs) e = filled_where j v fs e

not_among : (b : Bool) → (b ≡ true → ⊥) → b ≡ false
not_among true h = absurd (h refl)
not_among false h = refl

module _ (m : Meaning) (ordered : Bool) (cs : Components) (next : ℕ) (before : Fields) (site : Site) (name : Option (List ℕ)) (tree : WrittenValue) (rest : WrittenEntries)
    (p : ℕ) (t : AbstractType) (v : AbstractValue) (place : entry_place cs name ≡ Some p) (ty : component_type p cs ≡ Some t) (unfilled : is_filled p before ≡ false) (lawful : ordered ≡ true → nat_le next p ≡ true)
    (said : Says m t tree v) (shape : HasFields cs before) (after : Fields) (more : EntriesSaid m ordered cs (suc p) (fill p v before) after rest) where
  there : field_at p (fill p v before) ≡ Some v
  there = filled_there cs p t v before shape ty

  once : is_among p (entry_places cs rest) ≡ false
  once = not_among (is_among p (entry_places cs rest)) (λ among.
      let full : is_filled p (fill p v before) ≡ true = filled_where p v (fill p v before) there in
      let free : is_filled p (fill p v before) ≡ false = more.free p among in
      absurd cc)

  places : entry_places cs (entry site name tree rest) ≡ Some p ∷ entry_places cs rest
  places = ap (λ (o : Option ℕ). o ∷ entry_places cs rest) place

  free_here : (j : ℕ) → is_among j (Some p ∷ entry_places cs rest) ≡ true → is_filled j before ≡ false
  free_here j among = elim (eqb_tells j p) [
    | inl h ↦ let P : ℕ → Type 0 = λ n. is_filled n before ≡ false in subst P (sym h.1) unfilled
    | inr h ↦ sym (unfilled_elsewhere p j v before h.0) ∙ more.free j (rw h.0 at among)
  ]

  kept_here : (j : ℕ) → is_among j (Some p ∷ entry_places cs rest) ≡ false → field_at j after ≡ field_at j before
  kept_here j among = elim (eqb_tells j p) [
    | inl h ↦ absurd (let e : is_among j (Some p ∷ entry_places cs rest) ≡ true = rw h.0 refl in cc)
    | inr h ↦ more.kept j (rw h.0 at among) ∙ kept_elsewhere p j v before h.0
  ]

  given_here : (j : ℕ) (u : AbstractType) → is_among j (Some p ∷ entry_places cs rest) ≡ true → component_type j cs ≡ Some u → (w : AbstractValue) × (field_at j after ≡ Some w) × EntrySays m cs (entry site name tree rest) j u w
  given_here j u among e = elim (eqb_tells j p) [
    | inl h ↦
        let P : ℕ → Type 0 = (λ n. component_type n cs ≡ Some u → (w : AbstractValue) × (field_at n after ≡ Some w) × EntrySays m cs (entry site name tree rest) n u w) in
        subst P (sym h.1) (λ f.
        let both : ◌≡◌ {A = Option AbstractType} (Some t) (Some u) = sym ty ∙ f in
        let same : t ≡ u = cc in
        let Q : AbstractType → Type 0 = λ x. Says m x tree v in
        (v, more.kept p once ∙ there, inl (place, subst Q same said))) e
    | inr h ↦ let g = more.given j u (rw h.0 at among) e in (g.0, g.1, inr g.2)
  ]

  with_entry : EntriesSaid m ordered cs next before after (entry site name tree rest)
  with_entry =
      let P : List (Option ℕ) → Type 0 = λ ps. are_different ps ≡ true in
      let Q : List (Option ℕ) → Type 0 = λ ps. (j : ℕ) → is_among j ps ≡ true → is_filled j before ≡ false in
      let R : List (Option ℕ) → Type 0 = λ ps. ordered ≡ true → are_in_order next ps ≡ true in
      let S : List (Option ℕ) → Type 0 = λ ps. (j : ℕ) → is_among j ps ≡ false → field_at j after ≡ field_at j before in
      let T : List (Option ℕ) → Type 0 = (λ ps. (j : ℕ) (u : AbstractType) → is_among j ps ≡ true → component_type j cs ≡ Some u → (w : AbstractValue) × (field_at j after ≡ Some w) × EntrySays m cs (entry site name tree rest) j u w) in
      record {
        different = subst P (sym places) (and_from (not (is_among p (entry_places cs rest))) (are_different (entry_places cs rest)) (rw once refl) more.different);
        free = subst Q (sym places) free_here;
        order = subst R (sym places) (λ o. and_from (nat_le next p) (are_in_order (suc p) (entry_places cs rest)) (lawful o) (more.order o));
        kept = subst S (sym places) kept_here;
        given = subst T (sym places) given_here;
        shape = more.shape;
      }

-- ---- what components are after the last entry

settled_given : (site : Site) (presence : AbstractPresence) (v : AbstractValue) (field : Option AbstractValue) → settled site presence (Some v) ≡ Ok field → field ≡ Some v
settled_given site presence v field e = sym (same_Ok (Some v) field e)

settled_left_out : (site : Site) (presence : AbstractPresence) (field : Option AbstractValue) → settled site presence None ≡ Ok field → LeftOut presence field
settled_left_out site type.mandatory field e = absurd cc
settled_left_out site type.pending field e = absurd cc
settled_left_out site type.optional field e = sym (same_Ok None field e)
settled_left_out site (type.default d) field e = sym (same_Ok (Some d) field e)

-- the places that entries name hold a value that is denoted, the others nothing
abbrev pub Given : List (Option ℕ) → (ℕ → AbstractType → AbstractValue → Type 0) → ℕ → Components → Fields → Type 0
Given places Denoted i cs cur =
    ((j k : ℕ) (u : AbstractType) → k ≡ i + j → is_among k places ≡ true → component_type j cs ≡ Some u → (v : AbstractValue) × (field_at j cur ≡ Some v) × Denoted k u v)
    × ((j k : ℕ) → k ≡ i + j → is_among k places ≡ false → field_at j cur ≡ None)

field_said : (site : Site) (b : Bool) (Denoted : AbstractValue → Type 0) (presence : AbstractPresence) (slot field : Option AbstractValue)
    → (b ≡ true → (v : AbstractValue) × (slot ≡ Some v) × Denoted v) → (b ≡ false → slot ≡ None) → settled site presence slot ≡ Ok field → FieldDenotes b Denoted presence field
field_said site true Denoted presence slot field present_one nowhere e =
    let g = present_one refl in
    (g.0, settled_given site presence g.0 field (sym (ap (settled site presence) g.1) ∙ e), g.2)
field_said site false Denoted presence slot field present_one nowhere e = settled_left_out site presence field (sym (ap (settled site presence) (nowhere refl)) ∙ e)

field_first : (given : List (Option ℕ)) (Denoted : ℕ → AbstractType → AbstractValue → Type 0) (i : ℕ) (name : List ℕ) (t : AbstractType) (presence : AbstractPresence) (rest : Components) (field : Option AbstractValue) (gs : Fields)
    → FieldDenotes (is_among i given) (Denoted i t) presence field → FieldsDenote given Denoted (suc i) rest gs → FieldsDenote given Denoted i (component name t presence rest) (field_before field gs)
field_first given Denoted i name t presence rest None gs h others = (h, others)
field_first given Denoted i name t presence rest (Some v) gs h others = (h, others)

component_said : (site : Site) (places : List (Option ℕ)) (Denoted : ℕ → AbstractType → AbstractValue → Type 0) (i : ℕ) (name : List ℕ) (t : AbstractType) (presence : AbstractPresence) (rest : Components)
    (slot : Option AbstractValue) (cur : Fields) (fs : Fields) → (is_among i places ≡ true → (v : AbstractValue) × (slot ≡ Some v) × Denoted i t v) → (is_among i places ≡ false → slot ≡ None)
    → ((gs : Fields) → completed site rest cur ≡ Ok gs → FieldsDenote places Denoted (suc i) rest gs)
    → (settled site presence slot >>= λ f. completed site rest cur >>= λ gs. Ok (field_before f gs)) ≡ Ok fs → FieldsDenote places Denoted i (component name t presence rest) fs
component_said site places Denoted i name t presence rest slot cur fs there nowhere others e =
    let b = bind_ok (settled site presence slot) (λ f. completed site rest cur >>= λ gs. Ok (field_before f gs)) fs e in
    let c = made_ok (completed site rest cur) (λ gs. field_before b.0 gs) fs b.2 in
    let first = field_said site (is_among i places) (Denoted i t) presence slot b.0 there nowhere b.1 in
    subst (FieldsDenote places Denoted i (component name t presence rest)) c.2 (field_first places Denoted i name t presence rest b.0 c.0 first (others c.0 c.1))

given_after : (places : List (Option ℕ)) (Denoted : ℕ → AbstractType → AbstractValue → Type 0) (i : ℕ) (name : List ℕ) (t : AbstractType) (presence : AbstractPresence) (rest : Components) (slot : Option AbstractValue) (cur : Fields)
    → Given places Denoted i (component name t presence rest) (field_before slot cur) → Given places Denoted (suc i) rest cur
given_after places Denoted i name t presence rest None cur h = (λ j k u e a c. h.0 (suc j) k u (omega (arith, e)) a c, λ j k e a. h.1 (suc j) k (omega (arith, e)) a)
given_after places Denoted i name t presence rest (Some v) cur h = (λ j k u e a c. h.0 (suc j) k u (omega (arith, e)) a c, λ j k e a. h.1 (suc j) k (omega (arith, e)) a)

pub completed_said : (site : Site) (places : List (Option ℕ)) (Denoted : ℕ → AbstractType → AbstractValue → Type 0) (i : ℕ) (cs : Components) (cur fs : Fields)
    → Given places Denoted i cs cur → HasFields cs cur → completed site cs cur ≡ Ok fs → FieldsDenote places Denoted i cs fs
unfolding completed
completed_said site places Denoted i no_components value.no_fields fs h shape e = subst (FieldsDenote places Denoted i no_components) (same_Ok value.no_fields fs e) tt
completed_said site places Denoted i no_components (value.present w cur) fs h shape e = absurd shape
completed_said site places Denoted i no_components (value.absent cur) fs h shape e = absurd shape
completed_said site places Denoted i (component name t presence rest) value.no_fields fs h shape e = absurd shape
completed_said site places Denoted i (component name t presence rest) (value.present w cur) fs h shape e =
    component_said site places Denoted i name t presence rest (Some w) cur fs (λ a. h.0 0 i t (omega arith) a refl) (λ a. h.1 0 i (omega arith) a)
    (λ gs f. completed_said site places Denoted (suc i) rest cur gs (given_after places Denoted i name t presence rest (Some w) cur h) shape f) e
completed_said site places Denoted i (component name t presence rest) (value.absent cur) fs h shape e =
    component_said site places Denoted i name t presence rest None cur fs (λ a. h.0 0 i t (omega arith) a refl) (λ a. h.1 0 i (omega arith) a)
    (λ gs f. completed_said site places Denoted (suc i) rest cur gs (given_after places Denoted i name t presence rest None cur h) shape f) e

-- ---- values in braces

module _ (m : Meaning) (es : WrittenEntries)
    (elements : (short : Bool) (u : AbstractType) (ws : List AbstractValue) → read_elements m true short u es ≡ Ok ws → EntriesSay m u es ws × (short ≡ true → are_short u ws ≡ true))
    (entries : (ordered : Bool) (cs : Components) (after : Fields) → read_entries m true ordered cs 0 (all_absent cs) es ≡ Ok after → EntriesSaid m ordered cs 0 (all_absent cs) after es) where
  -- what the entries leave, as the components' fields are settled from it
  pub entries_given : (ordered : Bool) (cs : Components) (after : Fields) → EntriesSaid m ordered cs 0 (all_absent cs) after es → Given (entry_places cs es) (λ i u w. EntrySays m cs es i u w) 0 cs after
  entries_given ordered cs after s = (
    λ j k u e a c. let same : j ≡ k = omega (arith, e) in
        let P : ℕ → Type 0 = (λ n. is_among n (entry_places cs es) ≡ true → (v : AbstractValue) × (field_at j after ≡ Some v) × EntrySays m cs es n u v) in
        subst P same (λ among. s.given j u among c) a,
    λ j k e a. let same : j ≡ k = omega (arith, e) in
        let P : ℕ → Type 0 = (λ n. is_among n (entry_places cs es) ≡ false → field_at j after ≡ None) in
        subst P same (λ among. s.kept j among ∙ nothing_at cs j) a,
  )

  pub fields_said : (site : Site) (ordered : Bool) (cs : Components) (v : AbstractValue) → read_fields site cs (read_entries m true ordered cs 0 (all_absent cs) es) ≡ Ok v
      → (are_different (entry_places cs es) ≡ true) × (ordered ≡ true → are_in_order 0 (entry_places cs es) ≡ true)
      × ((fs : Fields) × FieldsDenote (entry_places cs es) (λ i u w. EntrySays m cs es i u w) 0 cs fs × (v ≡ value.fields fs))
  fields_said site ordered cs v e =
      let b = bind_ok (read_entries m true ordered cs 0 (all_absent cs) es) (λ given. completed site cs given >>= λ fs. Ok (value.fields fs)) v e in
      let s = entries ordered cs b.0 b.1 in
      let c = made_ok (completed site cs b.0) (λ fs. value.fields fs) v b.2 in
      (s.different, s.order, (c.0, completed_said site (entry_places cs es) (λ i u w. EntrySays m cs es i u w) 0 cs b.0 c.0 (entries_given ordered cs b.0 s) s.shape c.1, sym c.2))

  pub listed_said : (site : Site) (short : Bool) (u : AbstractType) (make : List AbstractValue → AbstractValue) (v : AbstractValue) → (read_elements m true short u es >>= λ vs. few site vs >>= λ xs. Ok (make xs)) ≡ Ok v
      → (ws : List AbstractValue) × EntriesSay m u es ws × (are_few ws ≡ true) × (short ≡ true → are_short u ws ≡ true) × (v ≡ make ws)
  listed_said site short u make v e =
      let b = bind_ok (read_elements m true short u es) (λ vs. few site vs >>= λ xs. Ok (make xs)) v e in
      let c = made_ok (few site b.0) make v b.2 in
      let f = few_ok site b.0 c.0 c.1 in
      let s = elements short u b.0 b.1 in
      (b.0, s.0, f.0, s.1, sym c.2 ∙ ap make (sym f.1))

  too_few_fault : (b : Bool) (f g : ValueFault) (v : AbstractValue) → cond b (Err f) (Err g) ≡ Ok v → ⊥
  too_few_fault true f g v e = absurd cc
  too_few_fault false f g v e = absurd cc

  pub braces_said : (kind : AbstractKind) (site : Site) (v : AbstractValue)
      → read_braces true site kind es (λ ordered cs. read_entries m true ordered cs 0 (all_absent cs) es) (λ short u. read_elements m true short u es) ≡ Ok v
      → BracesDenote kind es (λ cs i u w. EntrySays m cs es i u w) (λ u ws. EntriesSay m u es ws) v
  braces_said (type.sequence cs) site v e = let f = fields_said site true cs v e in (f.1 refl, f.2)
  braces_said (type.set cs) site v e = let f = fields_said site false cs v e in (f.0, f.2)
  braces_said (type.sequence_of u) site v e = let l = listed_said site false u (λ ws. value.items (items_of ws)) v e in (l.0, l.1, l.2, l.4)
  braces_said (type.set_of u) site v e = let l = listed_said site true u (λ ws. value.items (items_of (arranged u ws))) v e in (l.0, l.1, l.2, l.3 refl, l.4)
  braces_said type.object_identifier site v e = absurd (too_few_fault (are_too_few_arcs es) (BadObjectId site) (WrongNotation site) v e)
  braces_said (type.bit_string []) site v e = absurd cc
  braces_said (type.bit_string (name ∷ names)) site v e =
      let c = made_ok (read_places (name ∷ names) es) (λ places. bits_value (ones_at places)) v e in (c.0, places_said (name ∷ names) es c.0 c.1, sym c.2)
  braces_said _ site v e = absurd cc

-- ---- all trees

mutual
  unfolding read

  pub read_said : (m : Meaning) (tree : WrittenValue) (t : AbstractType) (v : AbstractValue) → read m true t tree ≡ Ok v → Says m t tree v
  read_said m (value_node site form) t v e = form_said m form site t v e

  form_said : (m : Meaning) (form : WrittenValueForm) (site : Site) (t : AbstractType) (v : AbstractValue) → read_form m true t site form ≡ Ok v → FormSays m t form v
  form_said m (written.boolean b) site t v e = answered_ok (WrongNotation site) (boolean_value (kind_of t) b) v e
  form_said m written.null site t v e = answered_ok (WrongNotation site) (null_value (kind_of t)) v e
  form_said m (written.integer n) site t v e = integer_said site (kind_of t) n v e
  form_said m (written.text k spelling) site t v e = answered_ok (string_fault site (kind_of t) k) (text_value (kind_of t) k spelling) v e
  form_said m (written.reference name) site t v e = named_said site t (own_number (kind_of t) name) (m name) v e
  form_said m (written.chosen name tree) site t v e = chosen_said site (kind_of t) name (λ u. read m true u tree) (λ u w. Says m u tree w) v (λ u w f. read_said m tree u w f) e
  form_said m (written.list es) site t v e =
      braces_said m es (λ short u ws f. elements_said m es short u ws f) (λ ordered cs after f. entries_said m es ordered cs 0 (all_absent cs) after (has_absent cs) f) (kind_of t) site v e
  form_said m (written.arcs arcs) site t v e = arcs_said site (kind_of t) arcs v e

  pub elements_said : (m : Meaning) (es : WrittenEntries) (short : Bool) (t : AbstractType) (ws : List AbstractValue) → read_elements m true short t es ≡ Ok ws → EntriesSay m t es ws × (short ≡ true → are_short t ws ≡ true)
  elements_said m no_entries short t ws e = (sym (same_Ok [] ws e), λ _. ap (are_short t) (sym (same_Ok [] ws e)))
  elements_said m (entry site None tree rest) short t ws e =
      let b = bind_ok (element_at short t site None (site_of tree) (read m true t tree)) (λ v. read_elements m true short t rest >>= λ more. Ok (v ∷ more)) ws e in
      let c = made_ok (read_elements m true short t rest) (λ more. b.0 ∷ more) ws b.2 in
      let first = element_ok short t site (site_of tree) (read m true t tree) b.0 b.1 in
      let others = elements_said m rest short t c.0 c.1 in
      ((b.0, c.0, read_said m tree t b.0 first.0, others.0, sym c.2), λ s. ap (are_short t) (sym c.2) ∙ and_from (is_short (der t b.0)) (are_short t c.0) (first.1 s) (others.1 s))
  elements_said m (entry site (Some name) tree rest) short t ws e = absurd cc

  pub entries_said : (m : Meaning) (es : WrittenEntries) (ordered : Bool) (cs : Components) (next : ℕ) (before after : Fields) → HasFields cs before
      → read_entries m true ordered cs next before es ≡ Ok after → EntriesSaid m ordered cs next before after es
  entries_said m no_entries ordered cs next before after shape e =
      let same : before ≡ after = same_Ok before after e in
      record {
        different = refl;
        free = λ j a. absurd cc;
        order = λ _. refl;
        kept = λ j a. ap (field_at j) (sym same);
        given = λ j u a c. absurd cc;
        shape = subst (HasFields cs) same shape;
      }
  entries_said m (entry site name tree rest) ordered cs next before after shape e =
      let b = bind_ok (entry_at ordered cs next before site name (λ u. read m true u tree)) (λ x. read_entries m true ordered cs (suc x.0) (fill x.0 x.1 before) rest) after e in
      let x = b.0 in
      let o = entry_ok ordered cs next before site name (λ u. read m true u tree) x b.1 in
      let l = o.0 in
      let P : ℕ → Type 0 = (λ n. read_entries m true ordered cs (suc n) (fill n x.1 before) rest ≡ Ok after) in
      with_entry m ordered cs next before site name tree rest l.place l.ty x.1 o.1 o.2 o.3 o.4 (read_said m tree l.ty x.1 o.5) shape after
      (entries_said m rest ordered cs (suc l.place) (fill l.place x.1 before) after (has_filled cs l.place x.1 before shape) (subst P (sym o.6) b.2))
