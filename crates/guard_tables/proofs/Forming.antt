-- A demand fails where one of its terms does, or one of its formulas says so.
use Rattle.std.proofs.Common.{◌≡◌, ℕ, suc, ◌<◌, ◌≤◌, Bool, true, false, cond, ltb, List, [], ◌∷◌, ◌++◌, refl, sym, ap, ◌∙◌, subst, arith, inl, inr, IsTrue}
use Rattle.std.specs.Prelude.{not, ◌&&◌, ◌||◌, ◌⊎◌}
use Rattle.std.proofs.lemmas.Bool.{and_parts, eq-eqb, ne_eqb, ltb-true, ltb-false}
use Rattle.std.proofs.lemmas.List.Folds.{list_any-append}
use Rattle.guard_model.specs.AbstractType as type
use Rattle.guard_model.specs.AbstractType.{AbstractType, AbstractKind, Constraint, Constraints, Element, type_of, at, no_constraints, constraint}
use Rattle.guard_model.specs.AbstractValue.{AbstractValue}
use Rattle.guard_model.specs.Kinds.{kind_of}
use Rattle.guard_der.specs.Fits.{fits_kind}
use Rattle.guard_der.specs.Sound.{is_proper, are_proper_constraints, is_proper_constraint, is_proper_element}
use Rattle.guard_eval.specs.Member.{is_member, holds, holds_element, all_hold, some_hold, parts_are_members}
use Rattle.guard_eval.specs.Elements.{has_size}
use Rattle.guard_eval.specs.Presence.{element_kind}
use Rattle.guard_eval.proofs.Applied.{contained_holds, size_holds}
use Rattle.guard_eval.proofs.SameFits.{same_fits}
use Rattle.guard_tables.specs.declared.slots.Slots.{Slots}
use Rattle.guard_tables.specs.Slots.{only, has}
use Rattle.guard_tables.specs.Demands.{Demand, by_type, by_constraint, scalar, equals, sized, spelled, each, Term, meets, term_fails, terms_fail}
use Rattle.guard_tables.specs.Terms.{term, is_scalar, kind_terms}
use Rattle.guard_tables.specs.Apt.{IsApt}
use Rattle.guard_tables.specs.Formulas.{Form, never, always, fails_where}
use Rattle.guard_tables.specs.Forms.{Formula, and_terms, aside, taking, and_form, in_own, eithers, boths, own_form, turned, form_one, form_element, form_all, form_each, form_own, form_type, form, nothing_yet}
use Rattle.guard_tables.specs.Laws.{Agrees}
use Rattle.guard_tables.proofs.SlotSets.{only_law}
use Rattle.guard_tables.proofs.Speaking.{proper_constraints, contained}
use Rattle.guard_tables.proofs.Truths.{and_yes, or_no, or_again, or_swapped}
use Rattle.guard_tables.proofs.Failing.{Fails, one, kind_fails, components_fail, fits_inside, not_scalar, with_true}

-- ---- truth

with_and : (a b x y : Bool) → ((a || (b || not x)) || not y) ≡ (a || (b || not (x && y)))
with_and true b x y = refl
with_and false true x y = refl
with_and false false true y = refl
with_and false false false y = refl

not_or : (a b : Bool) → (not a && not b) ≡ not (a || b)
not_or true b = refl
not_or false b = refl

and_again : (a b c : Bool) → ((a && b) && c) ≡ (a && (b && c))
and_again true b c = refl
and_again false b c = refl

not_both : (a : Bool) → a ≡ true → a ≡ false → ⊥
not_both a p q = let same = sym p ∙ q in absurd cc

split : (a b : ℕ) → (a < b) ⊎ (b ≤ a)
split a b = by_test (ltb a b) refl
  where
    by_test : (t : Bool) → ltb a b ≡ t → (a < b) ⊎ (b ≤ a)
    by_test true e = inl (ltb-true a b e)
    by_test false e = inr (ltb-false a b e)

-- ---- lists of terms and formulas

pub of_two : (xs ys : List Term) (v : AbstractValue) (j : ℕ) → terms_fail j v (xs ++ ys) ≡ (terms_fail j v xs || terms_fail j v ys)
of_two xs ys v j = list_any-append (term_fails j v) xs ys

one_more : (ws : List Form) (w : Form) (failed : ℕ → Bool) → fails_where (eithers (ws ++ w ∷ []) never) failed ≡ (fails_where (eithers ws never) failed || fails_where w failed)
one_more [] w failed = or_no (fails_where w failed)
one_more (u ∷ ws) w failed =
    ap (λ (b : Bool). fails_where u failed || b) (one_more ws w failed) ∙ sym (or_again (fails_where u failed) (fails_where (eithers ws never) failed) (fails_where w failed))

all_more : (ws : List Form) (w : Form) (failed : ℕ → Bool) → fails_where (boths (ws ++ w ∷ []) always) failed ≡ (fails_where (boths ws always) failed && fails_where w failed)
all_more [] w failed = and_yes (fails_where w failed)
all_more (u ∷ ws) w failed =
    ap (λ (b : Bool). fails_where u failed && b) (all_more ws w failed) ∙ sym (and_again (fails_where u failed) (fails_where (boths ws always) failed) (fails_where w failed))

-- ---- what a demand with the slots k adds to what is asked so far

-- Slots from the next free one of f on, up to the last, that were free indeed: no term failed them.
abbrev Unused : AbstractValue → Formula → ℕ → Type 0
Unused v f last = (j : ℕ) → f.next ≤ j → j < last → terms_fail j v f.terms ≡ false

abbrev Free : Slots → AbstractValue → Formula → ℕ → Type 0
Free k v f last = (j : ℕ) → f.next ≤ j → j < last → (terms_fail j v f.terms ≡ false) × (has k j ≡ false)

abbrev Outside : ℕ → Formula → Formula → Type 0
Outside j f g = (j < f.next) ⊎ (g.next ≤ j)

-- of other slots it touches those alone that it takes, and its own fail where the test is false
pub record Put (k : Slots) (v : AbstractValue) (f g : Formula) (test : Bool) : Type 0 where
  pub up : f.next ≤ g.next
  pub others : (j : ℕ) → has k j ≡ false → Outside j f g → terms_fail j v g.terms ≡ terms_fail j v f.terms
  pub tells : Free k v f g.next → (failed : ℕ → Bool) → Agrees failed v g.terms f.next g.next → (j : ℕ) → has k j ≡ true
      → (terms_fail j v g.terms || fails_where (eithers g.forms never) failed) ≡ (terms_fail j v f.terms || (fails_where (eithers f.forms never) failed || not test))

put_either : (b : Bool) (k : Slots) (v : AbstractValue) (f x y : Formula) (test : Bool) → (b ≡ true → Put k v f x test) → (b ≡ false → Put k v f y test) → Put k v f (cond b x y) test
put_either true k v f x y test p q = p refl
put_either false k v f x y test p q = q refl

same_put : (k : Slots) (v : AbstractValue) (f g : Formula) (a b : Bool) → a ≡ b → Put k v f g a → Put k v f g b
same_put k v f g a b e p = subst (λ (b : Bool). Put k v f g b) e p

no_put : (k : Slots) (v : AbstractValue) (f : Formula) → Put k v f f true
no_put k v f = record {
  up = omega arith;
  others = λ j h out. refl;
  tells = λ free failed agrees j h. ap (λ (b : Bool). terms_fail j v f.terms || b) (sym (or_no (fails_where (eithers f.forms never) failed)));
}

put_terms : (k : Slots) (v : AbstractValue) (f : Formula) (ts : List Term) (test : Bool) → Fails k v ts test → Put k v f (and_terms f ts) test
put_terms k v f ts test p = record {
  up = omega arith;
  others = λ j h out. of_two f.terms ts v j ∙ ap (λ (b : Bool). terms_fail j v f.terms || b) (p j ∙ ap (λ (b : Bool). b && not test) h) ∙ or_no (terms_fail j v f.terms);
  tells = λ free failed agrees j h.
      ap (λ (b : Bool). b || fails_where (eithers f.forms never) failed) (of_two f.terms ts v j ∙ ap (λ (b : Bool). terms_fail j v f.terms || b) (p j ∙ ap (λ (b : Bool). b && not test) h))
      ∙ or_swapped (terms_fail j v f.terms) (not test) (fails_where (eithers f.forms never) failed)
      ∙ or_again (terms_fail j v f.terms) (fails_where (eithers f.forms never) failed) (not test);
}

-- both, one after the other
put_both : (k : Slots) (v : AbstractValue) (f g h : Formula) (a b : Bool) → Put k v f g a → Put k v g h b → Put k v f h (a && b)
put_both k v f g h a b p q =
    let up = p.up in
    let on = q.up in
    record {
      up = omega (arith, up, on);
      others = λ j not_own out. elim out [
        | inl o ↦ q.others j not_own (inl (omega (arith, o, up))) ∙ p.others j not_own (inl o)
        | inr o ↦ q.others j not_own (inr o) ∙ p.others j not_own (inr (omega (arith, o, on)))
      ];
      tells = λ free failed agrees j own.
          q.tells (λ i from to. let here = free i (omega (arith, from, up)) to in (p.others i here.1 (inr from) ∙ here.0, here.1)) failed (λ i from to. agrees i (omega (arith, from, up)) to) j own
          ∙ sym (or_again (terms_fail j v g.terms) (fails_where (eithers g.forms never) failed) (not b))
          ∙ ap (λ (x : Bool). x || not b)
          (p.tells (λ i from to. free i from (omega (arith, to, on))) failed (λ i from to. agrees i from (omega (arith, to, on)) ∙ q.others i (free i from (omega (arith, to, on))).1 (inl to)) j own)
          ∙ with_and (terms_fail j v f.terms) (fails_where (eithers f.forms never) failed) a b;
    }

-- ---- with a slot of its own

-- it touches those slots alone that it takes, and the form fails where the test is false
record Alone (v : AbstractValue) (f g : Formula) (w : Form) (test : Bool) : Type 0 where
  pub up : f.next ≤ g.next
  pub others : (j : ℕ) → Outside j f g → terms_fail j v g.terms ≡ terms_fail j v f.terms
  pub tells : Unused v f g.next → (failed : ℕ → Bool) → Agrees failed v g.terms f.next g.next → fails_where w failed ≡ not test

alone : (v : AbstractValue) (f g : Formula) (test : Bool) → Put (only f.next) v (taking f) g test → Alone v f g (own_form f.next g.forms) test
alone v f g test p =
    let n : ℕ = f.next in
    let up : suc n ≤ g.next = p.up in
    let not_own : (j : ℕ) → (n ≡ j → ⊥) → has (only n) j ≡ false = λ j ne. only_law n j ∙ ne_eqb n j ne in
    record {
      up = omega (arith, up);
      others = λ j out. elim out [
        | inl o ↦ p.others j (not_own j (λ e. absurd (omega (arith, o, e)))) (inl (omega (arith, o)))
        | inr o ↦ p.others j (not_own j (λ e. absurd (omega (arith, o, e, up)))) (inr o)
      ];
      tells = λ unused failed agrees.
          ap (λ (b : Bool). b || fails_where (eithers g.forms never) failed) (agrees n (omega arith) (omega (arith, up)))
          ∙ p.tells (λ j from to. (unused j (omega (arith, from)) to, not_own j (λ e. absurd (omega (arith, from, e))))) failed (λ j from to. agrees j (omega (arith, from)) to) n (only_law n n ∙ eq-eqb n n refl)
          ∙ ap (λ (b : Bool). b || not test) (unused n (omega arith) (omega (arith, up)));
    }

alone_turned : (taken : Bool) (v : AbstractValue) (f g : Formula) (w : Form) (test : Bool) → Alone v f g w test → Alone v f g (turned taken w) (cond taken (not test) test)
alone_turned true v f g w test p = record { up = p.up; others = p.others; tells = λ unused failed agrees. ap (λ (b : Bool). not b) (p.tells unused failed agrees) }
alone_turned false v f g w test p = p

-- a slot of k isn't among those that are free
far : (j : ℕ) (k : Slots) (v : AbstractValue) (f g : Formula) → Free k v f g.next → has k j ≡ true → Outside j f g
far j k v f g free own = elim (split j f.next) [
  | inl o ↦ inl o
  | inr from ↦ elim (split j g.next) [
    | inl to ↦ absurd (not_both (has k j) own (free j from to).1)
    | inr o ↦ inr o
  ]
]

put_form : (k : Slots) (v : AbstractValue) (f g : Formula) (w : Form) (test : Bool) → Alone v f g w test → Put k v f (and_form f w g) test
put_form k v f g w test p = record {
  up = p.up;
  others = λ j not_own out. p.others j out;
  tells = λ free failed agrees j own.
      let unused : Unused v f g.next = λ i from to. (free i from to).0 in
      ap (λ (b : Bool). b || fails_where (eithers (f.forms ++ w ∷ []) never) failed) (p.others j (far j k v f g free own))
      ∙ ap (λ (b : Bool). terms_fail j v f.terms || b) (one_more f.forms w failed ∙ ap (λ (b : Bool). fails_where (eithers f.forms never) failed || b) (p.tells unused failed agrees));
}

-- ---- members of a union

record Members (v : AbstractValue) (f g : Formula) (test : Bool) : Type 0 where
  pub up : f.next ≤ g.next
  pub others : (j : ℕ) → Outside j f g → terms_fail j v g.terms ≡ terms_fail j v f.terms
  pub tells : Unused v f g.next → (failed : ℕ → Bool) → Agrees failed v g.terms f.next g.next
      → fails_where (boths g.forms always) failed ≡ (fails_where (boths f.forms always) failed && not test)

no_member : (v : AbstractValue) (f : Formula) → Members v f f false
no_member v f = record { up = omega arith; others = λ j out. refl; tells = λ unused failed agrees. sym (and_yes (fails_where (boths f.forms always) failed)) }

member : (v : AbstractValue) (f g h : Formula) (w : Form) (a b : Bool) → Alone v f g w a → Members v (and_form f w g) h b → Members v f h (a || b)
member v f g h w a b p q =
    let up = p.up in
    let on = q.up in
    record {
      up = omega (arith, up, on);
      others = λ j out. elim out [
        | inl o ↦ q.others j (inl (omega (arith, o, up))) ∙ p.others j (inl o)
        | inr o ↦ q.others j (inr o) ∙ p.others j (inr (omega (arith, o, on)))
      ];
      tells = λ unused failed agrees.
          q.tells (λ i from to. p.others i (inr from) ∙ unused i (omega (arith, from, up)) to) failed (λ i from to. agrees i (omega (arith, from, up)) to)
          ∙ ap (λ (x : Bool). x && not b)
          (all_more f.forms w failed ∙ ap (λ (x : Bool). fails_where (boths f.forms always) failed && x) (p.tells (λ i from to. unused i from (omega (arith, to, on))) failed (λ i from to. agrees i from (omega (arith, to, on)) ∙ q.others i (inl to))))
          ∙ and_again (fails_where (boths f.forms always) failed) (not a) (not b)
          ∙ ap (λ (x : Bool). fails_where (boths f.forms always) failed && x) (not_or a b);
    }

union_alone : (v : AbstractValue) (f g : Formula) (test : Bool) → Members v (aside f) g test → Alone v f g (boths g.forms always) test
union_alone v f g test p = record { up = p.up; others = p.others; tells = p.tells }

-- ---- all elements

-- of a set with a slot of its own
own_alone : (taken : Bool) (v : AbstractValue) (f g : Formula) (test : Bool) → Put (only f.next) v (taking f) g test → Alone v f g (turned taken (own_form f.next g.forms)) (cond taken (not test) test)
own_alone taken v f g test p = alone_turned taken v f g (own_form f.next g.forms) test (alone v f g test p)

mutual
  one_put : (k : Slots) (c : Constraint) (f : Formula) (t : AbstractType) (v : AbstractValue) → IsTrue (is_proper_constraint c t) → IsTrue (fits_kind (kind_of t) v) → Put k v f (form_one k (kind_of t) c f) (holds c (kind_of t) v)
  one_put k (at site e) f t v h fit =
      let kind : AbstractKind = kind_of t in
      let ts : List Term = term k (scalar kind (at site e)) ∷ [] in
      put_either (is_scalar kind) k v f (and_terms f ts) (form_element k kind e f) (holds_element e kind v)
      (λ yes. put_terms k v f ts (holds_element e kind v) (one k v (scalar kind (at site e)))) (λ other. element_put k e f t v h fit other)

  element_put : (k : Slots) (e : Element) (f : Formula) (t : AbstractType) (v : AbstractValue) → IsTrue (is_proper_element e t) → IsTrue (fits_kind (kind_of t) v) → is_scalar (kind_of t) ≡ false
      → Put k v f (form_element k (kind_of t) e f) (holds_element e (kind_of t) v)
  element_put k (type.single_value w) f t v h fit other = put_terms k v f _ _ (one k v (equals w))
  element_put k (type.contained_subtype u) f t v h fit other =
      same_put k v f (form_type k u f) (is_member u v) (holds_element (type.contained_subtype u) (kind_of t) v) (contained_holds u t v h) (type_put k u f v (contained u t h).proper (fits_inside u t v h fit))
  element_put k (type.range low high) f t v h fit other = absurd (not_scalar (kind_of t) h other)
  element_put k (type.size c) f t v h fit other =
      let ts : List Term = term k (sized c) ∷ [] in
      let test : Bool = has_size (holds c (type.integer [])) v in
      same_put k v f (and_terms f ts) test (holds_element (type.size c) (kind_of t) v) (size_holds c t v h) (put_terms k v f ts test (one k v (sized c)))
  element_put k (type.permitted_alphabet ranges) f t v h fit other = put_terms k v f _ _ (one k v (spelled ranges))
  element_put k (type.with_component c) f t v h fit other = put_terms k v f _ _ (one k v (each (by_constraint (element_kind (kind_of t)) c)))
  element_put k (type.with_components partial ps) f t v h fit other = put_terms k v f _ _ (components_fail k partial ps t v h fit)
  element_put k (type.union cs) f t v h fit other =
      let g : Formula = form_each (kind_of t) cs (aside f) in
      put_form k v f g (boths g.forms always) (some_hold cs (kind_of t) v) (union_alone v f g (some_hold cs (kind_of t) v) (each_put cs (aside f) t v h fit))
  element_put k (type.intersection cs) f t v h fit other = all_put k cs f t v h fit
  element_put k (type.except c d) f t v h fit other =
      let kind : AbstractKind = kind_of t in
      let a = and_parts (is_proper_constraint c t) (is_proper_constraint d t) h in
      let g : Formula = form_one k kind c f in
      put_both k v f g (form_own true kind d g) (holds c kind v) (not (holds d kind v)) (one_put k c f t v a.0 fit)
      (put_form k v g (form_one (only g.next) kind d (taking g)) _ (not (holds d kind v)) (own_alone true v g _ (holds d kind v) (one_put (only g.next) d (taking g) t v a.1 fit)))
  element_put k (type.all_except c) f t v h fit other =
      put_form k v f (form_one (only f.next) (kind_of t) c (taking f)) _ (not (holds c (kind_of t) v)) (own_alone true v f _ (holds c (kind_of t) v) (one_put (only f.next) c (taking f) t v h fit))

  all_put : (k : Slots) (cs : Constraints) (f : Formula) (t : AbstractType) (v : AbstractValue) → IsTrue (are_proper_constraints cs t) → IsTrue (fits_kind (kind_of t) v) → Put k v f (form_all k (kind_of t) cs f) (all_hold cs (kind_of t) v)
  all_put k no_constraints f t v h fit = no_put k v f
  all_put k (constraint c cs) f t v h fit =
      let kind : AbstractKind = kind_of t in
      let a = and_parts (is_proper_constraint c t) (are_proper_constraints cs t) h in
      let g : Formula = form_one k kind c f in
      put_both k v f g (form_all k kind cs g) (holds c kind v) (all_hold cs kind v) (one_put k c f t v a.0 fit) (all_put k cs g t v a.1 fit)

  each_put : (cs : Constraints) (f : Formula) (t : AbstractType) (v : AbstractValue) → IsTrue (are_proper_constraints cs t) → IsTrue (fits_kind (kind_of t) v) → Members v f (form_each (kind_of t) cs f) (some_hold cs (kind_of t) v)
  each_put no_constraints f t v h fit = no_member v f
  each_put (constraint c cs) f t v h fit =
      let kind : AbstractKind = kind_of t in
      let a = and_parts (is_proper_constraint c t) (are_proper_constraints cs t) h in
      let g : Formula = form_one (only f.next) kind c (taking f) in
      member v f g (form_each kind cs (in_own false f g)) (own_form f.next g.forms) (holds c kind v) (some_hold cs kind v) (own_alone false v f g (holds c kind v) (one_put (only f.next) c (taking f) t v a.0 fit)) (each_put cs (in_own false f g) t v a.1 fit)

  type_put : (k : Slots) (t : AbstractType) (f : Formula) (v : AbstractValue) → IsTrue (is_proper t) → IsTrue (fits_kind (kind_of t) v) → Put k v f (form_type k t f) (is_member t v)
  type_put k (type_of tags kind cons) f v h fit =
      let g : Formula = form_all k kind cons f in
      same_put k v f (form_type k (type_of tags kind cons) f) (all_hold cons kind v && parts_are_members kind v) (is_member (type_of tags kind cons) v) (with_true (fits_kind kind v) (all_hold cons kind v) (parts_are_members kind v) fit)
      (put_both k v f g (and_terms g (kind_terms k kind)) (all_hold cons kind v) (parts_are_members kind v) (all_put k cons f (type_of tags kind cons) v (proper_constraints tags kind cons h) fit)
      (put_terms k v g (kind_terms k kind) (parts_are_members kind v) (kind_fails k kind v fit)))

standing_put : (k : Slots) (kind : AbstractKind) (c : Constraint) (f : Formula) (t : AbstractType) (v : AbstractValue) → kind_of t ≡ kind → IsTrue (is_proper_constraint c t) → IsTrue (fits_kind kind v) → Put k v f (form_one k kind c f) (holds c kind v)
standing_put k kind c f t v e h fit =
    subst (λ (of : AbstractKind). IsTrue (fits_kind of v) → Put k v f (form_one k of c f) (holds c of v)) e (λ fits. one_put k c f t v h fits) fit

pub form_put : (kind : AbstractKind) (d : Demand) (k : Slots) (f : Formula) (v : AbstractValue) → IsApt kind d → IsTrue (fits_kind kind v) → Put k v f (form k d f) (meets d v)
form_put kind (by_type t) k f v apt fit = type_put k t f v apt.1 (same_fits (kind_of t) kind v apt.0 ∙ fit)
form_put kind (by_constraint own c) k f v apt fit = standing_put k own c f apt.1.0 v apt.1.1 apt.1.2 (same_fits own kind v apt.0 ∙ fit)

-- ---- conjunctions take no slot

more_isn't_none : {A : Type 0} (xs : List A) (x : A) → xs ++ x ∷ [] ≡ [] → ⊥
more_isn't_none [] x e = absurd cc
more_isn't_none (y ∷ xs) x e = absurd cc

pub record NoneTaken (f g : Formula) : Type 0 where
  pub before : f.forms ≡ []
  pub next : g.next ≡ f.next

then_none : (f g h : Formula) → NoneTaken f g → NoneTaken g h → NoneTaken f h
then_none f g h p q = record { before = p.before; next = q.next ∙ p.next }

none_either : (b : Bool) (f x y : Formula) → (x.forms ≡ [] → NoneTaken f x) → (y.forms ≡ [] → NoneTaken f y) → (cond b x y).forms ≡ [] → NoneTaken f (cond b x y)
none_either true f x y p q e = p e
none_either false f x y p q e = q e

mutual
  one_none : (k : Slots) (kind : AbstractKind) (c : Constraint) (f : Formula) → (form_one k kind c f).forms ≡ [] → NoneTaken f (form_one k kind c f)
  one_none k kind (at site e) f =
      none_either (is_scalar kind) f (and_terms f (term k (scalar kind (at site e)) ∷ [])) (form_element k kind e f) (λ e. record { before = e; next = refl }) (λ other. element_none k kind e f other)

  element_none : (k : Slots) (kind : AbstractKind) (e : Element) (f : Formula) → (form_element k kind e f).forms ≡ [] → NoneTaken f (form_element k kind e f)
  element_none k kind (type.single_value w) f e = record { before = e; next = refl }
  element_none k kind (type.contained_subtype t) f e = type_none k t f e
  element_none k kind (type.range low high) f e = record { before = e; next = refl }
  element_none k kind (type.size c) f e = record { before = e; next = refl }
  element_none k kind (type.permitted_alphabet ranges) f e = record { before = e; next = refl }
  element_none k kind (type.with_component c) f e = record { before = e; next = refl }
  element_none k kind (type.with_components partial ps) f e = record { before = e; next = refl }
  element_none k kind (type.union cs) f e = absurd (more_isn't_none f.forms _ e)
  element_none k kind (type.intersection cs) f e = all_none k kind cs f e
  element_none k kind (type.except c d) f e = absurd (more_isn't_none (form_one k kind c f).forms _ e)
  element_none k kind (type.all_except c) f e = absurd (more_isn't_none f.forms _ e)

  all_none : (k : Slots) (kind : AbstractKind) (cs : Constraints) (f : Formula) → (form_all k kind cs f).forms ≡ [] → NoneTaken f (form_all k kind cs f)
  all_none k kind no_constraints f e = record { before = e; next = refl }
  all_none k kind (constraint c cs) f e =
      let g : Formula = form_one k kind c f in
      let later = all_none k kind cs g e in
      then_none f g (form_all k kind cs g) (one_none k kind c f later.before) later

  type_none : (k : Slots) (t : AbstractType) (f : Formula) → (form_type k t f).forms ≡ [] → NoneTaken f (form_type k t f)
  type_none k (type_of tags kind cons) f e = let p = all_none k kind cons f e in record { before = p.before; next = p.next }

pub form_none : (k : Slots) (d : Demand) (f : Formula) → (form k d f).forms ≡ [] → NoneTaken f (form k d f)
form_none k (by_type t) f e = type_none k t f e
form_none k (by_constraint kind c) f e = one_none k kind c f e

without_own : (h : Bool) (a b m x : Bool) → (h ≡ true → (a || b) ≡ (m || (b || not x))) → (h ≡ false → a ≡ m) → b ≡ false → a ≡ (m || (h && not x))
without_own true a b m x p q e = sym (ap (λ (y : Bool). a || y) e ∙ or_no a) ∙ p refl ∙ ap (λ (y : Bool). m || (y || not x)) e
without_own false a b m x p q e = q refl ∙ sym (or_no m)

-- A conjunction more: its slots fail where it isn't met.
pub conjunction : (kind : AbstractKind) (d : Demand) (k : Slots) (f : Formula) (v : AbstractValue) → IsApt kind d → IsTrue (fits_kind kind v) → (form k d f).forms ≡ [] → (j : ℕ)
    → terms_fail j v (form k d f).terms ≡ (terms_fail j v f.terms || (has k j && not (meets d v)))
conjunction kind d k f v apt fit e j =
    let g : Formula = form k d f in
    let p : Put k v f g (meets d v) = form_put kind d k f v apt fit in
    let none = form_none k d f e in
    let failed : ℕ → Bool = λ i. terms_fail i v g.terms in
    let same : f.forms ≡ g.forms = none.before ∙ sym e in
    without_own (has k j) (terms_fail j v g.terms) (fails_where (eithers g.forms never) failed) (terms_fail j v f.terms) (meets d v)
    (λ own. p.tells (λ i from to. absurd (omega (arith, from, to, none.next))) failed (λ i from to. refl) j own
    ∙ ap (λ (ws : List Form). terms_fail j v f.terms || (fails_where (eithers ws never) failed || not (meets d v))) same)
    (λ other. p.others j other (elim (split j f.next) [ inl o ↦ inl o | inr o ↦ inr (omega (arith, o, none.next)) ]))
    (ap (λ (ws : List Form). fails_where (eithers ws never) failed) e)

pub conjunction_law : (kind : AbstractKind) (d : Demand) → IsApt kind d → (k : Slots) (n : ℕ) → (form k d (nothing_yet n)).forms ≡ [] → (v : AbstractValue) → IsTrue (fits_kind kind v) → (slot : ℕ)
    → terms_fail slot v (form k d (nothing_yet n)).terms ≡ (has k slot && not (meets d v))
conjunction_law kind d apt k n e v fit j = conjunction kind d k (nothing_yet n) v apt fit e j

pub form_law : (kind : AbstractKind) (d : Demand) → IsApt kind d → (k n : ℕ) → k < n → (v : AbstractValue) → IsTrue (fits_kind kind v)
    → (failed : ℕ → Bool) → Agrees failed v (form (only k) d (nothing_yet n)).terms n (form (only k) d (nothing_yet n)).next
    → (terms_fail k v (form (only k) d (nothing_yet n)).terms || fails_where (eithers (form (only k) d (nothing_yet n)).forms never) failed) ≡ not (meets d v)
form_law kind d apt k n below v fit failed agrees =
    (form_put kind d (only k) (nothing_yet n) v apt fit).tells (λ j from to. (refl, only_law k j ∙ ne_eqb k j (λ e. absurd (omega (arith, below, from, e))))) failed agrees k (only_law k k ∙ eq-eqb k k refl)
