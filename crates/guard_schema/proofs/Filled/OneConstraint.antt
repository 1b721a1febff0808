-- A sound type with one proper constraint more is sound.
use Rattle.std.proofs.Common.{◌≡◌, ℕ, Bool, ◌&&◌, Option, Some, None, refl, ap, ◌∙◌, IsTrue, List}
use Rattle.std.proofs.lemmas.Bool.{and_parts, and_from}
use Rattle.std.specs.BTreeSet.{BTreeSet}
use Rattle.guard_model.specs.declared.site.Site.{Site}
use Rattle.guard_model.specs.declared.tag.Tag.{Tag}
use Rattle.guard_model.specs.AbstractType as type
use Rattle.guard_model.specs.AbstractType.{AbstractType, AbstractKind, Constraint, Constraints, Element, Parts, type_of}
use Rattle.guard_der.specs.Sound.{is_sound, is_proper, is_proper_element, is_proper_constraint, are_proper_constraints}
use Rattle.guard_der.specs.Sound.{are_proper_parts}
use Rattle.guard_model.specs.AbstractValue.{AbstractValue}
use Rattle.guard_values.specs.SingleValues.{each_value, each_value_in_all, has_within, is_bounded}
use Rattle.guard_values.specs.declared.scope.Known.{Known}
use Rattle.guard_constraints.specs.Noted.{AreAgreed, add, with_constraint}

-- what is proper on a type doesn't depend on its other constraints
module _ (tags : List Tag) (kind : AbstractKind) (cs ds : Constraints) where
  mutual
    proper_same : (c : Constraint) → is_proper_constraint c (type_of tags kind cs) ≡ is_proper_constraint c
        (type_of tags kind ds)
    proper_same (type.at site e) = element_same e

    element_same : (e : Element) → is_proper_element e (type_of tags kind cs) ≡ is_proper_element e
        (type_of tags kind ds)
    element_same (type.with_components partial ps) = rw (parts_same ps) refl
    element_same (type.union all) = all_same all
    element_same (type.intersection all) = all_same all
    element_same (type.except c d) = rw (proper_same c, proper_same d) refl
    element_same (type.all_except c) = proper_same c
    element_same e = refl

    all_same : (all : Constraints) → are_proper_constraints all (type_of tags kind cs) ≡ are_proper_constraints all
        (type_of tags kind ds)
    all_same type.no_constraints = refl
    all_same (type.constraint c all) = rw (proper_same c, all_same all) refl

    parts_same : (ps : Parts) → are_proper_parts ps (type_of tags kind cs) ≡ are_proper_parts ps (type_of tags kind ds)
    parts_same type.no_parts = refl
    parts_same (type.part site i word ps) = rw (parts_same ps) refl
    parts_same (type.part_within site i c word ps) = rw (parts_same ps) refl

added : (all : Constraints) (c : Constraint) (t : AbstractType) → IsTrue (are_proper_constraints all t)
    → IsTrue (is_proper_constraint c t) → IsTrue (are_proper_constraints (add all c) t)
added type.no_constraints c t h k = and_from _ _ k refl
added (type.constraint d all) c t h k = let p = and_parts _ _ h in and_from _ _ p.0 (added all c t p.1 k)

pub proper_with : (t : AbstractType) (c : Constraint) → IsTrue (is_proper t) → IsTrue (is_proper_constraint c t)
    → IsTrue (is_proper (with_constraint t c))
proper_with (type_of tags kind cs) c h k =
    let p = and_parts _ _ h in
    let q = and_parts _ _ p.0 in
    let one : IsTrue (is_proper_constraint c (type_of tags kind (add cs c))) =
    proper_same tags kind (add cs c) cs c ∙ k in
    let others : IsTrue (are_proper_constraints cs (type_of tags kind (add cs c))) =
    all_same tags kind (add cs c) cs cs ∙ q.1 in
    and_from _ _ (and_from _ _ q.0 (added cs c (type_of tags kind (add cs c)) others one)) p.1

pub sound_with : (t : AbstractType) (c : Constraint) → IsTrue (is_sound t) → IsTrue (is_proper_constraint c t)
    → IsTrue (is_sound (with_constraint t c))
sound_with (type_of tags kind cs) c h k =
    let p = and_parts _ _ h in
    let q = and_parts _ _ p.0 in
    and_from _ _ (and_from _ _ (proper_with (type_of tags kind cs) c q.0 k) q.1) p.1

-- it has the base that the type has without it
pub agreed_with : (known : Known) (t : AbstractType) (c : Constraint) (places : BTreeSet ℕ) → AreAgreed known t places
    → AreAgreed known (with_constraint t c) places
agreed_with known (type_of tags kind cs) c places agreed = agreed

-- SIZE says nothing of its values
pub bounded_with_size : (t : AbstractType) (site : Site) (inner : Constraint) (bound : Option ℕ) → IsTrue (is_bounded bound t)
    → IsTrue (is_bounded bound (with_constraint t (type.at site (type.size inner))))
bounded_with_size t site inner None h = h
bounded_with_size (type_of tags kind cs) site inner (Some n) h = as_before cs ∙ h
  where
    test : AbstractValue → Bool
    test = has_within n kind

    as_before : (all : Constraints) → each_value_in_all test (add all (type.at site (type.size inner))) ≡ each_value_in_all test all
    as_before type.no_constraints = refl
    as_before (type.constraint c all) = ap (λ (b : Bool). each_value test c && b) (as_before all)
