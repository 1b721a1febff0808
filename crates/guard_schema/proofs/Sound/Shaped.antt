-- Where tags tell the parts of a type apart and it isn't nested too deep, so it is with each of its parts; and so it is
-- with a type of the same shape.
use Rattle.std.proofs.Common.{◌≡◌, ℕ, suc, ◌+◌, max, Bool, true, false, ◌&&◌, List, length, Option, Some, None, IsTrue}
use Rattle.std.proofs.Common.{refl, sym, ap}
use Rattle.std.proofs.Common.{◌∙◌, arith}
use Rattle.std.specs.Prelude.{nat_le}
use Rattle.std.specs.Option.{option_or}
use Rattle.std.proofs.lemmas.Bool.{and_parts, and_from, leb-true, le-leb}
use Rattle.guard_model.specs.declared.site.Step.{Step}
use Rattle.guard_model.specs.declared.site.Step.TheVariants.{Component, Element}
use Rattle.guard_model.specs.declared.tag.Tag.{Tag}
use Rattle.guard_model.specs.AbstractType as type
use Rattle.guard_model.specs.AbstractType.{AbstractType, Components, Constraints, type_of}
use Rattle.guard_tagcheck.specs.Distinct.{AbstractClash}
use Rattle.guard_tagcheck.specs.Search.{first_clash, first_pair, here, inside, clash_inside}
use Rattle.guard_tagcheck.specs.Limits.{nesting, deepest}
use Rattle.guard_der.specs.Sound.{has_distinct_tags, none_clash}
use Rattle.guard_syntax.specs.declared.tree.Collection.{Collection}
use Rattle.guard_syntax.specs.declared.tree.Collection.TheVariants as collection
use Rattle.guard_tagging.specs.Types.{structure_kind, of_kind, join}
use Rattle.guard_schema.specs.inside.Ready.{is_shaped, are_shaped}
use Rattle.guard_schema.proofs.Sound.Shapes.{shape}
use Rattle.guard_schema.proofs.Sound.Clashes.{clash_shape, nesting_shape}

-- ---- parts

clash_within : (s : Step) (c : Option AbstractClash) → IsTrue (none_clash (inside s c)) → IsTrue (none_clash c)
clash_within s None h = refl
clash_within s (Some c) h = absurd cc

none_both : (a b : Option AbstractClash) → IsTrue (none_clash (option_or a b))
    → IsTrue (none_clash a) × IsTrue (none_clash b)
none_both None b h = (refl, h)
none_both (Some c) b h = absurd cc

after_tags : (m n : ℕ) → IsTrue (nat_le (m + n) 32) → IsTrue (nat_le n 32)
after_tags m n h = le-leb n 32 (omega (arith, leb-true (m + n) 32 h))

after_choice : (m n : ℕ) → IsTrue (nat_le (m + suc n) 32) → IsTrue (nat_le n 32)
after_choice m n h = le-leb n 32 (omega (arith, leb-true (m + suc n) 32 h))

not_deeper : (m n : ℕ) → IsTrue (nat_le (max m n) 32) → IsTrue (nat_le m 32) × IsTrue (nat_le n 32)
not_deeper m n h = let b = leb-true (max m n) 32 h in (le-leb m 32 (omega (arith, b)), le-leb n 32 (omega (arith, b)))

all_shaped : (i : ℕ) (cs : Components) → IsTrue (none_clash (clash_inside i cs)) → IsTrue (nat_le (deepest cs) 32)
    → IsTrue (are_shaped cs)
all_shaped i type.no_components h d = refl
all_shaped i (type.component name t presence cs) h d =
    let clash = none_both (inside (Component i) (first_clash t)) (clash_inside (suc i) cs) h in
    let depth = not_deeper (nesting t) (deepest cs) d in
    and_from (is_shaped t) (are_shaped cs)
    (and_from (has_distinct_tags t) (nat_le (nesting t) 32) (clash_within (Component i) (first_clash t) clash.0)
    depth.0)
    (all_shaped (suc i) cs clash.1 depth.1)

parts_of_shape : (t : AbstractType) → IsTrue (is_shaped t)
    → IsTrue (has_distinct_tags t) × IsTrue (nat_le (nesting t) 32)
parts_of_shape t h = and_parts (has_distinct_tags t) (nat_le (nesting t) 32) h

pub structure_shaped : (k : Collection) (tags : List Tag) (cs : Components) (cons : Constraints)
    → IsTrue (is_shaped (type_of tags (structure_kind k cs) cons)) → IsTrue (are_shaped cs)
structure_shaped collection.Sequence tags cs cons h =
    let p = parts_of_shape (type_of tags (type.sequence cs) cons) h in
    all_shaped 0 cs (none_both (here (first_pair true 0 cs)) (clash_inside 0 cs) p.0).1
    (after_tags (length tags) (deepest cs) p.1)
structure_shaped collection.Set tags cs cons h =
    let p = parts_of_shape (type_of tags (type.set cs) cons) h in
    all_shaped 0 cs (none_both (here (first_pair false 0 cs)) (clash_inside 0 cs) p.0).1
    (after_tags (length tags) (deepest cs) p.1)

pub choice_shaped : (tags : List Tag) (cs : Components) (cons : Constraints)
    → IsTrue (is_shaped (type_of tags (type.choice cs) cons)) → IsTrue (are_shaped cs)
choice_shaped tags cs cons h =
    let p = parts_of_shape (type_of tags (type.choice cs) cons) h in
    all_shaped 0 cs (none_both (here (first_pair false 0 cs)) (clash_inside 0 cs) p.0).1
    (after_choice (length tags) (deepest cs) p.1)

element_of_shape : (tags : List Tag) (u : AbstractType) → IsTrue (none_clash (inside (Element 0) (first_clash u)))
    → IsTrue (nat_le (length tags + nesting u) 32) → IsTrue (is_shaped u)
element_of_shape tags u h d = and_from (has_distinct_tags u) (nat_le (nesting u) 32)
    (clash_within (Element 0) (first_clash u) h) (after_tags (length tags) (nesting u) d)

pub element_shaped : (k : Collection) (tags : List Tag) (u : AbstractType) (cons : Constraints)
    → IsTrue (is_shaped (type_of tags (of_kind k u) cons)) → IsTrue (is_shaped u)
element_shaped collection.Sequence tags u cons h =
    let p = parts_of_shape (type_of tags (type.sequence_of u) cons) h in
    element_of_shape tags u p.0 p.1
element_shaped collection.Set tags u cons h =
    let p = parts_of_shape (type_of tags (type.set_of u) cons) h in
    element_of_shape tags u p.0 p.1

pub shaped_join : (xs ys : Components) → IsTrue (are_shaped (join xs ys))
    → IsTrue (are_shaped xs) × IsTrue (are_shaped ys)
shaped_join type.no_components ys h = (refl, h)
shaped_join (type.component name t presence xs) ys h =
    let p = and_parts (is_shaped t) (are_shaped (join xs ys)) h in
    let q = shaped_join xs ys p.1 in
    (and_from (is_shaped t) (are_shaped xs) p.0 q.0, q.1)

-- ---- the same shape

pub shaped_same : (t u : AbstractType) → shape t ≡ shape u → is_shaped t ≡ is_shaped u
shaped_same t u e =
    let clash : first_clash t ≡ first_clash u = sym (clash_shape t) ∙ ap first_clash e ∙ clash_shape u in
    let depth : nesting t ≡ nesting u = sym (nesting_shape t) ∙ ap nesting e ∙ nesting_shape u in
    ap (λ (c : Option AbstractClash). none_clash c && nat_le (nesting t) 32) clash
    ∙ ap (λ (n : ℕ). has_distinct_tags u && nat_le n 32) depth
