-- The elements and the components of a sound type are sound, and so is the type of a size.
use Rattle.std.proofs.Common.{◌≡◌, ℕ, zero, suc, ◌+◌, ◌≤◌, max, Bool, true, false, ◌&&◌, List, length, Option, Some, None, refl, subst, arith}
use Rattle.std.specs.Prelude.{nat_le, IsTrue}
use Rattle.std.specs.Option.{option_or}
use Rattle.std.proofs.lemmas.Bool.{and_parts, and_from, leb-true, le-leb}
use Rattle.guard_model.specs.declared.site.Step.{Step}
use Rattle.guard_model.specs.declared.site.Step.TheVariants.{Component, Element}
use Rattle.guard_model.specs.declared.tag.Tag.{Tag}
use Rattle.guard_model.specs.AbstractType as type
use Rattle.guard_model.specs.AbstractType.{AbstractType, Components, Constraints, type_of, no_components, component}
use Rattle.guard_model.specs.Components.{components_in}
use Rattle.guard_model.specs.Counts.{component_count}
use Rattle.guard_tagcheck.specs.Distinct.{AbstractClash, component_type}
use Rattle.guard_tagcheck.specs.Search.{first_clash, first_pair, here, inside, clash_inside}
use Rattle.guard_tagcheck.specs.Limits.{nesting, deepest}
use Rattle.guard_der.specs.Sound.{is_sound, is_proper, are_proper, is_proper_presence, none_clash}
use Rattle.guard_model.specs.Kinds.{type_of_size, element_of, kind_of}
use Rattle.guard_values.specs.Places.{Located}
use Rattle.guard_values.proofs.Denoted.SettledFields.{located_type}
use Rattle.guard_constraints.specs.ListedParts.{named_in}

pub size_sound : IsTrue (is_sound type_of_size)
size_sound = refl

sound_parts : (t : AbstractType) → IsTrue (is_sound t) → IsTrue (is_proper t) × IsTrue (none_clash (first_clash t)) × IsTrue (nat_le (nesting t) 32)
sound_parts t h =
    let a = and_parts (is_proper t && none_clash (first_clash t)) (nat_le (nesting t) 32) h in
    let b = and_parts (is_proper t) (none_clash (first_clash t)) a.0 in
    (b.0, b.1, a.1)

sound_from : (t : AbstractType) → IsTrue (is_proper t) → IsTrue (none_clash (first_clash t)) → IsTrue (nat_le (nesting t) 32) → IsTrue (is_sound t)
sound_from t proper distinct shallow =
    and_from (is_proper t && none_clash (first_clash t)) (nat_le (nesting t) 32) (and_from (is_proper t) (none_clash (first_clash t)) proper distinct) shallow

clash_within : (s : Step) (c : Option AbstractClash) → IsTrue (none_clash (inside s c)) → IsTrue (none_clash c)
clash_within s None h = refl
clash_within s (Some c) h = absurd cc

after_tags : (m n : ℕ) → IsTrue (nat_le (m + n) 32) → IsTrue (nat_le n 32)
after_tags m n h = le-leb n 32 (omega (arith, leb-true (m + n) 32 h))

after_choice : (m n : ℕ) → IsTrue (nat_le (m + suc n) 32) → IsTrue (nat_le n 32)
after_choice m n h = le-leb n 32 (omega (arith, leb-true (m + suc n) 32 h))

list_element : (tags : List Tag) (cons : Constraints) (u : AbstractType) → IsTrue (is_sound (type_of tags (type.sequence_of u) cons)) → IsTrue (is_sound u)
list_element tags cons u h =
    let k = sound_parts (type_of tags (type.sequence_of u) cons) h in
    sound_from u (and_parts _ (is_proper u) k.0).1 (clash_within (Element 0) (first_clash u) k.1) (after_tags (length tags) (nesting u) k.2)

set_element : (tags : List Tag) (cons : Constraints) (u : AbstractType) → IsTrue (is_sound (type_of tags (type.set_of u) cons)) → IsTrue (is_sound u)
set_element tags cons u h =
    let k = sound_parts (type_of tags (type.set_of u) cons) h in
    sound_from u (and_parts _ (is_proper u) k.0).1 (clash_within (Element 0) (first_clash u) k.1) (after_tags (length tags) (nesting u) k.2)

pub element_sound : (t u : AbstractType) → IsTrue (is_sound t) → element_of (kind_of t) ≡ Some u → IsTrue (is_sound u)
element_sound (type_of tags (type.sequence_of w) cons) u h e = let same : w ≡ u = cc in let P : AbstractType → Type 0 = λ x. IsTrue (is_sound x) in subst P same (list_element tags cons w h)
element_sound (type_of tags (type.set_of w) cons) u h e = let same : w ≡ u = cc in let P : AbstractType → Type 0 = λ x. IsTrue (is_sound x) in subst P same (set_element tags cons w h)
element_sound (type_of tags _ cons) u h e = absurd cc

-- ---- components and alternatives

-- each passes the tests, where the first of them is component i: proper, without a clash, not nested too deep
abbrev EachSound : ℕ → Components → Type 0
EachSound i cs = IsTrue (are_proper cs) × IsTrue (none_clash (clash_inside i cs)) × IsTrue (nat_le (deepest cs) 32)

not_deeper : (m n : ℕ) → IsTrue (nat_le (max m n) 32) → IsTrue (nat_le m 32) × IsTrue (nat_le n 32)
not_deeper m n h = let b = leb-true (max m n) 32 h in (le-leb m 32 (omega (arith, b)), le-leb n 32 (omega (arith, b)))

none_both : (a b : Option AbstractClash) → IsTrue (none_clash (option_or a b)) → IsTrue (none_clash a) × IsTrue (none_clash b)
none_both None b h = (refl, h)
none_both (Some c) b h = absurd cc

-- the type of the component at a place
type_sound : (cs : Components) (i k : ℕ) (u : AbstractType) → EachSound k cs → component_type i cs ≡ Some u → IsTrue (is_sound u)
type_sound no_components i k u h e = absurd cc
type_sound (component name t presence rest) zero k u h e =
    let same : t ≡ u = cc in
    let a = and_parts (is_proper t && is_proper_presence t presence) (are_proper rest) h.0 in
    let clash = none_both (inside (Component k) (first_clash t)) (clash_inside (suc k) rest) h.1 in
    let depth = not_deeper (nesting t) (deepest rest) h.2 in
    let P : AbstractType → Type 0 = λ x. IsTrue (is_sound x) in
    subst P same (sound_from t (and_parts (is_proper t) (is_proper_presence t presence) a.0).0 (clash_within (Component k) (first_clash t) clash.0) depth.0)
type_sound (component name t presence rest) (suc i) k u h e =
    let a = and_parts (is_proper t && is_proper_presence t presence) (are_proper rest) h.0 in
    let clash = none_both (inside (Component k) (first_clash t)) (clash_inside (suc k) rest) h.1 in
    let depth = not_deeper (nesting t) (deepest rest) h.2 in
    type_sound rest i (suc k) u (a.1, clash.1, depth.1) e

pub component_sound : (t : AbstractType) (name : List ℕ) (p : Located) → IsTrue (is_sound t) → named_in (kind_of t) name ≡ Some p → IsTrue (is_sound p.ty)
component_sound (type_of tags (type.sequence cs) cons) name p h e =
    let k = sound_parts (type_of tags (type.sequence cs) cons) h in
    let proper = (and_parts (nat_le (component_count cs) 64) (are_proper cs) (and_parts _ (nat_le (component_count cs) 64 && are_proper cs) k.0).1).1 in
    type_sound cs p.place 0 p.ty (proper, (none_both (here (first_pair true 0 cs)) (clash_inside 0 cs) k.1).1, after_tags (length tags) (deepest cs) k.2) (located_type cs name p e)
component_sound (type_of tags (type.set cs) cons) name p h e =
    let k = sound_parts (type_of tags (type.set cs) cons) h in
    let proper = (and_parts (nat_le (component_count cs) 64) (are_proper cs) (and_parts _ (nat_le (component_count cs) 64 && are_proper cs) k.0).1).1 in
    type_sound cs p.place 0 p.ty (proper, (none_both (here (first_pair false 0 cs)) (clash_inside 0 cs) k.1).1, after_tags (length tags) (deepest cs) k.2) (located_type cs name p e)
component_sound (type_of tags (type.choice cs) cons) name p h e =
    let k = sound_parts (type_of tags (type.choice cs) cons) h in
    let proper = (and_parts (nat_le (component_count cs) 64) (are_proper cs) (and_parts _ (nat_le (component_count cs) 64 && are_proper cs) k.0).1).1 in
    type_sound cs p.place 0 p.ty (proper, (none_both (here (first_pair false 0 cs)) (clash_inside 0 cs) k.1).1, after_choice (length tags) (deepest cs) k.2) (located_type cs name p e)
component_sound (type_of tags _ cons) name p h e = absurd cc

-- ---- how many components there are

few_there : (n : ℕ) (rest : Bool) → IsTrue (nat_le n 64 && rest) → n ≤ 64
few_there n rest h = leb-true n 64 (and_parts (nat_le n 64) rest h).0

pub few_components : (t : AbstractType) → IsTrue (is_sound t) → component_count (components_in (kind_of t)) ≤ 64
few_components (type_of tags (type.sequence cs) cons) h = few_there (component_count cs) (are_proper cs) (and_parts _ (nat_le (component_count cs) 64 && are_proper cs) (sound_parts (type_of tags (type.sequence cs) cons) h).0).1
few_components (type_of tags (type.set cs) cons) h = few_there (component_count cs) (are_proper cs) (and_parts _ (nat_le (component_count cs) 64 && are_proper cs) (sound_parts (type_of tags (type.set cs) cons) h).0).1
few_components (type_of tags (type.choice cs) cons) h = few_there (component_count cs) (are_proper cs) (and_parts _ (nat_le (component_count cs) 64 && are_proper cs) (sound_parts (type_of tags (type.choice cs) cons) h).0).1
few_components (type_of tags _ cons) h = omega arith
