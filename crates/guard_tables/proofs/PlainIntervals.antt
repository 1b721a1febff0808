-- Contents octets that spell a number which passes all tests of an INTEGER node.
use Rattle.std.proofs.Common.{◌≡◌, ℕ, zero, suc, ℤ, Bool, cond, map, get_or, true, false, ◌<◌, ◌≤◌, List, [], ◌∷◌, length, Option, Some, None, refl, sym, subst, ap, ◌∙◌, arith}
use Rattle.std.specs.Prelude.{◌&&◌, ◌||◌, ◌≤ℤ◌, int_le, option_map}
use Rattle.std.specs.Int.Signed.{lt_z}
use Rattle.std.proofs.lemmas.Int.{ints, to_z-of_z}
use mir.Syntax.{w32, w128}
use mir.Val.{SFits, to_z, of_z}
use Rattle.std.specs.Option.{is_none}
use Rattle.std.specs.Ordering.{int_eq}
use Rattle.std.proofs.Math.Bool.{or-true}
use Rattle.std.proofs.lemmas.Bool.{cond-true}
use Rattle.std.proofs.lemmas.Bool.Decides.{Decides-int_eq}
use Rattle.guard_model.specs.declared.tag.Tag.{Tag}
use Rattle.guard_model.specs.AbstractType.{NamedNumber}
use Rattle.guard_model.specs.AbstractValue as value
use Rattle.guard_der.specs.Octets.{twos_complement}
use Rattle.guard_der.specs.declared.breach.Code.{Code}
use Rattle.guard_der.specs.declared.breach.Code.TheVariants as code
use Rattle.guard_model.specs.NamedLists.{is_item, named_view}
use Rattle.guard_model.specs.declared.ty.Named.{Named}
use Rattle.guard_der.specs.Simple.{integer_fault, enumerated_fault}
use Rattle.guard_tables.specs.declared.node.Hot.{Hot}
use Rattle.guard_tables.specs.declared.node.Cold.{Cold}
use Rattle.guard_tables.specs.declared.node.Kind.{Kind}
use Rattle.guard_tables.specs.declared.node.Kind.TheVariants.{Simple}
use Rattle.guard_tables.specs.declared.node.SimpleKind.{SimpleKind}
use Rattle.guard_tables.specs.declared.node.SimpleKind.TheVariants.{Integer, Enumerated}
use Rattle.guard_tables.specs.declared.slots.Slots.{Slots}
use Rattle.guard_tables.specs.Slots.{none}
use Rattle.guard_tables.specs.Formulas.{failed_unless}
use Rattle.guard_tables.specs.Marking.{facts, conditions_marked}
use Rattle.guard_tables.specs.Plan.{AbstractCondition, Body, simple, body_in, tags_in}
use Rattle.guard_tables.specs.TableNodes.{Spot, spot_of, spot_at, own_tags, tags_of_kind, conditions_of, body_of_kind, is_default, is_lawful, octets_marked, IsFree}
use Rattle.guard_tables.specs.inside.Intervals.{PassesAll, IsItemPassed, IsPassed}
use Rattle.guard_tables.specs.NodeViews.{kind_view, unnamed}

passes_all : (z : ℤ) (cs : List AbstractCondition) (os : Option (List ℕ)) (m : Slots) → PassesAll z cs
    → conditions_marked cs (facts (value.integer z) os) m ≡ m
passes_all z [] os m h = refl
passes_all z (c ∷ cs) os m h =
    ap (λ b. conditions_marked cs (facts (value.integer z) os) (failed_unless b c.slots m)) (h.0 os)
    ∙ passes_all z cs os m h.1

body_is : (h : Hot) (c : Cold) (spots : List Spot) (k : SimpleKind) → h.kind ≡ Simple k
    → body_in (spot_of h c spots).plan ≡ simple (kind_view k c.items) (conditions_of c)
unfolding spot_of
body_is h c spots k e = ap (λ (k : Kind). body_of_kind k h c spots) e

few_own : (tag : Option Tag) → length (own_tags tag) ≤ 1
few_own None = omega arith
few_own (Some t) = omega arith

pub plain_free : (h : Hot) (c : Cold) (spots : List Spot) (os : List ℕ) (k : SimpleKind) → h.kind ≡ Simple k → c.present ≡ none
    → c.default ≡ None → IsPassed k c os → IsFree (spot_of h c spots) os
unfolding spot_of
plain_free h c spots os k kind present default passed = record {
  single = subst (λ (k : Kind). length (tags_of_kind k c.tag (tags_in (spot_at spots h.first).plan)) ≤ 1) (sym kind) (few_own c.tag);
  lawful = ap (λ (b : Body). is_lawful b os) (body_is h c spots k kind) ∙ ap is_none passed.lawful;
  free = λ m. ap (λ (b : Body). octets_marked b os m) (body_is h c spots k kind) ∙ passed.free m;
  present = present;
  new = ap (λ d. is_default (option_map (λ v. v.items) d) os) default;
}

-- ---- of INTEGER and ENUMERATED

pub integer_passed : (c : Cold) (os : List ℕ) → integer_fault os ≡ None → PassesAll (twos_complement os) (conditions_of c) → IsPassed Integer c os
integer_passed c os lawful passes = record {
  lawful = lawful;
  free = λ m. passes_all (twos_complement os) (conditions_of c) (Some os) m passes;
}

known_number : (f : Option Code) (b : Bool) → f ≡ None → b ≡ true
    → ◌≡◌ {A = Option Code} (elim f [ Some c ↦ Some c | None ↦ cond b None (Some code.UnknownEnumeration) ]) None
known_number None b e is = cond-true b _ _ is
known_number (Some c) b e is = absurd cc

item_lawful : (items : List NamedNumber) (os : List ℕ) → integer_fault os ≡ None → is_item (twos_complement os) items ≡ true → enumerated_fault items os ≡ None
item_lawful items os lawful item = known_number (integer_fault os) (is_item (twos_complement os) items) lawful item

pub item_passed : (c : Cold) (os : List ℕ) → integer_fault os ≡ None → IsItemPassed (twos_complement os) c.items (conditions_of c) → IsPassed Enumerated c os
item_passed c os lawful passed = record {
  lawful = item_lawful (map unnamed c.items) os lawful passed.0;
  free = λ m. passes_all (twos_complement os) (conditions_of c) (Some os) m passed.1;
}

pub item_at : (items : List Named) (k : ℕ) (d : Named) → k < length items → is_item (get_or items k d).number (map unnamed (map (λ n. n.number) (map named_view items))) ≡ true
item_at [] k d lt = absurd (omega (arith, lt))
item_at (n ∷ items) zero d lt = ap (λ (b : Bool). b || is_item n.number (map unnamed (map (λ n. n.number) (map named_view items)))) ((Decides-int_eq n.number n.number).1 refl)
item_at (n ∷ items) (suc k) d lt =
    ap (λ (b : Bool). int_eq (get_or items k d).number n.number || b) (item_at items k d (omega (arith, lt))) ∙ or-true (int_eq (get_or items k d).number n.number)

-- the item at a place, whose number is copied
pub found_item : (items : List Named) (cs : List AbstractCondition) (k : ℕ) (item : Named) (z : ℤ) → k < length items → item ≡ get_or items k item → SFits w128 item.number
    → (z ≡ to_z w128 (of_z w128 item.number)) × PassesAll (to_z w128 (of_z w128 item.number)) cs → IsItemPassed z (map (λ n. n.number) (map named_view items)) cs
found_item items cs k item z lt is fits p =
    let same = to_z-of_z w128 item.number fits in
    let passes : PassesAll item.number cs = subst (λ (n : ℤ). PassesAll n cs) same p.1 in
    let there : is_item item.number (map unnamed (map (λ n. n.number) (map named_view items))) ≡ true =
    ap (λ (n : Named). is_item n.number (map unnamed (map (λ n. n.number) (map named_view items)))) is ∙ item_at items k item lt in
    subst (λ (n : ℤ). IsItemPassed n (map (λ n. n.number) (map named_view items)) cs) (sym (p.0 ∙ same)) (there, passes)

-- ---- numbers in ranges

pub in_both : (pl ph rl rh low high z : ℤ) → rl ≤ℤ low → pl ≤ℤ low → high ≤ℤ rh → high ≤ℤ ph → low ≤ℤ z → z ≤ℤ high
    → ((pl ≤ℤ z) × (z ≤ℤ ph)) × ((int_le rl z && int_le z rh) ≡ true)
in_both pl ph rl rh low high z a b c d e f = ((omega (arith, ints), omega (arith, ints)), grind (arith, ints))

pub in_order : (low high : ℤ) → SFits w128 low → SFits w128 high
    → lt_z (to_z w128 (of_z w128 high)) (to_z w128 (of_z w128 low)) ≡ false → low ≤ℤ high
in_order low high a b e = grind (arith, ints)

-- a number between two of 32 bits, as it is cast
pub narrowed : (from to n : ℤ) → SFits w32 from → SFits w32 to → SFits w128 n → from ≤ℤ n → n ≤ℤ to
    → to_z w32 (of_z w32 (to_z w128 (of_z w128 n))) ≡ n
narrowed from to n a b c d e = omega (arith, ints)
