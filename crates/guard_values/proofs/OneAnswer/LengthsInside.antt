-- What is inside a value is no longer in octets than the whole, or it is a default.
use Rattle.std.proofs.Common.{◌≡◌, ℕ, zero, suc, ◌^◌, ◌≤◌, Bool, true, false, cond, List, [], ◌∷◌, ◌++◌, length, Option, Some, None, refl, sym, ap, ◌∙◌, subst, arith}
use Rattle.std.specs.Prelude.{nat_le, nat_lt, option_and_then}
use Rattle.std.proofs.lemmas.Bool.{and_parts}
use Rattle.std.proofs.lemmas.Grind.{common_steps}
use Rattle.std.proofs.lemmas.List.{length-append}
use Rattle.guard_model.specs.declared.tag.Tag.{Tag}
use Rattle.guard_model.proofs.Sameness.{equal_values}
use Rattle.guard_model.specs.AbstractType as type
use Rattle.guard_model.specs.AbstractType.{AbstractType, AbstractPresence, Components, type_of, no_components, component}
use Rattle.guard_model.specs.AbstractValue as value
use Rattle.guard_model.specs.AbstractValue.{AbstractValue, Fields, items_of}
use Rattle.guard_tagcheck.specs.Distinct.{component_type}
use Rattle.guard_der.specs.Der.{Part, der, contents_octets, alternative_octets, parts_of, part_unless, is_left_out, outermost, parts_joined, insert_part, ascending, tag_before, is_constructed, item_encodings, joined, ◌>>=◌}
use Rattle.guard_der.specs.Element.{identifier_octets, length_octets, element, tagged}
use Rattle.guard_der.specs.Fits.{fits}
use Rattle.guard_der.specs.ProperConstraints.{is_short}
use Rattle.guard_der.specs.Sound.{is_proper_presence, are_proper}
use Rattle.guard_model.specs.Kinds.{kind_of}
use Rattle.guard_values.proofs.Denoted.SettledFields.{field_at}
use Rattle.guard_values.proofs.Braces.ProperComponents.{proper_parts}

-- octets, at most so many
abbrev pub Within : ℕ → Option (List ℕ) → Type 0
Within limit o = (os : List ℕ) × (o ≡ Some os) × (length os ≤ limit)

within_count : (n limit : ℕ) → nat_le n limit ≡ true → n ≤ limit
within_count n limit e = grind (arith, common_steps)

pub short_within : (o : Option (List ℕ)) → is_short o ≡ true → Within 1048576 o
short_within None e = absurd cc
short_within (Some os) e = (os, refl, within_count (length os) 1048576 e)

count_within : (n limit : ℕ) → n ≤ limit → nat_le n limit ≡ true
count_within n limit h = grind (arith, common_steps)

pub within_short : (o : Option (List ℕ)) → Within 1048576 o → is_short o ≡ true
within_short o h = ap is_short h.1 ∙ count_within (length h.0) 1048576 h.2

pub then_some : {A B : Type 0} (o : Option A) (f : A → Option B) (y : B) → (o >>= f) ≡ Some y → (x : A) × (o ≡ Some x) × (f x ≡ Some y)
then_some None f y e = absurd cc
then_some (Some x) f y e = (x, refl, e)

pub same_Some : {A : Type 0} (x y : A) → Some x ≡ Some y → x ≡ y
same_Some x y e = cc

-- ---- an element and its contents

element_longer : (t : Tag) (constructed : Bool) (contents whole : List ℕ) → element t constructed contents ≡ Some whole → length contents ≤ length whole
unfolding element
element_longer t constructed contents whole e = here (nat_lt (length contents) (2 ^ 32)) e where
  here : (b : Bool) → cond b (Some (identifier_octets t constructed ++ length_octets (length contents) ++ contents)) None ≡ Some whole → length contents ≤ length whole
  here true is =
      let same : identifier_octets t constructed ++ length_octets (length contents) ++ contents ≡ whole = same_Some _ _ is in
      omega (arith, ap length same, length-append {A = ℕ})
  here false is = absurd cc

wrapped_longer : (t : Tag) (contents whole : List ℕ) (o : Option (List ℕ)) → ((os : List ℕ) → o ≡ Some os → length contents ≤ length os) → option_and_then (element t true) o ≡ Some whole → length contents ≤ length whole
wrapped_longer t contents whole None inside e = absurd cc
wrapped_longer t contents whole (Some os) inside e =
    let first : length contents ≤ length os = inside os refl in
    let second : length os ≤ length whole = element_longer t true os whole e in
    omega arith

tagged_longer : (tags : List Tag) (constructed : Bool) (contents whole : List ℕ) → tagged tags constructed contents ≡ Some whole → length contents ≤ length whole
tagged_longer [] constructed contents whole e = let same : contents ≡ whole = same_Some contents whole e in omega (arith, ap length same)
tagged_longer (t ∷ []) constructed contents whole e = element_longer t constructed contents whole e
tagged_longer (t ∷ u ∷ ts) constructed contents whole e = wrapped_longer t contents whole (tagged (u ∷ ts) constructed contents) (λ os is. tagged_longer (u ∷ ts) constructed contents os is) e

pub contents_within : (limit : ℕ) (t : AbstractType) (v : AbstractValue) → Within limit (der t v) → Within limit (contents_octets (kind_of t) v)
contents_within limit (type_of tags kind cons) v h =
    let c = then_some (contents_octets kind v) (λ contents. tagged tags (is_constructed kind) contents) h.0 h.1 in
    let longer : length c.0 ≤ length h.0 = tagged_longer tags (is_constructed kind) c.0 h.0 c.2 in
    let most : length h.0 ≤ limit = h.2 in
    (c.0, c.1, omega arith)

-- ---- a chosen value

pub alternative_is : (cs : Components) (i : ℕ) (u : AbstractType) (v : AbstractValue) → component_type i cs ≡ Some u → alternative_octets cs i v ≡ der u v
alternative_is no_components i u v e = absurd cc
alternative_is (component name t presence rest) zero u v e = let same : t ≡ u = cc in ap (λ x. der x v) same
alternative_is (component name t presence rest) (suc i) u v e = alternative_is rest i u v e

-- ---- elements

-- each has such an encoding
abbrev pub AreWithin : ℕ → AbstractType → List AbstractValue → Type 0
AreWithin limit t [] = Unit {0}
AreWithin limit t (v ∷ vs) = Within limit (der t v) × AreWithin limit t vs

items_inside : (limit : ℕ) (t : AbstractType) (vs : List AbstractValue) (es : List (List ℕ)) → item_encodings (der t) (items_of vs) ≡ Some es → length (joined es) ≤ limit → AreWithin limit t vs
items_inside limit t [] es e h = tt
items_inside limit t (v ∷ vs) es e h =
    let a = then_some (der t v) (λ first. item_encodings (der t) (items_of vs) >>= λ others. Some (first ∷ others)) es e in
    let b = then_some (item_encodings (der t) (items_of vs)) (λ others. Some (a.0 ∷ others)) es a.2 in
    let same : a.0 ∷ b.0 ≡ es = same_Some (a.0 ∷ b.0) es b.2 in
    let total : length (a.0 ++ joined b.0) ≤ limit = subst (λ (xs : List (List ℕ)). length (joined xs) ≤ limit) (sym same) h in
    let first : length a.0 ≤ limit = omega (arith, length-append a.0 (joined b.0)) in
    let others : length (joined b.0) ≤ limit = omega (arith, length-append a.0 (joined b.0)) in
    ((a.0, a.1, first), items_inside limit t vs b.0 b.1 others)

pub items_within : (limit : ℕ) (t : AbstractType) (vs : List AbstractValue) → Within limit (item_encodings (der t) (items_of vs) >>= λ es. Some (joined es)) → AreWithin limit t vs
items_within limit t vs h =
    let a = then_some (item_encodings (der t) (items_of vs)) (λ es. Some (joined es)) h.0 h.1 in
    let same : joined a.0 ≡ h.0 = same_Some (joined a.0) h.0 a.2 in
    items_inside limit t vs a.0 a.1 (subst (λ (os : List ℕ). length os ≤ limit) (sym same) h.2)

-- ---- components

one_inserted : (p q : Part) (qs : List Part) (b : Bool) → length (parts_joined (insert_part p qs)) ≡ length (p.octets ++ parts_joined qs)
    → length (parts_joined (cond b (q ∷ insert_part p qs) (p ∷ q ∷ qs))) ≡ length (p.octets ++ parts_joined (q ∷ qs))
one_inserted p q qs true rest =
    omega (arith, rest, length-append q.octets (parts_joined (insert_part p qs)), length-append p.octets (parts_joined qs), length-append p.octets (q.octets ++ parts_joined qs), length-append q.octets (parts_joined qs))
one_inserted p q qs false rest = refl

inserted_length : (p : Part) (ps : List Part) → length (parts_joined (insert_part p ps)) ≡ length (p.octets ++ parts_joined ps)
inserted_length p [] = refl
inserted_length p (q ∷ qs) = one_inserted p q qs (tag_before q.tag p.tag) (inserted_length p qs)

pub ascending_length : (ps : List Part) → length (parts_joined (ascending ps)) ≡ length (parts_joined ps)
ascending_length [] = refl
ascending_length (p ∷ ps) =
    let first = inserted_length p (ascending ps) in
    let rest = ascending_length ps in
    omega (arith, first, rest, length-append p.octets (parts_joined (ascending ps)), length-append p.octets (parts_joined ps))

-- each value has such an encoding under its component's type
abbrev pub FieldsWithin : ℕ → Components → Fields → Type 0
FieldsWithin limit cs fs = (i : ℕ) (u : AbstractType) (v : AbstractValue) → component_type i cs ≡ Some u → field_at i fs ≡ Some v → Within limit (der u v)

-- a default has one as short as any that is written
default_within : (t : AbstractType) (presence : AbstractPresence) (v : AbstractValue) → is_proper_presence t presence ≡ true → is_left_out presence v ≡ true → Within 1048576 (der t v)
default_within t (type.default d) v proper e =
    subst (λ x. Within 1048576 (der t x)) (equal_values d v e) (short_within (der t d) (and_parts (fits t d) (is_short (der t d)) proper).1)
default_within t presence v proper e = absurd cc

record FirstPart (t : AbstractType) (v : AbstractValue) (later : Option (List Part)) : Type 0 where
  first : Within 1048576 (der t v)
  rest : List Part
  rest_is : later ≡ Some rest
  rest_short : length (parts_joined rest) ≤ 1048576

first_part : (t : AbstractType) (presence : AbstractPresence) (v : AbstractValue) (later : Option (List Part)) (ps : List Part) (b : Bool) → is_proper_presence t presence ≡ true → is_left_out presence v ≡ b
    → part_unless b (outermost t v) (der t v) later ≡ Some ps → length (parts_joined ps) ≤ 1048576 → FirstPart t v later
first_part t presence v later ps true proper left e h = record { first = default_within t presence v proper left; rest = ps; rest_is = e; rest_short = h }
first_part t presence v later ps false proper left e h =
    let a = then_some (der t v) (λ os. later >>= λ qs. Some (record { tag = outermost t v; octets = os } ∷ qs)) ps e in
    let b = then_some later (λ qs. Some (record { tag = outermost t v; octets = a.0 } ∷ qs)) ps a.2 in
    let p : Part = record { tag = outermost t v; octets = a.0 } in
    let same : p ∷ b.0 ≡ ps = same_Some (p ∷ b.0) ps b.2 in
    let total : length (a.0 ++ parts_joined b.0) ≤ 1048576 = subst (λ (xs : List Part). length (parts_joined xs) ≤ 1048576) (sym same) h in
    record {
      first = (a.0, a.1, omega (arith, length-append a.0 (parts_joined b.0)));
      rest = b.0;
      rest_is = b.1;
      rest_short = omega (arith, length-append a.0 (parts_joined b.0));
    }

parts_inside : (cs : Components) (fs : Fields) (ps : List Part) → are_proper cs ≡ true → parts_of cs fs ≡ Some ps → length (parts_joined ps) ≤ 1048576 → FieldsWithin 1048576 cs fs
parts_inside no_components value.no_fields ps proper e h i u v is at = absurd cc
parts_inside no_components (value.present w fs) ps proper e h i u v is at = absurd cc
parts_inside no_components (value.absent fs) ps proper e h i u v is at = absurd cc
parts_inside (component name t presence rest) value.no_fields ps proper e h i u v is at = absurd cc
parts_inside (component name t presence rest) (value.absent fs) ps proper e h zero u v is at = absurd cc
parts_inside (component name t presence rest) (value.absent fs) ps proper e h (suc i) u v is at = parts_inside rest fs ps (proper_parts name t presence rest proper).2 e h i u v is at
parts_inside (component name t presence rest) (value.present w fs) ps proper e h zero u v is at =
    let f = first_part t presence w (parts_of rest fs) ps (is_left_out presence w) (proper_parts name t presence rest proper).1 refl e h in
    let ty : t ≡ u = cc in
    let field : w ≡ v = cc in
    subst (λ x. Within 1048576 (der u x)) field (subst (λ x. Within 1048576 (der x w)) ty f.first)
parts_inside (component name t presence rest) (value.present w fs) ps proper e h (suc i) u v is at =
    let f = first_part t presence w (parts_of rest fs) ps (is_left_out presence w) (proper_parts name t presence rest proper).1 refl e h in
    parts_inside rest fs f.rest (proper_parts name t presence rest proper).2 f.rest_is f.rest_short i u v is at

pub sequence_within : (cs : Components) (fs : Fields) → are_proper cs ≡ true → Within 1048576 (contents_octets (type.sequence cs) (value.fields fs)) → FieldsWithin 1048576 cs fs
sequence_within cs fs proper h =
    let a = then_some (parts_of cs fs) (λ ps. Some (parts_joined ps)) h.0 h.1 in
    let same : parts_joined a.0 ≡ h.0 = same_Some (parts_joined a.0) h.0 a.2 in
    parts_inside cs fs a.0 proper a.1 (subst (λ (os : List ℕ). length os ≤ 1048576) (sym same) h.2)

pub set_within : (cs : Components) (fs : Fields) → are_proper cs ≡ true → Within 1048576 (contents_octets (type.set cs) (value.fields fs)) → FieldsWithin 1048576 cs fs
set_within cs fs proper h =
    let a = then_some (parts_of cs fs) (λ ps. Some (parts_joined (ascending ps))) h.0 h.1 in
    let same : parts_joined (ascending a.0) ≡ h.0 = same_Some (parts_joined (ascending a.0)) h.0 a.2 in
    let most : length (parts_joined (ascending a.0)) ≤ 1048576 = subst (λ (os : List ℕ). length os ≤ 1048576) (sym same) h.2 in
    let count = ascending_length a.0 in
    parts_inside cs fs a.0 proper a.1 (subst (λ (n : ℕ). n ≤ 1048576) count most)
