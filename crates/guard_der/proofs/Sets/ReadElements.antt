-- What was read of a SET, element by element, and what that says of its fields, its parts and its octets.
use Rattle.std.proofs.Common.{◌≡◌, ℕ, zero, suc, ◌≤◌, Bool, true, false, List, [], ◌∷◌, ◌++◌, Option, Some, None, refl, sym, ap, ◌∙◌, arith, inl, inr}
use Rattle.std.specs.Prelude.{◌&&◌, not, ◌⊎◌}
use Rattle.std.proofs.lemmas.Bool.{and_parts, and_from, true≢false, not-true}
use Rattle.guard_model.specs.declared.tag.Tag.{Tag}
use Rattle.guard_model.specs.AbstractType.{AbstractType, AbstractPresence, Components, no_components, component}
use Rattle.guard_model.specs.AbstractValue as value
use Rattle.guard_model.specs.AbstractValue.{AbstractValue, Fields}
use Rattle.guard_tagcheck.specs.FirstTags.{begins_with}
use Rattle.guard_der.specs.Der.{Part, der, outermost, outermost_alternative, alternative_octets, parts_of, parts_joined, ascending, is_left_out, part_unless, tag_before}
use Rattle.guard_der.specs.Fits.{fits, fits_alternative}
use Rattle.guard_der.specs.Breach.{fits_partly, is_after}
use Rattle.guard_model.specs.Slots.{all_absent}
use Rattle.guard_der.specs.Reading.{is_filled, fill, presence_at, follows}
use Rattle.guard_der.proofs.Elements.Steps.{bind, option_parts}
use Rattle.guard_der.proofs.Components.DistinctTags.{differs_from_all, all_differ}
use Rattle.guard_der.proofs.Components.ByTag.{LawfulType, AllLawful, part_begins, part_lawful, differ_all, within_fits}
use Rattle.guard_der.proofs.Sets.TagOrder.{only_same, after_on, after_between, joined_grows}
use Rattle.guard_der.proofs.Sets.SentFields.{all_sent, absent_fits, absent_sent, absent_parts, filled_fits, filled_sent, filled_parts, both_sent, part_from}
use Rattle.std.proofs.lemmas.Option.{same_Some}

-- an element that was read: the place of its component, its value, its octets
pub record ReadElement : Type 0 where
  pub place : ℕ
  pub value : AbstractValue
  pub octets : List ℕ

abbrev pub element_tag : Components → ReadElement → Tag
element_tag cs e = outermost_alternative cs e.place e.value

-- ---- the last one first

abbrev pub read_fields : Components → List ReadElement → Fields
read_fields cs [] = all_absent cs
read_fields cs (e ∷ es) = fill e.place e.value (read_fields cs es)

abbrev pub last_tag : Components → List ReadElement → Option Tag
last_tag cs [] = None
last_tag cs (e ∷ es) = Some (element_tag cs e)

abbrev pub octets_read : List ReadElement → List ℕ
octets_read [] = []
octets_read (e ∷ es) = octets_read es ++ e.octets

-- one more element may be read
pub record IsNext (cs : Components) (gs : Fields) (before : Option Tag) (e : ReadElement) : Type 0 where
  pub fits : fits_alternative cs e.place e.value ≡ true
  pub encoded : alternative_octets cs e.place e.value ≡ Some e.octets
  pub kept : is_left_out (presence_at e.place cs) e.value ≡ false
  pub free : is_filled e.place gs ≡ false
  pub follows : follows before (element_tag cs e) ≡ true

abbrev pub AreReadInOrder : Components → List ReadElement → Type 0
AreReadInOrder cs [] = Unit {0}
AreReadInOrder cs (e ∷ es) = AreReadInOrder cs es × IsNext cs (read_fields cs es) (last_tag cs es) e

-- ---- what was read is what is sent of the fields

pub record Reached (cs : Components) (es : List ReadElement) : Type 0 where
  pub parts : List Part
  pub fits : fits_partly cs (read_fields cs es) ≡ true
  pub sent : all_sent cs (read_fields cs es) ≡ true
  pub parts_are : parts_of cs (read_fields cs es) ≡ Some parts
  pub octets : parts_joined (ascending parts) ≡ octets_read es
  pub after : (t : Tag) → is_after t parts ≡ follows (last_tag cs es) t

absorbs : (a b : Bool) → (a ≡ true → b ≡ true) → (a && b) ≡ a
absorbs true b f = f refl
absorbs false b f = refl

pub reached : (cs : Components) (es : List ReadElement) → AreReadInOrder cs es → Reached cs es
reached cs [] in_order = record { parts = []; fits = absent_fits cs; sent = absent_sent cs; parts_are = absent_parts cs; octets = refl; after = λ t. refl }
reached cs (e ∷ es) in_order =
    let r = reached cs es in_order.0 in
    let n = in_order.1 in
    let b = filled_parts cs e.place e.value e.octets (read_fields cs es) r.parts r.parts_are n.free n.kept n.encoded in
    let last : is_after (element_tag cs e) (b.xs ++ b.ys) ≡ true = ap (is_after (element_tag cs e)) (sym b.are) ∙ r.after (element_tag cs e) ∙ n.follows in
    record {
      parts = b.xs ++ part_from cs e.place e.value e.octets ∷ b.ys;
      fits = filled_fits cs e.place e.value (read_fields cs es) r.fits n.fits;
      sent = filled_sent cs e.place e.value (read_fields cs es) r.sent n.kept;
      parts_are = b.filled;
      octets = joined_grows b.xs b.ys (part_from cs e.place e.value e.octets) last ∙ ap (λ (ps : List Part). parts_joined (ascending ps) ++ e.octets) (sym b.are) ∙ ap (λ (os : List ℕ). os ++ e.octets) r.octets;
      after = λ t. after_between t b.xs b.ys (part_from cs e.place e.value e.octets)
          ∙ absorbs (tag_before (element_tag cs e) t) (is_after t (b.xs ++ b.ys)) (λ before. after_on (element_tag cs e) t (b.xs ++ b.ys) last before);
    }

-- ---- fields that are sent were read, in the order of their tags

abbrev filled_count : Fields → ℕ
filled_count value.no_fields = 0
filled_count (value.present v gs) = suc (filled_count gs)
filled_count (value.absent gs) = filled_count gs

-- the part with the greatest tag, and the fields without it
record Greatest (cs : Components) (gs : Fields) : Type 0 where
  element : ReadElement
  others : Fields
  parts : List Part
  is : gs ≡ fill element.place element.value others
  fits_one : fits_alternative cs element.place element.value ≡ true
  encoded : alternative_octets cs element.place element.value ≡ Some element.octets
  kept : is_left_out (presence_at element.place cs) element.value ≡ false
  free : is_filled element.place others ≡ false
  fits : fits_partly cs others ≡ true
  sent : all_sent cs others ≡ true
  parts_are : parts_of cs others ≡ Some parts
  after : is_after (element_tag cs element) parts ≡ true
  fewer : suc (filled_count others) ≡ filled_count gs

begins_first : (t : AbstractType) (v : AbstractValue) (octets : List ℕ) → LawfulType t → fits t v ≡ true → der t v ≡ Some octets → begins_with t (outermost t v) ≡ true
begins_first t v octets law fit e = let a = law.again 0 v octets [] fit e in ap (begins_with t) (sym a.tag_is) ∙ a.due

pub begins_part : (cs : Components) (j : ℕ) (v : AbstractValue) (octets : List ℕ) → AllLawful cs → fits_alternative cs j v ≡ true → alternative_octets cs j v ≡ Some octets → part_begins cs j (outermost_alternative cs j v) ≡ true
begins_part cs j v octets laws fit e = let a = (part_lawful cs j laws (within_fits cs j v fit)).again 0 v octets [] fit e in ap (part_begins cs j) (sym a.tag_is) ∙ a.due

no_parts : (cs : Components) (gs : Fields) (ps : List Part) → gs ≡ all_absent cs → parts_of cs gs ≡ Some ps → ps ≡ []
no_parts cs gs ps none e = same_Some ps [] (sym e ∙ ap (parts_of cs) none ∙ absent_parts cs)

by_order : (t : AbstractType) (x y : Tag) (b : Bool) → begins_with t x ≡ true → begins_with t y ≡ false → tag_before x y ≡ false → tag_before y x ≡ b → b ≡ true
by_order t x y true own other before e = refl
by_order t x y false own other before e = absurd (true≢false (sym own ∙ ap (begins_with t) (only_same x y before e) ∙ other))

less_of : (t : AbstractType) (x y : Tag) → begins_with t x ≡ true → begins_with t y ≡ false → tag_before x y ≡ false → tag_before y x ≡ true
less_of t x y own other before = by_order t x y (tag_before y x) own other before refl

-- the first one, where its tag comes after those of all the others
first_greatest : (name : List ℕ) (t : AbstractType) (presence : AbstractPresence) (rest : Components) (v : AbstractValue) (gs : Fields) (first : List ℕ) (ps : List Part)
    → fits t v ≡ true → is_left_out presence v ≡ false → der t v ≡ Some first → fits_partly rest gs ≡ true → all_sent rest gs ≡ true → parts_of rest gs ≡ Some ps → is_after (outermost t v) ps ≡ true → Greatest (component name t presence rest) (value.present v gs)
first_greatest name t presence rest v gs first ps fit kept encoded fit_rest sent e after = record {
  element = record { place = 0; value = v; octets = first };
  others = value.absent gs;
  parts = ps;
  is = refl;
  fits_one = fit;
  encoded = encoded;
  kept = kept;
  free = refl;
  fits = fit_rest;
  sent = sent;
  parts_are = e;
  after = after;
  fewer = refl;
}

-- the first one is the greatest, or that of the others is
choose : (name : List ℕ) (t : AbstractType) (presence : AbstractPresence) (rest : Components) (v : AbstractValue) (gs : Fields) (first : List ℕ) (ps : List Part) → LawfulType t → AllLawful rest → differs_from_all t rest ≡ true
    → fits t v ≡ true → is_left_out presence v ≡ false → der t v ≡ Some first → fits_partly rest gs ≡ true → all_sent rest gs ≡ true → parts_of rest gs ≡ Some ps
    → (g : Greatest rest gs) (b : Bool) → tag_before (outermost t v) (element_tag rest g.element) ≡ b → Greatest (component name t presence rest) (value.present v gs)
choose name t presence rest v gs first ps law laws distinct fit kept encoded fit_rest sent e g true before = record {
  element = record { place = suc g.element.place; value = g.element.value; octets = g.element.octets };
  others = value.present v g.others;
  parts = record { tag = outermost t v; octets = first } ∷ g.parts;
  is = ap (value.present v) g.is;
  fits_one = g.fits_one;
  encoded = g.encoded;
  kept = g.kept;
  free = g.free;
  fits = and_from (fits t v) (fits_partly rest g.others) fit g.fits;
  sent = and_from (not (is_left_out presence v)) (all_sent rest g.others) (ap not kept) g.sent;
  parts_are = ap (λ (left : Bool). part_unless left (outermost t v) (der t v) (parts_of rest g.others)) kept ∙ both_sent (outermost t v) (der t v) (parts_of rest g.others) first g.parts encoded g.parts_are;
  after = and_from (tag_before (outermost t v) (element_tag rest g.element)) (is_after (element_tag rest g.element) g.parts) before g.after;
  fewer = ap suc g.fewer;
}
choose name t presence rest v gs first ps law laws distinct fit kept encoded fit_rest sent e g false before =
    let other : begins_with t (element_tag rest g.element) ≡ false = differ_all t rest g.element.place (element_tag rest g.element) distinct (begins_part rest g.element.place g.element.value g.element.octets laws g.fits_one g.encoded) in
    let own : begins_with t (outermost t v) ≡ true = begins_first t v first law fit encoded in
    let less : tag_before (element_tag rest g.element) (outermost t v) ≡ true = less_of t (outermost t v) (element_tag rest g.element) own other before in
    let b = filled_parts rest g.element.place g.element.value g.element.octets g.others g.parts g.parts_are g.free g.kept g.encoded in
    let parts : ps ≡ b.xs ++ part_from rest g.element.place g.element.value g.element.octets ∷ b.ys = same_Some ps _ (sym e ∙ ap (parts_of rest) g.is ∙ b.filled) in
    let lower : is_after (element_tag rest g.element) (b.xs ++ b.ys) ≡ true = ap (is_after (element_tag rest g.element)) (sym b.are) ∙ g.after in
    first_greatest name t presence rest v gs first ps fit kept encoded fit_rest sent e (
    ap (is_after (outermost t v)) parts ∙ after_between (outermost t v) b.xs b.ys (part_from rest g.element.place g.element.value g.element.octets)
    ∙ and_from (tag_before (element_tag rest g.element) (outermost t v)) (is_after (outermost t v) (b.xs ++ b.ys)) less (after_on (element_tag rest g.element) (outermost t v) (b.xs ++ b.ys) lower less)
    )

passed : (name : List ℕ) (t : AbstractType) (presence : AbstractPresence) (rest : Components) (gs : Fields) → Greatest rest gs → Greatest (component name t presence rest) (value.absent gs)
passed name t presence rest gs g = record {
  element = record { place = suc g.element.place; value = g.element.value; octets = g.element.octets };
  others = value.absent g.others;
  parts = g.parts;
  is = ap value.absent g.is;
  fits_one = g.fits_one;
  encoded = g.encoded;
  kept = g.kept;
  free = g.free;
  fits = g.fits;
  sent = g.sent;
  parts_are = g.parts_are;
  after = g.after;
  fewer = g.fewer;
}

greatest : (cs : Components) (gs : Fields) (ps : List Part) → AllLawful cs → all_differ cs ≡ true → fits_partly cs gs ≡ true → all_sent cs gs ≡ true → parts_of cs gs ≡ Some ps → (gs ≡ all_absent cs) ⊎ Greatest cs gs
greatest no_components value.no_fields ps laws distinct fit sent e = inl refl
greatest no_components (value.present v gs) ps laws distinct fit sent e = absurd cc
greatest no_components (value.absent gs) ps laws distinct fit sent e = absurd cc
greatest (component name t presence rest) value.no_fields ps laws distinct fit sent e = absurd cc
greatest (component name t presence rest) (value.absent gs) ps laws distinct fit sent e =
    elim (greatest rest gs ps laws.1 (and_parts (differs_from_all t rest) (all_differ rest) distinct).1 fit sent e) [
      | inl none ↦ inl (ap value.absent none)
      | inr g ↦ inr (passed name t presence rest gs g)
    ]
greatest (component name t presence rest) (value.present v gs) ps laws distinct fit sent e =
    let d = and_parts (differs_from_all t rest) (all_differ rest) distinct in
    let f = and_parts (fits t v) (fits_partly rest gs) fit in
    let s = and_parts (not (is_left_out presence v)) (all_sent rest gs) sent in
    let kept = not-true (is_left_out presence v) s.0 in
    let part : List ℕ → Part = λ os. record { tag = outermost t v; octets = os } in
    let a = option_parts (der t v) (λ os. bind (parts_of rest gs) (λ ps. Some (part os ∷ ps))) ps (sym (ap (λ (left : Bool). part_unless left (outermost t v) (der t v) (parts_of rest gs)) kept) ∙ e) in
    let b = option_parts (parts_of rest gs) (λ ps. Some (part a.0 ∷ ps)) ps a.2 in
    elim (greatest rest gs b.0 laws.1 d.1 f.1 s.1 b.1) [
      | inl none ↦ inr (first_greatest name t presence rest v gs a.0 b.0 f.0 kept a.1 f.1 s.1 b.1 (ap (is_after (outermost t v)) (no_parts rest gs b.0 none b.1)))
      | inr g ↦ inr (choose name t presence rest v gs a.0 b.0 laws.0 laws.1 d.0 f.0 kept a.1 f.1 s.1 b.1 g (tag_before (outermost t v) (element_tag rest g.element)) refl)
    ]

-- the elements as which fields are sent
pub record SentAs (cs : Components) (gs : Fields) : Type 0 where
  pub elements : List ReadElement
  pub in_order : AreReadInOrder cs elements
  pub are : read_fields cs elements ≡ gs

one_more : (cs : Components) (gs : Fields) (g : Greatest cs gs) → SentAs cs g.others → SentAs cs gs
one_more cs gs g t =
    let r = reached cs t.elements t.in_order in
    let parts : r.parts ≡ g.parts = same_Some r.parts g.parts (sym r.parts_are ∙ ap (parts_of cs) t.are ∙ g.parts_are) in
    record {
      elements = g.element ∷ t.elements;
      in_order = (
        t.in_order,
        record {
          fits = g.fits_one;
          encoded = g.encoded;
          kept = g.kept;
          free = ap (is_filled g.element.place) t.are ∙ g.free;
          follows = sym (r.after (element_tag cs g.element)) ∙ ap (is_after (element_tag cs g.element)) parts ∙ g.after;
        },
      );
      are = ap (fill g.element.place g.element.value) t.are ∙ sym g.is;
    }

sent_as_from : (n : ℕ) (cs : Components) (gs : Fields) → filled_count gs ≤ n → AllLawful cs → all_differ cs ≡ true → (gs ≡ all_absent cs) ⊎ Greatest cs gs → SentAs cs gs
sent_as_from n cs gs few laws distinct (inl none) = record { elements = []; in_order = tt; are = sym none }
sent_as_from zero cs gs few laws distinct (inr g) = absurd (omega (arith, few, g.fewer))
sent_as_from (suc n) cs gs few laws distinct (inr g) =
    one_more cs gs g (sent_as_from n cs g.others (omega (arith, few, g.fewer)) laws distinct (greatest cs g.others g.parts laws distinct g.fits g.sent g.parts_are))

pub sent_as : (cs : Components) (gs : Fields) (ps : List Part) → AllLawful cs → all_differ cs ≡ true → fits_partly cs gs ≡ true → all_sent cs gs ≡ true → parts_of cs gs ≡ Some ps → SentAs cs gs
sent_as cs gs ps laws distinct fit sent e = sent_as_from (filled_count gs) cs gs (omega arith) laws distinct (greatest cs gs ps laws distinct fit sent e)
