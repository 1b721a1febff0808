-- Reading the elements of a SET one after the other, as a loop does.
use Rattle.std.proofs.Common.{◌≡◌, ℕ, zero, suc, ◌+◌, ◌*◌, ◌<◌, ◌≤◌, Bool, true, false, ltb, eqb, List, [], ◌∷◌, length, drop, get_or, map, Option, Some, None, Result, Ok, sym, ap, ◌∙◌, arith, refl}
use Rattle.std.specs.Prelude.{nat_le}
use Rattle.std.specs.Arc.{arc_slice_items}
use Rattle.std.specs.declared.sync.ArcSlice.{ArcSlice}
use Rattle.std.specs.Global.{Global, Vec}
use Rattle.std.proofs.lemmas.Bool.{and_parts, leb-true, eqb-true, cond_both}
use Rattle.std.proofs.lemmas.List.{length-map, length-drop}
use Rattle.guard_model.specs.Answer.{◌>>=◌, Refuses}
use Rattle.guard_model.specs.declared.tag.Tag.{Tag}
use Rattle.guard_model.specs.AbstractType as type
use Rattle.guard_model.specs.AbstractType.{AbstractKind, AbstractPresence, Components, no_components, component}
use Rattle.guard_model.specs.AbstractValue.{AbstractValue, Fields}
use Rattle.guard_model.specs.TypeView.{OneComponent, type_view, component_view, kind_view, presence_view}
use Rattle.guard_model.specs.ValueView.{value_view, fields_view}
use Rattle.guard_model.specs.declared.value.Value.{Value}
use Rattle.guard_model.specs.declared.value.Value.TheVariants as values
use Rattle.guard_model.proofs.ValueViews.{value_view_fields}
use Rattle.guard_model.specs.declared.ty.Comp.{Comp}
use Rattle.guard_model.specs.declared.ty.Kind.{Kind, Set}
use Rattle.guard_model.specs.declared.ty.Kind.TheViews.{out-Comp}
use Rattle.guard_tagcheck.specs.Limits.{nesting_inside, deepest}
use Rattle.guard_der.specs.Head.{Head, head_of}
use Rattle.guard_model.specs.Tags.{class_rank}
use Rattle.guard_der.specs.Octets.{base_128}
use Rattle.guard_der.specs.Element.{form_bit, identifier_octets}
use Rattle.guard_der.specs.Sound.{is_proper_kind, are_proper}
use Rattle.guard_der.specs.Breach.{AbstractBreach}
use Rattle.guard_model.specs.Slots.{all_absent}
use Rattle.guard_der.specs.Reading.{Reader, located, fill, presence_at, placed_at, set_element_at, completed, set_at, part_at, sent_at, element_at, contents_at, fields_read}
use Rattle.guard_der.proofs.Numbers.Digits.{AreDigits}
use Rattle.guard_der.proofs.Headers.Heads.{head_takes}
use Rattle.guard_der.proofs.Functions.Encoding.{Slot}
use Rattle.guard_der.proofs.Components.OneComponent.{located_is}
use Rattle.guard_der.proofs.Functions.Decoding.{refuses_as, sent_alike, part_is}
use Rattle.guard_der.proofs.Sets.OneElement.{PlacedElement, set_element_strays}
use Rattle.guard_model.specs.Counts.{component_count}
use Rattle.guard_model.proofs.Components.{component_count_is, in_view}
use Rattle.guard_model.proofs.TypeViews.{component_view_is, kind_view_set}
use Rattle.guard_model.proofs.Results.{refuses_bind}

-- ---- one element

refused_later : {A B : Type 0} (b : Option AbstractBreach) (r : Result A AbstractBreach) (x : A) (k : A → Result B AbstractBreach) → r ≡ Ok x → Refuses b (k x) → Refuses b (r >>= k)
refused_later None r x k e refused = tt
refused_later (Some b) r x k e refused = rw e refused

pub no_header : (b : Option AbstractBreach) (cs : Components) (read : ℕ → Reader) (gs : Fields) (before : Option Tag) (at : ℕ) (os : List ℕ) → Refuses b (located at (head_of os)) → Refuses b (set_element_at cs read gs before at os)
unfolding set_element_at
no_header b cs read gs before at os e = refuses_bind b (located at (head_of os)) (λ h. placed_at cs gs before at h.tag >>= λ j. sent_at j (presence_at j cs) (read j) at h os >>= λ v. Ok (j, v, h)) e

pub no_place : (b : Option AbstractBreach) (cs : Components) (read : ℕ → Reader) (gs : Fields) (before : Option Tag) (at : ℕ) (os : List ℕ) (h : Head) → located at (head_of os) ≡ Ok h → Refuses b (placed_at cs gs before at h.tag) → Refuses b (set_element_at cs read gs before at os)
no_place None cs read gs before at os h stands e = tt
no_place (Some b) cs read gs before at os h stands e = set_element_strays cs read gs before at os h b (located_is at (head_of os) h stands) e

module _ (cs : Components) (read : ℕ → Reader) (gs : Fields) (before : Option Tag) (at : ℕ) (os : List ℕ) (h : Head) (j : ℕ) (stands : located at (head_of os) ≡ Ok h) (place : placed_at cs gs before at h.tag ≡ Ok j) where
  placed_is : set_element_at cs read gs before at os ≡ (sent_at j (presence_at j cs) (read j) at h os >>= λ v. Ok (j, v, h))
  unfolding set_element_at
  placed_is = rw (stands, place) refl

  pub element_is_read : (v : AbstractValue) → sent_at j (presence_at j cs) (read j) at h os ≡ Ok v → set_element_at cs read gs before at os ≡ Ok (j, v, h)
  element_is_read v e = placed_is ∙ ap (λ (r : Result AbstractValue AbstractBreach). r >>= λ v. Ok (j, v, h)) e

  pub element_refused : (b : Option AbstractBreach) → Refuses b (sent_at j (presence_at j cs) (read j) at h os) → Refuses b (set_element_at cs read gs before at os)
  element_refused b e = refuses_as b _ _ placed_is (refuses_bind b (sent_at j (presence_at j cs) (read j) at h os) (λ v. Ok (j, v, h)) e)

pub presence_is : (comps : List Comp) (i : ℕ) (comp : Comp) → i < length comps → comp ≡ get_or comps i comp → presence_at i (in_view comps) ≡ presence_view (out-Comp comp).presence
presence_is [] i comp lt is = absurd (omega (arith, lt))
presence_is (c ∷ cs) zero comp lt is = ap (λ (o : OneComponent). o.presence) (ap component_view (sym is) ∙ component_view_is comp)
presence_is (c ∷ cs) (suc i) comp lt is = presence_is cs i comp (omega (arith, lt)) is

-- the component at a place, as it is sent
pub sent_part : (comps : List Comp) (i : ℕ) (comp : Comp) (at : ℕ) (h : Head) (os : List ℕ) → i < length comps → comp ≡ get_or comps i comp → are_proper (in_view comps) ≡ true
    → sent_at i (presence_at i (in_view comps)) (part_at (in_view comps) i) at h os ≡ sent_at i (presence_view (out-Comp comp).presence) (element_at (type_view (out-Comp comp).ty)) at h os
sent_part comps i comp at h os lt is proper =
    ap (λ (p : AbstractPresence). sent_at i p (part_at (in_view comps) i) at h os) (presence_is comps i comp lt is)
    ∙ sent_alike i (presence_view (out-Comp comp).presence) (part_at (in_view comps) i) at h os (element_at (type_view (out-Comp comp).ty)) ((part_is comps i comp lt is proper).2 at h os)

some_identifier : (tag : Tag) (constructed : Bool) → 1 ≤ length (identifier_octets tag constructed)
unfolding identifier_octets
some_identifier tag constructed =
    let low : List ℕ = (64 * class_rank tag.class + form_bit constructed + tag.number) ∷ [] in
    let high : List ℕ = (64 * class_rank tag.class + form_bit constructed + 31) ∷ base_128 tag.number in
    let one : 1 ≤ length low = omega arith in
    let more : 1 ≤ length high = omega arith in
    cond_both (ltb tag.number 31) low high (λ (os : List ℕ). 1 ≤ length os) (λ e. one) (λ e. more)

-- a header has an octet
pub head_size : (os : List ℕ) (h : Head) → AreDigits 256 os → head_of os ≡ Ok h → 1 ≤ h.size
head_size os h digits e = omega (arith, (head_takes os h digits e).size, some_identifier h.tag h.constructed)

-- ---- one after the other

-- what is still read gives the whole
abbrev pub Going : Components → Fields → Option Tag → ℕ → List ℕ → Result Fields AbstractBreach → Type 0
Going cs gs before at os total = (n : ℕ) × (length os ≤ n) × (set_at n cs (part_at cs) gs before at os ≡ total)

pub goes_on : (cs : Components) (gs : Fields) (before : Option Tag) (at : ℕ) (os : List ℕ) (j : ℕ) (v : AbstractValue) (h : Head) (total : Result Fields AbstractBreach) → eqb (length os) 0 ≡ false → 1 ≤ h.size → set_element_at cs (part_at cs) gs before at os ≡ Ok (j, v, h)
    → Going cs gs before at os total → Going cs (fill j v gs) (Some h.tag) (at + (h.size + h.contents)) (drop (h.size + h.contents) os) total
unfolding set_at
goes_on cs gs before at [] j v h total more some e going = absurd cc
goes_on cs gs before at (o ∷ os) j v h total more some e (zero, enough, so_far) = absurd (omega (arith, enough))
goes_on cs gs before at (o ∷ os) j v h total more some e (suc n, enough, so_far) = (
  n,
  omega (arith, enough, some, length-drop (h.size + h.contents) (o ∷ os)),
  sym (ap (λ (r : Result PlacedElement AbstractBreach). r >>= λ x. set_at n cs (part_at cs) (fill x.0 x.1 gs) (Some x.2.tag) (at + (x.2.size + x.2.contents)) (drop (x.2.size + x.2.contents) (o ∷ os))) e) ∙ so_far,
)

pub stops : (b : Option AbstractBreach) (cs : Components) (gs : Fields) (before : Option Tag) (at : ℕ) (os : List ℕ) (total : Result Fields AbstractBreach) → eqb (length os) 0 ≡ false → Refuses b (set_element_at cs (part_at cs) gs before at os)
    → Going cs gs before at os total → Refuses b total
unfolding set_at
stops None cs gs before at os total some e going = tt
stops (Some b) cs gs before at [] total some e going = absurd cc
stops (Some b) cs gs before at (o ∷ os) total some e (zero, enough, so_far) = absurd (omega (arith, enough))
stops (Some b) cs gs before at (o ∷ os) total some e (suc n, enough, so_far) =
    sym so_far ∙ ap (λ (r : Result PlacedElement AbstractBreach). r >>= λ x. set_at n cs (part_at cs) (fill x.0 x.1 gs) (Some x.2.tag) (at + (x.2.size + x.2.contents)) (drop (x.2.size + x.2.contents) (o ∷ os))) e

pub ends : (cs : Components) (gs : Fields) (before : Option Tag) (at : ℕ) (os : List ℕ) (total : Result Fields AbstractBreach) → eqb (length os) 0 ≡ true → Going cs gs before at os total → completed 0 cs gs at ≡ total
unfolding set_at
ends cs gs before at [] total none (n, enough, so_far) = so_far
ends cs gs before at (o ∷ os) total none going = absurd (omega (arith, eqb-true (length (o ∷ os)) 0 none))

-- ---- kinds of the code

set_list : (cs : Components) → is_proper_kind (type.set cs) ≡ true → (are_proper cs ≡ true) × (component_count cs ≤ 64)
set_list cs e =
    let p = and_parts (nat_le (component_count cs) 64) (are_proper cs) e in
    (p.1, leb-true (component_count cs) 64 p.0)

pub set_parts : (kind : Kind) (comps : Vec Comp) → kind ≡ Set comps → is_proper_kind (kind_view kind) ≡ true
    → (are_proper (in_view comps.items) ≡ true) × (length comps.items ≤ 64) × (nesting_inside (kind_view kind) ≡ deepest (in_view comps.items))
set_parts kind comps is proper =
    let e : kind_view kind ≡ type.set (in_view comps.items) = rw is (kind_view_set comps) in
    let l = set_list (in_view comps.items) (rw e at proper) in
    (l.0, omega (arith, l.1, component_count_is (map component_view comps.items), length-map comps.items component_view), ap nesting_inside e)

abbrev pub set_read : List Comp → ℕ → List ℕ → Result Fields AbstractBreach
set_read comps start os = set_at (length os) (in_view comps) (part_at (in_view comps)) (all_absent (in_view comps)) None start os

contents_set : (kind : Kind) (comps : Vec Comp) (at start : ℕ) (os : List ℕ) → kind ≡ Set comps → contents_at (kind_view kind) at start os ≡ fields_read (set_read comps.items start os)
unfolding contents_at
contents_set kind comps at start os is = ap (λ (k : AbstractKind). contents_at k at start os) (ap kind_view is ∙ kind_view_set comps)

pub set_given : (kind : Kind) (comps : Vec Comp) (fields : ArcSlice Slot Global) (at start : ℕ) (os : List ℕ) → kind ≡ Set comps → set_read comps.items start os ≡ Ok (fields_view (arc_slice_items fields)) → contents_at (kind_view kind) at start os ≡ Ok (value_view (values.Fields fields))
set_given kind comps fields at start os is e = contents_set kind comps at start os is ∙ ap fields_read e ∙ ap (λ (v : AbstractValue). Ok v) (sym (value_view_fields fields))

pub set_refused : (b : Option AbstractBreach) (kind : Kind) (comps : Vec Comp) (at start : ℕ) (os : List ℕ) → kind ≡ Set comps → Refuses b (set_read comps.items start os) → Refuses b (contents_at (kind_view kind) at start os)
set_refused None kind comps at start os is e = tt
set_refused (Some b) kind comps at start os is e = contents_set kind comps at start os is ∙ ap fields_read e
