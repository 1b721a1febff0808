-- What components send, as their entries are put in one after another, and when the others are completed.
use Rattle.std.proofs.Common.{◌≡◌, ℕ, zero, suc, Bool, true, false, cond, List, [], ◌∷◌, length, map, Option, Some, None, Ok, refl, sym, ap, subst, ◌∙◌, arith}
use Rattle.std.proofs.lemmas.List.{length-append}
use Rattle.guard_model.proofs.Components.{in_view}
use Rattle.guard_model.proofs.Results.{same_Ok, made_ok}
use Rattle.guard_model.proofs.Sameness.{same_from_equal}
use Rattle.guard_model.specs.declared.site.Site.{Site}
use Rattle.guard_model.specs.declared.tag.Tag.{Tag}
use Rattle.guard_model.specs.declared.ty.Comp.{Comp}
use Rattle.guard_model.specs.AbstractType as type
use Rattle.guard_model.specs.AbstractType.{AbstractType, AbstractPresence, Components, no_components, component}
use Rattle.guard_model.specs.AbstractValue as value
use Rattle.guard_model.specs.AbstractValue.{AbstractValue, Fields, fields_of}
use Rattle.guard_model.specs.Components.{component_at}
use Rattle.guard_model.specs.Slots.{all_absent}
use Rattle.guard_model.specs.TypeView.{OneComponent}
use Rattle.guard_model.specs.ValueView.{slot_view, fields_view}
use Rattle.guard_der.specs.Der.{Part, der, contents_octets, parts_of, part_unless, is_left_out, outermost, parts_joined, ◌>>=◌}
use Rattle.guard_der.specs.Encoding.{short, short_length}
use Rattle.guard_der.specs.Reading.{is_filled, fill, field_before}
use Rattle.guard_der.specs.inside.EncodingSteps.{sequence_octets}
use Rattle.guard_der.proofs.Functions.Encoding.{Slot}
use Rattle.guard_values.specs.inside.Lengths.{with_part}
use Rattle.guard_values.specs.inside.Reading.{completed}
use Rattle.guard_values.proofs.Denoted.SettledFields.{HasFields}
use Rattle.guard_values.proofs.OneAnswer.LengthsInside.{same_Some}
use Rattle.guard_values.proofs.Counting.Sums.{size, short_size, total, one_more, more_swap, more_short}

-- ---- one component more

nothing_sent : (cs : Components) → parts_of cs (all_absent cs) ≡ Some []
nothing_sent no_components = refl
nothing_sent (component name t presence rest) = nothing_sent rest

pub nothing_counted : (cs : Components) → Some 0 ≡ short_length (contents_octets (type.sequence cs) (value.fields (all_absent cs)))
nothing_counted cs = sym (ap (λ (ps : Option (List Part)). short_length (sequence_octets ps)) (nothing_sent cs))

-- how many octets are sent
abbrev pub sent : Components → Fields → Option ℕ
sent cs fs = size (sequence_octets (parts_of cs fs))

part_added : (left_out : Bool) (tag : Tag) (octets : Option (List ℕ)) (rest : Option (List Part)) → size (sequence_octets (part_unless left_out tag octets rest)) ≡ one_more left_out (size octets) (size (sequence_octets rest))
part_added true tag octets rest = refl
part_added false tag None rest = refl
part_added false tag (Some os) None = refl
part_added false tag (Some os) (Some ps) = ap (λ (n : ℕ). Some n) (length-append os (parts_joined ps))

one_sent : (cs : Components) (i : ℕ) (c : OneComponent) (v : AbstractValue) (fs : Fields) → HasFields cs fs → component_at i cs ≡ Some c → is_filled i fs ≡ false
    → sent cs (fill i v fs) ≡ one_more (is_left_out c.presence v) (size (der c.ty v)) (sent cs fs)
one_sent no_components i c v fs shape is free = absurd cc
one_sent (component name t presence rest) i c v value.no_fields shape is free = absurd shape
one_sent (component name t presence rest) zero c v (value.present w fs) shape is free = absurd cc
one_sent (component name t presence rest) zero c v (value.absent fs) shape is free =
    let P : OneComponent → Type 0 = λ d. size (sequence_octets (part_unless (is_left_out presence v) (outermost t v) (der t v) (parts_of rest fs))) ≡ one_more (is_left_out d.presence v) (size (der d.ty v)) (sent rest fs) in
    subst P (same_Some (record { name = name; ty = t; presence = presence }) c is) (part_added (is_left_out presence v) (outermost t v) (der t v) (parts_of rest fs))
one_sent (component name t presence rest) (suc i) c v (value.present w fs) shape is free =
    part_added (is_left_out presence w) (outermost t w) (der t w) (parts_of rest (fill i v fs))
    ∙ ap (one_more (is_left_out presence w) (size (der t w))) (one_sent rest i c v fs shape is free)
    ∙ more_swap (is_left_out presence w) (is_left_out c.presence v) (size (der t w)) (size (der c.ty v)) (sent rest fs)
    ∙ ap (one_more (is_left_out c.presence v) (size (der c.ty v))) (sym (part_added (is_left_out presence w) (outermost t w) (der t w) (parts_of rest fs)))
one_sent (component name t presence rest) (suc i) c v (value.absent fs) shape is free = one_sent rest i c v fs shape is free

pub one_counted : (cs : Components) (i : ℕ) (c : OneComponent) (v : AbstractValue) (fs : Fields) → HasFields cs fs → component_at i cs ≡ Some c → is_filled i fs ≡ false
    → short_length (contents_octets (type.sequence cs) (value.fields (fill i v fs))) ≡ with_part (is_left_out c.presence v) (short_length (contents_octets (type.sequence cs) (value.fields fs))) (short_length (der c.ty v))
one_counted cs i c v fs shape is free =
    let left_out = is_left_out c.presence v in
    short_size (sequence_octets (parts_of cs (fill i v fs))) ∙ ap (λ (n : Option ℕ). n >>= short) (one_sent cs i c v fs shape is free) ∙ more_short left_out (size (der c.ty v)) (sent cs fs)
    ∙ ap (λ (n : Option ℕ). with_part left_out n (size (der c.ty v) >>= short)) (sym (short_size (sequence_octets (parts_of cs fs))))
    ∙ ap (with_part left_out (short_length (sequence_octets (parts_of cs fs)))) (sym (short_size (der c.ty v)))

-- ---- the others: those that are absent aren't sent, and neither are defaults

pub completed_sent : (site : Site) (cs : Components) (given fs : Fields) → HasFields cs given → completed site cs given ≡ Ok fs → parts_of cs fs ≡ parts_of cs given
unfolding completed
completed_sent site no_components value.no_fields fs shape e = ap (parts_of no_components) (sym (same_Ok value.no_fields fs e))
completed_sent site no_components (value.present v gs) fs shape e = absurd shape
completed_sent site no_components (value.absent gs) fs shape e = absurd shape
completed_sent site (component name t presence rest) value.no_fields fs shape e = absurd shape
completed_sent site (component name t presence rest) (value.present v gs) fs shape e =
    let m = made_ok (completed site rest gs) (λ hs. field_before (Some v) hs) fs e in
    ap (parts_of (component name t presence rest)) (sym m.2) ∙ ap (part_unless (is_left_out presence v) (outermost t v) (der t v)) (completed_sent site rest gs m.0 shape m.1)
completed_sent site (component name t type.optional rest) (value.absent gs) fs shape e =
    let m = made_ok (completed site rest gs) (λ hs. field_before None hs) fs e in
    ap (parts_of (component name t type.optional rest)) (sym m.2) ∙ completed_sent site rest gs m.0 shape m.1
completed_sent site (component name t (type.default d) rest) (value.absent gs) fs shape e =
    let m = made_ok (completed site rest gs) (λ hs. field_before (Some d) hs) fs e in
    ap (parts_of (component name t (type.default d) rest)) (sym m.2) ∙ ap (λ (b : Bool). part_unless b (outermost t d) (der t d) (parts_of rest m.0)) (same_from_equal d d refl)
    ∙ completed_sent site rest gs m.0 shape m.1
completed_sent site (component name t type.mandatory rest) (value.absent gs) fs shape e = absurd cc
completed_sent site (component name t type.pending rest) (value.absent gs) fs shape e = absurd cc

-- ---- as the code has them

pub has_view : (comps : List Comp) (fields : List Slot) → length fields ≡ length comps → HasFields (in_view comps) (fields_view fields)
has_view [] [] e = tt
has_view [] (f ∷ fields) e = absurd (omega (arith, e))
has_view (c ∷ comps) [] e = absurd (omega (arith, e))
has_view (c ∷ comps) (f ∷ fields) e = one_more (slot_view f) (has_view comps fields (omega (arith, e))) where
  one_more : (o : Option AbstractValue) → HasFields (in_view comps) (fields_view fields) → HasFields (in_view (c ∷ comps)) (fields_of (o ∷ map slot_view fields))
  one_more None h = h
  one_more (Some v) h = h
