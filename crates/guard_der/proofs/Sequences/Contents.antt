-- The contents of a SEQUENCE: what is read component by component, and its faults.
use Rattle.std.proofs.Common.{◌≡◌, ◌≢◌, ℕ, zero, suc, ◌+◌, Bool, true, false, List, [], ◌∷◌, ◌++◌, length, take, drop, Option, Some, None, Result, Ok, Err, refl, sym, ap, subst, ◌∙◌, append_assoc, arith, inl, inr}
use Rattle.std.specs.Prelude.{◌&&◌, ◌||◌, not, ◌⊎◌}
use Rattle.std.proofs.lemmas.Bool.{and_parts, and_from, false≢true}
use Rattle.std.proofs.lemmas.List.{length-append, drop_at, take-append-drop, append-nil}
use Rattle.guard_model.specs.Answer.{◌>>=◌}
use Rattle.guard_model.specs.AbstractType as type
use Rattle.guard_model.specs.AbstractType.{AbstractType, AbstractPresence, Components, type_of, no_components, component}
use Rattle.guard_model.specs.AbstractValue as value
use Rattle.guard_model.specs.AbstractValue.{AbstractValue, Fields}
use Rattle.guard_model.proofs.Sameness.{equal_values, same_itself}
use Rattle.guard_tagcheck.specs.FirstTags.{begins_with}
use Rattle.guard_der.specs.declared.breach.Code.TheVariants as code
use Rattle.guard_der.specs.Head.{head_of}
use Rattle.guard_der.specs.Der.{Part, der, outermost, parts_of, parts_joined, contents_octets, is_left_out, part_unless}
use Rattle.guard_der.specs.Fits.{fits, fits_fields, may_be_absent}
use Rattle.guard_der.specs.ProperConstraints.{is_short}
use Rattle.guard_der.specs.Sound.{is_proper, is_proper_presence, are_proper}
use Rattle.guard_der.proofs.Components.DistinctTags.{differ, differs_from_next, optional_differ}
use Rattle.guard_der.specs.Breach.{AbstractBreach, first_components, other_components, last_is_sent, here}
use Rattle.guard_der.specs.Reading.{element_at, fields_at, end_at, component_at, not_sent, field_before, due_at}
use Rattle.guard_der.proofs.Elements.Steps.{bind, option_parts, due_ok}
use Rattle.guard_der.proofs.Numbers.Digits.{AreDigits}
use Rattle.guard_der.proofs.Headers.TagsAndLengths.{digits_drop}
use Rattle.guard_der.proofs.Components.ByTag.{LawfulType, AllLawful, differ_tags}
use Rattle.guard_der.proofs.Components.OneComponent.{Unsent, ComponentOk, component_ok, component_sends, component_skips, skips_optional}
use Rattle.guard_model.specs.Counts.{component_count}
use Rattle.guard_tagcheck.specs.Search.{is_mandatory}
use Rattle.guard_model.proofs.Results.{bind_ok, same_Ok}
use Rattle.std.proofs.lemmas.Option.{same_Some}

-- ---- fields

-- what is sent of components is these octets
abbrev pub Sends : Components → Fields → List ℕ → Type 0
Sends cs fs octets = (ps : List Part) × (parts_of cs fs ≡ Some ps) × (parts_joined ps ≡ octets)

pub sends_contents : (cs : Components) (fs : Fields) (octets : List ℕ) → Sends cs fs octets → contents_octets (type.sequence cs) (value.fields fs) ≡ Some octets
sends_contents cs fs octets (ps, e, is) = rw e (ap (λ (os : List ℕ). Some os) is)

pub contents_sends : (cs : Components) (fs : Fields) (octets : List ℕ) → contents_octets (type.sequence cs) (value.fields fs) ≡ Some octets → Sends cs fs octets
contents_sends cs fs octets e = let a = option_parts (parts_of cs fs) (λ ps. Some (parts_joined ps)) octets e in (a.0, a.1, same_Some (parts_joined a.0) octets a.2)

pub sent_first : (name : List ℕ) (t : AbstractType) (presence : AbstractPresence) (cs : Components) (v : AbstractValue) (fs : Fields) (first others : List ℕ)
    → is_left_out presence v ≡ false → der t v ≡ Some first → Sends cs fs others → Sends (component name t presence cs) (value.present v fs) (first ++ others)
sent_first name t presence cs v fs first others kept e (ps, f, is) = (record { tag = outermost t v; octets = first } ∷ ps, rw (kept, e, f) refl, ap (λ (x : List ℕ). first ++ x) is)

left_first : (name : List ℕ) (t : AbstractType) (presence : AbstractPresence) (cs : Components) (v : AbstractValue) (fs : Fields) (others : List ℕ)
    → is_left_out presence v ≡ true → Sends cs fs others → Sends (component name t presence cs) (value.present v fs) others
left_first name t presence cs v fs others left (ps, f, is) = (ps, rw (left, f) refl, is)

default_fits : (t : AbstractType) (d : AbstractValue) → is_proper_presence t (type.default d) ≡ true → fits t d ≡ true
default_fits t d e = (and_parts (fits t d) (is_short (der t d)) e).0

-- a component that is not sent, in what is read
pub unsent_first : (name : List ℕ) (t : AbstractType) (presence : AbstractPresence) (cs : Components) (f : Option AbstractValue) (fs : Fields) (others : List ℕ) (b : AbstractBreach)
    → is_proper_presence t presence ≡ true → not_sent presence b ≡ Ok f → fits_fields cs fs ≡ true → Sends cs fs others
    → (fits_fields (component name t presence cs) (field_before f fs) ≡ true) × Sends (component name t presence cs) (field_before f fs) others
unsent_first name t type.mandatory cs f fs others b proper skip fit sends = absurd cc
unsent_first name t type.pending cs f fs others b proper skip fit sends = absurd cc
unsent_first name t type.optional cs f fs others b proper skip fit sends = rw (← same_Ok {F = AbstractBreach} None f skip) (fit, sends)
unsent_first name t (type.default d) cs f fs others b proper skip fit sends =
    let p = default_fits t d proper in
    rw (← same_Ok {F = AbstractBreach} (Some d) f skip) (and_from (fits t d) (fits_fields cs fs) p fit, left_first name t (type.default d) cs d fs others (same_itself d) sends)

-- what a value that is sent, or not, leaves of the rest
sends_sent : (name : List ℕ) (t : AbstractType) (presence : AbstractPresence) (cs : Components) (v : AbstractValue) (fs : Fields) (octets : List ℕ)
    → is_left_out presence v ≡ false → Sends (component name t presence cs) (value.present v fs) octets → (first : List ℕ) × (others : List ℕ) × (der t v ≡ Some first) × Sends cs fs others × (first ++ others ≡ octets)
sends_sent name t presence cs v fs octets kept (ps, e, is) =
    let whole : bind (der t v) (λ os. bind (parts_of cs fs) (λ ps. Some (record { tag = outermost t v; octets = os } ∷ ps))) ≡ Some ps = sym (ap (λ (b : Bool). part_unless b (outermost t v) (der t v) (parts_of cs fs)) kept) ∙ e in
    let a = option_parts (der t v) (λ os. bind (parts_of cs fs) (λ ps. Some (record { tag = outermost t v; octets = os } ∷ ps))) ps whole in
    let b = option_parts (parts_of cs fs) (λ ps. Some (record { tag = outermost t v; octets = a.0 } ∷ ps)) ps a.2 in
    (a.0, parts_joined b.0, a.1, (b.0, b.1, refl), ap parts_joined (same_Some (record { tag = outermost t v; octets = a.0 } ∷ b.0) ps b.2) ∙ is)

sends_left : (name : List ℕ) (t : AbstractType) (presence : AbstractPresence) (cs : Components) (v : AbstractValue) (fs : Fields) (octets : List ℕ)
    → is_left_out presence v ≡ true → Sends (component name t presence cs) (value.present v fs) octets → Sends cs fs octets
sends_left name t presence cs v fs octets left (ps, e, is) = (ps, sym (ap (λ (b : Bool). part_unless b (outermost t v) (der t v) (parts_of cs fs)) left) ∙ e, is)

-- ---- what is read fits, and is sent

end_ok : (at : ℕ) (os : List ℕ) (fs : Fields) → end_at at os ≡ Ok fs → (os ≡ []) × (value.no_fields ≡ fs)
unfolding end_at
end_ok at [] fs e = (refl, same_Ok {F = AbstractBreach} value.no_fields fs e)
end_ok at (o ∷ os) fs e =
    let d = bind_ok (due_at (λ tag. false) at (o ∷ os)) (λ h. Ok value.no_fields) fs e in
    absurd (false≢true (due_ok (λ tag. false) at (o ∷ os) d.0 d.1).1)

first_takes : (name : List ℕ) (t : AbstractType) (presence : AbstractPresence) (cs : Components) (i at : ℕ) (os : List ℕ) (x : Option AbstractValue × ℕ) (fs : Fields)
    → AreDigits 256 os → LawfulType t → is_proper_presence t presence ≡ true → ComponentOk i presence (λ tag. begins_with t tag) (element_at t) at os x
    → fits_fields cs fs ≡ true → Sends cs fs (drop x.1 os)
    → (fits_fields (component name t presence cs) (field_before x.0 fs) ≡ true) × Sends (component name t presence cs) (field_before x.0 fs) os
first_takes name t presence cs i at os x fs digits law proper (inl (h, v, stands, due, read, kept, is, size)) fit sends =
    let one = law.takes at h os v digits stands due read in
    let parts : take (h.size + h.contents) os ++ drop x.1 os ≡ os = ap (λ (n : ℕ). take n os ++ drop x.1 os) (sym size) ∙ take-append-drop x.1 os in
    let both = sent_first name t presence cs v fs (take (h.size + h.contents) os) (drop x.1 os) kept one.encoded sends in
    rw is (and_from (fits t v) (fits_fields cs fs) one.fits fit, subst (λ (y : List ℕ). Sends (component name t presence cs) (value.present v fs) y) parts both)
first_takes name t presence cs i at os x fs digits law proper (inr (unsent, b, skip, size)) fit sends =
    let same : drop x.1 os ≡ os = ap (λ (n : ℕ). drop n os) size in
    unsent_first name t presence cs x.0 fs os b proper skip fit (subst (λ (y : List ℕ). Sends cs fs y) same sends)

pub fields_takes : (i : ℕ) (cs : Components) (at : ℕ) (os : List ℕ) (fs : Fields) → AreDigits 256 os → AllLawful cs → are_proper cs ≡ true → fields_at i cs at os ≡ Ok fs → (fits_fields cs fs ≡ true) × Sends cs fs os
unfolding fields_at
fields_takes i no_components at os fs digits laws proper e =
    let d = end_ok at os fs e in
    rw (← d.1, d.0) (refl, ([], refl, refl))
fields_takes i (component name t presence cs) at os fs digits laws proper e =
    let p = and_parts (is_proper t && is_proper_presence t presence) (are_proper cs) proper in
    let q = and_parts (is_proper t) (is_proper_presence t presence) p.0 in
    let a = bind_ok (component_at i presence (λ tag. begins_with t tag) (element_at t) at os) (λ x. fields_at (suc i) cs (at + x.1) (drop x.1 os) >>= λ fs. Ok (field_before x.0 fs)) fs e in
    let b = bind_ok (fields_at (suc i) cs (at + a.0.1) (drop a.0.1 os)) (λ fs. Ok (field_before a.0.0 fs)) fs a.2 in
    let others = fields_takes (suc i) cs (at + a.0.1) (drop a.0.1 os) b.0 (digits_drop a.0.1 os digits) laws.1 p.1 b.1 in
    let one = first_takes name t presence cs i at os a.0 b.0 digits laws.0 q.1 (component_ok i presence (λ tag. begins_with t tag) (element_at t) at os a.0 a.1) others.0 others.1 in
    rw (← same_Ok {F = AbstractBreach} (field_before a.0.0 b.0) fs b.2) one

-- ---- what fits and is sent is read

abbrev pub append : Fields → Fields → Fields
append value.no_fields gs = gs
append (value.present v fs) gs = value.present v (append fs gs)
append (value.absent fs) gs = value.absent (append fs gs)

append_none : (fs : Fields) → append fs value.no_fields ≡ fs
append_none value.no_fields = refl
append_none (value.present v fs) = ap (value.present v) (append_none fs)
append_none (value.absent fs) = ap value.absent (append_none fs)

-- these fields, and then what is read
abbrev pub prefixed : Fields → Result Fields AbstractBreach → Result Fields AbstractBreach
prefixed fs (Ok gs) = Ok (append fs gs)
prefixed fs (Err b) = Err b

prefixed_none : (r : Result Fields AbstractBreach) → prefixed value.no_fields r ≡ r
prefixed_none (Ok gs) = refl
prefixed_none (Err b) = refl

prefixed_field : (f : Option AbstractValue) (fs : Fields) (r : Result Fields AbstractBreach) → (prefixed fs r >>= λ gs. Ok (field_before f gs)) ≡ prefixed (field_before f fs) r
prefixed_field None fs (Ok gs) = refl
prefixed_field (Some v) fs (Ok gs) = refl
prefixed_field None fs (Err b) = refl
prefixed_field (Some v) fs (Err b) = refl

last_after_sent : (name : List ℕ) (t : AbstractType) (presence : AbstractPresence) (cs : Components) (v : AbstractValue) (fs : Fields) → last_is_sent (component name t presence cs) (value.present v fs) ≡ true → last_is_sent cs fs ≡ true
last_after_sent name t presence no_components v fs e = refl
last_after_sent name t presence (component name2 u p cs) v fs e = e

-- a last one that is sent comes after one that is not
abbrev SomeLast : Components → Fields → Type 0
SomeLast cs fs = (cs ≢ no_components) × (last_is_sent cs fs ≡ true)

some_component : (name : List ℕ) (t : AbstractType) (presence : AbstractPresence) (cs : Components) → component name t presence cs ≢ no_components
some_component name t presence cs e = absurd cc

last_after_absent : (name : List ℕ) (t : AbstractType) (presence : AbstractPresence) (cs : Components) (fs : Fields) → last_is_sent (component name t presence cs) (value.absent fs) ≡ true → SomeLast cs fs
last_after_absent name t presence no_components fs e = absurd cc
last_after_absent name t presence (component name2 u p cs) fs e = (some_component name2 u p cs, e)

last_after_left : (name : List ℕ) (t : AbstractType) (presence : AbstractPresence) (cs : Components) (v : AbstractValue) (fs : Fields) → is_left_out presence v ≡ true → last_is_sent (component name t presence cs) (value.present v fs) ≡ true → SomeLast cs fs
last_after_left name t presence no_components v fs left e = absurd (false≢true (sym (ap not left) ∙ e))
last_after_left name t presence (component name2 u p cs) v fs left e = (some_component name2 u p cs, e)

left_skips : (presence : AbstractPresence) (v : AbstractValue) (b : AbstractBreach) → is_left_out presence v ≡ true → not_sent presence b ≡ Ok (Some v)
left_skips type.mandatory v b e = absurd cc
left_skips type.optional v b e = absurd cc
left_skips type.pending v b e = absurd cc
left_skips (type.default d) v b e = ap (λ (v : AbstractValue). Ok (Some v)) (equal_values d v e)

absent_skips : (presence : AbstractPresence) (b : AbstractBreach) → may_be_absent presence ≡ true → not_sent presence b ≡ Ok None
absent_skips type.mandatory b e = absurd cc
absent_skips type.optional b e = refl
absent_skips type.pending b e = absurd cc
absent_skips (type.default d) b e = absurd cc

next_of : (mandatory next : Bool) → (mandatory || next) ≡ true → mandatory ≡ false → next ≡ true
next_of true next e f = absurd cc
next_of false next e f = e

pub none_sent : (fs : Fields) (front : List ℕ) → fits_fields no_components fs ≡ true → Sends no_components fs front → front ≡ []
none_sent value.no_fields front fit (ps, e, is) = sym is ∙ ap parts_joined (sym (same_Some [] ps e))
none_sent (value.present v fs) front fit sends = absurd cc
none_sent (value.absent fs) front fit sends = absurd cc

no_fields_fit : (fs : Fields) → fits_fields no_components fs ≡ true → fs ≡ value.no_fields
no_fields_fit value.no_fields fit = refl
no_fields_fit (value.present v fs) fit = absurd cc
no_fields_fit (value.absent fs) fit = absurd cc

nowhere : (front behind : List ℕ) (cs : Components) (fs : Fields) → front ≡ [] → cs ≡ no_components → (behind ≡ []) ⊎ SomeLast cs fs → front ++ behind ≡ []
nowhere front behind cs fs nothing none (inl e) = ap (λ (x : List ℕ). x ++ behind) nothing ∙ e
nowhere front behind cs fs nothing none (inr (some, last)) = absurd (some none)

unlike_sent : (t u : AbstractType) (v : AbstractValue) (first others behind front : List ℕ) → LawfulType u → differ t u ≡ true → fits u v ≡ true → der u v ≡ Some first → first ++ others ≡ front
    → Unsent (λ tag. begins_with t tag) (front ++ behind)
unlike_sent t u v first others behind front law other fit e is =
    let a = law.again 0 v first (others ++ behind) fit e in
    let whole : front ++ behind ≡ first ++ (others ++ behind) = ap (λ (x : List ℕ). x ++ behind) (sym is) ∙ append_assoc first others behind in
    inr (a.header, ap head_of whole ∙ a.stands, differ_tags t u a.header.tag other a.due)

absent_end : (name : List ℕ) (t : AbstractType) (presence : AbstractPresence) (cs : Components) (fs : Fields) (behind : List ℕ) → (behind ≡ []) ⊎ (last_is_sent (component name t presence cs) (value.absent fs) ≡ true) → (behind ≡ []) ⊎ SomeLast cs fs
absent_end name t presence cs fs behind (inl e) = inl e
absent_end name t presence cs fs behind (inr last) = inr (last_after_absent name t presence cs fs last)

some_end : (cs : Components) (fs : Fields) (behind : List ℕ) → (behind ≡ []) ⊎ SomeLast cs fs → (behind ≡ []) ⊎ (last_is_sent cs fs ≡ true)
some_end cs fs behind (inl e) = inl e
some_end cs fs behind (inr (some, last)) = inr last

left_end : (name : List ℕ) (t : AbstractType) (presence : AbstractPresence) (cs : Components) (v : AbstractValue) (fs : Fields) (behind : List ℕ) → is_left_out presence v ≡ true → (behind ≡ []) ⊎ (last_is_sent (component name t presence cs) (value.present v fs) ≡ true) → (behind ≡ []) ⊎ SomeLast cs fs
left_end name t presence cs v fs behind left (inl e) = inl e
left_end name t presence cs v fs behind left (inr last) = inr (last_after_left name t presence cs v fs left last)

unlike_present : (t : AbstractType) (name : List ℕ) (u : AbstractType) (presence : AbstractPresence) (cs : Components) (v : AbstractValue) (fs : Fields) (front behind : List ℕ) (left : Bool)
    → is_left_out presence v ≡ left → LawfulType u → differ t u ≡ true → fits u v ≡ true → Sends (component name u presence cs) (value.present v fs) front
    → (behind ≡ []) ⊎ SomeLast (component name u presence cs) (value.present v fs)
    → (is_mandatory presence ≡ false → Sends cs fs front → (behind ≡ []) ⊎ SomeLast cs fs → Unsent (λ tag. begins_with t tag) (front ++ behind)) → Unsent (λ tag. begins_with t tag) (front ++ behind)
unlike_present t name u presence cs v fs front behind false kept law other fit sends end later =
    let s = sends_sent name u presence cs v fs front kept sends in
    unlike_sent t u v s.0 s.1 behind front law other fit s.2 s.4
unlike_present t name u presence cs v fs front behind true left law other fit sends end later =
    let optional = skips_optional presence (here code.MissingComponent) (Some v) (left_skips presence v (here code.MissingComponent) left) in
    later optional (sends_left name u presence cs v fs front left sends) (left_end name u presence cs v fs behind left (some_end (component name u presence cs) (value.present v fs) behind end))

-- What comes after a component that is not sent is not of it.
unlike : (t : AbstractType) (k : ℕ) (cs : Components) (fs : Fields) (front behind : List ℕ) → AllLawful cs → differs_from_next t cs ≡ true → fits_fields (first_components k cs) fs ≡ true → Sends (first_components k cs) fs front
    → (behind ≡ []) ⊎ SomeLast (first_components k cs) fs → Unsent (λ tag. begins_with t tag) (front ++ behind)
unlike t zero cs fs front behind laws others fit sends end = inl (nowhere front behind no_components fs (none_sent fs front fit sends) refl end)
unlike t (suc k) no_components fs front behind laws others fit sends end = inl (nowhere front behind no_components fs (none_sent fs front fit sends) refl end)
unlike t (suc k) (component name u presence cs) (value.present v fs) front behind laws others fit sends end =
    let o = and_parts (differ t u) (is_mandatory presence || differs_from_next t cs) others in
    let f = and_parts (fits u v) (fits_fields (first_components k cs) fs) fit in
    unlike_present t name u presence (first_components k cs) v fs front behind (is_left_out presence v) refl laws.0 o.0 f.0 sends end
    (λ optional sends end. unlike t k cs fs front behind laws.1 (next_of (is_mandatory presence) (differs_from_next t cs) o.1 optional) f.1 sends end)
unlike t (suc k) (component name u presence cs) (value.absent fs) front behind laws others fit sends end =
    let o = and_parts (differ t u) (is_mandatory presence || differs_from_next t cs) others in
    let f = and_parts (may_be_absent presence) (fits_fields (first_components k cs) fs) fit in
    let optional = skips_optional presence (here code.MissingComponent) None (absent_skips presence (here code.MissingComponent) f.0) in
    unlike t k cs fs front behind laws.1 (next_of (is_mandatory presence) (differs_from_next t cs) o.1 optional) f.1 sends (absent_end name u presence (first_components k cs) fs behind (some_end (component name u presence (first_components k cs)) (value.absent fs) behind end))
unlike t (suc k) (component name u presence cs) value.no_fields front behind laws others fit sends end = absurd cc

through_step : (name : List ℕ) (t : AbstractType) (presence : AbstractPresence) (cs : Components) (k i at n : ℕ) (os : List ℕ) (f : Option AbstractValue) (fs : Fields) (front others behind : List ℕ)
    → component_at i presence (λ tag. begins_with t tag) (element_at t) at os ≡ Ok (f, n) → drop n os ≡ others ++ behind → n + length others ≡ length front
    → fields_at (suc i) cs (at + n) (others ++ behind) ≡ prefixed fs (fields_at (suc i + k) (other_components k cs) (at + n + length others) behind)
    → fields_at i (component name t presence cs) at os ≡ prefixed (field_before f fs) (fields_at (i + suc k) (other_components k cs) (at + length front) behind)
unfolding fields_at
through_step name t presence cs k i at n os f fs front others behind read rest size ih =
    let place : suc i + k ≡ i + suc k = omega arith in
    let offset : at + n + length others ≡ at + length front = omega (arith, size) in
    ap (λ (r : Result (Option AbstractValue × ℕ) AbstractBreach). r >>= λ x. fields_at (suc i) cs (at + x.1) (drop x.1 os) >>= λ fs. Ok (field_before x.0 fs)) read
    ∙ ap (λ (x : List ℕ). fields_at (suc i) cs (at + n) x >>= λ fs. Ok (field_before f fs)) rest
    ∙ ap (λ (r : Result Fields AbstractBreach). r >>= λ fs. Ok (field_before f fs)) ih
    ∙ prefixed_field f fs (fields_at (suc i + k) (other_components k cs) (at + n + length others) behind)
    ∙ ap (λ (j : ℕ). prefixed (field_before f fs) (fields_at j (other_components k cs) (at + n + length others) behind)) place
    ∙ ap (λ (j : ℕ). prefixed (field_before f fs) (fields_at (i + suc k) (other_components k cs) j behind)) offset

-- nothing is passed
through_none : (cs : Components) (i at : ℕ) (fs : Fields) (front behind : List ℕ) → fits_fields no_components fs ≡ true → Sends no_components fs front
    → fields_at i cs at (front ++ behind) ≡ prefixed fs (fields_at (i + 0) cs (at + length front) behind)
through_none cs i at fs front behind fit sends =
    let nothing = none_sent fs front fit sends in
    let place : i ≡ i + 0 = omega arith in
    let offset : at ≡ at + length front = omega (arith, ap length nothing) in
    ap (λ (x : List ℕ). fields_at i cs at (x ++ behind)) nothing
    ∙ ap (λ (j : ℕ). fields_at j cs at behind) place
    ∙ ap (λ (j : ℕ). fields_at (i + 0) cs j behind) offset
    ∙ sym (prefixed_none (fields_at (i + 0) cs (at + length front) behind))
    ∙ ap (λ (gs : Fields). prefixed gs (fields_at (i + 0) cs (at + length front) behind)) (sym (no_fields_fit fs fit))

-- without components the place doesn't matter
ended_anywhere : (i j at : ℕ) (os : List ℕ) → fields_at i no_components at os ≡ fields_at j no_components at os
unfolding fields_at
ended_anywhere i j at os = refl

abbrev pub Through : ℕ → Components → Type 0
Through k cs = (i at : ℕ) (fs : Fields) (front behind : List ℕ) → fits_fields (first_components k cs) fs ≡ true → Sends (first_components k cs) fs front → (behind ≡ []) ⊎ (last_is_sent (first_components k cs) fs ≡ true)
    → fields_at i cs at (front ++ behind) ≡ prefixed fs (fields_at (i + k) (other_components k cs) (at + length front) behind)

through_sent : (name : List ℕ) (t : AbstractType) (presence : AbstractPresence) (cs : Components) (k i at : ℕ) (v : AbstractValue) (fs : Fields) (front behind : List ℕ)
    → LawfulType t → fits t v ≡ true → fits_fields (first_components k cs) fs ≡ true → is_left_out presence v ≡ false → Sends (component name t presence (first_components k cs)) (value.present v fs) front
    → Through k cs → (behind ≡ []) ⊎ (last_is_sent (first_components k cs) fs ≡ true)
    → fields_at i (component name t presence cs) at (front ++ behind) ≡ prefixed (value.present v fs) (fields_at (i + suc k) (other_components k cs) (at + length front) behind)
through_sent name t presence cs k i at v fs front behind law fit fits_rest kept sends ih end =
    let s = sends_sent name t presence (first_components k cs) v fs front kept sends in
    let a = law.again at v s.0 (s.1 ++ behind) fit s.2 in
    let whole : front ++ behind ≡ s.0 ++ (s.1 ++ behind) = ap (λ (x : List ℕ). x ++ behind) (sym s.4) ∙ append_assoc s.0 s.1 behind in
    let read = component_sends i presence (λ tag. begins_with t tag) (element_at t) at (front ++ behind) a.header v (ap head_of whole ∙ a.stands) a.due (ap (element_at t at a.header) whole ∙ a.read) kept in
    let rest : drop (a.header.size + a.header.contents) (front ++ behind) ≡ s.1 ++ behind = ap (drop (a.header.size + a.header.contents)) whole ∙ drop_at s.0 (s.1 ++ behind) (a.header.size + a.header.contents) (sym a.size) in
    let size : a.header.size + a.header.contents + length s.1 ≡ length front = omega (arith, a.size, ap length s.4, length-append s.0 s.1) in
    through_step name t presence cs k i at (a.header.size + a.header.contents) (front ++ behind) (Some v) fs front s.1 behind read rest size
    (ih (suc i) (at + (a.header.size + a.header.contents)) fs s.1 behind fits_rest s.3 end)

through_unsent : (name : List ℕ) (t : AbstractType) (presence : AbstractPresence) (cs : Components) (k i at : ℕ) (f : Option AbstractValue) (fs : Fields) (front behind : List ℕ) (b : AbstractBreach)
    → not_sent presence b ≡ Ok f → Unsent (λ tag. begins_with t tag) (front ++ behind) → fits_fields (first_components k cs) fs ≡ true → Sends (first_components k cs) fs front
    → Through k cs → (behind ≡ []) ⊎ (last_is_sent (first_components k cs) fs ≡ true)
    → fields_at i (component name t presence cs) at (front ++ behind) ≡ prefixed (field_before f fs) (fields_at (i + suc k) (other_components k cs) (at + length front) behind)
through_unsent name t presence cs k i at f fs front behind b skip unsent fits_rest sends ih end =
    let read = component_skips i presence (λ tag. begins_with t tag) (element_at t) at (front ++ behind) b f unsent skip in
    let size : 0 + length front ≡ length front = omega arith in
    through_step name t presence cs k i at 0 (front ++ behind) f fs front front behind read refl size (ih (suc i) (at + 0) fs front behind fits_rest sends end)

present_end : (name : List ℕ) (t : AbstractType) (presence : AbstractPresence) (cs : Components) (v : AbstractValue) (fs : Fields) (behind : List ℕ) → (behind ≡ []) ⊎ (last_is_sent (component name t presence cs) (value.present v fs) ≡ true) → (behind ≡ []) ⊎ (last_is_sent cs fs ≡ true)
present_end name t presence cs v fs behind (inl e) = inl e
present_end name t presence cs v fs behind (inr last) = inr (last_after_sent name t presence cs v fs last)

through_present : (name : List ℕ) (t : AbstractType) (presence : AbstractPresence) (cs : Components) (k i at : ℕ) (v : AbstractValue) (fs : Fields) (front behind : List ℕ) (left : Bool)
    → is_left_out presence v ≡ left → AllLawful (component name t presence cs) → optional_differ (component name t presence cs) ≡ true → fits t v ≡ true → fits_fields (first_components k cs) fs ≡ true
    → Sends (component name t presence (first_components k cs)) (value.present v fs) front → Through k cs → (behind ≡ []) ⊎ (last_is_sent (component name t presence (first_components k cs)) (value.present v fs) ≡ true)
    → fields_at i (component name t presence cs) at (front ++ behind) ≡ prefixed (value.present v fs) (fields_at (i + suc k) (other_components k cs) (at + length front) behind)
through_present name t presence cs k i at v fs front behind false kept laws distinct fit fits_rest sends ih end =
    through_sent name t presence cs k i at v fs front behind laws.0 fit fits_rest kept sends ih (present_end name t presence (first_components k cs) v fs behind end)
through_present name t presence cs k i at v fs front behind true left laws distinct fit fits_rest sends ih end =
    let skip = left_skips presence v (here code.MissingComponent) left in
    let optional = skips_optional presence (here code.MissingComponent) (Some v) skip in
    let d = and_parts (is_mandatory presence || differs_from_next t cs) (optional_differ cs) distinct in
    let others = sends_left name t presence (first_components k cs) v fs front left sends in
    let e = left_end name t presence (first_components k cs) v fs behind left end in
    let unsent = unlike t k cs fs front behind laws.1 (next_of (is_mandatory presence) (differs_from_next t cs) d.0 optional) fits_rest others e in
    through_unsent name t presence cs k i at (Some v) fs front behind (here code.MissingComponent) skip unsent fits_rest others ih (some_end (first_components k cs) fs behind e)

-- What is sent of the first components is passed over.
pub through : (k : ℕ) (cs : Components) → AllLawful cs → optional_differ cs ≡ true → Through k cs
through zero cs laws distinct i at fs front behind fit sends end = through_none cs i at fs front behind fit sends
through (suc k) no_components laws distinct i at fs front behind fit sends end = through_none no_components i at fs front behind fit sends ∙ ap (prefixed fs) (ended_anywhere (i + 0) (i + suc k) (at + length front) behind)
through (suc k) (component name t presence cs) laws distinct i at (value.present v fs) front behind fit sends end =
    let f = and_parts (fits t v) (fits_fields (first_components k cs) fs) fit in
    let d = and_parts (is_mandatory presence || differs_from_next t cs) (optional_differ cs) distinct in
    through_present name t presence cs k i at v fs front behind (is_left_out presence v) refl laws distinct f.0 f.1 sends (through k cs laws.1 d.1) end
through (suc k) (component name t presence cs) laws distinct i at (value.absent fs) front behind fit sends end =
    let f = and_parts (may_be_absent presence) (fits_fields (first_components k cs) fs) fit in
    let d = and_parts (is_mandatory presence || differs_from_next t cs) (optional_differ cs) distinct in
    let skip = absent_skips presence (here code.MissingComponent) f.0 in
    let optional = skips_optional presence (here code.MissingComponent) None skip in
    let e = absent_end name t presence (first_components k cs) fs behind end in
    let unsent = unlike t k cs fs front behind laws.1 (next_of (is_mandatory presence) (differs_from_next t cs) d.0 optional) f.1 sends e in
    through_unsent name t presence cs k i at None fs front behind (here code.MissingComponent) skip unsent f.1 sends (through k cs laws.1 d.1) (some_end (first_components k cs) fs behind e)
through (suc k) (component name t presence cs) laws distinct i at value.no_fields front behind fit sends end = absurd cc

all_first : (cs : Components) → (first_components (component_count cs) cs ≡ cs) × (other_components (component_count cs) cs ≡ no_components)
all_first no_components = (refl, refl)
all_first (component name t presence cs) = let a = all_first cs in (ap (component name t presence) a.0, a.1)

end_none : (i at : ℕ) → fields_at i no_components at [] ≡ Ok value.no_fields
unfolding fields_at end_at
end_none i at = refl

pub fields_again : (i : ℕ) (cs : Components) (at : ℕ) (os : List ℕ) (fs : Fields) → AllLawful cs → optional_differ cs ≡ true → fits_fields cs fs ≡ true → Sends cs fs os → fields_at i cs at os ≡ Ok fs
fields_again i cs at os fs laws distinct fit sends =
    let a = all_first cs in
    let fits_all : fits_fields (first_components (component_count cs) cs) fs ≡ true = rw a.0 fit in
    let sends_all : Sends (first_components (component_count cs) cs) fs os = subst (λ (x : Components). Sends x fs os) (sym a.0) sends in
    ap (fields_at i cs at) (sym (append-nil os))
    ∙ through (component_count cs) cs laws distinct i at fs os [] fits_all sends_all (inl refl)
    ∙ ap (λ (x : Components). prefixed fs (fields_at (i + component_count cs) x (at + length os) [])) a.1
    ∙ ap (prefixed fs) (end_none (i + component_count cs) (at + length os))
    ∙ ap (λ (fs : Fields). Ok fs) (append_none fs)
