-- The contents of a SET: what is read fits and was sent, what is sent is read, and its faults.
use Rattle.std.proofs.Common.{◌≡◌, ◌≢◌, ℕ, zero, suc, ◌+◌, ◌<◌, ◌≤◌, ◌^◌, Bool, true, false, List, [], ◌∷◌, ◌++◌, length, take, drop, Option, Some, None, Result, Ok, Err, refl, sym, ap, ◌∙◌, arith, inl, inr}
use Rattle.std.specs.Prelude.{IsTrue}
use Rattle.std.proofs.lemmas.List.{append-nil, take-append-drop}
use Rattle.guard_model.specs.declared.site.Step.TheVariants.{Component}
use Rattle.guard_model.specs.declared.tag.Tag.{Tag}
use Rattle.guard_model.specs.AbstractType as type
use Rattle.guard_model.specs.AbstractType.{AbstractPresence, Components, no_components, component}
use Rattle.guard_model.specs.AbstractValue as value
use Rattle.guard_model.specs.AbstractValue.{AbstractValue, Fields}
use Rattle.guard_tagcheck.specs.Limits.{deepest}
use Rattle.guard_der.specs.declared.breach.Code.{Code}
use Rattle.guard_der.specs.declared.breach.Code.TheVariants as code
use Rattle.guard_der.specs.Head.{Head, head_of}
use Rattle.guard_der.specs.Der.{Part, alternative_octets, parts_of, parts_joined, ascending, contents_octets, is_left_out}
use Rattle.guard_der.specs.Fits.{fits_kind, fits_alternative}
use Rattle.guard_der.specs.Sound.{are_proper}
use Rattle.guard_der.specs.Breach.{AbstractBreach, FaultInPart, FaultInSent, FaultInContents, SendsDefault, SetFault, one_with, is_found, is_after, is_sent, missing, fits_partly, here, after, below}
use Rattle.guard_model.specs.Slots.{all_absent}
use Rattle.guard_der.specs.Reading.{is_filled, presence_at, follows, set_element_at, completed, set_at, part_at, contents_at, fields_read, missing_at, fault}
use Rattle.guard_der.proofs.Elements.Steps.{option_parts, moved, fault_after, after_after, head_is}
use Rattle.guard_der.proofs.Numbers.Digits.{AreDigits}
use Rattle.guard_der.proofs.Components.OneComponent.{none_stands}
use Rattle.guard_der.proofs.Elements.Laws.{LawfulBody, Found}
use Rattle.guard_der.proofs.Components.DistinctTags.{all_differ}
use Rattle.guard_der.proofs.Components.ByTag.{AllLawful, part_lawful, with_tag}
use Rattle.guard_der.proofs.Sequences.Faults.{fields_err}
use Rattle.guard_der.proofs.Sets.SentFields.{all_sent, sent_only, sent_fits, sent_parts, sent_all, sent_missing, sent_filled, sent_already, partly, completed_again, completed_takes, completed_fault, completed_found}
use Rattle.guard_der.proofs.Sets.ReadElements.{ReadElement, read_fields, last_tag, octets_read, AreReadInOrder, Reached, reached, sent_as}
use Rattle.guard_der.proofs.Sets.OneElement.{ElementErr, set_element_err, set_element_bad, set_element_strays, set_element_fails, set_element_default, place_free, place_unknown, place_descends, place_full}
use Rattle.guard_der.proofs.Sets.Reading.{through, well, badly, rest_at, FaultHere}
use Rattle.guard_der.proofs.Sets.Paths.{set_shallow}
use Rattle.guard_model.proofs.Results.{same_Ok}
use Rattle.std.proofs.lemmas.Option.{same_Some}

abbrev Sent : Components → ℕ → List ℕ → AbstractBreach → Type 0
Sent cs j os c = FaultInSent cs (λ j os c. FaultInPart cs j os c) j os c

-- ---- what is sent

set_octets : (cs : Components) (fs : Fields) (ps : List Part) (octets : List ℕ) → parts_of cs fs ≡ Some ps → parts_joined (ascending ps) ≡ octets → contents_octets (type.set cs) (value.fields fs) ≡ Some octets
set_octets cs fs ps octets e is = rw e (ap (λ (os : List ℕ). Some os) is)

octets_set : (cs : Components) (fs : Fields) (octets : List ℕ) → contents_octets (type.set cs) (value.fields fs) ≡ Some octets → (ps : List Part) × (parts_of cs fs ≡ Some ps) × (parts_joined (ascending ps) ≡ octets)
octets_set cs fs octets e = let a = option_parts (parts_of cs fs) (λ ps. Some (parts_joined (ascending ps))) octets e in (a.0, a.1, same_Some (parts_joined (ascending a.0)) octets a.2)

-- the elements as which fields are sent, and their octets
record Elements (cs : Components) (fs : Fields) (ps : List Part) (octets : List ℕ) : Type 0 where
  elements : List ReadElement
  in_order : AreReadInOrder cs elements
  are : read_fields cs elements ≡ sent_only cs fs
  octets_are : octets_read elements ≡ octets
  after : (t : Tag) → is_after t ps ≡ follows (last_tag cs elements) t

elements : (cs : Components) (fs : Fields) (ps : List Part) (octets : List ℕ) → AllLawful cs → all_differ cs ≡ true → fits_partly cs fs ≡ true → parts_of cs fs ≡ Some ps → parts_joined (ascending ps) ≡ octets → Elements cs fs ps octets
elements cs fs ps octets laws distinct fit e is =
    let sent : parts_of cs (sent_only cs fs) ≡ Some ps = sent_parts cs fs ∙ e in
    let t = sent_as cs (sent_only cs fs) ps laws distinct (sent_fits cs fs fit) (sent_all cs fs) sent in
    let r = reached cs t.elements t.in_order in
    let same : r.parts ≡ ps = same_Some r.parts ps (sym r.parts_are ∙ ap (parts_of cs) t.are ∙ sent) in
    record {
      elements = t.elements;
      in_order = t.in_order;
      are = t.are;
      octets_are = sym r.octets ∙ ap (λ (ps : List Part). parts_joined (ascending ps)) same ∙ is;
      after = λ tag. ap (is_after tag) (sym same) ∙ r.after tag;
    }

-- ---- a fault at the place that is reached

sends_default : (cs : Components) (j : ℕ) (v : AbstractValue) (front behind os : List ℕ) → fits_alternative cs j v ≡ true → alternative_octets cs j v ≡ Some front → is_left_out (presence_at j cs) v ≡ true → os ≡ front ++ behind → SendsDefault cs j os
sends_default no_components j v front behind os fit e left parts = absurd cc
sends_default (component name t presence rest) zero v front behind os fit e left parts = (v, front, behind, fit, e, left, parts)
sends_default (component name t presence rest) (suc j) v front behind os fit e left parts = sends_default rest j v front behind os fit e left parts

default_sent : (cs : Components) (j : ℕ) (os : List ℕ) → SendsDefault cs j os
    → (v : AbstractValue) × (front : List ℕ) × (behind : List ℕ) × (fits_alternative cs j v ≡ true) × (alternative_octets cs j v ≡ Some front) × (is_left_out (presence_at j cs) v ≡ true) × (os ≡ front ++ behind)
default_sent no_components j os sent = absurd sent
default_sent (component name t presence rest) zero os (v, front, behind, fit, e, left, parts) = (v, front, behind, fit, e, left, parts)
default_sent (component name t presence rest) (suc j) os sent = default_sent rest j os sent

filled_is_sent : (cs : Components) (gs : Fields) (j : ℕ) (b : Bool) → fits_partly cs gs ≡ true → all_sent cs gs ≡ true → is_filled j gs ≡ b → is_sent j cs gs ≡ b
filled_is_sent cs gs j b fit sent e = sent_filled j cs gs fit ∙ ap (is_filled j) (sent_already cs gs sent) ∙ e

record SeenFault (cs : Components) (gs : Fields) (ps : List Part) (at : ℕ) (os : List ℕ) (b : AbstractBreach) : Type 0 where
  inner : AbstractBreach
  found : SetFault cs (λ j os c. Sent cs j os c) gs ps os inner
  seen : b ≡ after at inner

set_element_fault : (cs : Components) (es : List ReadElement) (r : Reached cs es) (at : ℕ) (os : List ℕ) (b : AbstractBreach) → AllLawful cs → AreDigits 256 os → os ≢ [] → ElementErr cs (part_at cs) (read_fields cs es) (last_tag cs es) at os b → SeenFault cs (read_fields cs es) r.parts at os b
set_element_fault cs es r at os b laws digits some (inl (c, e, is)) = record { inner = here c; found = inr (inl (c, some, inl e, refl)); seen = is ∙ fault_after c at }
set_element_fault cs es r at os b laws digits some (inr (inl (h, e, inl (none, is)))) =
    record { inner = here code.UnexpectedTag; found = inr (inl (code.UnexpectedTag, some, inr (h, e, ap is_found none, refl), refl)); seen = is ∙ fault_after code.UnexpectedTag at }
set_element_fault cs es r at os b laws digits some (inr (inl (h, e, inr (inl (j, found, descends, is))))) =
    record { inner = below (Component j) (here code.SetOrder); found = inr (inr (h, j, e, found, inl (r.after h.tag ∙ descends, refl))); seen = is ∙ ap (below (Component j)) (fault_after code.SetOrder at) }
set_element_fault cs es r at os b laws digits some (inr (inl (h, e, inr (inr (j, found, later, full, is))))) = record {
  inner = here code.UnexpectedTag;
  found = inr (inr (h, j, e, found, inr (inl (r.after h.tag ∙ later, filled_is_sent cs (read_fields cs es) j true r.fits r.sent full, refl))));
  seen = is ∙ fault_after code.UnexpectedTag at;
}
set_element_fault cs es r at os b laws digits some (inr (inr (inl (h, j, c, e, (found, later, free), read, is)))) =
    let w = with_tag cs h.tag j found in
    let f = (part_lawful cs j laws w.0).fault at h os c digits e w.1 read in
    record {
      inner = below (Component j) f.inner;
      found = inr (inr (h, j, e, found, inr (inr (f.inner, r.after h.tag ∙ later, filled_is_sent cs (read_fields cs es) j false r.fits r.sent free, inl f.found, refl))));
      seen = is ∙ ap (below (Component j)) f.seen;
    }
set_element_fault cs es r at os b laws digits some (inr (inr (inr (h, j, v, e, (found, later, free), read, left, is)))) =
    let w = with_tag cs h.tag j found in
    let t = (part_lawful cs j laws w.0).takes at h os v digits e w.1 read in
    let sent = sends_default cs j v (take (h.size + h.contents) os) (drop (h.size + h.contents) os) os t.fits t.encoded left (sym (take-append-drop (h.size + h.contents) os)) in
    record {
      inner = below (Component j) (here code.DefaultPresent);
      found = inr (inr (h, j, e, found, inr (inr (here code.DefaultPresent, r.after h.tag ∙ later, filled_is_sent cs (read_fields cs es) j false r.fits r.sent free, inr (sent, refl), refl))));
      seen = is ∙ ap (below (Component j)) (fault_after code.DefaultPresent at);
    }

fault_here : (cs : Components) (es : List ReadElement) (r : Reached cs es) (at : ℕ) (os : List ℕ) (b : AbstractBreach) → AllLawful cs → AreDigits 256 os → FaultHere cs es at os b → SeenFault cs (read_fields cs es) r.parts at os b
fault_here cs es r at os b laws digits (inl (empty, e)) =
    let m = completed_fault 0 cs (read_fields cs es) at b e in
    record { inner = below (Component m.0) (here code.MissingComponent); found = inl (m.0, empty, m.1, refl); seen = m.2 ∙ moved (missing_at m.0 at) at (at + 0) (omega arith) }
fault_here cs es r at os b laws digits (inr (some, e)) = set_element_fault cs es r at os b laws digits some (set_element_err cs (part_at cs) (read_fields cs es) (last_tag cs es) at os b e)

-- ---- and is read there

step_fails : (n : ℕ) (cs : Components) (es : List ReadElement) (at : ℕ) (os : List ℕ) (b : AbstractBreach) → os ≢ [] → length os ≤ n → set_element_at cs (part_at cs) (read_fields cs es) (last_tag cs es) at os ≡ Err b → rest_at n cs es at os ≡ Err b
unfolding set_at
step_fails n cs es at [] b some enough e = absurd (some refl)
step_fails zero cs es at (o ∷ os) b some enough e = absurd (omega (arith, enough))
step_fails (suc n) cs es at (o ∷ os) b some enough e = rw e refl

ends_badly : (n : ℕ) (cs : Components) (es : List ReadElement) (at j : ℕ) (os : List ℕ) → os ≡ [] → missing 0 cs (read_fields cs es) ≡ Some j → rest_at n cs es at os ≡ Err (missing_at j at)
unfolding set_at
ends_badly n cs es at j [] empty e = completed_found 0 cs (read_fields cs es) at j e
ends_badly n cs es at j (o ∷ os) empty e = absurd cc

stands_some : (os : List ℕ) (h : Head) → head_of os ≡ Ok h → os ≢ []
stands_some os h e empty = none_stands h (ap head_of (sym empty) ∙ e)

no_place : (found : Option ℕ) → is_found found ≡ false → found ≡ None
no_place None e = refl
no_place (Some i) e = absurd cc

sent_found : (n : ℕ) (cs : Components) (es : List ReadElement) (at j : ℕ) (os : List ℕ) (h : Head) (d : AbstractBreach) → AllLawful cs → length os ≤ n → head_of os ≡ Ok h → one_with 0 cs h.tag ≡ Some j → follows (last_tag cs es) h.tag ≡ true → is_filled j (read_fields cs es) ≡ false
    → Sent cs j os d → rest_at n cs es at os ≡ Err (after at (below (Component j) d))
sent_found n cs es at j os h d laws enough e found later free (inl faulty) =
    let w = with_tag cs h.tag j found in
    let f = (part_lawful cs j laws w.0).found at os d faulty in
    let same : f.header ≡ h = head_is os f.header h f.stands e in
    let read : part_at cs j at h os ≡ Err (after at d) = ap (λ (h : Head). part_at cs j at h os) (sym same) ∙ f.read in
    step_fails n cs es at os (below (Component j) (after at d)) (stands_some os h e) enough
    (set_element_fails cs (part_at cs) (read_fields cs es) (last_tag cs es) at os h j (after at d) e (place_free cs (read_fields cs es) (last_tag cs es) at h.tag j found later free) read)
sent_found n cs es at j os h d laws enough e found later free (inr (sent, is)) =
    let w = with_tag cs h.tag j found in
    let s = default_sent cs j os sent in
    let a = (part_lawful cs j laws w.0).again at s.0 s.1 s.2 s.3 s.4 in
    let same : a.header ≡ h = head_is os a.header h (ap head_of s.6 ∙ a.stands) e in
    let read : part_at cs j at h os ≡ Ok s.0 = ap (λ (h : Head). part_at cs j at h os) (sym same) ∙ ap (part_at cs j at a.header) s.6 ∙ a.read in
    step_fails n cs es at os (below (Component j) (fault code.DefaultPresent at)) (stands_some os h e) enough
    (set_element_default cs (part_at cs) (read_fields cs es) (last_tag cs es) at os h j s.0 e (place_free cs (read_fields cs es) (last_tag cs es) at h.tag j found later free) read s.5)
    ∙ ap (λ (b : AbstractBreach). Err (below (Component j) b)) (fault_after code.DefaultPresent at ∙ ap (after at) (sym is))

-- fields of which the read_fields hold what is sent
record Holds (cs : Components) (es : List ReadElement) (fs : Fields) (ps : List Part) : Type 0 where
  missing_is : missing 0 cs fs ≡ missing 0 cs (read_fields cs es)
  filled : (j : ℕ) → is_sent j cs fs ≡ is_filled j (read_fields cs es)
  after : (t : Tag) → is_after t ps ≡ follows (last_tag cs es) t

place_found : (n : ℕ) (cs : Components) (es : List ReadElement) (fs : Fields) (ps : List Part) (at : ℕ) (os : List ℕ) (c : AbstractBreach) → AllLawful cs → length os ≤ n → Holds cs es fs ps → SetFault cs (λ j os c. Sent cs j os c) fs ps os c → rest_at n cs es at os ≡ Err (after at c)
place_found n cs es fs ps at os c laws enough held (inl (j, empty, e, is)) =
    ends_badly n cs es at j os empty (sym held.missing_is ∙ e) ∙ ap (λ (b : AbstractBreach). Err b) (moved (missing_at j at) at (at + 0) (omega arith) ∙ ap (after at) (sym is))
place_found n cs es fs ps at os c laws enough held (inr (inl (d, some, inl e, is))) =
    step_fails n cs es at os (fault d at) some enough (set_element_bad cs (part_at cs) (read_fields cs es) (last_tag cs es) at os d e) ∙ ap (λ (b : AbstractBreach). Err b) (fault_after d at ∙ ap (after at) (sym is))
place_found n cs es fs ps at os c laws enough held (inr (inl (d, some, inr (h, e, none, w), is))) =
    step_fails n cs es at os (fault code.UnexpectedTag at) some enough
    (set_element_strays cs (part_at cs) (read_fields cs es) (last_tag cs es) at os h (fault code.UnexpectedTag at) e (place_unknown cs (read_fields cs es) (last_tag cs es) at h.tag (no_place (one_with 0 cs h.tag) none)))
    ∙ ap (λ (b : AbstractBreach). Err b) (ap (λ (d : Code). fault d at) (sym w) ∙ fault_after d at ∙ ap (after at) (sym is))
place_found n cs es fs ps at os c laws enough held (inr (inr (h, j, e, found, inl (descends, is)))) =
    step_fails n cs es at os (below (Component j) (fault code.SetOrder at)) (stands_some os h e) enough
    (set_element_strays cs (part_at cs) (read_fields cs es) (last_tag cs es) at os h (below (Component j) (fault code.SetOrder at)) e (place_descends cs (read_fields cs es) (last_tag cs es) at h.tag j found (sym (held.after h.tag) ∙ descends)))
    ∙ ap (λ (b : AbstractBreach). Err b) (ap (below (Component j)) (fault_after code.SetOrder at) ∙ ap (after at) (sym is))
place_found n cs es fs ps at os c laws enough held (inr (inr (h, j, e, found, inr (inl (later, full, is))))) =
    step_fails n cs es at os (fault code.UnexpectedTag at) (stands_some os h e) enough
    (set_element_strays cs (part_at cs) (read_fields cs es) (last_tag cs es) at os h (fault code.UnexpectedTag at) e (place_full cs (read_fields cs es) (last_tag cs es) at h.tag j found (sym (held.after h.tag) ∙ later) (sym (held.filled j) ∙ full)))
    ∙ ap (λ (b : AbstractBreach). Err b) (fault_after code.UnexpectedTag at ∙ ap (after at) (sym is))
place_found n cs es fs ps at os c laws enough held (inr (inr (h, j, e, found, inr (inr (d, later, free, sent, is))))) =
    sent_found n cs es at j os h d laws enough e found (sym (held.after h.tag) ∙ later) (sym (held.filled j) ∙ free) sent ∙ ap (λ (b : AbstractBreach). Err b) (ap (after at) (sym is))

-- ---- the law of a SET's contents

fields_ok : (r : Result Fields AbstractBreach) (v : AbstractValue) → fields_read r ≡ Ok v → (fs : Fields) × (r ≡ Ok fs) × (value.fields fs ≡ v)
fields_ok (Ok fs) v e = (fs, refl, same_Ok {F = AbstractBreach} (value.fields fs) v e)
fields_ok (Err b) v e = absurd cc

set_takes : (cs : Components) → AllLawful cs → are_proper cs ≡ true → (at start : ℕ) (os : List ℕ) (v : AbstractValue) → AreDigits 256 os → length os < 2 ^ 32 → contents_at (type.set cs) at start os ≡ Ok v
    → IsTrue (fits_kind (type.set cs) v) × (contents_octets (type.set cs) v ≡ Some os)
unfolding contents_at
set_takes cs laws proper at start os v digits short e =
    let f = fields_ok (rest_at (length os) cs [] start os) v e in
    let w = well (length os) cs [] start os f.0 digits laws tt f.1 in
    let r = reached cs w.elements w.in_order in
    let c = completed_takes 0 cs (read_fields cs w.elements) (start + length os) f.0 proper r.fits w.ended in
    rw (← f.2) (c.0, set_octets cs f.0 r.parts os (c.1 ∙ r.parts_are) (r.octets ∙ w.octets))

set_again : (cs : Components) → AllLawful cs → all_differ cs ≡ true → (at start : ℕ) (os : List ℕ) (v : AbstractValue) → IsTrue (fits_kind (type.set cs) v) → contents_octets (type.set cs) v ≡ Some os → contents_at (type.set cs) at start os ≡ Ok v
unfolding contents_at set_at
set_again cs laws distinct at start os (value.fields fs) fit e =
    let o = octets_set cs fs os e in
    let t = elements cs fs o.0 os laws distinct (partly cs fs fit) o.1 o.2 in
    let all : octets_read t.elements ++ [] ≡ os = append-nil (octets_read t.elements) ∙ t.octets_are in
    let b = through cs (length os) start t.elements [] laws distinct t.in_order (omega (arith, ap length all)) in
    let ended : rest_at b.tries cs t.elements (start + length (octets_read t.elements)) [] ≡ Ok fs =
    ap (λ (gs : Fields). completed 0 cs gs (start + length (octets_read t.elements))) t.are ∙ completed_again 0 cs fs (start + length (octets_read t.elements)) fit in
    ap (λ (x : List ℕ). fields_read (rest_at (length os) cs [] start x)) (sym all) ∙ ap fields_read (b.same ∙ ended)
set_again cs laws distinct at start os v fit e = absurd cc

set_fault : (cs : Components) → AllLawful cs → (at size : ℕ) (os : List ℕ) (b : AbstractBreach) → AreDigits 256 os → length os < 2 ^ 32 → contents_at (type.set cs) at (at + size) os ≡ Err b → Found (λ os b. FaultInContents (type.set cs) size os b) at os b
unfolding contents_at
set_fault cs laws at size os b digits short e =
    let w = badly (length os) cs [] (at + size) os b (omega arith) digits laws tt (fields_err (rest_at (length os) cs [] (at + size) os) b e) in
    let r = reached cs w.elements w.in_order in
    let s = fault_here cs w.elements r (at + size + length w.front) w.rest b laws w.digits w.fault in
    let offset : at + size + length w.front ≡ at + (size + length w.front) = omega arith in
    record {
      inner = after (size + length w.front) s.inner;
      found = (read_fields cs w.elements, r.parts, w.front, w.rest, s.inner, w.are, (r.fits, r.parts_are, set_octets cs (read_fields cs w.elements) r.parts w.front r.parts_are (r.octets ∙ w.octets)), s.found, refl);
      seen = s.seen ∙ ap (λ (n : ℕ). after n s.inner) offset ∙ after_after at (size + length w.front) s.inner;
    }

set_found : (cs : Components) → AllLawful cs → all_differ cs ≡ true → (at size : ℕ) (os : List ℕ) (c : AbstractBreach) → FaultInContents (type.set cs) size os c → contents_at (type.set cs) at (at + size) os ≡ Err (after at c)
unfolding contents_at
set_found cs laws distinct at size os c (fs, ps, front, rest, d, parts, (fit, sent, encoded), found, is) =
    let o = octets_set cs fs front encoded in
    let same : o.0 ≡ ps = same_Some o.0 ps (sym o.1 ∙ sent) in
    let joined : parts_joined (ascending ps) ≡ front = ap (λ (ps : List Part). parts_joined (ascending ps)) (sym same) ∙ o.2 in
    let t = elements cs fs ps front laws distinct fit sent joined in
    let all : octets_read t.elements ++ rest ≡ os = ap (λ (x : List ℕ). x ++ rest) t.octets_are ∙ sym parts in
    let b = through cs (length os) (at + size) t.elements rest laws distinct t.in_order (omega (arith, ap length all)) in
    let held : Holds cs t.elements fs ps = record {
      missing_is = sym (sent_missing 0 cs fs) ∙ ap (missing 0 cs) (sym t.are);
      filled = λ j. sent_filled j cs fs fit ∙ ap (is_filled j) (sym t.are);
      after = t.after;
    } in
    let there = place_found b.tries cs t.elements fs ps (at + size + length (octets_read t.elements)) rest d laws b.enough held found in
    let offset : at + size + length (octets_read t.elements) ≡ at + (size + length front) = omega (arith, ap length t.octets_are) in
    ap (λ (x : List ℕ). fields_read (rest_at (length os) cs [] (at + size) x)) (sym all) ∙ ap fields_read (b.same ∙ there)
    ∙ ap (λ (b : AbstractBreach). Err b) (ap (λ (n : ℕ). after n d) offset ∙ after_after at (size + length front) d ∙ ap (after at) (sym is))

set_paths : (cs : Components) → AllLawful cs → are_proper cs ≡ true → (at start : ℕ) (os : List ℕ) (b : AbstractBreach) → contents_at (type.set cs) at start os ≡ Err b → length b.path ≤ deepest cs
unfolding contents_at
set_paths cs laws proper at start os b e =
    set_shallow cs (λ j at h os c within read. (part_lawful cs j laws within).paths at h os c read) proper (length os) (all_absent cs) None start os b (fields_err (rest_at (length os) cs [] start os) b e)

pub set_lawful : (cs : Components) → AllLawful cs → are_proper cs ≡ true → all_differ cs ≡ true
    → LawfulBody (λ v. fits_kind (type.set cs) v) (λ v. contents_octets (type.set cs) v) (contents_at (type.set cs)) (λ size os b. FaultInContents (type.set cs) size os b) (deepest cs)
set_lawful cs laws proper distinct = record {
  takes = set_takes cs laws proper;
  again = set_again cs laws distinct;
  fault = set_fault cs laws;
  found = set_found cs laws distinct;
  paths = set_paths cs laws proper;
}
