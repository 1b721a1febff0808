-- The fault that reading a SEQUENCE finds is there, and the one that is there is found.
use Rattle.std.proofs.Common.{◌≡◌, ◌≢◌, ℕ, zero, suc, ◌+◌, ◌^◌, ◌<◌, ◌≤◌, Bool, true, false, cond, List, [], ◌∷◌, ◌++◌, length, take, drop, Option, Some, None, Result, Ok, Err, refl, sym, ap, subst, ◌∙◌, append_assoc, arith, inl, inr}
use Rattle.std.specs.Prelude.{IsTrue, ◌&&◌, not, ◌⊎◌}
use Rattle.std.proofs.Math.Nat.{le-max_left, le-max_right}
use Rattle.std.proofs.lemmas.Bool.{cond-true, cond-false, and_parts, and_from, true≢false}
use Rattle.std.proofs.lemmas.List.{length-append, length-take, take-append-drop}
use Rattle.guard_model.specs.Answer.{◌>>=◌}
use Rattle.guard_model.specs.declared.site.Step.TheVariants.{Component}
use Rattle.guard_model.specs.declared.tag.Tag.{Tag}
use Rattle.guard_model.specs.AbstractType as type
use Rattle.guard_model.specs.AbstractType.{AbstractType, AbstractKind, AbstractPresence, Components, Constraints, type_of, no_components, component}
use Rattle.guard_model.specs.AbstractValue as value
use Rattle.guard_model.specs.AbstractValue.{AbstractValue, Fields}
use Rattle.guard_tagcheck.specs.FirstTags.{begins_with}
use Rattle.guard_tagcheck.specs.Limits.{nesting, deepest}
use Rattle.guard_der.specs.declared.breach.Code.{Code}
use Rattle.guard_der.specs.declared.breach.Code.TheVariants as code
use Rattle.guard_der.specs.Head.{Head, head_of}
use Rattle.guard_der.specs.Der.{der, contents_octets, is_left_out}
use Rattle.guard_der.specs.Fits.{fits, fits_fields, fits_kind}
use Rattle.guard_der.specs.Sound.{is_proper, is_proper_presence, are_proper}
use Rattle.guard_der.proofs.Components.DistinctTags.{optional_differ}
use Rattle.guard_der.specs.Breach.{AbstractBreach, Faulty, NotDue, FaultInPart, FaultInSent, FaultInContents, SequenceFault, first_components, other_components, last_is_sent, next_with, next_mandatory, is_found, here, after, below}
use Rattle.guard_der.specs.Reading.{element_at, contents_at, fields_at, fields_read, end_at, component_at, missing_at, not_sent, field_before, due_at, fault}
use Rattle.guard_der.proofs.Elements.Steps.{due_err, due_err_again, due_path, moved, fault_after, after_after, head_is}
use Rattle.guard_der.proofs.Numbers.Digits.{AreDigits}
use Rattle.guard_der.proofs.Headers.TagsAndLengths.{digits_drop}
use Rattle.guard_der.proofs.Headers.Offsets.{head_room}
use Rattle.guard_der.proofs.Elements.Laws.{LawfulBody, Found}
use Rattle.guard_der.proofs.Components.ByTag.{LawfulType, AllLawful}
use Rattle.guard_der.proofs.Components.OneComponent.{Unsent, ComponentOk, ComponentErr, component_ok, component_err, component_skips, component_ends, component_bad, component_strays, component_fails, sent_fails, sent_default, skips_optional, optional_skips, none_stands}
use Rattle.guard_der.proofs.Sequences.Contents.{Sends, sends_contents, contents_sends, sent_first, unsent_first, none_sent, fields_takes, fields_again, through, prefixed}
use Rattle.guard_model.specs.Counts.{component_count}
use Rattle.guard_tagcheck.specs.Search.{is_mandatory}
use Rattle.guard_model.proofs.Results.{same_Ok, same_Err, bind_err}
use Rattle.guard_model.proofs.Tests.{chosen}
use Rattle.std.proofs.lemmas.Option.{same_Some}

-- the element of one of these components is at fault
abbrev SentHere : Components → ℕ → Faulty
SentHere cs j os c = FaultInSent cs (λ i os b. FaultInPart cs i os b) j os c

-- ---- the fault at the first of these components

no_optional : (presence : AbstractPresence) → is_mandatory presence ≡ true → is_mandatory presence ≡ false → ⊥
no_optional presence e f = true≢false (sym e ∙ f)

next_here : (i : ℕ) (name : List ℕ) (t : AbstractType) (presence : AbstractPresence) (cs : Components) (tag : Tag) → begins_with t tag ≡ true → next_with i (component name t presence cs) tag ≡ Some i
next_here i name t presence cs tag e = cond-true (begins_with t tag) _ _ e

next_none : (i : ℕ) (name : List ℕ) (t : AbstractType) (presence : AbstractPresence) (cs : Components) (tag : Tag) → begins_with t tag ≡ false → is_mandatory presence ≡ true → next_with i (component name t presence cs) tag ≡ None
next_none i name t presence cs tag e f = cond-false (begins_with t tag) _ _ e ∙ cond-true (is_mandatory presence) _ _ f

next_later : (i : ℕ) (name : List ℕ) (t : AbstractType) (presence : AbstractPresence) (cs : Components) (tag : Tag) → begins_with t tag ≡ false → is_mandatory presence ≡ false → next_with i (component name t presence cs) tag ≡ next_with (suc i) cs tag
next_later i name t presence cs tag e f = cond-false (begins_with t tag) _ _ e ∙ cond-false (is_mandatory presence) _ _ f

record Here (i : ℕ) (cs : Components) (Sent : ℕ → Faulty) (at : ℕ) (os : List ℕ) (b : AbstractBreach) : Type 0 where
  inner : AbstractBreach
  found : SequenceFault i cs Sent os inner
  seen : b ≡ after at inner

here_fault : (i : ℕ) (name : List ℕ) (t : AbstractType) (presence : AbstractPresence) (cs : Components) (Sent : ℕ → Faulty) (at : ℕ) (os : List ℕ) (b : AbstractBreach)
    → AreDigits 256 os → LawfulType t → ((os : List ℕ) (c : AbstractBreach) → SentHere (component name t presence cs) 0 os c → Sent i os c)
    → ComponentErr i presence (λ tag. begins_with t tag) (element_at t) at os b → Here i (component name t presence cs) Sent at os b
here_fault i name t presence cs Sent at os b digits law give (inl (empty, mandatory, is)) =
    record { inner = below (Component i) (here code.MissingComponent); found = inl (i, empty, cond-true (is_mandatory presence) _ _ mandatory, refl); seen = is ∙ moved (missing_at i at) at (at + 0) (omega arith) }
here_fault i name t presence cs Sent at os b digits law give (inr (inl (c, some, e, is))) =
    record { inner = here c; found = inr (inl (c, some, inl e, refl)); seen = is ∙ fault_after c at }
here_fault i name t presence cs Sent at os b digits law give (inr (inr (inl (h, some, e, other, mandatory, is)))) =
    record { inner = here code.UnexpectedTag; found = inr (inl (code.UnexpectedTag, some, inr (h, e, ap is_found (next_none i name t presence cs h.tag other mandatory), refl), refl)); seen = is ∙ fault_after code.UnexpectedTag at }
here_fault i name t presence cs Sent at os b digits law give (inr (inr (inr (inl (h, c, e, due, read, is))))) =
    let f = law.fault at h os c digits e due read in
    record { inner = below (Component i) f.inner; found = inr (inr (h, i, f.inner, e, next_here i name t presence cs h.tag due, give os f.inner (inl f.found), refl)); seen = is ∙ ap (below (Component i)) f.seen }
here_fault i name t presence cs Sent at os b digits law give (inr (inr (inr (inr (h, v, e, due, read, left, is))))) =
    let one = law.takes at h os v digits e due read in
    record {
      inner = below (Component i) (here code.DefaultPresent);
      found = inr (inr (
        h,
        i,
        here code.DefaultPresent,
        e,
        next_here i name t presence cs h.tag due,
        give os (here code.DefaultPresent) (inr ((v, take (h.size + h.contents) os, drop (h.size + h.contents) os, one.fits, one.encoded, left, sym (take-append-drop (h.size + h.contents) os)), refl)),
        refl,
      ));
      seen = is ∙ ap (below (Component i)) (fault_after code.DefaultPresent at);
    }

-- the fault after a component that is not sent is seen from it
extend : (i : ℕ) (name : List ℕ) (t : AbstractType) (presence : AbstractPresence) (cs : Components) (Sent : ℕ → Faulty) (os : List ℕ) (c : AbstractBreach)
    → is_mandatory presence ≡ false → Unsent (λ tag. begins_with t tag) os → SequenceFault (suc i) cs Sent os c → SequenceFault i (component name t presence cs) Sent os c
extend i name t presence cs Sent os c optional unsent (inl (j, empty, next, is)) = inl (j, empty, cond-false (is_mandatory presence) _ _ optional ∙ next, is)
extend i name t presence cs Sent os c optional unsent (inr (inl (d, some, inl e, is))) = inr (inl (d, some, inl e, is))
extend i name t presence cs Sent os c optional (inl empty) (inr (inl (d, some, inr (h, e, none, w), is))) = absurd (some empty)
extend i name t presence cs Sent os c optional (inr (g, stands, other)) (inr (inl (d, some, inr (h, e, none, w), is))) =
    let same : g ≡ h = head_is os g h stands e in
    let unlike : begins_with t h.tag ≡ false = ap (λ (h : Head). begins_with t h.tag) (sym same) ∙ other in
    inr (inl (d, some, inr (h, e, ap is_found (next_later i name t presence cs h.tag unlike optional) ∙ none, w), is))
extend i name t presence cs Sent os c optional (inl empty) (inr (inr (h, j, d, e, next, sent, is))) = absurd (none_stands h (ap head_of (sym empty) ∙ e))
extend i name t presence cs Sent os c optional (inr (g, stands, other)) (inr (inr (h, j, d, e, next, sent, is))) =
    let same : g ≡ h = head_is os g h stands e in
    let unlike : begins_with t h.tag ≡ false = ap (λ (h : Head). begins_with t h.tag) (sym same) ∙ other in
    inr (inr (h, j, d, e, next_later i name t presence cs h.tag unlike optional ∙ next, sent, is))

-- ---- the place that is reached

record FoundAt (i : ℕ) (cs : Components) (Sent : ℕ → Faulty) (at : ℕ) (os : List ℕ) (b : AbstractBreach) : Type 0 where
  passed : ℕ
  within : passed ≤ component_count cs
  fields : Fields
  front : List ℕ
  rest : List ℕ
  inner : AbstractBreach
  parts : os ≡ front ++ rest
  fit : fits_fields (first_components passed cs) fields ≡ true
  sends : Sends (first_components passed cs) fields front
  last : last_is_sent (first_components passed cs) fields ≡ true
  found : SequenceFault (i + passed) (other_components passed cs) Sent rest inner
  seen : b ≡ after (at + length front) inner

at_once : (i : ℕ) (cs : Components) (Sent : ℕ → Faulty) (at : ℕ) (os : List ℕ) (b c : AbstractBreach) → SequenceFault i cs Sent os c → b ≡ after at c → FoundAt i cs Sent at os b
at_once i cs Sent at os b c found seen =
    let place : i ≡ i + 0 = omega arith in
    let offset : at ≡ at + 0 = omega arith in
    record {
      passed = 0;
      within = omega arith;
      fields = value.no_fields;
      front = [];
      rest = os;
      inner = c;
      parts = refl;
      fit = refl;
      sends = ([], refl, refl);
      last = refl;
      found = subst (λ (k : ℕ). SequenceFault k cs Sent os c) place found;
      seen = seen ∙ ap (λ (n : ℕ). after n c) offset;
    }

end_fault : (i at : ℕ) (Sent : ℕ → Faulty) (os : List ℕ) (b : AbstractBreach) → end_at at os ≡ Err b → FoundAt i no_components Sent at os b
unfolding end_at
end_fault i at Sent [] b e = absurd cc
end_fault i at Sent (o ∷ os) b e =
    elim (bind_err (due_at (λ tag. false) at (o ∷ os)) (λ h. Ok value.no_fields) b e) [
      | inl due ↦
          let d = due_err (λ tag. false) at (o ∷ os) b due in
          at_once i no_components Sent at (o ∷ os) b (here d.0) (inr (inl (d.0, (λ empty. absurd cc), d.1, refl))) (d.2 ∙ fault_after d.0 at)
      | inr (h, due, none) ↦ absurd cc
    ]

last_sent : (name : List ℕ) (t : AbstractType) (presence : AbstractPresence) (cs : Components) (v : AbstractValue) (fs : Fields) → is_left_out presence v ≡ false → last_is_sent cs fs ≡ true → last_is_sent (component name t presence cs) (value.present v fs) ≡ true
last_sent name t presence no_components v fs kept e = ap not kept
last_sent name t presence (component name2 u p cs) v fs kept e = e

last_more : (name : List ℕ) (t : AbstractType) (presence : AbstractPresence) (k : ℕ) (cs : Components) (f : Option AbstractValue) (fs : Fields) → 1 ≤ k → k ≤ component_count cs → last_is_sent (first_components k cs) fs ≡ true
    → last_is_sent (component name t presence (first_components k cs)) (field_before f fs) ≡ true
last_more name t presence zero cs f fs some within e = absurd (omega (arith, some))
last_more name t presence (suc k) no_components f fs some within e = absurd (omega (arith, within))
last_more name t presence (suc k) (component name2 u p cs) None fs some within e = e
last_more name t presence (suc k) (component name2 u p cs) (Some v) fs some within e = e

-- an encoding of a value
abbrev der_is : AbstractType → AbstractValue → List ℕ → Type 0
der_is t v os = der t v ≡ Some os

abbrev not_sent_is : AbstractPresence → AbstractBreach → Option AbstractValue → Type 0
not_sent_is presence b f = not_sent presence b ≡ Ok f

passed_sent : (i : ℕ) (name : List ℕ) (t : AbstractType) (presence : AbstractPresence) (cs : Components) (Sent : ℕ → Faulty) (at : ℕ) (os : List ℕ) (b : AbstractBreach) (v : AbstractValue) (n : ℕ)
    → n ≤ length os → fits t v ≡ true → is_left_out presence v ≡ false → der_is t v (take n os) → FoundAt (suc i) cs Sent (at + n) (drop n os) b → FoundAt i (component name t presence cs) Sent at os b
passed_sent i name t presence cs Sent at os b v n room fit kept encoded f =
    let len : length (take n os) ≡ n = omega (arith, length-take n os) in
    let place : suc i + f.passed ≡ i + suc f.passed = omega arith in
    let offset : at + n + length f.front ≡ at + length (take n os ++ f.front) = omega (arith, length-append (take n os) f.front, len) in
    record {
      passed = suc f.passed;
      within = omega (arith, f.within);
      fields = value.present v f.fields;
      front = take n os ++ f.front;
      rest = f.rest;
      inner = f.inner;
      parts = sym (take-append-drop n os) ∙ ap (λ (x : List ℕ). take n os ++ x) f.parts ∙ sym (append_assoc (take n os) f.front f.rest);
      fit = and_from (fits t v) (fits_fields (first_components f.passed cs) f.fields) fit f.fit;
      sends = sent_first name t presence (first_components f.passed cs) v f.fields (take n os) f.front kept encoded f.sends;
      last = last_sent name t presence (first_components f.passed cs) v f.fields kept f.last;
      found = subst (λ (k : ℕ). SequenceFault k (other_components f.passed cs) Sent f.rest f.inner) place f.found;
      seen = f.seen ∙ ap (λ (n : ℕ). after n f.inner) offset;
    }

passed_by : (i : ℕ) (name : List ℕ) (t : AbstractType) (presence : AbstractPresence) (cs : Components) (Sent : ℕ → Faulty) (at : ℕ) (os : List ℕ) (b m : AbstractBreach) (x : Option AbstractValue) (k : ℕ) (fs : Fields) (front rest : List ℕ) (inner : AbstractBreach)
    → is_proper_presence t presence ≡ true → not_sent_is presence m x → Unsent (λ tag. begins_with t tag) os
    → k ≤ component_count cs → os ≡ front ++ rest → fits_fields (first_components k cs) fs ≡ true → Sends (first_components k cs) fs front → last_is_sent (first_components k cs) fs ≡ true
    → SequenceFault (suc i + k) (other_components k cs) Sent rest inner → b ≡ after (at + length front) inner → FoundAt i (component name t presence cs) Sent at os b
passed_by i name t presence cs Sent at os b m x zero fs front rest inner proper skip unsent within parts fit sends last found seen =
    let nothing = none_sent fs front fit sends in
    let all : rest ≡ os = sym (parts ∙ ap (λ (y : List ℕ). y ++ rest) nothing) in
    let offset : at + length front ≡ at = omega (arith, ap length nothing) in
    let place : suc i + 0 ≡ suc i = omega arith in
    let there : SequenceFault (suc i) cs Sent os inner = subst (λ (y : List ℕ). SequenceFault (suc i) cs Sent y inner) all (subst (λ (k : ℕ). SequenceFault k cs Sent rest inner) place found) in
    at_once i (component name t presence cs) Sent at os b inner (extend i name t presence cs Sent os inner (skips_optional presence m x skip) unsent there) (seen ∙ ap (λ (n : ℕ). after n inner) offset)
passed_by i name t presence cs Sent at os b m x (suc k) fs front rest inner proper skip unsent within parts fit sends last found seen =
    let u = unsent_first name t presence (first_components (suc k) cs) x fs front m proper skip fit sends in
    let place : suc i + suc k ≡ i + suc (suc k) = omega arith in
    record {
      passed = suc (suc k);
      within = omega (arith, within);
      fields = field_before x fs;
      front = front;
      rest = rest;
      inner = inner;
      parts = parts;
      fit = u.0;
      sends = u.1;
      last = last_more name t presence (suc k) cs x fs (omega arith) within last;
      found = subst (λ (j : ℕ). SequenceFault j (other_components (suc k) cs) Sent rest inner) place found;
      seen = seen;
    }

passed_on : (i : ℕ) (name : List ℕ) (t : AbstractType) (presence : AbstractPresence) (cs : Components) (Sent : ℕ → Faulty) (at : ℕ) (os : List ℕ) (b : AbstractBreach) (x : Option AbstractValue × ℕ)
    → AreDigits 256 os → LawfulType t → is_proper_presence t presence ≡ true → ComponentOk i presence (λ tag. begins_with t tag) (element_at t) at os x
    → FoundAt (suc i) cs Sent (at + x.1) (drop x.1 os) b → FoundAt i (component name t presence cs) Sent at os b
passed_on i name t presence cs Sent at os b x digits law proper (inl (h, v, stands, due, read, kept, is, size)) f =
    let one = law.takes at h os v digits stands due read in
    passed_sent i name t presence cs Sent at os b v x.1 (rw size (head_room os h digits stands)) one.fits kept (rw size one.encoded) f
passed_on i name t presence cs Sent at os b x digits law proper (inr (unsent, m, skip, none)) f =
    let same : drop x.1 os ≡ os = ap (λ (n : ℕ). drop n os) none in
    let offset : at + x.1 + length f.front ≡ at + length f.front = omega (arith, none) in
    passed_by i name t presence cs Sent at os b m x.0 f.passed f.fields f.front f.rest f.inner proper skip unsent f.within (sym same ∙ f.parts) f.fit f.sends f.last f.found (f.seen ∙ ap (λ (n : ℕ). after n f.inner) offset)

moved_on : (i j : ℕ) (Sent : ℕ → Faulty) (os : List ℕ) (c : AbstractBreach) → Sent (i + suc j) os c → Sent (suc i + j) os c
moved_on i j Sent os c sent = let same : i + suc j ≡ suc i + j = omega arith in subst (λ (k : ℕ). Sent k os c) same sent

moved_back : (i j : ℕ) (Sent : ℕ → Faulty) (os : List ℕ) (c : AbstractBreach) → Sent (suc i + j) os c → Sent (i + suc j) os c
moved_back i j Sent os c sent = let same : suc i + j ≡ i + suc j = omega arith in subst (λ (k : ℕ). Sent k os c) same sent

zero_before : (j : ℕ) → j ≡ 0 + j
zero_before j = omega arith

prefixed_fault : (fs : Fields) (r : Result Fields AbstractBreach) (b : AbstractBreach) → r ≡ Err b → prefixed fs r ≡ Err b
prefixed_fault fs r b e = ap (prefixed fs) e

take_on : (j : ℕ) (name : List ℕ) (t : AbstractType) (presence : AbstractPresence) (cs : Components) (Sent : ℕ → Faulty)
    → ((m : ℕ) (os : List ℕ) (c : AbstractBreach) → Sent (j + m) os c → SentHere (component name t presence cs) m os c) → (m : ℕ) (os : List ℕ) (c : AbstractBreach) → Sent (suc j + m) os c → SentHere cs m os c
take_on j name t presence cs Sent take m os c sent = take (suc m) os c (moved_back j m Sent os c sent)

fields_fault : (i : ℕ) (cs : Components) (Sent : ℕ → Faulty) (at : ℕ) (os : List ℕ) (b : AbstractBreach) → ((j : ℕ) (os : List ℕ) (c : AbstractBreach) → SentHere cs j os c → Sent (i + j) os c)
    → AreDigits 256 os → AllLawful cs → are_proper cs ≡ true → fields_at i cs at os ≡ Err b → FoundAt i cs Sent at os b
unfolding fields_at
fields_fault i no_components Sent at os b give digits laws proper e = end_fault i at Sent os b e
fields_fault i (component name t presence cs) Sent at os b give digits laws proper e =
    let p = and_parts (is_proper t && is_proper_presence t presence) (are_proper cs) proper in
    let q = and_parts (is_proper t) (is_proper_presence t presence) p.0 in
    elim (bind_err (component_at i presence (λ tag. begins_with t tag) (element_at t) at os) (λ x. fields_at (suc i) cs (at + x.1) (drop x.1 os) >>= λ fs. Ok (field_before x.0 fs)) b e) [
      | inl wrong ↦
          let first : i + 0 ≡ i = omega arith in
          let h = here_fault i name t presence cs Sent at os b digits laws.0 (λ os c sent. subst (λ (k : ℕ). Sent k os c) first (give 0 os c sent)) (component_err i presence (λ tag. begins_with t tag) (element_at t) at os b wrong) in
          at_once i (component name t presence cs) Sent at os b h.inner h.found h.seen
      | inr (x, one, rest) ↦ elim (bind_err (fields_at (suc i) cs (at + x.1) (drop x.1 os)) (λ fs. Ok (field_before x.0 fs)) b rest) [
        | inl others ↦
            let more : (j : ℕ) (os : List ℕ) (c : AbstractBreach) → SentHere cs j os c → Sent (suc i + j) os c = λ j os c sent. moved_on i j Sent os c (give (suc j) os c sent) in
            passed_on i name t presence cs Sent at os b x digits laws.0 q.1 (component_ok i presence (λ tag. begins_with t tag) (element_at t) at os x one)
            (fields_fault (suc i) cs Sent (at + x.1) (drop x.1 os) b more (digits_drop x.1 os digits) laws.1 p.1 others)
        | inr (fs, all, none) ↦ absurd cc
      ]
    ]

-- ---- the fault that is there is found

skip_read : (i : ℕ) (name : List ℕ) (t : AbstractType) (presence : AbstractPresence) (cs : Components) (at : ℕ) (os : List ℕ) (b : AbstractBreach)
    → is_mandatory presence ≡ false → Unsent (λ tag. begins_with t tag) os → fields_at (suc i) cs at os ≡ Err b → fields_at i (component name t presence cs) at os ≡ Err b
unfolding fields_at
skip_read i name t presence cs at os b optional unsent e =
    let s = optional_skips presence (here code.MissingComponent) optional in
    let offset : at ≡ at + 0 = omega arith in
    let read = component_skips i presence (λ tag. begins_with t tag) (element_at t) at os (here code.MissingComponent) s.0 unsent s.1 in
    ap (λ (r : Result (Option AbstractValue × ℕ) AbstractBreach). r >>= λ x. fields_at (suc i) cs (at + x.1) (drop x.1 os) >>= λ fs. Ok (field_before x.0 fs)) read
    ∙ ap (λ (r : Result Fields AbstractBreach). r >>= λ fs. Ok (field_before s.0 fs)) (ap (λ (n : ℕ). fields_at (suc i) cs n os) (sym offset) ∙ e)

first_fails : (i : ℕ) (name : List ℕ) (t : AbstractType) (presence : AbstractPresence) (cs : Components) (at : ℕ) (os : List ℕ) (b : AbstractBreach)
    → component_at i presence (λ tag. begins_with t tag) (element_at t) at os ≡ Err b → fields_at i (component name t presence cs) at os ≡ Err b
unfolding fields_at
first_fails i name t presence cs at os b e = ap (λ (r : Result (Option AbstractValue × ℕ) AbstractBreach). r >>= λ x. fields_at (suc i) cs (at + x.1) (drop x.1 os) >>= λ fs. Ok (field_before x.0 fs)) e

end_found : (i at : ℕ) (os : List ℕ) (c : Code) → os ≢ [] → NotDue (λ tag. false) os c → fields_at i no_components at os ≡ Err (fault c at)
unfolding fields_at end_at
end_found i at [] c some not_due = absurd (some refl)
end_found i at (o ∷ os) c some not_due = rw (due_err_again (λ tag. false) at (o ∷ os) c not_due) refl

sent_found : (i : ℕ) (name : List ℕ) (t : AbstractType) (presence : AbstractPresence) (cs : Components) (at : ℕ) (os : List ℕ) (h : Head) (d : AbstractBreach)
    → LawfulType t → head_of os ≡ Ok h → begins_with t h.tag ≡ true → SentHere (component name t presence cs) 0 os d → component_at i presence (λ tag. begins_with t tag) (element_at t) at os ≡ Err (after at (below (Component i) d))
sent_found i name t presence cs at os h d law e due (inl found) =
    let f = law.found at os d found in
    let same : f.header ≡ h = head_is os f.header h f.stands e in
    let read : element_at t at h os ≡ Err (after at d) = ap (λ (h : Head). element_at t at h os) (sym same) ∙ f.read in
    component_fails i presence (λ tag. begins_with t tag) (element_at t) at os h (below (Component i) (after at d)) e due (sent_fails i presence (element_at t) at h os (after at d) read)
sent_found i name t presence cs at os h d law e due (inr ((v, front, behind, fit, encoded, left, parts), is)) =
    let a = law.again at v front behind fit encoded in
    let same : a.header ≡ h = head_is os a.header h (ap head_of parts ∙ a.stands) e in
    let read : element_at t at h os ≡ Ok v = ap (λ (h : Head). element_at t at h os) (sym same) ∙ ap (element_at t at a.header) parts ∙ a.read in
    component_fails i presence (λ tag. begins_with t tag) (element_at t) at os h (below (Component i) (fault code.DefaultPresent at)) e due (sent_default i presence (element_at t) at h os v read left)
    ∙ ap (λ (b : AbstractBreach). Err (below (Component i) b)) (fault_after code.DefaultPresent at ∙ ap (after at) (sym is))

not_found : (begins mandatory : Bool) (i : ℕ) (later : Option ℕ) → is_found (cond begins (Some i) (cond mandatory None later)) ≡ false → (begins ≡ false) × (mandatory ≡ false → is_found later ≡ false)
not_found true mandatory i later e = absurd cc
not_found false true i later e = (refl, λ f. absurd (true≢false f))
not_found false false i later e = (refl, λ f. e)

split_next : (begins mandatory : Bool) (i j : ℕ) (later : Option ℕ) → cond begins (Some i) (cond mandatory None later) ≡ Some j → ((begins ≡ true) × (i ≡ j)) ⊎ ((begins ≡ false) × (mandatory ≡ false) × (later ≡ Some j))
split_next true mandatory i j later e = inl (refl, same_Some i j e)
split_next false true i j later e = absurd cc
split_next false false i j later e = inr (refl, refl, e)

by_presence : (mandatory : Bool) → (mandatory ≡ true) ⊎ (mandatory ≡ false)
by_presence true = inl refl
by_presence false = inr refl

place_found : (j : ℕ) (left : Components) (Sent : ℕ → Faulty) (at : ℕ) (os : List ℕ) (c : AbstractBreach) → ((m : ℕ) (os : List ℕ) (c : AbstractBreach) → Sent (j + m) os c → SentHere left m os c)
    → AllLawful left → SequenceFault j left Sent os c → fields_at j left at os ≡ Err (after at c)
place_found j no_components Sent at os c take laws (inl (m, empty, next, is)) = absurd cc
place_found j no_components Sent at os c take laws (inr (inl (d, some, not_due, is))) = end_found j at os d some not_due ∙ ap (λ (b : AbstractBreach). Err b) (fault_after d at ∙ ap (after at) (sym is))
place_found j no_components Sent at os c take laws (inr (inr (h, m, d, e, next, sent, is))) = absurd cc
place_found j (component name t presence cs) Sent at os c take laws (inl (m, empty, next, is)) =
    elim (chosen (is_mandatory presence) (Some j) (next_mandatory (suc j) cs) (Some m) next) [
      | inl (mandatory, here_is) ↦
          let same : j ≡ m = same_Some j m here_is in
          first_fails j name t presence cs at os (after at c)
          (ap (component_at j presence (λ tag. begins_with t tag) (element_at t) at) empty ∙ component_ends j presence (λ tag. begins_with t tag) (element_at t) at mandatory
          ∙ ap (λ (b : AbstractBreach). Err b) (moved (missing_at j at) at (at + 0) (omega arith) ∙ ap (λ (k : ℕ). after at (below (Component k) (here code.MissingComponent))) same ∙ ap (after at) (sym is)))
      | inr (optional, later) ↦ skip_read j name t presence cs at os (after at c) optional (inl empty) (place_found (suc j) cs Sent at os c (take_on j name t presence cs Sent take) laws.1 (inl (m, empty, later, is)))
    ]
place_found j (component name t presence cs) Sent at os c take laws (inr (inl (d, some, inl e, is))) =
    first_fails j name t presence cs at os (after at c) (component_bad j presence (λ tag. begins_with t tag) (element_at t) at os d some e ∙ ap (λ (b : AbstractBreach). Err b) (fault_after d at ∙ ap (after at) (sym is)))
place_found j (component name t presence cs) Sent at os c take laws (inr (inl (d, some, inr (h, e, none, w), is))) =
    let n = not_found (begins_with t h.tag) (is_mandatory presence) j (next_with (suc j) cs h.tag) none in
    elim (by_presence (is_mandatory presence)) [
      | inl mandatory ↦
          first_fails j name t presence cs at os (after at c)
          (component_strays j presence (λ tag. begins_with t tag) (element_at t) at os h e n.0 mandatory ∙ ap (λ (b : AbstractBreach). Err b) (ap (λ (d : Code). fault d at) (sym w) ∙ fault_after d at ∙ ap (after at) (sym is)))
      | inr optional ↦ skip_read j name t presence cs at os (after at c) optional (inr (h, e, n.0))
          (place_found (suc j) cs Sent at os c (take_on j name t presence cs Sent take) laws.1 (inr (inl (d, some, inr (h, e, n.1 optional, w), is))))
    ]
place_found j (component name t presence cs) Sent at os c take laws (inr (inr (h, m, d, e, next, sent, is))) =
    elim (split_next (begins_with t h.tag) (is_mandatory presence) j m (next_with (suc j) cs h.tag) next) [
      | inl (due, same) ↦
          let first : m ≡ j + 0 = omega (arith, same) in
          first_fails j name t presence cs at os (after at c)
          (sent_found j name t presence cs at os h d laws.0 e due (take 0 os d (subst (λ (k : ℕ). Sent k os d) first sent))
          ∙ ap (λ (b : AbstractBreach). Err b) (ap (λ (k : ℕ). after at (below (Component k) d)) same ∙ ap (after at) (sym is)))
      | inr (other, optional, later) ↦ skip_read j name t presence cs at os (after at c) optional (inr (h, e, other))
          (place_found (suc j) cs Sent at os c (take_on j name t presence cs Sent take) laws.1 (inr (inr (h, m, d, e, later, sent, is))))
    ]

other_lawful : (k : ℕ) (cs : Components) → AllLawful cs → AllLawful (other_components k cs)
other_lawful zero cs laws = laws
other_lawful (suc k) no_components laws = tt
other_lawful (suc k) (component name t presence cs) laws = other_lawful k cs laws.1

other_sent : (k : ℕ) (cs : Components) (m : ℕ) (os : List ℕ) (c : AbstractBreach) → SentHere cs (k + m) os c → SentHere (other_components k cs) m os c
other_sent zero cs m os c sent = let same : 0 + m ≡ m = omega arith in subst (λ (j : ℕ). SentHere cs j os c) same sent
other_sent (suc k) no_components m os c (inl none) = absurd none
other_sent (suc k) no_components m os c (inr (none, is)) = absurd none
other_sent (suc k) (component name t presence cs) m os c sent =
    let same : suc k + m ≡ suc (k + m) = omega arith in
    other_sent k cs m os c (subst (λ (j : ℕ). SentHere (component name t presence cs) j os c) same sent)

-- ---- the law of a SEQUENCE's contents

fields_ok : (r : Result Fields AbstractBreach) (v : AbstractValue) → fields_read r ≡ Ok v → (fs : Fields) × (r ≡ Ok fs) × (value.fields fs ≡ v)
fields_ok (Ok fs) v e = (fs, refl, same_Ok {F = AbstractBreach} (value.fields fs) v e)
fields_ok (Err b) v e = absurd cc

pub fields_err : (r : Result Fields AbstractBreach) (b : AbstractBreach) → fields_read r ≡ Err b → r ≡ Err b
fields_err (Ok fs) b e = absurd cc
fields_err (Err c) b e = ap (λ (c : AbstractBreach). Err c) (same_Err {A = AbstractValue} c b e)

untagged_nesting : (kind : AbstractKind) (cons : Constraints) → is_proper (type_of [] kind cons) ≡ true → 1 ≤ nesting (type_of [] kind cons)
untagged_nesting (type.choice cs) cons e = omega arith
untagged_nesting kind cons e = absurd cc

pub some_nesting : (t : AbstractType) → is_proper t ≡ true → 1 ≤ nesting t
some_nesting (type_of (x ∷ xs) kind cons) e = omega arith
some_nesting (type_of [] kind cons) e = untagged_nesting kind cons e

component_paths : (i : ℕ) (t : AbstractType) (presence : AbstractPresence) (at : ℕ) (os : List ℕ) (b : AbstractBreach) → LawfulType t → 1 ≤ nesting t
    → ComponentErr i presence (λ tag. begins_with t tag) (element_at t) at os b → length b.path ≤ nesting t
component_paths i t presence at os b law some (inl (empty, mandatory, is)) = omega (arith, some, ap (λ (b : AbstractBreach). length b.path) is)
component_paths i t presence at os b law some (inr (inl (c, more, e, is))) = omega (arith, ap (λ (b : AbstractBreach). length b.path) is)
component_paths i t presence at os b law some (inr (inr (inl (h, more, e, other, mandatory, is)))) = omega (arith, ap (λ (b : AbstractBreach). length b.path) is)
component_paths i t presence at os b law some (inr (inr (inr (inl (h, c, e, due, read, is))))) = omega (arith, ap (λ (b : AbstractBreach). length b.path) is, law.paths at h os c read)
component_paths i t presence at os b law some (inr (inr (inr (inr (h, v, e, due, read, left, is))))) = omega (arith, some, ap (λ (b : AbstractBreach). length b.path) is)

fields_paths : (i : ℕ) (cs : Components) (at : ℕ) (os : List ℕ) (b : AbstractBreach) → AllLawful cs → are_proper cs ≡ true → fields_at i cs at os ≡ Err b → length b.path ≤ deepest cs
unfolding fields_at end_at
fields_paths i no_components at [] b laws proper e = absurd cc
fields_paths i no_components at (o ∷ os) b laws proper e = elim (bind_err (due_at (λ tag. false) at (o ∷ os)) (λ h. Ok value.no_fields) b e) [
  | inl due ↦ omega (arith, due_path (λ tag. false) at (o ∷ os) b due)
  | inr (h, due, none) ↦ absurd cc
]
fields_paths i (component name t presence cs) at os b laws proper e =
    let p = and_parts (is_proper t && is_proper_presence t presence) (are_proper cs) proper in
    let q = and_parts (is_proper t) (is_proper_presence t presence) p.0 in
    elim (bind_err (component_at i presence (λ tag. begins_with t tag) (element_at t) at os) (λ x. fields_at (suc i) cs (at + x.1) (drop x.1 os) >>= λ fs. Ok (field_before x.0 fs)) b e) [
      | inl wrong ↦ omega (arith, le-max_left (nesting t) (deepest cs), component_paths i t presence at os b laws.0 (some_nesting t q.0) (component_err i presence (λ tag. begins_with t tag) (element_at t) at os b wrong))
      | inr (x, one, rest) ↦ elim (bind_err (fields_at (suc i) cs (at + x.1) (drop x.1 os)) (λ fs. Ok (field_before x.0 fs)) b rest) [
        | inl others ↦ omega (arith, le-max_right (nesting t) (deepest cs), fields_paths (suc i) cs (at + x.1) (drop x.1 os) b laws.1 p.1 others)
        | inr (fs, all, none) ↦ absurd cc
      ]
    ]

sequence_takes : (cs : Components) → AllLawful cs → are_proper cs ≡ true → (at start : ℕ) (os : List ℕ) (v : AbstractValue) → AreDigits 256 os → length os < 2 ^ 32 → contents_at (type.sequence cs) at start os ≡ Ok v
    → IsTrue (fits_kind (type.sequence cs) v) × (contents_octets (type.sequence cs) v ≡ Some os)
unfolding contents_at
sequence_takes cs laws proper at start os v digits short e =
    let f = fields_ok (fields_at 0 cs start os) v e in
    let t = fields_takes 0 cs start os f.0 digits laws proper f.1 in
    rw (← f.2) (t.0, sends_contents cs f.0 os t.1)

sequence_again : (cs : Components) → AllLawful cs → optional_differ cs ≡ true → (at start : ℕ) (os : List ℕ) (v : AbstractValue) → IsTrue (fits_kind (type.sequence cs) v) → contents_octets (type.sequence cs) v ≡ Some os → contents_at (type.sequence cs) at start os ≡ Ok v
unfolding contents_at
sequence_again cs laws distinct at start os (value.fields fs) fit e = ap fields_read (fields_again 0 cs start os fs laws distinct fit (contents_sends cs fs os e))
sequence_again cs laws distinct at start os v fit e = absurd cc

sequence_fault : (cs : Components) → AllLawful cs → are_proper cs ≡ true → (at size : ℕ) (os : List ℕ) (b : AbstractBreach) → AreDigits 256 os → length os < 2 ^ 32 → contents_at (type.sequence cs) at (at + size) os ≡ Err b
    → Found (λ os b. FaultInContents (type.sequence cs) size os b) at os b
unfolding contents_at
sequence_fault cs laws proper at size os b digits short e =
    let none : (j : ℕ) (os : List ℕ) (c : AbstractBreach) → SentHere cs j os c → SentHere cs (0 + j) os c = λ j os c sent. subst (λ (k : ℕ). SentHere cs k os c) (zero_before j) sent in
    let f = fields_fault 0 cs (λ j os c. SentHere cs j os c) (at + size) os b none digits laws proper (fields_err (fields_at 0 cs (at + size) os) b e) in
    let place : 0 + f.passed ≡ f.passed = omega arith in
    let offset : at + size + length f.front ≡ at + (size + length f.front) = omega arith in
    record {
      inner = after (size + length f.front) f.inner;
      found = (
        f.passed,
        f.front,
        f.rest,
        f.inner,
        f.parts,
        (f.fields, f.fit, sends_contents (first_components f.passed cs) f.fields f.front f.sends, f.last),
        subst (λ (k : ℕ). SequenceFault k (other_components f.passed cs) (λ j os c. SentHere cs j os c) f.rest f.inner) place f.found,
        refl,
      );
      seen = f.seen ∙ ap (λ (n : ℕ). after n f.inner) offset ∙ after_after at (size + length f.front) f.inner;
    }

sequence_found : (cs : Components) → AllLawful cs → optional_differ cs ≡ true → (at size : ℕ) (os : List ℕ) (c : AbstractBreach) → FaultInContents (type.sequence cs) size os c → contents_at (type.sequence cs) at (at + size) os ≡ Err (after at c)
unfolding contents_at
sequence_found cs laws distinct at size os c (k, front, rest, d, parts, (fs, fit, encoded, last), found, is) =
    let place : 0 + k ≡ k = omega arith in
    let offset : at + size + length front ≡ at + (size + length front) = omega arith in
    let there = place_found k (other_components k cs) (λ j os c. SentHere cs j os c) (at + size + length front) rest d (λ m os c sent. other_sent k cs m os c sent) (other_lawful k cs laws) found in
    let read : fields_at 0 cs (at + size) os ≡ Err (after (at + size + length front) d) =
    ap (fields_at 0 cs (at + size)) parts
    ∙ through k cs laws distinct 0 (at + size) fs front rest fit (contents_sends (first_components k cs) fs front encoded) (inr last)
    ∙ prefixed_fault fs (fields_at (0 + k) (other_components k cs) (at + size + length front) rest) (after (at + size + length front) d) (ap (λ (j : ℕ). fields_at j (other_components k cs) (at + size + length front) rest) place ∙ there) in
    ap fields_read read ∙ ap (λ (b : AbstractBreach). Err b) (ap (λ (n : ℕ). after n d) offset ∙ after_after at (size + length front) d ∙ ap (after at) (sym is))

sequence_paths : (cs : Components) → AllLawful cs → are_proper cs ≡ true → (at start : ℕ) (os : List ℕ) (b : AbstractBreach) → contents_at (type.sequence cs) at start os ≡ Err b → length b.path ≤ deepest cs
unfolding contents_at
sequence_paths cs laws proper at start os b e = fields_paths 0 cs start os b laws proper (fields_err (fields_at 0 cs start os) b e)

pub sequence_lawful : (cs : Components) → AllLawful cs → are_proper cs ≡ true → optional_differ cs ≡ true
    → LawfulBody (λ v. fits_kind (type.sequence cs) v) (λ v. contents_octets (type.sequence cs) v) (contents_at (type.sequence cs)) (λ size os b. FaultInContents (type.sequence cs) size os b) (deepest cs)
sequence_lawful cs laws proper distinct = record {
  takes = sequence_takes cs laws proper;
  again = sequence_again cs laws distinct;
  fault = sequence_fault cs laws proper;
  found = sequence_found cs laws distinct;
  paths = sequence_paths cs laws proper;
}
