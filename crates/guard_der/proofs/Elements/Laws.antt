-- What holds between reading an element, its values' encodings and its faults; and that it goes from contents to elements.
use Rattle.std.proofs.Common.{◌≡◌, ◌≢◌, ℕ, suc, ◌+◌, ◌<◌, ◌≤◌, ◌^◌, Bool, true, ltb, List, [], ◌∷◌, ◌++◌, length, take, drop, Option, Some, None, Ok, Err, refl, sym, ap, subst, ◌∙◌, arith, inl, inr}
use Rattle.std.specs.Prelude.{IsTrue, option_and_then}
use Rattle.std.proofs.lemmas.Bool.{cond-true, cond-false, lt-ltb, le-ltb, ltb-true, ltb-false}
use Rattle.std.proofs.lemmas.List.{append-nil, length-append, length-take, length-drop, take_all, take-append-drop}
use Rattle.guard_model.specs.Answer.{◌>>=◌}
use Rattle.guard_model.specs.declared.tag.Tag.{Tag}
use Rattle.guard_model.specs.AbstractValue.{AbstractValue}
use Rattle.guard_der.specs.declared.breach.Code.TheVariants as code
use Rattle.guard_der.specs.Head.{Head, head_of}
use Rattle.guard_der.specs.Element.{element, tagged}
use Rattle.guard_der.specs.Breach.{AbstractBreach, Faulty, FaultyContents, FaultInElement, FaultAlone, FaultInWrapper, FaultInTags, Encodes, here, after}
use Rattle.guard_der.specs.Reading.{Reader, Body, framed, alone_at, tags_at, ended, due_at, fault, same_form}
use Rattle.guard_der.proofs.Numbers.Digits.{AreDigits}
use Rattle.guard_der.proofs.Headers.TagsAndLengths.{digits_take, digits_drop}
use Rattle.guard_der.proofs.Headers.Heads.{head}
use Rattle.guard_der.proofs.Headers.Offsets.{head_room, head_small}
use Rattle.guard_der.proofs.Elements.Steps.{bind, option_parts, due_ok, due_again, due_err, due_err_again, fault_after, after_after, due_path}
use Rattle.guard_der.proofs.Elements.AtFront.{form_is, form_self, other_form, same_form_not, front_is, front_again}
use Rattle.guard_model.specs.Tags.{same_tag}
use Rattle.guard_model.proofs.Results.{bind_ok, guard_ok, same_Ok, same_Err, bind_err}
use Rattle.guard_model.proofs.Tests.{chosen}
use Rattle.guard_model.proofs.Tags.{equal_tags, same_tag_itself}

abbrev pub Fit : Type 0
Fit = AbstractValue → Bool

abbrev pub Encode : Type 0
Encode = AbstractValue → Option (List ℕ)

-- an element that is read fits, and its encoding is what was read
pub record Takes (fit : Fit) (encode : Encode) (first : AbstractValue → Tag) (h : Head) (os : List ℕ) (v : AbstractValue) : Type 0 where
  pub fits : IsTrue (fit v)
  pub encoded : encode v ≡ Some (take (h.size + h.contents) os)
  pub tag : first v ≡ h.tag

-- a value's encoding is read, whatever follows it
pub record Again (wanted : Tag → Bool) (reader : Reader) (v : AbstractValue) (tag : Tag) (at : ℕ) (front rest : List ℕ) : Type 0 where
  pub header : Head
  pub stands : head_of (front ++ rest) ≡ Ok header
  pub tag_is : header.tag ≡ tag
  pub due : wanted header.tag ≡ true
  pub size : header.size + header.contents ≡ length front
  pub read : reader at header (front ++ rest) ≡ Ok v

-- a fault that is read is there
pub record Found (faulty : Faulty) (at : ℕ) (os : List ℕ) (b : AbstractBreach) : Type 0 where
  pub inner : AbstractBreach
  pub found : faulty os inner
  pub seen : b ≡ after at inner

-- a fault that is there is read
pub record FoundAgain (wanted : Tag → Bool) (reader : Reader) (at : ℕ) (os : List ℕ) (c : AbstractBreach) : Type 0 where
  pub header : Head
  pub stands : head_of os ≡ Ok header
  pub due : wanted header.tag ≡ true
  pub read : reader at header os ≡ Err (after at c)

-- of an element; a breach's path leads less than `deep` steps into it
pub record Lawful (wanted : Tag → Bool) (fit : Fit) (encode : Encode) (first : AbstractValue → Tag) (read : Reader) (faulty : Faulty) (deep : ℕ) : Type 0 where
  pub takes : (at : ℕ) (h : Head) (os : List ℕ) (v : AbstractValue) → AreDigits 256 os → head_of os ≡ Ok h → wanted h.tag ≡ true → read at h os ≡ Ok v → Takes fit encode first h os v
  pub again : (at : ℕ) (v : AbstractValue) (front rest : List ℕ) → IsTrue (fit v) → encode v ≡ Some front → Again wanted read v (first v) at front rest
  pub fault : (at : ℕ) (h : Head) (os : List ℕ) (b : AbstractBreach) → AreDigits 256 os → head_of os ≡ Ok h → wanted h.tag ≡ true → read at h os ≡ Err b → Found faulty at os b
  pub found : (at : ℕ) (os : List ℕ) (c : AbstractBreach) → faulty os c → FoundAgain wanted read at os c
  pub paths : (at : ℕ) (h : Head) (os : List ℕ) (b : AbstractBreach) → read at h os ≡ Err b → length b.path < deep

-- of contents octets
pub record LawfulBody (fit : Fit) (encode : Encode) (body : Body) (faulty : FaultyContents) (deep : ℕ) : Type 0 where
  pub takes : (at start : ℕ) (os : List ℕ) (v : AbstractValue) → AreDigits 256 os → length os < 2 ^ 32 → body at start os ≡ Ok v → IsTrue (fit v) × (encode v ≡ Some os)
  pub again : (at start : ℕ) (os : List ℕ) (v : AbstractValue) → IsTrue (fit v) → encode v ≡ Some os → body at start os ≡ Ok v
  pub fault : (at size : ℕ) (os : List ℕ) (b : AbstractBreach) → AreDigits 256 os → length os < 2 ^ 32 → body at (at + size) os ≡ Err b → Found (faulty size) at os b
  pub found : (at size : ℕ) (os : List ℕ) (c : AbstractBreach) → faulty size os c → body at (at + size) os ≡ Err (after at c)
  pub paths : (at start : ℕ) (os : List ℕ) (b : AbstractBreach) → body at start os ≡ Err b → length b.path ≤ deep

-- ---- contents in an element

abbrev framed_encode : Encode → Tag → Bool → Encode
framed_encode encode t constructed v = bind (encode v) (λ contents. element t constructed contents)

section_takes : (t : Tag) (constructed : Bool) (fit : Fit) (encode : Encode) (body : Body) (faulty : FaultyContents) (deep : ℕ) → LawfulBody fit encode body faulty deep
    → (at : ℕ) (h : Head) (os : List ℕ) (v : AbstractValue) → AreDigits 256 os → head_of os ≡ Ok h → same_tag t h.tag ≡ true → framed constructed body at h os ≡ Ok v → Takes fit (framed_encode encode t constructed) (λ v. t) h os v
unfolding framed
section_takes t constructed fit encode body faulty deep law at h os v digits e tag read =
    elim (chosen (same_form h.constructed constructed) (body at (at + h.size) (take h.contents (drop h.size os))) (Err (fault code.WrongForm at)) (Ok v) read) [
      | inl (right, inside) ↦
          let c = law.takes at (at + h.size) (take h.contents (drop h.size os)) v (digits_take h.contents (drop h.size os) (digits_drop h.size os digits)) (head_small os h digits e) inside in
          record {
            fits = c.0;
            encoded = rw (c.1, equal_tags t h.tag tag, ← form_is h.constructed constructed right) (front_is os h digits e).0;
            tag = equal_tags t h.tag tag;
          }
      | inr (wrong, is) ↦ absurd cc
    ]

section_again : (t : Tag) (constructed : Bool) (fit : Fit) (encode : Encode) (body : Body) (faulty : FaultyContents) (deep : ℕ) → t.number < 2 ^ 28 → LawfulBody fit encode body faulty deep
    → (at : ℕ) (v : AbstractValue) (front rest : List ℕ) → IsTrue (fit v) → framed_encode encode t constructed v ≡ Some front → Again (λ tag. same_tag t tag) (framed constructed body) v t at front rest
unfolding framed
section_again t constructed fit encode body faulty deep number law at v front rest fits e =
    let c = option_parts (encode v) (λ contents. element t constructed contents) front e in
    let f = front_again t constructed c.0 front rest number c.2 in
    let h : Head = head t constructed (length c.0) in
    let inner = law.again at (at + h.size) c.0 v fits c.1 in
    record {
      header = h;
      stands = f.0;
      tag_is = refl;
      due = same_tag_itself t;
      size = f.2;
      read = cond-true (same_form constructed constructed) _ _ (form_self constructed) ∙ ap (body at (at + h.size)) f.1 ∙ inner;
    }

section_fault : (t : Tag) (constructed : Bool) (fit : Fit) (encode : Encode) (body : Body) (faulty : FaultyContents) (deep : ℕ) → LawfulBody fit encode body faulty deep
    → (at : ℕ) (h : Head) (os : List ℕ) (b : AbstractBreach) → AreDigits 256 os → head_of os ≡ Ok h → same_tag t h.tag ≡ true → framed constructed body at h os ≡ Err b → Found (FaultInElement (λ tag. same_tag t tag) constructed faulty) at os b
unfolding framed
section_fault t constructed fit encode body faulty deep law at h os b digits e tag read =
    elim (chosen (same_form h.constructed constructed) (body at (at + h.size) (take h.contents (drop h.size os))) (Err (fault code.WrongForm at)) (Err b) read) [
      | inl (right, inside) ↦
          let c = law.fault at h.size (take h.contents (drop h.size os)) b (digits_take h.contents (drop h.size os) (digits_drop h.size os digits)) (head_small os h digits e) inside in
          record { inner = c.inner; found = (h, e, tag, inr (form_is h.constructed constructed right, c.found)); seen = c.seen }
      | inr (other, is) ↦
          record { inner = here code.WrongForm; found = (h, e, tag, inl (other_form h.constructed constructed other, refl)); seen = sym (same_Err {A = AbstractValue} (fault code.WrongForm at) b is) ∙ fault_after code.WrongForm at }
    ]

section_found : (t : Tag) (constructed : Bool) (fit : Fit) (encode : Encode) (body : Body) (faulty : FaultyContents) (deep : ℕ) → LawfulBody fit encode body faulty deep
    → (at : ℕ) (os : List ℕ) (c : AbstractBreach) → FaultInElement (λ tag. same_tag t tag) constructed faulty os c → FoundAgain (λ tag. same_tag t tag) (framed constructed body) at os c
unfolding framed
section_found t constructed fit encode body faulty deep law at os c (h, e, tag, inl (other, is)) =
    record {
      header = h;
      stands = e;
      due = tag;
      read = cond-false (same_form h.constructed constructed) _ _ (same_form_not h.constructed constructed other) ∙ rw is (ap (λ (b : AbstractBreach). Err b) (fault_after code.WrongForm at));
    }
section_found t constructed fit encode body faulty deep law at os c (h, e, tag, inr (same, found)) =
    let right : same_form h.constructed constructed ≡ true = rw same (form_self constructed) in
    record {
      header = h;
      stands = e;
      due = tag;
      read = cond-true (same_form h.constructed constructed) _ _ right ∙ law.found at h.size (take h.contents (drop h.size os)) c found;
    }

section_paths : (t : Tag) (constructed : Bool) (fit : Fit) (encode : Encode) (body : Body) (faulty : FaultyContents) (deep : ℕ) → LawfulBody fit encode body faulty deep
    → (at : ℕ) (h : Head) (os : List ℕ) (b : AbstractBreach) → framed constructed body at h os ≡ Err b → length b.path < suc deep
unfolding framed
section_paths t constructed fit encode body faulty deep law at h os b e =
    elim (chosen (same_form h.constructed constructed) (body at (at + h.size) (take h.contents (drop h.size os))) (Err (fault code.WrongForm at)) (Err b) e) [
      | inl (right, inside) ↦ omega (arith, law.paths at (at + h.size) (take h.contents (drop h.size os)) b inside)
      | inr (wrong, is) ↦ omega (arith, ap (λ (b : AbstractBreach). length b.path) (same_Err {A = AbstractValue} (fault code.WrongForm at) b is))
    ]

pub framed_lawful : (t : Tag) (constructed : Bool) (fit : Fit) (encode : Encode) (body : Body) (faulty : FaultyContents) (deep : ℕ) → t.number < 2 ^ 28 → LawfulBody fit encode body faulty deep
    → Lawful (λ tag. same_tag t tag) fit (λ v. framed_encode encode t constructed v) (λ v. t) (framed constructed body) (FaultInElement (λ tag. same_tag t tag) constructed faulty) (suc deep)
framed_lawful t constructed fit encode body faulty deep number law = record {
  takes = section_takes t constructed fit encode body faulty deep law;
  again = section_again t constructed fit encode body faulty deep number law;
  fault = section_fault t constructed fit encode body faulty deep law;
  found = section_found t constructed fit encode body faulty deep law;
  paths = section_paths t constructed fit encode body faulty deep law;
}

-- ---- one element alone

pub alone_takes : (wanted : Tag → Bool) (fit : Fit) (encode : Encode) (first : AbstractValue → Tag) (read : Reader) (faulty : Faulty) (deep : ℕ) → Lawful wanted fit encode first read faulty deep
    → (at : ℕ) (os : List ℕ) (v : AbstractValue) → AreDigits 256 os → alone_at wanted read at os ≡ Ok v → IsTrue (fit v) × (encode v ≡ Some os)
unfolding alone_at
alone_takes wanted fit encode first read faulty deep law at os v digits e =
    let a = bind_ok (due_at wanted at os) (λ h. read at h os >>= λ v. ended at h os v) v e in
    let b = bind_ok (read at a.0 os) (λ v. ended at a.0 os v) v a.2 in
    let c = guard_ok (ltb (a.0.size + a.0.contents) (length os)) (fault code.TrailingOctets (at + (a.0.size + a.0.contents))) (Ok b.0) v b.2 in
    let due = due_ok wanted at os a.0 a.1 in
    let one = law.takes at a.0 os b.0 digits due.0 due.1 b.1 in
    let all : take (a.0.size + a.0.contents) os ≡ os = take_all (a.0.size + a.0.contents) os (ltb-false (a.0.size + a.0.contents) (length os) c.0) in
    rw (← same_Ok {F = AbstractBreach} b.0 v c.1) (one.fits, one.encoded ∙ ap (λ (x : List ℕ). Some x) all)

alone_read : (wanted : Tag → Bool) (read : Reader) (at : ℕ) (os : List ℕ) (h : Head) (v : AbstractValue) → head_of os ≡ Ok h → wanted h.tag ≡ true → read at h os ≡ Ok v → alone_at wanted read at os ≡ ended at h os v
unfolding alone_at
alone_read wanted read at os h v stands tag e = rw (due_again wanted at os h stands tag, e) refl

pub alone_again : (wanted : Tag → Bool) (fit : Fit) (encode : Encode) (first : AbstractValue → Tag) (read : Reader) (faulty : Faulty) (deep : ℕ) → Lawful wanted fit encode first read faulty deep
    → (at : ℕ) (os : List ℕ) (v : AbstractValue) → IsTrue (fit v) → encode v ≡ Some os → alone_at wanted read at os ≡ Ok v
alone_again wanted fit encode first read faulty deep law at os v fits e =
    let w = law.again at v os [] fits e in
    let same : os ++ [] ≡ os = append-nil os in
    alone_read wanted read at os w.header v (ap head_of (sym same) ∙ w.stands) w.due (ap (read at w.header) (sym same) ∙ w.read)
    ∙ cond-false (ltb (w.header.size + w.header.contents) (length os)) _ _ (le-ltb (w.header.size + w.header.contents) (length os) (omega (arith, w.size)))

pub alone_fault : (wanted : Tag → Bool) (fit : Fit) (encode : Encode) (first : AbstractValue → Tag) (read : Reader) (faulty : Faulty) (deep : ℕ) → Lawful wanted fit encode first read faulty deep
    → (at : ℕ) (os : List ℕ) (b : AbstractBreach) → AreDigits 256 os → alone_at wanted read at os ≡ Err b → Found (FaultAlone wanted (Encodes fit encode) faulty) at os b
unfolding alone_at
alone_fault wanted fit encode first read faulty deep law at os b digits e =
    elim (bind_err (due_at wanted at os) (λ h. read at h os >>= λ v. ended at h os v) b e) [
      | inl due ↦ let d = due_err wanted at os b due in record { inner = here d.0; found = inl (d.0, d.1, refl); seen = d.2 ∙ fault_after d.0 at }
      | inr (h, due, rest) ↦
          let d = due_ok wanted at os h due in
          elim (bind_err (read at h os) (λ v. ended at h os v) b rest) [
            | inl inside ↦ let f = law.fault at h os b digits d.0 d.1 inside in record { inner = f.inner; found = inr (inl f.found); seen = f.seen }
            | inr (v, got, more) ↦ elim (chosen (ltb (h.size + h.contents) (length os)) (Err (fault code.TrailingOctets (at + (h.size + h.contents)))) (Ok v) (Err b) more) [
              | inl (behind, is) ↦
                  let one = law.takes at h os v digits d.0 d.1 got in
                  let room = head_room os h digits d.0 in
                  let len : length (take (h.size + h.contents) os) ≡ h.size + h.contents = omega (arith, length-take (h.size + h.contents) os, room) in
                  let some : drop (h.size + h.contents) os ≢ [] = λ empty. absurd (omega (arith, ltb-true (h.size + h.contents) (length os) behind, ap length empty, length-drop (h.size + h.contents) os)) in
                  let place : fault code.TrailingOctets (at + (h.size + h.contents)) ≡ after at (after (length (take (h.size + h.contents) os)) (here code.TrailingOctets)) =
                  rw len (fault_after code.TrailingOctets (at + (h.size + h.contents)) ∙ after_after at (h.size + h.contents) (here code.TrailingOctets)) in
                  record {
                    inner = after (length (take (h.size + h.contents) os)) (here code.TrailingOctets);
                    found = inr (inr (take (h.size + h.contents) os, drop (h.size + h.contents) os, (v, one.fits, one.encoded), sym (take-append-drop (h.size + h.contents) os), some, refl));
                    seen = sym (same_Err {A = AbstractValue} (fault code.TrailingOctets (at + (h.size + h.contents))) b is) ∙ place;
                  }
              | inr (none, is) ↦ absurd cc
            ]
          ]
    ]

some_more : (os : List ℕ) → os ≢ [] → 1 ≤ length os
some_more [] some = absurd (some refl)
some_more (o ∷ os) some = omega arith

pub alone_found : (wanted : Tag → Bool) (fit : Fit) (encode : Encode) (first : AbstractValue → Tag) (read : Reader) (faulty : Faulty) (deep : ℕ) → Lawful wanted fit encode first read faulty deep
    → (at : ℕ) (os : List ℕ) (c : AbstractBreach) → FaultAlone wanted (Encodes fit encode) faulty os c → alone_at wanted read at os ≡ Err (after at c)
unfolding alone_at
alone_found wanted fit encode first read faulty deep law at os c (inl (why, not_due, is)) =
    rw (due_err_again wanted at os why not_due, is) (ap (λ (b : AbstractBreach). Err b) (fault_after why at))
alone_found wanted fit encode first read faulty deep law at os c (inr (inl found)) =
    let f = law.found at os c found in
    rw (due_again wanted at os f.header f.stands f.due, f.read) refl
alone_found wanted fit encode first read faulty deep law at os c (inr (inr (front, rest, (v, fits, encoded), parts, some, is))) =
    let w = law.again at v front rest fits encoded in
    let longer : w.header.size + w.header.contents < length (front ++ rest) = omega (arith, w.size, length-append front rest, some_more rest some) in
    ap (alone_at wanted read at) parts
    ∙ alone_read wanted read at (front ++ rest) w.header v w.stands w.due w.read
    ∙ cond-true (ltb (w.header.size + w.header.contents) (length (front ++ rest))) _ _ (lt-ltb (w.header.size + w.header.contents) (length (front ++ rest)) longer)
    ∙ ap (λ (n : ℕ). Err (fault code.TrailingOctets (at + n))) w.size
    ∙ ap (λ (b : AbstractBreach). Err b) (fault_after code.TrailingOctets (at + length front) ∙ after_after at (length front) (here code.TrailingOctets) ∙ ap (after at) (sym is))

pub alone_paths : (wanted : Tag → Bool) (fit : Fit) (encode : Encode) (first : AbstractValue → Tag) (read : Reader) (faulty : Faulty) (deep : ℕ) → Lawful wanted fit encode first read faulty deep
    → (at : ℕ) (os : List ℕ) (b : AbstractBreach) → alone_at wanted read at os ≡ Err b → length b.path ≤ deep
unfolding alone_at
alone_paths wanted fit encode first read faulty deep law at os b e =
    elim (bind_err (due_at wanted at os) (λ h. read at h os >>= λ v. ended at h os v) b e) [
      | inl due ↦ omega (arith, due_path wanted at os b due)
      | inr (h, due, rest) ↦ elim (bind_err (read at h os) (λ v. ended at h os v) b rest) [
        | inl inside ↦ omega (arith, law.paths at h os b inside)
        | inr (v, got, more) ↦ elim (chosen (ltb (h.size + h.contents) (length os)) (Err (fault code.TrailingOctets (at + (h.size + h.contents)))) (Ok v) (Err b) more) [
          | inl (behind, is) ↦ omega (arith, ap (λ (b : AbstractBreach). length b.path) (same_Err {A = AbstractValue} (fault code.TrailingOctets (at + (h.size + h.contents))) b is))
          | inr (none, is) ↦ absurd cc
        ]
      ]
    ]

wrapped_fault : (faulty : Faulty) (at size : ℕ) (os : List ℕ) (b : AbstractBreach) → Found faulty (at + size) os b → Found (λ os b. (c : AbstractBreach) × faulty os c × (b ≡ after size c)) at os b
wrapped_fault faulty at size os b f = record { inner = after size f.inner; found = (f.inner, f.found, refl); seen = f.seen ∙ after_after at size f.inner }

pub alone_lawful : (wanted : Tag → Bool) (fit : Fit) (encode : Encode) (first : AbstractValue → Tag) (read : Reader) (faulty : Faulty) (deep : ℕ) → Lawful wanted fit encode first read faulty deep
    → LawfulBody fit encode (λ at start os. alone_at wanted read start os) (FaultInWrapper wanted (Encodes fit encode) faulty) deep
alone_lawful wanted fit encode first read faulty deep law = record {
  takes = λ at start os v digits short e. alone_takes wanted fit encode first read faulty deep law start os v digits e;
  again = λ at start os v fits e. alone_again wanted fit encode first read faulty deep law start os v fits e;
  fault = λ at size os b digits short e. wrapped_fault (FaultAlone wanted (Encodes fit encode) faulty) at size os b (alone_fault wanted fit encode first read faulty deep law (at + size) os b digits e);
  found = λ at size os b f. alone_found wanted fit encode first read faulty deep law (at + size) os f.0 f.1 ∙ ap (λ (b : AbstractBreach). Err b) (after_after at size f.0 ∙ ap (after at) (sym f.2));
  paths = λ at start os b e. alone_paths wanted fit encode first read faulty deep law start os b e;
}

-- ---- elements in wrappers

-- the encodings may be written in another way
pub lawful_encode : (wanted : Tag → Bool) (fit : Fit) (encode other : Encode) (first : AbstractValue → Tag) (read : Reader) (faulty : Faulty) (deep : ℕ) → ((v : AbstractValue) → encode v ≡ other v)
    → Lawful wanted fit encode first read faulty deep → Lawful wanted fit other first read faulty deep
lawful_encode wanted fit encode other first read faulty deep same law = record {
  takes = λ at h os v digits e tag read. let t = law.takes at h os v digits e tag read in record { fits = t.fits; encoded = sym (same v) ∙ t.encoded; tag = t.tag };
  again = λ at v front rest fits e. law.again at v front rest fits (same v ∙ e);
  fault = law.fault;
  found = law.found;
  paths = law.paths;
}

and_then : (t : Tag) (o : Option (List ℕ)) → bind o (λ contents. element t true contents) ≡ option_and_then (element t true) o
and_then t None = refl
and_then t (Some y) = refl

wrapped_again : (t : Tag) (o : Option (List ℕ)) (f : List ℕ → Option (List ℕ)) → bind (bind o f) (λ contents. element t true contents) ≡ bind o (λ contents. option_and_then (element t true) (f contents))
wrapped_again t None f = refl
wrapped_again t (Some x) f = and_then t (f x)

abbrev tagged_encode : Encode → Bool → List Tag → Encode
tagged_encode encode constructed tags v = bind (encode v) (λ contents. tagged tags constructed contents)

abbrev InTags : Fit → Encode → Bool → FaultyContents → Faulty → List Tag → Faulty
InTags fit encode constructed faulty untagged tags = FaultInTags (λ tags os. Encodes fit (λ v. tagged_encode encode constructed tags v) os) constructed faulty untagged tags

-- each tag in this profile's limit
abbrev pub AreLow : List Tag → Type 0
AreLow [] = Unit {0}
AreLow (t ∷ ts) = (t.number < 2 ^ 28) × AreLow ts

pub tags_lawful : (t : Tag) (ts : List Tag) (constructed : Bool) (fit : Fit) (encode : Encode) (body : Body) (faulty : FaultyContents) (other : Reader) (untagged : Faulty) (deep : ℕ)
    → AreLow (t ∷ ts) → LawfulBody fit encode body faulty deep
    → Lawful (λ tag. same_tag t tag) fit (λ v. tagged_encode encode constructed (t ∷ ts) v) (λ v. t) (tags_at (t ∷ ts) constructed body other) (InTags fit encode constructed faulty untagged (t ∷ ts)) (length (t ∷ ts) + deep)
unfolding tags_at
tags_lawful t [] constructed fit encode body faulty other untagged deep low law =
    let n : suc deep ≡ 1 + deep = omega arith in
    subst (λ (n : ℕ). Lawful (λ tag. same_tag t tag) fit (λ v. tagged_encode encode constructed (t ∷ []) v) (λ v. t) (framed constructed body) (FaultInElement (λ tag. same_tag t tag) constructed faulty) n) n
    (framed_lawful t constructed fit encode body faulty deep low.0 law)
tags_lawful t (u ∷ ts) constructed fit encode body faulty other untagged deep low law =
    let inner = tags_lawful u ts constructed fit encode body faulty other untagged deep low.1 law in
    let alone = alone_lawful (λ tag. same_tag u tag) fit (λ v. tagged_encode encode constructed (u ∷ ts) v) (λ v. u) (tags_at (u ∷ ts) constructed body other) (InTags fit encode constructed faulty untagged (u ∷ ts)) (length (u ∷ ts) + deep) inner in
    let whole = framed_lawful t true fit (λ v. tagged_encode encode constructed (u ∷ ts) v) (λ at start os. alone_at (λ tag. same_tag u tag) (tags_at (u ∷ ts) constructed body other) start os)
    (FaultInWrapper (λ tag. same_tag u tag) (Encodes fit (λ v. tagged_encode encode constructed (u ∷ ts) v)) (InTags fit encode constructed faulty untagged (u ∷ ts))) (length (u ∷ ts) + deep) low.0 alone in
    let n : suc (length (u ∷ ts) + deep) ≡ length (t ∷ u ∷ ts) + deep = omega arith in
    subst (λ (n : ℕ). Lawful (λ tag. same_tag t tag) fit (λ v. tagged_encode encode constructed (t ∷ u ∷ ts) v) (λ v. t) (tags_at (t ∷ u ∷ ts) constructed body other) (InTags fit encode constructed faulty untagged (t ∷ u ∷ ts)) n) n
    (lawful_encode (λ tag. same_tag t tag) fit (λ v. framed_encode (λ v. tagged_encode encode constructed (u ∷ ts) v) t true v) (λ v. tagged_encode encode constructed (t ∷ u ∷ ts) v) (λ v. t)
    (tags_at (t ∷ u ∷ ts) constructed body other) (InTags fit encode constructed faulty untagged (t ∷ u ∷ ts)) (suc (length (u ∷ ts) + deep)) (λ v. wrapped_again t (encode v) (λ contents. tagged (u ∷ ts) constructed contents)) whole)
