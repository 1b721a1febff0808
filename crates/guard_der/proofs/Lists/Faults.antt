-- The elements of an OF type: their faults, and the law of SEQUENCE OF and SET OF.
use Rattle.std.proofs.Common.{◌≡◌, ◌≢◌, ℕ, zero, suc, ◌+◌, ◌-◌, ◌<◌, ◌≤◌, ◌^◌, Bool, true, false, List, [], ◌∷◌, ◌++◌, length, take, drop, Some, Result, Ok, Err, refl, sym, ap, subst, ◌∙◌, append_assoc, arith, inl, inr}
use Rattle.std.specs.Prelude.{IsTrue, ◌&&◌, ◌||◌, not}
use Rattle.std.proofs.lemmas.Bool.{and_parts, and_from, le-leb}
use Rattle.std.proofs.lemmas.List.{length-append, length-take, length-drop, take_at, take-append-drop, append-nil}
use Rattle.guard_model.specs.Answer.{◌>>=◌}
use Rattle.guard_model.specs.declared.site.Step.TheVariants.{Element}
use Rattle.guard_model.specs.declared.tag.Tag.{Tag}
use Rattle.guard_model.specs.AbstractType as type
use Rattle.guard_model.specs.AbstractType.{AbstractType}
use Rattle.guard_model.specs.AbstractValue as value
use Rattle.guard_model.specs.AbstractValue.{AbstractValue, Items}
use Rattle.guard_tagcheck.specs.FirstTags.{begins_with}
use Rattle.guard_tagcheck.specs.Limits.{nesting}
use Rattle.guard_der.specs.declared.breach.Code.TheVariants as code
use Rattle.guard_der.specs.Head.{Head, head_of}
use Rattle.guard_der.specs.Der.{der, contents_octets, item_encodings, joined}
use Rattle.guard_der.specs.Fits.{fits, fits_kind, every_fits, are_few, are_ascending, descends, ascend_from}
use Rattle.guard_der.specs.Breach.{AbstractBreach, FaultIn, FaultInContents, ItemFault, last_of, here, after, below}
use Rattle.guard_der.specs.Reading.{Reader, element_at, contents_at, item_at, items_at, items_read, fault}
use Rattle.guard_der.proofs.Elements.Steps.{option_parts, fault_after, after_after}
use Rattle.guard_der.proofs.Numbers.Digits.{AreDigits}
use Rattle.guard_der.proofs.Headers.TagsAndLengths.{digits_drop}
use Rattle.guard_der.proofs.Headers.Offsets.{head_room}
use Rattle.guard_der.proofs.Elements.Laws.{LawfulBody, Found}
use Rattle.guard_der.proofs.Components.ByTag.{LawfulType}
use Rattle.guard_der.proofs.Lists.Elements.{ItemsTaken, AloneErr, Read, prefixed, append_none, last_behind, item_ok, item_err, item_fails, alone_err, alone_descends, alone_fails, alone_strays, items_fail, items_end, items_takes, items_through, some_front, count_octets, encoded_first, ascends_first, any_up}
use Rattle.guard_model.specs.Counts.{item_count}
use Rattle.guard_model.proofs.Results.{same_Ok, same_Err, bind_err}
use Rattle.std.proofs.lemmas.Option.{same_Some}

last_is : (os : List ℕ) (es : List (List ℕ)) → last_behind os es ≡ last_of (os ∷ es)
last_is os [] = refl
last_is os (x ∷ es) = last_is x es

last_of_all : (es : List (List ℕ)) → last_behind [] es ≡ last_of es
last_of_all [] = refl
last_of_all (os ∷ es) = last_is os es

some_more : (os : List ℕ) → os ≢ [] → 1 ≤ length os
some_more [] some = absurd (some refl)
some_more (o ∷ os) some = omega arith

not_empty : (os : List ℕ) → 1 ≤ length os → os ≢ []
not_empty os some empty = absurd (omega (arith, some, ap length empty))

head_octets : (os : List ℕ) (h : Head) → head_of os ≡ Ok h → 1 ≤ length os
unfolding head_of
head_octets [] h e = absurd cc
head_octets (o ∷ os) h e = omega arith

-- ---- a fault that is read is there

record OneFault (t : AbstractType) (ordered : Bool) (i at : ℕ) (before os : List ℕ) (b : AbstractBreach) : Type 0 where
  inner : AbstractBreach
  found : ItemFault t ordered (λ os b. FaultIn t os b) i before os inner
  seen : b ≡ after at inner

-- of an element that isn't read
one_fault : (t : AbstractType) (ordered : Bool) (i at : ℕ) (before os : List ℕ) (b c : AbstractBreach) → LawfulType t → AreDigits 256 os → os ≢ [] → b ≡ below (Element i) c
    → AloneErr ordered (λ tag. begins_with t tag) (element_at t) before at os c → OneFault t ordered i at before os b
one_fault t ordered i at before os b c law digits some is (inl (d, not_due, e)) =
    record { inner = below (Element i) (here d); found = inl (d, some, not_due, refl); seen = is ∙ ap (below (Element i)) (e ∙ fault_after d at) }
one_fault t ordered i at before os b c law digits some is (inr (inl (h, stands, due, wrong))) =
    let f = law.fault at h os c digits stands due wrong in
    record { inner = below (Element i) f.inner; found = inr (inl (f.inner, f.found, refl)); seen = is ∙ ap (below (Element i)) f.seen }
one_fault t ordered i at before os b c law digits some is (inr (inr (h, v, stands, due, got, down, e))) =
    let d = and_parts ordered (descends before (take (h.size + h.contents) os)) down in
    let one = law.takes at h os v digits stands due got in
    record {
      inner = below (Element i) (here code.SetOfOrder);
      found = inr (inr (take (h.size + h.contents) os, drop (h.size + h.contents) os, d.0, (v, one.fits, one.encoded), sym (take-append-drop (h.size + h.contents) os), d.1, refl));
      seen = is ∙ ap (below (Element i)) (e ∙ fault_after code.SetOfOrder at);
    }

record ItemsFault (t : AbstractType) (ordered : Bool) (i at : ℕ) (before os : List ℕ) (b : AbstractBreach) : Type 0 where
  passed : Items
  encodings : List (List ℕ)
  rest : List ℕ
  inner : AbstractBreach
  parts : os ≡ joined encodings ++ rest
  fit : every_fits (fits t) passed ≡ true
  encoded : item_encodings (der t) passed ≡ Some encodings
  ascend : (not ordered || ascend_from before encodings) ≡ true
  found : ItemFault t ordered (λ os b. FaultIn t os b) (i + item_count passed) (last_behind before encodings) rest inner
  seen : b ≡ after (at + length (joined encodings)) inner

-- the first of several elements isn't read
first_fault : (t : AbstractType) (ordered : Bool) (i at : ℕ) (before os : List ℕ) (b : AbstractBreach) → OneFault t ordered i at before os b → ItemsFault t ordered i at before os b
first_fault t ordered i at before os b one =
    let place : i ≡ i + 0 = omega arith in
    let offset : at ≡ at + 0 = omega arith in
    record {
      passed = value.no_items;
      encodings = [];
      rest = os;
      inner = one.inner;
      parts = refl;
      fit = refl;
      encoded = refl;
      ascend = any_up ordered;
      found = subst (λ (k : ℕ). ItemFault t ordered (λ os b. FaultIn t os b) k before os one.inner) place one.found;
      seen = one.seen ∙ ap (λ (n : ℕ). after n one.inner) offset;
    }

-- the first is read, and one after it isn't
later_fault : (t : AbstractType) (ordered : Bool) (i at n : ℕ) (before os : List ℕ) (v : AbstractValue) (b : AbstractBreach) → n ≤ length os → fits t v ≡ true → der t v ≡ Some (take n os) → (ordered && descends before (take n os)) ≡ false
    → ItemsFault t ordered (suc i) (at + n) (take n os) (drop n os) b → ItemsFault t ordered i at before os b
later_fault t ordered i at n before os v b room fit encoded up f =
    let place : suc i + item_count f.passed ≡ i + suc (item_count f.passed) = omega arith in
    let len : length (take n os ++ joined f.encodings) ≡ n + length (joined f.encodings) = omega (arith, length-append (take n os) (joined f.encodings), length-take n os, room) in
    let offset : at + n + length (joined f.encodings) ≡ at + length (take n os ++ joined f.encodings) = omega (arith, len) in
    record {
      passed = value.item v f.passed;
      encodings = take n os ∷ f.encodings;
      rest = f.rest;
      inner = f.inner;
      parts = sym (take-append-drop n os) ∙ ap (λ (x : List ℕ). take n os ++ x) f.parts ∙ sym (append_assoc (take n os) (joined f.encodings) f.rest);
      fit = and_from (fits t v) (every_fits (fits t) f.passed) fit f.fit;
      encoded = encoded_first t v f.passed (take n os) f.encodings encoded f.encoded;
      ascend = ascends_first ordered before (take n os) f.encodings up f.ascend;
      found = subst (λ (k : ℕ). ItemFault t ordered (λ os b. FaultIn t os b) k (last_behind (take n os) f.encodings) f.rest f.inner) place f.found;
      seen = f.seen ∙ ap (λ (n : ℕ). after n f.inner) offset;
    }

items_fault : (tries : ℕ) (t : AbstractType) (ordered : Bool) (i at : ℕ) (before os : List ℕ) (b : AbstractBreach) → LawfulType t → AreDigits 256 os → length os ≤ tries
    → Read t ordered tries i before at os ≡ Err b → ItemsFault t ordered i at before os b
unfolding items_at
items_fault zero t ordered i at before [] b law digits room e = absurd cc
items_fault (suc tries) t ordered i at before [] b law digits room e = absurd cc
items_fault zero t ordered i at before (o ∷ os) b law digits room e = absurd (omega (arith, room))
items_fault (suc tries) t ordered i at before (o ∷ os) b law digits room e =
    elim (bind_err (item_at ordered (λ tag. begins_with t tag) (element_at t) i before at (o ∷ os))
    (λ x. Read t ordered tries (suc i) (take x.1 (o ∷ os)) (at + x.1) (drop x.1 (o ∷ os)) >>= λ vs. Ok (value.item x.0 vs)) b e) [
      | inl wrong ↦
          let c = item_err ordered (λ tag. begins_with t tag) (element_at t) i before at (o ∷ os) b wrong in
          first_fault t ordered i at before (o ∷ os) b
          (one_fault t ordered i at before (o ∷ os) b c.0 law digits (not_empty (o ∷ os) (omega arith)) c.2 (alone_err ordered (λ tag. begins_with t tag) (element_at t) before at (o ∷ os) c.0 c.1))
      | inr (x, one, rest) ↦
          let k = item_ok ordered (λ tag. begins_with t tag) (element_at t) i before at (o ∷ os) x one in
          let taken = law.takes at k.header (o ∷ os) x.0 digits k.stands k.due k.got in
          let encoded : der t x.0 ≡ Some (take x.1 (o ∷ os)) = taken.encoded ∙ ap (λ (n : ℕ). Some (take n (o ∷ os))) (sym k.size) in
          let within : x.1 ≤ length (o ∷ os) = omega (arith, k.size, head_room (o ∷ os) k.header digits k.stands) in
          let some : 1 ≤ x.1 = omega (arith, some_front t x.0 (take x.1 (o ∷ os)) law taken.fits encoded, length-take x.1 (o ∷ os), within) in
          elim (bind_err (Read t ordered tries (suc i) (take x.1 (o ∷ os)) (at + x.1) (drop x.1 (o ∷ os))) (λ vs. Ok (value.item x.0 vs)) b rest) [
            | inl others ↦
                later_fault t ordered i at x.1 before (o ∷ os) x.0 b within taken.fits encoded k.ascends
                (items_fault tries t ordered (suc i) (at + x.1) (take x.1 (o ∷ os)) (drop x.1 (o ∷ os)) b law (digits_drop x.1 (o ∷ os) digits) (omega (arith, room, some, length-drop x.1 (o ∷ os))) others)
            | inr (vs, all, none) ↦ absurd cc
          ]
    ]

-- ---- a fault that is there is read

fault_octets : (t : AbstractType) (ordered : Bool) (i : ℕ) (before os : List ℕ) (c : AbstractBreach) → LawfulType t → ItemFault t ordered (λ os b. FaultIn t os b) i before os c → 1 ≤ length os
fault_octets t ordered i before os c law (inl (d, some, not_due, is)) = some_more os some
fault_octets t ordered i before os c law (inr (inl (d, inner, is))) = let f = law.found 0 os d inner in head_octets os f.header f.stands
fault_octets t ordered i before os c law (inr (inr (front, behind, order, (v, fit, encoded), parts, down, is))) =
    omega (arith, some_front t v front law fit encoded, ap length parts, length-append front behind)

fault_read : (t : AbstractType) (ordered : Bool) (i at : ℕ) (before os : List ℕ) (c : AbstractBreach) → LawfulType t → ItemFault t ordered (λ os b. FaultIn t os b) i before os c
    → item_at ordered (λ tag. begins_with t tag) (element_at t) i before at os ≡ Err (after at c)
fault_read t ordered i at before os c law (inl (d, some, not_due, is)) =
    item_fails ordered (λ tag. begins_with t tag) (element_at t) i before at os (fault d at) (alone_strays ordered (λ tag. begins_with t tag) (element_at t) before at os d not_due)
    ∙ ap (λ (b : AbstractBreach). Err b) (ap (below (Element i)) (fault_after d at) ∙ ap (after at) (sym is))
fault_read t ordered i at before os c law (inr (inl (d, inner, is))) =
    let f = law.found at os d inner in
    item_fails ordered (λ tag. begins_with t tag) (element_at t) i before at os (after at d) (alone_fails ordered (λ tag. begins_with t tag) (element_at t) before at os f.header (after at d) f.stands f.due f.read)
    ∙ ap (λ (b : AbstractBreach). Err b) (ap (after at) (sym is))
fault_read t ordered i at before os c law (inr (inr (front, behind, order, (v, fit, encoded), parts, down, is))) =
    let a = law.again at v front behind fit encoded in
    let same : take (a.header.size + a.header.contents) (front ++ behind) ≡ front = take_at front behind (a.header.size + a.header.contents) (sym a.size) in
    let low : (ordered && descends before (take (a.header.size + a.header.contents) (front ++ behind))) ≡ true = ap (λ (x : List ℕ). ordered && descends before x) same ∙ and_from ordered (descends before front) order down in
    ap (λ (x : List ℕ). item_at ordered (λ tag. begins_with t tag) (element_at t) i before at x) parts
    ∙ item_fails ordered (λ tag. begins_with t tag) (element_at t) i before at (front ++ behind) (fault code.SetOfOrder at)
    (alone_descends ordered (λ tag. begins_with t tag) (element_at t) before at (front ++ behind) a.header v a.stands a.due a.read low)
    ∙ ap (λ (b : AbstractBreach). Err b) (ap (below (Element i)) (fault_after code.SetOfOrder at) ∙ ap (after at) (sym is))

items_found : (t : AbstractType) (ordered : Bool) (at : ℕ) (os : List ℕ) (vs : Items) (es : List (List ℕ)) (rest : List ℕ) (c : AbstractBreach) → LawfulType t → os ≡ joined es ++ rest → every_fits (fits t) vs ≡ true → item_encodings (der t) vs ≡ Some es
    → (not ordered || ascend_from [] es) ≡ true → ItemFault t ordered (λ os b. FaultIn t os b) (item_count vs) (last_of es) rest c → Read t ordered (length os) 0 [] at os ≡ Err (after (at + length (joined es)) c)
items_found t ordered at os vs es rest c law parts fit encoded up found =
    let left : ℕ = length os - item_count vs - 1 in
    let from : ℕ = at + length (joined es) in
    let some = fault_octets t ordered (item_count vs) (last_of es) rest c law found in
    let more : length os ≡ item_count vs + suc left = omega (arith, some, ap length parts, length-append (joined es) rest, count_octets t vs es law fit encoded) in
    let wrong : Read t ordered (suc left) (item_count vs) (last_behind [] es) from rest ≡ Err (after from c) =
    ap (λ (x : List ℕ). Read t ordered (suc left) (item_count vs) x from rest) (last_of_all es)
    ∙ items_fail left ordered (λ tag. begins_with t tag) (element_at t) (item_count vs) (last_of es) from rest (after from c) some (fault_read t ordered (item_count vs) from (last_of es) rest c law found) in
    items_through t ordered vs es (length os) (suc left) 0 (item_count vs) at from [] os rest law fit encoded up more (omega arith) refl parts
    ∙ ap (prefixed vs) wrong

-- ---- what is read of the contents

items_ok : (r : Result Items AbstractBreach) (v : AbstractValue) → items_read r ≡ Ok v → (vs : Items) × (r ≡ Ok vs) × (value.items vs ≡ v)
items_ok (Ok vs) v e = (vs, refl, same_Ok {F = AbstractBreach} (value.items vs) v e)
items_ok (Err b) v e = absurd cc

pub items_err : (r : Result Items AbstractBreach) (b : AbstractBreach) → items_read r ≡ Err b → r ≡ Err b
items_err (Ok vs) b e = absurd cc
items_err (Err c) b e = ap (λ (c : AbstractBreach). Err c) (same_Err {A = AbstractValue} c b e)

few_items : (t : AbstractType) (ordered : Bool) (os : List ℕ) (vs : Items) → LawfulType t → length os < 2 ^ 32 → ItemsTaken t ordered [] os vs → are_few vs ≡ true
few_items t ordered os vs law short taken = le-leb (item_count vs) 4294967295 (omega (arith, short, ap length taken.all, count_octets t vs taken.encodings law taken.fit taken.encoded))

items_again : (t : AbstractType) (ordered : Bool) (at : ℕ) (os : List ℕ) (vs : Items) (es : List (List ℕ)) → LawfulType t → every_fits (fits t) vs ≡ true → item_encodings (der t) vs ≡ Some es → (not ordered || ascend_from [] es) ≡ true → joined es ≡ os
    → Read t ordered (length os) 0 [] at os ≡ Ok vs
items_again t ordered at os vs es law fit encoded up all =
    let left : ℕ = length os - item_count vs in
    let from : ℕ = at + length (joined es) in
    let more : length os ≡ item_count vs + left = omega (arith, ap length all, count_octets t vs es law fit encoded) in
    items_through t ordered vs es (length os) left 0 (item_count vs) at from [] os [] law fit encoded up more (omega arith) refl (sym all ∙ sym (append-nil (joined es)))
    ∙ ap (prefixed vs) (items_end left ordered (λ tag. begins_with t tag) (element_at t) (item_count vs) (last_behind [] es) from)
    ∙ ap (λ (ws : Items). Ok ws) (append_none vs)

contents_items : (t : AbstractType) (vs : Items) (os : List ℕ) → contents_octets (type.sequence_of t) (value.items vs) ≡ Some os → (es : List (List ℕ)) × (item_encodings (der t) vs ≡ Some es) × (joined es ≡ os)
contents_items t vs os e = let a = option_parts (item_encodings (der t) vs) (λ es. Some (joined es)) os e in (a.0, a.1, same_Some (joined a.0) os a.2)

items_contents : (t : AbstractType) (vs : Items) (os : List ℕ) (es : List (List ℕ)) → item_encodings (der t) vs ≡ Some es → joined es ≡ os → contents_octets (type.sequence_of t) (value.items vs) ≡ Some os
items_contents t vs os es e all = rw e (ap (λ (os : List ℕ). Some os) all)

pub alone_paths : (ordered : Bool) (wanted : Tag → Bool) (read : Reader) (deep : ℕ) (before : List ℕ) (at : ℕ) (os : List ℕ) (b : AbstractBreach) → 1 ≤ deep → ((at : ℕ) (h : Head) (os : List ℕ) (b : AbstractBreach) → read at h os ≡ Err b → length b.path < deep)
    → AloneErr ordered wanted read before at os b → length b.path < deep
alone_paths ordered wanted read deep before at os b some inner (inl (d, not_due, is)) = omega (arith, some, ap (λ (b : AbstractBreach). length b.path) is)
alone_paths ordered wanted read deep before at os b some inner (inr (inl (h, stands, due, wrong))) = inner at h os b wrong
alone_paths ordered wanted read deep before at os b some inner (inr (inr (h, v, stands, due, got, down, is))) = omega (arith, some, ap (λ (b : AbstractBreach). length b.path) is)

-- a path leads into one element
pub items_paths : (tries : ℕ) (ordered : Bool) (wanted : Tag → Bool) (read : Reader) (deep : ℕ) → 1 ≤ deep → ((at : ℕ) (h : Head) (os : List ℕ) (b : AbstractBreach) → read at h os ≡ Err b → length b.path < deep)
    → (i at : ℕ) (before os : List ℕ) (b : AbstractBreach) → items_at tries ordered wanted read i before at os ≡ Err b → length b.path ≤ deep
unfolding items_at
items_paths zero ordered wanted read deep some inner i at before [] b e = absurd cc
items_paths (suc tries) ordered wanted read deep some inner i at before [] b e = absurd cc
items_paths zero ordered wanted read deep some inner i at before (o ∷ os) b e = omega (arith, ap (λ (b : AbstractBreach). length b.path) (same_Err {A = Items} (fault code.UnexpectedTag at) b e))
items_paths (suc tries) ordered wanted read deep some inner i at before (o ∷ os) b e =
    elim (bind_err (item_at ordered wanted read i before at (o ∷ os)) (λ x. items_at tries ordered wanted read (suc i) (take x.1 (o ∷ os)) (at + x.1) (drop x.1 (o ∷ os)) >>= λ vs. Ok (value.item x.0 vs)) b e) [
      | inl wrong ↦
          let c = item_err ordered wanted read i before at (o ∷ os) b wrong in
          omega (arith, ap (λ (b : AbstractBreach). length b.path) c.2, alone_paths ordered wanted read deep before at (o ∷ os) c.0 some inner (alone_err ordered wanted read before at (o ∷ os) c.0 c.1))
      | inr (x, one, rest) ↦ elim (bind_err (items_at tries ordered wanted read (suc i) (take x.1 (o ∷ os)) (at + x.1) (drop x.1 (o ∷ os))) (λ vs. Ok (value.item x.0 vs)) b rest) [
        | inl others ↦ items_paths tries ordered wanted read deep some inner (suc i) (at + x.1) (take x.1 (o ∷ os)) (drop x.1 (o ∷ os)) b others
        | inr (vs, all, none) ↦ absurd cc
      ]
    ]

-- ---- the laws

abbrev LawfulItems : Bool → AbstractType → Type 0
LawfulItems false t = LawfulBody (λ v. fits_kind (type.sequence_of t) v) (λ v. contents_octets (type.sequence_of t) v) (contents_at (type.sequence_of t)) (λ size os b. FaultInContents (type.sequence_of t) size os b) (nesting t)
LawfulItems true t = LawfulBody (λ v. fits_kind (type.set_of t) v) (λ v. contents_octets (type.set_of t) v) (contents_at (type.set_of t)) (λ size os b. FaultInContents (type.set_of t) size os b) (nesting t)

sequence_takes : (t : AbstractType) → LawfulType t → (at start : ℕ) (os : List ℕ) (v : AbstractValue) → AreDigits 256 os → length os < 2 ^ 32 → contents_at (type.sequence_of t) at start os ≡ Ok v
    → IsTrue (fits_kind (type.sequence_of t) v) × (contents_octets (type.sequence_of t) v ≡ Some os)
unfolding contents_at
sequence_takes t law at start os v digits short e =
    let r = items_ok (Read t false (length os) 0 [] start os) v e in
    let taken = items_takes (length os) t false 0 [] start os r.0 law digits r.1 in
    rw (← r.2) (and_from (are_few r.0) (every_fits (fits t) r.0) (few_items t false os r.0 law short taken) taken.fit, items_contents t r.0 os taken.encodings taken.encoded taken.all)

set_takes : (t : AbstractType) → LawfulType t → (at start : ℕ) (os : List ℕ) (v : AbstractValue) → AreDigits 256 os → length os < 2 ^ 32 → contents_at (type.set_of t) at start os ≡ Ok v
    → IsTrue (fits_kind (type.set_of t) v) × (contents_octets (type.set_of t) v ≡ Some os)
unfolding contents_at
set_takes t law at start os v digits short e =
    let r = items_ok (Read t true (length os) 0 [] start os) v e in
    let taken = items_takes (length os) t true 0 [] start os r.0 law digits r.1 in
    let few = and_from (are_few r.0) (every_fits (fits t) r.0) (few_items t true os r.0 law short taken) taken.fit in
    let up : are_ascending (item_encodings (der t) r.0) ≡ true = ap are_ascending taken.encoded ∙ taken.ascend in
    rw (← r.2) (and_from (are_few r.0 && every_fits (fits t) r.0) (are_ascending (item_encodings (der t) r.0)) few up, items_contents t r.0 os taken.encodings taken.encoded taken.all)

sequence_again : (t : AbstractType) → LawfulType t → (at start : ℕ) (os : List ℕ) (v : AbstractValue) → IsTrue (fits_kind (type.sequence_of t) v) → contents_octets (type.sequence_of t) v ≡ Some os → contents_at (type.sequence_of t) at start os ≡ Ok v
unfolding contents_at
sequence_again t law at start os (value.items vs) fit e =
    let c = contents_items t vs os e in
    ap items_read (items_again t false start os vs c.0 law (and_parts (are_few vs) (every_fits (fits t) vs) fit).1 c.1 refl c.2)
sequence_again t law at start os v fit e = absurd cc

set_again : (t : AbstractType) → LawfulType t → (at start : ℕ) (os : List ℕ) (v : AbstractValue) → IsTrue (fits_kind (type.set_of t) v) → contents_octets (type.set_of t) v ≡ Some os → contents_at (type.set_of t) at start os ≡ Ok v
unfolding contents_at
set_again t law at start os (value.items vs) fit e =
    let c = contents_items t vs os e in
    let p = and_parts (are_few vs && every_fits (fits t) vs) (are_ascending (item_encodings (der t) vs)) fit in
    let up : ascend_from [] c.0 ≡ true = sym (ap are_ascending c.1) ∙ p.1 in
    ap items_read (items_again t true start os vs c.0 law (and_parts (are_few vs) (every_fits (fits t) vs) p.0).1 c.1 up c.2)
set_again t law at start os v fit e = absurd cc

-- what was found from the front of the contents on, as it is defined
fault_from : (t : AbstractType) (ordered : Bool) (vs : Items) (es : List (List ℕ)) (rest : List ℕ) (c : AbstractBreach) → ItemFault t ordered (λ os b. FaultIn t os b) (0 + item_count vs) (last_behind [] es) rest c
    → ItemFault t ordered (λ os b. FaultIn t os b) (item_count vs) (last_of es) rest c
fault_from t ordered vs es rest c found =
    let place : 0 + item_count vs ≡ item_count vs = omega arith in
    subst (λ (x : List ℕ). ItemFault t ordered (λ os b. FaultIn t os b) (item_count vs) x rest c) (last_of_all es) (subst (λ (k : ℕ). ItemFault t ordered (λ os b. FaultIn t os b) k (last_behind [] es) rest c) place found)

seen_from : (at size n : ℕ) (b c : AbstractBreach) → b ≡ after (at + size + n) c → b ≡ after at (after (size + n) c)
seen_from at size n b c e =
    let offset : at + size + n ≡ at + (size + n) = omega arith in
    e ∙ ap (λ (n : ℕ). after n c) offset ∙ after_after at (size + n) c

sequence_fault : (t : AbstractType) → LawfulType t → (at size : ℕ) (os : List ℕ) (b : AbstractBreach) → AreDigits 256 os → length os < 2 ^ 32 → contents_at (type.sequence_of t) at (at + size) os ≡ Err b
    → Found (λ os b. FaultInContents (type.sequence_of t) size os b) at os b
unfolding contents_at
sequence_fault t law at size os b digits short e =
    let f = items_fault (length os) t false 0 (at + size) [] os b law digits (omega arith) (items_err (Read t false (length os) 0 [] (at + size) os) b e) in
    record {
      inner = after (size + length (joined f.encodings)) f.inner;
      found = (f.passed, f.encodings, f.rest, f.inner, f.parts, (f.fit, f.encoded, f.ascend), fault_from t false f.passed f.encodings f.rest f.inner f.found, refl);
      seen = seen_from at size (length (joined f.encodings)) b f.inner f.seen;
    }

set_fault : (t : AbstractType) → LawfulType t → (at size : ℕ) (os : List ℕ) (b : AbstractBreach) → AreDigits 256 os → length os < 2 ^ 32 → contents_at (type.set_of t) at (at + size) os ≡ Err b
    → Found (λ os b. FaultInContents (type.set_of t) size os b) at os b
unfolding contents_at
set_fault t law at size os b digits short e =
    let f = items_fault (length os) t true 0 (at + size) [] os b law digits (omega arith) (items_err (Read t true (length os) 0 [] (at + size) os) b e) in
    record {
      inner = after (size + length (joined f.encodings)) f.inner;
      found = (f.passed, f.encodings, f.rest, f.inner, f.parts, (f.fit, f.encoded, f.ascend), fault_from t true f.passed f.encodings f.rest f.inner f.found, refl);
      seen = seen_from at size (length (joined f.encodings)) b f.inner f.seen;
    }

sequence_found : (t : AbstractType) → LawfulType t → (at size : ℕ) (os : List ℕ) (c : AbstractBreach) → FaultInContents (type.sequence_of t) size os c → contents_at (type.sequence_of t) at (at + size) os ≡ Err (after at c)
unfolding contents_at
sequence_found t law at size os c (vs, es, rest, d, parts, (fit, encoded, up), found, is) =
    ap items_read (items_found t false (at + size) os vs es rest d law parts fit encoded up found)
    ∙ ap (λ (b : AbstractBreach). Err b) (seen_from at size (length (joined es)) (after (at + size + length (joined es)) d) d refl ∙ ap (after at) (sym is))

set_found : (t : AbstractType) → LawfulType t → (at size : ℕ) (os : List ℕ) (c : AbstractBreach) → FaultInContents (type.set_of t) size os c → contents_at (type.set_of t) at (at + size) os ≡ Err (after at c)
unfolding contents_at
set_found t law at size os c (vs, es, rest, d, parts, (fit, encoded, up), found, is) =
    ap items_read (items_found t true (at + size) os vs es rest d law parts fit encoded up found)
    ∙ ap (λ (b : AbstractBreach). Err b) (seen_from at size (length (joined es)) (after (at + size + length (joined es)) d) d refl ∙ ap (after at) (sym is))

paths_of : (t : AbstractType) (ordered : Bool) (start : ℕ) (os : List ℕ) (b : AbstractBreach) → LawfulType t → 1 ≤ nesting t → items_read (Read t ordered (length os) 0 [] start os) ≡ Err b → length b.path ≤ nesting t
paths_of t ordered start os b law some e =
    items_paths (length os) ordered (λ tag. begins_with t tag) (element_at t) (nesting t) some law.paths 0 start [] os b (items_err (Read t ordered (length os) 0 [] start os) b e)

pub items_lawful : (ordered : Bool) (t : AbstractType) → LawfulType t → 1 ≤ nesting t → LawfulItems ordered t
unfolding contents_at
items_lawful false t law some = record {
  takes = sequence_takes t law;
  again = sequence_again t law;
  fault = sequence_fault t law;
  found = sequence_found t law;
  paths = λ at start os b e. paths_of t false start os b law some e;
}
items_lawful true t law some = record {
  takes = set_takes t law;
  again = set_again t law;
  fault = set_fault t law;
  found = set_found t law;
  paths = λ at start os b e. paths_of t true start os b law some e;
}
