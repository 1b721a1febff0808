-- Reading the contents of a SET element by element: through those that were sent, and from what was read.
use Rattle.std.proofs.Common.{◌≡◌, ◌≢◌, ℕ, zero, suc, ◌+◌, ◌≤◌, true, List, [], ◌∷◌, ◌++◌, length, take, drop, Some, None, Result, Ok, Err, refl, sym, ap, subst, ◌∙◌, append_assoc, arith, inl, inr}
use Rattle.std.specs.Prelude.{◌⊎◌}
use Rattle.std.proofs.lemmas.List.{append-nil, length-append, length-take, length-drop, drop_at, take-append-drop}
use Rattle.guard_model.specs.declared.tag.Tag.{Tag}
use Rattle.guard_model.specs.AbstractType.{Components}
use Rattle.guard_model.specs.AbstractValue.{AbstractValue, Fields}
use Rattle.guard_der.specs.Head.{Head, head_of}
use Rattle.guard_der.specs.Der.{alternative_octets}
use Rattle.guard_der.specs.Fits.{fits_alternative}
use Rattle.guard_der.specs.Breach.{AbstractBreach}
use Rattle.guard_model.specs.Slots.{all_absent}
use Rattle.guard_der.specs.Reading.{fill, follows, set_element_at, completed, set_at, part_at}
use Rattle.guard_der.proofs.Numbers.Digits.{AreDigits}
use Rattle.guard_der.proofs.Headers.TagsAndLengths.{digits_drop}
use Rattle.guard_der.proofs.Headers.Offsets.{head_room}
use Rattle.guard_der.proofs.Components.OneComponent.{none_stands}
use Rattle.guard_der.proofs.Components.DistinctTags.{all_differ}
use Rattle.guard_der.proofs.Components.ByTag.{AllLawful, part_lawful, with_tag, tag_again, within_fits}
use Rattle.guard_der.proofs.Sets.ReadElements.{ReadElement, element_tag, read_fields, last_tag, octets_read, IsNext, AreReadInOrder}
use Rattle.guard_der.proofs.Sets.OneElement.{PlacedElement, ElementOk, set_element_ok, set_element_reads, place_free}
use Rattle.guard_model.proofs.Results.{bind_ok, bind_err}

-- ---- one element more

not_empty : (os : List ℕ) (h : Head) → head_of (os ++ []) ≡ Ok h → 1 ≤ length os
not_empty [] h e = absurd (none_stands h e)
not_empty (o ∷ os) h e = omega arith

-- an element has octets
some_octets : (cs : Components) (j : ℕ) (v : AbstractValue) (octets : List ℕ) → AllLawful cs → fits_alternative cs j v ≡ true → alternative_octets cs j v ≡ Some octets → 1 ≤ length octets
some_octets cs j v octets laws fit e = let a = (part_lawful cs j laws (within_fits cs j v fit)).again 0 v octets [] fit e in not_empty octets a.header a.stands

abbrev pub rest_at : ℕ → Components → List ReadElement → ℕ → List ℕ → Result Fields AbstractBreach
rest_at n cs es at os = set_at n cs (part_at cs) (read_fields cs es) (last_tag cs es) at os

-- the state in which the octets after the elements are read
pub record Behind (cs : Components) (n at : ℕ) (es : List ReadElement) (rest : List ℕ) : Type 0 where
  pub tries : ℕ
  pub enough : length rest ≤ tries
  pub same : set_at n cs (part_at cs) (all_absent cs) None at (octets_read es ++ rest) ≡ rest_at tries cs es (at + length (octets_read es)) rest

step_on : (n : ℕ) (cs : Components) (es : List ReadElement) (at : ℕ) (os rest : List ℕ) (v : AbstractValue) (j : ℕ) (h : Head) (front : List ℕ)
    → os ≡ front ++ rest → 1 ≤ length front → h.size + h.contents ≡ length front → length os ≤ suc n → set_element_at cs (part_at cs) (read_fields cs es) (last_tag cs es) at os ≡ Ok (j, v, h)
    → set_at (suc n) cs (part_at cs) (read_fields cs es) (last_tag cs es) at os ≡ set_at n cs (part_at cs) (fill j v (read_fields cs es)) (Some h.tag) (at + length front) rest
unfolding set_at
step_on n cs es at [] rest v j h front is some size enough e = absurd (omega (arith, ap length is, length-append front rest, some))
step_on n cs es at (o ∷ os) rest v j h front is some size enough e =
    let behind : drop (length front) (o ∷ os) ≡ rest = ap (drop (length front)) is ∙ drop_at front rest (length front) refl in
    rw e (ap (λ (k : ℕ). set_at n cs (part_at cs) (fill j v (read_fields cs es)) (Some h.tag) (at + k) (drop k (o ∷ os))) size
    ∙ ap (set_at n cs (part_at cs) (fill j v (read_fields cs es)) (Some h.tag) (at + length front)) behind)

read_next : (cs : Components) (es : List ReadElement) (e : ReadElement) (at : ℕ) (rest : List ℕ) → AllLawful cs → all_differ cs ≡ true → IsNext cs (read_fields cs es) (last_tag cs es) e
    → (h : Head) × (h.tag ≡ element_tag cs e) × (h.size + h.contents ≡ length e.octets) × (set_element_at cs (part_at cs) (read_fields cs es) (last_tag cs es) at (e.octets ++ rest) ≡ Ok (e.place, e.value, h))
read_next cs es e at rest laws distinct next =
    let a = (part_lawful cs e.place laws (within_fits cs e.place e.value next.fits)).again at e.value e.octets rest next.fits next.encoded in
    let found = tag_again cs e.place a.header.tag distinct a.due in
    let later : follows (last_tag cs es) a.header.tag ≡ true = ap (follows (last_tag cs es)) a.tag_is ∙ next.follows in (
      a.header,
      a.tag_is,
      a.size,
      set_element_reads cs (part_at cs) (read_fields cs es) (last_tag cs es) at (e.octets ++ rest) a.header e.place e.value a.stands (place_free cs (read_fields cs es) (last_tag cs es) at a.header.tag e.place found later next.free) a.read next.kept,
    )

behind_one : (cs : Components) (n at : ℕ) (e : ReadElement) (es : List ReadElement) (rest : List ℕ) → AllLawful cs → all_differ cs ≡ true → IsNext cs (read_fields cs es) (last_tag cs es) e
    → Behind cs n at es (e.octets ++ rest) → (tries : ℕ) → length (e.octets ++ rest) ≤ tries
    → set_at n cs (part_at cs) (all_absent cs) None at (octets_read es ++ (e.octets ++ rest)) ≡ rest_at tries cs es (at + length (octets_read es)) (e.octets ++ rest) → Behind cs n at (e ∷ es) rest
behind_one cs n at e es rest laws distinct next b zero enough same =
    absurd (omega (arith, enough, length-append e.octets rest, some_octets cs e.place e.value e.octets laws next.fits next.encoded))
behind_one cs n at e es rest laws distinct next b (suc tries) enough same =
    let some = some_octets cs e.place e.value e.octets laws next.fits next.encoded in
    let r = read_next cs es e (at + length (octets_read es)) rest laws distinct next in
    let on = step_on tries cs es (at + length (octets_read es)) (e.octets ++ rest) rest e.value e.place r.0 e.octets refl some r.2 enough r.3 in
    let offset : at + length (octets_read es) + length e.octets ≡ at + length (octets_read es ++ e.octets) = omega (arith, length-append (octets_read es) e.octets) in
    record {
      tries = tries;
      enough = omega (arith, enough, length-append e.octets rest, some);
      same = ap (set_at n cs (part_at cs) (all_absent cs) None at) (append_assoc (octets_read es) e.octets rest) ∙ same ∙ on
          ∙ ap (λ (t : Tag). set_at tries cs (part_at cs) (read_fields cs (e ∷ es)) (Some t) (at + length (octets_read es) + length e.octets) rest) r.1
          ∙ ap (λ (k : ℕ). rest_at tries cs (e ∷ es) k rest) offset;
    }

-- the elements are read one after the other
pub through : (cs : Components) (n at : ℕ) (es : List ReadElement) (rest : List ℕ) → AllLawful cs → all_differ cs ≡ true → AreReadInOrder cs es → length (octets_read es ++ rest) ≤ n → Behind cs n at es rest
through cs n at [] rest laws distinct in_order enough =
    let offset : at ≡ at + length (octets_read []) = omega arith in
    record { tries = n; enough = enough; same = ap (λ (k : ℕ). rest_at n cs [] k rest) offset }
through cs n at (e ∷ es) rest laws distinct in_order enough =
    let b = through cs n at es (e.octets ++ rest) laws distinct in_order.0 (omega (arith, enough, ap length (append_assoc (octets_read es) e.octets rest))) in
    behind_one cs n at e es rest laws distinct in_order.1 b b.tries b.enough b.same

-- ---- what is read was sent

abbrev element_of : PlacedElement → List ℕ → ReadElement
element_of x os = record { place = x.0; value = x.1; octets = take (x.2.size + x.2.contents) os }

record NextRead (cs : Components) (es : List ReadElement) (os : List ℕ) (x : PlacedElement) : Type 0 where
  next : IsNext cs (read_fields cs es) (last_tag cs es) (element_of x os)
  tag : element_tag cs (element_of x os) ≡ x.2.tag
  some : 1 ≤ length (take (x.2.size + x.2.contents) os)
  room : x.2.size + x.2.contents ≤ length os

next_read : (cs : Components) (es : List ReadElement) (at : ℕ) (os : List ℕ) (x : PlacedElement) → AreDigits 256 os → AllLawful cs → ElementOk cs (part_at cs) (read_fields cs es) (last_tag cs es) at os x → NextRead cs es os x
next_read cs es at os x digits laws m =
    let w = with_tag cs x.2.tag x.0 m.found in
    let t = (part_lawful cs x.0 laws w.0).takes at x.2 os x.1 digits m.stands w.1 m.gives in
    record {
      next = record { fits = t.fits; encoded = t.encoded; kept = m.kept; free = m.free; follows = ap (follows (last_tag cs es)) t.tag ∙ m.after };
      tag = t.tag;
      some = some_octets cs x.0 x.1 (take (x.2.size + x.2.contents) os) laws t.fits t.encoded;
      room = head_room os x.2 digits m.stands;
    }

-- reading ended well, with these elements
pub record ReadWell (cs : Components) (es : List ReadElement) (at : ℕ) (os : List ℕ) (fs : Fields) : Type 0 where
  pub elements : List ReadElement
  pub in_order : AreReadInOrder cs elements
  pub octets : octets_read elements ≡ octets_read es ++ os
  pub ended : completed 0 cs (read_fields cs elements) (at + length os) ≡ Ok fs

abbrev state_after : ℕ → Components → List ReadElement → PlacedElement → ℕ → List ℕ → Result Fields AbstractBreach
state_after n cs es x at os = set_at n cs (part_at cs) (fill x.0 x.1 (read_fields cs es)) (Some x.2.tag) (at + (x.2.size + x.2.contents)) (drop (x.2.size + x.2.contents) os)

same_state : (n : ℕ) (cs : Components) (es : List ReadElement) (x : PlacedElement) (at : ℕ) (os : List ℕ) → element_tag cs (element_of x os) ≡ x.2.tag
    → rest_at n cs (element_of x os ∷ es) (at + (x.2.size + x.2.contents)) (drop (x.2.size + x.2.contents) os) ≡ state_after n cs es x at os
same_state n cs es x at os e = ap (λ (t : Tag). set_at n cs (part_at cs) (fill x.0 x.1 (read_fields cs es)) (Some t) (at + (x.2.size + x.2.contents)) (drop (x.2.size + x.2.contents) os)) e

whole_again : (es : List ReadElement) (k : ℕ) (os front : List ℕ) → (octets_read es ++ take k os) ++ front ≡ octets_read es ++ (take k os ++ front)
whole_again es k os front = append_assoc (octets_read es) (take k os) front

ends_later : (at k : ℕ) (os : List ℕ) → k ≤ length os → at + k + length (drop k os) ≡ at + length os
ends_later at k os room = omega (arith, room, length-drop k os)

pub well : (n : ℕ) (cs : Components) (es : List ReadElement) (at : ℕ) (os : List ℕ) (fs : Fields) → AreDigits 256 os → AllLawful cs → AreReadInOrder cs es → rest_at n cs es at os ≡ Ok fs → ReadWell cs es at os fs
unfolding set_at
well n cs es at [] fs digits laws in_order e =
    let offset : at + 0 ≡ at = omega arith in
    record { elements = es; in_order = in_order; octets = sym (append-nil (octets_read es)); ended = ap (completed 0 cs (read_fields cs es)) offset ∙ e }
well zero cs es at (o ∷ os) fs digits laws in_order e = absurd cc
well (suc n) cs es at (o ∷ os) fs digits laws in_order e =
    let a = bind_ok (set_element_at cs (part_at cs) (read_fields cs es) (last_tag cs es) at (o ∷ os)) (λ x. state_after n cs es x at (o ∷ os)) fs e in
    let k = a.0.2.size + a.0.2.contents in
    let r = next_read cs es at (o ∷ os) a.0 digits laws (set_element_ok cs (part_at cs) (read_fields cs es) (last_tag cs es) at (o ∷ os) a.0 a.1) in
    let w = well n cs (element_of a.0 (o ∷ os) ∷ es) (at + k) (drop k (o ∷ os)) fs (digits_drop k (o ∷ os) digits) laws (in_order, r.next) (same_state n cs es a.0 at (o ∷ os) r.tag ∙ a.2) in
    record {
      elements = w.elements;
      in_order = w.in_order;
      octets = w.octets ∙ whole_again es k (o ∷ os) (drop k (o ∷ os)) ∙ ap (λ (x : List ℕ). octets_read es ++ x) (take-append-drop k (o ∷ os));
      ended = ap (completed 0 cs (read_fields cs w.elements)) (sym (ends_later at k (o ∷ os) r.room)) ∙ w.ended;
    }

abbrev pub FaultHere : Components → List ReadElement → ℕ → List ℕ → AbstractBreach → Type 0
FaultHere cs es at os b = ((os ≡ []) × (completed 0 cs (read_fields cs es) at ≡ Err b)) ⊎ ((os ≢ []) × (set_element_at cs (part_at cs) (read_fields cs es) (last_tag cs es) at os ≡ Err b))

-- reading went on after these elements, and ended there with a fault
pub record ReadBadly (cs : Components) (es : List ReadElement) (at : ℕ) (os : List ℕ) (b : AbstractBreach) : Type 0 where
  pub elements : List ReadElement
  pub front : List ℕ
  pub rest : List ℕ
  pub in_order : AreReadInOrder cs elements
  pub octets : octets_read elements ≡ octets_read es ++ front
  pub are : os ≡ front ++ rest
  pub digits : AreDigits 256 rest
  pub fault : FaultHere cs elements (at + length front) rest b

pub some_list : (o : ℕ) (os : List ℕ) → o ∷ os ≢ []
some_list o os e = absurd cc

ends_here : (cs : Components) (es : List ReadElement) (at : ℕ) (os : List ℕ) (b : AbstractBreach) → AreDigits 256 os → AreReadInOrder cs es → FaultHere cs es at os b → ReadBadly cs es at os b
ends_here cs es at os b digits in_order found =
    let offset : at ≡ at + 0 = omega arith in
    record { elements = es; front = []; rest = os; in_order = in_order; octets = sym (append-nil (octets_read es)); are = refl; digits = digits; fault = subst (λ (k : ℕ). FaultHere cs es k os b) offset found }

pub badly : (n : ℕ) (cs : Components) (es : List ReadElement) (at : ℕ) (os : List ℕ) (b : AbstractBreach) → length os ≤ n → AreDigits 256 os → AllLawful cs → AreReadInOrder cs es → rest_at n cs es at os ≡ Err b → ReadBadly cs es at os b
unfolding set_at
badly n cs es at [] b enough digits laws in_order e = ends_here cs es at [] b digits in_order (inl (refl, e))
badly zero cs es at (o ∷ os) b enough digits laws in_order e = absurd (omega (arith, enough))
badly (suc n) cs es at (o ∷ os) b enough digits laws in_order e =
    elim (bind_err (set_element_at cs (part_at cs) (read_fields cs es) (last_tag cs es) at (o ∷ os)) (λ x. state_after n cs es x at (o ∷ os)) b e) [
      | inl wrong ↦ ends_here cs es at (o ∷ os) b digits in_order (inr (some_list o os, wrong))
      | inr (x, one, more) ↦
          let k = x.2.size + x.2.contents in
          let r = next_read cs es at (o ∷ os) x digits laws (set_element_ok cs (part_at cs) (read_fields cs es) (last_tag cs es) at (o ∷ os) x one) in
          let fewer : length (drop k (o ∷ os)) ≤ n = omega (arith, enough, r.some, length-take k (o ∷ os), length-drop k (o ∷ os)) in
          let w = badly n cs (element_of x (o ∷ os) ∷ es) (at + k) (drop k (o ∷ os)) b fewer (digits_drop k (o ∷ os) digits) laws (in_order, r.next) (same_state n cs es x at (o ∷ os) r.tag ∙ more) in
          let offset : at + k + length w.front ≡ at + length (take k (o ∷ os) ++ w.front) = omega (arith, r.room, length-append (take k (o ∷ os)) w.front, length-take k (o ∷ os)) in
          record {
            elements = w.elements;
            front = take k (o ∷ os) ++ w.front;
            rest = w.rest;
            in_order = w.in_order;
            octets = w.octets ∙ whole_again es k (o ∷ os) w.front;
            are = sym (take-append-drop k (o ∷ os)) ∙ ap (λ (x : List ℕ). take k (o ∷ os) ++ x) w.are ∙ sym (append_assoc (take k (o ∷ os)) w.front w.rest);
            digits = w.digits;
            fault = subst (λ (i : ℕ). FaultHere cs w.elements i w.rest b) offset w.fault;
          }
    ]
