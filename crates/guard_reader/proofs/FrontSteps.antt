-- What is at the front of octets is within them.
use Rattle.std.proofs.Common.{◌≡◌, ℕ, zero, suc, ◌+◌, ◌-◌, ◌*◌, ◌%◌, ◌<◌, ◌≤◌, Bool, eqb, ltb, cond, List, [], ◌∷◌, length, take, drop, Option, Some, None, Result, Ok, Err, refl, ap, arith, inl, inr, length-drop, length-take}
use Rattle.std.specs.Prelude.{nat_le}
use Rattle.std.proofs.lemmas.Bool.{ne_eqb}
use Rattle.guard_model.specs.declared.tag.Tag.{Tag}
use Rattle.guard_model.specs.Tags.{same_tag}
use Rattle.guard_model.proofs.Results.{bind_ok, same_Ok}
use Rattle.guard_model.proofs.Tests.{chosen}
use Rattle.guard_der.specs.declared.breach.Code.{Code}
use Rattle.guard_der.specs.declared.breach.Code.TheVariants as code
use Rattle.guard_der.specs.Head.{Head, class_of, number_from, high_number, tag_number, length_at, head_of}
use Rattle.guard_der.specs.Reading.{same_form}
use Rattle.guard_tables.specs.NodeViews.{outer_form, identifier_of, other_of}
use Rattle.guard_tables.specs.Plan.{Plan, Body, Parts, plan, simple, series, set, choice, list, set_of, asked, formula, no_parts, part}
use Rattle.guard_reader.specs.Fronts.{Front, here, elsewhere, broken, front_cut, octet_front, front_headed, head_front, far_front, tagged_front, front_of, all_inside, or_front, front, body_front, parts_front}
use Rattle.guard_reader.specs.Octets.{split}
use Rattle.guard_reader.proofs.Elements.{after_length, within}

-- ---- headers

number_shorter : (tries n : ℕ) (os : List ℕ) (r : ℕ × List ℕ) → number_from tries n os ≡ Ok r → length r.1 ≤ length os
unfolding number_from
number_shorter zero n [] r e = absurd cc
number_shorter (suc tries) n [] r e = absurd cc
number_shorter zero n (o ∷ os) r e = absurd cc
number_shorter (suc tries) n (o ∷ os) r e =
    let last : ℕ × List ℕ = (n * 128 + o, os) in
    elim (chosen (ltb o 128) (Ok last) (number_from tries (n * 128 + (o - 128)) os) (Ok r) e) [
      | inl low ↦ let is : last ≡ r = same_Ok {F = Code} last r low.1 in omega (arith, ap (λ (p : ℕ × List ℕ). length p.1) is)
      | inr more ↦ omega (arith, number_shorter tries (n * 128 + (o - 128)) os r more.1)
    ]

high_shorter : (os : List ℕ) (r : ℕ × List ℕ) → high_number os ≡ Ok r → length r.1 ≤ length os
unfolding high_number
high_shorter [] r e = absurd cc
high_shorter (o ∷ os) r e =
    elim (chosen (eqb o 128) (Err code.TagForm) _ (Ok r) e) [
      | inl padded ↦ absurd cc
      | inr high ↦
          let a = bind_ok (number_from 4 0 (o ∷ os)) (λ r. cond (ltb r.0 31) (Err code.TagForm) (Ok r)) r high.1 in
          elim (chosen (ltb a.0.0 31) (Err code.TagForm) (Ok a.0) (Ok r) a.2) [
            | inl low ↦ absurd cc
            | inr room ↦ let is : a.0 ≡ r = same_Ok {F = Code} a.0 r room.1 in omega (arith, ap (λ (p : ℕ × List ℕ). length p.1) is, number_shorter 4 0 (o ∷ os) a.0 a.1)
          ]
    ]

tag_shorter : (low : ℕ) (os : List ℕ) (r : ℕ × List ℕ) → tag_number low os ≡ Ok r → length r.1 ≤ length os
unfolding tag_number
tag_shorter low os r e =
    let one : ℕ × List ℕ = (low, os) in
    elim (chosen (ltb low 31) (Ok one) (high_number os) (Ok r) e) [
      | inl small ↦ let is : one ≡ r = same_Ok {F = Code} one r small.1 in omega (arith, ap (λ (p : ℕ × List ℕ). length p.1) is)
      | inr high ↦ high_shorter os r high.1
    ]

head_some : (o : ℕ) (os : List ℕ) (h : Head) → head_of (o ∷ os) ≡ Ok h → 1 ≤ h.size
unfolding head_of
head_some o os h e =
    let a = bind_ok (tag_number (o % 32) os) _ h e in
    let b = bind_ok (length_at a.0.1) _ h a.2 in
    let is : Head = record { tag = record { class = class_of o; number = a.0.0 }; constructed = nat_le 32 (o % 64); size = length (o ∷ os) - length b.0.1; contents = b.0.0 } in
    elim (chosen (ltb (length b.0.1) b.0.0) (Err code.Truncated) (Ok is) (Ok h) b.2) [
      | inl short ↦ absurd cc
      | inr room ↦
          let same : is ≡ h = same_Ok {F = Code} is h room.1 in
          omega (arith, ap (λ (h : Head). h.size) same, tag_shorter (o % 32) os a.0 a.1, after_length a.0.1 b.0 b.1)
    ]

-- ---- by an octet, by a header

-- what is inside an element and what follows it, of these octets
pub record Within (os inside rest : List ℕ) : Type 0 where
  pub inside_room : length inside ≤ length os
  pub rest_room : length rest < length os

same_inside : (a b inside rest : List ℕ) → here a b ≡ here inside rest → (a ≡ inside) × (b ≡ rest)
same_inside a b inside rest e = (cc, cc)

cut_here : (r : Option (List ℕ × List ℕ)) (inside rest : List ℕ) → front_cut r ≡ here inside rest → r ≡ Some (inside, rest)
cut_here None inside rest e = absurd cc
cut_here (Some (a, b)) inside rest e = let s = same_inside a b inside rest e in rw (s.0, s.1) refl

octet_within : (identifier other : ℕ) (os inside rest : List ℕ) → octet_front identifier other os ≡ here inside rest → Within os inside rest
unfolding octet_front
octet_within identifier other [] inside rest e = absurd cc
octet_within identifier other (o ∷ os) inside rest e =
    elim (chosen (eqb o identifier) (front_cut (split os)) (cond (eqb o other) broken elsewhere) (here inside rest) e) [
      | inl there ↦
          let w = within (o ∷ os) inside rest (ne_eqb (suc (length os)) 0 (λ e. absurd (omega (arith, e)))) (cut_here (split os) inside rest there.1) in
          record { inside_room = omega (arith, w.0); rest_room = w.1 }
      | inr not_there ↦ elim (chosen (eqb o other) broken elsewhere (here inside rest) not_there.1) [ inl bad ↦ absurd cc | inr far ↦ absurd cc ]
    ]

headed_within : (t : Tag) (c : Bool) (o : ℕ) (os : List ℕ) (r : Result Head Code) (inside rest : List ℕ) → head_of (o ∷ os) ≡ r → front_headed t c (o ∷ os) r ≡ here inside rest → Within (o ∷ os) inside rest
headed_within t c o os (Err k) inside rest is e = absurd cc
headed_within t c o os (Ok h) inside rest is e =
    elim (chosen (same_tag t h.tag) _ elsewhere (here inside rest) e) [
      | inr other ↦ absurd cc
      | inl there ↦ elim (chosen (same_form h.constructed c) _ broken (here inside rest) there.1) [
        | inr turned ↦ absurd cc
        | inl found ↦
            let s = same_inside (take h.contents (drop h.size (o ∷ os))) (drop (h.size + h.contents) (o ∷ os)) inside rest found.1 in
            record {
              inside_room = omega (arith, ap length s.0, length-take h.contents (drop h.size (o ∷ os)), length-drop h.size (o ∷ os));
              rest_room = omega (arith, ap length s.1, length-drop (h.size + h.contents) (o ∷ os), head_some o os h is);
            }
      ]
    ]

head_within : (t : Tag) (c : Bool) (os inside rest : List ℕ) → head_front t c os ≡ here inside rest → Within os inside rest
unfolding head_front
head_within t c [] inside rest e = absurd cc
head_within t c (o ∷ os) inside rest e = headed_within t c o os (head_of (o ∷ os)) inside rest refl e

-- ---- by a plan

-- wherever an element is found, it is within the octets
abbrev IsWithin : List ℕ → Front → Type 0
IsWithin os f = (inside rest : List ℕ) → f ≡ here inside rest → Within os inside rest

far_within : (tags : List Tag) (c : Bool) (os : List ℕ) (untagged : Front) → IsWithin os untagged → IsWithin os (far_front tags c os untagged)
far_within [] c os untagged w inside rest e = w inside rest e
far_within (t ∷ ts) c os untagged w inside rest e = head_within t (outer_form ts c) os inside rest e

tagged_within : (tags : List Tag) (c : Bool) (os : List ℕ) (untagged : Front) → IsWithin os untagged → IsWithin os (tagged_front tags c os untagged)
unfolding tagged_front
tagged_within tags c os untagged w inside rest e =
    elim (chosen (eqb (identifier_of tags c) 256) (far_front tags c os untagged) (octet_front (identifier_of tags c) (other_of tags c) os) (here inside rest) e) [
      | inl far ↦ far_within tags c os untagged w inside rest far.1
      | inr near ↦ octet_within (identifier_of tags c) (other_of tags c) os inside rest near.1
    ]

all_within : (os : List ℕ) (f : Front) → IsWithin os f → IsWithin os (all_inside os f)
all_within os elsewhere w inside rest e = absurd cc
all_within os broken w inside rest e = absurd cc
all_within os (here a b) w inside rest e =
    let s = same_inside (front_of os b) b inside rest e in
    let one = w a b refl in
    record { inside_room = omega (arith, ap length s.0, length-take (length os - length b) os); rest_room = omega (arith, ap length s.1, one.rest_room) }

or_within : (os : List ℕ) (f later : Front) → IsWithin os f → IsWithin os later → IsWithin os (or_front f later)
or_within os (here a b) later w l inside rest e = w inside rest e
or_within os elsewhere later w l inside rest e = l inside rest e
or_within os broken later w l inside rest e = absurd cc

mutual
  unfolding front

  plan_within : (p : Plan) (os : List ℕ) → IsWithin os (front p os)
  plan_within (plan tags c b) os = tagged_within tags c os (body_front b os) (body_within b os)

  body_within : (b : Body) (os : List ℕ) → IsWithin os (body_front b os)
  body_within (choice ps) os = all_within os (parts_front ps os) (parts_within ps os)
  body_within (asked cs b) os = body_within b os
  body_within (formula rs b) os = body_within b os
  body_within (simple k cs) os = λ inside rest e. absurd cc
  body_within (series ps) os = λ inside rest e. absurd cc
  body_within (set ps) os = λ inside rest e. absurd cc
  body_within (list p) os = λ inside rest e. absurd cc
  body_within (set_of p) os = λ inside rest e. absurd cc

  parts_within : (ps : Parts) (os : List ℕ) → IsWithin os (parts_front ps os)
  parts_within no_parts os = λ inside rest e. absurd cc
  parts_within (part side p ps) os = or_within os (front p os) (parts_front ps os) (plan_within p os) (parts_within ps os)

pub front_within : (p : Plan) (os inside rest : List ℕ) → front p os ≡ here inside rest → Within os inside rest
front_within p os inside rest e = plan_within p os inside rest e
