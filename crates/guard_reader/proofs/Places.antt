-- What is at the front of octets where an element with a low tag is due.
use Rattle.std.proofs.Common.{◌≡◌, ℕ, zero, suc, ◌+◌, ◌<◌, Bool, true, false, eqb, List, [], ◌∷◌, take, drop, None, Result, Ok, Err, refl, sym, ap, subst, ◌∙◌, inl, inr}
use Rattle.std.specs.Prelude.{◌⊎◌, not}
use Rattle.std.specs.List.{AllByRecursion}
use Rattle.std.proofs.lemmas.Bool.{cond-true, cond-false, eqb-true, eqb-false}
use Rattle.guard_model.specs.declared.tag.Tag.{Tag}
use Rattle.guard_model.specs.Tags.{same_tag}
use Rattle.guard_model.proofs.Tags.{same_tag_itself}
use Rattle.guard_model.specs.Same.{same}
use Rattle.guard_der.specs.declared.breach.Code.{Code}
use Rattle.guard_der.specs.declared.breach.Code.TheVariants as code
use Rattle.guard_der.specs.Head.{Head, head_of}
use Rattle.guard_der.specs.Reading as read
use Rattle.guard_der.specs.Reading.{Reader, framed, located, fault, same_form, sent_at, inside, not_sent, component_at, missing_at, fields_at, items_at, item_at, item_alone, due_at, contents_at, element_at, tags_at, end_at, field_before, fields_read, items_read, simple_at}
use Rattle.guard_tables.specs.NodeViews.{octet_of}
use Rattle.guard_reader.specs.Octets.{split}
use Rattle.guard_reader.proofs.Fronts.{Found, Whole, there, foreign, form_itself, other_form}

abbrev pub Digits : List ℕ → Type 0
Digits os = AllByRecursion (λ o. o < 256) os

pub digits_drop : (n : ℕ) (os : List ℕ) → Digits os → Digits (drop n os)
digits_drop zero os d = d
digits_drop (suc n) [] d = tt
digits_drop (suc n) (o ∷ os) d = digits_drop n os d.1

pub digits_take : (n : ℕ) (os : List ℕ) → Digits os → Digits (take n os)
digits_take zero os d = tt
digits_take (suc n) [] d = tt
digits_take (suc n) (o ∷ os) d = (d.0, digits_take n os d.1)

-- ---- what is at the front, by the octet there

abbrev pub Bad : ℕ → List ℕ → Type 0
Bad o os = (k : Code) × (head_of (o ∷ os) ≡ Err k)

abbrev pub HasTag : Tag → Bool → ℕ → List ℕ → Type 0
HasTag t b o os = (h : Head) × (head_of (o ∷ os) ≡ Ok h) × (same_tag t h.tag ≡ b)

-- an element of the tag in the other form
abbrev pub IsTurned : Tag → Bool → ℕ → List ℕ → Type 0
IsTurned t c o os = (h : Head) × (head_of (o ∷ os) ≡ Ok h) × (same_tag t h.tag ≡ true) × (same_form h.constructed c ≡ false)

abbrev pub Here : Tag → Bool → ℕ → List ℕ → Type 0
Here t c o os = (eqb o (octet_of t c) ≡ true) × (((split os ≡ None) × Bad o os) ⊎ Found t c o os)

abbrev pub NotHere : Tag → Bool → ℕ → List ℕ → Type 0
NotHere t c o os = (eqb o (octet_of t c) ≡ false) × (((eqb o (octet_of t (not c)) ≡ true) × (Bad o os ⊎ IsTurned t c o os)) ⊎ ((eqb o (octet_of t (not c)) ≡ false) × (Bad o os ⊎ HasTag t false o os)))

pub turned_front : (t : Tag) (c : Bool) (os : List ℕ) → t.number < 31 → Bad (octet_of t (not c)) os ⊎ IsTurned t c (octet_of t (not c)) os
turned_front t c os small = elim (there t (not c) os small) [
  | inl bad ↦ inl (bad.1.code, bad.1.header_is)
  | inr f ↦ inr (f.whole.header, f.whole.header_is, ap (same_tag t) f.whole.tag ∙ same_tag_itself t, ap (λ (b : Bool). same_form b c) f.whole.form ∙ other_form c)
]

pub foreign_tag : (t : Tag) (c : Bool) (o : ℕ) (os : List ℕ) (h : Head) (b : Bool) → o < 256 → t.number < 31 → (o ≡ octet_of t c → ⊥) → (o ≡ octet_of t (not c) → ⊥) → head_of (o ∷ os) ≡ Ok h → same_tag t h.tag ≡ b → HasTag t false o os
foreign_tag t c o os h true small low ne other e same = absurd (foreign t c o os h small low ne other e same)
foreign_tag t c o os h false small low ne other e same = (h, e, same)

pub foreign_front : (t : Tag) (c : Bool) (o : ℕ) (os : List ℕ) (r : Result Head Code) → o < 256 → t.number < 31 → (o ≡ octet_of t c → ⊥) → (o ≡ octet_of t (not c) → ⊥) → head_of (o ∷ os) ≡ r → Bad o os ⊎ HasTag t false o os
foreign_front t c o os (Err k) small low ne other e = inl (k, e)
foreign_front t c o os (Ok h) small low ne other e = inr (foreign_tag t c o os h (same_tag t h.tag) small low ne other e refl)

pub not_here : (t : Tag) (c : Bool) (o : ℕ) (os : List ℕ) (b : Bool) → o < 256 → t.number < 31 → eqb o (octet_of t c) ≡ false → eqb o (octet_of t (not c)) ≡ b → NotHere t c o os
not_here t c o os true small low ne is =
    let e : o ≡ octet_of t (not c) = eqb-true o (octet_of t (not c)) is in
    (ne, inl (is, subst (λ (o : ℕ). Bad o os ⊎ IsTurned t c o os) (sym e) (turned_front t c os low)))
not_here t c o os false small low ne is = (ne, inr (is, foreign_front t c o os (head_of (o ∷ os)) small low (eqb-false o (octet_of t c) ne) (eqb-false o (octet_of t (not c)) is) refl))

pub here : (t : Tag) (c : Bool) (o : ℕ) (os : List ℕ) → t.number < 31 → eqb o (octet_of t c) ≡ true → Here t c o os
here t c o os low is =
    let e : o ≡ octet_of t c = eqb-true o (octet_of t c) is in
    (is, subst (λ (o : ℕ). ((split os ≡ None) × Bad o os) ⊎ Found t c o os) (sym e) (elim (there t c os low) [ inl bad ↦ inl (bad.0, (bad.1.code, bad.1.header_is)) | inr f ↦ inr f ]))

pub front_tested : (t : Tag) (c : Bool) (o : ℕ) (os : List ℕ) (b : Bool) → o < 256 → t.number < 31 → eqb o (octet_of t c) ≡ b → Here t c o os ⊎ NotHere t c o os
front_tested t c o os true small low is = inl (here t c o os low is)
front_tested t c o os false small low is = inr (not_here t c o os (eqb o (octet_of t (not c))) small low is refl)

pub front : (t : Tag) (c : Bool) (o : ℕ) (os : List ℕ) → o < 256 → t.number < 31 → Here t c o os ⊎ NotHere t c o os
front t c o os small low = front_tested t c o os (eqb o (octet_of t c)) small low refl

-- ---- reading an element with this header

pub read_whole : (t : Tag) (c : Bool) (body : read.Body) (at o : ℕ) (os contents next : List ℕ) (w : Whole t c o os contents next) → framed c body at w.header (o ∷ os) ≡ body at (at + w.header.size) contents
unfolding framed
read_whole t c body at o os contents next w =
    cond-true (same_form w.header.constructed c) _ _ (ap (λ (b : Bool). same_form b c) w.form ∙ form_itself c) ∙ ap (body at (at + w.header.size)) w.inside

pub read_turned : (c : Bool) (body : read.Body) (at : ℕ) (h : Head) (os : List ℕ) → same_form h.constructed c ≡ false → framed c body at h os ≡ Err (fault code.WrongForm at)
unfolding framed
read_turned c body at h os e = cond-false (same_form h.constructed c) _ _ e
