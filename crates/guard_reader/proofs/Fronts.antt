-- What is at the front of octets, where an element with a tag below 31 is due.
use Rattle.std.proofs.Common.{◌≡◌, ℕ, zero, suc, ◌+◌, ◌-◌, ◌*◌, ◌%◌, ◌<◌, ◌≤◌, Bool, true, false, ltb, leb, eqb, List, [], ◌∷◌, length, take, drop, Some, None, Result, Ok, Err, cond, refl, sym, ap, ◌∙◌, arith, inl, inr, length-drop}
use Rattle.std.specs.Prelude.{◌⊎◌, ◌&&◌, not}
use Rattle.std.proofs.lemmas.Bool.{cond-true, cond-false, lt-ltb, ltb-false, eqb-true, and_parts, agree_below_at}
use Rattle.guard_model.specs.Answer as answer
use Rattle.guard_model.specs.declared.tag.Tag.{Tag}
use Rattle.guard_model.specs.declared.tag.Class.{Class}
use Rattle.guard_model.specs.declared.tag.Class.TheVariants.{Universal, Application, Context, Private}
use Rattle.guard_model.specs.Tags.{class_rank, same_tag}
use Rattle.guard_model.proofs.Tags.{same_class, equal_tags}
use Rattle.guard_model.proofs.Results.{guard_ok, same_Ok, bind_ok}
use Rattle.guard_model.proofs.Tests.{chosen}
use Rattle.guard_der.specs.declared.breach.Code.{Code}
use Rattle.guard_der.specs.declared.breach.Code.TheVariants as code
use Rattle.guard_der.specs.Element.{form_bit}
use Rattle.guard_der.specs.Head.{Head, head_of, tag_number, high_number, number_from, length_at, long_length, class_of}
use Rattle.guard_der.specs.Reading.{same_form}
use Rattle.guard_reader.specs.Octets.{cut_at, split}
use Rattle.guard_tables.specs.NodeViews.{octet_of}
use Rattle.guard_reader.proofs.Lengths.{long_ok}

-- ---- identifier octets

form_is : (a b : Bool) → same_form a b ≡ true → a ≡ b
form_is true true e = refl
form_is true false e = absurd cc
form_is false true e = absurd cc
form_is false false e = refl

pub form_itself : (a : Bool) → same_form a a ≡ true
form_itself true = refl
form_itself false = refl

pub other_form : (a : Bool) → same_form (not a) a ≡ false
other_form true = refl
other_form false = refl

abbrev is_spelled : Class → Bool → ℕ → Bool
is_spelled k c n =
    let o = 64 * class_rank k + form_bit c + n in
    eqb (class_rank (class_of o)) (class_rank k) && same_form (leb 32 (o % 64)) c && eqb (o % 32) n

spelled : (k : Class) (c : Bool) (n : ℕ) → n < 31 → is_spelled k c n ≡ true
spelled Universal true n h = agree_below_at (λ n. is_spelled Universal true n) (λ _. true) 31 n refl h
spelled Universal false n h = agree_below_at (λ n. is_spelled Universal false n) (λ _. true) 31 n refl h
spelled Application true n h = agree_below_at (λ n. is_spelled Application true n) (λ _. true) 31 n refl h
spelled Application false n h = agree_below_at (λ n. is_spelled Application false n) (λ _. true) 31 n refl h
spelled Context true n h = agree_below_at (λ n. is_spelled Context true n) (λ _. true) 31 n refl h
spelled Context false n h = agree_below_at (λ n. is_spelled Context false n) (λ _. true) 31 n refl h
spelled Private true n h = agree_below_at (λ n. is_spelled Private true n) (λ _. true) 31 n refl h
spelled Private false n h = agree_below_at (λ n. is_spelled Private false n) (λ _. true) 31 n refl h

record Says (o : ℕ) (t : Tag) (c : Bool) : Type 0 where
  class : class_of o ≡ t.class
  form : leb 32 (o % 64) ≡ c
  number : o % 32 ≡ t.number

octet_says : (t : Tag) (c : Bool) → t.number < 31 → Says (octet_of t c) t c
octet_says t c small =
    let o = octet_of t c in
    let a = and_parts (eqb (class_rank (class_of o)) (class_rank t.class) && same_form (leb 32 (o % 64)) c) (eqb (o % 32) t.number) (spelled t.class c t.number small) in
    let b = and_parts (eqb (class_rank (class_of o)) (class_rank t.class)) (same_form (leb 32 (o % 64)) c) a.0 in
    record {
      class = same_class (class_of o) t.class (eqb-true (class_rank (class_of o)) (class_rank t.class) b.0);
      form = form_is (leb 32 (o % 64)) c b.1;
      number = eqb-true (o % 32) t.number a.1;
    }

octet_parts : (o : ℕ) → o < 256 → o ≡ 64 * class_rank (class_of o) + form_bit (leb 32 (o % 64)) + o % 32
octet_parts o h = eqb-true o _ (agree_below_at (λ o. eqb o (64 * class_rank (class_of o) + form_bit (leb 32 (o % 64)) + o % 32)) (λ _. true) 256 o refl h)

-- ---- headers with one identifier octet

abbrev pub head_from : Tag → Bool → List ℕ → ℕ × List ℕ → Head
head_from t c os l = record { tag = t; constructed = c; size = suc (length os) - length l.1; contents = l.0 }

abbrev pub head_with : Tag → Bool → List ℕ → ℕ × List ℕ → Result Head Code
head_with t c os l = cond (ltb (length l.1) l.0) (Err code.Truncated) (Ok (head_from t c os l))

pub low_head : (o : ℕ) (os : List ℕ) → o % 32 < 31 → head_of (o ∷ os) ≡ answer.◌>>=◌ (length_at os) (head_with (record { class = class_of o; number = o % 32 }) (leb 32 (o % 64)) os)
unfolding head_of tag_number
low_head o os low =
    let here : ℕ × List ℕ = (o % 32, os) in
    ap (λ (r : Result (ℕ × List ℕ) Code). answer.◌>>=◌ r (λ t. answer.◌>>=◌ (length_at t.1) (λ l. cond (ltb (length l.1) l.0) (Err code.Truncated) (Ok (record { tag = record { class = class_of o; number = t.0 }; constructed = leb 32 (o % 64); size = length (o ∷ os) - length l.1; contents = l.0 })))))
    (cond-true (ltb (o % 32) 31) (Ok here) (high_number os) (lt-ltb (o % 32) 31 low))

pub octet_head : (t : Tag) (c : Bool) (os : List ℕ) → t.number < 31 → head_of (octet_of t c ∷ os) ≡ answer.◌>>=◌ (length_at os) (head_with t c os)
octet_head t c os small =
    let o = octet_of t c in
    let s = octet_says t c small in
    let made : Class → ℕ → Bool → Result Head Code = λ k n f. answer.◌>>=◌ (length_at os) (head_with (record { class = k; number = n }) f os) in
    low_head o os (omega (arith, s.number, small))
    ∙ ap (λ (k : Class). made k (o % 32) (leb 32 (o % 64))) s.class
    ∙ ap (λ (n : ℕ). made t.class n (leb 32 (o % 64))) s.number
    ∙ ap (λ (f : Bool). made t.class t.number f) s.form

-- ---- what follows a length is an end of the octets

pub suffix : (os : List ℕ) (l : ℕ × List ℕ) → length_at os ≡ Ok l → (n : ℕ) × (l.1 ≡ drop n os) × (n ≤ length os)
unfolding length_at
suffix [] l e = absurd cc
suffix (o ∷ os) l e =
    let pair : ℕ × List ℕ = (o, os) in
    elim (chosen (ltb o 128) (Ok pair) (cond (eqb o 128) (Err code.IndefiniteLength) (cond (ltb 132 o) (Err code.LengthTooLarge) (long_length (o - 128) os))) (Ok l) e) [
      | inl low ↦ let is : pair ≡ l = same_Ok {F = Code} pair l low.1 in (1, sym (ap (λ (p : ℕ × List ℕ). p.1) is), omega arith)
      | inr high ↦ let long = long_ok o os l (ltb-false o 128 high.0) e in (suc (o - 128), long.rest, omega (arith, long.room))
    ]

drop_nothing : (n : ℕ) → ◌≡◌ {A = List ℕ} (drop n []) []
drop_nothing zero = refl
drop_nothing (suc n) = refl

pub drop_twice : (m n : ℕ) (os : List ℕ) → drop m (drop n os) ≡ drop (n + m) os
drop_twice m zero os = let e : m ≡ 0 + m = omega arith in ap (λ (k : ℕ). drop k os) e
drop_twice m (suc n) [] = drop_nothing m ∙ sym (drop_nothing (suc n + m))
drop_twice m (suc n) (o ∷ os) = let e : suc (n + m) ≡ suc n + m = omega arith in drop_twice m n os ∙ ap (λ (k : ℕ). drop k (o ∷ os)) e

-- ---- what is at the front

pub record Whole (t : Tag) (c : Bool) (o : ℕ) (os contents next : List ℕ) : Type 0 where
  pub header : Head
  pub header_is : head_of (o ∷ os) ≡ Ok header
  pub tag : header.tag ≡ t
  pub form : header.constructed ≡ c
  pub inside : take header.contents (drop header.size (o ∷ os)) ≡ contents
  pub rest : drop (header.size + header.contents) (o ∷ os) ≡ next

whole_from : (t : Tag) (c : Bool) (os : List ℕ) (l : ℕ × List ℕ) → t.number < 31 → length_at os ≡ Ok l → ltb (length l.1) l.0 ≡ false → Whole t c (octet_of t c) os (take l.0 l.1) (drop l.0 l.1)
whole_from t c os l small e room =
    let s = suffix os l e in
    let h : Head = head_from t c os l in
    let size : h.size ≡ suc s.0 = omega (arith, ap length s.1, length-drop s.0 os, s.2) in
    let behind : drop h.size (octet_of t c ∷ os) ≡ l.1 = ap (λ (k : ℕ). drop k (octet_of t c ∷ os)) size ∙ sym s.1 in
    record {
      header = h;
      header_is = octet_head t c os small ∙ ap (λ (r : Result (ℕ × List ℕ) Code). answer.◌>>=◌ r (head_with t c os)) e ∙ cond-false (ltb (length l.1) l.0) (Err code.Truncated) (Ok h) room;
      tag = refl;
      form = refl;
      inside = ap (take l.0) behind;
      rest = sym (drop_twice l.0 h.size (octet_of t c ∷ os)) ∙ ap (drop l.0) behind;
    }

-- an element of this tag and form, or none
pub record Broken (o : ℕ) (os : List ℕ) : Type 0 where
  pub code : Code
  pub header_is : head_of (o ∷ os) ≡ Err code

pub record Found (t : Tag) (c : Bool) (o : ℕ) (os : List ℕ) : Type 0 where
  pub contents : List ℕ
  pub next : List ℕ
  pub cut : split os ≡ Some (contents, next)
  pub whole : Whole t c o os contents next

there_tested : (t : Tag) (c : Bool) (os : List ℕ) (l : ℕ × List ℕ) (b : Bool) → t.number < 31 → length_at os ≡ Ok l → ltb (length l.1) l.0 ≡ b → ((split os ≡ None) × Broken (octet_of t c) os) ⊎ Found t c (octet_of t c) os
unfolding split
there_tested t c os l true small e short =
    let h : Head = head_from t c os l in inl (
      ap cut_at e ∙ cond-true (ltb (length l.1) l.0) None (Some (take l.0 l.1, drop l.0 l.1)) short,
      record { code = code.Truncated; header_is = octet_head t c os small ∙ ap (λ (r : Result (ℕ × List ℕ) Code). answer.◌>>=◌ r (head_with t c os)) e ∙ cond-true (ltb (length l.1) l.0) (Err code.Truncated) (Ok h) short },
    )
there_tested t c os l false small e room =
    inr (record {
      contents = take l.0 l.1;
      next = drop l.0 l.1;
      cut = ap cut_at e ∙ cond-false (ltb (length l.1) l.0) None (Some (take l.0 l.1, drop l.0 l.1)) room;
      whole = whole_from t c os l small e room;
    })

there_read : (t : Tag) (c : Bool) (os : List ℕ) (r : Result (ℕ × List ℕ) Code) → t.number < 31 → length_at os ≡ r → ((split os ≡ None) × Broken (octet_of t c) os) ⊎ Found t c (octet_of t c) os
unfolding split
there_read t c os (Err k) small e = inl (ap cut_at e, record { code = k; header_is = octet_head t c os small ∙ ap (λ (r : Result (ℕ × List ℕ) Code). answer.◌>>=◌ r (head_with t c os)) e })
there_read t c os (Ok l) small e = there_tested t c os l (ltb (length l.1) l.0) small e refl

pub there : (t : Tag) (c : Bool) (os : List ℕ) → t.number < 31 → ((split os ≡ None) × Broken (octet_of t c) os) ⊎ Found t c (octet_of t c) os
there t c os small = there_read t c os (length_at os) small refl

-- ---- another tag

high_large : (os : List ℕ) (r : ℕ × List ℕ) → high_number os ≡ Ok r → 31 ≤ r.0
unfolding high_number
high_large [] r e = absurd cc
high_large (o ∷ os) r e =
    let a = guard_ok (eqb o 128) code.TagForm (answer.◌>>=◌ (number_from 4 0 (o ∷ os)) (λ r. cond (ltb r.0 31) (Err code.TagForm) (Ok r))) r e in
    let b = bind_ok (number_from 4 0 (o ∷ os)) (λ r. cond (ltb r.0 31) (Err code.TagForm) (Ok r)) r a.1 in
    let c = guard_ok (ltb b.0.0 31) code.TagForm (Ok b.0) r b.2 in
    let is : b.0 ≡ r = same_Ok {F = Code} b.0 r c.1 in
    rw (← is) (ltb-false b.0.0 31 c.0)

-- the number that is read in place of a small one is the octet's, or large
number_read : (o : ℕ) (os : List ℕ) (r : ℕ × List ℕ) → o < 256 → tag_number (o % 32) os ≡ Ok r → (r.0 ≡ o % 32) ⊎ (31 ≤ r.0)
unfolding tag_number
number_read o os r small e =
    let here : ℕ × List ℕ = (o % 32, os) in
    elim (chosen (ltb (o % 32) 31) (Ok here) (high_number os) (Ok r) e) [
      | inl low ↦ inl (sym (ap (λ (p : ℕ × List ℕ). p.0) (same_Ok {F = Code} here r low.1)))
      | inr high ↦ inr (high_large os r high.1)
    ]

-- the tag and form of a header, and the octet that it begins with
head_says : (o : ℕ) (os : List ℕ) (h : Head) → o < 256 → head_of (o ∷ os) ≡ Ok h → (h.tag.class ≡ class_of o) × ((h.tag.number ≡ o % 32) ⊎ (31 ≤ h.tag.number))
unfolding head_of
head_says o os h small e =
    let made : ℕ → ℕ × List ℕ → Head = λ n l. record { tag = record { class = class_of o; number = n }; constructed = leb 32 (o % 64); size = length (o ∷ os) - length l.1; contents = l.0 } in
    let a = bind_ok (tag_number (o % 32) os) (λ t. answer.◌>>=◌ (length_at t.1) (λ l. cond (ltb (length l.1) l.0) (Err code.Truncated) (Ok (made t.0 l)))) h e in
    let b = bind_ok (length_at a.0.1) (λ l. cond (ltb (length l.1) l.0) (Err code.Truncated) (Ok (made a.0.0 l))) h a.2 in
    let c = guard_ok (ltb (length b.0.1) b.0.0) code.Truncated (Ok (made a.0.0 b.0)) h b.2 in
    let is : made a.0.0 b.0 ≡ h = same_Ok {F = Code} (made a.0.0 b.0) h c.1 in
    (rw (← is) refl, rw (← is) (number_read o os a.0 small a.1))

-- either form of a tag is its octet
form_of : (o : ℕ) (t : Tag) (b c : Bool) → o ≡ octet_of t b → (o ≡ octet_of t c → ⊥) → (o ≡ octet_of t (not c) → ⊥) → ⊥
form_of o t true true e f g = f e
form_of o t true false e f g = g e
form_of o t false true e f g = g e
form_of o t false false e f g = f e

pub foreign : (t : Tag) (c : Bool) (o : ℕ) (os : List ℕ) (h : Head) → o < 256 → t.number < 31 → (o ≡ octet_of t c → ⊥) → (o ≡ octet_of t (not c) → ⊥) → head_of (o ∷ os) ≡ Ok h → same_tag t h.tag ≡ true → ⊥
foreign t c o os h small low ne other e same =
    let is : t ≡ h.tag = equal_tags t h.tag same in
    let s = head_says o os h small e in
    let class : class_of o ≡ t.class = sym s.0 ∙ ap (λ (t : Tag). t.class) (sym is) in
    let number : h.tag.number ≡ t.number = ap (λ (t : Tag). t.number) (sym is) in
    elim s.1 [
      | inl here ↦
          let spelled : o ≡ octet_of t (leb 32 (o % 64)) = octet_parts o small ∙ ap (λ (k : Class). 64 * class_rank k + form_bit (leb 32 (o % 64)) + o % 32) class ∙ ap (λ (n : ℕ). 64 * class_rank t.class + form_bit (leb 32 (o % 64)) + n) (sym here ∙ number) in
          form_of o t (leb 32 (o % 64)) c spelled ne other
      | inr high ↦ absurd (omega (arith, high, number, low))
    ]
