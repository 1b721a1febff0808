-- What is seen at the front of octets is what is read there.
use Rattle.std.proofs.Common.{◌≡◌, ℕ, ◌+◌, ◌*◌, ◌^◌, ◌<◌, ◌≤◌, Bool, true, false, ltb, eqb, List, [], ◌∷◌, length, take, drop, Option, None, Result, Ok, Err, cond, refl, sym, ap, subst, ◌∙◌, arith, inl, inr, length-take, length-drop}
use Rattle.std.specs.Prelude.{◌⊎◌, not, option_map}
use Rattle.std.proofs.lemmas.Bool.{cond-true, cond-false, lt-ltb, le-ltb, ltb-true, eqb-true}
use Rattle.guard_model.specs.Answer as answer
use Rattle.guard_model.specs.declared.tag.Tag.{Tag}
use Rattle.guard_model.specs.declared.tag.Class.{Class}
use Rattle.guard_model.specs.declared.tag.Class.TheVariants.{Universal, Application, Context, Private}
use Rattle.guard_model.specs.Tags.{class_rank, same_tag}
use Rattle.guard_model.proofs.Tags.{same_tag_itself}
use Rattle.guard_model.specs.AbstractValue.{AbstractValue}
use Rattle.guard_der.specs.declared.breach.Code.{Code}
use Rattle.guard_der.specs.declared.breach.Code.TheVariants as code
use Rattle.guard_der.specs.Breach.{AbstractBreach}
use Rattle.guard_der.specs.Element.{form_bit}
use Rattle.guard_der.specs.Head.{Head, head_of}
use Rattle.guard_der.specs.Reading as read
use Rattle.guard_der.specs.Reading.{Reader, framed, fault, located, due_at, same_form}
use Rattle.guard_der.proofs.Headers.Offsets.{head_small}
use Rattle.guard_model.proofs.Results.{same_Ok}
use Rattle.guard_tables.specs.declared.slots.Slots.{Slots}
use Rattle.guard_tables.specs.NodeViews.{octet_of, outer_form, identifier_of, other_of}
use Rattle.guard_reader.specs.Fronts.{Front, here, elsewhere, broken, alone, front_cut, front_headed, octet_front, head_front, tagged_front}
use Rattle.guard_reader.specs.Judging.{Pass, Sight}
use Rattle.guard_reader.specs.Octets.{◌>>=◌, split, ok}
use Rattle.guard_reader.proofs.Places as places
use Rattle.guard_reader.proofs.Places.{Digits, digits_drop, digits_take, Bad, IsTurned, HasTag, read_whole, read_turned}

abbrev pub PassLaw : Pass → read.Body → (AbstractValue → Slots → Slots) → Type 0
PassLaw pass body mark = (at start : ℕ) (os : List ℕ) (m : Slots) → Digits os → length os < 2 ^ 32 → pass os m ≡ option_map (λ v. mark v m) (ok (body at start os))

-- elements of a type: a pass over what is inside, what begins them, how they are read, the inside too, and what their values mark
pub record Way : Type 0 where
  pub pass : Pass
  pub wanted : Tag → Bool
  pub reader : Reader
  pub body : read.Body
  pub mark : AbstractValue → Slots → Slots

-- an element of these is there
pub record Stands (w : Way) (o : ℕ) (os inside rest : List ℕ) : Type 0 where
  pub header : Head
  pub header_is : head_of (o ∷ os) ≡ Ok header
  pub tag : w.wanted header.tag ≡ true
  pub rest_is : drop (header.size + header.contents) (o ∷ os) ≡ rest
  pub digits : Digits inside
  pub shorter : length inside ≤ length (o ∷ os)
  pub start : ℕ → ℕ
  pub read : (at : ℕ) → w.reader at header (o ∷ os) ≡ w.body at (start at) inside
  pub judged : (at : ℕ) (m : Slots) → w.pass inside m ≡ option_map (λ v. w.mark v m) (ok (w.reader at header (o ∷ os)))

abbrev pub IsAway : Way → ℕ → List ℕ → Type 0
IsAway w o os = Bad o os ⊎ ((h : Head) × (head_of (o ∷ os) ≡ Ok h) × (w.wanted h.tag ≡ false))

abbrev pub IsBroken : Way → ℕ → List ℕ → Type 0
IsBroken w o os = Bad o os ⊎ ((h : Head) × (head_of (o ∷ os) ≡ Ok h) × (w.wanted h.tag ≡ true) × ((at : ℕ) → ok (w.reader at h (o ∷ os)) ≡ None))

abbrev pub Seen : Way → ℕ → List ℕ → Front → Type 0
Seen w o os (here inside rest) = Stands w o os inside rest
Seen w o os elsewhere = IsAway w o os
Seen w o os broken = IsBroken w o os

pub record SightLaw (sight : Sight) (w : Way) : Type 0 where
  pub ended : sight [] ≡ elsewhere
  pub seen : (o : ℕ) (os : List ℕ) → Digits (o ∷ os) → Seen w o os (sight (o ∷ os))

pub one_header : (o : ℕ) (os : List ℕ) (g h : Head) → head_of (o ∷ os) ≡ Ok g → head_of (o ∷ os) ≡ Ok h → g ≡ h
one_header o os g h e f = same_Ok {F = Code} g h (sym e ∙ f)

pub never_bad : {A : Type 0} (o : ℕ) (os : List ℕ) (h : Head) → head_of (o ∷ os) ≡ Ok h → Bad o os → A
never_bad o os h e (k, f) = let both : ◌≡◌ {A = Result Head Code} (Ok h) (Err k) = sym e ∙ f in absurd cc

-- ---- one tag

abbrev pub in_tag : Tag → Bool → Pass → read.Body → (AbstractValue → Slots → Slots) → Way
in_tag t c pass body mark = record { pass = pass; wanted = λ tag. same_tag t tag; reader = framed c body; body = body; mark = mark }

taken_shorter : (n k : ℕ) (os : List ℕ) → length (take n (drop k os)) ≤ length os
taken_shorter n k os = omega (arith, length-take n (drop k os), length-drop k os)

abbrev Judged : Tag → Bool → Pass → read.Body → (AbstractValue → Slots → Slots) → Front → ℕ → List ℕ → Type 0
Judged t c pass body mark f o os = Seen (in_tag t c pass body mark) o os f

low_seen : (t : Tag) (c : Bool) (pass : Pass) (body : read.Body) (mark : AbstractValue → Slots → Slots) → t.number < 31 → PassLaw pass body mark → (o : ℕ) (os : List ℕ) → Digits (o ∷ os)
    → Judged t c pass body mark (octet_front (octet_of t c) (octet_of t (not c)) (o ∷ os)) o os
unfolding octet_front
low_seen t c pass body mark low law o os digits =
    let P : Front → Type 0 = λ f. Judged t c pass body mark f o os in
    let later : Front = cond (eqb o (octet_of t (not c))) broken elsewhere in
    elim (places.front t c o os digits.0 low) [
      | inl (is, inl bad) ↦ subst P (sym (cond-true (eqb o (octet_of t c)) (front_cut (split os)) later is ∙ ap front_cut bad.0)) (inl bad.1)
      | inl (is, inr f) ↦
          let w = f.whole in
          let h = w.header in
          let inner : Digits f.contents = subst Digits w.inside (digits_take h.contents (drop h.size (o ∷ os)) (digits_drop h.size (o ∷ os) digits)) in
          let few : length f.contents ≤ length (o ∷ os) = subst (λ (x : List ℕ). length x ≤ length (o ∷ os)) w.inside (taken_shorter h.contents h.size (o ∷ os)) in
          let short : length f.contents < 2 ^ 32 = subst (λ (x : List ℕ). length x < 2 ^ 32) w.inside (head_small (o ∷ os) h digits w.header_is) in
          let given : P (here f.contents f.next) = record {
            header = h;
            header_is = w.header_is;
            tag = ap (same_tag t) w.tag ∙ same_tag_itself t;
            rest_is = w.rest;
            digits = inner;
            shorter = few;
            start = λ at. at + h.size;
            read = λ at. read_whole t c body at o os f.contents f.next w;
            judged = λ at m. law at (at + h.size) f.contents m inner short ∙ ap (λ (r : Result AbstractValue AbstractBreach). option_map (λ v. mark v m) (ok r)) (sym (read_whole t c body at o os f.contents f.next w));
          } in
          subst P (sym (cond-true (eqb o (octet_of t c)) (front_cut (split os)) later is ∙ ap front_cut f.cut)) given
      | inr (ne, inl (other, inl bad)) ↦ subst P (sym (cond-false (eqb o (octet_of t c)) (front_cut (split os)) later ne ∙ cond-true (eqb o (octet_of t (not c))) broken elsewhere other)) (inl bad)
      | inr (ne, inl (other, inr (h, e, tag, form))) ↦
          subst P (sym (cond-false (eqb o (octet_of t c)) (front_cut (split os)) later ne ∙ cond-true (eqb o (octet_of t (not c))) broken elsewhere other))
          (inr (h, e, tag, λ at. ap ok (read_turned c body at h (o ∷ os) form)))
      | inr (ne, inr (other, x)) ↦ subst P (sym (cond-false (eqb o (octet_of t c)) (front_cut (split os)) later ne ∙ cond-false (eqb o (octet_of t (not c))) broken elsewhere other)) x
    ]

framed_read : (c : Bool) (body : read.Body) (at : ℕ) (h : Head) (os : List ℕ) → same_form h.constructed c ≡ true → framed c body at h os ≡ body at (at + h.size) (take h.contents (drop h.size os))
unfolding framed
framed_read c body at h os e = cond-true (same_form h.constructed c) _ _ e

form_seen : (t : Tag) (c : Bool) (pass : Pass) (body : read.Body) (mark : AbstractValue → Slots → Slots) → PassLaw pass body mark → (o : ℕ) (os : List ℕ) (h : Head) (form : Bool) → Digits (o ∷ os) → head_of (o ∷ os) ≡ Ok h → same_tag t h.tag ≡ true → same_form h.constructed c ≡ form
    → Judged t c pass body mark (cond form (here (take h.contents (drop h.size (o ∷ os))) (drop (h.size + h.contents) (o ∷ os))) broken) o os
form_seen t c pass body mark law o os h true digits e tag form =
    let contents : List ℕ = take h.contents (drop h.size (o ∷ os)) in
    let inner : Digits contents = digits_take h.contents (drop h.size (o ∷ os)) (digits_drop h.size (o ∷ os) digits) in
    record {
      header = h;
      header_is = e;
      tag = tag;
      rest_is = refl;
      digits = inner;
      shorter = taken_shorter h.contents h.size (o ∷ os);
      start = λ at. at + h.size;
      read = λ at. framed_read c body at h (o ∷ os) form;
      judged = λ at m. law at (at + h.size) contents m inner (head_small (o ∷ os) h digits e) ∙ ap (λ (r : Result AbstractValue AbstractBreach). option_map (λ v. mark v m) (ok r)) (sym (framed_read c body at h (o ∷ os) form));
    }
form_seen t c pass body mark law o os h false digits e tag form = inr (h, e, tag, λ at. ap ok (read_turned c body at h (o ∷ os) form))

tag_seen : (t : Tag) (c : Bool) (pass : Pass) (body : read.Body) (mark : AbstractValue → Slots → Slots) → PassLaw pass body mark → (o : ℕ) (os : List ℕ) (h : Head) (tag form : Bool) → Digits (o ∷ os) → head_of (o ∷ os) ≡ Ok h → same_tag t h.tag ≡ tag → same_form h.constructed c ≡ form
    → Judged t c pass body mark (cond tag (cond form (here (take h.contents (drop h.size (o ∷ os))) (drop (h.size + h.contents) (o ∷ os))) broken) elsewhere) o os
tag_seen t c pass body mark law o os h true form digits e tag is = form_seen t c pass body mark law o os h form digits e tag is
tag_seen t c pass body mark law o os h false form digits e tag is = inr (h, e, tag)

header_seen : (t : Tag) (c : Bool) (pass : Pass) (body : read.Body) (mark : AbstractValue → Slots → Slots) → PassLaw pass body mark → (o : ℕ) (os : List ℕ) (r : Result Head Code) → Digits (o ∷ os) → head_of (o ∷ os) ≡ r
    → Judged t c pass body mark (front_headed t c (o ∷ os) r) o os
header_seen t c pass body mark law o os (Err k) digits e = inl (k, e)
header_seen t c pass body mark law o os (Ok h) digits e = tag_seen t c pass body mark law o os h (same_tag t h.tag) (same_form h.constructed c) digits e refl refl

high_seen : (t : Tag) (c : Bool) (pass : Pass) (body : read.Body) (mark : AbstractValue → Slots → Slots) → PassLaw pass body mark → (o : ℕ) (os : List ℕ) → Digits (o ∷ os)
    → Judged t c pass body mark (head_front t c (o ∷ os)) o os
unfolding head_front
high_seen t c pass body mark law o os digits = header_seen t c pass body mark law o os (head_of (o ∷ os)) digits refl

-- ---- of any number

octet_bound : (k : Class) (c : Bool) (n : ℕ) → n < 31 → 64 * class_rank k + form_bit c + n < 256
octet_bound Universal true n h = omega arith
octet_bound Universal false n h = omega arith
octet_bound Application true n h = omega arith
octet_bound Application false n h = omega arith
octet_bound Context true n h = omega arith
octet_bound Context false n h = omega arith
octet_bound Private true n h = omega arith
octet_bound Private false n h = omega arith

not_at : (n k : ℕ) (b : Bool) → eqb n k ≡ b → n < k → b ≡ false
not_at n k true e h = absurd (omega (arith, eqb-true n k e, h))
not_at n k false e h = refl

pub low_front : (t : Tag) (ts : List Tag) (con : Bool) (os : List ℕ) (untagged : Front) → t.number < 31
    → tagged_front (t ∷ ts) con os untagged ≡ octet_front (octet_of t (outer_form ts con)) (octet_of t (not (outer_form ts con))) os
unfolding tagged_front
low_front t ts con os untagged low =
    let c = outer_form ts con in
    let small = lt-ltb t.number 31 low in
    let is : identifier_of (t ∷ ts) con ≡ octet_of t c = cond-true (ltb t.number 31) (octet_of t c) 256 small in
    let other : other_of (t ∷ ts) con ≡ octet_of t (not c) = cond-true (ltb t.number 31) (octet_of t (not c)) 256 small in
    let some : eqb (octet_of t c) 256 ≡ false = not_at (octet_of t c) 256 (eqb (octet_of t c) 256) refl (octet_bound t.class c t.number low) in
    let far : Front = head_front t c os in
    ap (λ (i : ℕ). cond (eqb i 256) far (octet_front i (other_of (t ∷ ts) con) os)) is
    ∙ cond-false (eqb (octet_of t c) 256) far _ some
    ∙ ap (λ (j : ℕ). octet_front (octet_of t c) j os) other

pub high_front : (t : Tag) (ts : List Tag) (con : Bool) (os : List ℕ) (untagged : Front) → ltb t.number 31 ≡ false
    → tagged_front (t ∷ ts) con os untagged ≡ head_front t (outer_form ts con) os
unfolding tagged_front
high_front t ts con os untagged high =
    let c = outer_form ts con in
    let is : identifier_of (t ∷ ts) con ≡ 256 = cond-false (ltb t.number 31) (octet_of t c) 256 high in
    let far : Front = head_front t c os in
    ap (λ (i : ℕ). cond (eqb i 256) far (octet_front i (other_of (t ∷ ts) con) os)) is

number_sight : (t : Tag) (ts : List Tag) (con : Bool) (untagged : Sight) (pass : Pass) (body : read.Body) (mark : AbstractValue → Slots → Slots) (low : Bool) → ltb t.number 31 ≡ low → PassLaw pass body mark
    → SightLaw (λ os. tagged_front (t ∷ ts) con os (untagged os)) (in_tag t (outer_form ts con) pass body mark)
unfolding octet_front head_front
number_sight t ts con untagged pass body mark true low law =
    let small : t.number < 31 = ltb-true t.number 31 low in
    record {
      ended = low_front t ts con [] (untagged []) small;
      seen = λ o os digits. subst (λ (f : Front). Judged t (outer_form ts con) pass body mark f o os) (sym (low_front t ts con (o ∷ os) (untagged (o ∷ os)) small)) (low_seen t (outer_form ts con) pass body mark small law o os digits);
    }
number_sight t ts con untagged pass body mark false high law = record {
  ended = high_front t ts con [] (untagged []) high;
  seen = λ o os digits. subst (λ (f : Front). Judged t (outer_form ts con) pass body mark f o os) (sym (high_front t ts con (o ∷ os) (untagged (o ∷ os)) high)) (high_seen t (outer_form ts con) pass body mark law o os digits);
}

pub tagged_sight : (t : Tag) (ts : List Tag) (con : Bool) (untagged : Sight) (pass : Pass) (body : read.Body) (mark : AbstractValue → Slots → Slots) → PassLaw pass body mark
    → SightLaw (λ os. tagged_front (t ∷ ts) con os (untagged os)) (in_tag t (outer_form ts con) pass body mark)
tagged_sight t ts con untagged pass body mark law = number_sight t ts con untagged pass body mark (ltb t.number 31) refl law

-- ---- one element and nothing after it

abbrev pub due_from : (Tag → Bool) → ℕ → Result Head Code → Result Head AbstractBreach
due_from wanted at r = answer.◌>>=◌ (located at r) (λ h. cond (wanted h.tag) (Ok h) (Err (fault code.UnexpectedTag at)))

abbrev pub ended_from : ℕ → Head → List ℕ → AbstractValue → Result AbstractValue AbstractBreach
ended_from at h os v = read.ended at h os v

abbrev pub after_due : Reader → ℕ → List ℕ → Result Head AbstractBreach → Result AbstractValue AbstractBreach
after_due reader at os due = answer.◌>>=◌ due (λ h. answer.◌>>=◌ (reader at h os) (λ v. ended_from at h os v))

alone_from : (wanted : Tag → Bool) (reader : Reader) (at : ℕ) (os : List ℕ) → read.alone_at wanted reader at os ≡ after_due reader at os (due_from wanted at (head_of os))
unfolding due_at read.alone_at
alone_from wanted reader at os = refl

pub alone_bad : (wanted : Tag → Bool) (reader : Reader) (at o : ℕ) (os : List ℕ) → Bad o os → ok (read.alone_at wanted reader at (o ∷ os)) ≡ None
alone_bad wanted reader at o os (k, e) = ap ok (alone_from wanted reader at (o ∷ os)) ∙ ap (λ (r : Result Head Code). ok (after_due reader at (o ∷ os) (due_from wanted at r))) e

pub alone_of : (wanted : Tag → Bool) (reader : Reader) (at : ℕ) (os : List ℕ) (h : Head) (b : Bool) → head_of os ≡ Ok h → wanted h.tag ≡ b
    → read.alone_at wanted reader at os ≡ after_due reader at os (cond b (Ok h) (Err (fault code.UnexpectedTag at)))
alone_of wanted reader at os h b e tag =
    alone_from wanted reader at os ∙ ap (λ (r : Result Head Code). after_due reader at os (due_from wanted at r)) e
    ∙ ap (λ (b : Bool). after_due reader at os (cond b (Ok h) (Err (fault code.UnexpectedTag at)))) tag

nothing_after : (at : ℕ) (h : Head) (os : List ℕ) (r : Result AbstractValue AbstractBreach) → ok r ≡ None → ok (answer.◌>>=◌ r (λ v. ended_from at h os v)) ≡ None
nothing_after at h os (Err b) e = refl
nothing_after at h os (Ok v) e = absurd cc

-- nothing is left after an element exactly where it ends with the octets
last_read : (mark : AbstractValue → Slots → Slots) (m : Slots) (inside rest : List ℕ) (at size : ℕ) (h : Head) (os : List ℕ) (r : Result AbstractValue AbstractBreach) (a : Option Slots) → h.size + h.contents ≡ size → drop size os ≡ rest
    → a ≡ option_map (λ v. mark v m) (ok r) → (alone (here inside rest) >>= λ x. a) ≡ option_map (λ v. mark v m) (ok (answer.◌>>=◌ r (λ v. ended_from at h os v)))
last_read mark m inside [] at size h os (Err k) a is rest e = e
last_read mark m inside (n ∷ next) at size h os (Err k) a is rest e = refl
last_read mark m inside [] at size h os (Ok v) a is rest e =
    let over : ltb (h.size + h.contents) (length os) ≡ false = le-ltb (h.size + h.contents) (length os) (omega (arith, is, ap length rest, length-drop size os)) in
    e ∙ ap (λ (b2 : Bool). option_map (λ v. mark v m) (ok (cond b2 (Err (fault code.TrailingOctets (at + (h.size + h.contents)))) (Ok v)))) (sym over)
last_read mark m inside (n ∷ next) at size h os (Ok v) a is rest e =
    let more : ltb (h.size + h.contents) (length os) ≡ true = lt-ltb (h.size + h.contents) (length os) (omega (arith, is, ap length rest, length-drop size os)) in
    ap (λ (b2 : Bool). option_map (λ v. mark v m) (ok (cond b2 (Err (fault code.TrailingOctets (at + (h.size + h.contents)))) (Ok v)))) (sym more)

abbrev AloneHere : Way → ℕ → ℕ → List ℕ → Slots → Front → Type 0
AloneHere w at o os m f = (alone f >>= λ x. w.pass x m) ≡ option_map (λ v. w.mark v m) (ok (read.alone_at w.wanted w.reader at (o ∷ os)))

alone_here : (w : Way) (at o : ℕ) (os inside rest : List ℕ) (m : Slots) → Stands w o os inside rest → AloneHere w at o os m (here inside rest)
alone_here w at o os inside rest m s =
    let h = s.header in
    let whole : Result AbstractValue AbstractBreach → Option Slots = λ r. option_map (λ v. w.mark v m) (ok r) in
    alone_pass w m inside rest
    ∙ last_read w.mark m inside rest at (h.size + h.contents) h (o ∷ os) (w.reader at h (o ∷ os)) (w.pass inside m) refl s.rest_is (s.judged at m)
    ∙ ap whole (sym (alone_of w.wanted w.reader at (o ∷ os) h true s.header_is s.tag))
  where
    alone_pass : (w : Way) (m : Slots) (inside rest : List ℕ) → (alone (here inside rest) >>= λ x. w.pass x m) ≡ (alone (here inside rest) >>= λ x. w.pass inside m)
    alone_pass w m inside [] = refl
    alone_pass w m inside (n ∷ next) = refl

alone_seen : (w : Way) (at o : ℕ) (os : List ℕ) (m : Slots) (f : Front) → Seen w o os f → AloneHere w at o os m f
alone_seen w at o os m (here inside rest) s = alone_here w at o os inside rest m s
alone_seen w at o os m elsewhere (inl bad) = sym (ap (option_map (λ v. w.mark v m)) (alone_bad w.wanted w.reader at o os bad))
alone_seen w at o os m elsewhere (inr (h, e, tag)) = sym (ap (λ (r : Result AbstractValue AbstractBreach). option_map (λ v. w.mark v m) (ok r)) (alone_of w.wanted w.reader at (o ∷ os) h false e tag))
alone_seen w at o os m broken (inl bad) = sym (ap (option_map (λ v. w.mark v m)) (alone_bad w.wanted w.reader at o os bad))
alone_seen w at o os m broken (inr (h, e, tag, fails)) =
    sym (ap (option_map (λ v. w.mark v m)) (ap ok (alone_of w.wanted w.reader at (o ∷ os) h true e tag) ∙ nothing_after at h (o ∷ os) (w.reader at h (o ∷ os)) (fails at)))

pub alone_empty : (wanted : Tag → Bool) (reader : Reader) (at : ℕ) → ok (read.alone_at wanted reader at []) ≡ None
unfolding due_at read.alone_at head_of
alone_empty wanted reader at = refl

pub alone_read : (sight : Sight) (w : Way) → SightLaw sight w → (at : ℕ) (os : List ℕ) (m : Slots) → Digits os
    → (alone (sight os) >>= λ x. w.pass x m) ≡ option_map (λ v. w.mark v m) (ok (read.alone_at w.wanted w.reader at os))
alone_read sight w law at [] m digits = ap (λ (f : Front). alone f >>= λ x. w.pass x m) law.ended ∙ sym (ap (option_map (λ v. w.mark v m)) (alone_empty w.wanted w.reader at))
alone_read sight w law at (o ∷ os) m digits = alone_seen w at o os m (sight (o ∷ os)) (law.seen o os digits)
