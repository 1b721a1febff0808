-- What is at the front of octets tells of the tag there.
use Rattle.std.proofs.Common.{◌≡◌, ℕ, ◌+◌, ◌<◌, ◌≤◌, Bool, true, false, eqb, ltb, cond, List, [], ◌∷◌, length, take, drop, Option, Some, None, Result, Ok, Err, refl, sym, ap, subst, ◌∙◌, arith, inl, inr}
use Rattle.std.specs.Prelude.{◌⊎◌, not, IfSome}
use Rattle.std.proofs.lemmas.Bool.{ne_eqb, le-ltb, ltb-true, eqb-true}
use Rattle.std.proofs.lemmas.Option.{same_Some}
use Rattle.guard_model.specs.declared.tag.Tag.{Tag}
use Rattle.guard_model.specs.Tags.{same_tag}
use Rattle.guard_model.proofs.Tags.{equal_tags}
use Rattle.guard_der.specs.declared.breach.Code.{Code}
use Rattle.guard_der.specs.Head.{Head, head_of}
use Rattle.guard_der.specs.Reading.{same_form}
use Rattle.guard_tables.specs.NodeViews.{octet_of, outer_form}
use Rattle.guard_tables.specs.Plan.{Plan, plan}
use Rattle.guard_reader.specs.Fronts.{Front, here, elsewhere, broken, body_front, front, front_cut, front_headed, head_front, octet_front, tagged_front}
use Rattle.guard_reader.specs.Judging.{tag_at}
use Rattle.guard_reader.specs.Octets.{◌>>=◌, ok, split}
use Rattle.guard_reader.specs.inside.FrontViews.{outermost}
use Rattle.guard_reader.proofs.Fronts.{there}
use Rattle.guard_reader.proofs.Places.{turned_front}
use Rattle.guard_reader.proofs.Sights.{low_front, high_front}

-- an element of the tag, or in its place none
abbrev pub Speaks : Tag → List ℕ → Front → Type 0
Speaks t os (here inside rest) = tag_at os ≡ Some t
Speaks t os elsewhere = Unit {0}
Speaks t os broken = (eqb (length os) 0 ≡ false) × ((tag_at os ≡ None) ⊎ (tag_at os ≡ Some t))

some : (o : ℕ) (os : List ℕ) → eqb (length (o ∷ os)) 0 ≡ false
some o os = ne_eqb (length (o ∷ os)) 0 (λ e. absurd (omega (arith, e)))

abbrev tag_in : Result Head Code → Option Tag
tag_in r = ok r >>= λ h. Some h.tag

tag_bad : (os : List ℕ) (c : Code) → head_of os ≡ Err c → tag_at os ≡ None
tag_bad os c e = ap tag_in e

tag_is : (t : Tag) (os : List ℕ) (h : Head) → head_of os ≡ Ok h → same_tag t h.tag ≡ true → tag_at os ≡ Some t
tag_is t os h e same = ap tag_in e ∙ ap (λ (t : Tag). Some t) (sym (equal_tags t h.tag same))

-- ---- by a header

tested : (t : Tag) (o : ℕ) (os inside rest : List ℕ) (h : Head) (same form : Bool) → head_of (o ∷ os) ≡ Ok h → same_tag t h.tag ≡ same → Speaks t (o ∷ os) (cond same (cond form (here inside rest) broken) elsewhere)
tested t o os inside rest h true true e is = tag_is t (o ∷ os) h e is
tested t o os inside rest h true false e is = (some o os, inr (tag_is t (o ∷ os) h e is))
tested t o os inside rest h false form e is = tt

headed_speaks : (t : Tag) (c : Bool) (o : ℕ) (os : List ℕ) (r : Result Head Code) → head_of (o ∷ os) ≡ r → Speaks t (o ∷ os) (front_headed t c (o ∷ os) r)
headed_speaks t c o os (Err k) e = (some o os, inl (tag_bad (o ∷ os) k e))
headed_speaks t c o os (Ok h) e = tested t o os (take h.contents (drop h.size (o ∷ os))) (drop (h.size + h.contents) (o ∷ os)) h (same_tag t h.tag) (same_form h.constructed c) e refl

head_speaks : (t : Tag) (c : Bool) (os : List ℕ) → Speaks t os (head_front t c os)
unfolding head_front
head_speaks t c [] = tt
head_speaks t c (o ∷ os) = headed_speaks t c o os (head_of (o ∷ os)) refl

-- ---- by an octet

abbrev AtOctet : Tag → ℕ → List ℕ → Front → Type 0
AtOctet t o os f = Speaks t (o ∷ os) f

cut_speaks : (t : Tag) (c : Bool) (os : List ℕ) → t.number < 31 → Speaks t (octet_of t c ∷ os) (front_cut (split os))
cut_speaks t c os low = elim (there t c os low) [
  | inl bad ↦ subst (λ (r : Option (List ℕ × List ℕ)). Speaks t (octet_of t c ∷ os) (front_cut r)) (sym bad.0) (some (octet_of t c) os, inl (tag_bad (octet_of t c ∷ os) bad.1.code bad.1.header_is))
  | inr f ↦ subst (λ (r : Option (List ℕ × List ℕ)). Speaks t (octet_of t c ∷ os) (front_cut r)) (sym f.cut) (ap tag_in f.whole.header_is ∙ ap (λ (t : Tag). Some t) f.whole.tag)
]

turned_speaks : (t : Tag) (c : Bool) (os : List ℕ) → t.number < 31 → Speaks t (octet_of t (not c) ∷ os) broken
turned_speaks t c os low = (
  some (octet_of t (not c)) os,
  elim (turned_front t c os low) [
    | inl bad ↦ inl (tag_bad (octet_of t (not c) ∷ os) bad.0 bad.1)
    | inr (h, e, same, form) ↦ inr (tag_is t (octet_of t (not c) ∷ os) h e same)
  ],
)

octet_tested : (t : Tag) (c : Bool) (o : ℕ) (os : List ℕ) (first other : Bool) → t.number < 31 → eqb o (octet_of t c) ≡ first → eqb o (octet_of t (not c)) ≡ other
    → Speaks t (o ∷ os) (cond first (front_cut (split os)) (cond other broken elsewhere))
octet_tested t c o os true other low is at = subst (λ (o : ℕ). Speaks t (o ∷ os) (front_cut (split os))) (sym (eqb-true o (octet_of t c) is)) (cut_speaks t c os low)
octet_tested t c o os false true low is at = subst (λ (o : ℕ). Speaks t (o ∷ os) broken) (sym (eqb-true o (octet_of t (not c)) at)) (turned_speaks t c os low)
octet_tested t c o os false false low is at = tt

octet_speaks : (t : Tag) (c : Bool) (os : List ℕ) → t.number < 31 → Speaks t os (octet_front (octet_of t c) (octet_of t (not c)) os)
unfolding octet_front
octet_speaks t c [] low = tt
octet_speaks t c (o ∷ os) low = octet_tested t c o os (eqb o (octet_of t c)) (eqb o (octet_of t (not c))) low refl refl

-- ---- by a plan

by_number : (t : Tag) (ts : List Tag) (c : Bool) (os : List ℕ) (untagged : Front) (low : Bool) → ltb t.number 31 ≡ low → Speaks t os (tagged_front (t ∷ ts) c os untagged)
by_number t ts c os untagged true low =
    let small : t.number < 31 = ltb-true t.number 31 low in
    subst (λ (f : Front). Speaks t os f) (sym (low_front t ts c os untagged small)) (octet_speaks t (outer_form ts c) os small)
by_number t ts c os untagged false high = subst (λ (f : Front). Speaks t os f) (sym (high_front t ts c os untagged high)) (head_speaks t (outer_form ts c) os)

pub front_speaks : (p : Plan) (t : Tag) (os : List ℕ) → (outermost p).0 ≡ Some t → Speaks t os (front p os)
unfolding front
front_speaks (plan [] c b) t os e = absurd cc
front_speaks (plan (u ∷ ts) c b) t os e = subst (λ (t : Tag). Speaks t os (tagged_front (u ∷ ts) c os (body_front b os))) (same_Some u t e) (by_number u ts c os (body_front b os) (ltb u.number 31) refl)

-- ---- tags with numbers from 31 on

pub high_sight : (p : Plan) (os : List ℕ) (tag : Tag) (form : Bool) → outermost p ≡ (Some tag, form) → 31 ≤ tag.number → front p os ≡ head_front tag form os
unfolding front
high_sight (plan [] f b) os tag form e high = let none : ◌≡◌ {A = Option Tag} None (Some tag) = ap (λ (x : Option Tag × Bool). x.0) e in absurd cc
high_sight (plan (u ∷ ts) f b) os tag form e high =
    let is : u ≡ tag = same_Some u tag (ap (λ (x : Option Tag × Bool). x.0) e) in
    let form_is : outer_form ts f ≡ form = ap (λ (x : Option Tag × Bool). x.1) e in
    high_front u ts f os (body_front b os) (le-ltb u.number 31 (omega (arith, high, ap (λ (t : Tag). t.number) is)))
    ∙ ap (λ (t : Tag). head_front t (outer_form ts f) os) is ∙ ap (λ (c : Bool). head_front tag c os) form_is

pub high_after : {A : Type 0} (r : Option A) (p : Plan) (os : List ℕ) (tag : Tag) (form : Bool) (cut : A → Front) → outermost p ≡ (Some tag, form)
    → IfSome r (λ x. 31 ≤ tag.number) → IfSome r (λ x. cut x ≡ head_front tag form os) → IfSome r (λ x. front p os ≡ cut x)
high_after None p os tag form cut e high same = tt
high_after (Some x) p os tag form cut e high same = high_sight p os tag form e high ∙ sym same
