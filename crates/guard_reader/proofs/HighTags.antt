-- An element with a tag that two octets spell.
use Rattle.std.proofs.Common.{◌≡◌, ℕ, suc, ◌+◌, ◌-◌, ◌*◌, ◌%◌, ◌<◌, ◌≤◌, Bool, true, false, eqb, leb, ltb, List, [], ◌∷◌, length, get_or, take, drop, Some, None, Result, Ok, Err, cond, refl, sym, ap, ◌∙◌, arith, length-drop}
use Rattle.std.proofs.lemmas.Bool.{cond-true, cond-false, lt-ltb, le-ltb, ne_eqb}
use Rattle.std.proofs.lemmas.List.{take_rest}
use Rattle.guard_model.specs.Answer as answer
use Rattle.guard_model.specs.declared.tag.Class.{Class}
use Rattle.guard_model.specs.declared.tag.Class.TheVariants.{Universal, Application, Context, Private}
use Rattle.guard_model.specs.declared.tag.Tag.{Tag}
use Rattle.guard_model.specs.Tags.{class_rank, same_tag}
use Rattle.guard_model.proofs.Tags.{same_tag_itself}
use Rattle.guard_der.specs.declared.breach.Code.{Code}
use Rattle.guard_der.specs.declared.breach.Code.TheVariants as code
use Rattle.guard_der.specs.Element.{form_bit}
use Rattle.guard_der.specs.Head.{Head, class_of, head_of, high_number, length_at, number_from, tag_number}
use Rattle.guard_der.specs.Reading.{same_form}
use Rattle.guard_reader.specs.Fronts.{Front, here, after_one, front_cut, front_headed, head_front}
use Rattle.guard_reader.specs.Octets.{cut_at, split}
use Rattle.guard_reader.specs.inside.HighTags.{IsSpelled}
use Rattle.guard_reader.proofs.Fronts.{drop_twice, form_itself, suffix}

leading_class : (k : Class) (c : Bool) → class_of (64 * class_rank k + form_bit c + 31) ≡ k
leading_class Universal true = refl
leading_class Universal false = refl
leading_class Application true = refl
leading_class Application false = refl
leading_class Context true = refl
leading_class Context false = refl
leading_class Private true = refl
leading_class Private false = refl

leading_form : (k : Class) (c : Bool) → leb 32 ((64 * class_rank k + form_bit c + 31) % 64) ≡ c
leading_form Universal true = refl
leading_form Universal false = refl
leading_form Application true = refl
leading_form Application false = refl
leading_form Context true = refl
leading_form Context false = refl
leading_form Private true = refl
leading_form Private false = refl

leading_number : (k : Class) (c : Bool) → (64 * class_rank k + form_bit c + 31) % 32 ≡ 31
leading_number Universal true = refl
leading_number Universal false = refl
leading_number Application true = refl
leading_number Application false = refl
leading_number Context true = refl
leading_number Context false = refl
leading_number Private true = refl
leading_number Private false = refl

one_octet : (n : ℕ) (os : List ℕ) → 31 ≤ n → n < 128 → high_number (n ∷ os) ≡ Ok (n, os)
unfolding high_number number_from
one_octet n os high short =
    let read : ℕ → ℕ × List ℕ = λ k. (k, os) in
    let same : 0 * 128 + n ≡ n = omega arith in
    cond-false (eqb n 128) (Err code.TagForm) _ (ne_eqb n 128 (λ e. absurd (omega (arith, e, short))))
    ∙ ap (λ (r : Result (ℕ × List ℕ) Code). answer.◌>>=◌ r (λ r. cond (ltb r.0 31) (Err code.TagForm) (Ok r))) (cond-true (ltb n 128) (Ok (read (0 * 128 + n))) _ (lt-ltb n 128 short))
    ∙ ap (λ (k : ℕ). cond (ltb k 31) (Err code.TagForm) (Ok (read k))) same
    ∙ cond-false (ltb n 31) (Err code.TagForm) (Ok (read n)) (le-ltb n 31 high)

number_there : (n : ℕ) (os : List ℕ) → 31 ≤ n → n < 128 → tag_number 31 (n ∷ os) ≡ Ok (n, os)
unfolding tag_number
number_there n os high short = one_octet n os high short

-- ---- headers with two identifier octets

abbrev head_from : Class → ℕ → Bool → List ℕ → ℕ × List ℕ → Head
head_from k n c os l = record { tag = record { class = k; number = n }; constructed = c; size = suc (suc (length os)) - length l.1; contents = l.0 }

abbrev head_with : Class → ℕ → Bool → List ℕ → ℕ × List ℕ → Result Head Code
head_with k n c os l = cond (ltb (length l.1) l.0) (Err code.Truncated) (Ok (head_from k n c os l))

abbrev head_after : ℕ → ℕ → List ℕ → Result (ℕ × List ℕ) Code → Result Head Code
head_after o n os r =
    answer.◌>>=◌ r (λ t. answer.◌>>=◌ (length_at t.1) (λ l. cond (ltb (length l.1) l.0) (Err code.Truncated) (Ok (record { tag = record { class = class_of o; number = t.0 }; constructed = leb 32 (o % 64); size = length (o ∷ n ∷ os) - length l.1; contents = l.0 }))))

head_starts : (o n : ℕ) (os : List ℕ) → head_of (o ∷ n ∷ os) ≡ head_after o n os (tag_number (o % 32) (n ∷ os))
unfolding head_of
head_starts o n os = refl

high_head : (k : Class) (c : Bool) (n : ℕ) (os : List ℕ) → 31 ≤ n → n < 128 → head_of ((64 * class_rank k + form_bit c + 31) ∷ n ∷ os) ≡ answer.◌>>=◌ (length_at os) (head_with k n c os)
high_head k c n os high short =
    let o = 64 * class_rank k + form_bit c + 31 in
    head_starts o n os
    ∙ ap (λ (low : ℕ). head_after o n os (tag_number low (n ∷ os))) (leading_number k c)
    ∙ ap (head_after o n os) (number_there n os high short)
    ∙ ap (λ (k : Class). answer.◌>>=◌ (length_at os) (head_with k n (leb 32 (o % 64)) os)) (leading_class k c)
    ∙ ap (λ (c : Bool). answer.◌>>=◌ (length_at os) (head_with k n c os)) (leading_form k c)

-- ---- what is at the front

abbrev front_from : Tag → Bool → ℕ → List ℕ → Result Head Code → Front
front_from t c o os r = front_headed t c (o ∷ t.number ∷ os) r

whole : (t : Tag) (c : Bool) (o : ℕ) (os : List ℕ) (l : ℕ × List ℕ) → length_at os ≡ Ok l → here (take l.0 l.1) (drop l.0 l.1) ≡ front_from t c o os (Ok (head_from t.class t.number c os l))
whole t c o os l e =
    let all = o ∷ t.number ∷ os in
    let h = head_from t.class t.number c os l in
    let s = suffix os l e in
    let size : h.size ≡ suc (suc s.0) = omega (arith, ap length s.1, length-drop s.0 os, s.2) in
    let behind : drop h.size all ≡ l.1 = ap (λ (k : ℕ). drop k all) size ∙ sym s.1 in
    let rest : drop (h.size + h.contents) all ≡ drop l.0 l.1 = sym (drop_twice l.0 h.size all) ∙ ap (drop l.0) behind in
    sym (cond-true (same_tag t h.tag) _ _ (same_tag_itself t) ∙ cond-true (same_form h.constructed c) _ _ (form_itself c)
    ∙ ap (λ (inside : List ℕ). here (take l.0 inside) (drop (h.size + h.contents) all)) behind ∙ ap (here (take l.0 l.1)) rest)

by_room : (t : Tag) (c : Bool) (o : ℕ) (os : List ℕ) (l : ℕ × List ℕ) (short : Bool) → length_at os ≡ Ok l
    → front_cut (cond short None (Some (take l.0 l.1, drop l.0 l.1))) ≡ front_from t c o os (cond short (Err code.Truncated) (Ok (head_from t.class t.number c os l)))
by_room t c o os l true e = refl
by_room t c o os l false e = whole t c o os l e

by_length : (t : Tag) (c : Bool) (o : ℕ) (os : List ℕ) (r : Result (ℕ × List ℕ) Code) → length_at os ≡ r → front_cut (cut_at r) ≡ front_from t c o os (answer.◌>>=◌ r (head_with t.class t.number c os))
by_length t c o os (Err k) e = refl
by_length t c o os (Ok l) e = by_room t c o os l (ltb (length l.1) l.0) e

read_there : (t : Tag) (c : Bool) (os : List ℕ) → 31 ≤ t.number → t.number < 128 → front_cut (split os) ≡ head_front t c ((64 * class_rank t.class + form_bit c + 31) ∷ t.number ∷ os)
unfolding split head_front
read_there t c os high short =
    let o = 64 * class_rank t.class + form_bit c + 31 in
    by_length t c o os (length_at os) refl ∙ ap (front_from t c o os) (sym (high_head t.class c t.number os high short))

pub spelled_front : (t : Tag) (c : Bool) (first number : ℕ) (os : List ℕ) → IsSpelled t c first number → front_cut (split os) ≡ head_front t c (first ∷ number ∷ os)
spelled_front t c first number os s = rw (s.leading, s.same) (read_there t c os (omega (arith, s.high, s.same)) (omega (arith, s.short, s.same)))

pub spelled_there : (t : Tag) (c : Bool) (first number : ℕ) (os : List ℕ) → 2 ≤ length os → first ≡ get_or os 0 0 → number ≡ get_or os 1 0 → IsSpelled t c first number → front_cut (split (after_one (take (length os - 1) (drop 1 os)))) ≡ head_front t c os
spelled_there t c first number [] some is at s = absurd (omega (arith, some))
spelled_there t c first number (o ∷ []) some is at s = absurd (omega (arith, some))
spelled_there t c first number (o ∷ n ∷ os) some is at s =
    ap (λ (rest : List ℕ). front_cut (split (after_one rest))) (take_rest (o ∷ n ∷ os) 1)
    ∙ rw (← is, ← at) (spelled_front t c first number os s)
