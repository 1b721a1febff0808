-- The order of tags, and of parts in it.
use Rattle.std.proofs.Common.{◌≡◌, ℕ, ◌<◌, ◌≤◌, Bool, true, false, cond, eqb, List, [], ◌∷◌, ◌++◌, refl, sym, ap, ◌∙◌, append_assoc, arith, inl, inr}
use Rattle.std.specs.Prelude.{◌&&◌, ◌⊎◌}
use Rattle.std.specs.declared.cmp.Ordering.{Ordering}
use Rattle.std.specs.declared.cmp.Ordering.TheVariants.{Less, Equal, Greater}
use Rattle.std.specs.Ordering.{is_lt, nat_cmp, ordering_then, MatchOrdering}
use Rattle.std.proofs.lemmas.Cmp.{ranked}
use Rattle.std.proofs.lemmas.Bool.{cond-true, cond-false, and_parts, and_from, eq-eqb, true_from_ne_false, false_from_ne_true}
use Rattle.std.proofs.lemmas.List.{append-nil}
use Rattle.guard_model.specs.Tags.{class_rank}
use Rattle.guard_model.specs.declared.tag.Tag.{Tag}
use Rattle.guard_der.specs.Der.{Part, tag_before, insert_part, ascending, parts_joined}
use Rattle.guard_der.specs.Breach.{is_after}
use Rattle.guard_model.proofs.Tags.{equal_tags}

-- ---- tags

abbrev Before : Tag → Tag → Type 0
Before a b = (class_rank a.class < class_rank b.class) ⊎ ((class_rank a.class ≡ class_rank b.class) × (a.number < b.number))

abbrev NotBefore : Tag → Tag → Type 0
NotBefore a b = (class_rank b.class < class_rank a.class) ⊎ ((class_rank a.class ≡ class_rank b.class) × (b.number ≤ a.number))

from_true : (a b : Tag) (o p : Ordering) → MatchOrdering o (class_rank a.class < class_rank b.class) (class_rank a.class ≡ class_rank b.class) (class_rank b.class < class_rank a.class) → MatchOrdering p (a.number < b.number) (a.number ≡ b.number) (b.number < a.number)
    → is_lt (ordering_then o p) ≡ true → Before a b
from_true a b Less p m n e = inl m
from_true a b Equal Less m n e = inr (m, n)
from_true a b Equal Equal m n e = absurd cc
from_true a b Equal Greater m n e = absurd cc
from_true a b Greater p m n e = absurd cc

from_false : (a b : Tag) (o p : Ordering) → MatchOrdering o (class_rank a.class < class_rank b.class) (class_rank a.class ≡ class_rank b.class) (class_rank b.class < class_rank a.class) → MatchOrdering p (a.number < b.number) (a.number ≡ b.number) (b.number < a.number)
    → is_lt (ordering_then o p) ≡ false → NotBefore a b
from_false a b Less p m n e = absurd cc
from_false a b Equal Less m n e = absurd cc
from_false a b Equal Equal m n e = inr (m, omega (arith, n))
from_false a b Equal Greater m n e = inr (m, omega (arith, n))
from_false a b Greater p m n e = inl m

before_is : (a b : Tag) → tag_before a b ≡ true → Before a b
before_is a b e =
    from_true a b (nat_cmp (class_rank a.class) (class_rank b.class)) (nat_cmp a.number b.number)
    (ranked (class_rank a.class) (class_rank b.class) (nat_cmp (class_rank a.class) (class_rank b.class)) refl) (ranked a.number b.number (nat_cmp a.number b.number) refl) e

not_before_is : (a b : Tag) → tag_before a b ≡ false → NotBefore a b
not_before_is a b e =
    from_false a b (nat_cmp (class_rank a.class) (class_rank b.class)) (nat_cmp a.number b.number)
    (ranked (class_rank a.class) (class_rank b.class) (nat_cmp (class_rank a.class) (class_rank b.class)) refl) (ranked a.number b.number (nat_cmp a.number b.number) refl) e

no_cycle : (a b c : Tag) → Before a b → Before b c → NotBefore a c → ⊥
no_cycle a b c (inl p) (inl q) (inl r) = absurd (omega (arith, p, q, r))
no_cycle a b c (inl p) (inl q) (inr r) = absurd (omega (arith, p, q, r.0, r.1))
no_cycle a b c (inl p) (inr q) (inl r) = absurd (omega (arith, p, q.0, q.1, r))
no_cycle a b c (inl p) (inr q) (inr r) = absurd (omega (arith, p, q.0, q.1, r.0, r.1))
no_cycle a b c (inr p) (inl q) (inl r) = absurd (omega (arith, p.0, p.1, q, r))
no_cycle a b c (inr p) (inl q) (inr r) = absurd (omega (arith, p.0, p.1, q, r.0, r.1))
no_cycle a b c (inr p) (inr q) (inl r) = absurd (omega (arith, p.0, p.1, q.0, q.1, r))
no_cycle a b c (inr p) (inr q) (inr r) = absurd (omega (arith, p.0, p.1, q.0, q.1, r.0, r.1))

not_both : (a b : Tag) → Before a b → Before b a → ⊥
not_both a b (inl p) (inl q) = absurd (omega (arith, p, q))
not_both a b (inl p) (inr q) = absurd (omega (arith, p, q.0, q.1))
not_both a b (inr p) (inl q) = absurd (omega (arith, p.0, p.1, q))
not_both a b (inr p) (inr q) = absurd (omega (arith, p.0, p.1, q.0, q.1))

level : (a b : Tag) → NotBefore a b → NotBefore b a → (class_rank a.class ≡ class_rank b.class) × (a.number ≡ b.number)
level a b (inl p) (inl q) = absurd (omega (arith, p, q))
level a b (inl p) (inr q) = absurd (omega (arith, p, q.0, q.1))
level a b (inr p) (inl q) = absurd (omega (arith, p.0, p.1, q))
level a b (inr p) (inr q) = (p.0, omega (arith, p.1, q.1))

pub before_on : (a b c : Tag) → tag_before a b ≡ true → tag_before b c ≡ true → tag_before a c ≡ true
before_on a b c p q = true_from_ne_false (tag_before a c) (λ e. no_cycle a b c (before_is a b p) (before_is b c q) (not_before_is a c e))

pub not_after : (a b : Tag) → tag_before a b ≡ true → tag_before b a ≡ false
not_after a b p = false_from_ne_true (tag_before b a) (λ e. not_both a b (before_is a b p) (before_is b a e))

pub only_same : (a b : Tag) → tag_before a b ≡ false → tag_before b a ≡ false → a ≡ b
only_same a b p q =
    let l = level a b (not_before_is a b p) (not_before_is b a q) in
    equal_tags a b (and_from (eqb (class_rank a.class) (class_rank b.class)) (eqb a.number b.number) (eq-eqb (class_rank a.class) (class_rank b.class) l.0) (eq-eqb a.number b.number l.1))

-- ---- parts

and_swap : (a b c : Bool) → (a && (b && c)) ≡ (b && (a && c))
and_swap true b c = refl
and_swap false true c = refl
and_swap false false c = refl

pub after_on : (t u : Tag) (ps : List Part) → is_after t ps ≡ true → tag_before t u ≡ true → is_after u ps ≡ true
after_on t u [] e before = refl
after_on t u (p ∷ ps) e before =
    let parts = and_parts (tag_before p.tag t) (is_after t ps) e in
    and_from (tag_before p.tag u) (is_after u ps) (before_on p.tag t u parts.0 before) (after_on t u ps parts.1 before)

pub after_between : (t : Tag) (xs ys : List Part) (p : Part) → is_after t (xs ++ p ∷ ys) ≡ (tag_before p.tag t && is_after t (xs ++ ys))
after_between t [] ys p = refl
after_between t (x ∷ xs) ys p = ap (λ (b : Bool). tag_before x.tag t && b) (after_between t xs ys p) ∙ and_swap (tag_before x.tag t) (tag_before p.tag t) (is_after t (xs ++ ys))

after_placed : (t : Tag) (p q : Part) (qs : List Part) (b : Bool) → is_after t (insert_part p qs) ≡ (tag_before p.tag t && is_after t qs)
    → is_after t (cond b (q ∷ insert_part p qs) (p ∷ q ∷ qs)) ≡ (tag_before p.tag t && (tag_before q.tag t && is_after t qs))
after_placed t p q qs true e = ap (λ (b : Bool). tag_before q.tag t && b) e ∙ and_swap (tag_before q.tag t) (tag_before p.tag t) (is_after t qs)
after_placed t p q qs false e = refl

after_inserted : (t : Tag) (p : Part) (qs : List Part) → is_after t (insert_part p qs) ≡ (tag_before p.tag t && is_after t qs)
after_inserted t p [] = refl
after_inserted t p (q ∷ qs) = after_placed t p q qs (tag_before q.tag p.tag) (after_inserted t p qs)

after_ascending : (t : Tag) (ps : List Part) → is_after t (ascending ps) ≡ is_after t ps
after_ascending t [] = refl
after_ascending t (p ∷ ps) = after_inserted t p (ascending ps) ∙ ap (λ (b : Bool). tag_before p.tag t && b) (after_ascending t ps)

inserted_last : (p : Part) (qs : List Part) → is_after p.tag qs ≡ true → insert_part p qs ≡ qs ++ p ∷ []
inserted_last p [] e = refl
inserted_last p (q ∷ qs) e =
    let parts = and_parts (tag_before q.tag p.tag) (is_after p.tag qs) e in
    cond-true (tag_before q.tag p.tag) _ _ parts.0 ∙ ap (λ (ps : List Part). q ∷ ps) (inserted_last p qs parts.1)

before_last : (p x q : Part) (qs : List Part) (b : Bool) → insert_part x (qs ++ p ∷ []) ≡ insert_part x qs ++ p ∷ []
    → cond b (q ∷ insert_part x (qs ++ p ∷ [])) (x ∷ q ∷ (qs ++ p ∷ [])) ≡ cond b (q ∷ insert_part x qs) (x ∷ q ∷ qs) ++ p ∷ []
before_last p x q qs true e = ap (λ (ps : List Part). q ∷ ps) e
before_last p x q qs false e = refl

inserted_before : (p x : Part) (qs : List Part) → tag_before p.tag x.tag ≡ false → insert_part x (qs ++ p ∷ []) ≡ insert_part x qs ++ p ∷ []
inserted_before p x [] e = cond-false (tag_before p.tag x.tag) _ _ e
inserted_before p x (q ∷ qs) e = before_last p x q qs (tag_before q.tag x.tag) (inserted_before p x qs e)

ascending_last : (xs ys : List Part) (p : Part) → is_after p.tag (xs ++ ys) ≡ true → ascending (xs ++ p ∷ ys) ≡ ascending (xs ++ ys) ++ p ∷ []
ascending_last [] ys p e = inserted_last p (ascending ys) (after_ascending p.tag ys ∙ e)
ascending_last (x ∷ xs) ys p e =
    let parts = and_parts (tag_before x.tag p.tag) (is_after p.tag (xs ++ ys)) e in
    ap (insert_part x) (ascending_last xs ys p parts.1) ∙ inserted_before p x (ascending (xs ++ ys)) (not_after x.tag p.tag parts.0)

joined_last : (qs : List Part) (p : Part) → parts_joined (qs ++ p ∷ []) ≡ parts_joined qs ++ p.octets
joined_last [] p = append-nil p.octets
joined_last (q ∷ qs) p = ap (λ (os : List ℕ). q.octets ++ os) (joined_last qs p) ∙ sym (append_assoc q.octets (parts_joined qs) p.octets)

-- a part whose tag comes after all others is sent last
pub joined_grows : (xs ys : List Part) (p : Part) → is_after p.tag (xs ++ ys) ≡ true → parts_joined (ascending (xs ++ p ∷ ys)) ≡ parts_joined (ascending (xs ++ ys)) ++ p.octets
joined_grows xs ys p e = ap parts_joined (ascending_last xs ys p e) ∙ joined_last (ascending (xs ++ ys)) p
