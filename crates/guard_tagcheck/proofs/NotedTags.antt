-- Notes of tags: of one tag, and of the tags of one part after those of another.
use Rattle.std.proofs.Common.{◌≡◌, ℕ, ◌<◌, ◌≤◌, Bool, true, false, cond, eqb, List, [], ◌∷◌, Option, Some, None, ◌⊎◌, inl, inr, refl, sym, ap, ◌∙◌, arith}
use Rattle.std.specs.Prelude.{◌||◌, if◌then◌else◌}
use Rattle.std.specs.Option.{option_or}
use Rattle.std.proofs.Common.{Ordering}
use Rattle.std.specs.Ordering.{is_eq, nat_cmp}
use Rattle.std.specs.Map.{lookup}
use Rattle.std.specs.BTreeMap.{is_at}
use Rattle.std.proofs.Math.Nat.{min-eq_left, min-eq_right}
use Rattle.std.proofs.lemmas.Bool.{false≢true, cases_lt, cases_order, or_cases, or_left, or_right, lt-ltb, le-ltb, eq-eqb, ne_eqb}
use Rattle.std.proofs.lemmas.Option.{same_Some, none-some}
use Rattle.guard_model.specs.declared.tag.Tag.{Tag}
use Rattle.guard_model.specs.declared.tag.Class.{Class}
use Rattle.guard_model.specs.declared.tag.Class.TheVariants.{Universal, Application, Context, Private}
use Rattle.guard_model.specs.Tags.{same_tag}
use Rattle.guard_model.specs.contracts.tag.TagOrd.TheImpl as derived
use Rattle.guard_model.proofs.Tags.{equal_tags, same_tag_itself}
use Rattle.guard_tagcheck.specs.inside.Noting.{noted, IsEarliest, Notes, IsNoted, earlier}

-- ---- the derived order of tags says which are the same

same_number : (x y : ℕ) → is_eq (nat_cmp x y) ≡ eqb x y
same_number x y = elim (cases_order x y) [
  | inl same ↦ rw (le-ltb x y (omega (arith, same)), eq-eqb x y same) refl
  | inr (inl lt) ↦ rw (lt-ltb x y lt, ne_eqb x y (λ same. omega (arith, lt, same))) refl
  | inr (inr gt) ↦ rw (le-ltb x y (omega (arith, gt)), ne_eqb x y (λ same. omega (arith, gt, same))) refl
]

-- what `cmp` answers at tags
abbrev tag_cmp : Tag → Tag → Ordering
tag_cmp = (derived.cmp-value).it

abbrev of_class : Class → ℕ → Tag
of_class c n = record { class = c; number = n }

same_of_class : (c d : Class) (m n : ℕ) → is_eq (tag_cmp (of_class c m) (of_class d n)) ≡ same_tag (of_class c m) (of_class d n)
same_of_class Universal Universal m n = same_number m n
same_of_class Universal Application m n = refl
same_of_class Universal Context m n = refl
same_of_class Universal Private m n = refl
same_of_class Application Universal m n = refl
same_of_class Application Application m n = same_number m n
same_of_class Application Context m n = refl
same_of_class Application Private m n = refl
same_of_class Context Universal m n = refl
same_of_class Context Application m n = refl
same_of_class Context Context m n = same_number m n
same_of_class Context Private m n = refl
same_of_class Private Universal m n = refl
same_of_class Private Application m n = refl
same_of_class Private Context m n = refl
same_of_class Private Private m n = same_number m n

same_by_cmp : (a b : Tag) → is_eq (tag_cmp a b) ≡ same_tag a b
same_by_cmp a b = same_of_class a.class b.class a.number b.number

-- ---- what a map has at a tag

pub at_tag : (entries : List (Tag × ℕ)) (tag : Tag) → lookup (is_at (tag_cmp tag)) entries ≡ noted entries tag
at_tag [] tag = refl
at_tag (e ∷ entries) tag =
    ap (λ (same : Bool). cond same (Some e.1) (lookup (is_at (tag_cmp tag)) entries)) (same_by_cmp tag e.0) ∙ ap (λ (o : Option ℕ). cond (same_tag tag e.0) (Some e.1) o) (at_tag entries tag)

pub put_at : (old new : List (Tag × ℕ)) (tag : Tag) (p : ℕ)
    → ((other : Tag) → lookup (is_at (tag_cmp other)) new ≡ cond (is_at (tag_cmp tag) other) (Some p) (lookup (is_at (tag_cmp other)) old))
    → (other : Tag) → noted new other ≡ cond (same_tag tag other) (Some p) (noted old other)
put_at old new tag p put = λ other.
    sym (at_tag new other) ∙ put other
    ∙ ap (λ (same : Bool). cond same (Some p) (lookup (is_at (tag_cmp other)) old)) (same_by_cmp tag other)
    ∙ ap (λ (o : Option ℕ). cond (same_tag tag other) (Some p) o) (at_tag old other)

-- ---- the earliest position

pub earliest_from : (P Q : ℕ → Type 0) (r : Option ℕ) → ((i : ℕ) → P i → Q i) → ((i : ℕ) → Q i → (j : ℕ) × P j × (j ≤ i)) → IsEarliest P r → IsEarliest Q r
earliest_from P Q None to from none = λ i q. let p = from i q in none p.0 p.1
earliest_from P Q (Some r) to from (is, least) = (to r is, λ i q. let p = from i q in omega (arith, p.2, least p.0 p.1))

earliest_either : (P Q : ℕ → Type 0) (a b : Option ℕ) → IsEarliest P a → IsEarliest Q b → IsEarliest (λ i. P i ⊎ Q i) (earlier a b)
earliest_either P Q None None p q = λ i e. elim e [ inl x ↦ p i x | inr y ↦ q i y ]
earliest_either P Q None (Some j) p q = (inr q.0, λ i e. elim e [ inl x ↦ absurd (p i x) | inr y ↦ q.1 i y ])
earliest_either P Q (Some i) None p q = (inl p.0, λ k e. elim e [ inl x ↦ p.1 k x | inr y ↦ absurd (q k y) ])
earliest_either P Q (Some i) (Some j) p q = elim (cases_lt i j) [
  | inl lt ↦ rw (min-eq_left {n = i} {m = j} (omega (arith, lt))) (inl p.0, λ k e. elim e [ inl x ↦ p.1 k x | inr y ↦ omega (arith, lt, q.1 k y) ])
  | inr le ↦ rw (min-eq_right {n = j} {m = i} le) (inr q.0, λ k e. elim e [ inl x ↦ omega (arith, le, p.1 k x) | inr y ↦ q.1 k y ])
]

-- ---- no tags, and the tags of one part after those of another

nothing_more : (o : Option ℕ) → o ≡ option_or o None
nothing_more None = refl
nothing_more (Some i) = refl

pub none_noted : (old : Tag → Option ℕ) (p : ℕ) → Notes old (λ t. false) p old
none_noted old p = λ t. nothing_more (old t)

pub none_before : (old : Tag → Option ℕ) (p : ℕ) → IsEarliest (IsNoted old (λ t. false) p) None
none_before old p = λ i n. false≢true n.1

in_two_steps : (o : Option ℕ) (x y : Bool) (p : ℕ) → option_or (option_or o (if x then Some p else None)) (if y then Some p else None) ≡ option_or o (if x || y then Some p else None)
in_two_steps (Some i) x y p = refl
in_two_steps None true y p = refl
in_two_steps None false y p = refl

pub notes_both : (old mid new : Tag → Option ℕ) (a b : Tag → Bool) (p : ℕ) → Notes old a p mid → Notes mid b p new → Notes old (λ t. a t || b t) p new
notes_both old mid new a b p first second = λ t. second t ∙ ap (λ (o : Option ℕ). option_or o (if b t then Some p else None)) (first t) ∙ in_two_steps (old t) (a t) (b t) p

pub notes_alike : (old new : Tag → Option ℕ) (a b : Tag → Bool) (p : ℕ) → ((t : Tag) → a t ≡ b t) → Notes old a p new → Notes old b p new
notes_alike old new a b p alike noted = λ t. noted t ∙ ap (λ (x : Bool). option_or (old t) (if x then Some p else None)) (alike t)

pub earliest_alike : (old : Tag → Option ℕ) (a b : Tag → Bool) (p : ℕ) (r : Option ℕ) → ((t : Tag) → a t ≡ b t) → IsEarliest (IsNoted old a p) r → IsEarliest (IsNoted old b p) r
earliest_alike old a b p r alike first =
    earliest_from (IsNoted old a p) (IsNoted old b p) r (λ i n. (n.0, sym (alike n.0) ∙ n.1, n.2, n.3)) (λ i n. (i, (n.0, alike n.0 ∙ n.1, n.2, n.3), omega arith)) first

-- what is noted with an earlier position was noted before
noted_before : (o : Option ℕ) (x : Bool) (p i : ℕ) → option_or o (if x then Some p else None) ≡ Some i → i < p → o ≡ Some i
noted_before (Some j) x p i e lt = e
noted_before None true p i e lt = absurd (omega (arith, same_Some p i e, lt))
noted_before None false p i e lt = absurd (none-some i e)

pub earliest_both : (old mid : Tag → Option ℕ) (a b : Tag → Bool) (p : ℕ) (x y : Option ℕ)
    → Notes old a p mid → IsEarliest (IsNoted old a p) x → IsEarliest (IsNoted mid b p) y → IsEarliest (IsNoted old (λ t. a t || b t) p) (earlier x y)
earliest_both old mid a b p x y noted first later =
    let second = earliest_from (IsNoted mid b p) (IsNoted old b p) y
    (λ i n. (n.0, n.1, noted_before (old n.0) (a n.0) p i (sym (noted n.0) ∙ n.2) n.3, n.3))
    (λ i n. (i, (n.0, n.1, noted n.0 ∙ ap (λ (o : Option ℕ). option_or o (if a n.0 then Some p else None)) n.2, n.3), omega arith)) later in
    earliest_from (λ i. IsNoted old a p i ⊎ IsNoted old b p i) (IsNoted old (λ t. a t || b t) p) (earlier x y)
    (λ i e. elim e [ inl n ↦ (n.0, or_left (a n.0) (b n.0) n.1, n.2, n.3) | inr n ↦ (n.0, or_right (a n.0) (b n.0) n.1, n.2, n.3) ])
    (λ i n. (i, elim (or_cases (a n.0) (b n.0) n.1) [ inl here ↦ inl (n.0, here, n.2, n.3) | inr there ↦ inr (n.0, there, n.2, n.3) ], omega arith))
    (earliest_either (IsNoted old a p) (IsNoted old b p) x y first second)

-- ---- one tag

module _ (old : Tag → Option ℕ) (tag : Tag) (p : ℕ) where
  at_same : (o : Option ℕ) → old tag ≡ o → (other : Tag) → same_tag tag other ≡ true → old other ≡ o
  at_same o e other same = sym (ap old (equal_tags tag other same)) ∙ e

  stays : (o : Option ℕ) (x : Bool) (i : ℕ) → (x ≡ true → o ≡ Some i) → o ≡ option_or o (if x then Some p else None)
  stays (Some j) x i had = refl
  stays None true i had = absurd (none-some i (had refl))
  stays None false i had = refl

  pub tag_stays : (i : ℕ) → old tag ≡ Some i → Notes old (same_tag tag) p old
  tag_stays i had = λ other. stays (old other) (same_tag tag other) i (at_same (Some i) had other)

  pub tag_before : (i : ℕ) → old tag ≡ Some i → i < p → IsEarliest (IsNoted old (same_tag tag) p) (Some i)
  tag_before i had lt = ((tag, same_tag_itself tag, had, lt), λ j n. omega (arith, same_Some i j (sym (at_same (Some i) had n.0 n.1) ∙ n.2)))

  pub tag_not_before : (i : ℕ) → old tag ≡ Some i → p ≤ i → IsEarliest (IsNoted old (same_tag tag) p) None
  tag_not_before i had le = λ j n. omega (arith, le, n.3, same_Some i j (sym (at_same (Some i) had n.0 n.1) ∙ n.2))

  comes : (o : Option ℕ) (x : Bool) → (x ≡ true → o ≡ None) → cond x (Some p) o ≡ option_or o (if x then Some p else None)
  comes (Some j) true had = absurd (none-some j (sym (had refl)))
  comes (Some j) false had = refl
  comes None true had = refl
  comes None false had = refl

  pub tag_comes : (new : Tag → Option ℕ) → old tag ≡ None → ((other : Tag) → new other ≡ cond (same_tag tag other) (Some p) (old other)) → Notes old (same_tag tag) p new
  tag_comes new had put = λ other. put other ∙ comes (old other) (same_tag tag other) (at_same None had other)

  pub tag_unknown : old tag ≡ None → IsEarliest (IsNoted old (same_tag tag) p) None
  tag_unknown had = λ j n. none-some j (sym (at_same None had n.0 n.1) ∙ n.2)
