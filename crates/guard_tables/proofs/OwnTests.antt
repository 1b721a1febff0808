-- What the tests of a node ask of the value itself, and what of its parts.
use Rattle.std.proofs.Common.{◌≡◌, ℕ, Bool, true, false, cond, List, [], ◌∷◌, ◌++◌, Option, Some, None, refl, sym, ap, ◌∙◌, subst, IsTrue}
use Rattle.std.specs.Prelude.{pos, not, ◌&&◌, ◌||◌}
use Rattle.std.specs.Option.{is_some}
use Rattle.std.specs.List.{list_any, list_all}
use Rattle.guard_model.specs.AbstractType as type
use Rattle.guard_model.specs.AbstractType.{AbstractType, AbstractKind, Constraint}
use Rattle.guard_model.specs.AbstractValue as value
use Rattle.guard_model.specs.AbstractValue.{AbstractValue}
use Rattle.guard_model.specs.Kinds.{element_of, part_of, is_string}
use Rattle.guard_model.specs.Limits.{fits_128_bits}
use Rattle.guard_model.specs.Same.{same, same_numbers}
use Rattle.guard_tagcheck.specs.Search.{clash_of_kind}
use Rattle.guard_der.specs.Der.{contents_octets}
use Rattle.guard_der.specs.Fits.{fits_kind}
use Rattle.guard_model.specs.NamedLists.{is_item}
use Rattle.guard_der.specs.Sound.{is_proper_kind}
use Rattle.guard_eval.specs.Elements as elements
use Rattle.guard_eval.specs.Elements.{size_of, has_size, is_in_some, is_spelled_in, has_each}
use Rattle.guard_eval.specs.Presence.{part_at, is_there, if_there}
use Rattle.guard_eval.specs.Member.{holds}
use Rattle.guard_tables.specs.declared.slots.Slots.{Slots}
use Rattle.guard_tables.specs.Slots.{has}
use Rattle.guard_tables.specs.Formulas.{failed_unless}
use Rattle.guard_tables.specs.Plan.{AbstractTest, AbstractCondition}
use Rattle.guard_tables.specs.Marking.{Facts, facts_of, some_passes, test_passes, conditions_marked}
use Rattle.guard_tables.specs.Demands.{Atom, scalar, equals, sized, spelled, each, within, sent, unsent, Term, meets, passes, term_fails, terms_fail}
use Rattle.guard_tables.specs.Terms.{is_scalar}
use Rattle.guard_tables.specs.Apt.{IsAptFor, Speaks, AllSpeak}
use Rattle.guard_tables.specs.Lay.{no_value, truth_tests, scalar_tests, stored_test, tests_of, conditions_in, conditions_of}
use Rattle.guard_tables.proofs.Truths.{or_no, and_yes, and_no, or_again, crossed, nothing_more, both_fail, has_unless}
use Rattle.guard_tables.proofs.Telling.{standing_contents, standing_fits, tells}

-- ---- two sorts of tests

abbrev pub own_passes : Atom → AbstractValue → Bool
own_passes (scalar own c) v = holds c own v
own_passes (equals w) v = same w v
own_passes (sized c) v = has_size (holds c (type.integer [])) v
own_passes (spelled ranges) v = is_spelled_in ranges v
own_passes (each d) v = true
own_passes (within i d) v = true
own_passes (sent i) v = true
own_passes (unsent i) v = true

abbrev pub inside_passes : Atom → AbstractValue → Bool
inside_passes (scalar own c) v = true
inside_passes (equals w) v = true
inside_passes (sized c) v = true
inside_passes (spelled ranges) v = true
inside_passes (each d) v = has_each (meets d) v
inside_passes (within i d) v = if_there (meets d) (part_at i v)
inside_passes (sent i) v = is_there i v
inside_passes (unsent i) v = not (is_there i v)

abbrev pub own_fails : ℕ → AbstractValue → Term → Bool
own_fails slot v t = has t.slots slot && not (own_passes t.atom v)

abbrev pub own_fail : ℕ → AbstractValue → List Term → Bool
own_fail slot v ts = list_any (own_fails slot v) ts

abbrev pub inside_fails : ℕ → AbstractValue → Term → Bool
inside_fails slot v t = has t.slots slot && not (inside_passes t.atom v)

abbrev pub inside_fail : ℕ → AbstractValue → List Term → Bool
inside_fail slot v ts = list_any (inside_fails slot v) ts

one_sort : (k : Slots) (a : Atom) (v : AbstractValue) (slot : ℕ) → ((has k slot && not (inside_passes a v)) || (has k slot && not (own_passes a v))) ≡ (has k slot && not (passes a v))
one_sort k (scalar own c) v slot = ap (λ (b : Bool). b || (has k slot && not (holds c own v))) (and_no (has k slot))
one_sort k (equals w) v slot = ap (λ (b : Bool). b || (has k slot && not (same w v))) (and_no (has k slot))
one_sort k (sized c) v slot = ap (λ (b : Bool). b || (has k slot && not (has_size (holds c (type.integer [])) v))) (and_no (has k slot))
one_sort k (spelled ranges) v slot = ap (λ (b : Bool). b || (has k slot && not (is_spelled_in ranges v))) (and_no (has k slot))
one_sort k (each d) v slot = sym (nothing_more (has k slot && not (has_each (meets d) v)) (has k slot))
one_sort k (within i d) v slot = sym (nothing_more (has k slot && not (if_there (meets d) (part_at i v))) (has k slot))
one_sort k (sent i) v slot = sym (nothing_more (has k slot && not (is_there i v)) (has k slot))
one_sort k (unsent i) v slot = sym (nothing_more (has k slot && not (not (is_there i v))) (has k slot))

pub two_sorts : (ts : List Term) (v : AbstractValue) (slot : ℕ) → (inside_fail slot v ts || own_fail slot v ts) ≡ terms_fail slot v ts
two_sorts [] v slot = refl
two_sorts (t ∷ ts) v slot =
    crossed (inside_fails slot v t) (inside_fail slot v ts) (own_fails slot v t) (own_fail slot v ts)
    ∙ ap (λ (b : Bool). b || (inside_fail slot v ts || own_fail slot v ts)) (one_sort t.slots t.atom v slot)
    ∙ ap (λ (b : Bool). term_fails slot v t || b) (two_sorts ts v slot)

-- ---- tests of a scalar

abbrev all_pass : List AbstractTest → Facts → Bool
all_pass ts f = list_all (λ (t : AbstractTest). test_passes t f) ts

true_told : (yes other : Bool) → all_pass (truth_tests yes other) (facts_of type.boolean (value.boolean true)) ≡ yes
true_told true true = refl
true_told true false = refl
true_told false true = refl
true_told false false = refl

false_told : (other yes : Bool) → all_pass (truth_tests other yes) (facts_of type.boolean (value.boolean false)) ≡ yes
false_told true true = refl
false_told true false = refl
false_told false true = refl
false_told false false = refl

null_told : (b : Bool) → all_pass (cond b [] (no_value ∷ [])) (facts_of type.null value.null) ≡ b
null_told true = refl
null_told false = refl

in_limits : (a b : Bool) → a ≡ true → ((a && b) && true) ≡ b
in_limits a b e = rw e (and_yes b)

scalar_told : (kind : AbstractKind) → is_scalar kind ≡ true → (test : AbstractValue → Bool) (v : AbstractValue) → IsTrue (fits_kind kind v) → all_pass (scalar_tests kind test) (facts_of kind v) ≡ test v
scalar_told type.boolean e test (value.boolean true) fit = true_told (test (value.boolean true)) (test (value.boolean false))
scalar_told type.boolean e test (value.boolean false) fit = false_told (test (value.boolean true)) (test (value.boolean false))
scalar_told (type.integer names) e test (value.integer z) fit = in_limits (fits_128_bits z) (test (value.integer z)) fit
scalar_told (type.enumerated items) e test (value.enumerated z) fit = in_limits (fits_128_bits z && is_item z items) (test (value.enumerated z)) fit
scalar_told type.null e test value.null fit = null_told (test value.null)
scalar_told type.boolean e test v fit = absurd cc
scalar_told (type.integer names) e test v fit = absurd cc
scalar_told (type.enumerated items) e test v fit = absurd cc
scalar_told type.null e test v fit = absurd cc
scalar_told _ e test v fit = absurd cc

-- ---- all tests of the value itself

size_told : (c : Constraint) (o : Option ℕ)
    → (some_passes (λ n. fits_128_bits (pos n) && holds c (type.integer []) (value.integer (pos n))) o && true) ≡ elements.some_passes (holds c (type.integer [])) o
size_told c None = refl
size_told c (Some n) = and_yes (fits_128_bits (pos n) && holds c (type.integer []) (value.integer (pos n)))

characters_told : (kind : AbstractKind) → IsTrue (is_string kind) → (ranges : List (ℕ × ℕ)) (v : AbstractValue) → IsTrue (fits_kind kind v) → all_pass (tests_of kind (spelled ranges)) (facts_of kind v) ≡ is_spelled_in ranges v
characters_told (type.characters k) e ranges (value.characters cs) fit = and_yes (list_all (is_in_some ranges) cs)
characters_told (type.characters k) e ranges v fit = absurd cc
characters_told _ e ranges v fit = absurd cc

atom_told : (kind : AbstractKind) → is_proper_kind kind ≡ true → clash_of_kind kind ≡ None → (a : Atom) → Speaks kind a → (v : AbstractValue) → IsTrue (fits_kind kind v)
    → all_pass (tests_of kind a) (facts_of kind v) ≡ own_passes a v
atom_told kind proper none (scalar own c) s v fit = scalar_told kind s.0 (holds c own) v fit
atom_told kind proper none (equals w) s v fit =
    let c = standing_contents kind s.1 w s.2 s.3 in
    ap (λ (o : Option (List ℕ)). test_passes (stored_test o) (facts_of kind v) && true) c.are
    ∙ and_yes (some_passes (same_numbers c.octets) (contents_octets kind v))
    ∙ tells kind proper none w v c (standing_fits kind s.1 w s.2 s.3) fit
atom_told kind proper none (sized c) s v fit = size_told c (size_of v)
atom_told kind proper none (spelled ranges) s v fit = characters_told kind s ranges v fit
atom_told kind proper none (each d) s v fit = refl
atom_told kind proper none (within i d) s v fit = refl
atom_told kind proper none (sent i) s v fit = refl
atom_told kind proper none (unsent i) s v fit = refl

tests_mark : (k : Slots) (tests : List AbstractTest) (f : Facts) (m : Slots) (slot : ℕ) → has (conditions_marked (conditions_in k tests) f m) slot ≡ (has m slot || (has k slot && not (all_pass tests f)))
tests_mark k [] f m slot = nothing_more (has m slot) (has k slot)
tests_mark k (t ∷ ts) f m slot =
    tests_mark k ts f (failed_unless (test_passes t f) k m) slot
    ∙ ap (λ (b : Bool). b || (has k slot && not (all_pass ts f))) (has_unless (test_passes t f) k m slot)
    ∙ both_fail (has m slot) (has k slot) (test_passes t f) (all_pass ts f)

marked_both : (xs ys : List AbstractCondition) (f : Facts) (m : Slots) → conditions_marked (xs ++ ys) f m ≡ conditions_marked ys f (conditions_marked xs f m)
marked_both [] ys f m = refl
marked_both (x ∷ xs) ys f m = marked_both xs ys f (failed_unless (test_passes x.test f) x.slots m)

-- The conditions of a node fail what its tests of the value itself fail.
pub own_laid : (kind : AbstractKind) → is_proper_kind kind ≡ true → clash_of_kind kind ≡ None → (ts : List Term) → AllSpeak kind ts → (v : AbstractValue) → IsTrue (fits_kind kind v) → (m : Slots) (slot : ℕ)
    → has (conditions_marked (conditions_of kind ts) (facts_of kind v) m) slot ≡ (has m slot || own_fail slot v ts)
own_laid kind proper none [] s v fit m slot = sym (or_no (has m slot))
own_laid kind proper none (t ∷ ts) s v fit m slot =
    let first : List AbstractCondition = conditions_in t.slots (tests_of kind t.atom) in
    ap (λ (x : Slots). has x slot) (marked_both first (conditions_of kind ts) (facts_of kind v) m)
    ∙ own_laid kind proper none ts s.1 v fit (conditions_marked first (facts_of kind v) m) slot
    ∙ ap (λ (b : Bool). b || own_fail slot v ts)
    (tests_mark t.slots (tests_of kind t.atom) (facts_of kind v) m slot ∙ ap (λ (b : Bool). has m slot || (has t.slots slot && not b)) (atom_told kind proper none t.atom s.0 v fit))
    ∙ or_again (has m slot) (own_fails slot v t) (own_fail slot v ts)

-- ---- kinds without parts

no_part_asked : (kind : AbstractKind) → element_of kind ≡ None → ((i : ℕ) → part_of i kind ≡ None) → (a : Atom) → Speaks kind a → (v : AbstractValue) → inside_passes a v ≡ true
no_part_asked kind e p (scalar own c) s v = refl
no_part_asked kind e p (equals w) s v = refl
no_part_asked kind e p (sized c) s v = refl
no_part_asked kind e p (spelled ranges) s v = refl
no_part_asked kind e p (each d) s v = absurd (subst (λ (o : Option AbstractType). IsAptFor o d) e s)
no_part_asked kind e p (within i d) s v = absurd (subst (λ (o : Option AbstractType). IsAptFor o d) (p i) s)
no_part_asked kind e p (sent i) s v = absurd (not_there (part_of i kind) (p i) s)
  where
    not_there : (o : Option AbstractType) → o ≡ None → IsTrue (is_some o) → ⊥
    not_there None e h = absurd cc
    not_there (Some t) e h = absurd cc
no_part_asked kind e p (unsent i) s v = absurd (not_there (part_of i kind) (p i) s)
  where
    not_there : (o : Option AbstractType) → o ≡ None → IsTrue (is_some o) → ⊥
    not_there None e h = absurd cc
    not_there (Some t) e h = absurd cc

no_part_fails : (kind : AbstractKind) → element_of kind ≡ None → ((i : ℕ) → part_of i kind ≡ None) → (ts : List Term) → AllSpeak kind ts → (v : AbstractValue) (slot : ℕ) → inside_fail slot v ts ≡ false
no_part_fails kind e p [] s v slot = refl
no_part_fails kind e p (t ∷ ts) s v slot =
    ap (λ (b : Bool). (has t.slots slot && not b) || inside_fail slot v ts) (no_part_asked kind e p t.atom s.0 v)
    ∙ ap (λ (b : Bool). b || inside_fail slot v ts) (and_no (has t.slots slot))
    ∙ no_part_fails kind e p ts s.1 v slot

pub simple_laid : (kind : AbstractKind) → is_proper_kind kind ≡ true → clash_of_kind kind ≡ None → element_of kind ≡ None → ((i : ℕ) → part_of i kind ≡ None)
    → (ts : List Term) → AllSpeak kind ts → (v : AbstractValue) → IsTrue (fits_kind kind v) → (m : Slots) (slot : ℕ)
    → has (conditions_marked (conditions_of kind ts) (facts_of kind v) m) slot ≡ (has m slot || terms_fail slot v ts)
simple_laid kind proper none e p ts s v fit m slot =
    own_laid kind proper none ts s v fit m slot
    ∙ ap (λ (b : Bool). has m slot || (b || own_fail slot v ts)) (sym (no_part_fails kind e p ts s v slot))
    ∙ ap (λ (b : Bool). has m slot || b) (two_sorts ts v slot)

-- where the parts fail what is asked of them, the whole does so too
pub whole_laid : (kind : AbstractKind) → is_proper_kind kind ≡ true → clash_of_kind kind ≡ None → (ts : List Term) → AllSpeak kind ts → (v : AbstractValue) → IsTrue (fits_kind kind v) → (m inner : Slots) (slot : ℕ)
    → has inner slot ≡ (has m slot || inside_fail slot v ts) → has (conditions_marked (conditions_of kind ts) (facts_of kind v) inner) slot ≡ (has m slot || terms_fail slot v ts)
whole_laid kind proper none ts s v fit m inner slot h =
    own_laid kind proper none ts s v fit inner slot
    ∙ ap (λ (b : Bool). b || own_fail slot v ts) h
    ∙ or_again (has m slot) (inside_fail slot v ts) (own_fail slot v ts)
    ∙ ap (λ (b : Bool). has m slot || b) (two_sorts ts v slot)
