-- The integers that a constraint allows as one set.
use Rattle.std.proofs.Common.{◌≡◌, ℕ, ◌+◌, ◌<◌, ◌≤◌, Result, Ok, Err, IfOk, ℤ, Bool, true, false, not, ◌&&◌, ◌||◌, List, [], ◌∷◌, ◌++◌, length, get_or, map, drop, refl, sym, ap, ◌∙◌, arith}
use Rattle.std.proofs.lemmas.List.{at_drop_more, at_drop_all}
use Rattle.std.proofs.lemmas.List.Folds.{list_any-append}
use Rattle.guard_integers.specs.Integers as integers
use Rattle.guard_integers.specs.Integers.{Integers, some_holds}
use Rattle.guard_model.specs.declared.tag.Tag.{Tag}
use Rattle.guard_model.specs.declared.ty.Cons.{Cons}
use Rattle.guard_model.specs.AbstractType as type
use Rattle.guard_model.specs.AbstractType.{AbstractKind, Constraint, Constraints, type_of, no_constraints, constraint}
use Rattle.guard_model.specs.AbstractValue as value
use Rattle.guard_model.specs.Kinds.{is_integer}
use Rattle.guard_model.specs.Limits.{fits_128_bits}
use Rattle.guard_model.specs.SameBase.{bare_kind}
use Rattle.guard_model.specs.TypeView.{constraint_view, constraints_of}
use Rattle.guard_eval.specs.Member.{all_hold, is_member}

abbrev pub rest_of : List Cons → Constraints
rest_of cs = constraints_of (map constraint_view cs)

pub and_true : (a : Bool) → (a && true) ≡ a
and_true true = refl
and_true false = refl

and_false : (a : Bool) → (a && false) ≡ false
and_false true = refl
and_false false = refl

-- ---- all of them

-- what none of them leaves out so far, and what one more leaves out
none_of : (a f h rest : Bool) → (f && (not (a || (f && not (f && h))) && rest)) ≡ (f && (not a && (h && rest)))
none_of a false h rest = refl
none_of true true h rest = refl
none_of false true true rest = refl
none_of false true false rest = refl

pub none_more : (a a2 g r f h rest before total : Bool) → a2 ≡ (a || g) → g ≡ (f && not r) → r ≡ (f && h) → before ≡ (h && rest) → (f && (not a && before)) ≡ total → (f && (not a2 && rest)) ≡ total
none_more a a2 g r f h rest before total added left_out allowed first so_far =
    ap (λ (b : Bool). f && (not b && rest)) added ∙ ap (λ (b : Bool). f && (not (a || b) && rest)) left_out ∙ ap (λ (b : Bool). f && (not (a || (f && not b)) && rest)) allowed
    ∙ none_of a f h rest ∙ ap (λ (b : Bool). f && (not a && b)) (sym first) ∙ so_far

-- of a test of constraints that goes through them one by one
pub all_more : (all : Constraints → Bool) (one : Constraint → Bool) → ((c : Constraint) (cs : Constraints) → all (constraint c cs) ≡ (one c && all cs))
    → (cs : List Cons) (i : ℕ) (c : Cons) (a a2 g r f total : Bool) → i < length cs → c ≡ get_or cs i c
    → a2 ≡ (a || g) → g ≡ (f && not r) → r ≡ (f && one (constraint_view c))
    → (f && (not a && all (rest_of (drop i cs)))) ≡ total → (f && (not a2 && all (rest_of (drop (i + 1) cs)))) ≡ total
all_more all one next cs i c a a2 g r f total lt is added left_out allowed so_far =
    none_more a a2 g r f (one (constraint_view c)) (all (rest_of (drop (i + 1) cs))) _ total added left_out allowed
    (at_drop_more (λ (ds : List Cons). all (rest_of ds)) cs i c lt ∙ ap (λ (d : Cons). all (rest_of (d ∷ drop (i + 1) cs))) (sym is) ∙ next (constraint_view c) (rest_of (drop (i + 1) cs))) so_far

pub all_done : (all : Constraints → Bool) → all no_constraints ≡ true → (cs : List Cons) (i : ℕ) (a f total : Bool) → length cs ≤ i → (f && (not a && all (rest_of (drop i cs)))) ≡ total → (f && not a) ≡ total
all_done all none cs i a f total ends so_far =
    sym (ap (λ (b : Bool). f && b) (and_true (not a)))
    ∙ ap (λ (b : Bool). f && (not a && b)) (sym (at_drop_all (λ (ds : List Cons). all (rest_of ds)) cs i ends ∙ none)) ∙ so_far

pub only_one : (all : Constraints → Bool) (one : Constraint → Bool) → ((c : Constraint) (cs : Constraints) → all (constraint c cs) ≡ (one c && all cs)) → all no_constraints ≡ true
    → (cs : List Cons) (c : Cons) → 0 < length cs → length cs < 2 → c ≡ get_or cs 0 c → one (constraint_view c) ≡ all (rest_of cs)
only_one all one next none [] c some few is = absurd (omega (arith, some))
only_one all one next none (d ∷ []) c some few is =
    ap (λ (e : Cons). one (constraint_view e)) is ∙ sym (and_true (one (constraint_view d))) ∙ ap (λ (b : Bool). one (constraint_view d) && b) (sym none) ∙ sym (next (constraint_view d) no_constraints)
only_one all one next none (d ∷ e ∷ es) c some few is = absurd (omega (arith, few))

-- ---- one of them

or_false : (a : Bool) → (a || false) ≡ a
or_false true = refl
or_false false = refl

pub one_set_more : (sets : List Integers) (set : Integers) (z : ℤ) → some_holds (sets ++ set ∷ []) z ≡ (some_holds sets z || integers.holds set z)
one_set_more sets set z = list_any-append (λ s. integers.holds s z) sets (set ∷ []) ∙ ap (λ (b : Bool). some_holds sets z || b) (or_false (integers.holds set z))

one_of : (a f h rest : Bool) → ((a || (f && h)) || (f && rest)) ≡ (a || (f && (h || rest)))
one_of true f h rest = refl
one_of false true h rest = refl
one_of false false h rest = refl

pub some_more : (some : Constraints → Bool) (one : Constraint → Bool) → ((c : Constraint) (cs : Constraints) → some (constraint c cs) ≡ (one c || some cs))
    → (cs : List Cons) (i : ℕ) (c : Cons) (a a2 r f total : Bool) → i < length cs → c ≡ get_or cs i c
    → a2 ≡ (a || r) → r ≡ (f && one (constraint_view c))
    → (a || (f && some (rest_of (drop i cs)))) ≡ total → (a2 || (f && some (rest_of (drop (i + 1) cs)))) ≡ total
some_more some one next cs i c a a2 r f total lt is added allowed so_far =
    let rest = some (rest_of (drop (i + 1) cs)) in
    let first = at_drop_more (λ (ds : List Cons). some (rest_of ds)) cs i c lt ∙ ap (λ (d : Cons). some (rest_of (d ∷ drop (i + 1) cs))) (sym is) ∙ next (constraint_view c) (rest_of (drop (i + 1) cs)) in
    ap (λ (b : Bool). b || (f && rest)) added ∙ ap (λ (b : Bool). (a || b) || (f && rest)) allowed
    ∙ one_of a f (one (constraint_view c)) rest ∙ ap (λ (b : Bool). a || (f && b)) (sym first) ∙ so_far

pub some_done : (some : Constraints → Bool) → some no_constraints ≡ false → (cs : List Cons) (i : ℕ) (a f total : Bool) → length cs ≤ i → (a || (f && some (rest_of (drop i cs)))) ≡ total → a ≡ total
some_done some none cs i a f total ends so_far =
    sym (or_false a) ∙ ap (λ (b : Bool). a || b) (sym (and_false f))
    ∙ ap (λ (b : Bool). a || (f && b)) (sym (at_drop_all (λ (ds : List Cons). some (rest_of ds)) cs i ends ∙ none)) ∙ so_far

-- ---- kinds of INTEGER

bare_integer : (kind : AbstractKind) → is_integer (bare_kind kind) ≡ is_integer kind
bare_integer (type.integer names) = refl
bare_integer _ = refl

pub alike_integer : (own kind : AbstractKind) → bare_kind own ≡ bare_kind kind → is_integer kind ≡ true → is_integer own ≡ true
alike_integer own kind e whole = sym (bare_integer own) ∙ ap is_integer e ∙ bare_integer kind ∙ whole

-- ---- members of a type

pub integers_of : (tags : List Tag) (kind : AbstractKind) (cons : Constraints) (z : ℤ) → is_member (type_of tags kind cons) (value.integer z) ≡ (is_integer kind && (fits_128_bits z && all_hold cons kind (value.integer z)))
integers_of tags type.boolean cons z = refl
integers_of tags (type.integer names) cons z = and_true (fits_128_bits z && all_hold cons (type.integer names) (value.integer z))
integers_of tags (type.bit_string names) cons z = refl
integers_of tags type.octet_string cons z = refl
integers_of tags type.null cons z = refl
integers_of tags type.object_identifier cons z = refl
integers_of tags (type.enumerated items) cons z = refl
integers_of tags (type.characters k) cons z = refl
integers_of tags (type.sequence cs) cons z = refl
integers_of tags (type.set cs) cons z = refl
integers_of tags (type.choice cs) cons z = refl
integers_of tags (type.sequence_of t) cons z = refl
integers_of tags (type.set_of t) cons z = refl

fits_twice : (f a : Bool) → (f && (f && a)) ≡ (f && a)
fits_twice true a = refl
fits_twice false a = refl

pub of_integer : (tags : List Tag) (kind : AbstractKind) (cons : Constraints) (z : ℤ) (made : Bool) → is_integer kind ≡ true → made ≡ (fits_128_bits z && all_hold cons kind (value.integer z)) → made ≡ (fits_128_bits z && is_member (type_of tags kind cons) (value.integer z))
of_integer tags kind cons z made whole is =
    is ∙ sym (fits_twice (fits_128_bits z) (all_hold cons kind (value.integer z)))
    ∙ ap (λ (b : Bool). fits_128_bits z && (b && (fits_128_bits z && all_hold cons kind (value.integer z)))) (sym whole) ∙ ap (λ (b : Bool). fits_128_bits z && b) (sym (integers_of tags kind cons z))

pub of_other : (tags : List Tag) (kind : AbstractKind) (cons : Constraints) (z : ℤ) → is_integer kind ≡ false → false ≡ (fits_128_bits z && is_member (type_of tags kind cons) (value.integer z))
of_other tags kind cons z not_one =
    sym (and_false (fits_128_bits z)) ∙ ap (λ (b : Bool). fits_128_bits z && (b && (fits_128_bits z && all_hold cons kind (value.integer z)))) (sym not_one) ∙ ap (λ (b : Bool). fits_128_bits z && b) (sym (integers_of tags kind cons z))

-- ---- EXCEPT and ALL EXCEPT

pub if_ok : {A E : Type 0} (r : Result A E) (P Q : A → Type 0) → ((x : A) → P x → Q x) → IfOk r P → IfOk r Q
if_ok (Ok x) P Q f h = f x h
if_ok (Err e) P Q f h = h

minus_of : (f k t : Bool) → ((f && k) && not (f && t)) ≡ (f && (k && not t))
minus_of true k t = refl
minus_of false k t = refl

pub minus_has : (l g f k t made : Bool) → l ≡ (f && k) → g ≡ (f && t) → made ≡ (l && not g) → made ≡ (f && (k && not t))
minus_has l g f k t made kept taken is = is ∙ ap (λ (b : Bool). b && not g) kept ∙ ap (λ (b : Bool). (f && k) && not b) taken ∙ minus_of f k t

other_of : (f t : Bool) → (f && not (f && t)) ≡ (f && not t)
other_of true t = refl
other_of false t = refl

pub other_has : (g f t made : Bool) → g ≡ (f && t) → made ≡ (f && not g) → made ≡ (f && not t)
other_has g f t made taken is = is ∙ ap (λ (b : Bool). f && not b) taken ∙ other_of f t
