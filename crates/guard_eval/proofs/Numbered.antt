-- What each form of a constraint allows of values that are known by their numbers.
use Rattle.std.proofs.Common.{◌≡◌, ℤ, Bool, true, false, not, ◌&&◌, ◌||◌, List, refl, sym, ap, ◌∙◌, Option, Some, None, Result, IfOk, IsTrue}
use Rattle.std.specs.Option.{option_or, is_none, is_some}
use Rattle.guard_integers.specs.Integers as integers
use Rattle.guard_model.specs.declared.memory.OutOfMemory.{OutOfMemory}
use Rattle.guard_model.specs.declared.site.Site.{Site}
use Rattle.guard_model.specs.declared.tag.Tag.{Tag}
use Rattle.guard_model.specs.declared.ty.Limit.{Limit}
use Rattle.guard_model.specs.AbstractType as type
use Rattle.guard_model.specs.AbstractType.{AbstractType, AbstractKind, Constraint, Constraints, type_of, at, no_constraints, constraint}
use Rattle.guard_model.specs.AbstractValue as value
use Rattle.guard_model.specs.AbstractValue.{AbstractValue}
use Rattle.guard_model.specs.Limits.{fits_128_bits}
use Rattle.guard_model.specs.Same.{same}
use Rattle.guard_eval.specs.declared.number_sets.Numbered.{Numbered}
use Rattle.guard_eval.specs.declared.number_sets.Numbered.TheVariants.{Integers, Walked, Items}
use Rattle.guard_eval.specs.Elements.{is_between}
use Rattle.guard_eval.specs.Violations.{AbstractViolation, unless}
use Rattle.guard_eval.specs.inside.Failures.{failure, failure_by, failure_inside, first_failure}
use Rattle.guard_eval.specs.inside.NumberSets.{value_of, is_of, allows, all_allow, some_allow, has, HoldsThose}
use Rattle.guard_eval.proofs.Applied.{contained_integer}
use Rattle.guard_eval.proofs.Law.{clear_either, clear_unless}
use Rattle.guard_eval.proofs.WholeSets.{if_ok, of_integer}

-- a set of what one form allows is one of what the constraint of this form allows
pub as_form : (of : Numbered) (c form : Constraint) (made : Result integers.Integers OutOfMemory) (allowed : AbstractKind → ℤ → Bool) → c ≡ form
    → ((kind : AbstractKind) (z : ℤ) → IsTrue (is_of of kind) → allowed kind z ≡ allows of form kind z) → IfOk made (λ set. HoldsThose of set allowed) → IfOk made (λ set. HoldsThose of set (allows of c))
as_form of c form made allowed is same h =
    if_ok made _ _ (λ set has kind whole z. has kind whole z ∙ ap (λ (b : Bool). fits_128_bits z && b) (same kind z whole ∙ ap (λ (x : Constraint). allows of x kind z) (sym is))) h

-- ---- one element

pub allows_one : (of : Numbered) (site : Site) (w : AbstractValue) (kind : AbstractKind) (z : ℤ) → same w (value_of of z) ≡ allows of (at site (type.single_value w)) kind z
allows_one Integers site w kind z = refl
allows_one Walked site w kind z = sym (clear_unless (same w (value.integer z)) site)
allows_one Items site w kind z = sym (clear_unless (same w (value.enumerated z)) site)

pub allows_range : (of : Numbered) (site : Site) (low high : Limit) (kind : AbstractKind) (z : ℤ) → is_between low high (value_of of z) ≡ allows of (at site (type.range low high)) kind z
allows_range Integers site low high kind z = refl
allows_range Walked site low high kind z = sym (clear_unless (is_between low high (value.integer z)) site)
allows_range Items site low high kind z = refl

pub allows_inside : (of : Numbered) (site : Site) (t : AbstractType) (kind : AbstractKind) (z : ℤ) → IsTrue (is_of of kind) → has of t z ≡ allows of (at site (type.contained_subtype t)) kind z
allows_inside Integers site t kind z h = contained_integer t kind z h
allows_inside Walked site t kind z h = sym (clear_unless (is_none (failure t (value.integer z))) site)
allows_inside Items site t kind z h = sym (clear_unless (is_none (failure t (value.enumerated z))) site)

-- ---- sets as in arithmetic

pub allows_some : (of : Numbered) (site : Site) (cs : Constraints) (kind : AbstractKind) (z : ℤ) → some_allow of cs kind z ≡ allows of (at site (type.union cs)) kind z
allows_some Integers site cs kind z = refl
allows_some Walked site cs kind z = sym (clear_unless (some_allow Walked cs kind z) site)
allows_some Items site cs kind z = sym (clear_unless (some_allow Items cs kind z) site)

pub allows_all : (of : Numbered) (site : Site) (cs : Constraints) (kind : AbstractKind) (z : ℤ) → all_allow of cs kind z ≡ allows of (at site (type.intersection cs)) kind z
allows_all Integers site cs kind z = refl
allows_all Walked site cs kind z = refl
allows_all Items site cs kind z = refl

some_not : (w : Option AbstractViolation) → not (is_none w) ≡ is_some w
some_not None = refl
some_not (Some w) = refl

pub allows_other : (of : Numbered) (site : Site) (c : Constraint) (kind : AbstractKind) (z : ℤ) → not (allows of c kind z) ≡ allows of (at site (type.all_except c)) kind z
allows_other Integers site c kind z = refl
allows_other Walked site c kind z =
    some_not (failure_by c kind (value.integer z)) ∙ sym (clear_unless (is_some (failure_by c kind (value.integer z))) site)
allows_other Items site c kind z =
    some_not (failure_by c kind (value.enumerated z)) ∙ sym (clear_unless (is_some (failure_by c kind (value.enumerated z))) site)

pub allows_minus : (of : Numbered) (site : Site) (c d : Constraint) (kind : AbstractKind) (z : ℤ) → (allows of c kind z && not (allows of d kind z)) ≡ allows of (at site (type.except c d)) kind z
allows_minus Integers site c d kind z = refl
allows_minus Walked site c d kind z =
    ap (λ (b : Bool). allows Walked c kind z && b) (allows_other Walked site d kind z)
    ∙ sym (clear_either (failure_by c kind (value.integer z)) (unless (is_some (failure_by d kind (value.integer z))) site))
allows_minus Items site c d kind z =
    ap (λ (b : Bool). allows Items c kind z && b) (allows_other Items site d kind z)
    ∙ sym (clear_either (failure_by c kind (value.enumerated z)) (unless (is_some (failure_by d kind (value.enumerated z))) site))

-- ---- several constraints

pub all_next : (of : Numbered) (kind : AbstractKind) (z : ℤ) (c : Constraint) (cs : Constraints) → all_allow of (constraint c cs) kind z ≡ (allows of c kind z && all_allow of cs kind z)
all_next Integers kind z c cs = refl
all_next Walked kind z c cs = clear_either (failure_by c kind (value.integer z)) (first_failure cs kind (value.integer z))
all_next Items kind z c cs = clear_either (failure_by c kind (value.enumerated z)) (first_failure cs kind (value.enumerated z))

pub all_none : (of : Numbered) (kind : AbstractKind) (z : ℤ) → all_allow of no_constraints kind z ≡ true
all_none Integers kind z = refl
all_none Walked kind z = refl
all_none Items kind z = refl

pub some_next : (of : Numbered) (kind : AbstractKind) (z : ℤ) (c : Constraint) (cs : Constraints) → some_allow of (constraint c cs) kind z ≡ (allows of c kind z || some_allow of cs kind z)
some_next Integers kind z c cs = refl
some_next Walked kind z c cs = refl
some_next Items kind z c cs = refl

pub some_none : (of : Numbered) (kind : AbstractKind) (z : ℤ) → some_allow of no_constraints kind z ≡ false
some_none Integers kind z = refl
some_none Walked kind z = refl
some_none Items kind z = refl

-- ---- types

-- a number has no parts
nothing_inside : (of : Numbered) (kind : AbstractKind) (z : ℤ) → failure_inside kind (value_of of z) ≡ None
nothing_inside Integers type.null z = refl
nothing_inside Integers _ z = refl
nothing_inside Walked type.null z = refl
nothing_inside Walked _ z = refl
nothing_inside Items type.null z = refl
nothing_inside Items _ z = refl

or_none : (w : Option AbstractViolation) → is_none w ≡ is_none (option_or w None)
or_none None = refl
or_none (Some w) = refl

pub of_own : (of : Numbered) (tags : List Tag) (kind : AbstractKind) (cons : Constraints) (z : ℤ) (made : Bool) → is_of of kind ≡ true → made ≡ (fits_128_bits z && all_allow of cons kind z) → made ≡ (fits_128_bits z && has of (type_of tags kind cons) z)
of_own Integers tags kind cons z made own is = of_integer tags kind cons z made own is
of_own Walked tags kind cons z made own is =
    is ∙ ap (λ (b : Bool). fits_128_bits z && b) (or_none (first_failure cons kind (value.integer z))
    ∙ ap (λ w. is_none (option_or (first_failure cons kind (value.integer z)) w)) (sym (nothing_inside Walked kind z)))
of_own Items tags kind cons z made own is =
    is ∙ ap (λ (b : Bool). fits_128_bits z && b) (or_none (first_failure cons kind (value.enumerated z))
    ∙ ap (λ w. is_none (option_or (first_failure cons kind (value.enumerated z)) w)) (sym (nothing_inside Items kind z)))
