-- What the lists of ranges are to the sets of integers.
use Rattle.std.proofs.Common.{arith, ◌≡◌, ℤ, pos, negsuc, ◌+ℤ◌, ◌≤ℤ◌, ◌<ℤ◌, true, false, Bool, ◌&&◌, ◌||◌, not, IsTrue, List, [], ◌∷◌, Result, Ok, Err, IfOk, refl, ap, sym, ◌∙◌}
use Rattle.std.proofs.lemmas.Bool.Decides.{nat_tests}
use Rattle.std.proofs.lemmas.Int.{ints}
use Rattle.std.specs.Int.{w128}
use Rattle.std.specs.Int.RustNames.{FitsSigned}
use Rattle.std.specs.Int.Signed.{le_z}
use Rattle.guard_model.specs.Limits.{fits_128_bits}
use Rattle.guard_integers.specs.declared.ranges.Range.{Range}
use Rattle.guard_integers.specs.Integers.{Integers, kept_as, holds, holds_by, only_fitting}
use Rattle.guard_integers.specs.Ranges.{is_between, one_holds, are_apart}
use Rattle.guard_integers.specs.inside.Computing.{least, greatest, range_of, gaps_from, common_of}
use Rattle.guard_integers.proofs.RangeLists.Gaps.{gaps_have}
use Rattle.guard_integers.proofs.RangeLists.CommonParts.{common_has, and_none}

-- ---- integers of signed 128 bits

pub number_low : (x : ℤ) → IsTrue (fits_128_bits x) → IsTrue (le_z least x)
number_low (pos n) is = refl
number_low (negsuc n) is = grind (arith, nat_tests)

pub number_high : (x : ℤ) → IsTrue (fits_128_bits x) → IsTrue (le_z x greatest)
number_high (pos n) is = grind (arith, nat_tests)
number_high (negsuc n) is = refl

pub fits : (x : ℤ) → FitsSigned w128 x → fits_128_bits x ≡ true
fits (pos n) f = grind (arith, ints, nat_tests)
fits (negsuc n) f = grind (arith, ints, nat_tests)

between_fits : (low high x : ℤ) → FitsSigned w128 low → FitsSigned w128 high → low ≤ℤ x → x ≤ℤ high → FitsSigned w128 x
between_fits low high x l h from to = omega (arith, ints)

below_greatest : (x : ℤ) → IsTrue (fits_128_bits (x +ℤ pos 1)) → x <ℤ greatest
below_greatest x next = let high = number_high (x +ℤ pos 1) next in grind (arith, ints)

-- ---- no range, and one

pub none_has : (x : ℤ) → holds (kept_as []) x ≡ false
none_has x = holds_by [] x ∙ and_none (fits_128_bits x)

or_nothing : (b : Bool) → b || false ≡ b
or_nothing true = refl
or_nothing false = refl

pub one_has : (low high x : ℤ) → holds (kept_as (range_of low high ∷ [])) x ≡ fits_128_bits x && is_between low high x
one_has low high x = holds_by (range_of low high ∷ []) x ∙ ap (λ b. fits_128_bits x && b) (or_nothing (is_between low high x))

nothing_between : (low high x : ℤ) → high <ℤ low → is_between low high x ≡ false
nothing_between low high x over = grind (arith, ints)

pub empty_has : (low high x : ℤ) → high <ℤ low → holds (kept_as []) x ≡ fits_128_bits x && is_between low high x
empty_has low high x over = none_has x ∙ sym (and_none (fits_128_bits x)) ∙ sym (ap (λ b. fits_128_bits x && b) (nothing_between low high x over))

-- ---- operations

outside_number : (number gap held : Bool) → (IsTrue number → gap ≡ not held) → number && gap ≡ number && not (number && held)
outside_number true gap held is = is refl
outside_number false gap held is = refl

pub complement_has : (rs : List Range) (x : ℤ) → IsTrue (are_apart rs) → holds (kept_as (gaps_from least rs)) x ≡ fits_128_bits x && not (holds (kept_as rs) x)
complement_has rs x apart =
    holds_by (gaps_from least rs) x
    ∙ outside_number (fits_128_bits x) (one_holds (gaps_from least rs) x) (one_holds rs x) (λ is. gaps_have least rs x apart (number_low x is) (number_high x is))
    ∙ sym (ap (λ b. fits_128_bits x && not b) (holds_by rs x))

both_number : (number first second : Bool) → number && (first && second) ≡ (number && first) && (number && second)
both_number true first second = refl
both_number false first second = refl

pub intersection_has : (rs ss : List Range) (x : ℤ) → IsTrue (are_apart rs) → IsTrue (are_apart ss)
    → holds (kept_as (common_of rs ss)) x ≡ holds (kept_as rs) x && holds (kept_as ss) x
intersection_has rs ss x first second =
    holds_by (common_of rs ss) x
    ∙ ap (λ b. fits_128_bits x && b) (common_has rs ss x first second)
    ∙ both_number (fits_128_bits x) (one_holds rs x) (one_holds ss x)
    ∙ sym (ap (λ b. b && (fits_128_bits x && one_holds ss x)) (holds_by rs x))
    ∙ sym (ap (λ b. holds (kept_as rs) x && b) (holds_by ss x))

-- a set that holds what one test has holds what another has that is equal
pub holds_as : {E : Type 0} (made : Result Integers E) (f g : ℤ → Bool) → IfOk made (λ set. (x : ℤ) → holds set x ≡ f x) → ((x : ℤ) → f x ≡ g x)
    → IfOk made (λ set. (x : ℤ) → holds set x ≡ g x)
holds_as (Ok set) f g held same = λ x. held x ∙ same x
holds_as (Err e) f g held same = tt

pub all_has : (none : Integers) (x : ℤ) → holds none x ≡ false → fits_128_bits x && not (holds none x) ≡ fits_128_bits x
all_has none x is = ap (λ b. fits_128_bits x && not b) is ∙ whole (fits_128_bits x)
  where
    whole : (b : Bool) → b && true ≡ b
    whole true = refl
    whole false = refl

without_other : (number held other : Bool) → (number && held) && (number && not other) ≡ (number && held) && not other
without_other true held other = refl
without_other false held other = refl

pub minus_has : (self other rest : Integers) (x : ℤ) → holds rest x ≡ fits_128_bits x && not (holds other x) → holds self x && holds rest x ≡ holds self x && not (holds other x)
minus_has self other rest x left =
    ap (λ b. holds self x && b) left
    ∙ ap (λ b. b && (fits_128_bits x && not (holds other x))) (only_fitting self x)
    ∙ without_other (fits_128_bits x) (holds self x) (holds other x)
    ∙ sym (ap (λ b. b && not (holds other x)) (only_fitting self x))

not_neither : (number first second : Bool) → number && not ((number && not (number && first)) && (number && not (number && second))) ≡ (number && first) || (number && second)
not_neither true true second = refl
not_neither true false true = refl
not_neither true false false = refl
not_neither false first second = refl

pub union_has : (self other out beyond neither : Integers) (x : ℤ) → holds out x ≡ fits_128_bits x && not (holds self x) → holds beyond x ≡ fits_128_bits x && not (holds other x)
    → holds neither x ≡ holds out x && holds beyond x → fits_128_bits x && not (holds neither x) ≡ holds self x || holds other x
union_has self other out beyond neither x left right both =
    ap (λ b. fits_128_bits x && not b) both
    ∙ ap (λ b. fits_128_bits x && not (b && holds beyond x)) left
    ∙ ap (λ b. fits_128_bits x && not ((fits_128_bits x && not (holds self x)) && b)) right
    ∙ ap (λ b. fits_128_bits x && not ((fits_128_bits x && not b) && (fits_128_bits x && not (holds other x)))) (only_fitting self x)
    ∙ ap (λ b. fits_128_bits x && not ((fits_128_bits x && not (fits_128_bits x && holds self x)) && (fits_128_bits x && not b))) (only_fitting other x)
    ∙ not_neither (fits_128_bits x) (holds self x) (holds other x)
    ∙ sym (ap (λ b. b || (fits_128_bits x && holds other x)) (only_fitting self x))
    ∙ sym (ap (λ b. holds self x || b) (only_fitting other x))

-- ---- looking one up

pub has_it : (rs : List Range) (x : ℤ) → FitsSigned w128 x → one_holds rs x ≡ holds (kept_as rs) x
has_it rs x f = sym (holds_by rs x ∙ ap (λ b. b && one_holds rs x) (fits x f))

pub alike_has : (rs : List Range) (first last x : ℤ) → FitsSigned w128 first → FitsSigned w128 last → first ≤ℤ x → x ≤ℤ last
    → one_holds rs x ≡ one_holds rs first → holds (kept_as rs) x ≡ holds (kept_as rs) first
alike_has rs first last x f l from to alike = sym (has_it rs x (between_fits first last x f l from to)) ∙ alike ∙ has_it rs first f

pub next_has : (rs : List Range) (first last : ℤ) → FitsSigned w128 first → IsTrue (fits_128_bits (last +ℤ pos 1))
    → (last <ℤ greatest → one_holds rs (last +ℤ pos 1) ≡ not (one_holds rs first)) → holds (kept_as rs) (last +ℤ pos 1) ≡ not (holds (kept_as rs) first)
next_has rs first last f next turns =
    holds_by rs (last +ℤ pos 1) ∙ ap (λ b. b && one_holds rs (last +ℤ pos 1)) next ∙ turns (below_greatest last next) ∙ ap not (has_it rs first f)
