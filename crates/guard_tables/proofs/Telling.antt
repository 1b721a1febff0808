-- Contents octets tell a value from each other value of its kind.
use Rattle.std.proofs.Common.{◌≡◌, ℕ, ◌<◌, ◌≤◌, ◌^◌, Bool, true, false, cond, ltb, List, [], ◌∷◌, ◌++◌, length, Option, Some, None, refl, sym, ap, ◌∙◌, arith, IsTrue}
use Rattle.std.specs.Prelude.{option_and_then}
use Rattle.std.proofs.lemmas.Bool.{and_parts, leb-true, lt-ltb}
use Rattle.std.proofs.lemmas.List.{length-append}
use Rattle.std.proofs.lemmas.Option.{same_Some}
use Rattle.guard_model.specs.declared.tag.Class.TheVariants.{Universal}
use Rattle.guard_model.specs.declared.tag.Tag.{Tag}
use Rattle.guard_model.specs.AbstractType.{AbstractType, AbstractKind, type_of, no_constraints}
use Rattle.guard_model.specs.AbstractValue.{AbstractValue}
use Rattle.guard_model.specs.Kinds.{kind_of}
use Rattle.guard_model.specs.Same.{same, same_numbers}
use Rattle.guard_model.proofs.Sameness.{equal_values, same_itself, equal_numbers, same_numbers_itself}
use Rattle.guard_model.proofs.Tests.{same_test}
use Rattle.guard_model.proofs.Results.{same_Ok}
use Rattle.guard_tagcheck.specs.Search.{first_clash, clash_of_kind}
use Rattle.guard_der.specs.Breach.{AbstractBreach}
use Rattle.guard_der.specs.Der.{◌>>=◌, der, contents_octets, is_constructed}
use Rattle.guard_der.specs.Element.{identifier_octets, length_octets, element, tagged}
use Rattle.guard_der.specs.Fits.{fits, fits_kind}
use Rattle.guard_der.specs.Head.{Head}
use Rattle.guard_der.specs.ProperConstraints.{is_short, may_stand_in}
use Rattle.guard_der.specs.Reading.{element_at}
use Rattle.guard_der.specs.Sound.{is_proper, is_proper_kind}
use Rattle.guard_der.proofs.Types.AllKinds.{type_lawful}
use Rattle.guard_der.proofs.Types.BareTypes.{der_by_base}
use Rattle.guard_eval.proofs.SameFits.{same_fits}
use Rattle.guard_tables.specs.Apt.{IsAlike}
use Rattle.guard_tables.specs.Marking.{some_passes}

-- ---- an element is no shorter than its contents

element_length : (small : Bool) (front os z : List ℕ) → cond small (Some (front ++ os)) None ≡ Some z → length os ≤ length z
element_length true front os z e = let s = ap length (same_Some (front ++ os) z e) in let l = length-append front os in omega (arith, s, l)
element_length false front os z e = absurd cc

one_tag_length : (t : Tag) (constructed : Bool) (os z : List ℕ) → element t constructed os ≡ Some z → length os ≤ length z
unfolding element
one_tag_length t constructed os z e =
    element_length (ltb (length os) (2 ^ 32)) (identifier_octets t constructed ++ length_octets (length os)) os z e

wrapped_length : (t : Tag) (os z : List ℕ) (o : Option (List ℕ)) → ((inner : List ℕ) → o ≡ Some inner → length os ≤ length inner) → option_and_then (element t true) o ≡ Some z → length os ≤ length z
wrapped_length t os z None inside e = absurd cc
wrapped_length t os z (Some inner) inside e =
    let a = inside inner refl in
    let b = one_tag_length t true inner z e in
    omega (arith, a, b)

tagged_length : (tags : List Tag) (constructed : Bool) (os z : List ℕ) → tagged tags constructed os ≡ Some z → length os ≤ length z
tagged_length [] constructed os z e = let s = ap length (same_Some os z e) in omega (arith, s)
tagged_length (t ∷ []) constructed os z e = one_tag_length t constructed os z e
tagged_length (t ∷ u ∷ ts) constructed os z e = wrapped_length t os z (tagged (u ∷ ts) constructed os) (λ inner is. tagged_length (u ∷ ts) constructed os inner is) e

-- the contents octets of a value whose encoding is short
pub record HasContents (kind : AbstractKind) (w : AbstractValue) : Type 0 where
  pub octets : List ℕ
  pub are : contents_octets kind w ≡ Some octets
  pub short : length octets < 2 ^ 32

short_contents : (kind : AbstractKind) (w : AbstractValue) (tags : List Tag) (o : Option (List ℕ)) → contents_octets kind w ≡ o → IsTrue (is_short (o >>= tagged tags (is_constructed kind))) → HasContents kind w
short_contents kind w tags None is h = absurd cc
short_contents kind w tags (Some os) is h = inside (tagged tags (is_constructed kind) os) refl h
  where
    inside : (o : Option (List ℕ)) → tagged tags (is_constructed kind) os ≡ o → IsTrue (is_short o) → HasContents kind w
    inside None tagged_is short = absurd cc
    inside (Some z) tagged_is short =
        let a = tagged_length tags (is_constructed kind) os z tagged_is in
        let b : length z ≤ 1048576 = leb-true (length z) 1048576 short in
        record { octets = os; are = is; short = omega (arith, a, b) }

-- of a value that may be written in a type of the same base
pub standing_contents : (kind : AbstractKind) (t : AbstractType) (w : AbstractValue) → IsAlike (kind_of t) kind → IsTrue (may_stand_in t w) → HasContents kind w
standing_contents kind (type_of tags own cons) w base h =
    let a = and_parts (fits_kind own w) (is_short (der (type_of tags own cons) w)) h in
    short_contents kind w tags (contents_octets kind w) refl (ap is_short (sym (der_by_base tags own kind cons no_constraints base w)) ∙ a.1)

pub standing_fits : (kind : AbstractKind) (t : AbstractType) (w : AbstractValue) → IsAlike (kind_of t) kind → IsTrue (may_stand_in t w) → IsTrue (fits_kind kind w)
standing_fits kind (type_of tags own cons) w base h =
    let a = and_parts (fits_kind own w) (is_short (der (type_of tags own cons) w)) h in
    sym (same_fits own kind w base) ∙ a.0

-- ---- contents in one tag

abbrev one_tag : Tag
one_tag = record { class = Universal; number = 16 }

abbrev in_tag : AbstractKind → AbstractType
in_tag kind = type_of (one_tag ∷ []) kind no_constraints

encoded : (kind : AbstractKind) (v : AbstractValue) (os : List ℕ) → contents_octets kind v ≡ Some os → length os < 2 ^ 32
    → der (in_tag kind) v ≡ Some (identifier_octets one_tag (is_constructed kind) ++ length_octets (length os) ++ os)
unfolding element
encoded kind v os is short = rw (is, lt-ltb (length os) (2 ^ 32) short) refl

-- Values that fit a type and have the same encoding are one.
pub one_encoding : (t : AbstractType) → is_proper t ≡ true → first_clash t ≡ None → (w v : AbstractValue) (front : List ℕ) → IsTrue (fits t w) → IsTrue (fits t v) → der t w ≡ Some front → der t v ≡ Some front → w ≡ v
one_encoding t proper none w v front fit_w fit_v is_w is_v =
    let law = type_lawful t proper none in
    let a = law.again 0 w front [] fit_w is_w in
    let b = law.again 0 v front [] fit_v is_v in
    let heads : a.header ≡ b.header = same_Ok a.header b.header (sym a.stands ∙ b.stands) in
    same_Ok {F = AbstractBreach} w v (sym a.read ∙ ap (λ (h : Head). element_at t 0 h (front ++ [])) heads ∙ b.read)

-- Values that fit the kind and have the same contents octets are one.
pub one_contents : (kind : AbstractKind) → is_proper_kind kind ≡ true → clash_of_kind kind ≡ None → (w v : AbstractValue) (os : List ℕ) → IsTrue (fits_kind kind w) → IsTrue (fits_kind kind v)
    → contents_octets kind w ≡ Some os → contents_octets kind v ≡ Some os → length os < 2 ^ 32 → w ≡ v
one_contents kind proper none w v os fit_w fit_v is_w is_v short =
    one_encoding (in_tag kind) proper none w v (identifier_octets one_tag (is_constructed kind) ++ length_octets (length os) ++ os) fit_w fit_v (encoded kind w os is_w short) (encoded kind v os is_v short)

-- ---- as a test

told : (kind : AbstractKind) → is_proper_kind kind ≡ true → clash_of_kind kind ≡ None → (w v : AbstractValue) (c : HasContents kind w) → IsTrue (fits_kind kind w) → IsTrue (fits_kind kind v)
    → (o : Option (List ℕ)) → contents_octets kind v ≡ o → some_passes (same_numbers c.octets) o ≡ true → same w v ≡ true
told kind proper none w v c fit_w fit_v None is h = absurd cc
told kind proper none w v c fit_w fit_v (Some os) is h =
    let both : c.octets ≡ os = equal_numbers c.octets os h in
    let one : w ≡ v = one_contents kind proper none w v c.octets fit_w fit_v c.are (is ∙ ap (λ (x : List ℕ). Some x) (sym both)) c.short in
    ap (λ (x : AbstractValue). same w x) (sym one) ∙ same_itself w

-- The value is this one exactly where its contents octets are these.
pub tells : (kind : AbstractKind) → is_proper_kind kind ≡ true → clash_of_kind kind ≡ None → (w v : AbstractValue) (c : HasContents kind w) → IsTrue (fits_kind kind w) → IsTrue (fits_kind kind v)
    → some_passes (same_numbers c.octets) (contents_octets kind v) ≡ same w v
tells kind proper none w v c fit_w fit_v =
    same_test (some_passes (same_numbers c.octets) (contents_octets kind v)) (same w v) (λ h. told kind proper none w v c fit_w fit_v (contents_octets kind v) refl h)
    (λ h. ap (λ (x : AbstractValue). some_passes (same_numbers c.octets) (contents_octets kind x)) (sym (equal_values w v h)) ∙ ap (some_passes (same_numbers c.octets)) c.are ∙ same_numbers_itself c.octets)
