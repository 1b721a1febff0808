-- Whole messages: reading them, and what `decode` promises.
use Rattle.std.proofs.Common.{◌≡◌, ℕ, ◌+◌, List, ◌++◌, length, drop, Some, Result, Ok, Err, refl, sym, ap, subst, ◌∙◌, inl, inr}
use Rattle.std.specs.Prelude.{IsTrue, IfOk, IfErr, IfSome, nat_le, ◌⊎◌, ◌&&◌}
use Rattle.std.proofs.lemmas.Bool.{and_parts}
use Rattle.std.proofs.lemmas.List.{drop_at}
use Rattle.guard_model.specs.Answer.{Gives}
use Rattle.guard_model.specs.AbstractType.{AbstractType}
use Rattle.guard_model.specs.AbstractValue.{AbstractValue}
use Rattle.guard_model.specs.ValueView.{value_view}
use Rattle.guard_model.specs.declared.value.Value.{Value}
use Rattle.guard_tagcheck.specs.FirstTags.{begins_with}
use Rattle.guard_tagcheck.specs.Limits.{nesting}
use Rattle.guard_tagcheck.specs.Search.{first_clash}
use Rattle.guard_der.specs.declared.breach.DecodeFault.{DecodeFault}
use Rattle.guard_der.specs.declared.breach.DecodeFault.TheVariants as faults
use Rattle.guard_der.specs.Head.{Head, head_of}
use Rattle.guard_der.specs.Der.{der, outermost}
use Rattle.guard_der.specs.Fits.{fits}
use Rattle.guard_der.specs.Sound.{is_sound, is_proper, none_clash}
use Rattle.guard_der.specs.Breach.{AbstractBreach, IsBreach, FaultIn}
use Rattle.guard_der.specs.Reading.{element_at, message_of}
use Rattle.guard_der.specs.Views.{breach_view, breach_of}
use Rattle.guard_der.proofs.Elements.Steps.{after_none, head_is}
use Rattle.guard_der.proofs.Numbers.Digits.{AreDigits}
use Rattle.guard_der.proofs.Elements.Laws.{alone_takes, alone_again, alone_fault, alone_found}
use Rattle.guard_der.proofs.Components.ByTag.{LawfulType}
use Rattle.guard_der.proofs.Components.DistinctTags.{no_clash}
use Rattle.guard_der.proofs.Types.AllKinds.{type_lawful}
use Rattle.guard_model.proofs.Results.{same_Ok, same_Err}

pub sound_law : (t : AbstractType) → IsTrue (is_sound t) → LawfulType t
sound_law t sound =
    let s = and_parts (is_proper t && none_clash (first_clash t)) (nat_le (nesting t) 32) sound in
    let p = and_parts (is_proper t) (none_clash (first_clash t)) s.0 in
    type_lawful t p.0 (no_clash (first_clash t) p.1)

-- What is read fits, and the octets are its encoding.
pub message_takes : (t : AbstractType) (os : List ℕ) (v : AbstractValue) → AreDigits 256 os → IsTrue (is_sound t) → message_of t os ≡ Ok v → IsTrue (fits t v) × (der t v ≡ Some os)
unfolding message_of
message_takes t os v digits sound e = alone_takes (λ tag. begins_with t tag) (λ v. fits t v) (λ v. der t v) (λ v. outermost t v) (element_at t) (λ os b. FaultIn t os b) (nesting t) (sound_law t sound) 0 os v digits e

-- What fits and has the octets as its encoding is read.
pub message_again : (t : AbstractType) (os : List ℕ) (v : AbstractValue) → IsTrue (is_sound t) → IsTrue (fits t v) → der t v ≡ Some os → message_of t os ≡ Ok v
unfolding message_of
message_again t os v sound fit e = alone_again (λ tag. begins_with t tag) (λ v. fits t v) (λ v. der t v) (λ v. outermost t v) (element_at t) (λ os b. FaultIn t os b) (nesting t) (sound_law t sound) 0 os v fit e

-- A fault that is found is the breach.
pub message_fault : (t : AbstractType) (os : List ℕ) (b : AbstractBreach) → AreDigits 256 os → IsTrue (is_sound t) → message_of t os ≡ Err b → IsBreach t os b
unfolding message_of
message_fault t os b digits sound e =
    let f = alone_fault (λ tag. begins_with t tag) (λ v. fits t v) (λ v. der t v) (λ v. outermost t v) (element_at t) (λ os b. FaultIn t os b) (nesting t) (sound_law t sound) 0 os b digits e in
    subst (λ (c : AbstractBreach). IsBreach t os c) (sym (f.seen ∙ after_none f.inner)) f.found

-- The breach is the fault that is found.
pub message_found : (t : AbstractType) (os : List ℕ) (b : AbstractBreach) → IsTrue (is_sound t) → IsBreach t os b → message_of t os ≡ Err b
unfolding message_of
message_found t os b sound is =
    alone_found (λ tag. begins_with t tag) (λ v. fits t v) (λ v. der t v) (λ v. outermost t v) (element_at t) (λ os b. FaultIn t os b) (nesting t) (sound_law t sound) 0 os b is
    ∙ ap (λ (b : AbstractBreach). Err b) (after_none b)

-- ---- what `decode` promises

pub is_decoded : (t : AbstractType) (os : List ℕ) (r : Result Value DecodeFault) → AreDigits 256 os → IsTrue (is_sound t) → Gives value_view breach_of r (message_of t os)
    → IfOk r (λ v. IsTrue (fits t (value_view v)) × (der t (value_view v) ≡ Some os))
is_decoded t os (Ok v) digits sound given = message_takes t os (value_view v) digits sound given
is_decoded t os (Err e) digits sound given = tt

pub is_only : (t : AbstractType) (os : List ℕ) (r : Result Value DecodeFault) → IsTrue (is_sound t) → Gives value_view breach_of r (message_of t os)
    → (v : AbstractValue) → IsTrue (fits t v) → der t v ≡ Some os → Gives value_view breach_of r (Ok v)
is_only t os r sound given v fit e = subst (λ (a : Result AbstractValue AbstractBreach). Gives value_view breach_of r a) (message_again t os v sound fit e) given

pub is_breach : (t : AbstractType) (os : List ℕ) (r : Result Value DecodeFault) → AreDigits 256 os → IsTrue (is_sound t) → Gives value_view breach_of r (message_of t os)
    → IfErr r (λ e. IfSome (breach_of e) (IsBreach t os))
is_breach t os (Ok v) digits sound given = tt
is_breach t os (Err (faults.Breach b)) digits sound given = message_fault t os (breach_view b) digits sound given
is_breach t os (Err faults.OutOfMemory) digits sound given = tt

pub is_breach_only : (t : AbstractType) (os : List ℕ) (r : Result Value DecodeFault) → IsTrue (is_sound t) → Gives value_view breach_of r (message_of t os)
    → (b : AbstractBreach) → IsBreach t os b → Gives value_view breach_of r (Err b)
is_breach_only t os r sound given b is = subst (λ (a : Result AbstractValue AbstractBreach). Gives value_view breach_of r a) (message_found t os b sound is) given

-- ---- laws

pub one_encoding : (t : AbstractType) (v w : AbstractValue) (os : List ℕ) → IsTrue (is_sound t) → IsTrue (fits t v) → IsTrue (fits t w) → der t v ≡ Some os → der t w ≡ Some os → v ≡ w
one_encoding t v w os sound fit_v fit_w e f = same_Ok {F = AbstractBreach} v w (sym (message_again t os v sound fit_v e) ∙ message_again t os w sound fit_w f)

pub no_prefix : (t : AbstractType) (v w : AbstractValue) (first second x y : List ℕ) → IsTrue (is_sound t) → IsTrue (fits t v) → IsTrue (fits t w) → der t v ≡ Some first → der t w ≡ Some second → first ++ x ≡ second ++ y → (v ≡ w) × (x ≡ y)
no_prefix t v w first second x y sound fit_v fit_w e f same =
    let law = sound_law t sound in
    let a = law.again 0 v first x fit_v e in
    let b = law.again 0 w second y fit_w f in
    let heads : a.header ≡ b.header = head_is (second ++ y) a.header b.header (ap head_of (sym same) ∙ a.stands) b.stands in
    let len : length first ≡ length second = sym a.size ∙ ap (λ (h : Head). h.size + h.contents) heads ∙ b.size in
    let read : element_at t 0 a.header (first ++ x) ≡ Ok w = ap (λ (h : Head). element_at t 0 h (first ++ x)) heads ∙ ap (element_at t 0 b.header) same ∙ b.read in (
      same_Ok {F = AbstractBreach} v w (sym a.read ∙ read),
      sym (drop_at first x (length first) refl) ∙ ap (drop (length first)) same ∙ ap (λ (n : ℕ). drop n (second ++ y)) len ∙ drop_at second y (length second) refl,
    )

answered : (t : AbstractType) (os : List ℕ) (r : Result AbstractValue AbstractBreach) → message_of t os ≡ r → AreDigits 256 os → IsTrue (is_sound t)
    → ((v : AbstractValue) × IsTrue (fits t v) × (der t v ≡ Some os)) ⊎ ((b : AbstractBreach) × IsBreach t os b)
answered t os (Ok v) e digits sound = let m = message_takes t os v digits sound e in inl (v, m.0, m.1)
answered t os (Err b) e digits sound = inr (b, message_fault t os b digits sound e)

pub some_answer : (t : AbstractType) (os : List ℕ) → AreDigits 256 os → IsTrue (is_sound t) → ((v : AbstractValue) × IsTrue (fits t v) × (der t v ≡ Some os)) ⊎ ((b : AbstractBreach) × IsBreach t os b)
some_answer t os digits sound = answered t os (message_of t os) refl digits sound

pub never_both : (t : AbstractType) (os : List ℕ) (v : AbstractValue) (b : AbstractBreach) → IsTrue (is_sound t) → IsTrue (fits t v) → der t v ≡ Some os → IsBreach t os b → ⊥
never_both t os v b sound fit e is = let both : ◌≡◌ {A = Result AbstractValue AbstractBreach} (Ok v) (Err b) = sym (message_again t os v sound fit e) ∙ message_found t os b sound is in absurd cc

pub one_breach : (t : AbstractType) (os : List ℕ) (b c : AbstractBreach) → IsTrue (is_sound t) → IsBreach t os b → IsBreach t os c → b ≡ c
one_breach t os b c sound p q = same_Err {A = AbstractValue} b c (sym (message_found t os b sound p) ∙ message_found t os c sound q)
