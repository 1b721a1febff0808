-- What whole values come to: the value that is denoted, or the first fault, which holds at its site.
use Rattle.std.proofs.Common.{◌≡◌, Bool, true, false, cond, List, [], ◌∷◌, Some, Ok, Err, inl, inr, refl, sym, ap, ◌∙◌, subst}
use Rattle.std.specs.Prelude.{slice_get}
use Rattle.guard_model.specs.Answer.{◌>>=◌}
use Rattle.guard_model.proofs.Results.{same_Err, bind_ok, bind_err}
use Rattle.guard_model.specs.declared.site.Site.{Site}
use Rattle.guard_model.specs.AbstractType.{AbstractType}
use Rattle.guard_model.specs.AbstractValue.{AbstractValue}
use Rattle.guard_der.specs.Der.{der}
use Rattle.guard_der.specs.ProperConstraints.{is_short}
use Rattle.guard_syntax.specs.Trees.{WrittenValue, value_node}
use Rattle.guard_values.specs.declared.fault.ValueFault.{ValueFault}
use Rattle.guard_values.specs.declared.fault.ValueFault.TheVariants.{TooLarge}
use Rattle.guard_values.specs.Meanings.{Meaning}
use Rattle.guard_values.specs.Denotes.{Denotes}
use Rattle.guard_values.specs.Faults.{faults_of}
use Rattle.guard_values.specs.Conditions.{Somewhere, HasLongEncoding, IsFaultIn}
use Rattle.guard_values.specs.FirstFault.{IsFirstFault}
use Rattle.guard_values.specs.inside.Reading.{Read, limited, site_of, read, read_first_fault, sorted_or, read_sorted, read_whole}
use Rattle.guard_values.proofs.Denoted.DenotedIsRead.{says_read}
use Rattle.guard_values.proofs.Denoted.ReadIsDenoted.{read_said, limited_ok}
use Rattle.guard_values.proofs.FirstFaults.StandingFaults.{first_stands}
use Rattle.guard_values.proofs.FirstFaults.ReadingRefuses.{Tells, IsLong, here_somewhere, read_tells}

limited_err : (site : Site) (t : AbstractType) (v : AbstractValue) (f : ValueFault) → limited site t v ≡ Err f → (is_short (der t v) ≡ false) × (TooLarge site ≡ f)
limited_err site t v f e = here (is_short (der t v)) refl e where
  here : (b : Bool) → is_short (der t v) ≡ b → cond b (Ok v) (Err (TooLarge site)) ≡ Err f → (is_short (der t v) ≡ false) × (TooLarge site ≡ f)
  here true is e = absurd cc
  here false is e = (is, same_Err (TooLarge site) f e)

long_last : (m : Meaning) (t : AbstractType) (tree : WrittenValue) (f : ValueFault) → faults_of m t tree ≡ [] → TooLarge (site_of tree) ≡ f → Somewhere (HasLongEncoding m) t tree → IsFirstFault m t tree f
long_last m t (value_node site form) f none is long = inr (none, (sym is, long))

pub not_there : (fs : List ValueFault) (f : ValueFault) → slice_get fs 0 ≡ Some f → fs ≡ [] → ⊥
not_there [] f e none = cc
not_there (g ∷ fs) f e none = cc

-- read as it is written
as_written : (m : Meaning) (tree : WrittenValue) (t : AbstractType) (g f : ValueFault) (r s : Read AbstractValue) → r ≡ Err g → Tells (IsLong m true t tree) (faults_of m t tree) r → Tells (IsLong m false t tree) (faults_of m t tree) s
    → ◌≡◌ {A = Read AbstractValue} (s >>= λ v. Err (TooLarge (site_of tree))) (Err f) → IsFirstFault m t tree f
as_written m tree t g f (Ok v) s is tells told e = absurd cc
as_written m tree t g f (Err h) (Err k) is tells (inl first) e = let same : k ≡ f = same_Err k f e in inl (subst (λ x. slice_get (faults_of m t tree) 0 ≡ Some x) same first)
as_written m tree t g f (Err h) (Err k) is tells (inr long) e = absurd (let wrong = long.0 in cc)
as_written m tree t g f (Err h) (Ok v) is (inl first) told e = absurd (not_there (faults_of m t tree) h first told)
as_written m tree t g f (Err h) (Ok v) is (inr long) told e = long_last m t tree f told (same_Err (TooLarge (site_of tree)) f e) long.1

sorted_err : (m : Meaning) (tree : WrittenValue) (t : AbstractType) (f : ValueFault) (r : Read AbstractValue) → read m true t tree ≡ r → sorted_or r (read_first_fault m t tree) ≡ Err f → IsFirstFault m t tree f
sorted_err m tree t f (Ok v) is e = absurd cc
sorted_err m tree t f (Err g) is e =
    as_written m tree t g f (Err g) (read m false t tree) refl (subst (λ (r : Read AbstractValue). Tells (IsLong m true t tree) (faults_of m t tree) r) is (read_tells m true tree t)) (read_tells m false tree t) e

pub sorted_ok : (m : Meaning) (tree : WrittenValue) (t : AbstractType) (v : AbstractValue) → read_sorted m t tree ≡ Ok v → read m true t tree ≡ Ok v
sorted_ok m tree t v e = here (read m true t tree) (read m false t tree) e where
  here : (r s : Read AbstractValue) → sorted_or r (s >>= λ v. Err (TooLarge (site_of tree))) ≡ Ok v → r ≡ Ok v
  here (Ok w) s e = e
  here (Err g) (Ok w) e = absurd cc
  here (Err g) (Err h) e = absurd cc

pub whole_first : (m : Meaning) (tree : WrittenValue) (t : AbstractType) (f : ValueFault) → read_whole m t tree ≡ Err f → IsFirstFault m t tree f
whole_first m tree t f e = elim (bind_err (read_sorted m t tree) (λ v. limited (site_of tree) t v) f e) [
  | inl h ↦ sorted_err m tree t f (read m true t tree) refl h
  | inr h ↦
      let is = sorted_ok m tree t h.0 h.1 in
      let l = limited_err (site_of tree) t h.0 f h.2 in
      long_last m t tree f (subst (λ (r : Read AbstractValue). Tells (IsLong m true t tree) (faults_of m t tree) r) is (read_tells m true tree t)) l.1 (here_somewhere (HasLongEncoding m) t tree (h.0, read_said m tree t h.0 is, l.0))
]

pub first_holds : (m : Meaning) (tree : WrittenValue) (t : AbstractType) (f : ValueFault) → IsFirstFault m t tree f → IsFaultIn m t tree f
first_holds m tree t f (inl h) = inl (first_stands m tree t f h)
first_holds m tree t f (inr h) = inr h.1

pub whole_holds : (m : Meaning) (tree : WrittenValue) (t : AbstractType) (f : ValueFault) → read_whole m t tree ≡ Err f → IsFaultIn m t tree f
whole_holds m tree t f e = first_holds m tree t f (whole_first m tree t f e)

same_Some : {A : Type 0} (x y : A) → Some x ≡ Some y → x ≡ y
same_Some x y e = cc

-- one fault at most is the first
pub one_first : (m : Meaning) (tree : WrittenValue) (t : AbstractType) (f g : ValueFault) → IsFirstFault m t tree f → IsFirstFault m t tree g → f ≡ g
one_first m tree t f g (inl h) (inl k) = same_Some f g (sym h ∙ k)
one_first m tree t f g (inl h) (inr k) = absurd (not_there (faults_of m t tree) f h k.0)
one_first m tree t f g (inr h) (inl k) = absurd (not_there (faults_of m t tree) g k h.0)
one_first m (value_node site form) t f g (inr h) (inr k) = h.1.0 ∙ sym k.1.0

pub whole_denotes : (m : Meaning) (tree : WrittenValue) (t : AbstractType) (v : AbstractValue) → read_whole m t tree ≡ Ok v → Denotes m t tree v
whole_denotes m tree t v e =
    let b = bind_ok (read_sorted m t tree) (λ w. limited (site_of tree) t w) v e in
    let l = limited_ok (site_of tree) t b.0 v b.2 in
    (read_said m tree t v (sorted_ok m tree t b.0 b.1 ∙ ap (λ (w : AbstractValue). Ok w) l.1), l.0)

pub denotes_whole : (m : Meaning) (tree : WrittenValue) (t : AbstractType) (v : AbstractValue) → Denotes m t tree v → read_whole m t tree ≡ Ok v
denotes_whole m tree t v h = rw (says_read m tree t v h.0, h.1) refl

pub whole_denotes_none : (m : Meaning) (tree : WrittenValue) (t : AbstractType) (f : ValueFault) → read_whole m t tree ≡ Err f → (v : AbstractValue) → Denotes m t tree v → ⊥
whole_denotes_none m tree t f e v h =
    let both : ◌≡◌ {A = Read AbstractValue} (Ok v) (Err f) = sym (denotes_whole m tree t v h) ∙ e in
    absurd cc
