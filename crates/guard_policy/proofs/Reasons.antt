-- There is one reason.
use Rattle.std.proofs.Common.{◌≡◌, List, Option, None, Some, Result, Ok, Err, ap, sym, ◌∙◌, subst, inl, inr, ℕ}
use Rattle.std.specs.Prelude.{IsTrue, IfOk, IfSome}
use Rattle.guard_model.specs.AbstractType.{AbstractType}
use Rattle.guard_model.specs.AbstractValue.{AbstractValue}
use Rattle.guard_der.specs.Der.{der}
use Rattle.guard_der.specs.Fits.{fits}
use Rattle.guard_der.specs.Breach.{AbstractBreach, IsBreach}
use Rattle.guard_policy.specs.Verdicts.{AbstractVerdict, undecodable}
use Rattle.guard_policy.specs.Policies.{AbstractPolicy, AbstractRoute, declared_type}
use Rattle.guard_policy.specs.Decisions.{NumberedRule, rules_of, judged, DeclaredReason, IsReason}

-- what is read of the octets: a value or a breach
abbrev pub Read : Type 0
Read = Result AbstractValue AbstractBreach

abbrev pub value_read : AbstractValue → Read
value_read v = Ok v

abbrev pub breach_read : AbstractBreach → Read
breach_read b = Err b

-- the declared type is one
declared_again : (p : AbstractPolicy) (route : AbstractRoute) (octets : List ℕ) (t : AbstractType) (w : AbstractVerdict)
    → declared_type p route.message ≡ Some t → IsReason p route octets w → DeclaredReason t (rules_of p route) octets w
declared_again p route octets t w declared (inl x) = absurd (let e = x.0 in cc)
declared_again p route octets t w declared (inr (u, again, reason)) =
    let same : u ≡ t = cc in subst (λ (x : AbstractType). DeclaredReason x (rules_of p route) octets w) same reason

judged_reason : (t : AbstractType) (rules : List NumberedRule) (octets : List ℕ) (v : AbstractValue) (w : AbstractVerdict)
    → ((u : AbstractValue) → IsTrue (fits t u) → der t u ≡ Some octets → value_read u ≡ value_read v)
    → ((b : AbstractBreach) → IsBreach t octets b → breach_read b ≡ value_read v)
    → DeclaredReason t rules octets w → judged t rules v ≡ w
judged_reason t rules octets v w only never (inl (b, broken, e)) = absurd (let x = never b broken in cc)
judged_reason t rules octets v w only never (inr (u, fitting, encoded, e)) =
    let x = only u fitting encoded in let same : v ≡ u = cc in ap (judged t rules) same ∙ sym e

breach_reason : (t : AbstractType) (rules : List NumberedRule) (octets : List ℕ) (b : AbstractBreach) (w : AbstractVerdict)
    → ((u : AbstractValue) → IsTrue (fits t u) → der t u ≡ Some octets → value_read u ≡ breach_read b)
    → ((c : AbstractBreach) → IsBreach t octets c → breach_read c ≡ breach_read b)
    → DeclaredReason t rules octets w → undecodable b ≡ w
breach_reason t rules octets b w never only (inl (c, broken, e)) =
    let x = only c broken in let same : b ≡ c = cc in ap undecodable same ∙ sym e
breach_reason t rules octets b w never only (inr (u, fitting, encoded, e)) = absurd (let x = never u fitting encoded in cc)

-- where a value was read, the reason is the verdict on it
pub reason_of_value : (p : AbstractPolicy) (route : AbstractRoute) (octets : List ℕ) (t : AbstractType) (v : AbstractValue) (w : AbstractVerdict)
    → declared_type p route.message ≡ Some t
    → ((u : AbstractValue) → IsTrue (fits t u) → der t u ≡ Some octets → value_read u ≡ value_read v)
    → ((b : AbstractBreach) → IsBreach t octets b → breach_read b ≡ value_read v)
    → IsReason p route octets w → judged t (rules_of p route) v ≡ w
reason_of_value p route octets t v w declared only never reason =
    judged_reason t (rules_of p route) octets v w only never (declared_again p route octets t w declared reason)

-- where a breach was found, it is the reason
pub reason_of_breach : (p : AbstractPolicy) (route : AbstractRoute) (octets : List ℕ) (t : AbstractType) (b : AbstractBreach) (w : AbstractVerdict)
    → declared_type p route.message ≡ Some t
    → ((u : AbstractValue) → IsTrue (fits t u) → der t u ≡ Some octets → value_read u ≡ breach_read b)
    → ((c : AbstractBreach) → IsBreach t octets c → breach_read c ≡ breach_read b)
    → IsReason p route octets w → undecodable b ≡ w
reason_of_breach p route octets t b w declared never only reason =
    breach_reason t (rules_of p route) octets b w never only (declared_again p route octets t w declared reason)

pub if_ok_map : {A E : Type 0} (P Q : A → Type 0) (r : Result A E) → ((x : A) → P x → Q x) → IfOk r P → IfOk r Q
if_ok_map P Q (Ok x) f p = f x p
if_ok_map P Q (Err e) f p = tt

pub if_some_map : {A : Type 0} (P Q : A → Type 0) (o : Option A) → ((x : A) → P x → Q x) → IfSome o P → IfSome o Q
if_some_map P Q None f p = tt
if_some_map P Q (Some x) f p = f x p
