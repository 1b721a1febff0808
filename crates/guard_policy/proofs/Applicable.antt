-- The rules that a loop looks at apply to the value.
use Rattle.std.proofs.Common.{◌≡◌, ℕ, List, [], ◌∷◌, slice_get, Bool, true, false, ◌&&◌, cond, Some, ap, ◌∙◌, subst}
use Rattle.std.specs.Prelude.{IsTrue}
use Rattle.std.proofs.lemmas.List.Elements.{All-get_or, recursion_from_All, All-from_recursion}
use Rattle.std.proofs.lemmas.Slice.Eq.{bytes_eq-Decides}
use Rattle.std.specs.Str.{bytes_eq}
use Rattle.std.specs.List.{AllByRecursion}
use Rattle.guard_model.specs.AbstractType.{AbstractType}
use Rattle.guard_model.specs.AbstractValue.{AbstractValue}
use Rattle.guard_der.specs.Fits.{fits}
use Rattle.guard_der.specs.Sound.{is_sound}
use Rattle.guard_policy.specs.Consistency.{IsConsistent}
use Rattle.guard_policy.specs.Policies.{AbstractMessage, AbstractRule, AbstractRoute, declared_among}
use Rattle.guard_policy.specs.inside.Applicable.{AreApplicable}
use Rattle.guard_policy.specs.Decisions.{speaks_of}
use Rattle.guard_policy.specs.Names.{is_meant}
use Rattle.guard_policy.proofs.Consistent.{Fit, rules_fit}
use Rattle.std.proofs.lemmas.Option.{same_Some, slice_get_within, get_or_from_slice_get}

-- what holds of a rule that applies
abbrev pub Applies : AbstractRoute → AbstractValue → AbstractRule → Type 0
Applies route v r = IsTrue (is_sound r.ty) × (IsTrue (speaks_of route r) → IsTrue (fits r.ty v))

-- the rule of a number
pub applicable_number : (route : AbstractRoute) (v : AbstractValue) (rules : List AbstractRule) (n : ℕ) (r : AbstractRule)
    → slice_get rules n ≡ Some r → AreApplicable route v rules → Applies route v r
applicable_number route v rules n r is applicable =
    subst (Applies route v) (get_or_from_slice_get rules n r r is) (All-get_or (Applies route v) rules n r (slice_get_within rules n r is) applicable)

message_of : (a b c : Bool) → (a && b && c) ≡ true → c ≡ true
message_of true true c e = e
message_of true false c e = absurd cc
message_of false b c e = absurd cc

pub speaks_of-message : (route : AbstractRoute) (r : AbstractRule) → speaks_of route r ≡ true → r.message ≡ route.message
speaks_of-message route r e =
    (bytes_eq-Decides r.message route.message).0 (message_of (is_meant r.from route.from) (is_meant r.to route.to) (bytes_eq r.message route.message) e)

applicable_rules : (messages : List AbstractMessage) (route : AbstractRoute) (t : AbstractType) (v : AbstractValue) (rules : List AbstractRule)
    → declared_among messages route.message ≡ Some t → IsTrue (fits t v)
    → AllByRecursion (λ r. IsTrue (is_sound r.ty)) rules → AllByRecursion (Fit messages) rules
    → AllByRecursion (λ r. IsTrue (is_sound r.ty) × (IsTrue (speaks_of route r) → IsTrue (fits r.ty v))) rules
applicable_rules messages route t v [] declared fitting sound fit = tt
applicable_rules messages route t v (r ∷ rs) declared fitting sound fit = (
  (sound.0, λ speaks. fit.0 t (ap (declared_among messages) (speaks_of-message route r speaks) ∙ declared) v fitting),
  applicable_rules messages route t v rs declared fitting sound.1 fit.1,
)

-- in a consistent policy the rules apply to a value that fits the declared type
pub applicable_from_consistent : (messages : List AbstractMessage) (rules : List AbstractRule) (route : AbstractRoute) (t : AbstractType) (v : AbstractValue)
    → IsConsistent messages rules → declared_among messages route.message ≡ Some t → IsTrue (fits t v) → AreApplicable route v rules
applicable_from_consistent messages rules route t v c declared fitting =
    All-from_recursion (λ r. IsTrue (is_sound r.ty) × (IsTrue (speaks_of route r) → IsTrue (fits r.ty v))) rules
    (applicable_rules messages route t v rules declared fitting (recursion_from_All (λ r. IsTrue (is_sound r.ty)) rules c.rules_sound) (rules_fit messages rules c))

-- a declared type is sound
sound_among : (messages : List AbstractMessage) (name : List ℕ) (t : AbstractType) → AllByRecursion (λ m. IsTrue (is_sound m.ty)) messages
    → declared_among messages name ≡ Some t → IsTrue (is_sound t)
sound_among [] name t sound e = absurd cc
sound_among (m ∷ ms) name t sound e =
    let f = λ (b : Bool). cond b (Some m.ty) (declared_among ms name) ≡ Some t → IsTrue (is_sound t) in
    (elim (bytes_eq m.name name) as f [
      | true ↦ λ (is : Some m.ty ≡ Some t). subst (λ u. IsTrue (is_sound u)) (same_Some _ _ is) sound.0
      | false ↦ sound_among ms name t sound.1
    ]) e

pub declared_sound : (messages : List AbstractMessage) (rules : List AbstractRule) (name : List ℕ) (t : AbstractType)
    → IsConsistent messages rules → declared_among messages name ≡ Some t → IsTrue (is_sound t)
declared_sound messages rules name t c e =
    sound_among messages name t (recursion_from_All (λ m. IsTrue (is_sound m.ty)) messages c.messages_sound) e
