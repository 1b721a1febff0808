-- A policy whose tables have no fault is consistent, and in a consistent policy the values of a message's declared type
-- fit the types of its rules.
use Rattle.std.proofs.Common.{◌≡◌, ℕ, suc, List, [], ◌∷◌, Bool, true, false, cond, Option, Some, None, All, option_map, refl, sym, ◌∙◌, subst}
use Rattle.std.specs.Prelude.{IsTrue}
use Rattle.std.specs.Str.{bytes_eq}
use Rattle.std.specs.List.{AllByRecursion}
use Rattle.std.proofs.lemmas.Bool.{false≢true}
use Rattle.std.proofs.lemmas.List.Elements.{recursion_from_All, All-from_recursion}
use Rattle.std.proofs.lemmas.Option.{same_Some}
use Rattle.std.proofs.lemmas.Slice.Eq.{bytes_eq-Decides}
use Rattle.guard_model.specs.AbstractType.{AbstractType}
use Rattle.guard_model.specs.AbstractValue.{AbstractValue}
use Rattle.guard_model.proofs.Options.{option_or_none}
use Rattle.guard_der.specs.Fits.{fits}
use Rattle.guard_der.specs.Sound.{is_sound}
use Rattle.guard_tables.specs.Alike.{AreAlike}
use Rattle.guard_tables.specs.Tables.{first_fault}
use Rattle.guard_tables.specs.declared.fault.TableFault.{TableFault}
use Rattle.guard_tables.proofs.Faultless.{faultless_alike}
use Rattle.guard_policy.specs.EntryFaults.{tables_fault}
use Rattle.guard_policy.specs.PolicyFaults.{bad_table}
use Rattle.guard_policy.specs.Consistency.{types_for, MakesTable, IsConsistent}
use Rattle.guard_policy.specs.Policies.{AbstractMessage, AbstractRule, declared_among}

-- ---- from the faults of tables

unmapped : (n : ℕ) (found : Option TableFault) → option_map (bad_table n) found ≡ None → found ≡ None
unmapped n None e = refl
unmapped n (Some x) e = absurd cc

tables_made : (rules : List AbstractRule) (n : ℕ) (messages : List AbstractMessage) → tables_fault rules n messages ≡ None → AllByRecursion (MakesTable rules) messages
tables_made rules n [] e = tt
tables_made rules n (m ∷ ms) e =
    let p = option_or_none (option_map (bad_table n) (first_fault m.ty (types_for m.name rules))) (tables_fault rules (suc n) ms) e in
    (unmapped n (first_fault m.ty (types_for m.name rules)) p.0, tables_made rules (suc n) ms p.1)

pub consistent : (messages : List AbstractMessage) (rules : List AbstractRule) → All (λ m. IsTrue (is_sound m.ty)) messages → All (λ r. IsTrue (is_sound r.ty)) rules
    → tables_fault rules 1 messages ≡ None → IsConsistent messages rules
consistent messages rules messages_sound rules_sound none = record {
  messages_sound = messages_sound;
  rules_sound = rules_sound;
  tables = All-from_recursion (MakesTable rules) messages (tables_made rules 1 messages none);
}

-- ---- to the values that fit

-- Every value that fits the first type fits the second.
abbrev pub FitsAlso : AbstractType → AbstractType → Type 0
FitsAlso t u = (v : AbstractValue) → IsTrue (fits t v) → IsTrue (fits u v)

-- the rule's type takes the values of the declared type of its message
abbrev pub Fit : List AbstractMessage → AbstractRule → Type 0
Fit messages r = (t : AbstractType) → declared_among messages r.message ≡ Some t → FitsAlso t r.ty

-- the types of the rules that speak of a declared message are like its declared one
alike_for : (rules : List AbstractRule) (messages : List AbstractMessage) (name : List ℕ) (t : AbstractType)
    → AllByRecursion (MakesTable rules) messages → declared_among messages name ≡ Some t → All (AreAlike t) (types_for name rules)
alike_for rules [] name t tables e = absurd cc
alike_for rules (m ∷ ms) name t tables e =
    let f = λ (b : Bool). bytes_eq m.name name ≡ b → cond b (Some m.ty) (declared_among ms name) ≡ Some t → All (AreAlike t) (types_for name rules) in
    (elim (bytes_eq m.name name) as f [
      | true ↦ λ (same : bytes_eq m.name name ≡ true) (is : Some m.ty ≡ Some t).
          subst (λ (u : AbstractType). All (AreAlike u) (types_for name rules)) (same_Some _ _ is)
          (subst (λ (n : List ℕ). All (AreAlike m.ty) (types_for n rules)) ((bytes_eq-Decides m.name name).0 same) (faultless_alike m.ty (types_for m.name rules) tables.0))
      | false ↦ λ other. alike_for rules ms name t tables.1
    ]) refl e

-- each rule of the message has one of these types
each_alike : (t : AbstractType) (name : List ℕ) (rules : List AbstractRule) → AllByRecursion (AreAlike t) (types_for name rules)
    → AllByRecursion (λ r. r.message ≡ name → AreAlike t r.ty) rules
each_alike t name [] alike = tt
each_alike t name (r ∷ rs) alike =
    let f = λ (b : Bool). bytes_eq r.message name ≡ b → AllByRecursion (AreAlike t) (cond b (r.ty ∷ types_for name rs) (types_for name rs))
    → AllByRecursion (λ r. r.message ≡ name → AreAlike t r.ty) (r ∷ rs) in
    (elim (bytes_eq r.message name) as f [
      | true ↦ λ same there. (λ is. there.0, each_alike t name rs there.1)
      | false ↦ λ other there. (λ is. absurd (false≢true (sym other ∙ (bytes_eq-Decides r.message name).1 is)), each_alike t name rs there)
    ]) refl alike

all_fit : (messages : List AbstractMessage) (rules : List AbstractRule)
    → ((t : AbstractType) (name : List ℕ) → declared_among messages name ≡ Some t → AllByRecursion (λ r. r.message ≡ name → AreAlike t r.ty) rules)
    → AllByRecursion (Fit messages) rules
all_fit messages [] h = tt
all_fit messages (r ∷ rs) h = (
  λ t declared v fitting. subst IsTrue ((h t r.message declared).0 refl v).0 fitting,
  all_fit messages rs (λ t name declared. (h t name declared).1),
)

-- the types of some of the rules are sound, where those of all are
sound_for : (name : List ℕ) (rules : List AbstractRule) → AllByRecursion (λ r. IsTrue (is_sound r.ty)) rules → AllByRecursion (λ t. IsTrue (is_sound t)) (types_for name rules)
sound_for name [] sound = tt
sound_for name (r ∷ rs) sound =
    elim (bytes_eq r.message name) as (λ b. AllByRecursion (λ t. IsTrue (is_sound t)) (cond b (r.ty ∷ types_for name rs) (types_for name rs))) [
      | true ↦ (sound.0, sound_for name rs sound.1)
      | false ↦ sound_for name rs sound.1
    ]

pub types_sound : (name : List ℕ) (rules : List AbstractRule) → All (λ r. IsTrue (is_sound r.ty)) rules → All (λ t. IsTrue (is_sound t)) (types_for name rules)
types_sound name rules sound =
    All-from_recursion (λ t. IsTrue (is_sound t)) (types_for name rules) (sound_for name rules (recursion_from_All (λ r. IsTrue (is_sound r.ty)) rules sound))

pub rules_fit : (messages : List AbstractMessage) (rules : List AbstractRule) → IsConsistent messages rules → AllByRecursion (Fit messages) rules
rules_fit messages rules c = all_fit messages rules (λ t name declared.
    each_alike t name rules (recursion_from_All (AreAlike t) (types_for name rules)
    (alike_for rules messages name t (recursion_from_All (MakesTable rules) messages c.tables) declared)))
