-- What the marks of a table say by a route's rules is what the rules say of the value.
use Rattle.std.proofs.Common.{◌≡◌, ◌≢◌, ◌≤◌, ℕ, zero, suc, ◌+◌, List, length, [], ◌∷◌, map, slice_get, Bool, true, false, ◌&&◌, ◌||◌, not, cond, ◌↔◌, Option, None, Some, option_map, string_bytes, All, refl, ap, sym, ◌∙◌, subst, arith, inl, inr}
use Rattle.std.specs.Arc.{arc_value}
use Rattle.std.specs.Prelude.{IsTrue, bytes_eq}
use Rattle.std.specs.List.{list_any, list_all}
use Rattle.std.proofs.lemmas.Option.{same_Some, slice_get-map, slice_get_within, get_or_from_slice_get}
use Rattle.std.proofs.lemmas.List.Elements.{All-get_or}
use Rattle.guard_model.specs.AbstractType.{AbstractType}
use Rattle.guard_model.specs.AbstractValue.{AbstractValue}
use Rattle.guard_der.specs.Der.{der}
use Rattle.guard_der.specs.Fits.{fits}
use Rattle.guard_der.specs.Sound.{is_sound}
use Rattle.guard_der.proofs.Types.Messages.{one_encoding}
use Rattle.guard_eval.specs.Member.{is_member}
use Rattle.guard_tables.specs.declared.slots.Slots.{Slots}
use Rattle.guard_tables.specs.Slots.{none, has}
use Rattle.guard_tables.specs.TableView.{declared_of, table_types}
use Rattle.guard_reader.specs.declared.marks.Marks.{Marks}
use Rattle.guard_reader.specs.Marking.{is_in, HasMarks}
use Rattle.guard_policy.specs.declared.kept.Kept.{Kept}
use Rattle.guard_policy.specs.declared.kept.KeptMessage.{KeptMessage}
use Rattle.guard_policy.specs.declared.passing.Passing.{Passing}
use Rattle.guard_policy.specs.declared.passing.Passing.TheVariants as passing
use Rattle.guard_policy.specs.declared.policy.Policy.{Policy}
use Rattle.guard_policy.specs.declared.policy.Effect.{Effect}
use Rattle.guard_policy.specs.declared.policy.Effect.TheVariants.{Allow, Deny}
use Rattle.guard_policy.specs.declared.routing.RouteRules.{RouteRules}
use Rattle.guard_policy.specs.declared.routing.Routing.{Routing}
use Rattle.guard_policy.specs.Consistency.{types_for}
use Rattle.guard_policy.specs.Decisions.{NumberedRule, speaks_of, speaking, is_allowing, allows, denies, first_where, first_denying, first_allowing, shortfalls, by_allowing, judged, rules_of as route_rules, Goes, IsReason}
use Rattle.guard_policy.specs.declared.verdict.PlainReason.{PlainReason}
use Rattle.guard_policy.specs.declared.verdict.PlainReason.TheVariants as plain
use Rattle.guard_policy.specs.Verdicts.{AbstractVerdict, denied_by, not_allowed, no_rule, reason_view}
use Rattle.guard_policy.specs.KeptView.{kept_message_view}
use Rattle.guard_policy.specs.Names.{is_meant}
use Rattle.guard_policy.specs.PolicyView.{policy_view}
use Rattle.guard_policy.specs.Policies.{AbstractPolicy, AbstractMessage, AbstractRule, AbstractRoute, declared_type, declared_among}
use Rattle.guard_policy.specs.inside.Keeping.{IsFirst}
use Rattle.guard_policy.specs.inside.Listings.{numbers_for}
use Rattle.guard_policy.specs.Told.{IsAllowedBy, IsToldReason, Tells}
use Rattle.guard_policy.specs.Passing.{AreMarks, EncodeNothing, IsAnswer, IsLetBy, IsLetByNone, IsToldBy, first_in}
use Rattle.guard_policy.specs.Routing.{rules_named, slots_where, has_effect, common, speaking_slots, slots_for, route_rules as rules_on, IsRouting, IsRouted}
use Rattle.guard_policy.specs.inside.KeptRules.{messages_kept, rules_kept}
use Rattle.guard_policy.proofs.Applicable.{declared_sound}
use Rattle.guard_policy.proofs.Goes.{judged_denied, judged_undenied, nothing_allows, none_allowed}
use Rattle.guard_policy.proofs.Keeping.{first_named}
use Rattle.guard_policy.proofs.Listed.{speaks_not, with_numbers, declared_pair}
use Rattle.guard_policy.proofs.RuleSlots.{Says, true_at, any, says_slots, common_says, both_mapped, empty, filled_any, empty_any, any_mapped}
use Rattle.guard_policy.proofs.RulesNamed.{types_named}

-- ---- the rules of a message, by their slots

is_in_at : (rs : List AbstractRule) (v : AbstractValue) (n : ℕ) → is_in (map (λ r. r.ty) rs) v n ≡ true_at (map (λ r. is_member r.ty v) rs) n
is_in_at [] v n = refl
is_in_at (r ∷ rs) v zero = refl
is_in_at (r ∷ rs) v (suc n) = is_in_at rs v n

common_mapped : (f g : AbstractRule → Bool) (rs : List AbstractRule) (m k : Slots) → Says (map f rs) m → ((n : ℕ) → has k (suc n) ≡ true_at (map g rs) n)
    → Says (map (λ r. f r && g r) rs) (common m k)
common_mapped f g rs m k p shows = subst (λ (bs : List Bool). Says bs (common m k)) (both_mapped f g rs) (common_says (map f rs) (map g rs) m k p shows)

-- a rule that speaks of the parties, has the effect, and whose type has the value
abbrev answers : Effect → AbstractRoute → AbstractValue → AbstractRule → Bool
answers effect route v r = ((is_meant r.from route.from && is_meant r.to route.to) && has_effect effect r) && is_member r.ty v

says_where : (f : AbstractRule → Bool) (rs : List AbstractRule) (m : Slots) → m ≡ slots_where f rs → Says (map f rs) m
says_where f rs m e = subst (Says (map f rs)) (sym e) (says_slots (map f rs))

-- the slots of the rules that speak of the parties and have the effect
effective : (effect : Effect) (route : AbstractRoute) (rs : List AbstractRule) (r : Routing) (own : Slots) → IsRouting rs r → own ≡ slots_where (has_effect effect) rs
    → Says (map (λ x. (is_meant x.from route.from && is_meant x.to route.to) && has_effect effect x) rs) (common (speaking_slots r route) own)
effective effect route rs r own routing is =
    let senders = says_where (λ x. is_meant x.from route.from) rs (slots_for r.senders route.from) (routing.senders route.from) in
    let receivers = says_where (λ x. is_meant x.to route.to) rs (slots_for r.receivers route.to) (routing.receivers route.to) in
    let parties = common_mapped (λ x. is_meant x.from route.from) (λ x. is_meant x.to route.to) rs (slots_for r.senders route.from) (slots_for r.receivers route.to) senders receivers.others in
    let effects = says_where (has_effect effect) rs own is in
    common_mapped (λ x. is_meant x.from route.from && is_meant x.to route.to) (has_effect effect) rs (speaking_slots r route) own parties effects.others

-- the slots of those whose types have the value
answering : (effect : Effect) (route : AbstractRoute) (v : AbstractValue) (rs : List AbstractRule) (r : Routing) (own members : Slots)
    → IsRouting rs r → own ≡ slots_where (has_effect effect) rs → ((n : ℕ) → has members (suc n) ≡ true_at (map (λ x. is_member x.ty v) rs) n)
    → Says (map (answers effect route v) rs) (common (common (speaking_slots r route) own) members)
answering effect route v rs r own members routing is shows =
    common_mapped (λ x. (is_meant x.from route.from && is_meant x.to route.to) && has_effect effect x) (λ x. is_member x.ty v) rs
    (common (speaking_slots r route) own) members (effective effect route rs r own routing is) shows

-- ---- they are the rules of the route

all_true : (a b c : Bool) → c ≡ true → (a && b && c) ≡ (a && b)
all_true true true c e = e
all_true true false c e = refl
all_true false b c e = refl

grouped : (s e m : Bool) → ((s && e) && m) ≡ (s && (e && m))
grouped true e m = refl
grouped false e m = refl

any_first : (test : NumberedRule → Bool) (b s : Bool) (x : NumberedRule) (xs : List NumberedRule) → b ≡ (s && test x) → (b || list_any test xs) ≡ list_any test (cond s (x ∷ xs) xs)
any_first test b true x xs e = ap (λ c. c || list_any test xs) e
any_first test b false x xs e = ap (λ c. c || list_any test xs) e

-- what a test says of those of the message's rules that speak of the parties, it says of the rules of the route
any_heard : (test : AbstractRule → Bool) (route : AbstractRoute) (i : ℕ) (rules : List AbstractRule)
    → list_any (λ r. (is_meant r.from route.from && is_meant r.to route.to) && test r) (rules_named route.message rules) ≡ list_any (λ x. test x.rule) (speaking route i rules)
any_heard test route i [] = refl
any_heard test route i (r ∷ rs) =
    let heard : AbstractRule → Bool = λ x. (is_meant x.from route.from && is_meant x.to route.to) && test x in
    let more = any_heard test route (i + 1) rs in
    let x : NumberedRule = record { number = i; rule = r } in
    let xs = speaking route (i + 1) rs in
    (elim (bytes_eq r.message route.message) as (λ (b : Bool). bytes_eq r.message route.message ≡ b
    → list_any heard (cond b (r ∷ rules_named route.message rs) (rules_named route.message rs)) ≡ list_any (λ y. test y.rule) (cond (speaks_of route r) (x ∷ xs) xs)) [
      | true ↦ λ same.
          ap (λ b. heard r || b) more
          ∙ any_first (λ y. test y.rule) (heard r) (speaks_of route r) x xs
          (ap (λ s. s && test r) (sym (all_true (is_meant r.from route.from) (is_meant r.to route.to) (bytes_eq r.message route.message) same)))
      | false ↦ λ other. more ∙ ap (λ b. list_any (λ y. test y.rule) (cond b (x ∷ xs) xs)) (sym (speaks_not route r other))
    ]) refl

-- what such a rule says of the value
abbrev says_of : Effect → AbstractValue → NumberedRule → Bool
says_of effect v x = has_effect effect x.rule && is_member x.rule.ty v

any_grouped : (effect : Effect) (route : AbstractRoute) (v : AbstractValue) (rs : List AbstractRule)
    → list_any (answers effect route v) rs ≡ list_any (λ r. (is_meant r.from route.from && is_meant r.to route.to) && (has_effect effect r && is_member r.ty v)) rs
any_grouped effect route v [] = refl
any_grouped effect route v (r ∷ rs) =
    let test : AbstractRule → Bool = λ x. (is_meant x.from route.from && is_meant x.to route.to) && (has_effect effect x && is_member x.ty v) in
    ap (λ b. b || list_any (answers effect route v) rs) (grouped (is_meant r.from route.from && is_meant r.to route.to) (has_effect effect r) (is_member r.ty v))
    ∙ ap (λ b. test r || b) (any_grouped effect route v rs)

any_speaking : (effect : Effect) (route : AbstractRoute) (v : AbstractValue) (i : ℕ) (rules : List AbstractRule)
    → list_any (answers effect route v) (rules_named route.message rules) ≡ list_any (says_of effect v) (speaking route i rules)
any_speaking effect route v i rules =
    any_grouped effect route v (rules_named route.message rules) ∙ any_heard (λ r. has_effect effect r && is_member r.ty v) route i rules

all_not : {A : Type 0} (p : A → Bool) (xs : List A) → list_all (λ x. not (p x)) xs ≡ not (list_any p xs)
all_not p [] = refl
all_not p (x ∷ xs) =
    elim (p x) as (λ (b : Bool). (not b && list_all (λ y. not (p y)) xs) ≡ not (b || list_any p xs)) [
      | true ↦ refl
      | false ↦ all_not p xs
    ]

is_false : (b : Bool) → not b ≡ true → b ≡ false
is_false true e = absurd cc
is_false false e = refl

-- ---- the first rule that says something of the value

-- the first number at whose place the list is true
abbrev first_true : List Bool → List ℕ → Option ℕ
first_true [] ns = None
first_true (b ∷ bs) [] = None
first_true (b ∷ bs) (n ∷ ns) = cond b (Some n) (first_true bs ns)

pub none_in : (m : Slots) (k : ℕ) (ns : List ℕ) → ((n slot : ℕ) → slot ≡ n + k → has m slot ≡ false) → first_in m k ns ≡ None
none_in m k [] shows = refl
none_in m k (n ∷ ns) shows =
    ap (λ b. cond b (Some n) (first_in m (suc k) ns)) (shows 0 k (omega arith)) ∙ none_in m (suc k) ns (λ n slot e. shows (suc n) slot (omega (arith, e)))

first_place : (m : Slots) (k : ℕ) (bs : List Bool) (ns : List ℕ) → ((n slot : ℕ) → slot ≡ n + k → has m slot ≡ true_at bs n) → first_in m k ns ≡ first_true bs ns
first_place m k [] ns shows = none_in m k ns shows
first_place m k (b ∷ bs) [] shows = refl
first_place m k (b ∷ bs) (n ∷ ns) shows =
    ap (λ c. cond c (Some n) (first_in m (suc k) ns)) (shows 0 k (omega arith))
    ∙ ap (λ o. cond b (Some n) o) (first_place m (suc k) bs ns (λ n slot e. shows (suc n) slot (omega (arith, e))))

test_first : (test : AbstractRule → Bool) (b s : Bool) (x : NumberedRule) (xs : List NumberedRule) → b ≡ (s && test x.rule)
    → cond b (Some x.number) (first_where test xs) ≡ first_where test (cond s (x ∷ xs) xs)
test_first test b true x xs e = ap (λ c. cond c (Some x.number) (first_where test xs)) e
test_first test b false x xs e = ap (λ c. cond c (Some x.number) (first_where test xs)) e

abbrev said_by : Effect → AbstractValue → AbstractRule → Bool
said_by effect v r = has_effect effect r && is_member r.ty v

first_speaking : (effect : Effect) (route : AbstractRoute) (v : AbstractValue) (i : ℕ) (rules : List AbstractRule)
    → first_true (map (answers effect route v) (rules_named route.message rules)) (numbers_for route.message i rules) ≡ first_where (said_by effect v) (speaking route i rules)
first_speaking effect route v i [] = refl
first_speaking effect route v i (r ∷ rs) =
    let answer : AbstractRule → Bool = answers effect route v in
    let more = first_speaking effect route v (i + 1) rs in
    let x : NumberedRule = record { number = i; rule = r } in
    let xs = speaking route (i + 1) rs in
    let numbers = numbers_for route.message (i + 1) rs in
    (elim (bytes_eq r.message route.message) as (λ (b : Bool). bytes_eq r.message route.message ≡ b
    → first_true (map answer (cond b (r ∷ rules_named route.message rs) (rules_named route.message rs))) (cond b (i ∷ numbers) numbers) ≡ first_where (said_by effect v) (cond (speaks_of route r) (x ∷ xs) xs)) [
      | true ↦ λ same.
          ap (λ o. cond (answer r) (Some i) o) more
          ∙ test_first (said_by effect v) (answer r) (speaks_of route r) x xs
          (grouped (is_meant r.from route.from && is_meant r.to route.to) (has_effect effect r) (is_member r.ty v)
          ∙ ap (λ s. s && said_by effect v r) (sym (all_true (is_meant r.from route.from) (is_meant r.to route.to) (bytes_eq r.message route.message) same)))
      | false ↦ λ other. more ∙ ap (λ b. first_where (said_by effect v) (cond b (x ∷ xs) xs)) (sym (speaks_not route r other))
    ]) refl

-- a rule that is the first to pass a test passes it
some_first : (test : AbstractRule → Bool) (rs : List NumberedRule) (i : ℕ) → first_where test rs ≡ Some i → list_any (λ r. test r.rule) rs ≡ true
some_first test [] i e = absurd cc
some_first test (r ∷ rs) i e =
    (elim (test r.rule) as (λ (b : Bool). cond b (Some r.number) (first_where test rs) ≡ Some i → (b || list_any (λ x. test x.rule) rs) ≡ true) [
      | true ↦ λ here. refl
      | false ↦ λ later. some_first test rs i later
    ]) e

-- and where one passes it, one is the first
first_of_some : (test : AbstractRule → Bool) (rs : List NumberedRule) → list_any (λ r. test r.rule) rs ≡ true → (i : ℕ) × (first_where test rs ≡ Some i)
first_of_some test [] e = absurd cc
first_of_some test (r ∷ rs) e =
    (elim (test r.rule) as (λ (b : Bool). (b || list_any (λ x. test x.rule) rs) ≡ true → (i : ℕ) × (cond b (Some r.number) (first_where test rs) ≡ Some i)) [
      | true ↦ λ here. (r.number, refl)
      | false ↦ λ later. first_of_some test rs later
    ]) e

-- ---- the message goes

module _ (p : Kept) (policy : AbstractPolicy) (route : AbstractRoute) (octets : List ℕ) (m : KeptMessage) (marks : Marks) (v : AbstractValue)
    (same_messages : policy.messages ≡ messages_kept p) (same_rules : policy.rules ≡ rules_kept p) (declared : declared_type policy route.message ≡ Some (declared_of (arc_value m.table)))
    (routed : IsRouted (rules_kept p) m) (name : string_bytes m.name ≡ route.message)
    (fitting : IsTrue (fits (declared_of (arc_value m.table)) v)) (encoded : der (declared_of (arc_value m.table)) v ≡ Some octets) (has_marks : HasMarks marks (table_types (arc_value m.table)) v) where
  abbrev named : List AbstractRule
  named = rules_named (string_bytes m.name) (rules_kept p)

  shows : (n : ℕ) → has marks.members (suc n) ≡ true_at (map (λ r. is_member r.ty v) named) n
  shows n =
      has_marks (suc n)
      ∙ routed.types v n ∙ ap (λ (ts : List AbstractType). is_in ts v n) (sym (types_named (string_bytes m.name) (rules_kept p))) ∙ is_in_at named v n

  abbrev slots_of : Slots → Slots
  slots_of own = common (common (speaking_slots m.routing route) own) marks.members

  said : (effect : Effect) → any (map (answers effect route v) named) ≡ list_any (says_of effect v) (route_rules policy route)
  said effect =
      any_mapped (answers effect route v) named
      ∙ ap (λ (n : List ℕ). list_any (answers effect route v) (rules_named n (rules_kept p))) name
      ∙ any_speaking effect route v 0 (rules_kept p)
      ∙ ap (λ (rules : List AbstractRule). list_any (says_of effect v) (speaking route 0 rules)) (sym same_rules)

  allowed : Says (map (answers Allow route v) named) (slots_of m.routing.allowing)
  allowed = answering Allow route v named m.routing m.routing.allowing marks.members routed.routing routed.routing.allowing shows

  denied : Says (map (answers Deny route v) named) (slots_of m.routing.denying)
  denied = answering Deny route v named m.routing m.routing.denying marks.members routed.routing routed.routing.denying shows

  sound : IsTrue (is_sound (declared_of (arc_value m.table)))
  sound =
      declared_sound (messages_kept p) (rules_kept p) route.message (declared_of (arc_value m.table)) p.consistent
      (ap (λ (ms : List AbstractMessage). declared_among ms route.message) (sym same_messages) ∙ declared)

  inside : IsTrue (has marks.members 0) → is_member (declared_of (arc_value m.table)) v ≡ true
  inside of_type = sym (has_marks 0) ∙ of_type

  undenied : common (rules_on m.routing route).denying marks.members ≡ none → list_all (λ r. not (denies r.rule v)) (route_rules policy route) ≡ true
  undenied none_denies =
      all_not (says_of Deny v) (route_rules policy route)
      ∙ ap not (sym (said Deny) ∙ empty_any (map (answers Deny route v) named) (slots_of m.routing.denying) denied none_denies)

  unallowed : common (rules_on m.routing route).allowing marks.members ≡ none → list_any (λ r. allows r.rule v) (route_rules policy route) ≡ false
  unallowed none_allows = sym (said Allow) ∙ empty_any (map (answers Allow route v) named) (slots_of m.routing.allowing) allowed none_allows

  first_said : (effect : Effect) (own : Slots) → Says (map (answers effect route v) named) (slots_of own) → (numbers : List ℕ) → numbers ≡ numbers_for route.message 0 policy.rules
      → first_in (slots_of own) 1 numbers ≡ first_where (said_by effect v) (route_rules policy route)
  first_said effect own says numbers listed =
      first_place (slots_of own) 1 (map (answers effect route v) named) numbers
      (λ n slot e. let at : slot ≡ suc n = omega (arith, e) in ap (has (slots_of own)) at ∙ says.others n)
      ∙ ap (λ (rules : List AbstractRule). first_true (map (answers effect route v) rules) numbers) (ap (λ (n : List ℕ). rules_named n (rules_kept p)) name)
      ∙ ap (first_true (map (answers effect route v) (rules_named route.message (rules_kept p)))) (listed ∙ ap (numbers_for route.message 0) same_rules)
      ∙ first_speaking effect route v 0 (rules_kept p)
      ∙ ap (λ (rules : List AbstractRule). first_where (said_by effect v) (speaking route 0 rules)) (sym same_rules)

  first_denied : (numbers : List ℕ) → numbers ≡ numbers_for route.message 0 policy.rules
      → first_in (slots_of m.routing.denying) 1 numbers ≡ first_denying (route_rules policy route) v
  first_denied = first_said Deny m.routing.denying denied

  first_allowed : (numbers : List ℕ) → numbers ≡ numbers_for route.message 0 policy.rules
      → first_in (slots_of m.routing.allowing) 1 numbers ≡ first_allowing (route_rules policy route) v
  first_allowed = first_said Allow m.routing.allowing allowed

  module _ (numbers : List ℕ) (listed : numbers ≡ numbers_for route.message 0 policy.rules) where
    goes : (rule : ℕ) → IsTrue (has marks.members 0) → IsLetBy (rules_on m.routing route) numbers marks.members rule → IsAllowedBy policy route octets rule
    goes rule of_type (first, none_denies) =
        let rs = route_rules policy route in
        let is : first_allowing rs v ≡ Some rule = sym (first_allowed numbers listed) ∙ first in (
          (declared_of (arc_value m.table), v, declared, fitting, encoded, inside of_type, some_first (λ r. allows r v) rs rule is, undenied none_denies),
          is,
        )

    only : Goes policy route octets → IsTrue (has marks.members 0) × (rule : ℕ) × IsLetBy (rules_on m.routing route) numbers marks.members rule
    only (u, w, declared_too, fitting_too, encoded_too, is_in_too, some, none_denies) =
        let rs = route_rules policy route in
        let same : u ≡ declared_of (arc_value m.table) = same_Some _ _ (sym declared_too ∙ declared) in
        let is_v : w ≡ v = one_encoding (declared_of (arc_value m.table)) w v octets sound (subst (λ (x : AbstractType). IsTrue (fits x w)) same fitting_too) fitting (subst (λ (x : AbstractType). der x w ≡ Some octets) same encoded_too) encoded in
        let first = first_of_some (λ r. allows r v) rs (subst (λ (x : AbstractValue). list_any (λ r. allows r.rule x) rs ≡ true) is_v some) in (
          has_marks 0 ∙ subst (λ (x : AbstractValue). is_member (declared_of (arc_value m.table)) x ≡ true) is_v (subst (λ (x : AbstractType). is_member x w ≡ true) same is_in_too),
          first.0,
          (
            first_allowed numbers listed ∙ first.1,
            empty (map (answers Deny route v) named) (slots_of m.routing.denying) denied
                (said Deny ∙ is_false (list_any (says_of Deny v) rs) (sym (all_not (says_of Deny v) rs)
                ∙ subst (λ (x : AbstractValue). list_all (λ r. not (denies r.rule x)) rs ≡ true) is_v none_denies)),
          ),
        )

-- ---- whether a rule of the route allows anything

module _ (rules : List AbstractRule) (route : AbstractRoute) (m : KeptMessage) (routed : IsRouted rules m) (name : string_bytes m.name ≡ route.message) where
  abbrev of_message : List AbstractRule
  of_message = rules_named (string_bytes m.name) rules

  abbrev may_allow : AbstractRule → Bool
  may_allow r = (is_meant r.from route.from && is_meant r.to route.to) && has_effect Allow r

  some_may : any (map may_allow of_message) ≡ list_any (λ r. is_allowing r.rule) (speaking route 0 rules)
  some_may = any_mapped may_allow of_message ∙ ap (λ (n : List ℕ). list_any may_allow (rules_named n rules)) name ∙ any_heard (has_effect Allow) route 0 rules

  they_say : Says (map may_allow of_message) (rules_on m.routing route).allowing
  they_say = effective Allow route of_message m.routing m.routing.allowing routed.routing routed.routing.allowing

  unallowing : (rules_on m.routing route).allowing ≡ none → list_any (λ r. is_allowing r.rule) (speaking route 0 rules) ≡ false
  unallowing empty_now = sym some_may ∙ empty_any (map may_allow of_message) (rules_on m.routing route).allowing they_say empty_now

  allowing : (rules_on m.routing route).allowing ≢ none → list_any (λ r. is_allowing r.rule) (speaking route 0 rules) ≡ true
  allowing filled_now = sym some_may ∙ filled_any (map may_allow of_message) (rules_on m.routing route).allowing they_say filled_now

-- ---- as the code has it

routed_there : (messages : List KeptMessage) (rules : List AbstractRule) (place : ℕ) (m : KeptMessage) → All (IsRouted rules) messages → slice_get messages place ≡ Some m
    → IsRouted rules m
routed_there messages rules place m routed there =
    subst (IsRouted rules) (get_or_from_slice_get messages place m m there) (All-get_or (IsRouted rules) messages place m (slice_get_within messages place m there) routed)

routed_first : (messages : List KeptMessage) (rules : List AbstractRule) (name : List ℕ) (m : KeptMessage) → All (IsRouted rules) messages → IsFirst name messages m
    → IsRouted rules m × (string_bytes m.name ≡ name)
routed_first messages rules name m routed first =
    let named = first_named (map kept_message_view messages) (map kept_message_view messages) 0 first.place name refl first.first in
    let viewed : slice_get (map kept_message_view messages) first.place ≡ Some (kept_message_view m) = slice_get-map kept_message_view messages first.place ∙ ap (option_map kept_message_view) first.there in (
      routed_there messages rules first.place m routed first.there,
      ap (λ (x : AbstractMessage). x.name) (same_Some _ _ (sym viewed ∙ named.1)) ∙ named.2,
    )

module _ (policy : Policy) (route : AbstractRoute) (octets numbers : List ℕ) (m : KeptMessage)
    (listed : ◌≡◌ {A = Option (AbstractType × List ℕ)} (Some (declared_of (arc_value m.table), numbers))
    (option_map (with_numbers (policy_view policy).rules route.message) (declared_type (policy_view policy) route.message)))
    (first : IsFirst route.message policy.kept.messages.items m) where
  declares : declared_type (policy_view policy) route.message ≡ Some (declared_of (arc_value m.table))
  declares = (declared_pair (policy_view policy).rules route.message (declared_type (policy_view policy) route.message) (declared_of (arc_value m.table)) numbers listed).0

  routed : IsRouted (rules_kept policy.kept) m × (string_bytes m.name ≡ route.message)
  routed = routed_first policy.kept.messages.items (rules_kept policy.kept) route.message m policy.kept.routed first

  -- what goes is the encoding of a value of the message's type
  encoded : Goes (policy_view policy) route octets → EncodeNothing (arc_value m.table) octets → ⊥
  encoded g nothing =
      let is : g.0 ≡ declared_of (arc_value m.table) = same_Some _ _ (sym g.2 ∙ declares) in
      nothing g.1 (subst (λ (t : AbstractType). IsTrue (fits t g.1)) is g.3) (subst (λ (t : AbstractType). der t g.1 ≡ Some octets) is g.4)

  own_numbers : m.numbers.items ≡ numbers_for route.message 0 (policy_view policy).rules
  own_numbers = routed.0.numbers ∙ ap (λ (name : List ℕ). numbers_for name 0 (rules_kept policy.kept)) routed.1

  -- where no allowing rule speaks of the route, none of its rules allows anything
  unallowed_by : (rules : RouteRules) → rules ≡ rules_on m.routing route → rules.allowing ≡ none
      → list_any (λ r. is_allowing r.rule) (route_rules (policy_view policy) route) ≡ false
  unallowed_by rules are empty_now =
      unallowing (rules_kept policy.kept) route m routed.0 routed.1 (ap (λ (r : RouteRules). r.allowing) (sym are) ∙ empty_now)

  allowed_by : (rules : RouteRules) → rules ≡ rules_on m.routing route → rules.allowing ≢ none
      → list_any (λ r. is_allowing r.rule) (route_rules (policy_view policy) route) ≡ true
  allowed_by rules are filled_now = allowing (rules_kept policy.kept) route m routed.0 routed.1 (subst (λ (r : RouteRules). r.allowing ≢ none) are filled_now)

  -- so what the marks tell is the reason
  module _ (own : List ℕ) (are_own : own ≡ numbers_for route.message 0 (policy_view policy).rules) (rules : RouteRules) (marks : Marks) (are : rules ≡ rules_on m.routing route)
      (v : AbstractValue) (fitting : IsTrue (fits (declared_of (arc_value m.table)) v)) (encoded : der (declared_of (arc_value m.table)) v ≡ Some octets) (has_marks : HasMarks marks (table_types (arc_value m.table)) v)
      (of_type : IsTrue (has marks.members 0)) where
    abbrev rs : List NumberedRule
    rs = route_rules (policy_view policy) route

    is_of_type : is_member (declared_of (arc_value m.table)) v ≡ true
    is_of_type = inside policy.kept (policy_view policy) route octets m marks v refl refl declares routed.0 routed.1 fitting encoded has_marks of_type

    because : (w : AbstractVerdict) → judged (declared_of (arc_value m.table)) rs v ≡ w → IsReason (policy_view policy) route octets w
    because w e = inr (declared_of (arc_value m.table), declares, inr (v, fitting, encoded, sym e))

    undenied_so : common rules.denying marks.members ≡ none → judged (declared_of (arc_value m.table)) rs v ≡ by_allowing rs v
    undenied_so none_denies =
        judged_undenied (declared_of (arc_value m.table)) rs v fitting is_of_type
        (undenied policy.kept (policy_view policy) route octets m marks v refl refl declares routed.0 routed.1 fitting encoded has_marks
        (ap (λ (r : RouteRules). common r.denying marks.members) (sym are) ∙ none_denies))

    told_by_them : (r : PlainReason) → IsToldBy rules own marks.members r → IsToldReason (policy_view policy) route octets (reason_view r)
    told_by_them plain.UnknownMessage told = absurd told
    told_by_them (plain.DeniedBy i) told = because (denied_by i)
        (judged_denied (declared_of (arc_value m.table)) rs v i fitting is_of_type
        (sym (first_denied policy.kept (policy_view policy) route octets m marks v refl refl declares routed.0 routed.1 fitting encoded has_marks own are_own)
        ∙ ap (λ (r : RouteRules). first_in (common r.denying marks.members) 1 own) (sym are) ∙ told))
    told_by_them plain.NotAllowed (none_denies, some, none_allows) = (
      shortfalls rs v,
      because (not_allowed (shortfalls rs v))
          (undenied_so none_denies
          ∙ none_allowed rs v
          (unallowed policy.kept (policy_view policy) route octets m marks v refl refl declares routed.0 routed.1 fitting encoded has_marks
          (ap (λ (r : RouteRules). common r.allowing marks.members) (sym are) ∙ none_allows))
          (allowed_by rules are some)),
    )
    told_by_them plain.NoRule (none_denies, none_allows) = because no_rule (undenied_so none_denies ∙ nothing_allows rs v (unallowed_by rules are none_allows))

  stays : (rules : RouteRules) (marks : Marks) → rules ≡ rules_on m.routing route → AreMarks (arc_value m.table) octets marks
      → (IsTrue (has marks.members 0) → IsLetByNone rules m.numbers.items marks.members) → Goes (policy_view policy) route octets → ⊥
  stays rules marks are (v, fitting, encoded, has_marks) never goes_so =
      let by = only policy.kept (policy_view policy) route octets m marks v refl refl declares routed.0 routed.1 fitting encoded has_marks m.numbers.items own_numbers goes_so in
      never by.0 by.1 (subst (λ (r : RouteRules). IsLetBy r m.numbers.items marks.members by.1) (sym are) by.2)

  pub tells : (rules : RouteRules) (answer : Passing) → rules ≡ rules_on m.routing route → IsAnswer m rules octets answer
      → Tells (policy_view policy) route octets answer
  tells rules (passing.Goes rule) are (marks, (v, fitting, encoded, has_marks), of_type, by) =
      goes policy.kept (policy_view policy) route octets m marks v refl refl declares routed.0 routed.1 fitting encoded has_marks m.numbers.items own_numbers rule of_type
      (subst (λ (r : RouteRules). IsLetBy r m.numbers.items marks.members rule) are by)
  tells rules (passing.Stopped (Some reason)) are (marks, walked, of_type, never, told) = (
    stays rules marks are walked (λ typed. never),
    told_by_them m.numbers.items own_numbers rules marks are walked.0 walked.1 walked.2 walked.3 of_type reason told,
  )
  tells rules (passing.Stopped None) are told = (
    λ goes. elim told [
      | inl nothing ↦ encoded goes nothing
      | inr w ↦ stays rules w.0 are w.1 w.2 goes
    ],
    tt,
  )
