-- What the octets of a route's names lead to decides of a message on the route.
use Rattle.std.proofs.Common.{◌≡◌, ℕ, List, [], ◌∷◌, map, slice_get, Bool, true, false, ◌||◌, Option, Some, None, option_map, option_and_then, string_bytes, refl, ap, sym, ◌∙◌}
use Rattle.std.specs.Arc.{arc_value}
use Rattle.std.specs.List.{list_any, AllByRecursion}
use Rattle.std.proofs.lemmas.List.Elements.{recursion_from_All}
use Rattle.std.proofs.lemmas.Option.{same_Some, slice_get-map}
use Rattle.guard_model.specs.AbstractType.{AbstractType}
use Rattle.guard_tables.specs.TableView.{declared_of}
use Rattle.guard_policy.specs.declared.index.Index.{Index}
use Rattle.guard_policy.specs.declared.kept.KeptMessage.{KeptMessage}
use Rattle.guard_policy.specs.declared.kept.KeptRule.{KeptRule}
use Rattle.guard_policy.specs.declared.leads.Lead.{Lead}
use Rattle.guard_policy.specs.declared.passing.Passing.{Passing}
use Rattle.guard_policy.specs.declared.policy.Policy.{Policy}
use Rattle.guard_policy.specs.KeptView.{kept_message_view, kept_rule_view}
use Rattle.guard_policy.specs.NamedRoutes.{gives, IsGiven}
use Rattle.guard_policy.specs.PolicyView.{policy_view}
use Rattle.guard_policy.specs.Policies.{AbstractMessage, AbstractRoute, declared_type}
use Rattle.guard_policy.specs.Told.{Tells}
use Rattle.guard_policy.specs.inside.Keeping.{IsFirst}
use Rattle.guard_policy.specs.inside.Leads.{given_route, lead_there, lead_of, found_lead}
use Rattle.guard_policy.specs.inside.Listings.{AbstractListed, found_in, listing, place_among, numbers_for}
use Rattle.guard_policy.specs.Passing.{IsAnswer}
use Rattle.guard_policy.specs.Routing.{route_rules}
use Rattle.guard_policy.specs.inside.KeptRules.{rules_kept}
use Rattle.guard_policy.proofs.ByMarks.{tells}
use Rattle.guard_policy.proofs.GivenRoutes.{is_given, given_is, gives_own}
use Rattle.guard_policy.proofs.Keeping.{first_named}
use Rattle.guard_policy.proofs.Listed.{with_numbers, listed_parts, listed_type}

-- ---- what a route leads to

-- where a route leads to something
pub record LeadsTo (index : Index) (messages : List KeptMessage) (route : AbstractRoute) (lead : Lead) : Type 0 where
  pub listed : AbstractListed
  pub found : found_in index route.message ≡ Some listed
  pub place : listed.place ≡ lead.place
  pub message : KeptMessage
  pub there : slice_get messages lead.place ≡ Some message
  pub rules : lead.rules ≡ route_rules message.routing route

leads_there : (index : Index) (messages : List KeptMessage) (route : AbstractRoute) (lead : Lead) (l : AbstractListed) (o : Option KeptMessage)
    → found_in index route.message ≡ Some l → slice_get messages l.place ≡ o
    → option_map {U = Lead} (λ m. record { place = l.place; rules = route_rules m.routing route }) o ≡ Some lead → LeadsTo index messages route lead
leads_there index messages route lead l None found at e = absurd cc
leads_there index messages route lead l (Some m) found at e =
    let is : ◌≡◌ {A = Lead} (record { place = l.place; rules = route_rules m.routing route }) lead = same_Some _ _ e in
    let place : l.place ≡ lead.place = ap (λ (x : Lead). x.place) is in
    record {
      listed = l;
      found = found;
      place = place;
      message = m;
      there = ap (slice_get messages) (sym place) ∙ at;
      rules = sym (ap (λ (x : Lead). x.rules) is);
    }

leads_to : (index : Index) (messages : List KeptMessage) (route : AbstractRoute) (lead : Lead) (o : Option AbstractListed)
    → found_in index route.message ≡ o → option_and_then (lead_there messages route) o ≡ Some lead → LeadsTo index messages route lead
leads_to index messages route lead None found e = absurd cc
leads_to index messages route lead (Some l) found e = leads_there index messages route lead l (slice_get messages l.place) found refl e

-- of the octets of a route
pub record LedBy (policy : Policy) (names : List ℕ) (lead : Lead) : Type 0 where
  pub route : AbstractRoute
  pub given : given_route names (rules_kept policy.kept) ≡ Some route
  pub leads : LeadsTo policy.kept.index policy.kept.messages.items route lead

led_route : (policy : Policy) (names : List ℕ) (lead : Lead) (o : Option AbstractRoute) → given_route names (rules_kept policy.kept) ≡ o
    → option_and_then (lead_of policy.kept.index policy.kept.messages.items) o ≡ Some lead → LedBy policy names lead
led_route policy names lead None given e = absurd cc
led_route policy names lead (Some route) given e =
    record {
      route = route;
      given = given;
      leads = leads_to policy.kept.index policy.kept.messages.items route lead (found_in policy.kept.index route.message) refl e;
    }

pub led_by : (policy : Policy) (names : List ℕ) (lead : Lead) → found_lead policy.kept.leads names ≡ Some lead → LedBy policy names lead
led_by policy names lead found =
    led_route policy names lead (given_route names (rules_kept policy.kept)) refl (sym (policy.kept.led names) ∙ found)

-- ---- where it leads to nothing

module _ (policy : Policy) (names : List ℕ) where
  -- the message of a rule is in its place
  rule_led : (route : AbstractRoute) (rules : List KeptRule) → AllByRecursion (λ r. place_among (string_bytes r.message) 0 (policy_view policy).messages ≡ Some r.ty.message) rules
      → list_any (gives route) (map (kept_rule_view policy.kept.messages.items) rules) ≡ true
      → (place : ℕ) × (place_among route.message 0 (policy_view policy).messages ≡ Some place)
  rule_led route [] placed given = absurd cc
  rule_led route (r ∷ rs) placed given =
      (elim (gives route (kept_rule_view policy.kept.messages.items r)) as (λ (b : Bool). gives route (kept_rule_view policy.kept.messages.items r) ≡ b
      → (b || list_any (gives route) (map (kept_rule_view policy.kept.messages.items) rs)) ≡ true → (place : ℕ) × (place_among route.message 0 (policy_view policy).messages ≡ Some place)) [
        | true ↦ λ here e. (
          r.ty.message,
          ap (λ (x : AbstractRoute). place_among x.message 0 (policy_view policy).messages) (sym (gives_own route (kept_rule_view policy.kept.messages.items r) here)) ∙ placed.0,
        )
        | false ↦ λ other e. rule_led route rs placed.1 e
      ]) refl given

  -- a route that a rule gives leads to something
  pub leads_on : found_lead policy.kept.leads names ≡ None → (route : AbstractRoute) → IsGiven (policy_view policy).rules names route → ⊥
  leads_on nothing route given =
      let p = policy_view policy in
      let messages = policy.kept.messages.items in
      let at = rule_led route policy.kept.rules.items
      (recursion_from_All (λ r. place_among (string_bytes r.message) 0 p.messages ≡ Some r.ty.message) policy.kept.rules.items policy.kept.placed) given.given in
      let named = first_named p.messages p.messages 0 at.0 route.message refl at.1 in
      let is : found_in policy.kept.index route.message ≡ Some (record { place = at.0; numbers = numbers_for route.message 0 p.rules }) =
      policy.kept.indexed route.message ∙ ap (option_map {U = AbstractListed} (λ place. record { place = place; numbers = numbers_for route.message 0 p.rules })) at.1 in
      let none : lead_of policy.kept.index messages route ≡ None =
      ap (option_and_then (lead_of policy.kept.index messages)) (sym (given_is names p.rules route given)) ∙ sym (policy.kept.led names) ∙ nothing in
      no_message at.0 named.0 (slice_get messages at.0)
      (sym (ap (λ o. option_and_then (lead_there messages route) o) is) ∙ none)
      (sym (slice_get-map kept_message_view messages at.0) ∙ named.1)
    where
      no_message : (place : ℕ) (m : AbstractMessage) (o : Option KeptMessage)
          → option_map {U = Lead} (λ k. record { place = place; rules = route_rules k.routing route }) o ≡ None → option_map kept_message_view o ≡ Some m → ⊥
      no_message place m None none some = absurd cc
      no_message place m (Some k) none some = absurd cc

-- ---- where it leads to a message

module _ (policy : Policy) (names : List ℕ) (lead : Lead) (found : found_lead policy.kept.leads names ≡ Some lead) where
  abbrev led : LedBy policy names lead
  led = led_by policy names lead found

  abbrev route : AbstractRoute
  route = led.route

  -- the message is in its place
  pub message_there : slice_get policy.kept.messages.items lead.place ≡ None → ⊥
  message_there none = let no = sym led.leads.there ∙ none in cc

  module _ (m : KeptMessage) (there : slice_get policy.kept.messages.items lead.place ≡ Some m) where
    rules : lead.rules ≡ route_rules m.routing route
    rules = led.leads.rules ∙ ap (λ (k : KeptMessage). route_rules k.routing route) (same_Some _ _ (sym led.leads.there ∙ there))

    abbrev place : ℕ
    place = led.leads.listed.place

    at : slice_get policy.kept.messages.items place ≡ Some m
    at = ap (slice_get policy.kept.messages.items) led.leads.place ∙ there

    listed : listing (policy_view policy).messages (policy_view policy).rules route.message ≡ Some led.leads.listed
    listed = sym (policy.kept.indexed route.message) ∙ led.leads.found

    typed : ◌≡◌ {A = Option (AbstractType × List ℕ)} (Some (declared_of (arc_value m.table), led.leads.listed.numbers))
        (option_map (with_numbers (policy_view policy).rules route.message) (declared_type (policy_view policy) route.message))
    typed =
        sym (listed_type (policy_view policy).messages (policy_view policy).rules route.message led.leads.listed (Some (kept_message_view m)) listed
        (slice_get-map kept_message_view policy.kept.messages.items place ∙ ap (option_map kept_message_view) at))

    first : IsFirst route.message policy.kept.messages.items m
    first = record {
      place = place;
      first = (listed_parts (policy_view policy).messages (policy_view policy).rules route.message led.leads.listed listed).0;
      there = at;
    }

    pub given_tells : (octets : List ℕ) (told : Passing) → IsAnswer m lead.rules octets told
        → (x : AbstractRoute) × IsGiven (policy_view policy).rules names x × Tells (policy_view policy) x octets told
    given_tells octets told is = (
      route,
      is_given names (policy_view policy).rules route led.given,
      tells policy route octets led.leads.listed.numbers m typed first lead.rules told rules is,
    )
