-- Which rules of a message speak of a route, as sets of the slots that their types have in the message's table. The
-- first rule has slot 1, since slot 0 is that of the declared type.
use Rattle.std.specs.Prelude.{◌≡◌, ℕ, suc, Bool, not, List, [], ◌∷◌, map, bytes_eq, string_bytes, unwrap_or, if◌then◌else◌}
use Rattle.std.specs.Arc.{arc_value}
use Rattle.std.specs.Map.{lookup}
use Rattle.guard_model.specs.AbstractValue.{AbstractValue}
use Rattle.guard_reader.specs.Marking.{is_in}
use Rattle.guard_tables.specs.declared.slots.Slots.{Slots}
use Rattle.guard_tables.specs.Slots.{none, only, added, without}
use Rattle.guard_tables.specs.TableView.{rules_of}
use Rattle.guard_policy.specs.declared.kept.KeptMessage.{KeptMessage}
use Rattle.guard_policy.specs.declared.policy.Effect.{Effect}
use Rattle.guard_policy.specs.declared.policy.Effect.TheVariants.{Allow, Deny}
use Rattle.guard_policy.specs.declared.routing.Parties.{Parties}
use Rattle.guard_policy.specs.declared.routing.RouteRules.{RouteRules}
use Rattle.guard_policy.specs.declared.routing.Routing.{Routing}
use Rattle.guard_policy.specs.declared.routing.Side.{Side}
use Rattle.guard_policy.specs.declared.routing.Side.TheVariants.{Sender, Receiver}
use Rattle.guard_policy.specs.Consistency.{types_for}
use Rattle.guard_policy.specs.Decisions.{is_allowing}
use Rattle.guard_policy.specs.Names.{is_meant}
use Rattle.guard_policy.specs.Policies.{AbstractRule, AbstractRoute}
use Rattle.guard_policy.specs.inside.Listings.{numbers_for}

-- the rules that speak of the message of this name, in order
abbrev pub rules_named : List ℕ → List AbstractRule → List AbstractRule
rules_named name [] = []
rules_named name (r ∷ rs) = if bytes_eq r.message name then r ∷ rules_named name rs else rules_named name rs

-- ---- sets of slots

-- the slots at whose places the list is true, where the first of the list has this slot
abbrev pub slots_from : ℕ → List Bool → Slots
slots_from slot [] = none
slots_from slot (b ∷ bs) = if b then added (only slot) (slots_from (suc slot) bs) else slots_from (suc slot) bs

-- the slots of the rules that pass a test
abbrev pub slots_where : (AbstractRule → Bool) → List AbstractRule → Slots
slots_where test rules = slots_from 1 (map test rules)

-- the slots of both
abbrev pub common : Slots → Slots → Slots
common m k = without m (without m k)

-- ---- by the sender and the receiver

-- what a rule gives for its sender, or for its receiver
abbrev pub given_by : Side → AbstractRule → List ℕ
given_by Sender r = r.from
given_by Receiver r = r.to

-- the rules that speak of this sender, or of this receiver
abbrev pub slots_meant : Side → List ℕ → List AbstractRule → Slots
slots_meant side name rules = slots_where (λ r. is_meant (given_by side r) name) rules

-- what a look-up of a name finds
abbrev pub slots_for : Parties → List ℕ → Slots
slots_for parties name = unwrap_or (lookup (λ key. bytes_eq name key.octets.items) parties.named.entries) parties.others

abbrev pub AreParties : Side → List AbstractRule → Parties → Type 0
AreParties side rules parties = (name : List ℕ) → slots_for parties name ≡ slots_meant side name rules

abbrev pub has_effect : Effect → AbstractRule → Bool
has_effect Allow r = is_allowing r
has_effect Deny r = not (is_allowing r)

-- ---- of a message

-- The routing leads to these rules.
pub record IsRouting (rules : List AbstractRule) (r : Routing) : Type 0 where
  pub senders : AreParties Sender rules r.senders
  pub receivers : AreParties Receiver rules r.receivers
  pub allowing : r.allowing ≡ slots_where (has_effect Allow) rules
  pub denying : r.denying ≡ slots_where (has_effect Deny) rules

-- the rules that speak of the sender and of the receiver
abbrev pub speaking_slots : Routing → AbstractRoute → Slots
speaking_slots r route = common (slots_for r.senders route.from) (slots_for r.receivers route.to)

-- those of them by their effects
abbrev pub route_rules : Routing → AbstractRoute → RouteRules
route_rules r route = record {
  allowing = common (speaking_slots r route) r.allowing;
  denying = common (speaking_slots r route) r.denying;
}

-- The message has the numbers of the rules that speak of it. Each type of its table but the declared one has the values
-- that the type of the rule at its place has, and its routing leads to the rules.
pub record IsRouted (rules : List AbstractRule) (m : KeptMessage) : Type 0 where
  pub numbers : m.numbers.items ≡ numbers_for (string_bytes m.name) 0 rules
  pub types : (v : AbstractValue) (place : ℕ)
      → is_in (rules_of (arc_value m.table)) v place ≡ is_in (types_for (string_bytes m.name) rules) v place
  pub routing : IsRouting (rules_named (string_bytes m.name) rules) m.routing
