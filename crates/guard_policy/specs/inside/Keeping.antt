-- How what a policy keeps comes of messages and rules.
use Rattle.std.specs.Prelude.{◌≡◌, ℕ, List, ◌∷◌, All, map, string_bytes, bytes_eq, nat_lt, count_by, slice_get, Some, IsTrue}
use Rattle.std.specs.Arc.{arc_value}
use Rattle.std.specs.List.{list_any}
use Rattle.guard_model.specs.AbstractType.{AbstractType}
use Rattle.guard_tables.specs.TableView.{table_types}
use Rattle.guard_policy.specs.declared.kept.KeptMessage.{KeptMessage}
use Rattle.guard_policy.specs.declared.kept.KeptRule.{KeptRule}
use Rattle.guard_policy.specs.declared.kept.TypePlace.{TypePlace}
use Rattle.guard_policy.specs.Consistency.{types_for}
use Rattle.guard_policy.specs.KeptView.{kept_message_view}
use Rattle.guard_policy.specs.inside.Listings.{AbstractListed, place_among}
use Rattle.guard_policy.specs.Policies.{AbstractMessage, AbstractRule, message_names}

-- a name and that of a module, and the types of a table
pub record Tabled : Type 0 where
  pub name : List ℕ
  pub home : List ℕ
  pub types : List AbstractType

abbrev pub tabled_view : KeptMessage → Tabled
tabled_view m = record { name = string_bytes m.name; home = string_bytes m.home; types = table_types (arc_value m.table) }

-- the message with the table of its type and those of its rules
abbrev pub tabled : List AbstractRule → AbstractMessage → Tabled
tabled rules m = record { name = m.name; home = m.home; types = m.ty ∷ types_for m.name rules }

-- the message that each rule speaks of is among these
abbrev pub AreDeclared : List AbstractMessage → List AbstractRule → Type 0
AreDeclared messages rules = All (λ r. IsTrue (list_any (bytes_eq r.message) (message_names messages))) rules

-- The type of each rule is in the table of the first message of the name that it gives.
abbrev pub ArePlaced : List AbstractMessage → List KeptRule → Type 0
ArePlaced messages rules = All (λ r. place_among (string_bytes r.message) 0 messages ≡ Some r.ty.message) rules

-- where the type of the rule of this number is, whose message is listed so
abbrev pub type_place : AbstractListed → ℕ → TypePlace
type_place l number = record { message = l.place; rule = count_by (λ n. nat_lt n number) l.numbers }

-- the rule but for its type
pub record IsSaid (r : AbstractRule) (kept : KeptRule) : Type 0 where
  pub name : string_bytes kept.name ≡ r.name
  pub effect : kept.effect ≡ r.effect
  pub from : string_bytes kept.from ≡ r.from
  pub to : string_bytes kept.to ≡ r.to
  pub message : string_bytes kept.message ≡ r.message
  pub home : string_bytes kept.home ≡ r.home
  pub type_name : string_bytes kept.type_name ≡ r.type_name

-- the first message of this name
pub record IsFirst (name : List ℕ) (messages : List KeptMessage) (m : KeptMessage) : Type 0 where
  pub place : ℕ
  pub first : place_among name 0 (map kept_message_view messages) ≡ Some place
  pub there : slice_get messages place ≡ Some m
