-- Policies as the definitions see them.
use Rattle.std.specs.Prelude.{ℕ, ◌-◌, nat_eq, List, [], ◌∷◌, map, option_map, slice_get, Option, Some, None, if◌then◌else◌}
use Rattle.std.specs.Str.{bytes_eq}
use Rattle.guard_model.specs.AbstractType.{AbstractType}
use Rattle.guard_policy.specs.declared.policy.Effect.{Effect}

-- a message: its name, its declared type, and the name of the module that assigns the type
pub record AbstractMessage : Type 0 where
  pub name : List ℕ
  pub home : List ℕ
  pub ty : AbstractType

-- a rule; its sender and its receiver may each be `*`, for every one, and its type has this name in the module `home`
pub record AbstractRule : Type 0 where
  pub name : List ℕ
  pub effect : Effect
  pub from : List ℕ
  pub to : List ℕ
  pub message : List ℕ
  pub home : List ℕ
  pub type_name : List ℕ
  pub ty : AbstractType

-- messages and rules in file order, and the names of the schema's modules
pub record AbstractPolicy : Type 0 where
  pub messages : List AbstractMessage
  pub rules : List AbstractRule
  pub modules : List (List ℕ)

pub record AbstractRoute : Type 0 where
  pub from : List ℕ
  pub to : List ℕ
  pub message : List ℕ

-- the route of a rule's own names
abbrev pub own_route : AbstractRule → AbstractRoute
own_route r = record { from = r.from; to = r.to; message = r.message }

abbrev pub message_names : List AbstractMessage → List (List ℕ)
message_names messages = map (λ m. m.name) messages

abbrev pub rule_names : List AbstractRule → List (List ℕ)
rule_names rules = map (λ r. r.name) rules

-- the first message of this name
abbrev pub message_among : List AbstractMessage → List ℕ → Option AbstractMessage
message_among [] name = None
message_among (m ∷ ms) name = if bytes_eq m.name name then Some m else message_among ms name

abbrev pub declared_message : AbstractPolicy → List ℕ → Option AbstractMessage
declared_message p name = message_among p.messages name

-- the declared type of the first message of this name
abbrev pub declared_among : List AbstractMessage → List ℕ → Option AbstractType
declared_among [] name = None
declared_among (m ∷ ms) name = if bytes_eq m.name name then Some m.ty else declared_among ms name

abbrev pub declared_type : AbstractPolicy → List ℕ → Option AbstractType
declared_type p name = declared_among p.messages name

-- the name of a message by its place, from 0
abbrev pub message_name_of : AbstractPolicy → ℕ → Option (List ℕ)
message_name_of p i = option_map (λ m. m.name) (slice_get p.messages i)

-- the name of a rule by its number, from 0
abbrev pub rule_name_of : AbstractPolicy → ℕ → Option (List ℕ)
rule_name_of p i = option_map (λ r. r.name) (slice_get p.rules i)

-- the name of the module at this place of the list of texts, from 1
abbrev pub module_name : AbstractPolicy → ℕ → Option (List ℕ)
module_name p text = if nat_eq text 0 then None else slice_get p.modules (text - 1)
