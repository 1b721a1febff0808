-- The policy that the entries of a document say.
use Rattle.std.specs.Prelude.{ℕ, List, [], ◌∷◌, map, codes, bytes_eq, Option, Some, None, option_map, option_and_then, if◌then◌else◌}
use Rattle.toml.specs.Data.{Members}
use Rattle.guard_model.specs.AbstractType.{AbstractType}
use Rattle.guard_der.specs.NamedTypes.{AbstractTypes}
use Rattle.guard_policy.specs.declared.entry.Key.TheVariants as key
use Rattle.guard_policy.specs.declared.policy.Effect.{Effect}
use Rattle.guard_policy.specs.declared.policy.Effect.TheVariants.{Allow, Deny}
use Rattle.guard_policy.specs.Policies.{AbstractMessage, AbstractRule, AbstractPolicy}
use Rattle.guard_policy.specs.Documents.{text_of, messages_in, rules_in}

abbrev pub effect_named : List ℕ → Option Effect
effect_named word =
    if bytes_eq word (codes "allow") then Some Allow else if bytes_eq word (codes "deny") then Some Deny else None

-- the type that an entry names, by its module and its own name
abbrev pub type_in : AbstractTypes → Members → Option AbstractType
type_in s entry = s.types (text_of key.Module entry) (text_of key.TypeName entry)

abbrev pub message_of : Members → AbstractType → AbstractMessage
message_of entry t = record { name = text_of key.Name entry; home = text_of key.Module entry; ty = t }

abbrev pub message_in : AbstractTypes → Members → Option AbstractMessage
message_in s entry = option_map (message_of entry) (type_in s entry)

abbrev pub rule_of : Members → AbstractType → Effect → AbstractRule
rule_of entry t effect = record {
  name = text_of key.Name entry;
  effect = effect;
  from = text_of key.From entry;
  to = text_of key.To entry;
  message = text_of key.Message entry;
  home = text_of key.Module entry;
  type_name = text_of key.TypeName entry;
  ty = t;
}

abbrev pub rule_in : AbstractTypes → Members → Option AbstractRule
rule_in s entry =
    option_and_then (λ t. option_map (rule_of entry t) (effect_named (text_of key.Effect entry))) (type_in s entry)

abbrev pub before_all : {A : Type 0} → Option A → List A → List A
before_all None rest = rest
before_all (Some a) rest = a ∷ rest

-- those that are there, in order; in a document without fault all are
abbrev pub those_there : {A : Type 0} → List (Option A) → List A
those_there [] = []
those_there (o ∷ os) = before_all o (those_there os)

abbrev pub policy_in : AbstractTypes → Members → AbstractPolicy
policy_in s top = record {
  messages = those_there (map (message_in s) (messages_in top));
  rules = those_there (map (rule_in s) (rules_in top));
  modules = s.modules;
}
