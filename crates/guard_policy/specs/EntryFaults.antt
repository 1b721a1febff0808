-- What may be wrong with the messages and rules of a policy's text, and with the tables of its messages.
use Rattle.std.specs.Prelude.{ℕ, suc, Bool, ◌&&◌, not, List, [], ◌∷◌, ◌++◌, bytes_eq, Option, None, option_map}
use Rattle.std.specs.Option.{option_or, is_some}
use Rattle.std.specs.List.{list_any}
use Rattle.toml.specs.Data.{Members}
use Rattle.guard_tables.specs.Tables.{first_fault}
use Rattle.guard_policy.specs.declared.entry.Entry.{Entry}
use Rattle.guard_policy.specs.declared.entry.Entry.TheVariants as place
use Rattle.guard_policy.specs.declared.entry.Key.{Key}
use Rattle.guard_policy.specs.declared.entry.Key.TheVariants.{Name, Effect, From, To, Message}
use Rattle.guard_policy.specs.Documents.{text_of, messages_in, rules_in}
use Rattle.guard_der.specs.NamedTypes.{AbstractTypes}
use Rattle.guard_policy.specs.Entries.{effect_named, type_in, policy_in}
use Rattle.guard_policy.specs.Names.{is_name, is_party}
use Rattle.guard_policy.specs.Consistency.{types_for}
use Rattle.guard_policy.specs.Policies.{AbstractMessage, AbstractRule, message_names}
use Rattle.guard_policy.specs.PolicyFaults.{AbstractFault, first_of, unless, unknown_in, missing_in, top_fault, message_keys, rule_keys, bad_name, duplicate_name, no_such_type, no_such_message, bad_effect, bad_table}

-- ---- keys

-- a key that isn't of the entry; then one of its keys at which there is no text
abbrev pub keys_fault : Entry → List Key → Members → Option AbstractFault
keys_fault place keys entry = option_or (unknown_in place keys entry) (missing_in place keys entry)

-- ---- messages and rules, each with its number from 1 and the names of those before it

abbrev pub has_name : List (List ℕ) → Members → Bool
has_name names entry = list_any (bytes_eq (text_of Name entry)) names

abbrev pub message_fault : AbstractTypes → List (List ℕ) → ℕ → Members → Option AbstractFault
message_fault s before number entry = first_of (
    keys_fault (place.Message number) message_keys entry
    ∷ unless (is_name (text_of Name entry)) (bad_name (place.Message number))
    ∷ unless (not (has_name before entry)) (duplicate_name (place.Message number))
    ∷ unless (is_some (type_in s entry)) (no_such_type (place.Message number))
    ∷ [])

-- the rule's own name and that of its message are names, and its sender and its receiver are names or `*`
abbrev pub has_names : Members → Bool
has_names entry =
    is_name (text_of Name entry) && is_party (text_of From entry) && is_party (text_of To entry)
    && is_name (text_of Message entry)

-- with the names of all messages
abbrev pub rule_fault : AbstractTypes → List (List ℕ) → List (List ℕ) → ℕ → Members → Option AbstractFault
rule_fault s messages before number entry = first_of (
    keys_fault (place.Rule number) rule_keys entry
    ∷ unless (has_names entry) (bad_name (place.Rule number))
    ∷ unless (not (has_name before entry)) (duplicate_name (place.Rule number))
    ∷ unless (is_some (effect_named (text_of Effect entry))) (bad_effect (place.Rule number))
    ∷ unless (list_any (bytes_eq (text_of Message entry)) messages) (no_such_message (place.Rule number))
    ∷ unless (is_some (type_in s entry)) (no_such_type (place.Rule number))
    ∷ [])

-- of the first entry that has one
abbrev pub entries_fault : (List (List ℕ) → ℕ → Members → Option AbstractFault) → List (List ℕ) → ℕ → List Members
    → Option AbstractFault
entries_fault fault before number [] = None
entries_fault fault before number (entry ∷ others) =
    option_or (fault before number entry) (entries_fault fault (before ++ text_of Name entry ∷ []) (suc number) others)

-- ---- tables

-- of the first message whose types make no table
abbrev pub tables_fault : List AbstractRule → ℕ → List AbstractMessage → Option AbstractFault
tables_fault rules number [] = None
tables_fault rules number (m ∷ ms) =
    option_or (option_map (bad_table number) (first_fault m.ty (types_for m.name rules)))
    (tables_fault rules (suc number) ms)

-- ---- all of it

-- The first fault of a document: of the top, of each message, of each rule, of each message's table.
abbrev pub document_fault : AbstractTypes → Members → Option AbstractFault
document_fault s top = first_of (
    top_fault top
    ∷ entries_fault (message_fault s) [] 1 (messages_in top)
    ∷ entries_fault (rule_fault s (message_names (policy_in s top).messages)) [] 1 (rules_in top)
    ∷ tables_fault (policy_in s top).rules 1 (policy_in s top).messages
    ∷ [])
