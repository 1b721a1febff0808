-- What may be wrong with the text of a policy, and what of it comes first.
use Rattle.std.specs.Prelude.{ℕ, Bool, List, [], ◌∷◌, string_bytes, bytes_eq, Option, Some, None, option_map, if◌then◌else◌}
use Rattle.std.specs.Option.{option_or, is_some}
use Rattle.std.specs.List.{list_any}
use Rattle.std.specs.Ordering.{nat_cmp, is_lt}
use Rattle.std.specs.Cmp.Lexicographic.{slice_cmp}
use Rattle.toml.specs.Data.{Members, no_members, member}
use Rattle.guard_tables.specs.declared.fault.TableFault.{TableFault}
use Rattle.guard_policy.specs.declared.entry.Entry.{Entry}
use Rattle.guard_policy.specs.declared.entry.Entry.TheVariants.{Top}
use Rattle.guard_policy.specs.declared.entry.Key.{Key}
use Rattle.guard_policy.specs.declared.entry.Key.TheVariants.{Modules, Message, Rule, Name, Module, TypeName, Effect, From, To}
use Rattle.guard_policy.specs.declared.fault.PolicyFault.{PolicyFault}
use Rattle.guard_policy.specs.declared.fault.PolicyFault.TheVariants as code
use Rattle.guard_policy.specs.Documents.{key_text, text_at, texts_at, tables_at}

-- each with its number
pub data AbstractFault : Type 0 where
  -- Q1
  toml : AbstractFault
  -- Q2
  unknown_key : Entry → List ℕ → AbstractFault
  -- Q3
  missing_key : Entry → Key → AbstractFault
  -- Q4
  bad_name : Entry → AbstractFault
  -- Q5
  duplicate_name : Entry → AbstractFault
  -- Q6
  no_such_type : Entry → AbstractFault
  -- Q7
  no_such_message : Entry → AbstractFault
  -- Q8
  bad_effect : Entry → AbstractFault
  -- Q9, with the number of the message from 1
  bad_table : ℕ → TableFault → AbstractFault

-- the first fault of a list, if any
abbrev pub first_of : List (Option AbstractFault) → Option AbstractFault
first_of [] = None
first_of (fault ∷ faults) = option_or fault (first_of faults)

abbrev pub unless : Bool → AbstractFault → Option AbstractFault
unless holds fault = if holds then None else Some fault

-- ---- keys

abbrev pub top_keys : List Key
top_keys = Modules ∷ Message ∷ Rule ∷ []

abbrev pub message_keys : List Key
message_keys = Name ∷ Module ∷ TypeName ∷ []

abbrev pub rule_keys : List Key
rule_keys = Name ∷ Effect ∷ From ∷ To ∷ Message ∷ Module ∷ TypeName ∷ []

abbrev pub is_key : List Key → List ℕ → Bool
is_key keys word = list_any (λ key. bytes_eq (key_text key) word) keys

-- the lesser of two words, by their octets
abbrev pub lesser : List ℕ → Option (List ℕ) → List ℕ
lesser word None = word
lesser word (Some other) = if is_lt (slice_cmp nat_cmp other word) then other else word

-- the least word that is none of the keys
abbrev pub least_unknown : List Key → Members → Option (List ℕ)
least_unknown keys no_members = None
least_unknown keys (member word value others) =
    if is_key keys word then least_unknown keys others else Some (lesser word (least_unknown keys others))

-- the first of the keys at which there is no text
abbrev pub first_missing : List Key → Members → Option Key
first_missing [] entry = None
first_missing (key ∷ keys) entry = if is_some (text_at key entry) then first_missing keys entry else Some key

abbrev pub unknown_in : Entry → List Key → Members → Option AbstractFault
unknown_in place keys entry = option_map (unknown_key place) (least_unknown keys entry)

abbrev pub missing_in : Entry → List Key → Members → Option AbstractFault
missing_in place keys entry = option_map (missing_key place) (first_missing keys entry)

-- ---- the top

-- a key that isn't of the top; then no list of texts at `modules`, or none of tables at `message` or `rule`, which may
-- be missing
abbrev pub top_fault : Members → Option AbstractFault
top_fault top = first_of (
    unknown_in Top top_keys top
    ∷ unless (is_some (texts_at Modules top)) (missing_key Top Modules)
    ∷ unless (is_some (tables_at Message top)) (missing_key Top Message)
    ∷ unless (is_some (tables_at Rule top)) (missing_key Top Rule)
    ∷ [])

-- A refusal names a fault, unless memory ran out, which is never wrapped.
abbrev pub named : PolicyFault → Option AbstractFault
named code.OutOfMemory = None
named code.Toml = Some toml
named (code.UnknownKey place key) = Some (unknown_key place (string_bytes key))
named (code.MissingKey place key) = Some (missing_key place key)
named (code.BadName place) = Some (bad_name place)
named (code.DuplicateName place) = Some (duplicate_name place)
named (code.NoSuchType place) = Some (no_such_type place)
named (code.NoSuchMessage place) = Some (no_such_message place)
named (code.BadEffect place) = Some (bad_effect place)
named (code.Table number fault) = Some (bad_table number fault)
