-- What is in the text of a policy, as the crate `toml` reads it.
use Rattle.std.specs.Prelude.{◌≡◌, ℕ, List, [], ◌∷◌, codes, Option, Some, None, option_map, option_and_then, unwrap_or, IsUtf8}
use Rattle.toml.specs.Data.{Data, Items, no_items, item, Members, get_member, as_str, as_array, as_table}
use Rattle.toml.specs.Parse.{parse_document}
use Rattle.guard_policy.specs.declared.entry.Key.{Key}
use Rattle.guard_policy.specs.declared.entry.Key.TheVariants.{Modules, Message, Rule, Name, Module, TypeName, Effect, From, To}

-- the text is a document of TOML, with these members
abbrev pub IsDocument : List ℕ → Members → Type 0
IsDocument text top = IsUtf8 text × (parse_document text ≡ Some top)

-- the text is no document of TOML
abbrev pub IsNoDocument : List ℕ → Type 0
IsNoDocument text = IsUtf8 text → parse_document text ≡ None

abbrev pub key_text : Key → List ℕ
key_text Modules = codes "modules"
key_text Message = codes "message"
key_text Rule = codes "rule"
key_text Name = codes "name"
key_text Module = codes "module"
key_text TypeName = codes "type"
key_text Effect = codes "effect"
key_text From = codes "from"
key_text To = codes "to"

abbrev pub with_first : {A : Type 0} → Option A → Option (List A) → Option (List A)
with_first first rest = option_and_then (λ a. option_map (λ more. a ∷ more) rest) first

-- what each item is read as, if each is of this kind
abbrev pub items_as : {A : Type 0} → (Data → Option A) → Items → Option (List A)
items_as kind no_items = Some []
items_as kind (item d ds) = with_first (kind d) (items_as kind ds)

-- the value of a list all of whose items are of this kind
abbrev pub list_of : {A : Type 0} → (Data → Option A) → Data → Option (List A)
list_of kind d = option_and_then (items_as kind) (as_array d)

-- the text at a key, if one is there
abbrev pub text_at : Key → Members → Option (List ℕ)
text_at key entry = option_and_then as_str (get_member (key_text key) entry)

-- the list of texts at a key, if one is there
abbrev pub texts_at : Key → Members → Option (List (List ℕ))
texts_at key entry = option_and_then (list_of as_str) (get_member (key_text key) entry)

-- a list of tables that may be missing
abbrev pub optional_tables : Option Data → Option (List Members)
optional_tables None = Some []
optional_tables (Some d) = list_of as_table d

abbrev pub tables_at : Key → Members → Option (List Members)
tables_at key entry = optional_tables (get_member (key_text key) entry)

-- ---- what is in a document without a fault at the top, or in an entry without a missing key

abbrev pub text_of : Key → Members → List ℕ
text_of key entry = unwrap_or (text_at key entry) []

abbrev pub files_in : Members → List (List ℕ)
files_in top = unwrap_or (texts_at Modules top) []

abbrev pub messages_in : Members → List Members
messages_in top = unwrap_or (tables_at Message top) []

abbrev pub rules_in : Members → List Members
rules_in top = unwrap_or (tables_at Rule top) []
