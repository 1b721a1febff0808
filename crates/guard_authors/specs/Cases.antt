-- What a file of cases says, as the crate `toml` reads it, and what may be wrong with it.
use Rattle.std.specs.Prelude.{◌≡◌, ◌⊎◌, ℕ, ◌+◌, Bool, true, false, not, List, [], ◌∷◌, ◌++◌, codes, decimal, bytes_eq, Option, Some, None, option_map, option_and_then, unwrap_or, if◌then◌else◌}
use Rattle.std.specs.List.{list_any}
use Rattle.std.specs.Option.{is_some, option_or}
use Rattle.toml.specs.Data.{Data, Items, no_items, item, Members, no_members, member, get_member, as_str, as_array, as_table}
use Rattle.guard_notes.specs.Explaining.{IsPolicyNote}
use Rattle.guard_policy.specs.declared.fault.PolicyFault.TheVariants.{Toml}
use Rattle.guard_policy.specs.Documents.{IsDocument}
use Rattle.guard_policy.specs.Names.{is_name}
use Rattle.guard_files.specs.Devices.{Device}
use Rattle.guard_files.specs.Writing.{TellsOctets, TellsText, TellsNoMemory, line_of}
use Rattle.guard_authors.specs.declared.cases.Case.{Case}

-- ---- cases

-- Who sends what to whom: the message's octets in digits, or its value in a text; and the verdict that is wanted.
pub record AbstractCase : Type 0 where
  pub name : Option (List ℕ)
  pub from : List ℕ
  pub to : List ℕ
  pub message : List ℕ
  pub octets : Option (List ℕ)
  pub value : Option (List ℕ)
  pub verdict : List ℕ

-- the text at a key, if one is there
abbrev pub text_at : List ℕ → Members → Option (List ℕ)
text_at key entry = option_and_then as_str (get_member key entry)

abbrev pub text_of : List ℕ → Members → List ℕ
text_of key entry = unwrap_or (text_at key entry) []

abbrev pub case_in : Members → AbstractCase
case_in entry =
    record {
      name = text_at (codes "name") entry;
      from = text_of (codes "from") entry;
      to = text_of (codes "to") entry;
      message = text_of (codes "message") entry;
      octets = text_at (codes "octets") entry;
      value = text_at (codes "value") entry;
      verdict = text_of (codes "verdict") entry;
    }

-- of an item of the list; one that is no table has none of the keys
abbrev pub members_in : Data → Members
members_in d = unwrap_or (as_table d) no_members

-- the list at `case`, which may be missing
abbrev pub list_at : Option Data → Option Items
list_at None = Some no_items
list_at (Some d) = as_array d

abbrev pub cases_at : Members → Option Items
cases_at top = list_at (get_member (codes "case") top)

-- ---- faults, as they print: a key that says nothing; one that is missing or of another kind; no message, or two; a
-- text that no frame has for its sender, its receiver or its message's name

abbrev pub case_text : ℕ → List ℕ
case_text number = codes "case " ++ decimal number

abbrev pub key_text : List ℕ → List ℕ → List ℕ → List ℕ
key_text fault place key = fault ++ (codes " " ++ (place ++ (codes " " ++ key)))

abbrev pub message_text : List ℕ → List ℕ
message_text place = codes "T4 OctetsOrValue " ++ place

-- the first word that is none of the keys, in the order of their octets, in which the members stand
abbrev pub first_unknown : List (List ℕ) → Members → Option (List ℕ)
first_unknown keys no_members = None
first_unknown keys (member word value others) =
    if list_any (λ key. bytes_eq key word) keys then first_unknown keys others else Some word

-- the first of the keys at which there is no text
abbrev pub first_missing : List (List ℕ) → Members → Option (List ℕ)
first_missing [] entry = None
first_missing (key ∷ keys) entry = if is_some (text_at key entry) then first_missing keys entry else Some key

abbrev pub required_keys : List (List ℕ)
required_keys = codes "from" ∷ codes "to" ∷ codes "message" ∷ codes "verdict" ∷ []

abbrev pub case_keys : List (List ℕ)
case_keys = codes "name" ∷ codes "octets" ∷ codes "value" ∷ required_keys

-- one of the two, and not both
abbrev pub has_one : Members → Bool
has_one entry =
    if is_some (text_at (codes "octets") entry) then not (is_some (text_at (codes "value") entry))
    else is_some (text_at (codes "value") entry)

abbrev pub one_fault : ℕ → Members → Option (List ℕ)
one_fault number entry = if has_one entry then None else Some (message_text (case_text number))

-- the first of the keys at which there is no name
abbrev pub first_nameless : List (List ℕ) → Members → Option (List ℕ)
first_nameless [] entry = None
first_nameless (key ∷ keys) entry = if is_name (text_of key entry) then first_nameless keys entry else Some key

abbrev pub name_keys : List (List ℕ)
name_keys = codes "from" ∷ codes "to" ∷ codes "message" ∷ []

abbrev pub name_fault : ℕ → Members → Option (List ℕ)
name_fault number entry = option_map (key_text (codes "T5 BadName") (case_text number)) (first_nameless name_keys entry)

-- of the case of this number, from 1
abbrev pub case_fault : ℕ → Members → Option (List ℕ)
case_fault number entry =
    option_or (option_map (key_text (codes "T2 UnknownKey") (case_text number)) (first_unknown case_keys entry))
    (option_or (option_map (key_text (codes "T3 MissingKey") (case_text number)) (first_missing required_keys entry))
    (option_or (one_fault number entry) (name_fault number entry)))

-- of the first case that has one
abbrev pub list_fault : ℕ → Items → Option (List ℕ)
list_fault number no_items = None
list_fault number (item d ds) = option_or (case_fault number (members_in d)) (list_fault (number + 1) ds)

abbrev pub at_case_fault : Option Items → Option (List ℕ)
at_case_fault None = Some (key_text (codes "T3 MissingKey") (codes "top") (codes "case"))
at_case_fault (Some ds) = list_fault 1 ds

-- a key at the top other than `case`; no list there; then each case
abbrev pub cases_fault : Members → Option (List ℕ)
cases_fault top =
    option_or (option_map (key_text (codes "T2 UnknownKey") (codes "top")) (first_unknown (codes "case" ∷ []) top)) (at_case_fault (cases_at top))

-- ---- no document

-- the line of a file that is no document
abbrev pub no_document : List ℕ
no_document = codes "T1 Toml"

-- To explain it, what is said below is what is said of a policy that is none: the path, where the text breaks, and what
-- to do.
abbrev pub TellsNoDocument : Bool → List ℕ → List ℕ → Device → ℕ → Type 0
TellsNoDocument false path text err status = TellsText no_document 2 err status
TellsNoDocument true path text err status =
    ((note : List ℕ) × IsPolicyNote path text Toml note × TellsOctets (line_of no_document ++ note) 2 err status)
    ⊎ TellsNoMemory err status

-- ---- what a text says

-- The text is a document with this fault first.
abbrev pub IsCasesFault : List ℕ → List ℕ → Type 0
IsCasesFault text fault = (top : Members) × IsDocument text top × (cases_fault top ≡ Some fault)

-- it says these cases, without a fault
abbrev pub SaysCases : List ℕ → Items → Type 0
SaysCases text ds =
    (top : Members) × IsDocument text top × (cases_fault top ≡ None) × (cases_at top ≡ Some ds)

-- ---- as the code has them

abbrev pub case_view : Case → AbstractCase
case_view c =
    record {
      name = option_map (λ text. text.now) c.name;
      from = c.from.now;
      to = c.to.now;
      message = c.message.now;
      octets = option_map (λ text. text.now) c.octets;
      value = option_map (λ text. text.now) c.value;
      verdict = c.verdict.now;
    }
