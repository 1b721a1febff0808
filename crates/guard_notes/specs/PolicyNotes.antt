-- What more is said of a policy's fault: the entry that has it, the line on which that begins, and the keys that are
-- meant, with what is there. Where the text is no document, what `toml` says of it.
use Rattle.std.specs.Prelude.{◌≡◌, ◌⊎◌, ◌<◌, ◌≤◌, ◌^◌, ◌+◌, ◌-◌, ◌&&◌, ℕ, Bool, true, false, not, nat_eq, bytes_eq, List, [], ◌∷◌, ◌++◌, length, take, codes, decimal, string_bytes, slice_get, Option, Some, None, option_and_then, unwrap_or, if◌then◌else◌}
use Rattle.std.specs.List.{starts_with}
use Rattle.std.specs.Option.{is_some, option_map_or}
use Rattle.toml.specs.Data.{Data, Items, no_items, item, Members, at, get, get_member, as_str, as_array}
use Rattle.guard_model.specs.declared.site.Site.{Site}
use Rattle.guard_lexer.specs.Sites.{site_after}
use Rattle.guard_tables.specs.declared.fault.TableFault.{TableFault}
use Rattle.guard_tables.specs.declared.fault.TableFault.TheVariants as table
use Rattle.guard_policy.specs.declared.entry.Entry.{Entry}
use Rattle.guard_policy.specs.declared.entry.Entry.TheVariants as place
use Rattle.guard_policy.specs.declared.entry.Key.{Key}
use Rattle.guard_policy.specs.declared.entry.Key.TheVariants as key
use Rattle.guard_policy.specs.declared.fault.PolicyFault.{PolicyFault}
use Rattle.guard_policy.specs.declared.fault.PolicyFault.TheVariants as policy
use Rattle.guard_policy.specs.Documents.{key_text, IsDocument, IsNoDocument}
use Rattle.guard_policy.specs.Names.{is_name, is_party}
use Rattle.guard_notes.specs.Marking.{line_at, marked_line, columns}
use Rattle.guard_notes.specs.Lines.{lines_of}

-- ---- entries, as `toml` reads them

-- the item at a place, from 0, of a list
abbrev pub item_at : ℕ → Option Data → Option Data
item_at place list = option_and_then (at place) list

-- the list of the messages or of the rules
abbrev pub listed : Key → Members → Option Data
listed kind top = get_member (key_text kind) top

-- the entry of this number, from 1
abbrev pub entry_of : Key → ℕ → Members → Option Data
entry_of kind number top = item_at (number - 1) (listed kind top)

-- what is at a key of an entry, and the text there
abbrev pub value_at : Key → Option Data → Option Data
value_at key entry = option_and_then (get (key_text key)) entry

abbrev pub word_at : Key → Option Data → Option (List ℕ)
word_at key entry = option_and_then as_str (value_at key entry)

-- the text there, or an empty one
abbrev pub text_at : Key → Option Data → List ℕ
text_at key entry = unwrap_or (word_at key entry) []

-- ---- lines on which entries begin

-- the text has these octets somewhere
abbrev pub has : List ℕ → List ℕ → Bool
has mark [] = false
has mark (o ∷ text) = if starts_with nat_eq (o ∷ text) mark then true else has mark text

-- no string in it can have several lines
abbrev pub is_plain : List ℕ → Bool
is_plain text = not (has (codes "\"\"\"") text) && not (has (codes "'''") text)

-- the numbers of the lines that begin with the mark, where the first is number n
abbrev pub lines_with : List ℕ → ℕ → List (List ℕ) → List ℕ
lines_with mark n [] = []
lines_with mark n (line ∷ lines) =
    if starts_with nat_eq line mark then n ∷ lines_with mark (n + 1) lines else lines_with mark (n + 1) lines

-- how an entry begins that has lines of its own
abbrev pub header : Key → List ℕ
header kind = codes "[[" ++ (key_text kind ++ codes "]]")

-- the list has so many items, and some
abbrev pub has_so_many : ℕ → Option Data → Bool
has_so_many count list = is_some (item_at (count - 1) list) && not (is_some (item_at count list))

-- The line on which an entry begins: known where no string has several lines, and as many lines begin as entries of
-- this kind do as there are entries.
abbrev pub line_among : List ℕ → List ℕ → Option Data → ℕ → Option ℕ
line_among found text list number =
    if is_plain text && has_so_many (length found) list then slice_get found (number - 1) else None

abbrev pub line_of : List ℕ → Members → Key → ℕ → Option ℕ
line_of text top kind number =
    line_among (lines_with (header kind) 1 (lines_of text)) text (listed kind top) number

-- ---- lines of a note

-- a key, and the text at it if one is there
abbrev pub key_line : List ℕ → Option (List ℕ) → List ℕ
key_line key None = codes "  " ++ (columns key ++ codes "\n")
key_line key (Some text) = codes "  " ++ (columns key ++ (codes " " ++ (columns text ++ codes "\n")))

abbrev pub key_lines : List Key → Option Data → List ℕ
key_lines [] entry = []
key_lines (key ∷ keys) entry = key_line (key_text key) (word_at key entry) ++ key_lines keys entry

-- the name, if there is one
abbrev pub name_line : Option (List ℕ) → List ℕ
name_line None = []
name_line (Some name) = key_line (codes "name") (Some name)

-- the kind and number of an entry, and where it begins
abbrev pub heading : Key → ℕ → Option ℕ → List ℕ
heading kind number None = codes "  " ++ (key_text kind ++ (codes " " ++ (decimal number ++ codes "\n")))
heading kind number (Some line) =
    codes "  " ++ (key_text kind ++ (codes " " ++ (decimal number ++ (codes ", line " ++ (decimal line ++ codes "\n")))))

-- an entry by its kind, number, line and name, and then these keys of it
abbrev pub entry_lines : List ℕ → Members → Key → ℕ → List Key → List ℕ
entry_lines text top kind number keys =
    heading kind number (line_of text top kind number)
    ++ (name_line (word_at key.Name (entry_of kind number top)) ++ key_lines keys (entry_of kind number top))

-- these keys of an entry; at the top alone
abbrev pub lines_at : List ℕ → Members → Entry → List Key → List ℕ
lines_at text top place.Top keys = key_lines keys None
lines_at text top (place.Message number) keys = entry_lines text top key.Message number keys
lines_at text top (place.Rule number) keys = entry_lines text top key.Rule number keys

-- ---- faults

-- the key at which a rule has its bad name, of several the first; none for its own name, which is shown anyway
abbrev pub bad_key : Option Data → Option Key
bad_key rule =
    if not (is_name (text_at key.Name rule)) then None
    else if not (is_party (text_at key.From rule)) then Some key.From
    else if not (is_party (text_at key.To rule)) then Some key.To
    else Some key.Message

-- a rule, and the key of its bad name
abbrev pub bad_rule_lines : List ℕ → Members → ℕ → Option Key → List ℕ
bad_rule_lines text top number None = entry_lines text top key.Rule number []
bad_rule_lines text top number (Some bad) = entry_lines text top key.Rule number (bad ∷ [])

-- the entry that has a bad name; a message has no other than its own
abbrev pub bad_name_lines : List ℕ → Members → Entry → List ℕ
bad_name_lines text top place.Top = []
bad_name_lines text top (place.Message number) = entry_lines text top key.Message number []
bad_name_lines text top (place.Rule number) = bad_rule_lines text top number (bad_key (entry_of key.Rule number top))

-- the rule is one of this message
abbrev pub is_of : Option (List ℕ) → Data → Bool
is_of None rule = false
is_of (Some message) rule = option_map_or (bytes_eq message) (word_at key.Message (Some rule)) false

-- the number of a rule, by its place, from 0, among those of its message; the first rule here has this number
abbrev pub number_of_rule : Option (List ℕ) → ℕ → ℕ → Items → Option ℕ
number_of_rule message among number no_items = None
number_of_rule message among number (item rule rules) =
    if is_of message rule
    then (if nat_eq among 0 then Some number else number_of_rule message (among - 1) (number + 1) rules)
    else number_of_rule message among (number + 1) rules

-- the type of a rule
abbrev pub rule_lines : List ℕ → Members → Option ℕ → List ℕ
rule_lines text top None = []
rule_lines text top (Some number) = entry_lines text top key.Rule number (key.Module ∷ key.TypeName ∷ [])

abbrev pub table_lines : List ℕ → Members → ℕ → TableFault → List ℕ
table_lines text top number (table.RuleTypeMismatch rule) =
    rule_lines text top (option_and_then (number_of_rule (word_at key.Name (entry_of key.Message number top)) rule 1)
    (option_and_then as_array (listed key.Rule top)))
table_lines text top number table.TooManyConditions = []
table_lines text top number table.TooManyRules = []
table_lines text top number table.OutOfMemory = []

abbrev pub unknown_key_lines : List ℕ → Members → Entry → List ℕ → List ℕ
unknown_key_lines text top entry key = lines_at text top entry [] ++ key_line key None

abbrev pub message_lines : List ℕ → Members → ℕ → TableFault → List ℕ
message_lines text top number fault =
    entry_lines text top key.Message number (key.Module ∷ key.TypeName ∷ []) ++ table_lines text top number fault

-- of the fault of a document
abbrev pub fault_lines : List ℕ → Members → PolicyFault → List ℕ
fault_lines text top policy.Toml = []
fault_lines text top (policy.UnknownKey entry key) = unknown_key_lines text top entry (string_bytes key)
fault_lines text top (policy.MissingKey entry key) = lines_at text top entry (key ∷ [])
fault_lines text top (policy.BadName entry) = bad_name_lines text top entry
fault_lines text top (policy.DuplicateName entry) = lines_at text top entry []
fault_lines text top (policy.NoSuchType entry) = lines_at text top entry (key.Module ∷ key.TypeName ∷ [])
fault_lines text top (policy.NoSuchMessage entry) = lines_at text top entry (key.Message ∷ [])
fault_lines text top (policy.BadEffect entry) = lines_at text top entry (key.Effect ∷ [])
fault_lines text top (policy.Table number fault) = message_lines text top number fault
fault_lines text top policy.OutOfMemory = []

-- ---- no document

-- a line and column, that line with a mark, and words
abbrev pub toml_lines : List ℕ → Site → List ℕ → List ℕ
toml_lines text site words =
    codes "  line " ++ (decimal site.line ++ (codes ", column " ++ (decimal site.column ++ (codes "\n"
    ++ (marked_line site.column (line_at site.line text) ++ (codes "  " ++ (columns words ++ codes "\n")))))))

-- Where and what is wrong is `toml`'s to say: a place in the text, and some words on one line. (The site is that of the
-- place in a text of less than 2 ^ 32 octets.)
abbrev pub IsTomlNote : List ℕ → List ℕ → Type 0
IsTomlNote text lines =
    (offset : ℕ) × (site : Site) × (words : List ℕ) × (offset ≤ length text)
    × (length text + 1 < 2 ^ 32 → site ≡ site_after 0 (take offset text)) × (lines ≡ toml_lines text site words)

-- these lines are said of the fault, where the policy has this text
abbrev pub IsSaidOfPolicy : List ℕ → PolicyFault → List ℕ → Type 0
IsSaidOfPolicy text fault lines =
    ((top : Members) × IsDocument text top × (lines ≡ fault_lines text top fault))
    ⊎ (IsNoDocument text × IsTomlNote text lines)
