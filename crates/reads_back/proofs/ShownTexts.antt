-- A message as its value is shown, with comments at the ends of lines, is read as the value.
use Rattle.std.proofs.Common.{◌≡◌, ℕ, zero, suc, ◌%◌, ◌/◌, ◌+◌, ◌<◌, ◌≤◌, Bool, true, false, ◌==◌, List, [], ◌∷◌, ◌++◌, length, decimal, Option, Some, None, nat_lt, option_map, refl, sym, ap, subst, ◌∙◌, inl, inr, append_assoc, append-nil, arith}
use Rattle.std.specs.List.{list_all}
use Rattle.std.specs.Fmt.{digits, digits_onto, digit_glyph}
use Rattle.std.proofs.lemmas.Bool.{and_parts, and_from, cases_Bool, cond-true, cond-false, false≢true}
use Rattle.std.proofs.lemmas.Bool.Decides.{nat_tests}
use Rattle.guard_model.specs.declared.site.Step.TheVariants.{Component}
use Rattle.guard_model.specs.AbstractType as type
use Rattle.guard_model.specs.AbstractType.{AbstractType, AbstractPresence, Components, type_of, no_components, component}
use Rattle.guard_model.specs.AbstractValue as value
use Rattle.guard_model.specs.AbstractValue.{AbstractValue, Fields, Items}
use Rattle.guard_model.specs.TypeView.{OneComponent}
use Rattle.guard_model.specs.Components.{component_at}
use Rattle.guard_der.specs.Der.{der, item_encodings}
use Rattle.guard_der.specs.Fits.{fits, fits_fields, may_be_absent, fits_items, are_few, every_fits, are_ascending}
use Rattle.guard_der.specs.ProperConstraints.{is_short}
use Rattle.guard_der.specs.Sound.{is_sound}
use Rattle.guard_lexer.specs.Octets.{is_digit}
use Rattle.guard_lexer.specs.Lexing.{longest_text, tokens_from}
use Rattle.guard_lexer.specs.declared.token.Mark.TheVariants.{Colon, RightBrace}
use Rattle.guard_syntax.specs.Lexemes.{Lexeme, mark, lower_name}
use Rattle.guard_syntax.specs.Trees.{no_entries}
use Rattle.guard_syntax.specs.TokensOf.{value_then, entries_then, entries_comma}
use Rattle.guard_values.specs.Meanings.{Meaning}
use Rattle.guard_values.proofs.OneAnswer.LengthsInside.{short_within}
use Rattle.guard_values.proofs.OneAnswer.CodeAnswers.{sound_proper}
use Rattle.guard_report.specs.declared.layout.Layout.TheVariants.{Lines}
use Rattle.guard_report.specs.Layouts.{new_line}
use Rattle.guard_report.specs.Text.{name_or_number, component_of, type_within}
use Rattle.guard_report.specs.ValueText.{part_name}
use Rattle.guard_report.specs.Places.{inside_value, after_element, component_place, next_place, is_set}
use Rattle.guard_report.specs.Shown.{note, is_on_one_line, last_end, ShownPart, deeper, before_line, lines_from, value_lines, field_lines, element_lines, value_shown}
use Rattle.reads_back.specs.inside.TreeOf.{tree_of, fields_written, items_written}
use Rattle.reads_back.specs.Names.{IsIdentifier, HasNames, PartsHaveNames, is_seen, fields_seen, items_seen}
use Rattle.reads_back.specs.ReadingBack.{IsReadAs}
use Rattle.reads_back.proofs.Ascii.{ascii_text}
use Rattle.reads_back.proofs.Cuts.{Reads, at_end}
use Rattle.reads_back.proofs.Pieces.{left_brace, right_brace, comma, colon, space}
use Rattle.reads_back.proofs.WordPieces.{is_apart, digits-ascii}
use Rattle.reads_back.proofs.StringPieces.{is_plain, ends_line, comment}
use Rattle.reads_back.proofs.Identifiers.{identifier}
use Rattle.reads_back.proofs.Braces.{comma_unless, new_line_reads}
use Rattle.reads_back.proofs.Named.{chosen_part}
use Rattle.reads_back.proofs.BitTexts.{comma_entries}
use Rattle.reads_back.proofs.ValueTexts.{FromPlace, further_place, this_place, from_start, comma_same, value_reads}
use Rattle.reads_back.proofs.ValueLevels.{value_levels}
use Rattle.reads_back.proofs.ValueSays.{value_says}
use Rattle.reads_back.proofs.TextTokens.{lexemes_from}
use Rattle.reads_back.proofs.Reading.{sound_nested}

-- ---- what may end a line: nothing, or a comment

record Quiet (end : List ℕ) : Type 0 where
  apart : (rest : List ℕ) → ends_line rest ≡ true → is_apart (end ++ rest) ≡ true
  reads : (rest : List ℕ) (ls : List Lexeme) → ends_line rest ≡ true → Reads rest ls → Reads (end ++ rest) ls

line-apart : (rest : List ℕ) → ends_line rest ≡ true → is_apart rest ≡ true
line-apart [] h = refl
line-apart (c ∷ cs) h = grind (arith, nat_tests)

quiet_none : Quiet []
quiet_none = record { apart = line-apart; reads = λ rest ls h r. r }

glyph_digit : (n : ℕ) → is_digit (digit_glyph false (n % 10)) ≡ true
glyph_digit n =
    let lt : n % 10 < 10 = omega arith in
    let low : nat_lt (n % 10) 10 ≡ true = grind (arith, nat_tests, lt) in
    ap is_digit (cond-true (nat_lt (n % 10) 10) (48 + n % 10) (87 + n % 10) low) ∙ (let d : is_digit (48 + n % 10) ≡ true = grind (arith, nat_tests, lt) in d)

digits_all : (k n : ℕ) (acc : List ℕ) → list_all is_digit acc ≡ true → list_all is_digit (digits_onto k 10 false n acc) ≡ true
digits_all zero n acc h = h
digits_all (suc k) n acc h =
    let more : list_all is_digit (digit_glyph false (n % 10) ∷ acc) ≡ true = and_from _ _ (glyph_digit n) h in
    elim (cases_Bool (n / 10 == 0)) [
      | inl last ↦ rw last more
      | inr goes_on ↦ rw goes_on (digits_all k (n / 10) (digit_glyph false (n % 10) ∷ acc) more)
    ]

decimal_digits : (n : ℕ) → list_all is_digit (decimal n) ≡ true
unfolding digits
decimal_digits n = digits_all 64 n [] refl

digit-plain : (d : ℕ) → is_digit d ≡ true → is_plain d ≡ true
digit-plain d h = grind (arith, nat_tests)

digits-plain : (ds : List ℕ) → list_all is_digit ds ≡ true → list_all is_plain ds ≡ true
digits-plain [] h = refl
digits-plain (d ∷ ds) h = let p = and_parts (is_digit d) (list_all is_digit ds) h in and_from _ _ (digit-plain d p.0) (digits-plain ds p.1)

number_noted : (at : ℕ) (rest : List ℕ) (ls : List Lexeme) → ends_line rest ≡ true → Reads rest ls → Reads (note (Some at) ++ rest) ls
number_noted at rest ls h r =
    let ds = decimal_digits at in
    let body = 32 ∷ decimal at in
    space (45 ∷ 45 ∷ body ++ rest) ls
    (comment body rest ls (ascii_text (45 ∷ 45 ∷ body) (and_from _ _ refl (and_from _ _ refl (and_from _ _ refl (digits-ascii (decimal at) ds))))) (and_from _ _ refl (digits-plain (decimal at) ds)) h r)

default_noted : (rest : List ℕ) (ls : List Lexeme) → ends_line rest ≡ true → Reads rest ls → Reads (note None ++ rest) ls
default_noted rest ls h r =
    let body = 32 ∷ 100 ∷ 101 ∷ 102 ∷ 97 ∷ 117 ∷ 108 ∷ 116 ∷ [] in
    space (45 ∷ 45 ∷ body ++ rest) ls (comment body rest ls (ascii_text (45 ∷ 45 ∷ body) refl) refl h r)

quiet_note : (at : Option ℕ) → Quiet (note at)
quiet_note None = record { apart = λ rest h. refl; reads = default_noted }
quiet_note (Some at) = record { apart = λ rest h. refl; reads = number_noted at }

quiet_last : (v : AbstractValue) (at : Option ℕ) → Quiet (last_end note v at)
quiet_last v at =
    elim (cases_Bool (is_on_one_line v)) [
      | inl h ↦ subst Quiet (sym (cond-true (is_on_one_line v) (note at) [] h)) (quiet_note at)
      | inr h ↦ subst Quiet (sym (cond-false (is_on_one_line v) (note at) [] h)) quiet_none
    ]

-- ---- lines

new_line_ends : (level : ℕ) (text : List ℕ) → ends_line (new_line level ++ text) ≡ true
new_line_ends level text = refl

ended : (level : ℕ) (end text : List ℕ) (ls : List Lexeme) → Quiet end → Reads text ls → Reads ((end ++ new_line level) ++ text) ls
ended level end text ls q r =
    subst (λ (x : List ℕ). Reads x ls) (sym (append_assoc end (new_line level) text)) (q.reads (new_line level ++ text) ls (new_line_ends level text) (new_line_reads level text ls r))

before_reads : (level : ℕ) (is_first : Bool) (end text : List ℕ) (ls : List Lexeme) → Quiet end → Reads text ls → Reads (before_line level is_first end ++ text) (comma_unless is_first ls)
before_reads level true end text ls q r = ended level end text ls q r
before_reads level false end text ls q r = comma ((end ++ new_line level) ++ text) ls (ended level end text ls q r)

closing_reads : (level : ℕ) (is_first : Bool) (end rest : List ℕ) (ls : List Lexeme) → Quiet end → Reads rest ls → Reads (lines_from level is_first end [] ++ rest) (comma_entries is_first no_entries (mark RightBrace ∷ ls))
closing_reads level true end rest ls q r = right_brace rest ls r
closing_reads level false end rest ls q r =
    subst (λ (x : List ℕ). Reads x (mark RightBrace ∷ ls)) (sym (append_assoc (end ++ new_line level) (125 ∷ []) rest)) (ended level end (125 ∷ rest) (mark RightBrace ∷ ls) q (right_brace rest ls r))

behind_line : (level : ℕ) (end : List ℕ) (parts : List ShownPart) (rest : List ℕ) → Quiet end → is_apart (lines_from level false end parts ++ rest) ≡ true
behind_line level end [] rest q =
    subst (λ (x : List ℕ). is_apart x ≡ true) (sym (append_assoc (end ++ new_line level) (125 ∷ []) rest ∙ append_assoc end (new_line level) (125 ∷ rest))) (q.apart (new_line level ++ 125 ∷ rest) (new_line_ends level (125 ∷ rest)))
behind_line level end (part ∷ parts) rest q = refl

one_line : (level : ℕ) (is_first : Bool) (end : List ℕ) (part : ShownPart) (parts : List ShownPart) (rest : List ℕ) (ls : List Lexeme) → Quiet end
    → Reads (part.text ++ (lines_from level false part.last parts ++ rest)) ls → Reads (lines_from level is_first end (part ∷ parts) ++ rest) (comma_unless is_first ls)
one_line level is_first end part parts rest ls q r =
    let before = before_line (deeper level) is_first end in
    let others = lines_from level false part.last parts in
    subst (λ (x : List ℕ). Reads x (comma_unless is_first ls)) (sym (append_assoc (before ++ part.text) others rest ∙ append_assoc before part.text (others ++ rest)))
    (before_reads (deeper level) is_first end (part.text ++ (others ++ rest)) ls q r)

-- ---- a part with its name

abbrev NamedLines : List ℕ → ℕ → Option ℕ → Option ℕ → ℕ → AbstractValue → List ℕ → List Lexeme → Option OneComponent → Type 0
NamedLines octets level line at i v rest ls o =
    Reads (((name_or_number (option_map (λ c. c.name) o) i ++ 32 ∷ []) ++ value_lines note octets level line at (option_map (λ c. c.ty) o) v) ++ rest)
    (lower_name (name_or_number (option_map (λ c. c.name) o) i) ∷ value_then (tree_of (option_map (λ c. c.ty) o) v) ls)

named_lines : (octets : List ℕ) (level : ℕ) (line at : Option ℕ) (i : ℕ) (v : AbstractValue) (rest : List ℕ) (ls : List Lexeme) (o : Option OneComponent) (name : List ℕ) (t : AbstractType) (presence : AbstractPresence)
    → o ≡ Some (record { name = name; ty = t; presence = presence }) → IsIdentifier name → Reads (value_lines note octets level line at (Some t) v ++ rest) (value_then (tree_of (Some t) v) ls)
    → NamedLines octets level line at i v rest ls o
named_lines octets level line at i v rest ls o name t presence e h r =
    let text = value_lines note octets level line at (Some t) v in
    subst (NamedLines octets level line at i v rest ls) (sym e)
    (subst (λ (x : List ℕ). Reads x (lower_name name ∷ value_then (tree_of (Some t) v) ls)) (sym (append_assoc (name ++ 32 ∷ []) text rest ∙ append_assoc name (32 ∷ []) (text ++ rest)))
    (identifier name (32 ∷ text ++ rest) _ h refl (space (text ++ rest) _ r)))

abbrev ChosenLines : List ℕ → ℕ → Option ℕ → Option ℕ → ℕ → AbstractValue → List ℕ → List Lexeme → Option OneComponent → Type 0
ChosenLines octets level line at i v rest ls o =
    Reads (((name_or_number (option_map (λ c. c.name) o) i ++ 58 ∷ 32 ∷ []) ++ value_lines note octets level line at (option_map (λ c. c.ty) o) v) ++ rest)
    (lower_name (name_or_number (option_map (λ c. c.name) o) i) ∷ mark Colon ∷ value_then (tree_of (option_map (λ c. c.ty) o) v) ls)

chosen_lines : (octets : List ℕ) (level : ℕ) (line at : Option ℕ) (i : ℕ) (v : AbstractValue) (rest : List ℕ) (ls : List Lexeme) (o : Option OneComponent) (name : List ℕ) (t : AbstractType) (presence : AbstractPresence)
    → o ≡ Some (record { name = name; ty = t; presence = presence }) → IsIdentifier name → Reads (value_lines note octets level line at (Some t) v ++ rest) (value_then (tree_of (Some t) v) ls)
    → ChosenLines octets level line at i v rest ls o
chosen_lines octets level line at i v rest ls o name t presence e h r =
    let text = value_lines note octets level line at (Some t) v in
    subst (ChosenLines octets level line at i v rest ls) (sym e)
    (subst (λ (x : List ℕ). Reads x (lower_name name ∷ mark Colon ∷ value_then (tree_of (Some t) v) ls)) (sym (append_assoc (name ++ 58 ∷ 32 ∷ []) text rest ∙ append_assoc name (58 ∷ 32 ∷ []) (text ++ rest)))
    (identifier name (58 ∷ 32 ∷ text ++ rest) _ h refl (colon (text ++ rest) _ (space (text ++ rest) _ r))))

-- ---- all values

mutual
  lines_read : (octets : List ℕ) (level : ℕ) (line at : Option ℕ) (t : AbstractType) (v : AbstractValue) (rest : List ℕ) (ls : List Lexeme) → HasNames t → fits t v ≡ true → is_seen v ≡ true → is_apart rest ≡ true → Reads rest ls
      → Reads (value_lines note octets level line at (Some t) v ++ rest) (value_then (tree_of (Some t) v) ls)
  lines_read octets level line at t (value.boolean b) rest ls names fit seen apart r = value_reads (Lines level) t (value.boolean b) rest ls names fit seen apart r
  lines_read octets level line at t (value.integer z) rest ls names fit seen apart r = value_reads (Lines level) t (value.integer z) rest ls names fit seen apart r
  lines_read octets level line at t (value.enumerated z) rest ls names fit seen apart r = value_reads (Lines level) t (value.enumerated z) rest ls names fit seen apart r
  lines_read octets level line at t value.null rest ls names fit seen apart r = value_reads (Lines level) t value.null rest ls names fit seen apart r
  lines_read octets level line at t (value.bit_string os unused) rest ls names fit seen apart r = value_reads (Lines level) t (value.bit_string os unused) rest ls names fit seen apart r
  lines_read octets level line at t (value.octet_string os) rest ls names fit seen apart r = value_reads (Lines level) t (value.octet_string os) rest ls names fit seen apart r
  lines_read octets level line at t (value.object_identifier arcs) rest ls names fit seen apart r = value_reads (Lines level) t (value.object_identifier arcs) rest ls names fit seen apart r
  lines_read octets level line at t (value.characters cs) rest ls names fit seen apart r = value_reads (Lines level) t (value.characters cs) rest ls names fit seen apart r
  lines_read octets level line at (type_of tags (type.sequence cs) cons) (value.fields fs) rest ls names fit seen apart r =
      let t = type_of tags (type.sequence cs) cons in
      left_brace (lines_from level true (note line) (field_lines note octets (deeper level) (inside_value octets (Some t) at) (Some t) 0 fs) ++ rest) _
      (fields_lines octets level true (note line) (inside_value octets (Some t) at) t 0 cs fs rest ls (quiet_note line) (from_start t cs (λ i. refl)) names fit seen r)
  lines_read octets level line at (type_of tags (type.set cs) cons) (value.fields fs) rest ls names fit seen apart r =
      let t = type_of tags (type.set cs) cons in
      left_brace (lines_from level true (note line) (field_lines note octets (deeper level) (inside_value octets (Some t) at) (Some t) 0 fs) ++ rest) _
      (fields_lines octets level true (note line) (inside_value octets (Some t) at) t 0 cs fs rest ls (quiet_note line) (from_start t cs (λ i. refl)) names fit seen r)
  lines_read octets level line at (type_of tags (type.sequence_of u) cons) (value.items vs) rest ls names fit seen apart r =
      let t = type_of tags (type.sequence_of u) cons in
      left_brace (lines_from level true (note line) (element_lines note octets (deeper level) (inside_value octets (Some t) at) (Some u) vs) ++ rest) _
      (items_lines octets level true (note line) (inside_value octets (Some t) at) u vs rest ls (quiet_note line) names (and_parts (are_few vs) (every_fits (fits u) vs) fit).1 seen r)
  lines_read octets level line at (type_of tags (type.set_of u) cons) (value.items vs) rest ls names fit seen apart r =
      let t = type_of tags (type.set_of u) cons in
      let p = and_parts (fits_items (fits u) vs) (are_ascending (item_encodings (der u) vs)) fit in
      left_brace (lines_from level true (note line) (element_lines note octets (deeper level) (inside_value octets (Some t) at) (Some u) vs) ++ rest) _
      (items_lines octets level true (note line) (inside_value octets (Some t) at) u vs rest ls (quiet_note line) names (and_parts (are_few vs) (every_fits (fits u) vs) p.0).1 seen r)
  lines_read octets level line at (type_of tags (type.choice cs) cons) (value.chosen i v) rest ls names fit seen apart r =
      let t = type_of tags (type.choice cs) cons in
      let c = chosen_part cs i v names fit in
      let inner = inside_value octets (Some t) at in
      chosen_lines octets level line inner i v rest ls (component_at i cs) c.name c.ty c.presence c.part.there c.part.identifier (lines_read octets level line inner c.ty v rest ls c.part.names c.fitting seen apart r)
  lines_read octets level line at (type_of tags kind cons) v rest ls names fit seen apart r = absurd (false≢true fit)

  fields_lines : (octets : List ℕ) (level : ℕ) (is_first : Bool) (end : List ℕ) (next : Option ℕ) (t : AbstractType) (i : ℕ) (cs : Components) (fs : Fields) (rest : List ℕ) (ls : List Lexeme) → Quiet end
      → FromPlace t i cs → PartsHaveNames cs → fits_fields cs fs ≡ true → fields_seen fs ≡ true → Reads rest ls
      → Reads (lines_from level is_first end (field_lines note octets (deeper level) next (Some t) i fs) ++ rest) (comma_entries is_first (fields_written (Some t) i fs) (entries_then (fields_written (Some t) i fs) (mark RightBrace ∷ ls)))
  fields_lines octets level is_first end next t i no_components value.no_fields rest ls q from names fit seen r = closing_reads level is_first end rest ls q r
  fields_lines octets level is_first end next t i (component name u presence cs) (value.present v fs) rest ls q from names fit seen r =
      let f = and_parts (fits u v) (fits_fields cs fs) fit in
      let s = and_parts (is_seen v) (fields_seen fs) seen in
      let at = component_place octets (is_set (Some t)) (component_of (Some t) i) v next in
      let later_next = next_place octets (is_set (Some t)) at next in
      let last = last_end note v at in
      let parts = field_lines note octets (deeper level) later_next (Some t) (suc i) fs in
      let others = fields_written (Some t) (suc i) fs in
      let behind = lines_from level false last parts ++ rest in
      let more = entries_comma others (entries_then others (mark RightBrace ∷ ls)) in
      let quiet = quiet_last v at in
      let later : Reads behind more = fields_lines octets level false last later_next t (suc i) cs fs rest ls quiet (further_place t i name u presence cs from) names.3 f.1 s.1 r in
      let one : Reads (value_lines note octets (deeper level) at at (Some u) v ++ behind) (value_then (tree_of (Some u) v) more) = lines_read octets (deeper level) at at u v behind more names.2 f.0 s.0 (behind_line level last parts rest quiet) later in
      subst (λ (x : List Lexeme). Reads (lines_from level is_first end (field_lines note octets (deeper level) next (Some t) i (value.present v fs)) ++ rest) x)
      (comma_same is_first (Some (part_name (Some t) i)) (tree_of (type_within (Some t) (Component i)) v) others _)
      (one_line level is_first end _ parts rest _ q (named_lines octets (deeper level) at at i v behind more (component_of (Some t) i) name u presence (this_place t i name u presence cs from) names.0 one))
  fields_lines octets level is_first end next t i (component name u presence cs) (value.absent fs) rest ls q from names fit seen r =
      fields_lines octets level is_first end next t (suc i) cs fs rest ls q (further_place t i name u presence cs from) names.3 (and_parts (may_be_absent presence) (fits_fields cs fs) fit).1 seen r
  fields_lines octets level is_first end next t i cs fs rest ls q from names fit seen r = absurd (false≢true fit)

  items_lines : (octets : List ℕ) (level : ℕ) (is_first : Bool) (end : List ℕ) (next : Option ℕ) (u : AbstractType) (vs : Items) (rest : List ℕ) (ls : List Lexeme) → Quiet end
      → HasNames u → every_fits (fits u) vs ≡ true → items_seen vs ≡ true → Reads rest ls
      → Reads (lines_from level is_first end (element_lines note octets (deeper level) next (Some u) vs) ++ rest) (comma_entries is_first (items_written (Some u) vs) (entries_then (items_written (Some u) vs) (mark RightBrace ∷ ls)))
  items_lines octets level is_first end next u value.no_items rest ls q names fit seen r = closing_reads level is_first end rest ls q r
  items_lines octets level is_first end next u (value.item v vs) rest ls q names fit seen r =
      let f = and_parts (fits u v) (every_fits (fits u) vs) fit in
      let s = and_parts (is_seen v) (items_seen vs) seen in
      let later_next = after_element octets next in
      let last = last_end note v next in
      let text = value_lines note octets (deeper level) next next (Some u) v in
      let parts = element_lines note octets (deeper level) later_next (Some u) vs in
      let others = items_written (Some u) vs in
      let behind = lines_from level false last parts ++ rest in
      let more = entries_comma others (entries_then others (mark RightBrace ∷ ls)) in
      let quiet = quiet_last v next in
      let later : Reads behind more = items_lines octets level false last later_next u vs rest ls quiet names f.1 s.1 r in
      let one : Reads (text ++ behind) (value_then (tree_of (Some u) v) more) = lines_read octets (deeper level) next next u v behind more names f.0 s.0 (behind_line level last parts rest quiet) later in
      subst (λ (x : List Lexeme). Reads (lines_from level is_first end (element_lines note octets (deeper level) next (Some u) (value.item v vs)) ++ rest) x)
      (comma_same is_first None (tree_of (Some u) v) others _)
      (one_line level is_first end (record { text = text; last = last }) parts rest _ q one)

pub shown_reads : (t : AbstractType) (octets : List ℕ) (v : AbstractValue) → HasNames t → fits t v ≡ true → is_seen v ≡ true → Reads (value_shown t octets v) (value_then (tree_of (Some t) v) [])
shown_reads t octets v names fit seen =
    let end = last_end note v (Some 0) in
    let q = quiet_last v (Some 0) in
    let apart : is_apart end ≡ true = subst (λ (x : List ℕ). is_apart x ≡ true) (append-nil end) (q.apart [] refl) in
    let r : Reads end [] = subst (λ (x : List ℕ). Reads x []) (append-nil end) (q.reads [] [] refl at_end) in
    lines_read octets 0 (Some 0) (Some 0) t v end [] names fit seen apart r

pub shown_reads_back : (m : Meaning) (t : AbstractType) (octets : List ℕ) (v : AbstractValue) → is_sound t ≡ true → HasNames t → fits t v ≡ true → is_seen v ≡ true → is_short (der t v) ≡ true
    → length (value_shown t octets v) ≤ longest_text → IsReadAs m t (value_shown t octets v) v
shown_reads_back m t octets v sound names fit seen short fits_text =
    let text = value_shown t octets v in
    let tree = tree_of (Some t) v in
    let proper = sound_proper t sound in
    let r = shown_reads t octets v names fit seen in
    record {
      place = 0;
      tokens = tokens_from 0 text 0 r.items;
      lexed = record { lawful = record { short = fits_text; utf8 = r.utf8 }; items = r.items; cut = r.cut; tokens_are = refl };
      tree = tree;
      written = record {
        grammar = value_levels 128 t v proper fit (sound_nested t sound);
        tokens = sym (lexemes_from 0 text text 0 r.items refl r.cut ∙ r.lexemes_are);
      };
      denoted = (value_says m t v names proper fit seen (short_within (der t v) short), short);
    }
