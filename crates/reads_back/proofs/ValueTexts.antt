-- The text of a value is read as the tokens of its tree.
use Rattle.std.proofs.Common.{◌≡◌, ℕ, suc, ◌+◌, Bool, true, false, ◌&&◌, List, [], ◌∷◌, ◌++◌, Option, Some, None, refl, sym, ap, subst, ◌∙◌, append_assoc, option_map, arith}
use Rattle.std.proofs.lemmas.Bool.{and_parts, false≢true}
use Rattle.guard_model.specs.declared.site.Step.TheVariants.{Component}
use Rattle.guard_model.specs.declared.ty.CharKind.{CharKind}
use Rattle.guard_model.specs.AbstractType as type
use Rattle.guard_model.specs.AbstractType.{AbstractType, AbstractKind, AbstractPresence, Components, type_of, no_components, component}
use Rattle.guard_model.specs.AbstractValue as value
use Rattle.guard_model.specs.AbstractValue.{AbstractValue, Fields, Items}
use Rattle.guard_model.specs.TypeView.{OneComponent}
use Rattle.guard_model.specs.Components.{component_at}
use Rattle.guard_model.specs.Alphabets.{fits_characters}
use Rattle.guard_model.specs.Limits.{fits_128_bits}
use Rattle.guard_der.specs.Fits.{fits, fits_bits, has_proper_end, has_zero_end, ends_as_named, all_below, fits_fields, fits_items, are_few, every_fits, are_ascending}
use Rattle.guard_model.specs.NamedLists.{is_item}
use Rattle.guard_der.specs.Der.{der, item_encodings}
use Rattle.guard_lexer.specs.declared.token.Mark.TheVariants.{Colon, RightBrace}
use Rattle.guard_lexer.specs.declared.token.TokenKind.TheVariants as kind
use Rattle.guard_lexer.specs.declared.token.Reserved.TheVariants as reserved
use Rattle.guard_syntax.specs.Lexemes.{Lexeme, mark, word, lower_name, character_string}
use Rattle.guard_syntax.specs.Trees.{WrittenValue, WrittenEntries, no_entries, entry}
use Rattle.guard_syntax.specs.TokensOf.{value_then, entries_then, entries_comma}
use Rattle.guard_report.specs.declared.layout.Layout.{Layout}
use Rattle.guard_report.specs.Layouts.{inside, parts_from}
use Rattle.guard_report.specs.Text.{name_or_number, component_of, type_within}
use Rattle.guard_report.specs.CharacterStrings.{in_quotes, characters_text}
use Rattle.guard_report.specs.ValueText.{value_octets, field_texts, element_texts, item_text, part_name}
use Rattle.reads_back.specs.inside.TreeOf.{no_site, tree_of, fields_written, items_written}
use Rattle.reads_back.specs.Names.{IsIdentifier, HasNames, PartsHaveNames, are_seen, is_seen, fields_seen, items_seen}
use Rattle.reads_back.proofs.Cuts.{Reads}
use Rattle.reads_back.proofs.Pieces.{left_brace, space, colon}
use Rattle.reads_back.proofs.WordPieces.{is_apart, word as word_piece}
use Rattle.reads_back.proofs.Identifiers.{identifier}
use Rattle.reads_back.proofs.Braces.{comma_unless, closing_reads, behind_part, one_part}
use Rattle.reads_back.proofs.NumberTexts.{integer_reads, arcs_read}
use Rattle.reads_back.proofs.StringTexts.{hexadecimal_reads, quoted_reads}
use Rattle.reads_back.proofs.Named.{item_named, chosen_part}
use Rattle.reads_back.proofs.BitTexts.{comma_entries, bits_read}
use Rattle.reads_back.proofs.Arcs.{all_arcs}
use Rattle.reads_back.proofs.Characters.{proper_codes}

-- ---- words

true_reads : (rest : List ℕ) (ls : List Lexeme) → is_apart rest ≡ true → Reads rest ls → Reads (84 ∷ 82 ∷ 85 ∷ 69 ∷ rest) (word reserved.True ∷ ls)
true_reads rest ls apart r = word_piece (84 ∷ 82 ∷ 85 ∷ 69 ∷ []) rest (kind.Reserved reserved.True) ls refl refl apart r

false_reads : (rest : List ℕ) (ls : List Lexeme) → is_apart rest ≡ true → Reads rest ls → Reads (70 ∷ 65 ∷ 76 ∷ 83 ∷ 69 ∷ rest) (word reserved.False ∷ ls)
false_reads rest ls apart r = word_piece (70 ∷ 65 ∷ 76 ∷ 83 ∷ 69 ∷ []) rest (kind.Reserved reserved.False) ls refl refl apart r

null_reads : (rest : List ℕ) (ls : List Lexeme) → is_apart rest ≡ true → Reads rest ls → Reads (78 ∷ 85 ∷ 76 ∷ 76 ∷ rest) (word reserved.Null ∷ ls)
null_reads rest ls apart r = word_piece (78 ∷ 85 ∷ 76 ∷ 76 ∷ []) rest (kind.Reserved reserved.Null) ls refl refl apart r

-- ---- characters

characters_read : (k : CharKind) (cs rest : List ℕ) (ls : List Lexeme) → fits_characters k cs ≡ true → are_seen cs ≡ true → is_apart rest ≡ true → Reads rest ls
    → Reads (characters_text (Some k) cs ++ rest) (character_string (in_quotes cs) ∷ ls)
characters_read k cs rest ls fit seen apart r = rw seen (quoted_reads cs rest ls seen (proper_codes k cs fit) apart r)

-- ---- a part with its name

pub comma_same : (is_first : Bool) (name : Option (List ℕ)) (v : WrittenValue) (others : WrittenEntries) (ls : List Lexeme) → comma_unless is_first ls ≡ comma_entries is_first (entry no_site name v others) ls
comma_same true name v others ls = refl
comma_same false name v others ls = refl

closed : (layout : Layout) (is_first : Bool) (rest : List ℕ) (ls : List Lexeme) → Reads rest ls → Reads (parts_from layout is_first [] ++ rest) (comma_entries is_first no_entries (mark RightBrace ∷ ls))
closed layout true rest ls r = closing_reads layout true rest ls r
closed layout false rest ls r = closing_reads layout false rest ls r

-- the text of a component, by what the type knows of it
abbrev NamedReads : Layout → ℕ → AbstractValue → List ℕ → List Lexeme → Option OneComponent → Type 0
NamedReads layout i v rest ls o =
    Reads (((name_or_number (option_map (λ c. c.name) o) i ++ 32 ∷ []) ++ value_octets layout (option_map (λ c. c.ty) o) v) ++ rest)
    (lower_name (name_or_number (option_map (λ c. c.name) o) i) ∷ value_then (tree_of (option_map (λ c. c.ty) o) v) ls)

named_reads : (layout : Layout) (i : ℕ) (v : AbstractValue) (rest : List ℕ) (ls : List Lexeme) (o : Option OneComponent) (name : List ℕ) (t : AbstractType) (presence : AbstractPresence)
    → o ≡ Some (record { name = name; ty = t; presence = presence }) → IsIdentifier name → Reads (value_octets layout (Some t) v ++ rest) (value_then (tree_of (Some t) v) ls) → NamedReads layout i v rest ls o
named_reads layout i v rest ls o name t presence e h r =
    let text = value_octets layout (Some t) v in
    subst (NamedReads layout i v rest ls) (sym e)
    (subst (λ (x : List ℕ). Reads x (lower_name name ∷ value_then (tree_of (Some t) v) ls)) (sym (append_assoc (name ++ 32 ∷ []) text rest ∙ append_assoc name (32 ∷ []) (text ++ rest)))
    (identifier name (32 ∷ text ++ rest) _ h refl (space (text ++ rest) _ r)))

-- that of a chosen alternative
abbrev ChosenReads : Layout → ℕ → AbstractValue → List ℕ → List Lexeme → Option OneComponent → Type 0
ChosenReads layout i v rest ls o =
    Reads (((name_or_number (option_map (λ c. c.name) o) i ++ 58 ∷ 32 ∷ []) ++ value_octets layout (option_map (λ c. c.ty) o) v) ++ rest)
    (lower_name (name_or_number (option_map (λ c. c.name) o) i) ∷ mark Colon ∷ value_then (tree_of (option_map (λ c. c.ty) o) v) ls)

chosen_reads : (layout : Layout) (i : ℕ) (v : AbstractValue) (rest : List ℕ) (ls : List Lexeme) (o : Option OneComponent) (name : List ℕ) (t : AbstractType) (presence : AbstractPresence)
    → o ≡ Some (record { name = name; ty = t; presence = presence }) → IsIdentifier name → Reads (value_octets layout (Some t) v ++ rest) (value_then (tree_of (Some t) v) ls) → ChosenReads layout i v rest ls o
chosen_reads layout i v rest ls o name t presence e h r =
    let text = value_octets layout (Some t) v in
    subst (ChosenReads layout i v rest ls) (sym e)
    (subst (λ (x : List ℕ). Reads x (lower_name name ∷ mark Colon ∷ value_then (tree_of (Some t) v) ls)) (sym (append_assoc (name ++ 58 ∷ 32 ∷ []) text rest ∙ append_assoc name (58 ∷ 32 ∷ []) (text ++ rest)))
    (identifier name (58 ∷ 32 ∷ text ++ rest) _ h refl (colon (text ++ rest) _ (space (text ++ rest) _ r))))

-- ---- all values

-- what is left of the components, from this place on
abbrev pub FromPlace : AbstractType → ℕ → Components → Type 0
FromPlace t i cs = (j : ℕ) → component_of (Some t) (j + i) ≡ component_at j cs

pub further_place : (t : AbstractType) (i : ℕ) (name : List ℕ) (u : AbstractType) (presence : AbstractPresence) (rest : Components) → FromPlace t i (component name u presence rest) → FromPlace t (suc i) rest
further_place t i name u presence rest h j = let e : j + suc i ≡ suc j + i = omega arith in ap (component_of (Some t)) e ∙ h (suc j)

pub this_place : (t : AbstractType) (i : ℕ) (name : List ℕ) (u : AbstractType) (presence : AbstractPresence) (rest : Components) → FromPlace t i (component name u presence rest)
    → component_of (Some t) i ≡ Some (record { name = name; ty = u; presence = presence })
this_place t i name u presence rest h = let e : i ≡ 0 + i = omega arith in ap (component_of (Some t)) e ∙ h 0

pub from_start : (t : AbstractType) (cs : Components) → ((i : ℕ) → component_of (Some t) i ≡ component_at i cs) → FromPlace t 0 cs
from_start t cs h j = let e : j + 0 ≡ j = omega arith in ap (component_of (Some t)) e ∙ h j

mutual
  pub value_reads : (layout : Layout) (t : AbstractType) (v : AbstractValue) (rest : List ℕ) (ls : List Lexeme) → HasNames t → fits t v ≡ true → is_seen v ≡ true → is_apart rest ≡ true → Reads rest ls
      → Reads (value_octets layout (Some t) v ++ rest) (value_then (tree_of (Some t) v) ls)
  value_reads layout (type_of tags type.boolean cons) (value.boolean true) rest ls names fit seen apart r = true_reads rest ls apart r
  value_reads layout (type_of tags type.boolean cons) (value.boolean false) rest ls names fit seen apart r = false_reads rest ls apart r
  value_reads layout (type_of tags (type.integer ns) cons) (value.integer z) rest ls names fit seen apart r = integer_reads z rest ls fit apart r
  value_reads layout (type_of tags (type.enumerated ns) cons) (value.enumerated z) rest ls names fit seen apart r =
      let n = item_named ns z names (and_parts (fits_128_bits z) (is_item z ns) fit).1 in
      subst (λ (o : Option (List ℕ)). Reads (item_text o z ++ rest) (lower_name (item_text o z) ∷ ls)) (sym n.1.written) (identifier n.0 rest ls n.1.identifier apart r)
  value_reads layout (type_of tags type.null cons) value.null rest ls names fit seen apart r = null_reads rest ls apart r
  value_reads layout (type_of tags (type.bit_string ns) cons) (value.bit_string octets unused) rest ls names fit seen apart r =
      let p = and_parts (fits_bits octets unused) (ends_as_named ns octets unused) fit in
      let q = and_parts (all_below 256 octets && has_proper_end octets unused) (has_zero_end octets unused) p.0 in
      bits_read ns octets unused rest ls names.0 (and_parts (all_below 256 octets) (has_proper_end octets unused) q.0).0 r
  value_reads layout (type_of tags type.octet_string cons) (value.octet_string octets) rest ls names fit seen apart r = hexadecimal_reads octets rest ls fit r
  value_reads layout (type_of tags type.object_identifier cons) (value.object_identifier arcs) rest ls names fit seen apart r = arcs_read arcs rest ls (all_arcs arcs fit) r
  value_reads layout (type_of tags (type.characters k) cons) (value.characters cs) rest ls names fit seen apart r = characters_read k cs rest ls fit seen apart r
  value_reads layout (type_of tags (type.sequence cs) cons) (value.fields fs) rest ls names fit seen apart r =
      let t = type_of tags (type.sequence cs) cons in
      left_brace (parts_from layout true (field_texts (inside layout) (Some t) 0 fs) ++ rest) _ (fields_read layout true t 0 cs fs rest ls (from_start t cs (λ i. refl)) names fit seen r)
  value_reads layout (type_of tags (type.set cs) cons) (value.fields fs) rest ls names fit seen apart r =
      let t = type_of tags (type.set cs) cons in
      left_brace (parts_from layout true (field_texts (inside layout) (Some t) 0 fs) ++ rest) _ (fields_read layout true t 0 cs fs rest ls (from_start t cs (λ i. refl)) names fit seen r)
  value_reads layout (type_of tags (type.choice cs) cons) (value.chosen i v) rest ls names fit seen apart r =
      let c = chosen_part cs i v names fit in
      chosen_reads layout i v rest ls (component_at i cs) c.name c.ty c.presence c.part.there c.part.identifier (value_reads layout c.ty v rest ls c.part.names c.fitting seen apart r)
  value_reads layout (type_of tags (type.sequence_of u) cons) (value.items vs) rest ls names fit seen apart r =
      left_brace (parts_from layout true (element_texts (inside layout) (Some u) vs) ++ rest) _ (items_read layout true u vs rest ls names (and_parts (are_few vs) (every_fits (fits u) vs) fit).1 seen r)
  value_reads layout (type_of tags (type.set_of u) cons) (value.items vs) rest ls names fit seen apart r =
      let p = and_parts (fits_items (fits u) vs) (are_ascending (item_encodings (der u) vs)) fit in
      left_brace (parts_from layout true (element_texts (inside layout) (Some u) vs) ++ rest) _ (items_read layout true u vs rest ls names (and_parts (are_few vs) (every_fits (fits u) vs) p.0).1 seen r)
  value_reads layout (type_of tags kind cons) v rest ls names fit seen apart r = absurd (false≢true fit)

  fields_read : (layout : Layout) (is_first : Bool) (t : AbstractType) (i : ℕ) (cs : Components) (fs : Fields) (rest : List ℕ) (ls : List Lexeme)
      → FromPlace t i cs → PartsHaveNames cs → fits_fields cs fs ≡ true → fields_seen fs ≡ true → Reads rest ls
      → Reads (parts_from layout is_first (field_texts (inside layout) (Some t) i fs) ++ rest) (comma_entries is_first (fields_written (Some t) i fs) (entries_then (fields_written (Some t) i fs) (mark RightBrace ∷ ls)))
  fields_read layout is_first t i no_components value.no_fields rest ls from names fit seen r = closed layout is_first rest ls r
  fields_read layout is_first t i (component name u presence cs) (value.present v fs) rest ls from names fit seen r =
      let f = and_parts (fits u v) (fits_fields cs fs) fit in
      let s = and_parts (is_seen v) (fields_seen fs) seen in
      let texts = field_texts (inside layout) (Some t) (suc i) fs in
      let others = fields_written (Some t) (suc i) fs in
      let behind = parts_from layout false texts ++ rest in
      let more = entries_comma others (entries_then others (mark RightBrace ∷ ls)) in
      let later : Reads behind more = fields_read layout false t (suc i) cs fs rest ls (further_place t i name u presence cs from) names.3 f.1 s.1 r in
      let one : Reads (value_octets (inside layout) (Some u) v ++ behind) (value_then (tree_of (Some u) v) more) = value_reads (inside layout) u v behind more names.2 f.0 s.0 (behind_part layout texts rest) later in
      subst (λ (x : List Lexeme). Reads (parts_from layout is_first (field_texts (inside layout) (Some t) i (value.present v fs)) ++ rest) x)
      (comma_same is_first (Some (part_name (Some t) i)) (tree_of (type_within (Some t) (Component i)) v) others _)
      (one_part layout is_first _ texts rest _ (named_reads (inside layout) i v behind more (component_of (Some t) i) name u presence (this_place t i name u presence cs from) names.0 one))
  fields_read layout is_first t i (component name u presence cs) (value.absent fs) rest ls from names fit seen r =
      fields_read layout is_first t (suc i) cs fs rest ls (further_place t i name u presence cs from) names.3 (and_parts _ (fits_fields cs fs) fit).1 seen r
  fields_read layout is_first t i cs fs rest ls from names fit seen r = absurd (false≢true fit)

  items_read : (layout : Layout) (is_first : Bool) (u : AbstractType) (vs : Items) (rest : List ℕ) (ls : List Lexeme) → HasNames u → every_fits (fits u) vs ≡ true → items_seen vs ≡ true → Reads rest ls
      → Reads (parts_from layout is_first (element_texts (inside layout) (Some u) vs) ++ rest) (comma_entries is_first (items_written (Some u) vs) (entries_then (items_written (Some u) vs) (mark RightBrace ∷ ls)))
  items_read layout is_first u value.no_items rest ls names fit seen r = closed layout is_first rest ls r
  items_read layout is_first u (value.item v vs) rest ls names fit seen r =
      let f = and_parts (fits u v) (every_fits (fits u) vs) fit in
      let s = and_parts (is_seen v) (items_seen vs) seen in
      let texts = element_texts (inside layout) (Some u) vs in
      let others = items_written (Some u) vs in
      let behind = parts_from layout false texts ++ rest in
      let more = entries_comma others (entries_then others (mark RightBrace ∷ ls)) in
      let later : Reads behind more = items_read layout false u vs rest ls names f.1 s.1 r in
      let one : Reads (value_octets (inside layout) (Some u) v ++ behind) (value_then (tree_of (Some u) v) more) = value_reads (inside layout) u v behind more names f.0 s.0 (behind_part layout texts rest) later in
      subst (λ (x : List Lexeme). Reads (parts_from layout is_first (element_texts (inside layout) (Some u) (value.item v vs)) ++ rest) x)
      (comma_same is_first None (tree_of (Some u) v) others _)
      (one_part layout is_first (value_octets (inside layout) (Some u) v) texts rest _ one)
