-- What values write is read again.
use Rattle.std.proofs.Common.{◌≡◌, ℕ, zero, suc, ◌==◌, Bool, true, false, List, [], ◌∷◌, length, Option, Some, None, Ok, refl, ap, subst, arith}
use Rattle.std.proofs.lemmas.Bool.Decides.{nat_tests}
use Rattle.guard_model.specs.declared.site.Site.{Site}
use Rattle.guard_lexer.specs.declared.token.TokenKind.TheVariants.{Mark, LowerName, Number}
use Rattle.guard_lexer.specs.declared.token.Mark.{Mark as Sign}
use Rattle.guard_lexer.specs.declared.token.Mark.TheVariants.{Colon, LeftBrace, LeftParenthesis, Minus, RightBrace}
use Rattle.guard_syntax.specs.Kinds.{same_kind}
use Rattle.guard_syntax.specs.declared.tree.StringKind.TheVariants as string
use Rattle.guard_syntax.specs.Lexemes.{Lexeme, mark}
use Rattle.guard_syntax.specs.Trees.{WrittenNumber, WrittenArc, WrittenValue, value_node, WrittenValueForm, boolean, integer, text, reference, chosen, list, arcs, WrittenEntries, no_entries, entry, WrittenEntry, entries_of}
use Rattle.guard_syntax.specs.TokensOf.{number_then, arc_form_then, arc_then, each_then, parted_then, comma_before, entry_name_then, entries_comma, value_then, value_form_then, entries_then}
use Rattle.guard_syntax.specs.Sites.{past, sited_arc, sited_each, sited_parted, sited_number, sited_value, sited_value_form}
use Rattle.guard_syntax.specs.Grammar.{MayFollowSign, Any, AreEach, AreArcs, IsValue, IsValueForm, AreEntries}
use Rattle.guard_syntax.specs.inside.ReadTokens.{Reader, begins_with, read_token, read_spelling}
use Rattle.guard_syntax.specs.inside.ReadValues.{is_there, begins_value, begins_arcs, are_arcs, does_not_close, read_entry_name, read_entry, read_entries, read_arcs, read_braces, read_name, read_integer_form, read_string, read_value_form, read_value}
use Rattle.guard_syntax.proofs.SoundSteps.{Sound}
use Rattle.guard_syntax.proofs.SoundLists.{arc_sound}
use Rattle.guard_syntax.proofs.SoundValues.{entry_then, sited_entry, IsEntry, entries_print, entries_sited, entry_sound, form_sound, value_sound}
use Rattle.guard_syntax.proofs.CompleteLists.{place, Complete, NotBefore, number_complete, arc_complete, site_first, each_complete, parted_complete}

-- the token after a value does not lengthen it
abbrev pub AfterValue : List Lexeme → Type 0
AfterValue ls = NotBefore (Mark Colon) ls

abbrev pub AfterEntry : List Lexeme → Type 0
AfterEntry ls = (ss : List Site) → (begins_with (Mark Colon) (place ls ss) ≡ false) × (begins_value (place ls ss) ≡ false)

-- ---- the first token

number_begins : (n : WrittenNumber) (minus : Bool) (ls : List Lexeme) (ss : List Site) → n.minus ≡ minus → begins_value (place (number_then n ls) ss) ≡ true
number_begins n true ls ss e = rw e refl
number_begins n false ls ss e = rw e refl

form_begins : (f : WrittenValueForm) (ls : List Lexeme) (ss : List Site) → begins_value (place (value_form_then f ls) ss) ≡ true
form_begins (boolean true) ls ss = refl
form_begins (text string.Characters spelling) ls ss = refl
form_begins (integer n) ls ss = number_begins n n.minus ls ss refl
form_begins f ls ss = refl

pub value_begins : (v : WrittenValue) (ls : List Lexeme) (ss : List Site) → begins_value (place (value_then v ls) ss) ≡ true
value_begins (value_node site f) ls ss = form_begins f ls ss

-- a mark that begins no value
abbrev pub BeginsNone : Sign → Type 0
BeginsNone m = (same_kind (Mark LeftBrace) (Mark m) ≡ false) × (same_kind (Mark Minus) (Mark m) ≡ false)

number_not : (m : Sign) → BeginsNone m → (n : WrittenNumber) (minus : Bool) (ls : List Lexeme) (ss : List Site) → n.minus ≡ minus → begins_with (Mark m) (place (number_then n ls) ss) ≡ false
number_not m h n true ls ss e = rw e h.1
number_not m h n false ls ss e = rw e refl

pub value_not : (m : Sign) → BeginsNone m → (v : WrittenValue) (ls : List Lexeme) (ss : List Site) → begins_with (Mark m) (place (value_then v ls) ss) ≡ false
value_not m h (value_node site (boolean true)) ls ss = refl
value_not m h (value_node site (text string.Characters spelling)) ls ss = refl
value_not m h (value_node site (integer n)) ls ss = number_not m h n n.minus ls ss refl
value_not m h (value_node site (list es)) ls ss = h.0
value_not m h (value_node site (arcs all)) ls ss = h.0
value_not m h v ls ss = refl

-- ---- arcs

first_two : (a b : Option (List ℕ)) (c d : List ℕ) (ls : List Lexeme) (ss : List Site) → begins_arcs (place (arc_form_then a c (arc_form_then b d ls)) ss) ≡ true
first_two None None c d ls ss = refl
first_two None (Some b) c d ls ss = refl
first_two (Some a) b c d ls ss = refl

only_one : (a : Option (List ℕ)) (c : List ℕ) (ls : List Lexeme) (ss : List Site) → (a ≡ None → ⊥) → begins_arcs (place (arc_form_then a c ls) ss) ≡ true
only_one None c ls ss h = absurd (h refl)
only_one (Some a) c ls ss h = refl

arcs_begin : (all : List WrittenArc) (ls : List Lexeme) (ss : List Site) → AreArcs all → begins_arcs (place (each_then arc_then all ls) ss) ≡ true
arcs_begin [] ls ss h = absurd h
arcs_begin (a ∷ []) ls ss h = only_one a.name a.number ls ss h
arcs_begin (a ∷ b ∷ others) ls ss h = first_two a.name b.name a.number b.number (each_then arc_then others ls) ss

named_there : (name : Option (List ℕ)) → (name ≡ None → ⊥) → is_there name ≡ true
named_there None h = absurd (h refl)
named_there (Some name) h = refl

arcs_are : (all : List WrittenArc) (ss : List Site) → AreArcs all → are_arcs (sited_each sited_arc all ss).0 ≡ true
arcs_are [] ss h = absurd h
arcs_are (a ∷ []) ss h = named_there a.name h
arcs_are (a ∷ b ∷ others) ss h = refl

arcs_any : (all : List WrittenArc) → AreEach Any all
arcs_any [] = tt
arcs_any (a ∷ others) = (tt, arcs_any others)

arc_goes : (name : Option (List ℕ)) (digits : List ℕ) (ls : List Lexeme) (ss : List Site) → does_not_close (place (arc_form_then name digits ls) ss) ≡ true
arc_goes None digits ls ss = refl
arc_goes (Some name) digits ls ss = refl

arcs_complete : (all : List WrittenArc) (ls : List Lexeme) (ss : List Site) → AreArcs all → read_arcs (place (each_then arc_then all (mark RightBrace ∷ ls)) ss) ≡ Ok ((sited_each sited_arc all ss).0, place (mark RightBrace ∷ ls) (sited_each sited_arc all ss).1)
unfolding read_arcs
arcs_complete all ls ss h =
    let ps = place (each_then arc_then all (mark RightBrace ∷ ls)) ss in
    rw (each_complete arc_sound arc_complete does_not_close (λ a more ts k. arc_goes a.name a.number more ts) (λ a more k. tt) all (length ps) (mark RightBrace ∷ ls) ss (arcs_any all) tt (λ ts. refl) (omega arith) (omega arith), arcs_are all ss h) refl

-- ---- entries

abbrev pub entries_list : WrittenEntries → List WrittenEntry
entries_list no_entries = []
entries_list (entry site name v others) = record { site = site; name = name; value = v } ∷ entries_list others

entries_of_list : (es : WrittenEntries) → entries_of (entries_list es) ≡ es
entries_of_list no_entries = refl
entries_of_list (entry site name v others) = ap (entry site name v) (entries_of_list others)

entries_each : (levels : ℕ) (es : WrittenEntries) → AreEntries levels es → AreEach (IsEntry levels) (entries_list es)
entries_each levels no_entries h = tt
entries_each levels (entry site name v others) h = (h.0, entries_each levels others h.1)

-- what follows a value in a list does not make it arcs
no_arcs_behind : (others : WrittenEntries) (ls : List Lexeme) (ss : List Site) → (begins_with Number (place (entries_comma others (entries_then others (mark RightBrace ∷ ls))) ss) ≡ false) × (begins_with LowerName (place (entries_comma others (entries_then others (mark RightBrace ∷ ls))) ss) ≡ false) × (begins_with (Mark LeftParenthesis) (place (entries_comma others (entries_then others (mark RightBrace ∷ ls))) ss) ≡ false)
no_arcs_behind no_entries ls ss = (refl, refl, refl)
no_arcs_behind (entry site name v others) ls ss = (refl, refl, refl)

number_no_arcs : (n : WrittenNumber) (minus : Bool) (ls : List Lexeme) (ss : List Site) → n.minus ≡ minus → begins_with Number (place ls (past ss)) ≡ false → begins_with LowerName (place ls (past ss)) ≡ false → begins_arcs (place (number_then n ls) ss) ≡ false
number_no_arcs n true ls ss e a b = rw e refl
number_no_arcs n false ls ss e a b = rw (e, a, b) refl

value_no_arcs : (v : WrittenValue) (ls : List Lexeme) (ss : List Site) → ((ts : List Site) → (begins_with Number (place ls ts) ≡ false) × (begins_with LowerName (place ls ts) ≡ false) × (begins_with (Mark LeftParenthesis) (place ls ts) ≡ false)) → begins_arcs (place (value_then v ls) ss) ≡ false
value_no_arcs (value_node site (boolean true)) ls ss h = refl
value_no_arcs (value_node site (text string.Characters spelling)) ls ss h = refl
value_no_arcs (value_node site (integer n)) ls ss h = number_no_arcs n n.minus ls ss refl (h (past ss)).0 (h (past ss)).1
value_no_arcs (value_node site (reference name)) ls ss h = (h (past ss)).2
value_no_arcs v ls ss h = refl

entries_no_arcs : (es : WrittenEntries) (ls : List Lexeme) (ss : List Site) → begins_arcs (place (entries_then es (mark RightBrace ∷ ls)) ss) ≡ false
entries_no_arcs no_entries ls ss = refl
entries_no_arcs (entry site None v others) ls ss = value_no_arcs v (entries_comma others (entries_then others (mark RightBrace ∷ ls))) ss (no_arcs_behind others ls)
entries_no_arcs (entry site (Some name) v others) ls ss = value_not LeftParenthesis (refl, refl) v (entries_comma others (entries_then others (mark RightBrace ∷ ls))) (past ss)

-- where a value is, one is allowed
may_stand : (levels : ℕ) (v : WrittenValue) → IsValue levels v → (levels == 0) ≡ false
may_stand zero (value_node site f) h = absurd h
may_stand (suc levels) v h = grind (arith, nat_tests)

module _ (levels : ℕ) {values : Reader WrittenValue} (inside_sound : Sound value_then sited_value (IsValue levels) values) (inside_complete : Complete value_then sited_value (IsValue levels) AfterValue values) where
  sign_name_missing : (n : WrittenNumber) (minus : Bool) (ls : List Lexeme) (ss : List Site) → n.minus ≡ minus → read_entry_name (place (number_then n ls) ss) ≡ Ok (None, place (number_then n ls) ss)
  unfolding read_entry_name
  sign_name_missing n true ls ss e = rw e refl
  sign_name_missing n false ls ss e = rw e refl

  name_missing : (v : WrittenValue) (ls : List Lexeme) (ss : List Site) → AfterEntry ls → read_entry_name (place (value_then v ls) ss) ≡ Ok (None, place (value_then v ls) ss)
  unfolding read_entry_name
  name_missing (value_node site (boolean true)) ls ss after = refl
  name_missing (value_node site (text string.Characters spelling)) ls ss after = refl
  name_missing (value_node site (integer n)) ls ss after = sign_name_missing n n.minus ls ss refl
  name_missing (value_node site (reference name)) ls ss after = rw (after (past ss)).1 refl
  name_missing v ls ss after = refl

  entry_complete_at : (site : Site) (name : Option (List ℕ)) (v : WrittenValue) (ls : List Lexeme) (ss : List Site) → IsValue levels v → AfterEntry ls
      → let e : WrittenEntry = record { site = site; name = name; value = v } in read_entry values (place (entry_then e ls) ss) ≡ Ok ((sited_entry e ss).0, place ls (sited_entry e ss).1)
  unfolding read_entry read_entry_name read_spelling
  entry_complete_at site None v ls ss h after = rw (name_missing v ls ss after, inside_complete v ls ss h (λ ts. (after ts).0), site_first inside_sound inside_complete v ls ss h (λ ts. (after ts).0)) refl
  entry_complete_at site (Some name) v ls ss h after = rw (value_begins v ls (past ss), inside_complete v ls (past ss) h (λ ts. (after ts).0)) refl

  pub entry_complete : Complete entry_then sited_entry (IsEntry levels) AfterEntry (read_entry values)
  entry_complete e ls ss h after = entry_complete_at e.site e.name e.value ls ss h after

  entry_not_closing : (name : Option (List ℕ)) (v : WrittenValue) (ls : List Lexeme) (ss : List Site) → begins_with (Mark RightBrace) (place (entry_name_then name (value_then v ls)) ss) ≡ false
  entry_not_closing None v ls ss = value_not RightBrace (refl, refl) v ls ss
  entry_not_closing (Some name) v ls ss = refl

  entries_complete : (es : List WrittenEntry) (ls : List Lexeme) (ss : List Site) → AreEach (IsEntry levels) es
      → read_entries levels values (place (parted_then entry_then es (mark RightBrace ∷ ls)) ss) ≡ Ok ((sited_parted sited_entry es ss).0, place (mark RightBrace ∷ ls) (sited_parted sited_entry es ss).1)
  unfolding read_entries
  entries_complete [] ls ss h = refl
  entries_complete (e ∷ es) ls ss h =
      let more = parted_then entry_then (e ∷ es) (mark RightBrace ∷ ls) in
      rw (entry_not_closing e.name e.value (comma_before es (parted_then entry_then es (mark RightBrace ∷ ls))) ss, may_stand levels e.value h.0, parted_complete (entry_sound levels inside_sound) entry_complete (λ more ts. (refl, refl)) (e ∷ es) (length (place more ss)) (mark RightBrace ∷ ls) ss h (λ ts. (refl, refl)) (λ ts. refl) (omega arith)) refl

  list_complete_of : (es : List WrittenEntry) (ls : List Lexeme) (ss : List Site) → AreEach (IsEntry levels) es
      → read_value_form levels values (place (value_form_then (list (entries_of es)) ls) ss) ≡ Ok ((sited_value_form (list (entries_of es)) ss).0, place ls (sited_value_form (list (entries_of es)) ss).1)
  unfolding read_value_form read_braces read_token
  list_complete_of es ls ss h = rw (entries_no_arcs (entries_of es) ls (past ss), entries_print es (mark RightBrace ∷ ls), entries_complete es ls (past ss) h, entries_sited es (past ss)) refl

  list_complete : (es : WrittenEntries) (ls : List Lexeme) (ss : List Site) → AreEntries levels es
      → read_value_form levels values (place (value_form_then (list es) ls) ss) ≡ Ok ((sited_value_form (list es) ss).0, place ls (sited_value_form (list es) ss).1)
  list_complete es ls ss h =
      subst (λ (x : WrittenEntries). read_value_form levels values (place (value_form_then (list x) ls) ss) ≡ Ok ((sited_value_form (list x) ss).0, place ls (sited_value_form (list x) ss).1)) (entries_of_list es) (list_complete_of (entries_list es) ls ss (entries_each levels es h))

  integer_complete_at : (site : Site) (minus : Bool) (digits : List ℕ) (ls : List Lexeme) (ss : List Site) → MayFollowSign minus digits → let n : WrittenNumber = record { site = site; minus = minus; digits = digits } in
      read_value_form levels values (place (number_then n ls) ss) ≡ Ok (integer (sited_number n ss).0, place ls (sited_number n ss).1)
  unfolding read_value_form read_integer_form
  integer_complete_at site true digits ls ss h = rw (number_complete (record { site = site; minus = true; digits = digits }) ls ss h tt) refl
  integer_complete_at site false digits ls ss h = rw (number_complete (record { site = site; minus = false; digits = digits }) ls ss h tt) refl

  form_complete : Complete value_form_then sited_value_form (IsValueForm levels) AfterValue (read_value_form levels values)
  unfolding read_value_form read_integer_form read_string read_name read_braces read_spelling read_token
  form_complete (boolean true) ls ss h after = refl
  form_complete (text string.Characters spelling) ls ss h after = refl
  form_complete (integer n) ls ss h after = integer_complete_at n.site n.minus n.digits ls ss h
  form_complete (reference name) ls ss h after = rw (after (past ss)) refl
  form_complete (chosen name v) ls ss h after = rw (inside_complete v ls (past (past ss)) h after) refl
  form_complete (list es) ls ss h after = list_complete es ls ss h
  form_complete (arcs all) ls ss h after = rw (arcs_begin all (mark RightBrace ∷ ls) (past ss) h, arcs_complete all ls (past ss) h) refl
  form_complete _ ls ss h after = refl

pub value_complete : (levels : ℕ) → Complete value_then sited_value (IsValue levels) AfterValue (read_value levels)
unfolding read_value
value_complete zero (value_node site f) ls ss h after = absurd h
value_complete (suc levels) (value_node site f) ls ss h after = rw (form_complete levels (value_sound levels) (value_complete levels) f ls ss h after, site_first (form_sound levels (value_sound levels)) (form_complete levels (value_sound levels) (value_complete levels)) f ls ss h after) refl
