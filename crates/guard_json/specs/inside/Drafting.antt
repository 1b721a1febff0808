-- An object that is being written.
use Rattle.std.specs.Prelude.{◌≡◌, Bool, true, false, cond, List, Some, None}
use Rattle.std.specs.List.{list_all}
use Rattle.json.specs.Token.{Token, begin_object, end_object, begin_array, end_array, key, string, number, boolean, null, bad}
use Rattle.json.specs.Lex.{tokens}
use Rattle.json.specs.Print.{print}
use Rattle.guard_json.specs.Cutting.{is_number}
use Rattle.guard_json.specs.declared.draft.Draft.{Draft}
use Rattle.guard_json.specs.Members.{Part, both}
use Rattle.guard_json.specs.Taken.{is_one_line}

-- its tokens so far, where the line has had its form
abbrev pub drafted : Draft → Part
drafted d = cond d.has_form (Some d.writer.tokens) None

-- the token may be written: its number is one
abbrev pub is_fine : Token → Bool
is_fine begin_object = true
is_fine end_object = true
is_fine begin_array = true
is_fine end_array = true
is_fine (key s) = true
is_fine (string s) = true
is_fine (number s) = is_number s
is_fine (boolean b) = true
is_fine null = true
is_fine bad = false

abbrev pub are_fine : Draft → Bool
are_fine d = list_all is_fine d.writer.tokens

-- the part is added, unless memory ran out
pub record Adds (old new : Draft) (part : Part) : Type 0 where
  pub before : new.writer.before ≡ old.writer.before
  pub memory : new.has_memory ≡ true → old.has_memory ≡ true
  pub added : new.has_memory ≡ true → drafted new ≡ both (drafted old) part
  pub fine : are_fine old ≡ true → are_fine new ≡ true

-- what is printed of the tokens is one line, and they can be read back from it
pub record Reads (ts : List Token) : Type 0 where
  pub back : tokens (print ts) ≡ ts
  pub one : is_one_line (print ts) ≡ true
