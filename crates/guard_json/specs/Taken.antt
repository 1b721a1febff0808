-- What a sink of plain lines tells of them, by what came to the sink of JSON behind it.
use Rattle.std.specs.Prelude.{◌≡◌, ℕ, ◌-◌, Bool, true, false, ◌==◌, ◌&&◌, ◌||◌, not, cond, nat_le, bytes_eq, codes, List, [], ◌∷◌, ◌++◌, take, drop, length, option_map, Option, Some, None, Result, Ok, Err}
use Rattle.std.specs.List.{list_all}
use Rattle.std.specs.Io.KnownBytes.{Appends}
use Rattle.std.specs.Borrow.{MutBor}
use Rattle.json.specs.Token.{Token, begin_object, key, string}
use Rattle.json.specs.Lex.{tokens}
use Rattle.hex.specs.Hex.{decode_of}
use Rattle.guard_json.specs.declared.lines.JsonLines.{JsonLines}
use Rattle.guard_json.specs.Cutting.{line_feed}
use Rattle.guard_json.specs.Objects.{json_line, json_text}

-- an octet that ends no line
abbrev pub is_no_feed : ℕ → Bool
is_no_feed c = not (c == line_feed)

-- no line feed is in it
abbrev pub is_one_line : List ℕ → Bool
is_one_line text = list_all is_no_feed text

abbrev pub is_empty : List ℕ → Bool
is_empty [] = true
is_empty (c ∷ cs) = false

-- ---- reading lines of JSON back

abbrev pub octets_or_none : {E : Type 0} → Result (List ℕ) E → List ℕ
octets_or_none (Ok octets) = octets
octets_or_none (Err e) = []

-- the line that an object of `json_line` tells
abbrev pub told_by : List Token → List ℕ
told_by (begin_object ∷ key name ∷ string text ∷ ts) =
    cond (bytes_eq name (codes "text")) text (octets_or_none (decode_of text))
told_by ts = []

-- this line, if the octets are its object
abbrev pub line_if : List ℕ → List ℕ → Option (List ℕ)
line_if line octets = cond (bytes_eq (json_line line) octets && is_one_line line) (Some line) None

-- the line whose object these octets are, read back by what the object tells
unfoldable pub line_in : List ℕ → Option (List ℕ)
line_in octets = line_if (told_by (tokens octets)) octets

-- a line, and the lines after it
abbrev pub with_line : Option (List ℕ) → Option (List ℕ) → Option (List ℕ)
with_line None rest = None
with_line (Some line) rest = option_map (λ lines. line ++ line_feed ∷ lines) rest

-- The plain lines whose objects these octets are, if they are objects of lines. `seen` is the front of the first object.
-- Only where the sink has failed may the last one be torn.
abbrev pub lines_from : Bool → List ℕ → List ℕ → Option (List ℕ)
lines_from torn seen [] = cond (is_empty seen || torn) (Some []) None
lines_from torn seen (c ∷ cs) =
    elim (c == line_feed) [ true ↦ with_line (line_in seen) (lines_from torn [] cs) | false ↦ lines_from torn (seen ++ c ∷ []) cs ]

-- ---- what the sink of lines tells

-- Which sink stands behind, and how many octets it had taken before; these octets; and then the plain lines and the
-- front of the line that hasn't ended. Only the last two ever grow, so all before them stays as it was.
abbrev pub told : ℕ → List ℕ → List ℕ → List ℕ → List ℕ
told name before lines begun = name ∷ length before ∷ (before ++ (lines ++ begun))

-- What a sink of lines tells, by the name of the sink behind, whether this one has failed, how many octets of JSON it
-- wrote, the front of a line and what the sink behind has taken; nothing where that doesn't tell. That it is something
-- says too that the octets of JSON are what `json_line` makes of the lines.
abbrev pub lines_taken_by : ℕ → Bool → ℕ → List ℕ → Option (List ℕ) → Option (List ℕ)
lines_taken_by name torn written begun None = None
lines_taken_by name torn written begun (Some octets) =
    let before = length octets - written in
    option_map (λ lines. told name (take before octets) lines begun)
    (cond (nat_le written (length octets) && is_one_line begun) (lines_from torn [] (drop before octets)) None)

-- what a sink of lines tells that has taken nothing
abbrev pub lines_begin : ℕ → Option (List ℕ) → Option (List ℕ)
lines_begin name taken = option_map (λ octets. told name octets [] []) taken

-- what a sink of lines tells; `taken` is what the one behind tells
abbrev pub lines_taken : {S : Type 0} → (S → Option (List ℕ)) → JsonLines S → Option (List ℕ)
lines_taken taken w = lines_taken_by w.sink.ghost_name w.is_broken w.written w.begun.items (taken w.sink.now)

-- whether it has failed
abbrev pub lines_failed : {S : Type 0} → JsonLines S → Bool
lines_failed w = w.is_broken

-- the sink behind
abbrev pub lines_sink : {S : Type 0} → JsonLines S → MutBor S
lines_sink w = w.sink

-- ---- what the sink behind took

-- octets that are the objects of plain lines; and only where the sink has failed a part of one more
pub record IsJsonOf (torn : Bool) (octets plain : List ℕ) : Type 0 where
  pub rest : List ℕ
  pub joined : octets ≡ json_text plain ++ rest
  pub short : is_one_line rest ≡ true
  pub whole : torn ≡ false → rest ≡ []

-- The sink behind is the one that was given, of the name; and what it took since is JSON of these plain lines.
pub record JsonCame (name : ℕ) (octets : List ℕ) (name₁ : ℕ) (torn : Bool) (after : Option (List ℕ)) (plain : List ℕ) : Type 0 where
  pub same : name₁ ≡ name
  pub since : List ℕ
  pub grew : after ≡ Some (octets ++ since)
  pub json : IsJsonOf torn since plain

-- However plain lines were put into a sink of lines, the sink behind took their JSON.
abbrev pub JsonCameLaw : Type 0
JsonCameLaw =
    (name name₁ : ℕ) (torn : Bool) (written : ℕ) (begun octets : List ℕ) (after : Option (List ℕ)) (plain : List ℕ)
    → Appends (lines_begin name (Some octets)) (lines_taken_by name₁ torn written begun after) plain
    → JsonCame name octets name₁ torn after plain
