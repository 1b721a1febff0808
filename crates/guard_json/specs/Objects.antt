-- A line as JSON (RFC 8259): one object, in which the line itself comes first, and then its fields by their names.
use Rattle.std.specs.Prelude.{ℕ, true, false, ◌==◌, cond, codes, List, [], ◌∷◌, ◌++◌, unwrap_or}
use Rattle.std.specs.Str.{is_utf8}
use Rattle.json.specs.Token.{Token, begin_object, end_object, key, string}
use Rattle.json.specs.Print.{print}
use Rattle.hex.specs.Hex.{encode_lower}
use Rattle.guard_json.specs.Cutting.{line_feed}
use Rattle.guard_json.specs.Members.{Part, all_of, mark, members_in}

-- an object with one member, which is a text
abbrev pub lone_member : List ℕ → List ℕ → List Token
lone_member name value = begin_object ∷ key name ∷ string value ∷ end_object ∷ []

-- the line itself, and then its members; nothing where it has none
abbrev pub full_object : List ℕ → Part
full_object line = all_of
    (mark begin_object
    ∷ mark (key (codes "text"))
    ∷ mark (string line)
    ∷ members_in line
    ∷ mark end_object
    ∷ [])

-- a line that is text
abbrev pub text_object : List ℕ → List Token
text_object line = unwrap_or (full_object line) (lone_member (codes "text") line)

-- a line that isn't UTF-8, by its octets in hexadecimal digits
abbrev pub octets_object : List ℕ → List Token
octets_object line = lone_member (codes "octets") (encode_lower line)

abbrev pub object_of : List ℕ → List Token
object_of line = cond (is_utf8 line) (text_object line) (octets_object line)

unfoldable pub json_line : List ℕ → List ℕ
json_line line = print (object_of line)

-- each line that has ended becomes the text of its object; `seen` is the front of the first one
abbrev pub json_from : List ℕ → List ℕ → List ℕ
json_from seen [] = []
json_from seen (c ∷ cs) =
    elim (c == line_feed) [ true ↦ json_line seen ++ line_feed ∷ json_from [] cs | false ↦ json_from (seen ++ c ∷ []) cs ]

-- a text of lines as JSON. What comes after the last line feed has no object yet.
abbrev pub json_text : List ℕ → List ℕ
json_text text = json_from [] text
