-- The members of a line's object, by the form of the line, as tokens. A line that doesn't have its form to the end has
-- none of them.
use Rattle.std.specs.Prelude.{ℕ, Bool, true, false, ◌||◌, ◌==◌, cond, bytes_eq, codes, List, [], ◌∷◌, ◌++◌, length, map, nat_eq, Option, Some, None}
use Rattle.std.specs.List.{starts_with}
use Rattle.std.specs.Str.{is_utf8}
use Rattle.json.specs.Token.{Token, begin_object, end_object, begin_array, end_array, key, string, number}
use Rattle.guard_policy.specs.Names.{is_name}
use Rattle.guard_json.specs.declared.kinds.LineKind.{LineKind}
use Rattle.guard_json.specs.declared.kinds.LineKind.TheVariants.{Linked, Said, Numbered, Bare}
use Rattle.guard_json.specs.declared.kinds.VerdictKind.{VerdictKind}
use Rattle.guard_json.specs.declared.kinds.VerdictKind.TheVariants.{Alone, Undecodable, OutsideType, DeniedBy, NotAllowed, Unknown}
use Rattle.guard_json.specs.Cutting.{place_of, up_to, from, behind, last_two, but_last_two, blank, is_number, is_path, is_code}
use Rattle.guard_json.specs.Kinds.{line_kind, verdict_kind, is_undecided}

-- some tokens, or nothing where the line hasn't its form
abbrev pub Part : Type 0
Part = Option (List Token)

-- both parts, one after the other
abbrev pub both : Part → Part → Part
both None b = None
both (Some a) None = None
both (Some a) (Some b) = Some (a ++ b)

abbrev pub all_of : List Part → Part
all_of [] = Some []
all_of (part ∷ parts) = both part (all_of parts)

abbrev pub mark : Token → Part
mark t = Some (t ∷ [])

-- no token, but only where this holds
abbrev pub only_where : Bool → Part
only_where true = Some []
only_where false = None

abbrev pub member : List ℕ → Option Token → Part
member name None = None
member name (Some value) = Some (key name ∷ value ∷ [])

-- ---- values

abbrev pub number_in : List ℕ → Option Token
number_in word = cond (is_number word) (Some (number word)) None

abbrev pub name_in : List ℕ → Option Token
name_in word = cond (is_name word) (Some (string word)) None

abbrev pub path_in : List ℕ → Option Token
path_in word = cond (is_path word) (Some (string word)) None

abbrev pub text_in : List ℕ → Option Token
text_in text = cond (is_utf8 text) (Some (string text)) None

-- ---- verdicts

-- `CODE at OFFSET PATH`
abbrev pub breach_in : List ℕ → Part
breach_in text =
    let rest = behind blank (behind blank text) in
    all_of
    (member (codes "code") (name_in (up_to blank text))
    ∷ only_where (bytes_eq (up_to blank (behind blank text)) (codes "at"))
    ∷ member (codes "offset") (number_in (up_to blank rest))
    ∷ member (codes "path") (path_in (behind blank rest))
    ∷ [])

-- `MODULE:LINE:COLUMN PATH`
abbrev pub violation_in : List ℕ → Part
violation_in text =
    let line = behind 58 text in
    let column = behind 58 line in
    all_of
    (member (codes "module") (name_in (up_to 58 text))
    ∷ member (codes "line") (number_in (up_to 58 line))
    ∷ member (codes "column") (number_in (up_to blank column))
    ∷ member (codes "path") (path_in (behind blank column))
    ∷ [])

-- ` RULE MODULE:LINE:COLUMN PATH`
abbrev pub shortfall_in : List ℕ → Part
shortfall_in text =
    let rule = behind blank text in
    all_of
    (only_where (place_of blank text == 0)
    ∷ mark begin_object
    ∷ member (codes "rule") (name_in (up_to blank rule))
    ∷ violation_in (behind blank rule)
    ∷ mark end_object
    ∷ [])

-- what stands between commas; `seen` is the front of the first piece
abbrev pub pieces_from : List ℕ → List ℕ → List (List ℕ)
pieces_from seen [] = seen ∷ []
pieces_from seen (c ∷ cs) = elim (c == 44) [ true ↦ seen ∷ pieces_from [] cs | false ↦ pieces_from (seen ++ c ∷ []) cs ]

abbrev pub shortfalls_in : List ℕ → Part
shortfalls_in text =
    all_of
    (mark (key (codes "violations"))
    ∷ mark begin_array
    ∷ all_of (map shortfall_in (pieces_from [] text))
    ∷ mark end_array
    ∷ [])

abbrev pub details_by : VerdictKind → List ℕ → Part
details_by Alone text = Some []
details_by Undecodable text = breach_in (behind blank text)
details_by OutsideType text = violation_in (behind blank text)
details_by DeniedBy text = member (codes "rule") (name_in (behind blank text))
details_by NotAllowed text = shortfalls_in (from blank text)
details_by Unknown text = None

abbrev pub verdict_in : List ℕ → Part
verdict_in text = all_of
    (member (codes "verdict") (name_in (up_to blank text))
    ∷ details_by (verdict_kind text) text
    ∷ [])

-- `OLD -> NEW`: two verdicts
abbrev pub pair_in : List ℕ → Part
pair_in text =
    let old = up_to 62 text in
    let new = behind 62 text in
    all_of
    (only_where (bytes_eq (last_two old) (codes " -"))
    ∷ only_where (place_of blank new == 0)
    ∷ mark (key (codes "old"))
    ∷ mark begin_object
    ∷ verdict_in (but_last_two old)
    ∷ mark end_object
    ∷ mark (key (codes "new"))
    ∷ mark begin_object
    ∷ verdict_in (behind blank new)
    ∷ mark end_object
    ∷ [])

-- one verdict, or where there is a `>` two
abbrev pub verdicts_in : List ℕ → Part
verdicts_in text = cond (place_of 62 text == length text) (verdict_in text) (pair_in text)

-- ---- lines

-- `FROM>TO MESSAGE` and what is said of it
abbrev pub route_in : List ℕ → Part
route_in text =
    let to = behind 62 text in
    let message = behind blank to in
    all_of
    (member (codes "from") (name_in (up_to 62 text))
    ∷ member (codes "to") (name_in (up_to blank to))
    ∷ member (codes "message") (name_in (up_to blank message))
    ∷ verdicts_in (behind blank message)
    ∷ [])

abbrev pub outcome_in : List ℕ → Part
outcome_in text = cond (is_undecided text) (member (codes "verdict") (name_in text)) (route_in text)

-- the line of a frame, which begins with its number
abbrev pub frame_in : List ℕ → Part
frame_in text = all_of
    (member (codes "frame") (number_in (up_to blank text))
    ∷ outcome_in (behind blank text)
    ∷ [])

-- `F4 TornFrame`
abbrev pub link_fault_in : List ℕ → Part
link_fault_in text = all_of
    (only_where (is_code (up_to blank text))
    ∷ only_where (is_name (behind blank text))
    ∷ member (codes "fault") (text_in text)
    ∷ [])

-- what comes after `link `: its number, and the line of a frame or a fault
abbrev pub link_in : List ℕ → Part
link_in text =
    let rest = behind blank text in
    all_of
    (member (codes "link") (number_in (up_to blank text))
    ∷ cond (is_number (up_to blank rest)) (frame_in rest) (link_fault_in rest)
    ∷ [])

-- a fault has its code in front, or is one of the three that have none; all else is a note
abbrev pub is_fault : List ℕ → Bool
is_fault text =
    is_code (up_to blank text) || bytes_eq text (codes "no-memory") || bytes_eq text (codes "bad record")
    || starts_with nat_eq text (codes "cannot read ")

-- what comes after `derguard: `
abbrev pub said_in : List ℕ → Part
said_in text = cond (is_fault text) (member (codes "fault") (text_in text)) (member (codes "note") (text_in text))

abbrev pub members_by : LineKind → List ℕ → Part
members_by Linked line = link_in (behind blank line)
members_by Said line = said_in (behind blank line)
members_by Numbered line = frame_in line
members_by Bare line = verdict_in line

abbrev pub members_in : List ℕ → Part
members_in line = members_by (line_kind line) line
