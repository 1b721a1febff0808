-- What becomes of a line that has ended.
use Rattle.std.specs.Prelude.{◌≡◌, ℕ, ◌+◌, true, List, [], ◌∷◌, ◌++◌, length, Option}
use Rattle.std.specs.Io.KnownBytes.{Appends}
use Rattle.json.specs.Lex.{tokens}
use Rattle.guard_json.specs.Cutting.{line_feed}
use Rattle.guard_json.specs.Objects.{json_line}
use Rattle.guard_json.specs.Taken.{is_one_line, told_by}

-- a line as a line of JSON
abbrev pub whole_object : List ℕ → List ℕ
whole_object line = json_line line ++ line_feed ∷ []

-- the object and a line feed came to the sink, and the octets were counted
pub record PutsObject (old new : Option (List ℕ)) (line : List ℕ) (written after : ℕ) : Type 0 where
  pub taken : Appends old new (whole_object line)
  pub counted : after ≡ written + length (whole_object line)
  pub tells : told_by (tokens (json_line line)) ≡ line
  pub one : is_one_line (json_line line) ≡ true

-- a part of a line at most came to the sink, and its octets were counted
pub record PutsTorn (old new : Option (List ℕ)) (written after : ℕ) : Type 0 where
  pub part : List ℕ
  pub taken : Appends old new part
  pub counted : after ≡ written + length part
  pub one : is_one_line part ≡ true
