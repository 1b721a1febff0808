-- Which words of the command line are which request, in the terms of `clap`: its definitions say what is found in words
-- of a command, and what is wrong with them.
use Rattle.std.specs.Prelude.{◌≡◌, Bool, ◌||◌, true, false, List, [], ◌∷◌, ◌++◌, Some, None, codes, bytes_eq, unwrap_or, if◌then◌else◌}
use Rattle.std.specs.Option.{option_map_or}
use Rattle.clap.specs.Words.{App, Rule, Row, Shape, Text, first_of, fault_of, new_rule, subcommand_of}
use Rattle.clap.specs.Simple.{new_shape}
use Rattle.clap.specs.declared.builder.action.ArgAction.TheVariants.{Set, SetTrue}
use Rattle.guard_messages.specs.Questions.{AbstractQuestion}
use Rattle.guard_authors.specs.Checked.{AbstractChecking}
use Rattle.guard_authors.specs.Comparing.{AbstractComparing}
use Rattle.guard_authors.specs.Encodes.{AbstractEncoding}
use Rattle.guard_authors.specs.Testing.{AbstractTrial}
use Rattle.derguard_program.specs.Requests.{AbstractRequest, first, check, decide, show, encode, test, compare, run, ask, mux}

-- the program's version
abbrev pub version : Text
version = codes "0.1.0"

-- ---- the commands

-- an argument that must be given, with a value
abbrev pub required_rule : Text → Rule
required_rule id = record (new_rule id) { action = Some Set; required = true }

-- its value is a word by itself; help has one name for it
abbrev pub place_rule : Text → Rule
place_rule id = record (required_rule id) { value_names = 1 }

-- its value is the word after `--name`, or in one word with it, `--name=value`
abbrev pub option_rule : Text → Rule
option_rule name = record (required_rule name) { long = Some name }

-- words that may be left out: at a place, or the value of an option
abbrev pub free_rule : Text → Rule
free_rule id = record (new_rule id) { action = Some Set }

abbrev pub free_place_rule : Text → Rule
free_place_rule id = record (free_rule id) { value_names = 1 }

abbrev pub free_option_rule : Text → Rule
free_option_rule name = record (free_rule name) { long = Some name }

-- `--name` alone, which may be left out
abbrev pub flag_rule : Text → Rule
flag_rule name = record (new_rule name) { long = Some name; action = Some SetTrue }

abbrev pub command_shape : Text → List Rule → Shape
command_shape name arguments = record (new_shape name) { rules = arguments }

-- check POLICY [--explain] [--strict] [--digest] [--json]
abbrev pub check_shape : Shape
check_shape = command_shape (codes "check")
    (place_rule (codes "policy") ∷ flag_rule (codes "explain") ∷ flag_rule (codes "strict")
    ∷ flag_rule (codes "digest") ∷ flag_rule (codes "json") ∷ [])

-- decide POLICY [--from FROM] [--to TO] [--message MESSAGE] [HEX] [--der FILE] [--frame NUMBER] [--link NUMBER] [--explain]
-- [--json]
abbrev pub decide_shape : Shape
decide_shape = command_shape (codes "decide")
    (place_rule (codes "policy") ∷ free_option_rule (codes "from") ∷ free_option_rule (codes "to")
    ∷ free_option_rule (codes "message") ∷ free_place_rule (codes "hex") ∷ free_option_rule (codes "der")
    ∷ free_option_rule (codes "frame") ∷ free_option_rule (codes "link") ∷ flag_rule (codes "explain")
    ∷ flag_rule (codes "json") ∷ [])

-- show POLICY [--message MESSAGE] [HEX] [--der FILE] [--frame NUMBER] [--link NUMBER] [--capture]
-- [--explain] [--json]
abbrev pub show_shape : Shape
show_shape = command_shape (codes "show")
    (place_rule (codes "policy") ∷ free_option_rule (codes "message") ∷ free_place_rule (codes "hex")
    ∷ free_option_rule (codes "der") ∷ free_option_rule (codes "frame") ∷ free_option_rule (codes "link")
    ∷ flag_rule (codes "capture") ∷ flag_rule (codes "explain") ∷ flag_rule (codes "json") ∷ [])

-- encode POLICY --message MESSAGE [VALUE] [--from FROM] [--to TO] [--der]
abbrev pub encode_shape : Shape
encode_shape = command_shape (codes "encode")
    (place_rule (codes "policy") ∷ option_rule (codes "message") ∷ free_place_rule (codes "value")
    ∷ free_option_rule (codes "from") ∷ free_option_rule (codes "to") ∷ flag_rule (codes "der") ∷ [])

-- test POLICY [CASES] [--cover] [--explain] [--json]
abbrev pub test_shape : Shape
test_shape = command_shape (codes "test")
    (place_rule (codes "policy") ∷ free_place_rule (codes "cases") ∷ flag_rule (codes "cover")
    ∷ flag_rule (codes "explain") ∷ flag_rule (codes "json") ∷ [])

-- compare OLD NEW [--by-place] [--summary] [--link NUMBER] [--json]
abbrev pub compare_shape : Shape
compare_shape = command_shape (codes "compare")
    (place_rule (codes "old") ∷ place_rule (codes "new") ∷ flag_rule (codes "by-place")
    ∷ flag_rule (codes "summary") ∷ free_option_rule (codes "link") ∷ flag_rule (codes "json") ∷ [])

-- run POLICY [--verbose] [--counts FILE] [--json]
abbrev pub run_shape : Shape
run_shape = command_shape (codes "run")
    (place_rule (codes "policy") ∷ flag_rule (codes "verbose") ∷ free_option_rule (codes "counts")
    ∷ flag_rule (codes "json") ∷ [])

-- ask POLICY [--json]
abbrev pub ask_shape : Shape
ask_shape = command_shape (codes "ask") (place_rule (codes "policy") ∷ flag_rule (codes "json") ∷ [])

-- mux POLICY [--verbose] [--counts FILE] [--json]
abbrev pub mux_shape : Shape
mux_shape = command_shape (codes "mux")
    (place_rule (codes "policy") ∷ flag_rule (codes "verbose") ∷ free_option_rule (codes "counts")
    ∷ flag_rule (codes "json") ∷ [])

-- one of these commands, after the program's name; or `--version`
abbrev pub the_app : App
the_app = record {
  top = record (new_shape (codes "derguard")) { is_leaf = false; subcommand_required = true; has_version = true };
  subs = check_shape ∷ decide_shape ∷ show_shape ∷ encode_shape ∷ test_shape ∷ compare_shape
      ∷ run_shape ∷ ask_shape ∷ mux_shape ∷ [];
}

-- ---- the requests

-- the flag was given: its value is `true`, and else `false`
abbrev pub flag_of : Text → List Row → Bool
flag_of id rows = option_map_or (λ value. bytes_eq value (codes "true")) (first_of id rows) false

-- the value of what must be given, and an empty one where it isn't
abbrev pub value_of : Text → List Row → Text
value_of id rows = unwrap_or (first_of id rows) []

-- what each command asks for by its values
abbrev pub checking_at : List Row → AbstractChecking
checking_at rows = record {
  policy = value_of (codes "policy") rows;
  explain = flag_of (codes "explain") rows;
  strict = flag_of (codes "strict") rows;
  digest = flag_of (codes "digest") rows;
}

abbrev pub decision_at : List Row → AbstractQuestion
decision_at rows = record {
  policy = value_of (codes "policy") rows;
  from = first_of (codes "from") rows;
  to = first_of (codes "to") rows;
  message = first_of (codes "message") rows;
  hex = first_of (codes "hex") rows;
  der = first_of (codes "der") rows;
  frame = first_of (codes "frame") rows;
  link = first_of (codes "link") rows;
  explain = flag_of (codes "explain") rows;
  capture = false;
  json = false;
}

-- as to decide; with no names of sender and receiver, and by two more flags
abbrev pub showing_at : List Row → AbstractQuestion
showing_at rows = record (decision_at rows) {
  from = None;
  to = None;
  capture = flag_of (codes "capture") rows;
  json = flag_of (codes "json") rows;
}

abbrev pub encoding_at : List Row → AbstractEncoding
encoding_at rows = record {
  policy = value_of (codes "policy") rows;
  message = value_of (codes "message") rows;
  value = first_of (codes "value") rows;
  from = first_of (codes "from") rows;
  to = first_of (codes "to") rows;
  der = flag_of (codes "der") rows;
}

abbrev pub trial_at : List Row → AbstractTrial
trial_at rows = record {
  policy = value_of (codes "policy") rows;
  cases = first_of (codes "cases") rows;
  cover = flag_of (codes "cover") rows;
  explain = flag_of (codes "explain") rows;
}

abbrev pub comparing_at : List Row → AbstractComparing
comparing_at rows = record {
  old = value_of (codes "old") rows;
  new = value_of (codes "new") rows;
  by_place = flag_of (codes "by-place") rows;
  summary = flag_of (codes "summary") rows;
  link = first_of (codes "link") rows;
}

-- what a command with these values asks for: what must be given is
abbrev pub IsCommand : Text → List Row → AbstractRequest → Type 0
IsCommand name rows first = ⊥
IsCommand name rows (check asked) =
    (name ≡ codes "check") × (first_of (codes "policy") rows ≡ Some asked.policy) × (asked ≡ checking_at rows)
IsCommand name rows (decide q) =
    (name ≡ codes "decide") × (first_of (codes "policy") rows ≡ Some q.policy) × (q ≡ decision_at rows)
IsCommand name rows (show q) =
    (name ≡ codes "show") × (first_of (codes "policy") rows ≡ Some q.policy) × (q ≡ showing_at rows)
IsCommand name rows (encode asked) =
    (name ≡ codes "encode") × (first_of (codes "policy") rows ≡ Some asked.policy)
    × (first_of (codes "message") rows ≡ Some asked.message) × (asked ≡ encoding_at rows)
IsCommand name rows (test asked) =
    (name ≡ codes "test") × (first_of (codes "policy") rows ≡ Some asked.policy) × (asked ≡ trial_at rows)
IsCommand name rows (compare asked) =
    (name ≡ codes "compare") × (first_of (codes "old") rows ≡ Some asked.old)
    × (first_of (codes "new") rows ≡ Some asked.new) × (asked ≡ comparing_at rows)
IsCommand name rows (run path verbose counts) =
    (name ≡ codes "run") × (first_of (codes "policy") rows ≡ Some path) × (verbose ≡ flag_of (codes "verbose") rows)
    × (counts ≡ first_of (codes "counts") rows)
IsCommand name rows (ask path) = (name ≡ codes "ask") × (first_of (codes "policy") rows ≡ Some path)
IsCommand name rows (mux path verbose counts) =
    (name ≡ codes "mux") × (first_of (codes "policy") rows ≡ Some path) × (verbose ≡ flag_of (codes "verbose") rows)
    × (counts ≡ first_of (codes "counts") rows)

-- ---- the words

-- an option of a message, of which the next word is the value
abbrev pub takes_next : Text → Bool
takes_next word =
    bytes_eq word (codes "--from") || bytes_eq word (codes "--to") || bytes_eq word (codes "--message")
    || bytes_eq word (codes "--frame") || bytes_eq word (codes "--link")

-- The words as `clap` reads them: an option of a message and the word after it are one, as `--from=a`, so that the
-- value may be any word. After `--` all words stay as they are.
abbrev pub joined : List Text → List Text
joined [] = []
joined (word ∷ []) = word ∷ []
joined (word ∷ next ∷ words) =
    if bytes_eq word (codes "--") then word ∷ next ∷ words
    else if takes_next word then (word ++ codes "=" ++ next) ∷ joined words
    else word ∷ joined (next ∷ words)

-- Nothing is wrong with words that `clap` reads, and the command that is found in them asks for this, and, where the
-- flag `--json` is true, for lines that are JSON.
abbrev pub AreFound : List Text → AbstractRequest → Bool → Type 0
AreFound words request json =
    (fault_of the_app words ≡ [])
    × ((name : Text) × (rows : List Row) × (subcommand_of the_app words ≡ Some (name, rows))
    × IsCommand name rows request × (json ≡ flag_of (codes "json") rows))

-- what the words ask for
abbrev pub Asks : List Text → AbstractRequest → Bool → Type 0
Asks words = AreFound (joined words)
