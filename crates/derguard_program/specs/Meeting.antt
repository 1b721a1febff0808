-- What it is to meet a request, by what is read, what goes out, and the status. Of the commands this is the page to read
-- first.
use Rattle.std.specs.Prelude.{◌≡◌, ◌⊎◌, ℕ, Bool, ◌&&◌, ◌||◌, true, false, List, ◌++◌, codes}
use Rattle.clap.specs.declared.error.kind.ErrorKind.{ErrorKind}
use Rattle.clap.specs.declared.error.kind.ErrorKind.TheVariants as code
use Rattle.clap.specs.declared.error.kind.ErrorKind.TheVariants.{InvalidValue, UnknownArgument, InvalidSubcommand, NoEquals, ValueValidation, TooManyValues, TooFewValues, WrongNumberOfValues, ArgumentConflict, MissingRequiredArgument, MissingSubcommand, DisplayHelp, DisplayHelpOnMissingArgumentOrSubcommand, DisplayVersion, Io, Format}
use Rattle.clap.specs.Words.{IsAmong, Kinds, Text, fault_of}
use Rattle.guard_files.specs.declared.fault.Fault.{Fault}
use Rattle.guard_files.specs.Files.{Told}
use Rattle.guard_files.specs.Answers.{AbstractAnswer, Gives}
use Rattle.guard_files.specs.Devices.{Input, Device, IsUnread, IsUntouched}
use Rattle.guard_files.specs.Writing.{Writes, TellsLine, TellsText, TellsNoMemory}
use Rattle.guard_streams.specs.Asking.{AsksStream}
use Rattle.guard_streams.specs.Muxing.{GuardsLinks}
use Rattle.guard_streams.specs.Shown.{Display}
use Rattle.guard_streams.specs.Stream.{GuardsStream}
use Rattle.guard_messages.specs.FirstRun.{IsFirst, IsNoFirst}
use Rattle.guard_messages.specs.Deciding.{Decides, ShowsAsked}
use Rattle.guard_messages.specs.Questions.{AbstractQuestion}
use Rattle.guard_authors.specs.Checked.{Checks}
use Rattle.guard_authors.specs.Comparing.{Compares}
use Rattle.guard_authors.specs.Encodes.{Encodes}
use Rattle.guard_authors.specs.Testing.{Tests}
use Rattle.derguard_program.specs.Requests.{AbstractRequest, first, check, decide, show, encode, test, compare, run, ask, mux}
use Rattle.derguard_program.specs.Words.{Asks, joined, the_app, version}
use Rattle.derguard_program.specs.AsJson.{ComesAsJson}

-- Such an answer is written, or such a fault is reported, with what explains it; nothing is read.
abbrev pub Answers : (AbstractAnswer → Type 0) → (Fault → List ℕ → Type 0) → Input → Device → Device → ℕ → Type 0
Answers IsAnswer IsFault input out err status = IsUnread input × Gives IsAnswer IsFault out err status

-- what is reported where `--json` of `show` doesn't stand alone
abbrev pub json_not_alone : List ℕ
json_not_alone =
    codes "error: the argument '--json' cannot be used with '--explain' or '--capture'\n\nFor more information, try '--help'."

abbrev pub asks_more_than_json : AbstractQuestion → Bool
asks_more_than_json q = q.json && (q.explain || q.capture)

-- by whether a value that is to be shown as JSON is to be explained, or its frame written, too
abbrev pub ShowsOne : Bool → Told → AbstractQuestion → Input → Device → Device → ℕ → Type 0
ShowsOne false told q input out err status = ShowsAsked told q input out err status
ShowsOne true told q input out err status =
    IsUnread input × IsUntouched out × TellsText json_not_alone 2 err status

-- what is shown, read, written and reported, and the status, by the request
abbrev pub Meets : Told → Display → AbstractRequest → Input → Device → Device → ℕ → Type 0
Meets told shows first = Answers IsFirst IsNoFirst
Meets told shows (check asked) = Checks told asked
Meets told shows (decide q) = Decides told q
Meets told shows (show q) = ShowsOne (asks_more_than_json q) told q
Meets told shows (encode asked) = Encodes told asked
Meets told shows (test asked) = Tests told asked
Meets told shows (compare asked) = Compares told asked
Meets told shows (run path verbose place) = GuardsStream verbose place told path shows
Meets told shows (ask path) = AsksStream told path
Meets told shows (mux path verbose place) = GuardsLinks verbose place told path shows

-- ---- lines as JSON

-- standard output of the request is lines, and not frames, records or a value
abbrev pub answers_lines : AbstractRequest → Bool
answers_lines first = true
answers_lines (check asked) = true
answers_lines (decide q) = true
answers_lines (show q) = false
answers_lines (encode asked) = false
answers_lines (test asked) = true
answers_lines (compare asked) = true
answers_lines (run path verbose counts) = false
answers_lines (ask path) = true
answers_lines (mux path verbose counts) = false

-- a device takes what comes as it is, or each line as JSON
abbrev pub ComesBy : Bool → Device → Device → Type 0
ComesBy false plain real = real ≡ plain
ComesBy true plain real = ComesAsJson plain real

-- The request is met: as it is; or, where lines are to be JSON, by plain texts of which each line comes to standard error
-- as JSON, and so to standard output, where that has lines.
abbrev pub MeetsBy : Bool → Told → Display → AbstractRequest → Input → Device → Device → ℕ → Type 0
MeetsBy false told shows request input out err status = Meets told shows request input out err status
MeetsBy true told shows request input out err status =
    (plain_out : Device) × (plain_err : Device) × Meets told shows request input plain_out plain_err status
    × ComesBy (answers_lines request) plain_out out × ComesAsJson plain_err err

-- What the reader of words says is help or the version, and no fault of the words.
abbrev pub is_help : ErrorKind → Bool
is_help DisplayHelp = true
is_help DisplayVersion = true
is_help InvalidValue = false
is_help UnknownArgument = false
is_help InvalidSubcommand = false
is_help NoEquals = false
is_help ValueValidation = false
is_help TooManyValues = false
is_help TooFewValues = false
is_help WrongNumberOfValues = false
is_help ArgumentConflict = false
is_help MissingRequiredArgument = false
is_help MissingSubcommand = false
is_help DisplayHelpOnMissingArgumentOrSubcommand = false
is_help Io = false
is_help Format = false
is_help code.OutOfMemory = false

-- what is printed for `--version`
abbrev pub version_line : List ℕ
version_line = codes "derguard " ++ version ++ codes "\n"

-- Help and the version go to standard output, with status 0, and what is wrong with the words is reported, with status
-- 2. The text of help and of what is wrong is that of the reader of words, which tests show.
abbrev pub ShowsKind : ErrorKind → Device → Device → ℕ → Type 0
ShowsKind said out err status =
    ((is_help said ≡ true)
    × ((text : List ℕ) × (said ≡ DisplayVersion → text ≡ version_line) × Writes text 0 out err status))
    ⊎ ((is_help said ≡ false) × IsUntouched out × ((text : List ℕ) × TellsLine text 2 err status))

-- One of these kinds is shown; or memory ran out, and that is reported.
abbrev pub Shows : Kinds → Device → Device → ℕ → Type 0
Shows kinds out err status =
    ((said : ErrorKind) × IsAmong said kinds × ShowsKind said out err status)
    ⊎ (IsUntouched out × TellsNoMemory err status)

-- What comes of words after the program's name: the request that they ask for is met, where they ask for that by lines
-- that are JSON; or nothing is read, and help, or what is wrong with them, is shown.
abbrev pub Programs : List Text → Told → Display → Input → Device → Device → ℕ → Type 0
Programs words told shows input out err status =
    ((request : AbstractRequest) × (json : Bool) × Asks words request json
    × MeetsBy json told shows request input out err status)
    ⊎ (IsUnread input × Shows (fault_of the_app (joined words)) out err status)
