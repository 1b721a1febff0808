-- What comes of `test`: each case that doesn't come out as it should, how many, and the rules that no case reaches.
use Rattle.std.specs.Prelude.{◌≡◌, ◌≢◌, ◌⊎◌, ℕ, ◌+◌, Bool, ◌||◌, bytes_eq, nat_eq, List, [], ◌∷◌, ◌++◌, codes, decimal, unwrap_or, Option, Some, None, option_map, Ok, Err, if◌then◌else◌}
use Rattle.hex.specs.Hex.{decode_of}
use Rattle.hex.specs.declared.error.FromHexError.{FromHexError}
use Rattle.toml.specs.Data.{Items, no_items, item}
use Rattle.guard_model.specs.AbstractValue.{AbstractValue}
use Rattle.guard_policy.specs.Decisions.{IsReason}
use Rattle.guard_policy.specs.Documents.{IsNoDocument}
use Rattle.guard_policy.specs.Policies.{AbstractMessage, AbstractPolicy, AbstractRoute, declared_message}
use Rattle.guard_policy.specs.Verdicts.{AbstractVerdict}
use Rattle.guard_report.specs.Text.{verdict_octets}
use Rattle.guard_schema.specs.declared.fault.SchemaFault.{SchemaFault}
use Rattle.guard_schema.specs.declared.fault.SchemaFault.TheVariants.{OutOfMemory}
use Rattle.guard_files.specs.declared.fault.Fault.{Fault}
use Rattle.guard_files.specs.Answers.{AbstractAnswer}
use Rattle.guard_files.specs.Word.{first_word}
use Rattle.guard_files.specs.Devices.{Input, Device, IsUnread, IsUntouched}
use Rattle.guard_files.specs.Files.{Told, HasText, IsLater}
use Rattle.guard_files.specs.Reading.{AbstractLoaded, IsLoadedAt, IsNoPolicyAt, IsUnreadable, folder}
use Rattle.guard_files.specs.Writing.{Writes, Tells, TellsText, TellsNoMemory}
use Rattle.guard_authors.specs.declared.testing.CaseResult.{CaseResult}
use Rattle.guard_authors.specs.declared.testing.Trial.{Trial}
use Rattle.guard_authors.specs.Cases.{AbstractCase, case_in, case_text, members_in, IsCasesFault, SaysCases, TellsNoDocument}
use Rattle.guard_authors.specs.Encodes.{IsEncoding}
use Rattle.guard_authors.specs.NoValue.{no_value_text}
use Rattle.guard_authors.specs.Reached.{Reaches, cover_lines}
use Rattle.guard_authors.specs.ValueTexts.{names_for, IsNoValue}

-- What the words ask for: the cases of a file, or of the one beside the policy, under the policy at a path. The rules that
-- none reaches are listed to cover them, and where their file is no document is shown to explain it.
pub record AbstractTrial : Type 0 where
  pub policy : List ℕ
  pub cases : Option (List ℕ)
  pub cover : Bool
  pub explain : Bool

abbrev pub trial_view : Trial → AbstractTrial
trial_view t =
    record {
      policy = t.policy.now;
      cases = option_map (λ path. path.now) t.cases;
      cover = t.cover;
      explain = t.explain;
    }

-- ---- what comes of a case

abbrev pub case_route : AbstractCase → AbstractRoute
case_route c = record { from = c.from; to = c.to; message = c.message }

-- a text, and the numbers of the rules that the case reaches
pub record AbstractCaseResult : Type 0 where
  pub text : List ℕ
  pub reached : List ℕ

abbrev pub case_result_view : CaseResult → AbstractCaseResult
case_result_view c = record { text = c.text.items; reached = c.reached.items }

-- a text in place of a verdict
abbrev pub only : List ℕ → AbstractCaseResult
only text = record { text = text; reached = [] }

-- the text of the verdict on the octets, and the rules that they reach by it
abbrev pub ResultOfOctets : AbstractPolicy → AbstractRoute → List ℕ → AbstractCaseResult → Type 0
ResultOfOctets p route octets came =
    (w : AbstractVerdict) × IsReason p route octets w × (came.text ≡ verdict_octets p route w)
    × Reaches p route octets w came.reached

-- blanks and the ends of lines
abbrev pub is_blank : ℕ → Bool
is_blank o = nat_eq o 32 || nat_eq o 9 || nat_eq o 10 || nat_eq o 13

abbrev pub digits_in : List ℕ → List ℕ
digits_in [] = []
digits_in (o ∷ text) = if is_blank o then digits_in text else o ∷ digits_in text

-- on the octets that the digits write, between which blanks may stand; or they write none
abbrev pub ResultOfDigits : AbstractPolicy → AbstractRoute → List ℕ → AbstractCaseResult → Type 0
ResultOfDigits p route text came =
    ((octets : List ℕ) × (decode_of (digits_in text) ≡ Ok octets) × ResultOfOctets p route octets came)
    ⊎ ((e : FromHexError) × (decode_of (digits_in text) ≡ Err e) × (came ≡ only (codes "bad hex")))

-- on the encoding of the value of this message that the text writes; or the fault for which it writes none
abbrev pub ResultOfValue : AbstractLoaded → AbstractRoute → AbstractMessage → List ℕ → AbstractCaseResult → Type 0
ResultOfValue l route d text came =
    ((v : AbstractValue) × (octets : List ℕ) × IsEncoding (names_for l d) d.ty text v octets
    × ResultOfOctets l.policy route octets came)
    ⊎ ((f : SchemaFault) × IsNoValue (names_for l d) d.ty text f × (f ≢ OutOfMemory) × (came ≡ only (no_value_text f)))

-- where the message is declared
abbrev pub ResultOfText : AbstractLoaded → AbstractRoute → Option AbstractMessage → List ℕ → AbstractCaseResult → Type 0
ResultOfText l route None text came = came ≡ only (codes "unknown-message")
ResultOfText l route (Some d) text came = ResultOfValue l route d text came

-- one of the two is given
abbrev pub ResultOf : AbstractLoaded → AbstractRoute → Option (List ℕ) → Option (List ℕ) → AbstractCaseResult → Type 0
ResultOf l route (Some digits) value came = ResultOfDigits l.policy route digits came
ResultOf l route None value came = ResultOfText l route (declared_message l.policy route.message) (unwrap_or value []) came

abbrev pub IsCaseResult : AbstractLoaded → AbstractCase → AbstractCaseResult → Type 0
IsCaseResult l c came = ResultOf l (case_route c) c.octets c.value came

-- ---- what is written

-- what came is what is wanted, or its first word is
abbrev pub is_wanted : List ℕ → List ℕ → Bool
is_wanted wanted came = bytes_eq wanted came || bytes_eq wanted (first_word came)

abbrev pub name_text : Option (List ℕ) → List ℕ
name_text None = []
name_text (Some name) = codes " (" ++ name ++ codes ")"

abbrev pub differing_line : ℕ → AbstractCase → List ℕ → List ℕ
differing_line number c came =
    case_text number ++ name_text c.name ++ codes ": wanted " ++ c.verdict ++ codes ", came " ++ came ++ codes "\n"

abbrev pub case_line : ℕ → AbstractCase → List ℕ → List ℕ
case_line number c came = if is_wanted c.verdict came then [] else differing_line number c came

abbrev pub failures : AbstractCase → List ℕ → ℕ
failures c came = if is_wanted c.verdict came then 0 else 1

-- the lines of these cases, from this number on, how many fail, and the rules that they reach
abbrev pub AreTried : AbstractLoaded → ℕ → Items → List ℕ → ℕ → List ℕ → Type 0
AreTried l number no_items lines failed reached = (lines ≡ []) × (failed ≡ 0) × (reached ≡ [])
AreTried l number (item d ds) lines failed reached =
    (came : AbstractCaseResult) × (rest : List ℕ) × (others : ℕ) × (more : List ℕ) × IsCaseResult l (case_in (members_in d)) came
    × AreTried l (number + 1) ds rest others more
    × (lines ≡ case_line number (case_in (members_in d)) came.text ++ rest)
    × (failed ≡ failures (case_in (members_in d)) came.text + others)
    × (reached ≡ came.reached ++ more)

abbrev pub count : Items → ℕ
count no_items = 0
count (item d ds) = 1 + count ds

abbrev pub last_text : ℕ → ℕ → List ℕ
last_text all failed =
    if nat_eq failed 0 then codes "ok: cases " ++ decimal all ++ codes "\n"
    else codes "failed: " ++ (decimal failed ++ (codes " of " ++ (decimal all ++ codes "\n")))

abbrev pub tested_status : ℕ → ℕ
tested_status failed = if nat_eq failed 0 then 0 else 1

-- and to cover the cases the rules that none of them reaches
abbrev pub IsTested : AbstractLoaded → Bool → Items → AbstractAnswer → Type 0
IsTested l cover ds a =
    (lines : List ℕ) × (failed : ℕ) × (reached : List ℕ) × AreTried l 1 ds lines failed reached
    × (a.out ≡ lines ++ last_text (count ds) failed ++ cover_lines cover l.policy reached)
    × (a.status ≡ tested_status failed)

-- ---- the whole

-- the path of the file of cases: `tests.toml` beside the policy where none is given
abbrev pub cases_path : List ℕ → Option (List ℕ) → List ℕ
cases_path policy None = folder policy ++ codes "tests.toml"
cases_path policy (Some path) = path

-- The cases of the text are tried; or it is no document, or says none, which is reported. It was at the path.
abbrev pub TestsText : AbstractLoaded → AbstractTrial → List ℕ → List ℕ → Device → Device → ℕ → Type 0
TestsText l asked path text out err status =
    ((ds : Items) × (a : AbstractAnswer) × SaysCases text ds × IsTested l asked.cover ds a
    × Writes a.out a.status out err status)
    ⊎ (IsNoDocument text × IsUntouched out × TellsNoDocument asked.explain path text err status)
    ⊎ ((fault : List ℕ) × IsCasesFault text fault × IsUntouched out × TellsText fault 2 err status)
    ⊎ (IsUntouched out × TellsNoMemory err status)

-- of the file at the path; or it can't be read
abbrev pub TestsFile : AbstractLoaded → AbstractTrial → Told → List ℕ → Device → Device → ℕ → Type 0
TestsFile l asked told path out err status =
    ((text : List ℕ) × HasText told path text × TestsText l asked path text out err status)
    ⊎ ((f : Fault) × IsUnreadable told path f × IsUntouched out × Tells f err status)
    ⊎ (IsUntouched out × TellsNoMemory err status)

-- under the policy at its path, which is read first with its modules; or why there is none
abbrev pub TestsPolicy : Told → AbstractTrial → Device → Device → ℕ → Type 0
TestsPolicy told asked out err status =
    ((l : AbstractLoaded) × (later : Told) × IsLoadedAt told asked.policy l × IsLater told later
    × TestsFile l asked later (cases_path asked.policy asked.cases) out err status)
    ⊎ ((f : Fault) × IsNoPolicyAt told asked.policy f × IsUntouched out × Tells f err status)

-- and nothing comes in
abbrev pub Tests : Told → AbstractTrial → Input → Device → Device → ℕ → Type 0
Tests told asked input out err status = IsUnread input × TestsPolicy told asked out err status
