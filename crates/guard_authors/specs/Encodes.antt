-- What comes of `encode`: the DER encoding of a value of a message's declared type, which a text writes.
use Rattle.std.specs.Prelude.{◌≡◌, ◌⊎◌, ℕ, Bool, List, [], ◌++◌, codes, Option, Some, None, if◌then◌else◌}
use Rattle.std.specs.Option.{option_map}
use Rattle.hex.specs.Hex.{encode_upper}
use Rattle.guard_model.specs.AbstractType.{AbstractType}
use Rattle.guard_model.specs.AbstractValue.{AbstractValue}
use Rattle.guard_der.specs.Der.{der}
use Rattle.guard_eval.specs.Violations.{AbstractViolation, violation}
use Rattle.guard_policy.specs.Policies.{AbstractMessage, AbstractPolicy, AbstractRoute, declared_message}
use Rattle.guard_policy.specs.Verdicts.{outside_type}
use Rattle.guard_report.specs.Text.{verdict_octets}
use Rattle.guard_schema.specs.declared.fault.SchemaFault.{SchemaFault}
use Rattle.guard_values.specs.Meanings.{Meaning}
use Rattle.reads_back.specs.ReadingBack.{IsReadAs}
use Rattle.guard_files.specs.declared.fault.Fault.{Fault}
use Rattle.guard_files.specs.Devices.{Input, Device, IsUnread, IsUntouched}
use Rattle.guard_files.specs.Files.{Told}
use Rattle.guard_files.specs.Intake.{IsRead, IsNotRead}
use Rattle.guard_files.specs.Reading.{AbstractLoaded, IsLoadedAt, IsNoPolicyAt}
use Rattle.guard_files.specs.Remarked.{AbstractRemarked, WritesRemarked}
use Rattle.guard_files.specs.Writing.{TellsOctets, TellsText, Tells}
use Rattle.guard_authors.specs.declared.encoding.Encoding.{Encoding}
use Rattle.guard_authors.specs.Framing.{IsPayload, HasNoPayload}
use Rattle.guard_authors.specs.ValueTexts.{names_for, IsNoValue, TellsNoValue}

-- What the words ask for: a value that is a word, or else is read; a frame, where a sender or a receiver is given; and
-- octets in place of hexadecimal digits.
pub record AbstractEncoding : Type 0 where
  pub policy : List ℕ
  pub message : List ℕ
  pub value : Option (List ℕ)
  pub from : Option (List ℕ)
  pub to : Option (List ℕ)
  pub der : Bool

abbrev pub encoding_view : Encoding → AbstractEncoding
encoding_view e =
    record {
      policy = e.policy.now;
      message = e.message.now;
      value = option_map (λ text. text.now) e.value;
      from = option_map (λ name. name.now) e.from;
      to = option_map (λ name. name.now) e.to;
      der = e.der;
    }

-- ---- what is written

-- the octets themselves, or in hexadecimal digits with a line end
abbrev pub in_form : Bool → List ℕ → List ℕ
in_form der octets = if der then octets else encode_upper octets ++ codes "\n"

abbrev pub route_to : List ℕ → AbstractRoute
route_to message = record { from = []; to = []; message = message }

-- The line of a value that is none of the declared type, as a verdict says it. Of one that is there is none.
abbrev pub line_of_violation : AbstractPolicy → List ℕ → Option AbstractViolation → List ℕ
line_of_violation p message None = []
line_of_violation p message (Some w) = verdict_octets p (route_to message) (outside_type w) ++ codes "\n"

abbrev pub violation_status : Option AbstractViolation → ℕ
violation_status None = 0
violation_status (Some w) = 1

-- ---- of a text

-- where names mean this, the text writes this value of the type, and these octets are its encoding
pub record IsEncoding (m : Meaning) (t : AbstractType) (text : List ℕ) (v : AbstractValue) (octets : List ℕ)
    : Type 0 where
  pub value : IsReadAs m t text v
  pub encoded : der t v ≡ Some octets

-- of the value of the message that the text writes
pub record IsEncoded (l : AbstractLoaded) (d : AbstractMessage) (asked : AbstractEncoding) (text : List ℕ)
    (e : AbstractRemarked) : Type 0 where
  pub v : AbstractValue
  pub octets : List ℕ
  pub payload : List ℕ
  pub encoding : IsEncoding (names_for l d) d.ty text v octets
  pub held : IsPayload asked.from asked.to asked.message octets payload
  pub out : e.out ≡ in_form asked.der payload
  pub remarks : e.remarks ≡ line_of_violation l.policy asked.message (violation d.ty v)
  pub status : e.status ≡ violation_status (violation d.ty v)

-- no frame that is asked for holds it
pub record IsUnframed (l : AbstractLoaded) (d : AbstractMessage) (asked : AbstractEncoding) (text : List ℕ)
    : Type 0 where
  pub v : AbstractValue
  pub octets : List ℕ
  pub encoding : IsEncoding (names_for l d) d.ty text v octets
  pub none : HasNoPayload asked.from asked.to asked.message octets

-- What is written of it is written; or the text writes no value, which is reported with the place; or there is no frame.
abbrev pub EncodesText : AbstractLoaded → AbstractMessage → AbstractEncoding → List ℕ → Device → Device → ℕ → Type 0
EncodesText l d asked text out err status =
    ((e : AbstractRemarked) × IsEncoded l d asked text e × WritesRemarked e out err status)
    ⊎ ((f : SchemaFault) × IsNoValue (names_for l d) d.ty text f × IsUntouched out × TellsNoValue text f err status)
    ⊎ (IsUnframed l d asked text × IsUntouched out × TellsText (codes "bad frame") 2 err status)

-- The text is the word that was given, and nothing is read.
abbrev pub EncodesGiven : AbstractLoaded → AbstractMessage → AbstractEncoding → Option (List ℕ) → Input → Device → Device
    → ℕ → Type 0
EncodesGiven l d asked (Some text) input out err status =
    IsUnread input × EncodesText l d asked text out err status
-- It is read; or that failed, which is reported.
EncodesGiven l d asked None input out err status =
    ((text : List ℕ) × IsRead input text × EncodesText l d asked text out err status)
    ⊎ ((f : Fault) × IsNotRead input f × IsUntouched out × Tells f err status)

-- ---- under a policy

-- of the message of the name; where none is declared that is said, as a verdict says it
abbrev pub EncodesUnder : AbstractLoaded → AbstractEncoding → Input → Device → Device → ℕ → Type 0
EncodesUnder l asked input out err status =
    ((declared_message l.policy asked.message ≡ None) × IsUnread input × IsUntouched out
    × TellsOctets (codes "unknown-message\n") 1 err status)
    ⊎ ((d : AbstractMessage) × (declared_message l.policy asked.message ≡ Some d)
    × EncodesGiven l d asked asked.value input out err status)

-- the policy at the path, with its modules; or why there is none, and nothing is read or written
abbrev pub Encodes : Told → AbstractEncoding → Input → Device → Device → ℕ → Type 0
Encodes told asked input out err status =
    ((l : AbstractLoaded) × IsLoadedAt told asked.policy l × EncodesUnder l asked input out err status)
    ⊎ ((f : Fault) × IsNoPolicyAt told asked.policy f × IsUnread input × IsUntouched out × Tells f err status)
