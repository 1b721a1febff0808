-- What is answered to `show`: the value that the octets of a message encode, as ASN.1 writes it, or how far they are an
-- encoding; or that value as JSON.
use Rattle.std.specs.Prelude.{◌≡◌, ◌⊎◌, ℕ, Bool, true, false, List, [], ◌++◌, codes, IsTrue, Option, Some, None}
use Rattle.guard_model.specs.AbstractType.{AbstractType}
use Rattle.guard_model.specs.AbstractValue.{AbstractValue}
use Rattle.guard_der.specs.Breach.{AbstractBreach, IsBreach}
use Rattle.guard_der.specs.Der.{der}
use Rattle.guard_der.specs.Fits.{fits}
use Rattle.guard_policy.specs.Policies.{AbstractPolicy, AbstractRoute, declared_type}
use Rattle.guard_policy.specs.Verdicts.{AbstractVerdict, unknown_message, undecodable}
use Rattle.guard_report.specs.Text.{verdict_octets}
use Rattle.guard_frames.specs.Bodies.{AbstractBody}
use Rattle.guard_frames.specs.OfPolicy.{route_of}
use Rattle.guard_json.specs.Objects.{json_line}
use Rattle.guard_report.specs.Shown.{AbstractShown, shown_value, shown_undecodable, value_shown, breach_shown}
use Rattle.guard_files.specs.Allowed.{OfValue}
use Rattle.guard_files.specs.Answers.{AbstractAnswer}
use Rattle.guard_messages.specs.Decided.{OfHeld}
use Rattle.guard_messages.specs.PartsBefore.{AreLinesBefore}
use Rattle.guard_messages.specs.ValueJson.{ascii_text, value_json}

-- the octets are the encoding of a value of the type, and it is shown; or they break the rules, and it is shown where
abbrev pub IsShown : AbstractType → List ℕ → AbstractShown → Type 0
IsShown t octets shown =
    ((v : AbstractValue) × IsTrue (fits t v) × (der t v ≡ Some octets) × (shown ≡ shown_value (value_shown t octets v)))
    ⊎ ((b : AbstractBreach) × IsBreach t octets b × (shown ≡ shown_undecodable (breach_shown t octets b)))

abbrev pub shown_octets : AbstractShown → List ℕ
shown_octets (shown_value text) = text
shown_octets (shown_undecodable text) = text

-- 0 where there is a value
abbrev pub shown_status : AbstractShown → ℕ
shown_status (shown_value text) = 0
shown_status (shown_undecodable text) = 1

-- What comes before it: to explain octets that break the rules, the lines of the parts that stand whole before that.
abbrev pub ComesBefore : Bool → AbstractType → List ℕ → List ℕ → Type 0
ComesBefore false t octets lines = lines ≡ []
ComesBefore true t octets lines =
    ((v : AbstractValue) × IsTrue (fits t v) × (der t v ≡ Some octets) × (lines ≡ []))
    ⊎ ((b : AbstractBreach) × IsBreach t octets b × AreLinesBefore t octets b.at lines)

-- by the declared type of the message; where none of this name is declared that is said, as a verdict says it
abbrev pub ShowsMessage : Bool → AbstractPolicy → List ℕ → List ℕ → AbstractAnswer → Type 0
ShowsMessage explain p message octets a =
    ((declared_type p message ≡ None) × (a.out ≡ codes "unknown-message\n") × (a.status ≡ 1))
    ⊎ ((t : AbstractType) × (shown : AbstractShown) × (lines : List ℕ) × (declared_type p message ≡ Some t)
    × IsShown t octets shown × ComesBefore explain t octets lines
    × (a.out ≡ lines ++ (shown_octets shown ++ codes "\n")) × (a.status ≡ shown_status shown))

-- ---- as JSON

-- the verdict that says that the octets have no value
abbrev pub HasNoValue : AbstractPolicy → List ℕ → List ℕ → AbstractVerdict → Type 0
HasNoValue p message octets w =
    ((declared_type p message ≡ None) × (w ≡ unknown_message))
    ⊎ ((t : AbstractType) × (b : AbstractBreach) × (declared_type p message ≡ Some t) × IsBreach t octets b
    × (w ≡ undecodable b))

-- a line of its own, as an object with the fields of the line
abbrev pub on_a_line : List ℕ → List ℕ
on_a_line line = json_line line ++ codes "\n"

-- the value on a line; where there is none, the text of the verdict, as `decide` has it
abbrev pub ShowsJson : AbstractPolicy → AbstractRoute → List ℕ → AbstractAnswer → Type 0
ShowsJson p route octets a =
    OfValue p route.message octets
    (λ t v. (a.out ≡ ascii_text (value_json (Some t) v) ++ codes "\n") × (a.status ≡ 0))
    ⊎ ((w : AbstractVerdict) × HasNoValue p route.message octets w × (a.out ≡ on_a_line (verdict_octets p route w))
    × (a.status ≡ 1))

-- as JSON, of what is held; a frame that isn't three names and a message is said to be none
abbrev pub ShowsHeldJson : AbstractPolicy → Option AbstractBody → AbstractAnswer → Type 0
ShowsHeldJson p (Some b) a = ShowsJson p (route_of b) b.message_octets a
ShowsHeldJson p None a = (a.out ≡ on_a_line (codes "bad-header")) × (a.status ≡ 1)

-- by whether JSON is asked for, and whether octets that break the rules are to be explained
abbrev pub ShowsHeld : Bool → Bool → AbstractPolicy → Option AbstractBody → AbstractAnswer → Type 0
ShowsHeld true explain p held = ShowsHeldJson p held
ShowsHeld false explain p held = OfHeld (λ route octets. ShowsMessage explain p route.message octets) held
