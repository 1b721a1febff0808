-- The headline, whole: which frames of a stream go out and what is reported of every other one, by the texts of modules
-- and of a policy. It is the page to read first. Each definition that it names says one thing:
--
--   what the texts say     `SayPolicy`: `Accepts` of guard_schema (X.680), `Loads` of guard_policy
--   frames, bodies         `ConsistsOf`, `IsBody`
--   values, encodings      `fits` and `der` of guard_der (X.690)
--   members of types       `is_member` of guard_eval (X.680 clauses 49 to 51)
--   rules, reasons, lines  `rules_of` and `IsReason` of guard_policy, `line_octets` of guard_report
use Rattle.std.specs.Prelude.{◌≡◌, ◌⊎◌, ℕ, not, List, [], ◌∷◌, ◌++◌, Some, IsTrue, drop, codes, decimal}
use Rattle.std.specs.List.{list_any, list_all}
use Rattle.guard_model.specs.AbstractType.{AbstractType}
use Rattle.guard_model.specs.AbstractValue.{AbstractValue}
use Rattle.guard_der.specs.Der.{der}
use Rattle.guard_der.specs.Fits.{fits}
use Rattle.guard_eval.specs.Member.{is_member}
use Rattle.guard_policy.specs.Policies.{AbstractPolicy, declared_type}
use Rattle.guard_policy.specs.Verdicts.{AbstractVerdict}
use Rattle.guard_policy.specs.Decisions.{rules_of, allows, denies, IsReason}
use Rattle.guard_report.specs.Lines.{line_octets}
use Rattle.guard_frames.specs.Frames.{ConsistsOf}
use Rattle.guard_frames.specs.Bodies.{AbstractBody, IsBody}
use Rattle.guard_frames.specs.Totals.{later}
use Rattle.guard_frames.specs.Added.{Added}
use Rattle.guard_frames.specs.OfPolicy.{route_of}
use Rattle.guard_frames.specs.Texts.{SayPolicy}

-- The frame has three names and a message. What the message encodes in DER is a value of the type that is declared for
-- its name; some rule that allows on this route has the value, and no rule that denies there has it. `drop 4` takes off
-- the four octets of a frame's length.
abbrev pub MayGo : AbstractPolicy → List ℕ → Type 0
MayGo p frame = (b : AbstractBody) × IsBody (drop 4 frame) b
    × (t : AbstractType) × (v : AbstractValue)
    × (declared_type p b.name ≡ Some t)
    × IsTrue (fits t v) × (der t v ≡ Some b.message_octets)
    × IsTrue (is_member t v)
    × IsTrue (list_any (λ r. allows r.rule v) (rules_of p (route_of b)))
    × IsTrue (list_all (λ r. not (denies r.rule v)) (rules_of p (route_of b)))

-- the line of a frame of number n whose body is this: with the reason, or without where memory was wanting for it
abbrev pub IsLineOfBody : AbstractPolicy → ℕ → AbstractBody → List ℕ → Type 0
IsLineOfBody p n b line =
    ((w : AbstractVerdict) × IsReason p (route_of b) b.message_octets w × (line ≡ line_octets p (route_of b) n w))
    ⊎ (line ≡ decimal n ++ codes " no-memory\n")

-- the line of a frame of number n that stays
abbrev pub IsLineOf : AbstractPolicy → ℕ → List ℕ → List ℕ → Type 0
IsLineOf p n frame line =
    ((b : AbstractBody) × IsBody (drop 4 frame) b × IsLineOfBody p n b line)
    ⊎ (((b : AbstractBody) → IsBody (drop 4 frame) b → ⊥) × (line ≡ decimal n ++ codes " bad-header\n"))

-- The frames, numbered on from n: each that may go is out, octet by octet, and of every other one its line is reported.
abbrev pub Guards : AbstractPolicy → ℕ → List (List ℕ) → List ℕ → List ℕ → Type 0
Guards p n [] out reports = (out ≡ []) × (reports ≡ [])
Guards p n (frame ∷ frames) out reports =
    (MayGo p frame × (rest : List ℕ) × (out ≡ frame ++ rest) × Guards p (later n 1) frames rest reports)
    ⊎ ((MayGo p frame → ⊥) × (line : List ℕ) × (lines : List ℕ) × IsLineOf p n frame line × (reports ≡ line ++ lines)
    × Guards p (later n 1) frames out lines)

-- What was read is frames and nothing more, which come out or are reported under this policy.
abbrev pub IsGuarded : AbstractPolicy → List ℕ → Added → Type 0
IsGuarded p read added =
    (frames : List (List ℕ)) × ConsistsOf read frames [] × Guards p 1 frames added.out added.reports

-- Whatever policy the texts say, what was read is guarded under it.
abbrev pub Headline : List (List ℕ) → List ℕ → List ℕ → Added → Type 0
Headline modules text read added = (p : AbstractPolicy) → SayPolicy modules text p → IsGuarded p read added
