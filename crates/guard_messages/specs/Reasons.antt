-- What comes below the text of a verdict where it is to be explained: of each constraint that the value fails its line
-- with a mark, and the part that fails it; of a denying rule its type, where that is assigned, the lines of its
-- constraints, and the value; of any other verdict that stops a message a sentence, and where no rule allows anything
-- the rules that the message has; of a message that passes each rule that allows it.
use Rattle.std.specs.Prelude.{◌≡◌, ℕ, Bool, true, false, List, [], ◌∷◌, ◌++◌, bytes_eq, codes, option_map, slice_get, Option, Some, None, if◌then◌else◌}
use Rattle.guard_model.specs.declared.site.Site.{Site}
use Rattle.guard_model.specs.declared.site.Step.{Step}
use Rattle.guard_model.specs.declared.site.Step.TheVariants.{Component, Element}
use Rattle.guard_model.specs.AbstractType.{AbstractType}
use Rattle.guard_model.specs.AbstractValue.{AbstractValue}
use Rattle.guard_eval.specs.Violations.{AbstractViolation}
use Rattle.guard_policy.specs.Policies.{AbstractPolicy, AbstractRoute, AbstractRule}
use Rattle.guard_policy.specs.Verdicts.{AbstractVerdict, pass, unknown_message, undecodable, outside_type, denied_by, not_allowed, no_rule}
use Rattle.guard_report.specs.Parts.{part_octets}
use Rattle.guard_report.specs.Text.{component_of, type_within}
use Rattle.guard_notes.specs.Marking.{columns}
use Rattle.guard_notes.specs.Sources.{AbstractSources, place_lines}
use Rattle.guard_notes.specs.declared.notes.Place.TheVariants.{At}
use Rattle.guard_files.specs.Places.{places_of}
use Rattle.guard_files.specs.RuleText.{said_text}
use Rattle.guard_files.specs.Allowed.{allowing_lines, OfValue}
use Rattle.guard_messages.specs.RuleTypes.{AbstractGrounds, rule_type_lines}

-- ---- the part of a value that fails a constraint

-- what a type calls the component or alternative to which a step leads
abbrev pub step_name : Option AbstractType → Step → Option (List ℕ)
step_name t (Component i) = option_map (λ c. c.name) (component_of t i)
step_name t (Element i) = None

-- what the component or alternative is called to which the last step of a path leads
abbrev pub name_at : Option AbstractType → List Step → Option (List ℕ)
name_at t [] = None
name_at t (step ∷ []) = step_name t step
name_at t (step ∷ next ∷ steps) = name_at (type_within t step) (next ∷ steps)

-- in front of a value, as ASN.1 writes that of a component
abbrev pub name_before : Option (List ℕ) → List ℕ
name_before None = []
name_before (Some name) = name ++ codes " "

-- At most 120 columns are shown.
abbrev pub part_shown : Option (List ℕ) → List ℕ
part_shown None = codes "absent"
part_shown (Some text) = columns text

-- `  qty 11`, or `  seal absent`
abbrev pub part_line : AbstractType → AbstractValue → List Step → List ℕ
part_line t v path =
    codes "  " ++ name_before (name_at (Some t) path) ++ part_shown (part_octets t v path) ++ codes "\n"

-- The line of the constraint, and the part, by the names that the declared type has for its parts.
abbrev pub violation_lines : AbstractSources → AbstractType → AbstractValue → AbstractViolation → List ℕ
violation_lines s t v w = place_lines s (At w.site) ++ part_line t v w.path

-- of each allowing rule, in the order of the text of the verdict
abbrev pub shortfall_lines : AbstractSources → AbstractType → AbstractValue → List (ℕ × AbstractViolation) → List ℕ
shortfall_lines s t v [] = []
shortfall_lines s t v (r ∷ rs) = violation_lines s t v r.1 ++ shortfall_lines s t v rs

-- ---- the rules of a message

-- `  north>south order: allow small`
abbrev pub rule_line_of : List ℕ → AbstractRule → List ℕ
rule_line_of message r = if bytes_eq r.message message then said_text r ++ codes "\n" else []

abbrev pub message_rules : List ℕ → List AbstractRule → List ℕ
message_rules message [] = []
message_rules message (r ∷ rs) = rule_line_of message r ++ message_rules message rs

-- ---- the rule that denies a value

-- the line of each of these constraints, with a mark
abbrev pub lines_of_places : AbstractSources → List Site → List ℕ
lines_of_places s [] = []
lines_of_places s (site ∷ sites) = place_lines s (At site) ++ lines_of_places s sites

-- the type of a denying rule, where that is assigned and constrained, and what follows for the value
abbrev pub denied_lines : AbstractGrounds → Option AbstractRule → List ℕ
denied_lines g None = []
denied_lines g (Some r) =
    rule_type_lines g r
    ++ (lines_of_places g.sources (places_of r.ty)
    ++ codes "  This denying rule has the value, so no allowing rule can let it pass.\n")

-- ---- a verdict

abbrev pub ExplainsVerdict : AbstractGrounds → AbstractPolicy → AbstractRoute → List ℕ → AbstractVerdict → List ℕ
    → Type 0
ExplainsVerdict g p route octets pass note =
    OfValue p route.message octets (λ t v. note ≡ allowing_lines route v p.rules)
ExplainsVerdict g p route octets unknown_message note = note ≡ codes "  The policy declares no message of this name.\n"
ExplainsVerdict g p route octets (undecodable b) note =
    note ≡ codes "  The octets are no DER encoding of a value of the declared type. docs/FAULTS.md has the breaches.\n"
ExplainsVerdict g p route octets (outside_type w) note =
    OfValue p route.message octets (λ t v. note ≡ violation_lines g.sources t v w)
ExplainsVerdict g p route octets (denied_by i) note =
    OfValue p route.message octets (λ t v. note ≡ denied_lines g (slice_get p.rules i) ++ part_line t v [])
ExplainsVerdict g p route octets (not_allowed rs) note =
    OfValue p route.message octets (λ t v. note ≡ shortfall_lines g.sources t v rs)
ExplainsVerdict g p route octets no_rule note =
    note ≡ codes "  No rule of the policy allows anything on this route.\n" ++ message_rules route.message p.rules

-- what explains a verdict where that is asked for; else there is no note
abbrev pub NotesVerdict : Bool → AbstractGrounds → AbstractPolicy → AbstractRoute → List ℕ → AbstractVerdict → List ℕ
    → Type 0
NotesVerdict false g p route octets w note = note ≡ []
NotesVerdict true g p route octets w note = ExplainsVerdict g p route octets w note
