-- What `compare --summary` tells: how many frames each rule of a policy let through or stopped, and how many no rule did.
use Rattle.std.specs.Prelude.{◌≡◌, ℕ, ◌+◌, nat_eq, Bool, true, false, List, [], ◌∷◌, ◌++◌, codes, decimal, drop, Option, Some, None, if◌then◌else◌}
use Rattle.std.specs.List.{count_by}
use Rattle.guard_policy.specs.Decisions.{IsReason}
use Rattle.guard_policy.specs.Policies.{AbstractPolicy, AbstractRule}
use Rattle.guard_policy.specs.Verdicts.{AbstractVerdict}
use Rattle.guard_frames.specs.Bodies.{AbstractBody, body_in}
use Rattle.guard_frames.specs.OfPolicy.{route_of, lets_of}
use Rattle.guard_frames.specs.Reasons.{reason_of}
use Rattle.guard_frames.specs.Totals.{later}
use Rattle.guard_frames.specs.declared.why.Reason.TheVariants.{UnknownMessage, Undecodable, OutsideType, DeniedBy, NotAllowed, NoRule}
use Rattle.guard_frames.specs.declared.why.Reason.{Reason}
use Rattle.guard_frames.specs.declared.why.Why.TheVariants.{BadHeader, NoMemory, Decided}
use Rattle.guard_files.specs.RuleText.{said_text}
use Rattle.guard_authors.specs.Differing.{AbstractComparison}
use Rattle.guard_authors.specs.declared.summary.Row.{Row}
use Rattle.guard_authors.specs.declared.summary.Row.TheVariants.{Goes, Stays}

-- ---- the row in which a frame is counted

-- That of the frame with this body: the first rule of its route that allows it, where it goes, or else why it stays. No
-- policy decides what isn't three names and a message.
abbrev pub IsRow : AbstractPolicy → Option AbstractBody → Row → Type 0
IsRow p None row = row ≡ Stays BadHeader
IsRow p (Some b) (Goes i) = lets_of p b i
IsRow p (Some b) (Stays why) =
    (w : AbstractVerdict) × (k : Reason) × IsReason p (route_of b) b.message_octets w × (reason_of w ≡ Some k)
    × (why ≡ Decided k)

-- those of these frames, in order
abbrev pub AreRows : AbstractPolicy → List (List ℕ) → List Row → Type 0
AreRows p [] rows = rows ≡ []
AreRows p (f ∷ fs) rows =
    (row : Row) × (others : List Row) × IsRow p (body_in (drop 4 f)) row × AreRows p fs others
    × (rows ≡ row ∷ others)

-- the number of the rule that has a frame in this row: the one by which it goes, or which denies it
abbrev pub rule_of : Row → Option ℕ
rule_of (Goes i) = Some i
rule_of (Stays BadHeader) = None
rule_of (Stays NoMemory) = None
rule_of (Stays (Decided UnknownMessage)) = None
rule_of (Stays (Decided Undecodable)) = None
rule_of (Stays (Decided OutsideType)) = None
rule_of (Stays (Decided (DeniedBy i))) = Some i
rule_of (Stays (Decided NotAllowed)) = None
rule_of (Stays (Decided NoRule)) = None

-- the place in the table, from 0, of the reason why no rule has it
abbrev pub place_of : Row → Option ℕ
place_of (Goes i) = None
place_of (Stays BadHeader) = Some 0
place_of (Stays NoMemory) = None
place_of (Stays (Decided UnknownMessage)) = Some 1
place_of (Stays (Decided Undecodable)) = Some 2
place_of (Stays (Decided OutsideType)) = Some 3
place_of (Stays (Decided (DeniedBy i))) = None
place_of (Stays (Decided NotAllowed)) = Some 4
place_of (Stays (Decided NoRule)) = Some 5

abbrev pub is_at : ℕ → Option ℕ → Bool
is_at i None = false
is_at i (Some n) = nat_eq n i

-- how many of the rows are of this number; from the greatest number of 64 bits on it is that one
abbrev pub how_often : (Row → Option ℕ) → List Row → ℕ → ℕ
how_often number rows i = later 0 (count_by (λ row. is_at i (number row)) rows)

-- ---- the table, by how many frames each rule and each reason has

-- `  north>south order: allow small 3`
abbrev pub rule_line : ℕ → AbstractRule → List ℕ
rule_line n r = said_text r ++ codes " " ++ decimal n ++ codes "\n"

-- `  no-rule 2`, of a reason that is there
abbrev pub reason_line : ℕ → List ℕ → List ℕ
reason_line n reason = if nat_eq n 0 then [] else codes "  " ++ reason ++ codes " " ++ decimal n ++ codes "\n"

-- the reasons why no rule has a frame, in the order of their places
abbrev pub reasons : List (List ℕ)
reasons =
    codes "bad-header" ∷ codes "unknown-message" ∷ codes "undecodable" ∷ codes "outside-type" ∷ codes "not-allowed"
    ∷ codes "no-rule" ∷ []

-- a line for each of these, the first of which has this number
abbrev pub lines_of : {A : Type 0} → (ℕ → A → List ℕ) → (ℕ → ℕ) → ℕ → List A → List ℕ
lines_of line often i [] = []
lines_of line often i (x ∷ xs) = line (often i) x ++ lines_of line often (i + 1) xs

abbrev pub policy_lines : AbstractPolicy → (ℕ → ℕ) → (ℕ → ℕ) → List ℕ
policy_lines p by_rule by_reason = lines_of rule_line by_rule 0 p.rules ++ lines_of reason_line by_reason 0 reasons

abbrev pub both_lines : List ℕ → List ℕ → List ℕ
both_lines old new = codes "old policy:\n" ++ old ++ codes "new policy:\n" ++ new

-- of a policy, by the rows of the frames
abbrev pub counted_lines : AbstractPolicy → List Row → List ℕ
counted_lines p rows = policy_lines p (how_often rule_of rows) (how_often place_of rows)

-- where it is asked for, what is told of these frames under both policies
abbrev pub IsSummary : Bool → AbstractComparison → List (List ℕ) → List ℕ → Type 0
IsSummary false c frames table = table ≡ []
IsSummary true c frames table =
    (old : List Row) × (new : List Row) × AreRows c.old frames old × AreRows c.new frames new
    × (table ≡ both_lines (counted_lines c.old old) (counted_lines c.new new))
