-- When a frame has another verdict under a new policy than under an old one, and what is said of it.
use Rattle.std.specs.Prelude.{◌≡◌, ℕ, Bool, true, false, not, ◌&&◌, ◌||◌, bytes_eq, nat_eq, List, [], ◌∷◌, ◌++◌, codes, decimal, drop, map, Option, Some, None, if◌then◌else◌}
use Rattle.guard_eval.specs.Violations.{AbstractViolation}
use Rattle.guard_model.specs.declared.site.Site.{Site}
use Rattle.guard_policy.specs.Decisions.{IsReason}
use Rattle.guard_policy.specs.Policies.{AbstractPolicy, AbstractRoute}
use Rattle.guard_policy.specs.PolicyView.{policy_view}
use Rattle.guard_policy.specs.Verdicts.{AbstractVerdict, pass, unknown_message, undecodable, outside_type, denied_by, not_allowed, no_rule}
use Rattle.guard_report.specs.Lines.{route_text}
use Rattle.guard_report.specs.Text.{verdict_octets}
use Rattle.guard_frames.specs.Bodies.{AbstractBody, body_in}
use Rattle.guard_frames.specs.OfPolicy.{route_of}
use Rattle.guard_frames.specs.Totals.{later}
use Rattle.guard_authors.specs.declared.differing.Comparison.{Comparison}
use Rattle.guard_authors.specs.declared.differing.VerdictTexts.{VerdictTexts}
use Rattle.guard_authors.specs.declared.differing.Tally.{Tally}

-- the two policies, whether the places of constraints count, and whether a summary stands for the lines of frames
pub record AbstractComparison : Type 0 where
  pub old : AbstractPolicy
  pub new : AbstractPolicy
  pub by_place : Bool
  pub summary : Bool

abbrev pub comparison_view : Comparison → AbstractComparison
comparison_view c =
    record { old = policy_view c.old.now; new = policy_view c.new.now; by_place = c.by_place; summary = c.summary }

-- ---- a verdict without the places of its constraints

-- no token is here, since texts, lines and columns count from 1
abbrev pub nowhere : Site
nowhere = record { text = 0; line = 0; column = 0 }

abbrev pub displaced : AbstractViolation → AbstractViolation
displaced w = record { site = nowhere; path = w.path }

abbrev pub displaced_shortfall : ℕ × AbstractViolation → ℕ × AbstractViolation
displaced_shortfall r = (r.0, displaced r.1)

abbrev pub without_places : AbstractVerdict → AbstractVerdict
without_places pass = pass
without_places unknown_message = unknown_message
without_places (undecodable breach) = undecodable breach
without_places (outside_type w) = outside_type (displaced w)
without_places (denied_by rule) = denied_by rule
without_places (not_allowed rules) = not_allowed (map displaced_shortfall rules)
without_places no_rule = no_rule

-- ---- the line of a frame

-- the text of the verdict on a message, and the same without places
pub record AbstractTexts : Type 0 where
  pub whole : List ℕ
  pub bare : List ℕ

abbrev pub texts_view : VerdictTexts → AbstractTexts
texts_view s = record { whole = s.whole.items; bare = s.bare.items }

abbrev pub AreVerdictTexts : AbstractPolicy → AbstractRoute → List ℕ → AbstractTexts → Type 0
AreVerdictTexts p route octets said =
    (w : AbstractVerdict) × IsReason p route octets w × (said.whole ≡ verdict_octets p route w)
    × (said.bare ≡ verdict_octets p route (without_places w))

-- The texts are the same; or they are so without places, and these don't count.
abbrev pub are_alike : Bool → AbstractTexts → AbstractTexts → Bool
are_alike by_place old new = bytes_eq old.whole new.whole || (not by_place && bytes_eq old.bare new.bare)

-- `3 north>south order pass -> denied-by large`
abbrev pub differing_line : ℕ → AbstractRoute → List ℕ → List ℕ → List ℕ
differing_line n route old new =
    decimal n ++ codes " " ++ route_text route ++ codes " " ++ old ++ codes " -> " ++ new ++ codes "\n"

-- none where the verdicts are alike
abbrev pub compared_line : Bool → ℕ → AbstractRoute → AbstractTexts → AbstractTexts → List ℕ
compared_line by_place n route old new =
    if are_alike by_place old new then [] else differing_line n route old.whole new.whole

-- The line of the frame of number n with this body. A frame that isn't three names and a message has none: no policy
-- decides it.
abbrev pub IsLine : AbstractComparison → ℕ → Option AbstractBody → List ℕ → Type 0
IsLine c n None line = line ≡ []
IsLine c n (Some b) line =
    (old : AbstractTexts) × (new : AbstractTexts) × AreVerdictTexts c.old (route_of b) b.message_octets old
    × AreVerdictTexts c.new (route_of b) b.message_octets new
    × (line ≡ compared_line c.by_place n (route_of b) old new)

-- ---- the lines of frames

abbrev pub no_frames : Tally
no_frames = record { frames = 0; differ = 0 }

-- after one more frame, with this line
abbrev pub after : Tally → List ℕ → Tally
after t [] = record { frames = later t.frames 1; differ = t.differ }
after t (o ∷ line) = record { frames = later t.frames 1; differ = later t.differ 1 }

-- with a summary none is written
abbrev pub written : Bool → List ℕ → List ℕ
written false line = line
written true line = []

-- what is written of these frames, in order, and how many there are after them
abbrev pub AreLines : AbstractComparison → Tally → List (List ℕ) → List ℕ → Tally → Type 0
AreLines c t [] lines last = (lines ≡ []) × (last ≡ t)
AreLines c t (f ∷ fs) lines last =
    (line : List ℕ) × (rest : List ℕ) × IsLine c (later t.frames 1) (body_in (drop 4 f)) line
    × AreLines c (after t line) fs rest last × (lines ≡ written c.summary line ++ rest)

-- ---- how many

abbrev pub total_line : Tally → List ℕ
total_line t =
    codes "compared " ++ (decimal t.frames ++ (codes " frames, " ++ (decimal t.differ ++ codes " differ\n")))

abbrev pub compared_status : Tally → ℕ
compared_status t = if nat_eq t.differ 0 then 0 else 1
