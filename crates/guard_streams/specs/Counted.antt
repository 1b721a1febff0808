-- How often each reason is reported.
use Rattle.std.specs.Prelude.{◌≡◌, ℕ, List, [], ◌∷◌, ◌++◌, codes}
use Rattle.guard_policy.specs.Policies.{AbstractPolicy}
use Rattle.guard_frames.specs.declared.why.Reason.{Reason}
use Rattle.guard_frames.specs.declared.why.Reason.TheVariants.{UnknownMessage, Undecodable, OutsideType, DeniedBy, NotAllowed, NoRule}
use Rattle.guard_frames.specs.declared.why.Why.{Why}
use Rattle.guard_frames.specs.declared.why.Why.TheVariants.{BadHeader, NoMemory, Decided}
use Rattle.guard_frames.specs.OfPolicy.{gives_of}
use Rattle.guard_frames.specs.Reasons.{Says, Told}
use Rattle.guard_frames.specs.Reasons.Told.{pauses, reads, goes, stays}
use Rattle.guard_frames.specs.Totals.{later}
use Rattle.guard_streams.specs.declared.counts.Counts.{Counts}

abbrev pub no_counts : Counts
no_counts = record {
  bad_header = 0;
  unknown_message = 0;
  undecodable = 0;
  outside_type = 0;
  denied_by = 0;
  not_allowed = 0;
  no_rule = 0;
  no_memory = 0;
}

-- a line for each reason, by how often it is reported
abbrev pub by_reason : (List ℕ → ℕ → List ℕ) → Counts → List ℕ
by_reason line c =
    line (codes "bad-header") c.bad_header
    ++ line (codes "unknown-message") c.unknown_message
    ++ line (codes "undecodable") c.undecodable
    ++ line (codes "outside-type") c.outside_type
    ++ line (codes "denied-by") c.denied_by
    ++ line (codes "not-allowed") c.not_allowed
    ++ line (codes "no-rule") c.no_rule
    ++ line (codes "no-memory") c.no_memory

-- one more line that gives this reason
abbrev pub count_reason : Counts → Reason → Counts
count_reason c UnknownMessage = record c { unknown_message = later c.unknown_message 1 }
count_reason c Undecodable = record c { undecodable = later c.undecodable 1 }
count_reason c OutsideType = record c { outside_type = later c.outside_type 1 }
count_reason c (DeniedBy rule) = record c { denied_by = later c.denied_by 1 }
count_reason c NotAllowed = record c { not_allowed = later c.not_allowed 1 }
count_reason c NoRule = record c { no_rule = later c.no_rule 1 }

-- one more frame that stays
abbrev pub count_one : Counts → Why → Counts
count_one c BadHeader = record c { bad_header = later c.bad_header 1 }
count_one c NoMemory = record c { no_memory = later c.no_memory 1 }
count_one c (Decided reason) = count_reason c reason

-- what a watch that counts is told changes
abbrev pub count_told : Counts → Told → Counts
count_told c (pauses t) = c
count_told c (reads n) = c
count_told c (goes count n rule) = c
count_told c (stays why) = count_one c why

-- and one for each of these, the last first
abbrev pub count_all : Counts → List Why → Counts
count_all c [] = c
count_all c (why ∷ before) = count_one (count_all c before) why

-- The text is lines of a report under this policy, which say this, the last first.
abbrev pub AreSaid : AbstractPolicy → List Why → List ℕ → Type 0
AreSaid p [] text = text ≡ []
AreSaid p (why ∷ before) text =
    (first : List ℕ) × (line : List ℕ) × (text ≡ first ++ line) × Says (gives_of p) why line × AreSaid p before first

-- The text is lines of a report under this policy, and of each one its reason was counted.
abbrev pub AreCounted : AbstractPolicy → Counts → List ℕ → Counts → Type 0
AreCounted p old text new = (whys : List Why) × AreSaid p whys text × (new ≡ count_all old whys)
