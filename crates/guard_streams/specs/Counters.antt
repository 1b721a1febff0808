-- The text that shows what is counted, in the format that Prometheus' node exporter reads from its folder of text files:
-- for each counter a line with its help, one with its type, and its samples, each with a name, labels and a number.
use Rattle.std.specs.Prelude.{ℕ, zero, suc, Bool, true, false, List, [], ◌∷◌, ◌++◌, map, string_bytes, codes, decimal, if◌then◌else◌}
use Rattle.std.specs.Bool.{beq}
use Rattle.std.specs.List.{concat}
use Rattle.hex.specs.Hex.{encode_lower}
use Rattle.guard_policy.specs.Policies.{AbstractPolicy, AbstractRule}
use Rattle.guard_policy.specs.declared.policy.Effect.{Effect}
use Rattle.guard_policy.specs.declared.policy.Effect.TheVariants.{Allow, Deny}
use Rattle.guard_frames.specs.Reasons.{Told}
use Rattle.guard_frames.specs.Reasons.Told.{pauses, reads, goes, stays}
use Rattle.guard_frames.specs.Totals.{later, no_frames}
use Rattle.guard_frames.specs.declared.totals.Totals.{Totals}
use Rattle.guard_frames.specs.declared.why.Reason.TheVariants.{UnknownMessage, Undecodable, OutsideType, DeniedBy, NotAllowed, NoRule}
use Rattle.guard_frames.specs.declared.why.Why.{Why}
use Rattle.guard_frames.specs.declared.why.Why.TheVariants.{BadHeader, NoMemory, Decided}
use Rattle.guard_streams.specs.declared.counted.Counted.{Counted}
use Rattle.guard_streams.specs.declared.counts.Counts.{Counts}
use Rattle.guard_streams.specs.declared.faults.Faults.{Faults}
use Rattle.guard_streams.specs.declared.rule_counts.InForce.{InForce}
use Rattle.guard_streams.specs.declared.rule_counts.RuleCount.{RuleCount}
use Rattle.guard_streams.specs.declared.tally.Tally.{Tally}
use Rattle.guard_streams.specs.Counted.{by_reason, no_counts, count_one}
use Rattle.guard_streams.specs.Faults.{no_faults}

-- ---- what is counted

abbrev pub nothing_tallied : Tally
nothing_tallied = record { totals = no_frames; counts = no_counts; came = 0; went = 0; reloads = 0; faults = no_faults }

-- a rule, and how often it decided what becomes of a frame
pub record AbstractCount : Type 0 where
  pub name : List ℕ
  pub denies : Bool
  pub frames : ℕ

-- the policy in force: the number of its texts, and its rules
pub record AbstractForce : Type 0 where
  pub digest : List ℕ
  pub rules : List AbstractCount

abbrev pub count_view : RuleCount → AbstractCount
count_view c = record { name = string_bytes c.name; denies = c.denies; frames = c.frames }

abbrev pub force_view : InForce → AbstractForce
force_view f = record { digest = f.digest; rules = map count_view f.rules.items }

abbrev pub denies : Effect → Bool
denies Allow = false
denies Deny = true

-- a rule that has decided nothing yet
abbrev pub fresh : AbstractRule → AbstractCount
fresh r = record { name = r.name; denies = denies r.effect; frames = 0 }

-- a policy as it comes into force, with the number of its texts
abbrev pub force_of : AbstractPolicy → List ℕ → AbstractForce
force_of p digest = record { digest = digest; rules = map fresh p.rules }

-- what is counted: by rule of the policy in force, and all else
pub record AbstractCounted : Type 0 where
  pub force : AbstractForce
  pub tally : Tally

abbrev pub counted_view : Counted → AbstractCounted
counted_view c = record { force = force_view c.force; tally = c.tally }

abbrev pub nothing_counted : AbstractForce → AbstractCounted
nothing_counted f = record { force = f; tally = nothing_tallied }

-- the rule of this number, from 0, has decided n times more
abbrev pub some_more : List AbstractCount → ℕ → ℕ → List AbstractCount
some_more [] i n = []
some_more (c ∷ counts) zero n = record c { frames = later c.frames n } ∷ counts
some_more (c ∷ counts) (suc i) n = c ∷ some_more counts i n

-- a frame stays: where a rule denied it, that has decided
abbrev pub deny_one : AbstractForce → Why → AbstractForce
deny_one f BadHeader = f
deny_one f NoMemory = f
deny_one f (Decided UnknownMessage) = f
deny_one f (Decided Undecodable) = f
deny_one f (Decided OutsideType) = f
deny_one f (Decided (DeniedBy i)) = record f { rules = some_more f.rules i 1 }
deny_one f (Decided NotAllowed) = f
deny_one f (Decided NoRule) = f

-- and where these do, the last first
abbrev pub deny_all : AbstractForce → List Why → AbstractForce
deny_all f [] = f
deny_all f (why ∷ before) = deny_one (deny_all f before) why

-- so many frames go: the rule by which they do has decided each
abbrev pub allow_some : AbstractForce → ℕ → ℕ → AbstractForce
allow_some f rule n = record f { rules = some_more f.rules rule n }

-- and where one goes by each of these, the last first
abbrev pub allow_all : AbstractForce → List ℕ → AbstractForce
allow_all f [] = f
allow_all f (rule ∷ before) = allow_some (allow_all f before) rule 1

-- ---- the text

-- what stands before the samples of a name
abbrev pub heading : List ℕ → List ℕ → List ℕ → List ℕ
heading name kind help =
    codes "# HELP " ++ name ++ codes " " ++ help ++ codes "\n# TYPE " ++ name ++ codes " " ++ kind ++ codes "\n"

-- `NAME N`
abbrev pub sample : List ℕ → ℕ → List ℕ
sample name n = name ++ codes " " ++ decimal n ++ codes "\n"

-- `NAME{LABEL="VALUE"} N`; no value here has anything that would have to be escaped
abbrev pub labelled : List ℕ → List ℕ → List ℕ → ℕ → List ℕ
labelled name label value n =
    name ++ codes "{" ++ label ++ codes "=\"" ++ value ++ codes "\"} " ++ decimal n ++ codes "\n"

-- a counter without labels
abbrev pub counter : List ℕ → List ℕ → ℕ → List ℕ
counter name help n = heading name (codes "counter") help ++ sample name n

abbrev pub totals_lines : Totals → List ℕ
totals_lines t =
    counter (codes "derguard_frames_total") (codes "Frames that were decided.") t.frames
    ++ counter (codes "derguard_passed_total") (codes "Frames that passed.") t.passed

abbrev pub reason_line : List ℕ → ℕ → List ℕ
reason_line = labelled (codes "derguard_stopped_total") (codes "reason")

abbrev pub stopped_lines : Counts → List ℕ
stopped_lines c =
    heading (codes "derguard_stopped_total") (codes "counter") (codes "Frames that were stopped, by reason.")
    ++ by_reason reason_line c

-- of a rule that denies, or, with `false`, of one that allows
abbrev pub rule_line : Bool → List ℕ → AbstractCount → List ℕ
rule_line denies name c = if beq c.denies denies then labelled name (codes "rule") c.name c.frames else []

-- and of all of these
abbrev pub rules_lines : Bool → List ℕ → List ℕ → List AbstractCount → List ℕ
rules_lines denies name help rules =
    heading name (codes "counter") help ++ concat (map (rule_line denies name) rules)

abbrev pub denied_lines : List AbstractCount → List ℕ
denied_lines =
    rules_lines true (codes "derguard_denied_total")
    (codes "Frames that a rule denied since the policy in force came into force.")

abbrev pub allowed_lines : List AbstractCount → List ℕ
allowed_lines =
    rules_lines false (codes "derguard_allowed_total")
    (codes "Frames that a rule let through since the policy in force came into force.")

abbrev pub kind_line : List ℕ → ℕ → List ℕ
kind_line = labelled (codes "derguard_link_faults_total") (codes "fault")

abbrev pub faults_lines : Faults → List ℕ
faults_lines f =
    heading (codes "derguard_link_faults_total") (codes "counter") (codes "Faults of links, by kind.")
    ++ kind_line (codes "F1") f.frame_too_long
    ++ kind_line (codes "F2") f.write_failed
    ++ kind_line (codes "F3") f.closed
    ++ kind_line (codes "F4") f.torn_frame

abbrev pub traffic_lines : Tally → List ℕ
traffic_lines t =
    counter (codes "derguard_received_bytes_total") (codes "Octets that came in.") t.came
    ++ counter (codes "derguard_sent_bytes_total") (codes "Octets of the frames that passed.") t.went
    ++ counter (codes "derguard_reloads_total") (codes "Policies that came into force in place of another.") t.reloads
    ++ faults_lines t.faults

abbrev pub policy_lines : List ℕ → List ℕ
policy_lines digest =
    heading (codes "derguard_policy_info") (codes "gauge") (codes "The policy in force, by the digest of its texts.")
    ++ labelled (codes "derguard_policy_info") (codes "sha256") (encode_lower digest) 1

abbrev pub counters_text : AbstractCounted → List ℕ
counters_text c =
    totals_lines c.tally.totals ++ stopped_lines c.tally.counts ++ denied_lines c.force.rules
    ++ allowed_lines c.force.rules ++ traffic_lines c.tally ++ policy_lines c.force.digest

-- ---- what a watch is told changes

abbrev pub tally_one : Tally → Told → Tally
tally_one t (pauses totals) = record t { totals = totals }
tally_one t (reads n) = record t { came = later t.came n }
tally_one t (goes count n rule) = record t { went = later t.went n }
tally_one t (stays why) = record t { counts = count_one t.counts why }

abbrev pub force_one : AbstractForce → Told → AbstractForce
force_one f (pauses totals) = f
force_one f (reads n) = f
force_one f (goes count n rule) = allow_some f rule count
force_one f (stays why) = deny_one f why

abbrev pub counted_one : AbstractCounted → Told → AbstractCounted
counted_one c told = record { force = force_one c.force told; tally = tally_one c.tally told }
