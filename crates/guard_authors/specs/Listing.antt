-- What `check --explain` lists of a policy that is accepted: each message with its rules in the order of the file, and
-- of each rule what keeps it from letting anything pass; and what of it `check --strict` remarks.
use Rattle.std.specs.Prelude.{ℕ, ◌+◌, Bool, true, false, not, ◌&&◌, ◌||◌, is_some, List, [], ◌∷◌, ◌++◌, length, map, nat_eq, codes, bytes_eq, Option, Some, None, if◌then◌else◌}
use Rattle.std.specs.List.{list_any}
use Rattle.std.specs.Option.{option_map_or}
use Rattle.std.specs.Str.{str_eq_ignore_ascii_case}
use Rattle.guard_model.specs.declared.site.Site.{Site}
use Rattle.guard_model.specs.AbstractType.{AbstractType}
use Rattle.guard_model.specs.SameType.{same_site}
use Rattle.guard_policy.specs.Barren.{is_barren_rule}
use Rattle.guard_policy.specs.Decisions.{is_allowing, speaks_of}
use Rattle.guard_policy.specs.Names.{anyone}
use Rattle.guard_policy.specs.Policies.{AbstractPolicy, AbstractRoute, AbstractRule, declared_type, own_route}
use Rattle.guard_policy.specs.PolicyView.{said_view}
use Rattle.guard_files.specs.Places.{places_of}
use Rattle.guard_files.specs.RuleText.{said_text}
use Rattle.guard_authors.specs.declared.listing.Found.{Found}

-- ---- constraints by their places

abbrev pub begins : List Site → List Site → Bool
begins [] others = true
begins (s ∷ ss) [] = false
begins (s ∷ ss) (o ∷ os) = same_site s o && begins ss os

-- The types of a message and its rules differ in these constraints alone. The second type begins with those of the
-- first, so the first has all of its values.
abbrev pub has_all_of : AbstractType → AbstractType → Bool
has_all_of wide narrow = begins (places_of wide) (places_of narrow)

-- ---- what is found of a rule by itself

pub record FoundRule : Type 0 where
  pub rule : AbstractRule
  -- integers and sizes show that its type has no value that the declared type has
  pub barren : Bool
  -- its type has all values of the declared type
  pub whole : Bool

abbrev pub found_view : Found → FoundRule
found_view f = record { rule = said_view f.rule; barren = f.barren; whole = f.whole }

abbrev pub is_whole : AbstractPolicy → AbstractRule → Bool
is_whole p r = option_map_or (has_all_of r.ty) (declared_type p r.message) false

abbrev pub found_rule : AbstractPolicy → ℕ → AbstractRule → FoundRule
found_rule p i r = record { rule = r; barren = is_barren_rule p i; whole = is_whole p r }

-- of the rules from this number on
abbrev pub found_from : AbstractPolicy → ℕ → List AbstractRule → List FoundRule
found_from p i [] = []
found_from p i (r ∷ rs) = found_rule p i r ∷ found_from p (i + 1) rs

abbrev pub found_rules : AbstractPolicy → List FoundRule
found_rules p = found_from p 0 p.rules

-- ---- what others do to it

-- On this route the second rule denies all that the first one allows: all of the declared type, or all of its type.
abbrev pub denies_all_of : AbstractRoute → AbstractRule → FoundRule → Bool
denies_all_of route a d = not (is_allowing d.rule) && speaks_of route d.rule && (d.whole || has_all_of d.rule.ty a.ty)

-- the name of the first such rule
abbrev pub first_denier : AbstractRoute → AbstractRule → List FoundRule → Option (List ℕ)
first_denier route a [] = None
first_denier route a (d ∷ ds) = if denies_all_of route a d then Some d.rule.name else first_denier route a ds

-- a rule that allows something on this route, as far as this shows
abbrev pub may_let_pass : List FoundRule → AbstractRoute → FoundRule → Bool
may_let_pass rules route a =
    is_allowing a.rule && speaks_of route a.rule && not a.barren && not (is_some (first_denier route a.rule rules))

-- The rule names a sender and a receiver, and nothing can pass from the one to the other.
abbrev pub is_closed : List FoundRule → AbstractRule → Bool
is_closed rules r =
    not (bytes_eq r.from anyone) && not (bytes_eq r.to anyone)
    && not (list_any (may_let_pass rules (own_route r)) rules)

-- ---- the text

abbrev pub barren_text : Bool → List ℕ
barren_text true = codes "; its type has no value of the declared type"
barren_text false = []

abbrev pub denied_text : Option (List ℕ) → List ℕ
denied_text None = []
denied_text (Some name) = codes "; denied as a whole by " ++ name

abbrev pub closed_text : Bool → List ℕ
closed_text true = codes "; nothing can pass on this route"
closed_text false = []

-- by which rule an allowing one is denied as a whole
abbrev pub denier_of : List FoundRule → AbstractRule → Option (List ℕ)
denier_of rules r = if is_allowing r then first_denier (own_route r) r rules else None

-- what keeps it from letting anything pass
abbrev pub remarks : List FoundRule → FoundRule → List ℕ
remarks rules f = barren_text f.barren ++ denied_text (denier_of rules f.rule) ++ closed_text (is_closed rules f.rule)

abbrev pub rule_line : List FoundRule → FoundRule → List ℕ
rule_line rules f = said_text f.rule ++ remarks rules f ++ codes "\n"

-- something keeps it from letting anything pass
abbrev pub has_remark : List FoundRule → FoundRule → Bool
has_remark rules f = f.barren || is_some (denier_of rules f.rule) || is_closed rules f.rule

-- The listing has a line for each rule; strictly, only for those that are remarked.
abbrev pub is_told : Bool → List FoundRule → FoundRule → Bool
is_told strict rules f = not strict || has_remark rules f

-- its line, where it speaks of the message and is told
abbrev pub line_of_message : Bool → List FoundRule → List ℕ → FoundRule → List ℕ
line_of_message strict rules message f =
    if bytes_eq f.rule.message message && is_told strict rules f then rule_line rules f else []

-- those of these rules
abbrev pub rule_lines : Bool → List FoundRule → List ℕ → List FoundRule → List ℕ
rule_lines strict rules message [] = []
rule_lines strict rules message (f ∷ fs) =
    line_of_message strict rules message f ++ rule_lines strict rules message fs

abbrev pub unused_line : List ℕ → List ℕ
unused_line message = codes "  " ++ message ++ codes ": no rule speaks of it, so nothing can pass\n"

abbrev pub message_lines : Bool → List FoundRule → List ℕ → List ℕ
message_lines strict rules message =
    if list_any (λ f. bytes_eq f.rule.message message) rules then rule_lines strict rules message rules
    else unused_line message

-- of the messages of these names
abbrev pub messages_lines : Bool → List FoundRule → List (List ℕ) → List ℕ
messages_lines strict rules [] = []
messages_lines strict rules (name ∷ names) = message_lines strict rules name ++ messages_lines strict rules names

-- there is no message at all
abbrev pub no_message_text : Bool → List ℕ
no_message_text true = codes "  no message is declared, so nothing can pass\n"
no_message_text false = []

-- ---- names of parties

-- the names that rules give for senders and receivers, in order
abbrev pub parties : List FoundRule → List (List ℕ)
parties [] = []
parties (f ∷ fs) = f.rule.from ∷ f.rule.to ∷ parties fs

-- they are one but for small and capital letters
abbrev pub differ_in_case : List ℕ → List ℕ → Bool
differ_in_case a b = str_eq_ignore_ascii_case a b && not (bytes_eq a b)

abbrev pub case_line : List ℕ → List ℕ → List ℕ
case_line a b = codes "  " ++ a ++ codes " and " ++ b ++ codes ": names of parties that differ in case alone\n"

-- the first of the names that differs so from this one
abbrev pub first_alike : List (List ℕ) → List ℕ → Option (List ℕ)
first_alike [] b = None
first_alike (a ∷ others) b = if differ_in_case a b then Some a else first_alike others b

abbrev pub alike_line : Option (List ℕ) → List ℕ → List ℕ
alike_line None b = []
alike_line (Some a) b = case_line a b

-- A name that was there before is not remarked again.
abbrev pub case_lines_at : List (List ℕ) → List ℕ → List ℕ
case_lines_at before b =
    if list_any (λ a. bytes_eq a b) before then [] else alike_line (first_alike before b) b

abbrev pub case_lines : List (List ℕ) → List (List ℕ) → List ℕ
case_lines before [] = []
case_lines before (b ∷ bs) = case_lines_at before b ++ case_lines (before ++ b ∷ []) bs

-- ---- the whole

-- strictly, what is remarked and no more
abbrev pub told_lines : Bool → AbstractPolicy → List ℕ
told_lines strict p =
    no_message_text (nat_eq (length p.messages) 0)
    ++ messages_lines strict (found_rules p) (map (λ m. m.name) p.messages) ++ case_lines [] (parties (found_rules p))

-- what the remarks rest on
abbrev pub last_line : List ℕ
last_line =
    codes
    "  Looked at: integers, sizes and the places of constraints. A rule without a remark may let nothing pass either.\n"

abbrev pub listing : AbstractPolicy → List ℕ
listing p = told_lines false p ++ last_line

-- what `check --strict` remarks
abbrev pub strict_remarks : AbstractPolicy → List ℕ
strict_remarks p = told_lines true p
