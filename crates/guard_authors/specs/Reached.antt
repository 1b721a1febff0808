-- Which rules a case reaches, and what is listed of those that none does.
use Rattle.std.specs.Prelude.{◌≡◌, ℕ, ◌+◌, Bool, true, false, nat_eq, List, [], ◌∷◌, ◌++◌, codes, if◌then◌else◌}
use Rattle.std.specs.List.{list_any}
use Rattle.guard_policy.specs.Decisions.{rules_of}
use Rattle.guard_policy.specs.Policies.{AbstractPolicy, AbstractRoute, AbstractRule}
use Rattle.guard_policy.specs.Verdicts.{AbstractVerdict, pass, unknown_message, undecodable, outside_type, denied_by, not_allowed, no_rule}
use Rattle.guard_files.specs.Allowed.{OfValue, allowing}

-- By the verdict on octets: each rule of the route that allows the value, where it passes; the rule that denies it. No
-- other verdict is due to a rule that has the value.
abbrev pub Reaches : AbstractPolicy → AbstractRoute → List ℕ → AbstractVerdict → List ℕ → Type 0
Reaches p route octets pass reached = OfValue p route.message octets (λ t v. reached ≡ allowing (rules_of p route) v)
Reaches p route octets (denied_by i) reached = reached ≡ i ∷ []
Reaches p route octets unknown_message reached = reached ≡ []
Reaches p route octets (undecodable b) reached = reached ≡ []
Reaches p route octets (outside_type w) reached = reached ≡ []
Reaches p route octets (not_allowed rs) reached = reached ≡ []
Reaches p route octets no_rule reached = reached ≡ []

-- of a rule whose number isn't among those that are reached
abbrev pub unreached_line : List ℕ → ℕ → List ℕ → List ℕ
unreached_line reached i name =
    if list_any (λ n. nat_eq n i) reached then [] else codes "  no case reaches " ++ name ++ codes "\n"

-- of these rules, the first of which has this number
abbrev pub unreached_lines : List ℕ → ℕ → List AbstractRule → List ℕ
unreached_lines reached i [] = []
unreached_lines reached i (r ∷ rs) = unreached_line reached i r.name ++ unreached_lines reached (i + 1) rs

-- where they are asked for
abbrev pub cover_lines : Bool → AbstractPolicy → List ℕ → List ℕ
cover_lines false p reached = []
cover_lines true p reached = unreached_lines reached 0 p.rules
