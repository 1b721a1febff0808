-- The table of a policy with two rules, of five frames: three that the first rule let through, one that the second one
-- stopped, and one on a route of which no rule speaks.
use Rattle.std.specs.Prelude.{◌≡◌, ℕ, List, [], ◌∷◌, ◌++◌, codes, None, refl}
use Rattle.std.specs.Fmt.{digits}
use Rattle.guard_model.specs.AbstractType.{AbstractType}
use Rattle.guard_policy.specs.declared.policy.Effect.{Effect}
use Rattle.guard_policy.specs.declared.policy.Effect.TheVariants.{Allow, Deny}
use Rattle.guard_policy.specs.Policies.{AbstractPolicy, AbstractRule}
use Rattle.guard_frames.specs.declared.why.Reason.TheVariants.{UnknownMessage, Undecodable, OutsideType, DeniedBy, NotAllowed, NoRule}
use Rattle.guard_frames.specs.declared.why.Why.TheVariants.{BadHeader, Decided}
use Rattle.guard_authors.specs.declared.summary.Row.{Row}
use Rattle.guard_authors.specs.declared.summary.Row.TheVariants.{Goes, Stays}
use Rattle.guard_authors.specs.Summary.{IsRow, counted_lines, how_often, place_of, rule_of}

abbrev rule : AbstractType → List ℕ → Effect → AbstractRule
rule t name effect = record {
  name = name;
  effect = effect;
  from = codes "north";
  to = codes "south";
  message = codes "order";
  home = codes "Orders";
  type_name = codes "Order";
  ty = t;
}

abbrev policy : AbstractType → AbstractPolicy
policy t = record {
  messages = record { name = codes "order"; home = codes "Orders"; ty = t } ∷ [];
  rules = rule t (codes "small") Allow ∷ rule t (codes "big") Deny ∷ [];
  modules = codes "Orders" ∷ [];
}

abbrev five : List Row
five = Goes 0 ∷ Stays (Decided NoRule) ∷ Goes 0 ∷ Stays (Decided (DeniedBy 1)) ∷ Goes 0 ∷ []

pub let_through : how_often rule_of five 0 ≡ 3
let_through = refl

pub stopped : how_often rule_of five 1 ≡ 1
stopped = refl

pub of_no_rule : how_often place_of five 5 ≡ 1
of_no_rule = refl

pub no_bad_header : how_often place_of five 0 ≡ 0
no_bad_header = refl

pub table : (t : AbstractType) → counted_lines (policy t) five
    ≡ codes "  north>south order: allow small 3\n" ++ codes "  north>south order: deny big 1\n" ++ codes "  no-rule 1\n"
unfolding digits
table t = refl

-- each reason, and a rule that has no frame
abbrev each : List Row
each = Stays BadHeader ∷ Stays (Decided UnknownMessage) ∷ Stays (Decided Undecodable) ∷ Stays (Decided OutsideType)
    ∷ Stays (Decided NotAllowed) ∷ Stays (Decided NoRule) ∷ Stays (Decided NotAllowed) ∷ Stays (Decided (DeniedBy 1)) ∷ []

pub reasons : (t : AbstractType) → counted_lines (policy t) each
    ≡ codes "  north>south order: allow small 0\n" ++ codes "  north>south order: deny big 1\n"
    ++ codes "  bad-header 1\n" ++ codes "  unknown-message 1\n" ++ codes "  undecodable 1\n"
    ++ codes "  outside-type 1\n" ++ codes "  not-allowed 2\n" ++ codes "  no-rule 1\n"
unfolding digits
reasons t = refl

pub not_three_names : (t : AbstractType) → IsRow (policy t) None (Stays BadHeader)
not_three_names t = refl
