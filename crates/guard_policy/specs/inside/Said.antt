-- Rules whose texts and types are borrowed, and the names that were seen so far.
use Rattle.std.specs.Prelude.{◌≡◌, ℕ, List, map, bytes_eq}
use Rattle.std.specs.Borrow.{Bor}
use Rattle.std.specs.List.{list_any}
use Rattle.indexmap.specs.IndexSet.{IndexSet}
use Rattle.guard_policy.specs.declared.policy.SaidRule.{SaidRule}
use Rattle.guard_policy.specs.Policies.{AbstractRule}
use Rattle.guard_policy.specs.SaidView.{said_view}

abbrev pub rules_view : List (Bor SaidRule) → List AbstractRule
rules_view rules = map (λ r. said_view r.now) rules

abbrev pub names_in : {S : Type 0} → IndexSet (Bor (List ℕ)) S → List (List ℕ)
names_in names = map (λ name. name.now) names.keys

-- whatever is looked for
abbrev pub HaveSame : List (List ℕ) → List (List ℕ) → Type 0
HaveSame names others = (name : List ℕ) → list_any (bytes_eq name) names ≡ list_any (bytes_eq name) others
