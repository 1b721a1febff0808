-- In a table the first unknown key is the least one.
use Rattle.std.proofs.Common.{◌≡◌, ℕ, List, [], ◌∷◌, Bool, true, false, cond, Option, Some, None, String, Global, string_bytes, refl, ap, ◌∙◌, subst}
use Rattle.std.specs.List.{AllByRecursion}
use Rattle.std.specs.List.Sorted.{IsStrictlySortedBy}
use Rattle.std.specs.Map.{keys_of}
use Rattle.std.specs.Ordering.{nat_cmp, is_lt, ordering_reverse}
use Rattle.std.specs.declared.cmp.Ordering.TheVariants.{Less}
use Rattle.std.specs.Cmp.Lexicographic.{slice_cmp}
use Rattle.std.specs.String.{string_cmp}
use Rattle.std.proofs.lemmas.Cmp.{nat_list_cmp_total}
use Rattle.std.proofs.lemmas.Option.{same_Some}
use Rattle.toml.specs.View.{members_view}
use Rattle.toml.specs.declared.value.Value.{Value}
use Rattle.guard_policy.specs.declared.entry.Key.{Key}
use Rattle.guard_policy.specs.inside.Answers.{first_unknown}
use Rattle.guard_policy.specs.PolicyFaults.{is_key, lesser, least_unknown}

-- what comes after a word isn't less
not_less : (word other : List ℕ) → slice_cmp nat_cmp word other ≡ Less → is_lt (slice_cmp nat_cmp other word) ≡ false
not_less word other e = ap is_lt (nat_list_cmp_total.antisymm other word ∙ ap ordering_reverse e)

-- the first unknown key comes after a word, where all do
first_behind : (keys : List Key) (word : String Global) (es : List (String Global × Value)) (other : List ℕ) → AllByRecursion (λ y. string_cmp word y ≡ Less) (keys_of es)
    → first_unknown keys (members_view es) ≡ Some other → slice_cmp nat_cmp (string_bytes word) other ≡ Less
first_behind keys word [] other below e = absurd cc
first_behind keys word (x ∷ es) other below e =
    (elim (is_key keys (string_bytes x.0)) as (λ (b : Bool). cond b (first_unknown keys (members_view es)) (Some (string_bytes x.0)) ≡ Some other → slice_cmp nat_cmp (string_bytes word) other ≡ Less) [
      | true ↦ first_behind keys word es other below.1
      | false ↦ λ is. subst (λ (w : List ℕ). slice_cmp nat_cmp (string_bytes word) w ≡ Less) (same_Some (string_bytes x.0) other is) below.0
    ]) e

stays : (word : List ℕ) (o : Option (List ℕ)) → ((other : List ℕ) → o ≡ Some other → slice_cmp nat_cmp word other ≡ Less) → lesser word o ≡ word
stays word None behind = refl
stays word (Some other) behind = ap (λ b. cond b other word) (not_less word other (behind other refl))

pub first_is_least : (keys : List Key) (es : List (String Global × Value)) → IsStrictlySortedBy string_cmp (keys_of es) → least_unknown keys (members_view es) ≡ first_unknown keys (members_view es)
unfolding IsStrictlySortedBy
first_is_least keys [] sorted = refl
first_is_least keys (x ∷ es) sorted =
    let more = first_is_least keys es sorted.1 in
    elim (is_key keys (string_bytes x.0)) as (λ (b : Bool). cond b (least_unknown keys (members_view es)) (Some (lesser (string_bytes x.0) (least_unknown keys (members_view es))))
    ≡ cond b (first_unknown keys (members_view es)) (Some (string_bytes x.0))) [
      | true ↦ more
      | false ↦ ap Some (ap (lesser (string_bytes x.0)) more
          ∙ stays (string_bytes x.0) (first_unknown keys (members_view es)) (λ other. first_behind keys x.0 es other sorted.0))
    ]
