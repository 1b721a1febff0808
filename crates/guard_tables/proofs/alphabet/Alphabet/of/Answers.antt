use Rattle.std.proofs.Common.{rules, sym, ap, ◌∙◌, ℕ, subst, List}
use Rattle.std.proofs.lemmas.List.Sorted.{IsNonDecreasingBy-from_sort_by_key, list_any-IsPermutation}
use Rattle.std.specs.Int.{is_in_range}
use Rattle.std.specs.List.Sorted.{IsNonDecreasingBy}
use Rattle.guard_eval.specs.Elements.{is_in_some}
use Rattle.guard_tables.proofs.alphabet.Alphabet.of.Goals as goal

pub joined-requires : goal.joined-requires
joined-requires c =
    let rising = IsNonDecreasingBy-from_sort_by_key (λ (r : ℕ × ℕ). r.0) _ c.sort_unstable_by_key.ensures.sorted (λ a r q k. search rules) in
    subst (λ (rs : List (ℕ × ℕ)). IsNonDecreasingBy (λ r. r.0) rs) (sym c.deref.ensures.value) rising

pub returns : goal.returns
returns c = λ x.
    c.in_ok-ranges.ensures.same x
    ∙ ap (λ (rs : List (ℕ × ℕ)). is_in_some rs x) c.deref.ensures.value
    ∙ sym (list_any-IsPermutation (λ (r : ℕ × ℕ). is_in_range r.0 r.1 x) _ _ c.sort_unstable_by_key.ensures.permutation)
    ∙ ap (λ (rs : List (ℕ × ℕ)). is_in_some rs x) c.in_ok-ordered.ensures.items
