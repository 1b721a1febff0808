use Rattle.std.proofs.Common.{◌≡◌, ℕ, Bool, List, [], take, drop, map}
use Rattle.std.specs.Prelude.{bytes_eq, Some}
use Rattle.std.specs.List.{list_any}
use Rattle.std.specs.Ordering.{is_eq, nat_cmp}
use Rattle.std.specs.Cmp.Lexicographic.{slice_cmp}
use Rattle.guard_tagging.specs.Faults.{repeated, same_number}
use Rattle.guard_tagging.specs.inside.ReadNames.{signed_key, has_number}
use Rattle.guard_tagging.specs.inside.Views.{place_view}
use Rattle.guard_tagging.proofs.names.first_repeated.Given as goal

abbrev pub invariant-loop-placed : goal.invariant-loop-placed
invariant-loop-placed l = record {
  names : (q : List ℕ) → list_any (λ k. is_eq
      (slice_cmp nat_cmp q k.now)) l.names.keys
      ≡ list_any (λ p. bytes_eq q p.name) (map place_view (take l.placed-index l.all));
  numbers : (q : Bool × ℕ) → has_number l.numbers.keys (Some q) ≡ list_any (λ p. same_number
      (Some (signed_key q)) p.number) (map place_view (take l.placed-index l.all));
  so_far : repeated (map place_view (take l.placed-index l.all)) (map place_view (drop l.placed-index l.all))
      ≡ repeated [] (map place_view l.all);
}
