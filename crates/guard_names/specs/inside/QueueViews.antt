-- What holds of a queue of the code.
use Rattle.std.specs.Prelude.{◌≡◌, ℕ, ◌+◌, List, [], length, map, nat_eq, count_by, sum_by}
use Rattle.std.specs.BinaryHeap.{heap_items}
use Rattle.std.specs.declared.cmp.Reverse.{Reverse}
use Rattle.guard_names.specs.declared.order.Queue.{Queue}
use Rattle.guard_names.specs.Order.{Follow}
use Rattle.guard_names.specs.inside.Queues.{UsesIn, ArePlaced, AreFlags}

-- how often a number is ready
abbrev pub times_ready : List (Reverse ℕ) → ℕ → ℕ
times_ready ready k = count_by (λ r. nat_eq k r.0) ready

-- how many definitions aren't listed
abbrev pub left_in : Queue → ℕ
left_in q = length (heap_items q.ready) + sum_by (λ v. length v.items) q.waiting.items

module _ (us : List (List ℕ)) where
  pub record IsSized (q : Queue) : Type 0 where
    pub flags : AreFlags us q.listed.items q.order.items
    pub waiting : length q.waiting.items ≡ length us

  abbrev pub ArePlacedIn : Queue → (ℕ → ℕ) → Type 0
  ArePlacedIn q underway =
      ArePlaced us q.order.items (times_ready (heap_items q.ready)) (map (λ v. v.items) q.waiting.items) underway

  -- Each definition is in one place, and the listed ones follow one another as in the order.
  pub record IsQueue (q : Queue) : Type 0 where
    pub sized : IsSized q
    pub placed : ArePlacedIn q (λ _. 0)
    pub follow : Follow (length us) (UsesIn us) [] q.order.items
