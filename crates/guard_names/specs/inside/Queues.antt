-- Definitions on their way into the order, as the code keeps them: some are listed, some are ready, and the others
-- wait, each for one that it uses and that isn't listed.
use Rattle.std.specs.Prelude.{◌≡◌, ℕ, ◌+◌, ◌<◌, Bool, false, List, [], length, slice_index_or, All, IsTrue, nat_eq, nat_lt, if◌then◌else◌, count_by, sum_by}
use Rattle.guard_names.specs.declared.order.Waiting.{Waiting}
use Rattle.guard_names.specs.Order.{is_listed}

-- how often a number is in a list
abbrev pub times : List ℕ → ℕ → ℕ
times xs k = count_by (nat_eq k) xs

abbrev pub times_waiting : List Waiting → ℕ → ℕ
times_waiting ws k = count_by (λ w. nat_eq k w.number) ws

abbrev pub times_in : List (List Waiting) → ℕ → ℕ
times_in waiting k = sum_by (λ ws. times_waiting ws k) waiting

-- once where two numbers are the same
abbrev pub once_at : ℕ → ℕ → ℕ
once_at a k = if nat_eq k a then 1 else 0

-- `us` has for each definition those that it uses
module _ (us : List (List ℕ)) where
  abbrev pub used_by : ℕ → List ℕ
  used_by number = slice_index_or us number []

  -- the definition of the first number uses that of the second one
  abbrev pub UsesIn : ℕ → ℕ → Type 0
  UsesIn number used = IsTrue (is_listed (used_by number) used)

  -- only definitions are used
  abbrev pub AreInside : Type 0
  AreInside = (number used : ℕ) → UsesIn number used → used < length us

  -- all that it uses is listed
  abbrev pub IsMet : List ℕ → ℕ → Type 0
  IsMet listed number = (used : ℕ) → UsesIn number used → IsTrue (is_listed listed used)

  -- of what it uses all before this place is listed
  abbrev pub IsMetBefore : List ℕ → ℕ → ℕ → Type 0
  IsMetBefore listed number place =
      (i : ℕ) → i < place → IsTrue (is_listed listed (slice_index_or (used_by number) i 0))

  -- the entry waits for this definition, which isn't listed and is at the entry's place among those that it uses
  pub record IsWaitingFor (listed : List ℕ) (used : ℕ) (w : Waiting) : Type 0 where
    pub number : w.number < length us
    pub here : w.met < length (used_by w.number)
    pub is : slice_index_or (used_by w.number) w.met 0 ≡ used
    pub met : IsMetBefore listed w.number w.met
    pub unlisted : is_listed listed used ≡ false

  -- Each definition is in one place: listed, ready, waiting, or on the way as often as `underway` says.
  pub record ArePlaced
      (listed : List ℕ) (ready : ℕ → ℕ) (waiting : List (List Waiting)) (underway : ℕ → ℕ) : Type 0 where
    pub size : length waiting ≡ length us
    pub once : (k : ℕ)
        → times listed k + ready k + times_in waiting k + underway k ≡ (if nat_lt k (length us) then 1 else 0)
    pub ready_met : (k : ℕ) → 0 < ready k → IsMet listed k
    pub waiting_for : (used : ℕ) → All (IsWaitingFor listed used) (slice_index_or waiting used [])

  -- of what the entry's definition uses, all before the entry's place is listed
  pub record IsReleased (listed : List ℕ) (w : Waiting) : Type 0 where
    pub number : w.number < length us
    pub met : IsMetBefore listed w.number w.met

  -- ---- what the code keeps

  -- a flag for each definition, whether it is listed
  pub record AreFlags (flags : List Bool) (listed : List ℕ) : Type 0 where
    pub size : length flags ≡ length us
    pub says : (k : ℕ) → k < length us → slice_index_or flags k false ≡ is_listed listed k
