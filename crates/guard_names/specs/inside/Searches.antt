-- A search through chains of uses, as the code keeps it: marks of definitions, a path cut into parts, and uses that
-- aren't followed yet.
use Rattle.std.specs.Prelude.{◌≡◌, ◌⊎◌, ℕ, ◌+◌, ◌-◌, ◌<◌, ◌≤◌, Bool, true, false, List, [], ◌∷◌, ◌++◌, length, take, slice_index_or, Contains, Option, Some, None, nat_le, nat_lt, if◌then◌else◌, fold}
use Rattle.std.specs.List.{AllPairs}
use Rattle.guard_names.specs.declared.recursion.Mark.{Mark}
use Rattle.guard_names.specs.declared.recursion.Mark.TheVariants.{New, OnPath, Done}
use Rattle.guard_names.specs.declared.recursion.Part.{Part}
use Rattle.guard_names.specs.declared.recursion.Pending.{Pending}
use Rattle.guard_names.specs.Order.{Leads, IsRecursive}
use Rattle.guard_names.specs.inside.Queues.{UsesIn}

-- the second is the first, or a chain of uses leads from the first to it
abbrev pub Reaches : (ℕ → ℕ → Type 0) → ℕ → ℕ → Type 0
Reaches uses a b = (a ≡ b) ⊎ Leads uses a b

abbrev pub no_part : Part
no_part = record { start = 0; cyclic = false }

-- the part in which a place is: the last one that starts there or before
abbrev pub part_at : List Part → ℕ → Part
part_at parts place = fold (λ found p. if nat_le p.start place then p else found) no_part parts

-- the first part starts at the path's first place
abbrev pub StartsFirst : List Part → ℕ → Type 0
StartsFirst [] len = len ≡ 0
StartsFirst (p ∷ ps) len = p.start ≡ 0

-- each part starts after the one before it, and before the path's end
abbrev pub Rises : ℕ → List Part → ℕ → Type 0
Rises low [] len = low ≤ len
Rises low (p ∷ ps) len = (low ≤ p.start) × Rises (p.start + 1) ps len

-- the part with this place takes in those after it, and is cyclic
pub record Joins (parts : List Part) (place : ℕ) (joined : List Part) : Type 0 where
  pub last : ℕ
  pub here : last < length parts
  pub start : (slice_index_or parts last no_part).start ≤ place
  pub after : (i : ℕ) → last < i → i < length parts → place < (slice_index_or parts i no_part).start
  pub is : joined ≡ take last parts ++ record { start = (slice_index_or parts last no_part).start; cyclic = true } ∷ []

-- one of the last part uses it
pub record IsUsedFrom (us : List (List ℕ)) (path : List ℕ) (parts : List Part) (used : ℕ) : Type 0 where
  pub from : ℕ
  pub here : from < length path
  pub last : (part_at parts (length path - 1)).start ≤ from
  pub uses : UsesIn us (slice_index_or path from 0) used

-- the lesser one, where there is one
abbrev pub lesser : Option ℕ → ℕ → Option ℕ
lesser None n = Some n
lesser (Some m) n = if nat_lt n m then Some n else Some m

-- of each new definition one, and one for each that it uses
abbrev pub new_left : List Mark → List (List ℕ) → ℕ
new_left [] us = 0
new_left (m ∷ ms) [] = 0
new_left (New ∷ ms) (u ∷ us) = 1 + length u + new_left ms us
new_left (OnPath q ∷ ms) (u ∷ us) = new_left ms us
new_left (Done ∷ ms) (u ∷ us) = new_left ms us

module _
    (us : List (List ℕ)) (len : ℕ) (node : ℕ → ℕ) (start : ℕ → ℕ) (cyclic : ℕ → Bool)
    (pending : List Pending) (mark : ℕ → Mark) where
  -- the use of a definition on the path is followed
  pub data IsFollowed (place used : ℕ) : Type 0 where
    -- what is used is left
    left : mark used ≡ Done → IsFollowed place used
    -- the use is still to be followed
    pending_use : Contains pending (record { place = place; used = used }) → IsFollowed place used
    -- what is used is on the path, in the same part, which is cyclic then, or in a later one
    on_path : (other : ℕ) → other < len → node other ≡ used → start place ≤ start other
        → (start place ≡ start other → cyclic place ≡ true) → IsFollowed place used

  -- what holds of a search, where all uses are followed but those of one
  pub record IsPath (excepted : ℕ → Type 0) : Type 0 where
    pub marked : (q : ℕ) → q < len → mark (node q) ≡ OnPath q
    pub inside : (q : ℕ) → q < len → node q < length us
    pub at_place : (k q : ℕ) → mark k ≡ OnPath q → (q < len) × (node q ≡ k)
    pub ahead : (p q : ℕ) → p < q → q < len → Leads (UsesIn us) (node p) (node q)
    pub back : (q : ℕ) → q < len → Reaches (UsesIn us) (node q) (node (start q))
    pub below : (q : ℕ) → q < len → start q ≤ q
    pub rising : (p q : ℕ) → p ≤ q → q < len → start p ≤ start q
    pub first_of_part : (q : ℕ) → q < len → start (start q) ≡ start q
    pub same_part : (q : ℕ) → q < len → cyclic (start q) ≡ cyclic q
    pub followed : (q used : ℕ) → q < len → UsesIn us (node q) used → IsFollowed q used ⊎ excepted used
    pub cycles : (q : ℕ) → q < len → cyclic q ≡ true → IsRecursive (UsesIn us) (node q)
    pub closed : (k used : ℕ) → mark k ≡ Done → UsesIn us k used → mark used ≡ Done
    pub pending_used : (e : Pending) → Contains pending e → (e.place < len) × UsesIn us (node e.place) e.used
    pub pending_rising : AllPairs (λ a b. a.place ≤ b.place) pending

-- the first of the definitions that are left and use themselves
pub record IsLeast (us : List (List ℕ)) (mark : ℕ → Mark) (first : Option ℕ) : Type 0 where
  pub recursive : (k : ℕ) → first ≡ Some k → IsRecursive (UsesIn us) k
  pub least : (k : ℕ) → mark k ≡ Done → IsRecursive (UsesIn us) k → (least : ℕ) × (first ≡ Some least) × (least ≤ k)

-- what holds of a search
pub record IsSearchOf
    (us : List (List ℕ)) (marks : List Mark) (path : List ℕ) (parts : List Part) (pending : List Pending)
    (first : Option ℕ) (excepted : ℕ → Type 0) : Type 0 where
  pub sized : length marks ≡ length us
  pub starts : StartsFirst parts (length path)
  pub rises : Rises 0 parts (length path)
  pub is_path : IsPath us (length path) (λ q. slice_index_or path q 0)
      (λ q. (part_at parts q).start) (λ q. (part_at parts q).cyclic)
      pending (λ k. slice_index_or marks k New) excepted
  pub is_least : IsLeast us (λ k. slice_index_or marks k New) first
