-- What calls do to a handle that holds a policy. `old` and `new` are what a handle holds before a call and after it.
use Rattle.std.specs.Prelude.{◌≡◌, ◌≢◌, ◌⊎◌, ℕ, List, [], Option, None, Some}
use Rattle.guard_frames.specs.Texts.{SayPolicy, SayNone, named}
use Rattle.guard_frames.specs.declared.texts.TextsFault.{TextsFault}
use Rattle.guard_policy.specs.Policies.{AbstractPolicy}
use Rattle.guard_c.specs.declared.held.Held.{Held}
use Rattle.guard_c.specs.declared.status.Status.{Status}
use Rattle.guard_c.specs.declared.status.Status.TheVariants.{Done, Refused, OutOfMemory, NoPolicy}
use Rattle.guard_c.specs.Holding.{policy_of}
use Rattle.guard_c.specs.Telling.{IsPut}

-- ---- loading

-- what is told of a fault: its text, unless memory ran out
abbrev pub IsRefusal : TextsFault → List ℕ → List ℕ → ℕ → Status → Type 0
IsRefusal why buffer out needed Refused = (named why ≢ None) × ((said : List ℕ) × IsPut said buffer out needed)
IsRefusal why buffer out needed OutOfMemory = IsPut [] buffer out needed
IsRefusal why buffer out needed _ = ⊥

-- The texts say this policy, and it is held.
pub record LoadsPolicy (modules : List (List ℕ)) (text : List ℕ) (new : Option Held) (buffer out : List ℕ) (needed : ℕ)
    (status : Status) : Type 0 where
  pub policy : AbstractPolicy
  pub said : SayPolicy modules text policy
  pub held : policy_of new ≡ Some policy
  pub untold : IsPut [] buffer out needed
  pub done : status ≡ Done

-- The texts say no policy, or memory ran out; what was held is held.
pub record LoadsNone (modules : List (List ℕ)) (text : List ℕ) (old new : Option Held) (buffer out : List ℕ)
    (needed : ℕ) (status : Status) : Type 0 where
  pub why : TextsFault
  pub none : SayNone modules text why
  pub same : new ≡ old
  pub told : IsRefusal why buffer out needed status

abbrev pub HasLoaded : List (List ℕ) → List ℕ → Option Held → Option Held → List ℕ → List ℕ → ℕ → Status → Type 0
HasLoaded modules text old new buffer out needed status =
    LoadsPolicy modules text new buffer out needed status ⊎ LoadsNone modules text old new buffer out needed status

-- ---- sharing

-- why nothing is shared
abbrev pub IsUnshared : Option AbstractPolicy → Status → Type 0
IsUnshared policy OutOfMemory = policy ≢ None
IsUnshared policy NoPolicy = policy ≡ None
IsUnshared policy _ = ⊥

-- A handle was to hold the policy that another one holds.
abbrev pub HasShared : Option AbstractPolicy → Option Held → Option Held → Status → Type 0
HasShared policy old new status =
    ((status ≡ Done) × (policy ≢ None) × (policy_of new ≡ policy)) ⊎ (IsUnshared policy status × (new ≡ old))
