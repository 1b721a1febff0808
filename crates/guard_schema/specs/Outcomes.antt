-- What is made of something step by step, or the first fault on the way, as relations: what is denoted and which fault
-- is the first are said at once.
use Rattle.std.specs.Prelude.{◌≡◌, ◌⊎◌, Bool, false, Option, Some, None, Result, Ok, Err, IsTrue}

-- it is this, without a fault
abbrev pub Is : {A F : Type 0} → A → Result A F → Type 0
Is x answer = answer ≡ Ok x

-- the test passes, or this is the fault
abbrev pub Passes : {F : Type 0} → Bool → F → Result (Unit {0}) F → Type 0
Passes test fault (Ok _) = IsTrue test
Passes test fault (Err f) = (f ≡ fault) × (test ≡ false)

-- the first step, and then the next one with what came of it; a fault of the first one comes before all of the next one
abbrev pub Then : {A B F : Type 0} → (Result A F → Type 0) → (A → Result B F → Type 0) → Result B F → Type 0
Then {A} {B} {F} First Next answer = ((x : A) × First (Ok x) × Next x answer)
    ⊎ ((f : F) × First (Err f) × (answer ≡ Err f))

-- a refusal by this fault, where it names one: none is named where memory ran out
abbrev pub RefusesBy : {Y F : Type 0} → Option F → (Result Y F → Type 0) → Type 0
RefusesBy None Outcome = Unit {0}
RefusesBy (Some f) Outcome = Outcome (Err f)

-- The call's answer is such an outcome, unless memory ran out. `value` sees what it returned as the definitions do,
-- `fault` its refusal.
abbrev pub Answers : {X Y E F : Type 0} → (X → Y) → (E → Option F) → Result X E → (Result Y F → Type 0) → Type 0
Answers value fault (Ok x) Outcome = Outcome (Ok (value x))
Answers value fault (Err e) Outcome = RefusesBy (fault e) Outcome
