-- What a call answers, unless memory runs out.
use Rattle.std.specs.Prelude.{◌≡◌, Option, Some, None, Result, Ok, Err}

infixl 10 ◌>>=◌
abbrev pub ◌>>=◌ : {A B F : Type 0} → Result A F → (A → Result B F) → Result B F
(Ok x) >>= f = f x
(Err e) >>= f = Err e

-- A call that refuses names the fault of the answer. Where memory ran out it names none, and any answer is allowed.
abbrev pub Refuses : {Y F : Type 0} → Option F → Result Y F → Type 0
Refuses None answer = Unit {0}
Refuses (Some f) answer = answer ≡ Err f

-- The call gives this answer unless memory ran out. `value` takes what the call returned to what the definitions
-- use, and `fault` does so with its error.
abbrev pub Gives : {X Y E F : Type 0} → (X → Y) → (E → Option F) → Result X E → Result Y F → Type 0
Gives value fault (Ok x) answer = answer ≡ Ok (value x)
Gives value fault (Err e) answer = Refuses (fault e) answer
