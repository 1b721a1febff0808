-- What is known of a fault by whether it has a name.
use Rattle.std.proofs.Common.{◌≡◌, ◌≢◌, refl, sym, ap}
use Rattle.std.proofs.lemmas.Bool.{false≢true}
use Rattle.std.specs.Prelude.{IsTrue, IfSome, Option, None, Some, Ok, is_some}
use Rattle.std.specs.Result.{is_ok}
use Rattle.guard_model.specs.Answer.{Refuses}

pub some_is_there : {A : Type 0} (o : Option A) → IsTrue (is_some o) → o ≢ None
some_is_there None there same = false≢true there
some_is_there (Some x) there same = false≢true (sym (ap is_some same))

-- what holds whether or not there is a value
pub if_some_of : {A : Type 0} {P : Type 0} (o : Option A) → P → IfSome o (λ _. P)
if_some_of None holds = tt
if_some_of (Some x) holds = holds

-- a call that gives this answer refuses only where memory ran out
pub unnamed : {Y F : Type 0} (fault : Option F) (answer : Y) → Refuses fault (Ok answer) → fault ≡ None
unnamed None answer any = refl
unnamed (Some f) answer same = absurd (false≢true (sym (ap is_ok same)))
