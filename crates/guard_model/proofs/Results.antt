-- Answers of steps that may fail.
use Rattle.std.proofs.Common.{◌≡◌, Bool, true, false, cond, Option, Some, None, Result, Ok, Err, refl, inl, inr, ◌⊎◌}
use Rattle.guard_model.specs.Answer.{◌>>=◌, Refuses}

pub same_Ok : {A F : Type 0} (x y : A) → ◌≡◌ {A = Result A F} (Ok x) (Ok y) → x ≡ y
same_Ok x y e = cc

pub same_Err : {A F : Type 0} (f g : F) → ◌≡◌ {A = Result A F} (Err f) (Err g) → f ≡ g
same_Err f g e = cc

-- ---- two steps, one after the other

pub bind_ok : {A B F : Type 0} (step : Result A F) (next : A → Result B F) (y : B) → (step >>= next) ≡ Ok y → (x : A) × (step ≡ Ok x) × (next x ≡ Ok y)
bind_ok (Ok x) next y e = (x, refl, e)
bind_ok (Err f) next y e = absurd cc

pub bind_err : {A B F : Type 0} (step : Result A F) (next : A → Result B F) (f : F) → (step >>= next) ≡ Err f → (step ≡ Err f) ⊎ ((x : A) × (step ≡ Ok x) × (next x ≡ Err f))
bind_err (Ok x) next f e = inr (x, refl, e)
bind_err (Err g) next f e = inl cc

-- where the second step can't fail
pub made_ok : {A B F : Type 0} (step : Result A F) (make : A → B) (y : B) → (step >>= λ x. Ok (make x)) ≡ Ok y → (x : A) × (step ≡ Ok x) × (make x ≡ y)
made_ok (Ok x) make y e = (x, refl, cc)
made_ok (Err f) make y e = absurd cc

pub made_err : {A B F : Type 0} (step : Result A F) (make : A → B) (f : F) → (step >>= λ x. Ok (make x)) ≡ Err f → step ≡ Err f
made_err (Ok x) make f e = absurd cc
made_err (Err g) make f e = cc

-- a refusal of the first step refuses both
pub refuses_bind : {A B F : Type 0} (fault : Option F) (step : Result A F) (next : A → Result B F) → Refuses fault step → Refuses fault (step >>= next)
refuses_bind None step next refused = tt
refuses_bind (Some f) step next refused = rw refused refl

-- ---- a test before the step

pub guard_ok : {A F : Type 0} (wrong : Bool) (f : F) (step : Result A F) (y : A) → cond wrong (Err f) step ≡ Ok y → (wrong ≡ false) × (step ≡ Ok y)
guard_ok true f step y e = absurd cc
guard_ok false f step y e = (refl, e)

pub guard_err : {A F : Type 0} (wrong : Bool) (f g : F) (step : Result A F) → cond wrong (Err f) step ≡ Err g → ((wrong ≡ true) × (f ≡ g)) ⊎ ((wrong ≡ false) × (step ≡ Err g))
guard_err true f g step e = inl (refl, cc)
guard_err false f g step e = inr (refl, e)
