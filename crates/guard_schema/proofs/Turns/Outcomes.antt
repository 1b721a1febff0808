-- Outcomes of steps: how they are reached, and that there is one at most.
use Rattle.std.proofs.Common.{◌≡◌, inl, inr, Bool, true, false, Option, Some, None, Result, Ok, Err, refl, sym, subst}
use Rattle.std.proofs.Common.{◌∙◌}
use Rattle.std.specs.Prelude.{IsTrue}
use Rattle.guard_model.proofs.Results.{same_Ok, same_Err}
use Rattle.guard_schema.specs.Outcomes.{Is, Passes, Then, RefusesBy, Answers}
use Rattle.guard_schema.specs.Faults.{AbstractFault, Outcome}
use Rattle.guard_schema.specs.OneAnswer.{SameFault, IsDecided}

-- ---- reached

module _ {A B F : Type 0} (First : Result A F → Type 0) (Next : A → Result B F → Type 0) where
  pub first_refuses : (fault : Option F) → RefusesBy fault First → RefusesBy fault (Then First Next)
  first_refuses None h = tt
  first_refuses (Some f) h = inr (f, h, refl)

  pub next_refuses : (x : A) → First (Ok x) → (fault : Option F) → RefusesBy fault (Next x)
      → RefusesBy fault (Then First Next)
  next_refuses x h None k = tt
  next_refuses x h (Some f) k = inl (x, h, k)

  pub next_answers : {X E : Type 0} (value : X → B) (fault : E → Option F) (x : A) → First (Ok x)
      → (result : Result X E) → Answers value fault result (Next x) → Answers value fault result (Then First Next)
  next_answers value fault x h (Ok y) k = inl (x, h, k)
  next_answers value fault x h (Err e) k = next_refuses x h (fault e) k

-- an outcome that leads to another one, by its Ok and its faults
pub led : {X Y E F : Type 0} (value : X → Y) (fault : E → Option F) (result : Result X E)
    (From To : Result Y F → Type 0) → ((answer : Result Y F) → From answer → To answer)
    → Answers value fault result From → Answers value fault result To
led value fault (Ok x) From To go h = go (Ok (value x)) h
led value fault (Err e) From To go h = by (fault e) h
  where
    by : (f : Option _) → RefusesBy f From → RefusesBy f To
    by None h = tt
    by (Some f) h = go (Err f) h

pub refused : {Y F : Type 0} (fault : Option F) (From To : Result Y F → Type 0)
    → ((answer : Result Y F) → From answer → To answer) → RefusesBy fault From → RefusesBy fault To
refused None From To go h = tt
refused (Some f) From To go h = go (Err f) h

-- a step that makes something of what a step before it answers
pub flattened : {A B C F : Type 0} (First : Result A F → Type 0) (make : A → B) (Next : B → Result C F → Type 0)
    (answer : Result C F)
    → Then (Then First (λ x. Is (make x))) Next answer → Then First (λ x. Next (make x)) answer
flattened First make Next answer (inl (y, inl (x, h, e), k)) =
    inl (x, h, subst (λ z. Next z answer) (same_Ok y (make x) e) k)
flattened First make Next answer (inl (y, inr (f, h, e), k)) = absurd cc
flattened First make Next answer (inr (g, inl (x, h, e), k)) = absurd cc
flattened First make Next answer (inr (g, inr (f, h, e), k)) = inr (f, h, k ∙ cc)

-- ---- one at most

pub is_decided : {A : Type 0} (x : A) → IsDecided {A = A} (Is x)
is_decided x = record {
  one = λ y z h k. same_Ok _ _ (h ∙ sym k);
  alone = λ y f h k. absurd cc;
  first =
      λ f g h k. absurd cc;
}

pub passes_decided : (test : Bool) (fault : AbstractFault) → IsDecided (Passes test fault)
passes_decided test fault = record {
  one = λ x y h k. refl;
  alone = λ x f h k. absurd (differ test h k.1);
  first =
      λ f g h k. inl (h.0 ∙ sym k.0);
}
  where
    differ : (b : Bool) → IsTrue b → b ≡ false → ⊥
    differ true h e = cc
    differ false h e = cc

pub then_decided : {A B : Type 0} (First : Outcome A → Type 0) (Next : A → Outcome B → Type 0) → IsDecided First
    → ((x : A) → IsDecided (Next x)) → IsDecided (Then First Next)
then_decided {A} {B} First Next decided next = record { one = one; alone = alone; first = first }
  where
    one : (x y : B) → Then First Next (Ok x) → Then First Next (Ok y) → x ≡ y
    one x y (inl (a, h, k)) (inl (b, i, l)) = (next b).one x y (subst (λ c. Next c (Ok x)) (decided.one a b h i) k) l
    one x y (inl _) (inr (f, h, e)) = absurd cc
    one x y (inr (f, h, e)) _ = absurd cc

    alone : (x : B) (f : AbstractFault) → Then First Next (Ok x) → Then First Next (Err f) → ⊥
    alone x f (inl (a, h, k)) (inl (b, i, l)) =
        (next b).alone x f (subst (λ c. Next c (Ok x)) (decided.one a b h i) k) l
    alone x f (inl (a, h, k)) (inr (g, i, e)) = decided.alone a g h i
    alone x f (inr (g, h, e)) _ = absurd cc

    first : (f g : AbstractFault) → Then First Next (Err f) → Then First Next (Err g) → SameFault f g
    first f g (inl (a, h, k)) (inl (b, i, l)) =
        (next b).first f g (subst (λ c. Next c (Err f)) (decided.one a b h i) k) l
    first f g (inl (a, h, k)) (inr (m, i, e)) = absurd (decided.alone a m h i)
    first f g (inr (n, h, d)) (inl (b, i, l)) = absurd (decided.alone b n i h)
    first f g (inr (n, h, d)) (inr (m, i, e)) =
        subst (λ x. SameFault x g) (sym (same_Err f n d))
        (subst (λ x. SameFault n x) (sym (same_Err g m e)) (decided.first n m h i))

-- what is found in one way at most, and then is decided
pub found_decided : {X A : Type 0} (Found : X → Type 0) (Answer : X → Outcome A → Type 0)
    → ((x y : X) → Found x → Found y → x ≡ y) → ((x : X) → IsDecided (Answer x))
    → IsDecided {A = A} (λ answer. (x : X) × Found x × Answer x answer)
found_decided {X} {A} Found Answer same decided = record {
  one = λ a b h k. (decided k.0).one a b (subst (λ x. Answer x (Ok a)) (same h.0 k.0 h.1 k.1) h.2) k.2;
  alone = λ a f h k. (decided k.0).alone a f (subst (λ x. Answer x (Ok a)) (same h.0 k.0 h.1 k.1) h.2) k.2;
  first = λ f g h k. (decided k.0).first f g (subst (λ x. Answer x (Err f)) (same h.0 k.0 h.1 k.1) h.2) k.2;
}
