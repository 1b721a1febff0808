-- What is read agrees with what is denoted and with the first check that fails: how that is put together from steps.
use Rattle.std.proofs.Common.{◌≡◌, Bool, true, false, List, [], ◌∷◌, ◌++◌, Option, Some, None, Ok, Err, refl, cond, subst, sym, ◌∙◌, inl, inr}
use Rattle.std.specs.Prelude.{IsTrue}
use Rattle.std.specs.Option.{option_or}
use Rattle.guard_model.specs.Answer.{◌>>=◌}
use Rattle.guard_model.specs.AbstractType.{AbstractType}
use Rattle.guard_values.specs.Meanings.{Meaning}
use Rattle.guard_values.proofs.FirstFaults.WholeValues.{one_first}
use Rattle.guard_constraints.specs.declared.fault.ConsFault.{ConsFault}
use Rattle.guard_constraints.specs.Faults.{unless}
use Rattle.guard_constraints.specs.FirstFault.{Check, element_has, value_under, HasFault, IsOfFirst}
use Rattle.guard_constraints.specs.inside.Reading.{Read, demanded, unless_fault}

-- no check fails
abbrev pub Pass : Meaning → List Check → Type 0
Pass m [] = Unit
Pass m (element_has None ∷ rest) = Pass m rest
Pass m (element_has (Some f) ∷ rest) = ⊥
Pass m (value_under t tree ∷ rest) = (HasFault m t tree → ⊥) × Pass m rest

pub passed_none : (m : Meaning) (cs : List Check) (f : ConsFault) → Pass m cs → IsOfFirst m cs f → ⊥
passed_none m [] f p h = h
passed_none m (element_has None ∷ rest) f p h = passed_none m rest f p h
passed_none m (element_has (Some g) ∷ rest) f p h = p
passed_none m (value_under t tree ∷ rest) f p (inl h) = p.0 (h.0, h.1)
passed_none m (value_under t tree ∷ rest) f p (inr h) = passed_none m rest f p.1 h.1

pub one_of_first : (m : Meaning) (cs : List Check) (f g : ConsFault) → IsOfFirst m cs f → IsOfFirst m cs g → f ≡ g
one_of_first m [] f g h k = absurd h
one_of_first m (element_has None ∷ rest) f g h k = one_of_first m rest f g h k
one_of_first m (element_has (Some e) ∷ rest) f g h k = h ∙ sym k
one_of_first m (value_under t tree ∷ rest) f g (inl h) (inl k) = let same = one_first m tree t h.0 k.0 h.1 k.1 in cc
one_of_first m (value_under t tree ∷ rest) f g (inl h) (inr k) = absurd (k.0 (h.0, h.1))
one_of_first m (value_under t tree ∷ rest) f g (inr h) (inl k) = absurd (h.0 (k.0, k.1))
one_of_first m (value_under t tree ∷ rest) f g (inr h) (inr k) = one_of_first m rest f g h.1 k.1

in_front : (m : Meaning) (cs ds : List Check) (f : ConsFault) → IsOfFirst m cs f → IsOfFirst m (cs ++ ds) f
in_front m [] ds f h = absurd h
in_front m (element_has None ∷ rest) ds f h = in_front m rest ds f h
in_front m (element_has (Some g) ∷ rest) ds f h = h
in_front m (value_under t tree ∷ rest) ds f (inl h) = inl h
in_front m (value_under t tree ∷ rest) ds f (inr h) = inr (h.0, in_front m rest ds f h.1)

after_passed : (m : Meaning) (cs ds : List Check) (f : ConsFault) → Pass m cs → IsOfFirst m ds f → IsOfFirst m (cs ++ ds) f
after_passed m [] ds f p h = h
after_passed m (element_has None ∷ rest) ds f p h = after_passed m rest ds f p h
after_passed m (element_has (Some g) ∷ rest) ds f p h = absurd p
after_passed m (value_under t tree ∷ rest) ds f p h = inr (p.0, after_passed m rest ds f p.1 h)

both_passed : (m : Meaning) (cs ds : List Check) → Pass m cs → Pass m ds → Pass m (cs ++ ds)
both_passed m [] ds p q = q
both_passed m (element_has None ∷ rest) ds p q = both_passed m rest ds p q
both_passed m (element_has (Some g) ∷ rest) ds p q = p
both_passed m (value_under t tree ∷ rest) ds p q = (p.0, both_passed m rest ds p.1 q)

-- ---- what is read of what is checked

-- What is read has the property, and no check fails; or the fault that is read is that of the first one that does.
abbrev pub Agrees : {A : Type 0} → Meaning → (A → Type 0) → Read A → List Check → Type 0
Agrees m D (Ok x) cs = Pass m cs × D x
Agrees m D (Err f) cs = IsOfFirst m cs f

module _ (m : Meaning) where
  agrees_after : {A : Type 0} (D : A → Type 0) (r : Read A) (cs ds : List Check) → Pass m cs → Agrees m D r ds → Agrees m D r (cs ++ ds)
  agrees_after D (Ok x) cs ds p h = (both_passed m cs ds p h.0, h.1)
  agrees_after D (Err f) cs ds p h = after_passed m cs ds f p h

  agrees_still : {A : Type 0} (D : A → Type 0) (r : Read A) (cs : List Check) → Pass m cs → Agrees m D r [] → Agrees m D r cs
  agrees_still D (Ok x) cs p h = (p, h.1)
  agrees_still D (Err f) cs p h = absurd h

  -- where an element has no fault
  pub free_agrees : {A : Type 0} (D : A → Type 0) (r : Read A) (cs : List Check) → Agrees m D r cs → Agrees m D r (element_has None ∷ cs)
  free_agrees D (Ok x) cs h = h
  free_agrees D (Err f) cs h = h

  pub then_agrees : {A B : Type 0} (D : A → Type 0) (E : B → Type 0) (r : Read A) (next : A → Read B) (cs ds : List Check)
      → Agrees m D r cs → ((x : A) → D x → Agrees m E (next x) ds) → Agrees m E (r >>= next) (cs ++ ds)
  then_agrees D E (Ok x) next cs ds h k = agrees_after E (next x) cs ds h.0 (k x h.1)
  then_agrees D E (Err f) next cs ds h k = in_front m cs ds f h

  pub made_agrees : {A B : Type 0} (D : A → Type 0) (E : B → Type 0) (r : Read A) (make : A → B) (cs : List Check)
      → Agrees m D r cs → ((x : A) → D x → E (make x)) → Agrees m E (r >>= λ x. Ok (make x)) cs
  made_agrees D E (Ok x) make cs h k = (h.0, k x h.1)
  made_agrees D E (Err f) make cs h k = h

  -- where the next step refuses nothing by itself
  pub passed_agrees : {A B : Type 0} (D : A → Type 0) (E : B → Type 0) (r : Read A) (next : A → Read B) (cs : List Check)
      → Agrees m D r cs → ((x : A) → D x → Agrees m E (next x) []) → Agrees m E (r >>= next) cs
  passed_agrees D E (Ok x) next cs h k = agrees_still E (next x) cs h.0 (k x h.1)
  passed_agrees D E (Err f) next cs h k = h

  -- a test of an element, and what else may be at fault about it
  pub demanded_agrees : {B : Type 0} (E : B → Type 0) (b : Bool) (fault : ConsFault) (next : Unit {0} → Read B) (found : Option ConsFault) (cs : List Check)
      → (IsTrue b → Agrees m E (next tt) (element_has found ∷ cs)) → Agrees m E (demanded b fault >>= next) (element_has (option_or (unless b fault) found) ∷ cs)
  demanded_agrees E true fault next found cs k = k refl
  demanded_agrees E false fault next found cs k = refl

  -- a test that is all that there is to it
  pub tested_agrees : {B : Type 0} (E : B → Type 0) (b : Bool) (fault : ConsFault) (next : Unit {0} → Read B) (cs : List Check)
      → (IsTrue b → Agrees m E (next tt) cs) → Agrees m E (demanded b fault >>= next) (element_has (unless b fault) ∷ cs)
  tested_agrees E true fault next cs k = free_agrees E (next tt) cs (k refl)
  tested_agrees E false fault next cs k = refl

  pub made_unless : {B : Type 0} (E : B → Type 0) (fault : Option ConsFault) (y : B) → (fault ≡ None → E y)
      → Agrees m E (unless_fault fault >>= λ _. Ok y) (element_has fault ∷ [])
  made_unless E None y k = (tt, k refl)
  made_unless E (Some f) y k = refl

  -- a type that is there where the test passes
  pub typed_agrees : {B : Type 0} (E : B → Type 0) (b : Bool) (fault : ConsFault) (t : AbstractType) (next : AbstractType → Read B) (cs : List Check)
      → (IsTrue b → Agrees m E (next t) cs) → Agrees m E (cond {A = Read AbstractType} b (Ok t) (Err fault) >>= next) (element_has (option_or (unless b fault) None) ∷ cs)
  typed_agrees E true fault t next cs k = free_agrees E (next t) cs (k refl)
  typed_agrees E false fault t next cs k = refl

  -- a test, and what may be at fault after it
  pub checked_agrees : {B : Type 0} (E : B → Type 0) (b : Bool) (fault : ConsFault) (found : Option ConsFault) (next : Unit {0} → Read B) (cs : List Check)
      → (IsTrue b → found ≡ None → Agrees m E (next tt) cs) → Agrees m E ((demanded b fault >>= λ _. unless_fault found) >>= next) (element_has (option_or (unless b fault) found) ∷ cs)
  checked_agrees E true fault None next cs k = free_agrees E (next tt) cs (k refl refl)
  checked_agrees E true fault (Some f) next cs k = refl
  checked_agrees E false fault found next cs k = refl

  -- ---- what follows of an agreement

  pub read_denoted : {A : Type 0} (D : A → Type 0) (r : Read A) (cs : List Check) (x : A) → Agrees m D r cs → r ≡ Ok x → Pass m cs × D x
  read_denoted {A = A} D r cs x h e = let P : Read A → Type 0 = λ s. Agrees m D s cs in subst P e h

  pub read_fault : {A : Type 0} (D : A → Type 0) (r : Read A) (cs : List Check) (f : ConsFault) → Agrees m D r cs → r ≡ Err f → IsOfFirst m cs f
  read_fault {A = A} D r cs f h e = let P : Read A → Type 0 = λ s. Agrees m D s cs in subst P e h
