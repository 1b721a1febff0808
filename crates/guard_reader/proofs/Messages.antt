-- What a pass answers of a whole message.
use Rattle.std.proofs.Common.{◌≡◌, ℕ, ◌^◌, ◌<◌, List, length, Some, Result, Ok, Err, refl, sym, ap, ◌∙◌}
use Rattle.std.specs.Prelude.{IsTrue, option_map}
use Rattle.std.specs.List.{AllByRecursion}
use Rattle.std.proofs.lemmas.Option.{same_Some}
use Rattle.guard_model.specs.AbstractType.{AbstractType, type_of}
use Rattle.guard_model.specs.AbstractValue.{AbstractValue}
use Rattle.guard_model.specs.Kinds.{kind_of}
use Rattle.guard_der.specs.Breach.{AbstractBreach}
use Rattle.guard_der.specs.Der.{der}
use Rattle.guard_der.specs.Fits.{fits}
use Rattle.guard_der.specs.Sound.{is_sound}
use Rattle.guard_der.specs.Reading.{contents_at, message_of}
use Rattle.guard_der.proofs.Types.Messages.{message_takes, message_again}
use Rattle.guard_tables.specs.declared.slots.Slots.{Slots}
use Rattle.guard_tables.specs.Slots.{none}
use Rattle.guard_tables.specs.Plan.{Plan, Body}
use Rattle.guard_tables.specs.Marking.{marked, type_marked}
use Rattle.guard_tables.specs.Standing.{PlanFor, BodyFor}
use Rattle.guard_reader.specs.Judging.{contents_judged}
use Rattle.guard_reader.specs.Octets.{ok}
use Rattle.guard_reader.specs.Laws.{ContentsLaw, MessageLaw}
use Rattle.guard_reader.proofs.ReadTypes.{IsRead, sound_is_read}
use Rattle.guard_reader.proofs.Readings.{any_short, contents_read, message_read}

found : (p : Plan) (t : AbstractType) (os : List ℕ) (m : Slots) (r : Result AbstractValue AbstractBreach) → IsTrue (is_sound t) → AllByRecursion (λ o. o < 256) os → message_of t os ≡ r → option_map (λ v. type_marked t p v none) (ok r) ≡ Some m
    → (v : AbstractValue) × IsTrue (fits t v) × (der t v ≡ Some os) × (m ≡ type_marked t p v none)
found p t os m (Err b) sound digits is e = absurd cc
found p t os m (Ok v) sound digits is e =
    let taken = message_takes t os v digits sound is in
    (v, taken.0, taken.1, sym (same_Some (type_marked t p v none) m e))

pub message_law : (p : Plan) (t : AbstractType) (os : List ℕ) → PlanFor p t → IsTrue (is_sound t) → AllByRecursion (λ o. o < 256) os → MessageLaw p t os
message_law p t os f sound digits = record {
  found = λ m e. found p t os m (message_of t os) sound digits refl (sym (message_read p t os f (sound_is_read t sound) digits) ∙ e);
  only = λ v fit e. message_read p t os f (sound_is_read t sound) digits ∙ ap (λ (r : Result AbstractValue AbstractBreach). option_map (λ v. type_marked t p v none) (ok r)) (message_again t os v sound fit e);
}

contents_of : (b : Body) (t : AbstractType) → BodyFor b (kind_of t) → IsRead t → (at start : ℕ) (os : List ℕ) (m : Slots) → AllByRecursion (λ o. o < 256) os → length os < 2 ^ 32
    → contents_judged b os m ≡ option_map (λ v. marked (kind_of t) b v m) (ok (contents_at (kind_of t) at start os))
contents_of b (type_of tags kind cons) f r at start os m digits short = contents_read b kind f r at start os m digits (any_short kind os short)

pub contents_law : ContentsLaw
contents_law b t f sound at start os m digits short = contents_of b t f (sound_is_read t sound) at start os m digits short
