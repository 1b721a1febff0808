-- Elements of a SET OF, one after the other, in ascending order of their encodings (X.690 11.6).
use Rattle.std.proofs.Common.{◌≡◌, ℕ, zero, suc, ◌+◌, ◌-◌, true, List, [], ◌∷◌, length, take, drop, None, Result, Ok, cond, refl, sym, ap, ◌∙◌, arith, length-drop}
use Rattle.std.specs.Prelude.{option_map}
use Rattle.guard_model.specs.Answer as answer
use Rattle.guard_model.specs.AbstractValue as value
use Rattle.guard_model.specs.AbstractValue.{AbstractValue, Items}
use Rattle.guard_der.specs.Breach.{AbstractBreach}
use Rattle.guard_der.specs.Fits.{descends}
use Rattle.guard_der.specs.Reading.{items_at, item_at}
use Rattle.guard_tables.specs.declared.slots.Slots.{Slots}
use Rattle.guard_tables.specs.Marking.{items_marked}
use Rattle.guard_reader.specs.Fronts.{Front, here, elsewhere, broken, element_in, front_of}
use Rattle.guard_reader.specs.Judging.{Sight, ordered_at}
use Rattle.guard_reader.specs.Octets.{◌>>=◌, ok}
use Rattle.guard_reader.proofs.Places.{Digits, digits_drop}
use Rattle.guard_reader.proofs.Sights.{Way, Seen, SightLaw}
use Rattle.guard_reader.proofs.ElementReadings.{ReadItem, placed, none_read, one_read, item_none, item_here, items_after}

-- ---- octets without those that are left

pub front_drop : (n : ℕ) (os : List ℕ) → front_of os (drop n os) ≡ take n os
front_drop zero os = let none : length os - length os ≡ 0 = omega arith in ap (λ (k : ℕ). take k os) none
front_drop (suc n) [] = refl
front_drop (suc n) (o ∷ os) =
    let more : length (o ∷ os) - length (drop n os) ≡ suc (length os - length (drop n os)) = omega (arith, length-drop n os) in
    ap (λ (k : ℕ). take k (o ∷ os)) more ∙ ap (λ (xs : List ℕ). o ∷ xs) (front_drop n os)

-- ---- all of them

abbrev AllRead : Sight → Way → ℕ → Type 0
AllRead sight w n =
    (i at : ℕ) (before os : List ℕ) (m : Slots) → Digits os
    → ordered_at n sight w.pass before os m ≡ option_map (λ vs. items_marked w.mark vs m) (ok (items_at n true w.wanted w.reader i before at os))

abbrev Goes : Sight → Way → ℕ → ℕ → ℕ → ℕ → List ℕ → List ℕ → Slots → Front → Type 0
Goes sight w n i at o before os m f =
    (element_in f >>= λ x. w.pass x.0 m >>= λ k. cond (descends before (front_of (o ∷ os) x.1)) None (ordered_at n sight w.pass (front_of (o ∷ os) x.1) x.1 k))
    ≡ option_map (λ vs. items_marked w.mark vs m) (ok (answer.◌>>=◌ (item_at true w.wanted w.reader i before at (o ∷ os)) (λ x. answer.◌>>=◌ (items_after n true w.wanted w.reader i at (o ∷ os) x) (λ vs. Ok (value.item x.0 vs)))))

ordered_step : (sight : Sight) (w : Way) (n i at o : ℕ) (before os : List ℕ) (m : Slots) (f : Front) → Seen w o os f → Digits (o ∷ os) → AllRead sight w n → Goes sight w n i at o before os m f
ordered_step sight w n i at o before os m (here contents rest) s digits later =
    let size = s.header.size + s.header.contents in
    let after : ReadItem → Result Items AbstractBreach = λ x. items_after n true w.wanted w.reader i at (o ∷ os) x in
    let own : front_of (o ∷ os) rest ≡ take size (o ∷ os) = ap (front_of (o ∷ os)) (sym s.rest_is) ∙ front_drop size (o ∷ os) in
    let all : Result ReadItem AbstractBreach → Result Items AbstractBreach = λ r. answer.◌>>=◌ r (λ x. answer.◌>>=◌ (after x) (λ vs. Ok (value.item x.0 vs))) in
    one_read w.mark before i at (o ∷ os) size (descends before (front_of (o ∷ os) rest)) m (w.reader at s.header (o ∷ os)) (w.pass contents m) (λ k. ordered_at n sight w.pass (front_of (o ∷ os) rest) rest k) after (s.judged at m)
    (λ v. ap (λ (xs : List ℕ). ordered_at n sight w.pass xs rest (w.mark v m)) own
    ∙ ap (λ (next : List ℕ). ordered_at n sight w.pass (take size (o ∷ os)) next (w.mark v m)) (sym s.rest_is)
    ∙ later (suc i) (at + size) (take size (o ∷ os)) (drop size (o ∷ os)) (w.mark v m) (digits_drop size (o ∷ os) digits))
    ∙ ap (λ (xs : List ℕ). option_map (λ vs. items_marked w.mark vs m) (ok (all (placed (descends before xs) before i at (o ∷ os) size (w.reader at s.header (o ∷ os)))))) own
    ∙ ap (λ (r : Result ReadItem AbstractBreach). option_map (λ vs. items_marked w.mark vs m) (ok (all r))) (sym (item_here true w i at o before os contents rest s))
ordered_step sight w n i at o before os m elsewhere s digits later =
    none_read w.mark m (item_at true w.wanted w.reader i before at (o ∷ os)) (λ x. items_after n true w.wanted w.reader i at (o ∷ os) x) (item_none true w i at o before os elsewhere s refl)
ordered_step sight w n i at o before os m broken s digits later =
    none_read w.mark m (item_at true w.wanted w.reader i before at (o ∷ os)) (λ x. items_after n true w.wanted w.reader i at (o ∷ os) x) (item_none true w i at o before os broken s refl)

pub ordered_read : (sight : Sight) (w : Way) → SightLaw sight w → (tries : ℕ) → AllRead sight w tries
unfolding ordered_at items_at
ordered_read sight w law tries i at before [] m digits = refl
ordered_read sight w law zero i at before (o ∷ os) m digits = refl
ordered_read sight w law (suc n) i at before (o ∷ os) m digits =
    ordered_step sight w n i at o before os m (sight (o ∷ os)) (law.seen o os digits) digits (λ i at before os m d. ordered_read sight w law n i at before os m d)
