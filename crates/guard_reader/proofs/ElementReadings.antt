-- Elements of an OF type, one after the other.
use Rattle.std.proofs.Common.{◌≡◌, ℕ, zero, suc, ◌+◌, Bool, true, false, List, [], ◌∷◌, take, drop, Option, None, Result, Ok, Err, cond, refl, sym, ap, ◌∙◌, inl, inr}
use Rattle.std.specs.Prelude.{option_map}
use Rattle.guard_model.specs.Answer as answer
use Rattle.guard_model.specs.declared.tag.Tag.{Tag}
use Rattle.guard_model.specs.declared.site.Step.TheVariants as step
use Rattle.guard_model.specs.AbstractValue as value
use Rattle.guard_model.specs.AbstractValue.{AbstractValue, Items}
use Rattle.guard_model.specs.Counts.{item_count}
use Rattle.guard_model.proofs.Results.{same_Ok, bind_ok}
use Rattle.guard_der.specs.declared.breach.Code.{Code}
use Rattle.guard_der.specs.declared.breach.Code.TheVariants as code
use Rattle.guard_der.specs.Head.{Head, head_of}
use Rattle.guard_der.specs.Breach.{AbstractBreach}
use Rattle.guard_der.specs.Fits.{descends}
use Rattle.guard_der.specs.Reading.{Reader, fault, inside, items_at, item_at, item_alone, due_at}
use Rattle.guard_tables.specs.declared.slots.Slots.{Slots}
use Rattle.guard_tables.specs.Marking.{items_marked}
use Rattle.guard_reader.specs.Fronts.{Front, here, elsewhere, broken, element_in}
use Rattle.guard_reader.specs.Judging.{Sight, elements_at, counted, one_and}
use Rattle.guard_reader.specs.Octets.{◌>>=◌, ok}
use Rattle.guard_reader.proofs.Places.{Digits, digits_drop, Bad}
use Rattle.guard_reader.proofs.Sights.{Way, Stands, Seen, SightLaw, due_from}

-- ---- one element

abbrev pub ReadItem : Type 0
ReadItem = AbstractValue × ℕ

-- an element that was read, where it has to come after the one before
abbrev pub placed : Bool → List ℕ → ℕ → ℕ → List ℕ → ℕ → Result AbstractValue AbstractBreach → Result ReadItem AbstractBreach
placed falls before i at os size r = inside (step.Element i) (answer.◌>>=◌ r (λ v. cond falls (Err (fault code.SetOfOrder at)) (Ok (v, size))))

abbrev pub item_falls : Bool → List ℕ → List ℕ → ℕ → Bool
item_falls true before os size = descends before (take size os)
item_falls false before os size = false

abbrev item_from : Bool → Reader → ℕ → List ℕ → ℕ → List ℕ → Result Head AbstractBreach → Result ReadItem AbstractBreach
item_from ordered reader i before at os due =
    inside (step.Element i) (answer.◌>>=◌ due (λ h. answer.◌>>=◌ (reader at h os) (λ v. cond (item_falls ordered before os (h.size + h.contents)) (Err (fault code.SetOfOrder at)) (Ok (v, h.size + h.contents)))))

item_is : (ordered : Bool) (wanted : Tag → Bool) (reader : Reader) (i at : ℕ) (before os : List ℕ) → item_at ordered wanted reader i before at os ≡ item_from ordered reader i before at os (due_from wanted at (head_of os))
unfolding item_at item_alone due_at
item_is true wanted reader i at before os = refl
item_is false wanted reader i at before os = refl

item_bad : (ordered : Bool) (wanted : Tag → Bool) (reader : Reader) (i at o : ℕ) (before os : List ℕ) → Bad o os → ok (item_at ordered wanted reader i before at (o ∷ os)) ≡ None
item_bad ordered wanted reader i at o before os (k, e) =
    ap ok (item_is ordered wanted reader i at before (o ∷ os)) ∙ ap (λ (r : Result Head Code). ok (item_from ordered reader i before at (o ∷ os) (due_from wanted at r))) e

item_headed : (ordered : Bool) (wanted : Tag → Bool) (reader : Reader) (i at o : ℕ) (before os : List ℕ) (h : Head) (b : Bool) → head_of (o ∷ os) ≡ Ok h → wanted h.tag ≡ b
    → item_at ordered wanted reader i before at (o ∷ os) ≡ item_from ordered reader i before at (o ∷ os) (cond b (Ok h) (Err (fault code.UnexpectedTag at)))
item_headed ordered wanted reader i at o before os h b e tag =
    item_is ordered wanted reader i at before (o ∷ os) ∙ ap (λ (r : Result Head Code). item_from ordered reader i before at (o ∷ os) (due_from wanted at r)) e
    ∙ ap (λ (b : Bool). item_from ordered reader i before at (o ∷ os) (cond b (Ok h) (Err (fault code.UnexpectedTag at)))) tag

no_value : (falls : Bool) (before : List ℕ) (i at : ℕ) (os : List ℕ) (size : ℕ) (r : Result AbstractValue AbstractBreach) → ok r ≡ None → ok (placed falls before i at os size r) ≡ None
no_value falls before i at os size (Err b) e = refl
no_value falls before i at os size (Ok v) e = absurd cc

-- no element is read where none is seen
pub item_none : (ordered : Bool) (w : Way) (i at o : ℕ) (before os : List ℕ) (f : Front) → Seen w o os f → element_in f ≡ None → ok (item_at ordered w.wanted w.reader i before at (o ∷ os)) ≡ None
item_none ordered w i at o before os (here inside rest) s e = absurd cc
item_none ordered w i at o before os elsewhere (inl bad) e = item_bad ordered w.wanted w.reader i at o before os bad
item_none ordered w i at o before os elsewhere (inr (h, is, tag)) e = ap ok (item_headed ordered w.wanted w.reader i at o before os h false is tag)
item_none ordered w i at o before os broken (inl bad) e = item_bad ordered w.wanted w.reader i at o before os bad
item_none ordered w i at o before os broken (inr (h, is, tag, fails)) e =
    ap ok (item_headed ordered w.wanted w.reader i at o before os h true is tag)
    ∙ no_value (item_falls ordered before (o ∷ os) (h.size + h.contents)) before i at (o ∷ os) (h.size + h.contents) (w.reader at h (o ∷ os)) (fails at)

pub item_here : (ordered : Bool) (w : Way) (i at o : ℕ) (before os inside rest : List ℕ) (s : Stands w o os inside rest)
    → item_at ordered w.wanted w.reader i before at (o ∷ os)
    ≡ placed (item_falls ordered before (o ∷ os) (s.header.size + s.header.contents)) before i at (o ∷ os) (s.header.size + s.header.contents) (w.reader at s.header (o ∷ os))
item_here ordered w i at o before os inside rest s = item_headed ordered w.wanted w.reader i at o before os s.header true s.header_is s.tag

-- ---- all of them

-- no item, nothing that is read
pub none_read : (mark : AbstractValue → Slots → Slots) (m : Slots) (r : Result ReadItem AbstractBreach) (rest : ReadItem → Result Items AbstractBreach) → ok r ≡ None
    → None ≡ option_map (λ vs. items_marked mark vs m) (ok (answer.◌>>=◌ r (λ x. answer.◌>>=◌ (rest x) (λ vs. Ok (value.item x.0 vs)))))
none_read mark m (Err b) rest e = refl
none_read mark m (Ok x) rest e = absurd cc

item_before : (mark : AbstractValue → Slots → Slots) (m : Slots) (v : AbstractValue) (r : Result Items AbstractBreach) → option_map (λ vs. items_marked mark vs (mark v m)) (ok r) ≡ option_map (λ vs. items_marked mark vs m) (ok (answer.◌>>=◌ r (λ vs. Ok (value.item v vs))))
item_before mark m v (Err b) = refl
item_before mark m v (Ok vs) = refl

pub one_read : (mark : AbstractValue → Slots → Slots) (before : List ℕ) (i at : ℕ) (os : List ℕ) (size : ℕ) (falls : Bool) (m : Slots) (r : Result AbstractValue AbstractBreach) (a : Option Slots) (go : Slots → Option Slots) (rest : ReadItem → Result Items AbstractBreach)
    → a ≡ option_map (λ v. mark v m) (ok r) → ((v : AbstractValue) → go (mark v m) ≡ option_map (λ vs. items_marked mark vs (mark v m)) (ok (rest (v, size))))
    → (a >>= λ k. cond falls None (go k)) ≡ option_map (λ vs. items_marked mark vs m) (ok (answer.◌>>=◌ (placed falls before i at os size r) (λ x. answer.◌>>=◌ (rest x) (λ vs. Ok (value.item x.0 vs)))))
one_read mark before i at os size true m (Err b) a go rest e h = ap (λ (a : Option Slots). a >>= λ k. None) e
one_read mark before i at os size true m (Ok v) a go rest e h = ap (λ (a : Option Slots). a >>= λ k. None) e
one_read mark before i at os size false m (Err b) a go rest e h = ap (λ (a : Option Slots). a >>= go) e
one_read mark before i at os size false m (Ok v) a go rest e h = ap (λ (a : Option Slots). a >>= go) e ∙ h v ∙ item_before mark m v (rest (v, size))

abbrev pub items_after : ℕ → Bool → (Tag → Bool) → Reader → ℕ → ℕ → List ℕ → ReadItem → Result Items AbstractBreach
items_after n ordered wanted reader i at os x = items_at n ordered wanted reader (suc i) (take x.1 os) (at + x.1) (drop x.1 os)

abbrev Goes : Sight → Way → ℕ → ℕ → ℕ → ℕ → List ℕ → List ℕ → Slots → Front → Type 0
Goes sight w n i at o before os m f =
    (element_in f >>= λ x. w.pass x.0 m >>= λ k. elements_at n sight w.pass x.1 k)
    ≡ option_map (λ vs. items_marked w.mark vs m) (ok (answer.◌>>=◌ (item_at false w.wanted w.reader i before at (o ∷ os)) (λ x. answer.◌>>=◌ (items_after n false w.wanted w.reader i at (o ∷ os) x) (λ vs. Ok (value.item x.0 vs)))))

abbrev AllRead : Sight → Way → ℕ → Type 0
AllRead sight w n =
    (i at : ℕ) (before os : List ℕ) (m : Slots) → Digits os
    → elements_at n sight w.pass os m ≡ option_map (λ vs. items_marked w.mark vs m) (ok (items_at n false w.wanted w.reader i before at os))

element_step : (sight : Sight) (w : Way) (n i at o : ℕ) (before os : List ℕ) (m : Slots) (f : Front) → Seen w o os f → Digits (o ∷ os) → AllRead sight w n → Goes sight w n i at o before os m f
element_step sight w n i at o before os m (here contents rest) s digits later =
    let size = s.header.size + s.header.contents in
    let after : ReadItem → Result Items AbstractBreach = λ x. items_after n false w.wanted w.reader i at (o ∷ os) x in
    one_read w.mark before i at (o ∷ os) size false m (w.reader at s.header (o ∷ os)) (w.pass contents m) (λ k. elements_at n sight w.pass rest k) after (s.judged at m)
    (λ v. ap (λ (next : List ℕ). elements_at n sight w.pass next (w.mark v m)) (sym s.rest_is)
    ∙ later (suc i) (at + size) (take size (o ∷ os)) (drop size (o ∷ os)) (w.mark v m) (digits_drop size (o ∷ os) digits))
    ∙ ap (λ (r : Result ReadItem AbstractBreach). option_map (λ vs. items_marked w.mark vs m) (ok (answer.◌>>=◌ r (λ x. answer.◌>>=◌ (after x) (λ vs. Ok (value.item x.0 vs)))))) (sym (item_here false w i at o before os contents rest s))
element_step sight w n i at o before os m elsewhere s digits later =
    none_read w.mark m (item_at false w.wanted w.reader i before at (o ∷ os)) (λ x. items_after n false w.wanted w.reader i at (o ∷ os) x) (item_none false w i at o before os elsewhere s refl)
element_step sight w n i at o before os m broken s digits later =
    none_read w.mark m (item_at false w.wanted w.reader i before at (o ∷ os)) (λ x. items_after n false w.wanted w.reader i at (o ∷ os) x) (item_none false w i at o before os broken s refl)

pub elements_read : (sight : Sight) (w : Way) → SightLaw sight w → (tries : ℕ) → AllRead sight w tries
unfolding elements_at items_at
elements_read sight w law tries i at before [] m digits = refl
elements_read sight w law zero i at before (o ∷ os) m digits = refl
elements_read sight w law (suc n) i at before (o ∷ os) m digits =
    element_step sight w n i at o before os m (sight (o ∷ os)) (law.seen o os digits) digits (λ i at before os m d. elements_read sight w law n i at before os m d)

-- ---- how many

no_item : (r : Result ReadItem AbstractBreach) (rest : ReadItem → Result Items AbstractBreach) (vs : Items) → ok r ≡ None → answer.◌>>=◌ r rest ≡ Ok vs → ⊥
no_item (Err b) rest vs e f = absurd cc
no_item (Ok x) rest vs e f = absurd cc

falls_size : (falls : Bool) (i at size : ℕ) (v : AbstractValue) (x : ReadItem) → inside (step.Element i) (cond falls (Err (fault code.SetOfOrder at)) (Ok (v, size))) ≡ Ok x → x.1 ≡ size
falls_size true i at size v x e = absurd cc
falls_size false i at size v x e = let pair : ReadItem = (v, size) in sym (ap (λ (x : ReadItem). x.1) (same_Ok {F = AbstractBreach} pair x e))

item_size : (falls : Bool) (before : List ℕ) (i at : ℕ) (os : List ℕ) (size : ℕ) (r : Result AbstractValue AbstractBreach) (x : ReadItem) → placed falls before i at os size r ≡ Ok x → x.1 ≡ size
item_size falls before i at os size (Err b) x e = absurd cc
item_size falls before i at os size (Ok v) x e = falls_size falls i at size v x e

abbrev AllCounted : Sight → Way → Bool → ℕ → Type 0
AllCounted sight w ordered n =
    (i at : ℕ) (before os : List ℕ) (vs : Items) → Digits os → items_at n ordered w.wanted w.reader i before at os ≡ Ok vs → item_count vs ≡ counted n sight os

abbrev then_items : ℕ → Bool → Way → ℕ → ℕ → List ℕ → ReadItem → Result Items AbstractBreach
then_items n ordered w i at os x = answer.◌>>=◌ (items_after n ordered w.wanted w.reader i at os x) (λ vs. Ok (value.item x.0 vs))

count_step : (sight : Sight) (w : Way) (ordered : Bool) (n i at o : ℕ) (before os : List ℕ) (vs : Items) (f : Front) → Seen w o os f → Digits (o ∷ os) → AllCounted sight w ordered n
    → answer.◌>>=◌ (item_at ordered w.wanted w.reader i before at (o ∷ os)) (λ x. then_items n ordered w i at (o ∷ os) x) ≡ Ok vs
    → item_count vs ≡ one_and (λ rest. counted n sight rest) (element_in f)
count_step sight w ordered n i at o before os vs (here contents rest) s digits later e =
    let h = s.header in
    let size = h.size + h.contents in
    let item : Result ReadItem AbstractBreach = item_at ordered w.wanted w.reader i before at (o ∷ os) in
    let a = bind_ok item (λ x. then_items n ordered w i at (o ∷ os) x) vs e in
    let b = bind_ok (items_after n ordered w.wanted w.reader i at (o ∷ os) a.0) (λ vs. Ok (value.item a.0.0 vs)) vs a.2 in
    let is : a.0.1 ≡ size = item_size (item_falls ordered before (o ∷ os) size) before i at (o ∷ os) size (w.reader at h (o ∷ os)) a.0 (sym (item_here ordered w i at o before os contents rest s) ∙ a.1) in
    let next : drop a.0.1 (o ∷ os) ≡ rest = ap (λ (n : ℕ). drop n (o ∷ os)) is ∙ s.rest_is in
    ap item_count (sym (same_Ok {F = AbstractBreach} (value.item a.0.0 b.0) vs b.2))
    ∙ ap suc (later (suc i) (at + a.0.1) (take a.0.1 (o ∷ os)) (drop a.0.1 (o ∷ os)) b.0 (digits_drop a.0.1 (o ∷ os) digits) b.1 ∙ ap (counted n sight) next)
count_step sight w ordered n i at o before os vs elsewhere s digits later e =
    absurd (no_item (item_at ordered w.wanted w.reader i before at (o ∷ os)) (λ x. then_items n ordered w i at (o ∷ os) x) vs (item_none ordered w i at o before os elsewhere s refl) e)
count_step sight w ordered n i at o before os vs broken s digits later e =
    absurd (no_item (item_at ordered w.wanted w.reader i before at (o ∷ os)) (λ x. then_items n ordered w i at (o ∷ os) x) vs (item_none ordered w i at o before os broken s refl) e)

-- what is read has so many elements
pub items_counted : (sight : Sight) (w : Way) → SightLaw sight w → (ordered : Bool) (tries : ℕ) → AllCounted sight w ordered tries
unfolding items_at counted
items_counted sight w law ordered tries i at before [] vs digits e = ap item_count (sym (same_Ok {F = AbstractBreach} value.no_items vs e))
items_counted sight w law ordered zero i at before (o ∷ os) vs digits e = absurd cc
items_counted sight w law ordered (suc n) i at before (o ∷ os) vs digits e =
    count_step sight w ordered n i at o before os vs (sight (o ∷ os)) (law.seen o os digits) digits (λ i at before os vs d e. items_counted sight w law ordered n i at before os vs d e) e
