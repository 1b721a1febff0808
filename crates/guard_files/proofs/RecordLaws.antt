-- What is read of a record, part by part.
use Rattle.std.proofs.Common.{◌≡◌, ◌∙◌, ◌+◌, ◌-◌, ◌<◌, ◌≤◌, arith, ℕ, List, [], ◌∷◌, ◌++◌, ap, sym, subst, length, map, take, drop, ◌^◌}
use Rattle.std.specs.Prelude.{Option, Some, None, IfSome}
use Rattle.std.specs.Io.KnownBytes.{Consumes}
use Rattle.std.specs.List.{concat}
use Rattle.std.proofs.lemmas.List.{append-nil, drop-drop, drop-take, length-take-le, map-append, take-take}
use Rattle.std.proofs.lemmas.List.Folds.{concat-append}
use Rattle.std.proofs.Math.Seq.{take-add}
use Rattle.std.proofs.lemmas.Option.{same_Some, none-some}
use Rattle.guard_frames.proofs.Reading.{Consumes_trans}
use Rattle.guard_frames.specs.Totals.{WentUpBy}
use Rattle.guard_files.specs.Records.{Record, header, link_octets, of_link, record_octets}
use Rattle.guard_files.specs.Records.Record.{piece}

-- what is before a place was kept, and so is what is before an earlier one
pub kept_before : (at n : ℕ) (old new : List ℕ) → take (at + n) new ≡ take (at + n) old → take at new ≡ take at old
kept_before at n old new kept =
    sym (take-take at (at + n) new (omega arith)) ∙ ap (take at) kept ∙ take-take at (at + n) old (omega arith)

-- behind n octets from a place on m more were read, and the first ones were kept
pub Consumes_more : (a b c : Option (List ℕ)) (at n m : ℕ) (old new : List ℕ) → take (at + n) new ≡ take (at + n) old
    → Consumes a b (take n (drop at old)) → Consumes b c (take m (drop (at + n) new)) → Consumes a c (take (n + m) (drop at new))
Consumes_more a b c at n m old new kept p q =
    let front : take n (drop at old) ≡ take n (drop at new) =
    sym (drop-take at n old) ∙ ap (drop at) (sym kept) ∙ drop-take at n new in
    let behind : take m (drop (at + n) new) ≡ take m (drop n (drop at new)) = ap (take m) (sym (drop-drop n at new)) in
    rw (take-add n m (drop at new)) (Consumes_trans a b c (take n (drop at new)) (take m (drop n (drop at new)))
    (subst (λ (s : List ℕ). Consumes a b s) front p) (subst (λ (s : List ℕ). Consumes b c s) behind q))

-- a header, and then as many octets as it says
pub piece_read : (a b c : Option (List ℕ)) (link size n : ℕ) (first room : List ℕ) → first ≡ header 0 link size → n ≡ size → size ≤ length room
    → Consumes a b first → Consumes b c (take n room) → Consumes a c (record_octets (piece link (take size room)))
piece_read a b c link size n first room is whole within p q =
    let p₁ : Consumes a b (header 0 link (length (take size room))) =
    subst (λ (s : List ℕ). Consumes a b s) (is ∙ ap (header 0 link) (sym (length-take-le size room within))) p in
    let q₁ : Consumes b c (take size room) = subst (λ (k : ℕ). Consumes b c (take k room)) whole q in
    Consumes_trans a b c (header 0 link (length (take size room))) (take size room) p₁ q₁

-- ---- how often a source is asked

-- once more
pub asked_once : (a b c reads left : ℕ) → 0 < left → left ≤ reads → WentUpBy a (reads - left) b → WentUpBy b 1 c → WentUpBy a (reads - (left - 1)) c
asked_once a b c reads left some within p q = omega (arith, p, q, some, within)

-- and as often again
pub asked_more : (a b c reads left last : ℕ) → left ≤ reads → last ≤ left → WentUpBy a (reads - left) b → WentUpBy b (left - last) c → WentUpBy a (reads - last) c
asked_more a b c reads left last within fewer p q = omega (arith, p, q, within, fewer)

pub asked_all : (a b c left last : ℕ) → left ≤ 2 ^ 40 → last ≤ left → WentUpBy a (2 ^ 40 - left) b
    → WentUpBy b (left - last) c → last ≡ 0 → WentUpBy a (2 ^ 40) c
asked_all a b c left last within fewer p q none = omega (arith, p, q, none, within, fewer)

-- ---- one link

-- its octets, with those of one more record
pub one_more : (link : ℕ) (records : List Record) (r : Record)
    → link_octets link (records ++ r ∷ []) ≡ link_octets link records ++ of_link link r
one_more link records r =
    ap concat (map-append (of_link link) records (r ∷ []))
    ∙ concat-append (map (of_link link) records) (of_link link r ∷ [])
    ∙ ap (λ s. link_octets link records ++ s) (append-nil (of_link link r))

-- what was found
pub found_size : {A : Type 0} (P : A → Type 0) (o : Option A) (x : A) → o ≡ Some x → IfSome o P → P x
found_size P None x e h = absurd (none-some x e)
found_size P (Some y) x e h = subst P (same_Some y x e) h
