-- How octets are read as records: in one way.
use Rattle.std.proofs.Common.{◌≡◌, ◌∙◌, ◌<◌, ◌≤◌, ◌⊎◌, ◌+◌, ℕ, List, [], ◌∷◌, ◌++◌, ap, refl, sym, subst, length, take, drop, get_or, map, arith, append_assoc, length-append}
use Rattle.std.specs.Prelude.{Option, Bool, true, Some, None, IfSome}
use Rattle.std.specs.Io.KnownBytes.{Consumes}
use Rattle.std.specs.Int.{w16, w32, to_be_bytes, from_be_bytes}
use Rattle.std.specs.List.{concat, All}
use Rattle.std.proofs.lemmas.Nat.{from_be_bytes-to_be_bytes_2, from_be_bytes-to_be_bytes_4}
use Rattle.std.proofs.lemmas.List.{append-nil, map-append, length-take-le}
use Rattle.std.proofs.lemmas.List.Folds.{concat-append}
use Rattle.std.proofs.lemmas.Option.{same_Some, none-some}
use Rattle.guard_frames.proofs.Reading.{Consumes_trans}
use Rattle.guard_frames.proofs.Elements.{All_first, All_rest}
use Rattle.guard_files.specs.declared.records.Header.{Header}
use Rattle.guard_files.specs.declared.records.Header.TheVariants.{Piece, End, Reload}
use Rattle.guard_files.specs.declared.stop.Stop.{Stop}
use Rattle.guard_files.specs.declared.stop.Stop.TheVariants.{ReadFailed}
use Rattle.guard_files.specs.Headers.{record_of, header_octets, IsGood, IsNone}
use Rattle.guard_files.proofs.RecordLaws.{piece_read}
use Rattle.guard_files.specs.Records.{Record, header, record_octets, IsAllowed, HasNoRecord, AreRecords}
use Rattle.guard_files.specs.Records.Record.{piece, end, reload}

-- ---- what a header says

module _ (k l n j m i : ℕ) (x y : List ℕ) (e : header k l n ++ x ≡ header j m i ++ y) where
  same_kind : k ≡ j
  same_kind = ap (λ (s : List ℕ). get_or s 0 0) e

  same_link : l ≤ 15 → m ≤ 15 → l ≡ m
  same_link p q =
      let there : from_be_bytes w16 (to_be_bytes w16 l) ≡ from_be_bytes w16 (to_be_bytes w16 m) =
      ap (λ (s : List ℕ). from_be_bytes w16 (take 2 (drop 1 s))) e in
      sym (from_be_bytes-to_be_bytes_2 l (omega (arith, p))) ∙ there ∙ from_be_bytes-to_be_bytes_2 m (omega (arith, q))

  same_size : n ≤ 1048576 → i ≤ 1048576 → n ≡ i
  same_size p q =
      let there : from_be_bytes w32 (to_be_bytes w32 n) ≡ from_be_bytes w32 (to_be_bytes w32 i) =
      ap (λ (s : List ℕ). from_be_bytes w32 (take 4 (drop 3 s))) e in
      sym (from_be_bytes-to_be_bytes_4 n (omega (arith, p))) ∙ there ∙ from_be_bytes-to_be_bytes_4 i (omega (arith, q))

  same_rest : x ≡ y
  same_rest = ap (λ (s : List ℕ). drop 7 s) e

-- as many octets before others
pub cut_alike : (a b x y : List ℕ) → length a ≡ length b → a ++ x ≡ b ++ y → (a ≡ b) × (x ≡ y)
cut_alike [] [] x y same e = (refl, e)
cut_alike [] (q ∷ b) x y same e = absurd (omega (arith, same))
cut_alike (p ∷ a) [] x y same e = absurd (omega (arith, same))
cut_alike (p ∷ a) (q ∷ b) x y same e =
    let first : p ≡ q = ap (λ (s : List ℕ). get_or s 0 0) e in
    let rest = cut_alike a b x y (omega (arith, same)) (ap (λ (s : List ℕ). drop 1 s) e) in
    (cc (first, rest.0), rest.1)

-- ---- one record

-- its first octet
pub kind_of : Record → ℕ
kind_of (piece link octets) = 0
kind_of (end link) = 1
kind_of reload = 2

pub same_record : (r q : Record) (x y : List ℕ) → IsAllowed r → IsAllowed q
    → record_octets r ++ x ≡ record_octets q ++ y → (r ≡ q) × (x ≡ y)
same_record (piece l a) (piece m b) x y p q e =
    let e₁ : header 0 l (length a) ++ (a ++ x) ≡ header 0 m (length b) ++ (b ++ y) = e in
    let link = same_link 0 l (length a) 0 m (length b) (a ++ x) (b ++ y) e₁ p.0 q.0 in
    let size = same_size 0 l (length a) 0 m (length b) (a ++ x) (b ++ y) e₁ p.1 q.1 in
    let rest = cut_alike a b x y size (same_rest 0 l (length a) 0 m (length b) (a ++ x) (b ++ y) e₁) in
    (ap (λ (k : ℕ). piece k a) link ∙ ap (piece m) rest.0, rest.1)
same_record (piece l a) (end m) x y p q e =
    let k = same_kind 0 l (length a) 1 m 0 (a ++ x) y e in absurd (omega (arith, k))
same_record (piece l a) reload x y p q e =
    let k = same_kind 0 l (length a) 2 0 0 (a ++ x) y e in absurd (omega (arith, k))
same_record (end l) (piece m b) x y p q e =
    let k = same_kind 1 l 0 0 m (length b) x (b ++ y) e in absurd (omega (arith, k))
same_record (end l) (end m) x y p q e =
    (ap end (same_link 1 l 0 1 m 0 x y e p q), same_rest 1 l 0 1 m 0 x y e)
same_record (end l) reload x y p q e =
    let k = same_kind 1 l 0 2 0 0 x y e in absurd (omega (arith, k))
same_record reload (piece m b) x y p q e =
    let k = same_kind 2 0 0 0 m (length b) x (b ++ y) e in absurd (omega (arith, k))
same_record reload (end m) x y p q e =
    let k = same_kind 2 0 0 1 m 0 x y e in absurd (omega (arith, k))
same_record reload reload x y p q e = (refl, same_rest 2 0 0 2 0 0 x y e)

-- ---- octets that begin no record

pub record_size : (r : Record) (more : List ℕ) → 7 ≤ length (record_octets r ++ more)
record_size (piece l a) more = omega arith
record_size (end l) more = omega arith
record_size reload more = omega arith

pub short_none : (s : List ℕ) → length s < 7 → HasNoRecord s
short_none s short = λ r more ok is. (let size =
    record_size r more in let same : length s ≡ length (record_octets r ++ more) =
    ap length is in omega (arith, short, size, same))

-- the header of a piece, and fewer octets than it says
pub cut_none : (l n : ℕ) (part : List ℕ) → l ≤ 15 → n ≤ 1048576 → length part < n → HasNoRecord (header 0 l n ++ part)
cut_none l n part p q short (piece m b) more ok is =
    let size = same_size 0 l n 0 m (length b) part (b ++ more) is q ok.1 in
    let rest : part ≡ b ++ more = same_rest 0 l n 0 m (length b) part (b ++ more) is in
    let long : length part ≡ length b + length more = ap length rest ∙ length-append b more in
    omega (arith, size, long, short)
cut_none l n part p q short (end m) more ok is =
    let k = same_kind 0 l n 1 m 0 part more is in omega (arith, k)
cut_none l n part p q short reload more ok is =
    let k = same_kind 0 l n 2 0 0 part more is in omega (arith, k)

-- ---- one reading

pub joined_first : (r : Record) (records : List Record) (rest : List ℕ)
    → concat (map record_octets (r ∷ records)) ++ rest ≡ record_octets r ++
    (concat (map record_octets records) ++ rest)
joined_first r records rest = append_assoc (record_octets r) (concat (map record_octets records)) rest

same_records : (records others : List Record) (rest last : List ℕ) → All IsAllowed records → All IsAllowed others
    → HasNoRecord rest → HasNoRecord last
    → concat (map record_octets records) ++ rest ≡ concat (map record_octets others) ++ last → (records ≡ others)
    × (rest ≡ last)
same_records [] [] rest last p q none none₁ e = (refl, e)
same_records [] (o ∷ others) rest last p q none none₁ e =
    absurd (none o (concat (map record_octets others) ++ last) (All_first IsAllowed o others q)
    (e ∙ joined_first o others last))
same_records (r ∷ records) [] rest last p q none none₁ e =
    absurd (none₁ r (concat (map record_octets records) ++ rest) (All_first IsAllowed r records p)
    (sym e ∙ joined_first r records rest))
same_records (r ∷ records) (o ∷ others) rest last p q none none₁ e =
    let first = same_record r o (concat (map record_octets records) ++ rest) (concat (map record_octets others) ++ last)
    (All_first IsAllowed r records p) (All_first IsAllowed o others q)
    (sym (joined_first r records rest) ∙ e ∙ joined_first o others last) in
    let more = same_records records others rest last (All_rest IsAllowed r records p)
    (All_rest IsAllowed o others q) none none₁ first.1 in
    (cc (first.0, more.0), more.1)

pub one_reading : (stream : List ℕ) (records others : List Record) (rest last : List ℕ)
    → AreRecords stream records rest → AreRecords stream others last
    → HasNoRecord rest → HasNoRecord last → (records ≡ others) × (rest ≡ last)
one_reading stream records others rest last h k none none₁ =
    same_records records others rest last h.allowed k.allowed none none₁ (sym h.whole ∙ k.whole)

-- ---- what was read of a record that isn't whole

-- a header of a piece, and fewer octets than it says
pub piece_lost : (a b c : Option (List ℕ)) (h : Header) (l n k : ℕ) (room part : List ℕ) → h ≡ Piece l n → IsGood h
    → take 7 room ≡ header_octets h → k ≤ 7 → 7 ≤ k
    → Consumes a b (take k room) → Consumes b c part → length part < n
    → (rest : List ℕ) × Consumes a c rest × HasNoRecord rest × (0 < length rest)
piece_lost a b c h l n k room part is good first most least p q short =
    let good₁ : IsGood (Piece l n) = subst IsGood is good in
    let whole : k ≡ 7 = omega (arith, most, least) in
    let same : take k room ≡ header 0 l n = ap (λ (j : ℕ). take j room) whole ∙ first ∙ ap header_octets is in (
      header 0 l n ++ part,
      Consumes_trans a b c (header 0 l n) part (subst (λ (s : List ℕ). Consumes a b s) same p) q,
      cut_none l n part good₁.0 good₁.1 short,
      omega arith,
    )

pub lost_none : (s : Stop) (rest : List ℕ) (AtEnd : Type 0) (failed : Bool) (reads : ℕ) → s ≡ ReadFailed
    → HasNoRecord rest → (failed ≡ true) ⊎ (reads ≡ 0)
    → IsNone s rest AtEnd failed reads
lost_none s rest AtEnd failed reads is none why =
    subst (λ (x : Stop). IsNone x rest AtEnd failed reads) (sym is) (none, why)

-- a header of a piece, and as many octets as it says
pub whole_piece : (a b c : Option (List ℕ)) (h : Header) (l n k m : ℕ) (room new : List ℕ) → h ≡ Piece l n
    → IsGood h → take 7 room ≡ header_octets h → k ≤ 7 → 7 ≤ k
    → Consumes a b (take k room) → Consumes b c (take m new) → m ≡ n → n ≤ length new
    → Consumes a c (record_octets (piece l (take n new)))
whole_piece a b c h l n k m room new is good first most least p q enough within =
    let whole : k ≡ 7 = omega (arith, most, least) in
    let same : take k room ≡ header 0 l n = ap (λ (j : ℕ). take j room) whole ∙ first ∙ ap header_octets is in
    piece_read a b c l n m (take k room) new same enough within p q

other_read : (a b : Option (List ℕ)) (h : Header) (first room : List ℕ) → ((l n : ℕ) → h ≡ Piece l n → ⊥)
    → first ≡ header_octets h → Consumes a b first
    → Consumes a b (record_octets (record_of h room))
other_read a b (Piece l n) first room other is p = absurd (other l n refl)
other_read a b (End l) first room other is p = subst (λ (s : List ℕ). Consumes a b s) is p
other_read a b Reload first room other is p = subst (λ (s : List ℕ). Consumes a b s) is p

-- a header alone
pub header_read : (a b : Option (List ℕ)) (h : Header) (k : ℕ) (room : List ℕ) → ((l n : ℕ) → h ≡ Piece l n → ⊥)
    → take 7 room ≡ header_octets h → k ≤ 7 → 7 ≤ k
    → Consumes a b (take k room) → Consumes a b (record_octets (record_of h room))
header_read a b h k room other first most least p =
    let whole : k ≡ 7 = omega (arith, most, least) in
    other_read a b h (take k room) room other (ap (λ (j : ℕ). take j room) whole ∙ first) p

pub good_piece : (h : Header) (l n : ℕ) → h ≡ Piece l n → IsGood h → (l ≤ 15) × (n ≤ 1048576)
good_piece h l n is good = subst IsGood is good

pub allowed_of : (h : Header) (room : List ℕ) → IsGood h → length room ≡ 1048576 → IsAllowed (record_of h room)
allowed_of (Piece link size) room good whole =
    let is : length (take size room) ≡ size = length-take-le size room (omega (arith, good.1, whole)) in
    (good.0, omega (arith, is, good.1))
allowed_of (End link) room good whole = good
allowed_of Reload room good whole = tt

pub joined_last : (records : List Record) (r : Record)
    → concat (map record_octets (records ++ r ∷ [])) ≡ concat (map record_octets records) ++ record_octets r
joined_last records r =
    ap concat (map-append record_octets records (r ∷ []))
    ∙ concat-append (map record_octets records) (record_octets r ∷ [])
    ∙ ap (λ s. concat (map record_octets records) ++ s) (append-nil (record_octets r))

pub found_is : (reads last : ℕ) (b c : Option (List ℕ)) (room : List ℕ) (o : Option Header) (x : Header) → o ≡ Some x
    → IfSome o (λ h. IsGood h × (last < reads) × Consumes b c (record_octets (record_of h room))) → IsGood x
    × (last < reads) × Consumes b c (record_octets (record_of x room))
found_is reads last b c room None x e h = absurd (none-some x e)
found_is reads last b c room (Some y) x e h =
    subst (λ (z : Header). IsGood z × (last < reads) × Consumes b c (record_octets (record_of z room)))
    (same_Some y x e) h
