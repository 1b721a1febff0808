-- What goes out of a link and is said of it, part by part.
use Rattle.std.proofs.Common.{◌≡◌, ◌∙◌, ◌<◌, ◌≤◌, ◌⊎◌, inl, inr, ℕ, zero, suc, Bool, true, false, List, [], ◌∷◌, ◌++◌, ap, refl, sym, subst, length, take, drop, map, nat_eq, nat_lt, arith, append_assoc, length-drop}
use Rattle.std.specs.List.{concat}
use Rattle.std.proofs.lemmas.List.{append-nil, take-append-drop, length-take-le}
use Rattle.guard_frames.specs.Prefix.{IsProperPrefix}
use Rattle.guard_frames.proofs.Appending.{Prefix_first, Prefix_second}
use Rattle.guard_files.specs.Records.{record_octets}
use Rattle.guard_files.specs.Records.Record.{piece}
use Rattle.guard_streams.specs.Passing.{AreFull, InRecords, lines_of, marked, marked_line}

-- ---- lines

-- its lines are marked one after another
pub marked_first : (link : ℕ) (text line others : List ℕ) → lines_of text ≡ line ∷ lines_of others
    → marked link text ≡ marked_line link line ++ marked link others
marked_first link text line others e = ap (λ ls. concat (map (marked_line link) ls)) e

-- ---- lines that are out, and those that come

module _ (link : ℕ) (text rest line others done : List ℕ) (so_far : marked link text ≡ done ++ marked link rest)
    (next : marked link rest ≡ marked_line link line ++ marked link others) where
  pub lines_more : marked link text ≡ (done ++ marked_line link line) ++ marked link others
  lines_more = so_far ∙ ap (λ s. done ++ s) next ∙ sym (append_assoc done (marked_line link line) (marked link others))

  pub lines_part : (part : List ℕ) → IsProperPrefix part (marked_line link line) → IsProperPrefix (done ++ part) (marked link text)
  lines_part part h =
      subst (IsProperPrefix (done ++ part)) (sym (so_far ∙ ap (λ s. done ++ s) next))
      (Prefix_second part done (marked_line link line ++ marked link others) (Prefix_first part (marked_line link line) (marked link others) h))

-- ---- records

no_records : (link : ℕ) → InRecords link [] []
no_records link = record { parts = []; joined = refl; full = tt; records = refl }

-- the last one
pub last_record : (link : ℕ) (octets : List ℕ) → 0 < length octets → length octets ≤ 1048576 → InRecords link octets (record_octets (piece link octets))
last_record link octets some most = record {
  parts = octets ∷ [];
  joined = append-nil octets;
  full = (some, most);
  records = sym (append-nil (record_octets (piece link octets)));
}

pub all_records : (link : ℕ) (octets : List ℕ) → length octets ≡ 0 → InRecords link octets []
all_records link [] none = no_records link
all_records link (o ∷ octets) none = absurd (omega (arith, none))

full_more : (first others : List ℕ) (parts : List (List ℕ)) → length first ≡ 1048576 → concat parts ≡ others → 0 < length others → AreFull parts → AreFull (first ∷ parts)
full_more first others [] whole joined some full = absurd (let none : length others ≡ 0 = ap length (sym joined) in omega (arith, none, some))
full_more first others (part ∷ parts) whole joined some full = (whole, full)

-- a full one before others
pub first_record : (link : ℕ) (first others written : List ℕ) → length first ≡ 1048576 → 0 < length others → InRecords link others written
    → InRecords link (first ++ others) (record_octets (piece link first) ++ written)
first_record link first others written whole some h = record {
  parts = first ∷ h.parts;
  joined = ap (λ s. first ++ s) h.joined;
  full = full_more first others h.parts whole h.joined some h.full;
  records = ap (λ s. record_octets (piece link first) ++ s) h.records;
}

-- octets as full parts and a last one
short_records : (link : ℕ) (octets : List ℕ) → length octets ≤ 1048576 → (b : Bool) → nat_eq (length octets) 0 ≡ b → (written : List ℕ) × InRecords link octets written
short_records link octets most true none = ([], all_records link octets (grind (arith, none)))
short_records link octets most false some = (record_octets (piece link octets), last_record link octets (grind (arith, some)) most)

compared : (n m : ℕ) (b : Bool) → nat_lt n m ≡ b → (n < m) ⊎ (m ≤ n)
compared n m true e = inl (grind (arith, e))
compared n m false e = inr (grind (arith, e))

records_after : (link : ℕ) (octets : List ℕ) → (1048576 < length octets → (written : List ℕ) × InRecords link (drop 1048576 octets) written)
    → (1048576 < length octets) ⊎ (length octets ≤ 1048576) → (written : List ℕ) × InRecords link octets written
records_after link octets others (inl more) =
    let first = take 1048576 octets in
    let rest = others more in
    let all = first_record link first (drop 1048576 octets) rest.0 (length-take-le 1048576 octets (omega (arith, more))) (omega (arith, more, length-drop 1048576 octets)) rest.1 in
    (record_octets (piece link first) ++ rest.0, subst (λ (s : List ℕ). InRecords link s (record_octets (piece link first) ++ rest.0)) (take-append-drop 1048576 octets) all)
records_after link octets others (inr short) = short_records link octets short (nat_eq (length octets) 0) refl

records_within : (fuel link : ℕ) (octets : List ℕ) → length octets ≤ fuel → (written : List ℕ) × InRecords link octets written
records_within zero link octets most = ([], all_records link octets (omega (arith, most)))
records_within (suc fuel) link octets most =
    records_after link octets (λ more. records_within fuel link (drop 1048576 octets) (omega (arith, most, more, length-drop 1048576 octets))) (compared 1048576 (length octets) (nat_lt 1048576 (length octets)) refl)

pub some_records : (link : ℕ) (octets : List ℕ) → (written : List ℕ) × InRecords link octets written
some_records link octets = records_within (length octets) link octets (omega arith)

-- ---- records that are out, and those that come

pub Continues : ℕ → List ℕ → List ℕ → List ℕ → Type 0
Continues link octets done rest = (written : List ℕ) → InRecords link rest written → InRecords link octets (done ++ written)

pub records_begin : (link : ℕ) (octets : List ℕ) → Continues link octets [] octets
unfolding Continues
records_begin link octets written h = h

module _ (link : ℕ) (octets done rest : List ℕ) (so_far : Continues link octets done rest) where
  module _ (first others : List ℕ) (whole : first ++ others ≡ rest) (full : length first ≡ 1048576) (some : 0 < length others) where
    pub records_more : Continues link octets (done ++ record_octets (piece link first)) others
    unfolding Continues
    records_more written h =
        let all = first_record link first others written full some h in
        subst (InRecords link octets) (sym (append_assoc done (record_octets (piece link first)) written))
        (so_far (record_octets (piece link first) ++ written) (subst (λ (s : List ℕ). InRecords link s (record_octets (piece link first) ++ written)) whole all))

    pub records_part : (part : List ℕ) → IsProperPrefix part (record_octets (piece link first)) → (written : List ℕ) × InRecords link octets written × IsProperPrefix (done ++ part) written
    unfolding Continues
    records_part part h =
        let next = some_records link others in
        let all = first_record link first others next.0 full some next.1 in (
          done ++ (record_octets (piece link first) ++ next.0),
          so_far (record_octets (piece link first) ++ next.0) (subst (λ (s : List ℕ). InRecords link s (record_octets (piece link first) ++ next.0)) whole all),
          Prefix_second part done (record_octets (piece link first) ++ next.0) (Prefix_first part (record_octets (piece link first)) next.0 h),
        )

  pub records_end : length rest ≡ 0 → InRecords link octets done
  unfolding Continues
  records_end none = subst (InRecords link octets) (append-nil done) (so_far [] (all_records link rest none))

  pub records_last : 0 < length rest → length rest ≤ 1048576 → InRecords link octets (done ++ record_octets (piece link rest))
  unfolding Continues
  records_last some most = so_far (record_octets (piece link rest)) (last_record link rest some most)
