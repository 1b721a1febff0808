-- Each stream is read as records and a rest with which no record begins.
use Rattle.std.proofs.Common.{◌≡◌, ◌∙◌, ◌≤◌, ◌+◌, ◌⊎◌, inl, inr, ℕ, zero, suc, Bool, true, false, nat_le, List, [], ◌∷◌, ◌++◌, ap, refl, sym, subst, length, take, drop, get_or, arith, length-append, true≢false}
use Rattle.std.specs.Str.{bytes_eq}
use Rattle.std.specs.Int.{w16, w32, from_be_bytes}
use Rattle.std.proofs.lemmas.List.Elements.{All-cons}
use Rattle.std.proofs.lemmas.Slice.Eq.{bytes_eq-Decides}
use Rattle.std.proofs.lemmas.Nat.{from_be_bytes-to_be_bytes_2, from_be_bytes-to_be_bytes_4}
use Rattle.std.proofs.Math.Seq.{take-append_seam, drop-append_seam}
use Rattle.guard_frames.proofs.Elements.{All_none}
use Rattle.guard_files.specs.Records.{Record, record_octets, IsAllowed, HasNoRecord, AreRecords}
use Rattle.guard_files.specs.Records.Record.{piece, end, reload}
use Rattle.guard_files.proofs.RecordReading.{short_none, joined_first}

-- ---- what can be decided

le_by : (n m : ℕ) (b : Bool) → nat_le n m ≡ b → (n ≤ m) ⊎ (n ≤ m → ⊥)
le_by n m true e = inl (grind (arith, e))
le_by n m false e = inr (λ h. grind (arith, e, h))

same_by : (xs ys : List ℕ) (b : Bool) → bytes_eq xs ys ≡ b → (xs ≡ ys) ⊎ (xs ≡ ys → ⊥)
same_by xs ys true e = inl ((bytes_eq-Decides xs ys).0 e)
same_by xs ys false e = inr (λ is. true≢false (sym ((bytes_eq-Decides xs ys).1 is) ∙ e))

allowed_by : (r : Record) → IsAllowed r ⊎ (IsAllowed r → ⊥)
allowed_by (piece link octets) = elim (le_by link 15 (nat_le link 15) refl) [
  | inl few ↦ elim (le_by (length octets) 1048576 (nat_le (length octets) 1048576) refl) [
    | inl most ↦ inl
        (few, most)
    | inr long ↦ inr (λ h. long h.1)
  ]
  | inr great ↦ inr (λ h. great h.0)
]
allowed_by (end link) = le_by link 15 (nat_le link 15) refl
allowed_by reload = inl tt

-- ---- the record that octets may begin with

record_by : ℕ → ℕ → ℕ → List ℕ → Record
record_by zero link size s = piece link (take size s)
record_by (suc zero) link size s = end link
record_by (suc (suc k)) link size s = reload

abbrev candidate : List ℕ → Record
candidate s = record_by (get_or s 0 7) (from_be_bytes w16 (take 2 (drop 1 s)))
    (from_be_bytes w32 (take 4 (drop 3 s))) (drop 7 s)

candidate_is : (r : Record) (more : List ℕ) → IsAllowed r → candidate (record_octets r ++ more) ≡ r
unfolding record_by
candidate_is (piece link octets) more ok =
    ap (λ (k : ℕ). piece k (take (from_be_bytes w32 (take 4 (drop 3 (record_octets (piece link octets)))))
    (octets ++ more))) (from_be_bytes-to_be_bytes_2 link (omega (arith, ok.0)))
    ∙ ap (piece link) (ap (λ (n : ℕ). take n (octets ++ more)) (from_be_bytes-to_be_bytes_4 (length octets)
    (omega (arith, ok.1))) ∙ take-append_seam octets more)
candidate_is (end link) more ok = ap end (from_be_bytes-to_be_bytes_2 link (omega (arith, ok)))
candidate_is reload more ok = refl

-- these octets are that record, and others
abbrev Begins : List ℕ → Record → Type 0
Begins s r = s ≡ record_octets r ++ drop (length (record_octets r)) s

begins_with : (s : List ℕ) (r : Record) (more : List ℕ) → s ≡ record_octets r ++ more → Begins s r
begins_with s r more is =
    is ∙ ap (λ (t : List ℕ). record_octets r ++ t) (sym (drop-append_seam (record_octets r) more)
    ∙ ap (drop (length (record_octets r))) (sym is))

first_of : (s : List ℕ) → ((r : Record) × IsAllowed r × Begins s r) ⊎ HasNoRecord s
first_of s = elim (allowed_by (candidate s)) [
  | inl ok ↦ elim (same_by s (record_octets (candidate s) ++ drop (length (record_octets (candidate s))) s) _ refl) [
    | inl is ↦ inl (candidate s, ok, is)
    | inr differs ↦ inr (λ q more allowed is. differs (subst (Begins s)
        (sym (ap candidate is ∙ candidate_is q more allowed)) (begins_with s q more is)))
  ]
  | inr refused ↦ inr (λ q more allowed is. refused (subst IsAllowed
      (sym (ap candidate is ∙ candidate_is q more allowed)) allowed))
]

-- ---- all records

octets_size : (r : Record) → 7 ≤ length (record_octets r)
octets_size (piece link octets) = omega arith
octets_size (end link) = omega arith
octets_size reload = omega arith

abbrev pub Reading : List ℕ → Type 0
Reading s = (records : List Record) × (rest : List ℕ) × AreRecords s records rest × HasNoRecord rest

one_before : (s : List ℕ) (r : Record) (more : List ℕ) → IsAllowed r → s ≡ record_octets r ++ more → Reading more
    → Reading s
one_before s r more ok is h = (
  r ∷ h.0,
  h.1,
  record {
    whole = is ∙ ap (λ (t : List ℕ). record_octets r ++ t) h.2.whole ∙ sym (joined_first r h.0 h.1);
    allowed = All-cons IsAllowed r h.0 ok h.2.allowed;
  },
  h.3,
)

none_before : (s : List ℕ) → HasNoRecord s → Reading s
none_before s none = ([], s, record { whole = refl; allowed = All_none IsAllowed }, none)

read_within : (fuel : ℕ) (s : List ℕ) → length s ≤ fuel → Reading s
read_within zero s most = none_before s (short_none s (omega (arith, most)))
read_within (suc fuel) s most = elim (first_of s) [
  | inl h ↦
      let more : List ℕ = drop (length (record_octets h.0)) s in
      let size = octets_size h.0 in
      let whole : length s ≡ length (record_octets h.0) + length more = ap length h.2
      ∙ length-append (record_octets h.0) more in
      one_before s h.0 more h.1 h.2 (read_within fuel more (omega (arith, size, whole, most)))
  | inr none ↦ none_before s none
]

pub some_reading : (stream : List ℕ) → Reading stream
some_reading stream = read_within (length stream) stream (omega arith)
