-- What is asked of a part, once all terms are added to all parts, is what the terms ask of it.
use Rattle.std.proofs.Common.{◌≡◌, ℕ, zero, suc, ◌<◌, ◌≤◌, Bool, true, false, cond, eqb, List, [], ◌∷◌, ◌++◌, length, replicate, get_or, set, refl, sym, ap, subst, ◌∙◌, append_assoc, arith, inl, inr}
use Rattle.std.proofs.Math.Arith.{lt_of_le-ne}
use Rattle.std.proofs.lemmas.Bool.{ne_eqb}
use Rattle.std.proofs.lemmas.Bool.Decides.{eqb_tells}
use Rattle.std.proofs.lemmas.List.{append-nil, length-map}
use Rattle.guard_tables.specs.declared.slots.Slots.{Slots}
use Rattle.guard_tables.specs.declared.demands_of_parts.PartDemands as code
use Rattle.guard_tables.specs.Slots.{added, none}
use Rattle.guard_tables.specs.Demands.{Demand, SlotDemand, Atom, scalar, equals, sized, spelled, each, within, sent, unsent, Term}
use Rattle.guard_tables.specs.OfParts.{slot_demand, within_in, within_of}
use Rattle.guard_tables.specs.Lay.{added_if, slots_where, is_sent, is_unsent, absent_of}
use Rattle.guard_tables.specs.inside.DemandsOfParts.{PartAsked, part_asked, parts_asked, nothing_asked, asked_at, with_term, changed_at, added_below, add_term, add_terms}
use Rattle.guard_tables.proofs.SlotSums.{added_none, none_added, added_again, added_turned}

abbrev asked : List SlotDemand → Slots → Slots → PartAsked
asked demands absent present = record { demands = demands; absent = absent; present = present }

abbrev at_place : List PartAsked → ℕ → PartAsked
at_place [] i = nothing_asked
at_place (p ∷ ps) zero = p
at_place (p ∷ ps) (suc i) = at_place ps i

-- ---- one part changed

changed_long : (j : ℕ) (f : PartAsked → PartAsked) (ps : List PartAsked) → length (changed_at j f ps) ≡ length ps
changed_long j f [] = refl
changed_long zero f (p ∷ ps) = refl
changed_long (suc j) f (p ∷ ps) = ap suc (changed_long j f ps)

changed_there : (j : ℕ) (f : PartAsked → PartAsked) (ps : List PartAsked) → j < length ps → at_place (changed_at j f ps) j ≡ f (at_place ps j)
changed_there j f [] lt = absurd (omega (arith, lt))
changed_there zero f (p ∷ ps) lt = refl
changed_there (suc j) f (p ∷ ps) lt = changed_there j f ps (omega (arith, lt))

changed_apart : (j : ℕ) (f : PartAsked → PartAsked) (ps : List PartAsked) (i : ℕ) → (j ≡ i → ⊥) → at_place (changed_at j f ps) i ≡ at_place ps i
changed_apart j f [] i ne = refl
changed_apart zero f (p ∷ ps) zero ne = absurd (ne refl)
changed_apart zero f (p ∷ ps) (suc i) ne = refl
changed_apart (suc j) f (p ∷ ps) zero ne = refl
changed_apart (suc j) f (p ∷ ps) (suc i) ne = changed_apart j f ps i (λ e. ne (ap suc e))

-- the part of which the term speaks, where it changes no other
changed_law : (exclusive : Bool) (j : ℕ) (t : Term) (ps : List PartAsked) (i : ℕ) → i < length ps → ((j ≡ i → ⊥) → with_term exclusive i t (at_place ps i) ≡ at_place ps i)
    → at_place (changed_at j (with_term exclusive j t) ps) i ≡ with_term exclusive i t (at_place ps i)
changed_law exclusive j t ps i lt silent = elim (eqb_tells j i) [
  | inl h ↦ subst (λ (k : ℕ). at_place (changed_at j (with_term exclusive j t) ps) k ≡ with_term exclusive k t (at_place ps k)) h.1 (changed_there j (with_term exclusive j t) ps (omega (arith, lt, h.1)))
  | inr h ↦ changed_apart j (with_term exclusive j t) ps i h.1 ∙ sym (silent h.1)
]

below_long : (n : ℕ) (t : Term) (ps : List PartAsked) → length (added_below n t ps) ≡ length ps
below_long zero t ps = refl
below_long (suc n) t ps = below_long n t (changed_at n (with_term true n t) ps) ∙ changed_long n (with_term true n t) ps

-- those from n on have what they had
below_apart : (n : ℕ) (t : Term) (ps : List PartAsked) (i : ℕ) → n ≤ i → at_place (added_below n t ps) i ≡ at_place ps i
below_apart zero t ps i le = refl
below_apart (suc n) t ps i le =
    below_apart n t (changed_at n (with_term true n t) ps) i (omega (arith, le))
    ∙ changed_apart n (with_term true n t) ps i (λ e. absurd (omega (arith, le, e)))

below_law : (n : ℕ) (t : Term) (ps : List PartAsked) (i : ℕ) → i < length ps → i < n → at_place (added_below n t ps) i ≡ with_term true i t (at_place ps i)
below_law zero t ps i lt le = absurd (omega (arith, le))
below_law (suc n) t ps i lt le = elim (eqb_tells n i) [
  | inl h ↦
      below_apart n t (changed_at n (with_term true n t) ps) i (omega (arith, h.1))
      ∙ subst (λ (k : ℕ). at_place (changed_at n (with_term true n t) ps) k ≡ with_term true k t (at_place ps k)) h.1 (changed_there n (with_term true n t) ps (omega (arith, lt, h.1)))
  | inr h ↦
      below_law n t (changed_at n (with_term true n t) ps) i (omega (arith, lt, changed_long n (with_term true n t) ps)) (lt_of_le-ne (omega (arith, le)) (λ e. h.1 (sym e)))
      ∙ ap (with_term true i t) (changed_apart n (with_term true n t) ps i h.1)
]

-- ---- a term says nothing of parts of which it doesn't speak

silent_within : (j i : ℕ) (k : Slots) (d : Demand) (p : PartAsked) → (j ≡ i → ⊥) → asked (p.demands ++ within_in i k (within j d)) p.absent p.present ≡ p
silent_within j i k d p ne =
    ap (λ (b : Bool). asked (p.demands ++ cond b (slot_demand k d ∷ []) []) p.absent p.present) (ne_eqb j i ne)
    ∙ ap (λ (demands : List SlotDemand). asked demands p.absent p.present) (append-nil p.demands)

silent_sent : (j i : ℕ) (k : Slots) (p : PartAsked) → (j ≡ i → ⊥) → asked (p.demands ++ []) (added_if (eqb j i) k p.absent) p.present ≡ p
silent_sent j i k p ne =
    ap (λ (b : Bool). asked (p.demands ++ []) (added_if b k p.absent) p.present) (ne_eqb j i ne)
    ∙ ap (λ (demands : List SlotDemand). asked demands p.absent p.present) (append-nil p.demands)

silent_unsent : (j i : ℕ) (k : Slots) (p : PartAsked) → (j ≡ i → ⊥) → asked (p.demands ++ []) p.absent (added_if (eqb j i) k p.present) ≡ p
silent_unsent j i k p ne =
    ap (λ (b : Bool). asked (p.demands ++ []) p.absent (added_if b k p.present)) (ne_eqb j i ne)
    ∙ ap (λ (demands : List SlotDemand). asked demands p.absent p.present) (append-nil p.demands)

silent : (p : PartAsked) → p ≡ asked (p.demands ++ []) p.absent p.present
silent p = sym (ap (λ (demands : List SlotDemand). asked demands p.absent p.present) (append-nil p.demands))

-- ---- all terms

sent_law : (exclusive : Bool) (j : ℕ) (k : Slots) (ps : List PartAsked) (i : ℕ) → i < length ps
    → at_place (add_term exclusive (record { slots = k; atom = sent j }) ps) i ≡ with_term exclusive i (record { slots = k; atom = sent j }) (at_place ps i)
sent_law true j k ps i lt = below_law (length ps) (record { slots = k; atom = sent j }) ps i lt lt
sent_law false j k ps i lt = changed_law false j (record { slots = k; atom = sent j }) ps i lt (silent_sent j i k (at_place ps i))

atom_law : (exclusive : Bool) (a : Atom) (k : Slots) (ps : List PartAsked) (i : ℕ) → i < length ps
    → at_place (add_term exclusive (record { slots = k; atom = a }) ps) i ≡ with_term exclusive i (record { slots = k; atom = a }) (at_place ps i)
atom_law exclusive (within j d) k ps i lt = changed_law exclusive j (record { slots = k; atom = within j d }) ps i lt (silent_within j i k d (at_place ps i))
atom_law exclusive (unsent j) k ps i lt = changed_law exclusive j (record { slots = k; atom = unsent j }) ps i lt (silent_unsent j i k (at_place ps i))
atom_law exclusive (sent j) k ps i lt = sent_law exclusive j k ps i lt
atom_law exclusive (each d) k ps i lt = silent (at_place ps i)
atom_law exclusive (scalar own c) k ps i lt = silent (at_place ps i)
atom_law exclusive (equals w) k ps i lt = silent (at_place ps i)
atom_law exclusive (sized c) k ps i lt = silent (at_place ps i)
atom_law exclusive (spelled ranges) k ps i lt = silent (at_place ps i)

sent_long : (exclusive : Bool) (j : ℕ) (k : Slots) (ps : List PartAsked) → length (add_term exclusive (record { slots = k; atom = sent j }) ps) ≡ length ps
sent_long true j k ps = below_long (length ps) (record { slots = k; atom = sent j }) ps
sent_long false j k ps = changed_long j (with_term false j (record { slots = k; atom = sent j })) ps

atom_long : (exclusive : Bool) (a : Atom) (k : Slots) (ps : List PartAsked) → length (add_term exclusive (record { slots = k; atom = a }) ps) ≡ length ps
atom_long exclusive (within j d) k ps = changed_long j (with_term exclusive j (record { slots = k; atom = within j d })) ps
atom_long exclusive (unsent j) k ps = changed_long j (with_term exclusive j (record { slots = k; atom = unsent j })) ps
atom_long exclusive (sent j) k ps = sent_long exclusive j k ps
atom_long exclusive (each d) k ps = refl
atom_long exclusive (scalar own c) k ps = refl
atom_long exclusive (equals w) k ps = refl
atom_long exclusive (sized c) k ps = refl
atom_long exclusive (spelled ranges) k ps = refl

all_long : (exclusive : Bool) (ts : List Term) (ps : List PartAsked) → length (add_terms exclusive ts ps) ≡ length ps
all_long exclusive [] ps = refl
all_long exclusive (t ∷ ts) ps = all_long exclusive ts (add_term exclusive t ps) ∙ atom_long exclusive t.atom t.slots ps

abbrev with_all : Bool → ℕ → List Term → PartAsked → PartAsked
with_all exclusive i [] p = p
with_all exclusive i (t ∷ ts) p = with_all exclusive i ts (with_term exclusive i t p)

all_law : (exclusive : Bool) (ts : List Term) (ps : List PartAsked) (i : ℕ) → i < length ps → at_place (add_terms exclusive ts ps) i ≡ with_all exclusive i ts (at_place ps i)
all_law exclusive [] ps i lt = refl
all_law exclusive (t ∷ ts) ps i lt =
    all_law exclusive ts (add_term exclusive t ps) i (omega (arith, lt, atom_long exclusive t.atom t.slots ps))
    ∙ ap (with_all exclusive i ts) (atom_law exclusive t.atom t.slots ps i lt)

-- ---- what one part has then

all_three : {xs ys : List SlotDemand} {k l m n : Slots} → xs ≡ ys → k ≡ l → m ≡ n → asked xs k m ≡ asked ys l n
all_three p q r = λ i. asked (p i) (q i) (r i)

put_between : (b : Bool) (k m r : Slots) → added (added_if b k m) r ≡ added m (added_if b k r)
put_between true k m r = added_again m k r ∙ ap (added m) (added_turned k r)
put_between false k m r = refl

asked_law : (exclusive : Bool) (i : ℕ) (ts : List Term) (p : PartAsked)
    → with_all exclusive i ts p ≡ asked (p.demands ++ within_of i ts) (added p.absent (absent_of i ts)) (added p.present (slots_where (is_unsent exclusive i) ts))
asked_law exclusive i [] p = sym (all_three (append-nil p.demands) (added_none p.absent) (added_none p.present))
asked_law exclusive i (t ∷ ts) p =
    asked_law exclusive i ts (with_term exclusive i t p)
    ∙ all_three (append_assoc p.demands (within_in i t.slots t.atom) (within_of i ts)) (put_between (is_sent i t.atom) t.slots p.absent (absent_of i ts))
    (put_between (is_unsent exclusive i t.atom) t.slots p.present (slots_where (is_unsent exclusive i) ts))

empty_at : (n i : ℕ) → at_place (replicate n nothing_asked) i ≡ nothing_asked
empty_at zero i = refl
empty_at (suc n) zero = refl
empty_at (suc n) (suc i) = empty_at n i

empty_long : (n : ℕ) → length (replicate n nothing_asked) ≡ n
empty_long zero = refl
empty_long (suc n) = ap suc (empty_long n)

-- ---- in the lists of the code

pub one_changed : (ps : List code.PartDemands) (place : ℕ) (old new : code.PartDemands) (f : PartAsked → PartAsked) → place < length ps → old ≡ get_or ps place old → part_asked new ≡ f (part_asked old)
    → parts_asked (set ps place new) ≡ changed_at place f (parts_asked ps)
one_changed [] place old new f lt is more = absurd (omega (arith, lt))
one_changed (p ∷ ps) zero old new f lt is more = ap (λ (q : PartAsked). q ∷ parts_asked ps) (more ∙ ap (λ (q : code.PartDemands). f (part_asked q)) is)
one_changed (p ∷ ps) (suc place) old new f lt is more = ap (λ (rest : List PartAsked). part_asked p ∷ rest) (one_changed ps place old new f (omega (arith, lt)) is more)

none_there : (place : ℕ) (f : PartAsked → PartAsked) (ps : List PartAsked) → length ps ≤ place → changed_at place f ps ≡ ps
none_there place f [] le = refl
none_there zero f (p ∷ ps) le = absurd (omega (arith, le))
none_there (suc place) f (p ∷ ps) le = ap (λ (rest : List PartAsked). p ∷ rest) (none_there place f ps (omega (arith, le)))

pub not_changed : (ps : List code.PartDemands) (place : ℕ) (f : PartAsked → PartAsked) → length ps ≤ place → parts_asked ps ≡ changed_at place f (parts_asked ps)
not_changed ps place f le = sym (none_there place f (parts_asked ps) (omega (arith, le, length-map ps part_asked)))

part_read : (vs : List code.PartDemands) (place : ℕ) (v : code.PartDemands) → place < length vs → v ≡ get_or vs place v → part_asked v ≡ at_place (parts_asked vs) place
part_read [] place v lt is = absurd (omega (arith, lt))
part_read (x ∷ xs) zero v lt is = ap part_asked is
part_read (x ∷ xs) (suc place) v lt is = part_read xs place v (omega (arith, lt)) is

pub all_added : (exclusive : Bool) (all : List Term) (n : ℕ) (vs : List code.PartDemands) → parts_asked vs ≡ add_terms exclusive all (replicate n nothing_asked) → length vs ≡ n
all_added exclusive all n vs is =
    sym (length-map vs part_asked) ∙ ap (λ (ps : List PartAsked). length ps) is ∙ all_long exclusive all (replicate n nothing_asked) ∙ empty_long n

pub asked_read : (exclusive : Bool) (all : List Term) (n : ℕ) (vs : List code.PartDemands) (place : ℕ) (v : code.PartDemands) → parts_asked vs ≡ add_terms exclusive all (replicate n nothing_asked) → place < n → v ≡ get_or vs place v
    → part_asked v ≡ asked_at exclusive place all
asked_read exclusive all n vs place v is lt at =
    part_read vs place v (omega (arith, lt, all_added exclusive all n vs is)) at
    ∙ ap (λ (ps : List PartAsked). at_place ps place) is
    ∙ all_law exclusive all (replicate n nothing_asked) place (omega (arith, lt, empty_long n))
    ∙ ap (with_all exclusive place all) (empty_at n place)
    ∙ asked_law exclusive place all nothing_asked
    ∙ ap (λ (m : Slots). asked (within_of place all) m (added none (slots_where (is_unsent exclusive place) all))) (none_added (absent_of place all))
    ∙ ap (λ (m : Slots). asked (within_of place all) (absent_of place all) m) (none_added (slots_where (is_unsent exclusive place) all))
