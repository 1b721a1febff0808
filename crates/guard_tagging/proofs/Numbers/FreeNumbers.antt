-- The numbers that items get are those of X.680 20.3: of an item without a number the least that is free.
use Rattle.std.proofs.Common.{◌≡◌, ℕ, zero, suc, ◌+◌, ◌<◌, ◌≤◌, Bool, true, false, ◌||◌, List, [], ◌∷◌, ◌++◌, length, Option, Some, None, refl, sym, ap, subst, ◌∙◌, arith, ◌⊎◌, inl, inr}
use Rattle.std.specs.Prelude.{ℤ, pos, negsuc}
use Rattle.std.specs.Ordering.{int_eq}
use Rattle.std.proofs.lemmas.Bool.{cases_lt}
use Rattle.std.proofs.lemmas.Bool.Decides.{Decides-int_eq}
use Rattle.guard_syntax.specs.Trees.{WrittenItem, WrittenNumber}
use Rattle.guard_tagging.specs.Enumerations.{written_number, written_numbers, free_from, given_number, next_number, numbered_from, numbered, is_among, HasNumber, AreNumbered}
use Rattle.guard_syntax.specs.Numbers.{number_of}
use Rattle.guard_tagging.proofs.Numbers.Items.{free_now, free_next}

-- ---- how many of some numbers are as great as this one or greater

abbrev reaches : ℕ → ℕ → ℕ
reaches zero m = 1
reaches (suc n) zero = 0
reaches (suc n) (suc m) = reaches n m

abbrev reaching : ℕ → ℤ → ℕ
reaching n (pos m) = reaches n m
reaching n (negsuc m) = 0

abbrev many : ℕ → List ℤ → ℕ
many n [] = 0
many n (z ∷ zs) = reaching n z + many n zs

fewer_reach : (n m : ℕ) → reaches (suc n) m ≤ reaches n m
fewer_reach zero zero = omega arith
fewer_reach zero (suc m) = omega arith
fewer_reach (suc n) zero = omega arith
fewer_reach (suc n) (suc m) = fewer_reach n m

reaches_itself : (n : ℕ) → reaches n n ≡ 1
reaches_itself zero = refl
reaches_itself (suc n) = reaches_itself n

not_further : (n : ℕ) → reaches (suc n) n ≡ 0
not_further zero = refl
not_further (suc n) = not_further n

at_most_one : (n m : ℕ) → reaches n m ≤ 1
at_most_one zero m = omega arith
at_most_one (suc n) zero = omega arith
at_most_one (suc n) (suc m) = at_most_one n m

fewer_reaching : (n : ℕ) (z : ℤ) → reaching (suc n) z ≤ reaching n z
fewer_reaching n (pos m) = fewer_reach n m
fewer_reaching n (negsuc m) = omega arith

one_each : (n : ℕ) (z : ℤ) → reaching n z ≤ 1
one_each n (pos m) = at_most_one n m
one_each n (negsuc m) = omega arith

fewer : (n : ℕ) (zs : List ℤ) → many (suc n) zs ≤ many n zs
fewer n [] = omega arith
fewer n (z ∷ zs) = omega (arith, fewer_reaching n z, fewer n zs)

no_more : (n : ℕ) (zs : List ℤ) → many n zs ≤ length zs
no_more n [] = omega arith
no_more n (z ∷ zs) = omega (arith, one_each n z, no_more n zs)

-- where this one is among them, there are fewer greater ones
one_fewer : (n : ℕ) (zs : List ℤ) → is_among zs (pos n) ≡ true → suc (many (suc n) zs) ≤ many n zs
one_fewer n [] h = absurd cc
one_fewer n (z ∷ zs) h = by (int_eq (pos n) z) refl h (one_fewer n zs)
  where
    by : (hit : Bool) → int_eq (pos n) z ≡ hit → (hit || is_among zs (pos n)) ≡ true
        → (is_among zs (pos n) ≡ true → suc (many (suc n) zs) ≤ many n zs)
        → suc (reaching (suc n) z + many (suc n) zs) ≤ reaching n z + many n zs
    by true is there others =
        let same : pos n ≡ z = (Decides-int_eq (pos n) z).0 is in
        let past : reaching (suc n) z ≡ 0 = ap (reaching (suc n)) (sym same) ∙ not_further n in
        let here : reaching n z ≡ 1 = ap (reaching n) (sym same) ∙ reaches_itself n in
        omega (arith, past, here, fewer n zs)
    by false is there others = omega (arith, fewer_reaching n z, others there)

-- ---- the first number from one on that isn't written

not_both : (b : Bool) → b ≡ true → b ≡ false → ⊥
not_both true h k = cc
not_both false h k = cc

abbrev IsFirst : List ℤ → ℕ → ℕ → Type 0
IsFirst written n k =
    (n ≤ k) × ((is_among written (pos k) ≡ false) × ((m : ℕ) → n ≤ m → m < k → is_among written (pos m) ≡ true))

here_free : (written : List ℤ) (tries n : ℕ) → is_among written (pos n) ≡ false
    → IsFirst written n (free_from written tries n)
here_free written tries n e =
    let here : n ≤ n = omega arith in
    subst (λ (k : ℕ). IsFirst written n k) (sym (free_now written tries n e))
    (here, (e, (λ m le lt. absurd (omega (arith, le, lt)))))

one_before : (written : List ℤ) (n k : ℕ) → is_among written (pos n) ≡ true → IsFirst written (suc n) k
    → IsFirst written n k
one_before written n k e first = (omega (arith, first.0), (first.1.0, (λ m le lt. by m le lt (cases_lt n m))))
  where
    by : (m : ℕ) → n ≤ m → m < k → (n < m) ⊎ (m ≤ n) → is_among written (pos m) ≡ true
    by m le lt (inl past) = first.1.1 m (omega (arith, past)) lt
    by m le lt (inr not_past) =
        let same : n ≡ m = omega (arith, le, not_past) in subst (λ (x : ℕ). is_among written (pos x) ≡ true) same e

first_free : (written : List ℤ) (tries n : ℕ) → many n written ≤ tries → IsFirst written n (free_from written tries n)
first_free written zero n few = by (is_among written (pos n)) refl
  where
    by : (b : Bool) → is_among written (pos n) ≡ b → IsFirst written n (free_from written zero n)
    by true e = absurd (omega (arith, one_fewer n written e, few))
    by false e = here_free written zero n e
first_free written (suc tries) n few = by (is_among written (pos n)) refl (first_free written tries (suc n))
  where
    by : (b : Bool) → is_among written (pos n) ≡ b
        → (many (suc n) written ≤ tries → IsFirst written (suc n) (free_from written tries (suc n)))
        → IsFirst written n (free_from written (suc tries) n)
    by true e next =
        let left : many (suc n) written ≤ tries = omega (arith, one_fewer n written e, few) in
        subst (λ (k : ℕ). IsFirst written n k) (sym (free_next written tries n e))
        (one_before written n (free_from written tries (suc n)) e (next left))
    by false e next = here_free written (suc tries) n e

-- ---- one item after the other

or_left : (a b : Bool) → a ≡ true → (a || b) ≡ true
or_left true b h = refl
or_left false b h = absurd cc

or_right : (a b : Bool) → b ≡ true → (a || b) ≡ true
or_right true b h = refl
or_right false b h = h

magnitude : ℤ → ℕ
magnitude (pos n) = n
magnitude (negsuc n) = n

same_number : (m n : ℕ) → pos m ≡ pos n → m ≡ n
unfolding magnitude
same_number m n h = ap magnitude h

module _ (written : List ℤ) (tries : ℕ) (few : length written ≤ tries) where
  -- all that are written are taken, all below the next one, and none but these
  abbrev Taken : ℕ → List ℤ → Type 0
  Taken next taken = ((q : ℤ) → is_among written q ≡ true → is_among taken q ≡ true)
      × (((m : ℕ) → m < next → is_among taken (pos m) ≡ true)
      × ((m : ℕ) → next ≤ m → is_among taken (pos m) ≡ true → is_among written (pos m) ≡ true))

  abbrev AreWritten : List ℤ → Type 0
  AreWritten zs = (q : ℤ) → is_among zs q ≡ true → is_among written q ≡ true

  abbrev Step : ℕ → List ℤ → Option WrittenNumber → Type 0
  Step next taken own =
      HasNumber taken own (given_number written tries next own)
      × Taken (next_number written tries next own) (given_number written tries next own ∷ taken)

  with_number : (next : ℕ) (taken : List ℤ) (n : WrittenNumber) → Taken next taken
      → is_among written (number_of n) ≡ true → Step next taken (Some n)
  with_number next taken n state there = (
    refl,
    (
      (λ q h. or_right (int_eq q (number_of n)) (is_among taken q) (state.0 q h)),
      (
        (λ m lt. or_right (int_eq (pos m) (number_of n)) (is_among taken (pos m)) (state.1.0 m lt)),
        (λ m le h. by m le (int_eq (pos m) (number_of n)) refl h),
      ),
    ),
  )
    where
      by : (m : ℕ) → next ≤ m → (hit : Bool) → int_eq (pos m) (number_of n) ≡ hit
          → (hit || is_among taken (pos m)) ≡ true → is_among written (pos m) ≡ true
      by m le true is h =
          subst (λ (z : ℤ). is_among written z ≡ true) (sym ((Decides-int_eq (pos m) (number_of n)).0 is)) there
      by m le false is h = state.1.1 m le h

  without_number : (next : ℕ) (taken : List ℤ) → Taken next taken → Step next taken None
  without_number next taken state = (
    (
      free_from written tries next,
      refl,
      not_taken (is_among taken (pos (free_from written tries next))) refl,
      (λ m lt. below m lt (cases_lt m next)),
    ),
    (
      (λ q h. or_right (int_eq q (pos (free_from written tries next))) (is_among taken q) (state.0 q h)),
      (
        (λ m lt. up_to m lt (cases_lt m (free_from written tries next))),
        (λ m le h. above m le (int_eq (pos m) (pos (free_from written tries next))) refl h),
      ),
    ),
  )
    where
      is_first : IsFirst written next (free_from written tries next)
      is_first = first_free written tries next (omega (arith, no_more next written, few))

      not_taken : (b : Bool) → is_among taken (pos (free_from written tries next)) ≡ b
          → is_among taken (pos (free_from written tries next)) ≡ false
      not_taken false e = e
      not_taken true e =
          absurd (not_both (is_among written (pos (free_from written tries next)))
          (state.1.1 (free_from written tries next) is_first.0 e) is_first.1.0)

      below : (m : ℕ) → m < free_from written tries next → (m < next) ⊎ (next ≤ m) → is_among taken (pos m) ≡ true
      below m lt (inl before) = state.1.0 m before
      below m lt (inr after) = state.0 (pos m) (is_first.1.1 m after lt)

      up_to : (m : ℕ) → m < suc (free_from written tries next)
          → (m < free_from written tries next) ⊎ (free_from written tries next ≤ m)
          → (int_eq (pos m) (pos (free_from written tries next)) || is_among taken (pos m)) ≡ true
      up_to m lt (inl before) =
          or_right (int_eq (pos m) (pos (free_from written tries next))) (is_among taken (pos m))
          (below m before (cases_lt m next))
      up_to m lt (inr not_before) =
          let same : m ≡ free_from written tries next = omega (arith, lt, not_before) in
          or_left (int_eq (pos m) (pos (free_from written tries next))) (is_among taken (pos m))
          ((Decides-int_eq (pos m) (pos (free_from written tries next))).1 (ap pos same))

      above : (m : ℕ) → suc (free_from written tries next) ≤ m → (hit : Bool)
          → int_eq (pos m) (pos (free_from written tries next)) ≡ hit → (hit || is_among taken (pos m)) ≡ true
          → is_among written (pos m) ≡ true
      above m le true is h =
          let same : m ≡ free_from written tries next =
          same_number m (free_from written tries next)
          ((Decides-int_eq (pos m) (pos (free_from written tries next))).0 is) in
          absurd (omega (arith, le, same))
      above m le false is h = state.1.1 m (omega (arith, le, is_first.0)) h

  one_step : (next : ℕ) (taken : List ℤ) (own : Option WrittenNumber) (others : List ℤ) → Taken next taken
      → AreWritten (written_number own ++ others) → Step next taken own
  one_step next taken None others state there = without_number next taken state
  one_step next taken (Some n) others state there =
      with_number next taken n state (there (number_of n)
      (or_left (int_eq (number_of n) (number_of n)) (is_among others (number_of n))
      ((Decides-int_eq (number_of n) (number_of n)).1 refl)))

  later : (own : Option WrittenNumber) (others : List ℤ) → AreWritten (written_number own ++ others) → AreWritten others
  later None others there = there
  later (Some n) others there = λ q h. there q (or_right (int_eq q (number_of n)) (is_among others q) h)

  all_numbered : (items : List WrittenItem) (next : ℕ) (taken : List ℤ) → Taken next taken
      → AreWritten (written_numbers items) → AreNumbered taken items (numbered_from written tries next items)
  all_numbered [] next taken state there = tt
  all_numbered (i ∷ items) next taken state there =
      let step = one_step next taken i.number (written_numbers items) state there in (
        refl,
        (
          step.0,
          all_numbered items (next_number written tries next i.number)
              (given_number written tries next i.number ∷ taken) step.1 (later i.number (written_numbers items) there),
        ),
      )

-- ---- of an ENUMERATED

one_longer : (own : Option WrittenNumber) (others : List ℤ) (n : ℕ) → length others ≤ n
    → length (written_number own ++ others) ≤ suc n
one_longer None others n le = omega (arith, le)
one_longer (Some m) others n le = omega (arith, le)

as_many : (items : List WrittenItem) → length (written_numbers items) ≤ length items
as_many [] = omega arith
as_many (i ∷ items) = one_longer i.number (written_numbers items) (length items) (as_many items)

pub items_numbered : (items : List WrittenItem) → AreNumbered (written_numbers items) items (numbered items)
items_numbered items =
    all_numbered (written_numbers items) (length items) (as_many items) items 0 (written_numbers items)
    ((λ q h. h), ((λ m lt. absurd (omega (arith, lt))), (λ m le h. h))) (λ q h. h)
