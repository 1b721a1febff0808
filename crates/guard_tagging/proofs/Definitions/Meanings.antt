-- What is known of the first definitions in an order: one meaning for each type, there is one such list, and how it
-- grows.
use Rattle.std.proofs.Common.{◌≡◌, ◌↔◌, ℕ, zero, suc, ◌≤◌, Bool, true, false, List, [], ◌∷◌, ◌++◌, length, map, take, Some, slice_get, refl, sym, subst, ap, ◌∙◌, arith}
use Rattle.std.proofs.lemmas.Option.{same_Some}
use Rattle.guard_model.specs.AbstractType.{AbstractType}
use Rattle.guard_syntax.specs.Trees.{WrittenModule}
use Rattle.guard_names.specs.Declarations.{Definition}
use Rattle.guard_tagging.specs.Automatic.{Automatic}
use Rattle.guard_tagging.specs.Skeletons.{IsMeaning, AreMeanings, AreSurroundings}
use Rattle.guard_tagging.specs.Surroundings.{surroundings}
use Rattle.guard_tagging.specs.Types.{Meaning, Surroundings}

-- ---- two answers to one question are the same

pub same_flag : (X : Type 0) (a b : Bool) → (a ≡ true) ↔ X → (b ≡ true) ↔ X → a ≡ b
same_flag X true true f g = refl
same_flag X false false f g = refl
same_flag X true false f g = sym (g.1 (f.0 refl))
same_flag X false true f g = f.1 (g.0 refl)

nothing_there : {A : Type 0} (xs : List A) (place : ℕ) (x : A) → xs ≡ [] → slice_get xs place ≡ Some x → ⊥
nothing_there [] place x e h = cc
nothing_there (y ∷ xs) place x e h = absurd cc

module _ (ms : List WrittenModule) where
  same_meaning : (number : ℕ) (t : AbstractType) (m o : Meaning) → IsMeaning ms number t m → IsMeaning ms number t o
      → m ≡ o
  same_meaning number t m o a b =
      ap (λ (u : AbstractType). record { ty = u; is_automatic = m.is_automatic }) (a.0 ∙ sym b.0)
      ∙ ap (λ (f : Bool). record { ty = o.ty; is_automatic = f })
      (same_flag (Automatic ms number) m.is_automatic o.is_automatic a.1 b.1)

  pub same_meanings : (order : List ℕ) (types : List AbstractType) (known others : List Meaning)
      → AreMeanings ms order types known → AreMeanings ms order types others → known ≡ others
  same_meanings [] types known others a b = a ∙ sym b
  same_meanings (n ∷ order) [] known others a b = a ∙ sym b
  same_meanings (n ∷ order) (t ∷ types) [] others a b = absurd a
  same_meanings (n ∷ order) (t ∷ types) (m ∷ known) [] a b = absurd b
  same_meanings (n ∷ order) (t ∷ types) (m ∷ known) (o ∷ others) a b =
      ap (λ (x : Meaning). x ∷ known) (same_meaning n t m o a.0 b.0)
      ∙ ap (λ (xs : List Meaning). o ∷ xs) (same_meanings order types known others a.1 b.1)

  pub none_yet : (order : List ℕ) → AreMeanings ms order [] []
  none_yet [] = refl
  none_yet (n ∷ order) = refl

  pub as_many : (order : List ℕ) (types : List AbstractType) (known : List Meaning) → AreMeanings ms order types known
      → length types ≤ length order → length known ≡ length types
  as_many [] [] known are l = ap length are
  as_many [] (t ∷ types) known are l = absurd (omega (arith, l))
  as_many (n ∷ order) [] known are l = ap length are
  as_many (n ∷ order) (t ∷ types) [] are l = absurd are
  as_many (n ∷ order) (t ∷ types) (m ∷ known) are l = ap suc (as_many order types known are.1 (omega (arith, l)))

  -- at each place
  pub automatic_there : (order : List ℕ) (types : List AbstractType) (known : List Meaning)
      → AreMeanings ms order types known
      → (place number : ℕ) (m : Meaning) → slice_get order place ≡ Some number → slice_get known place ≡ Some m
      → (m.is_automatic ≡ true) ↔ Automatic ms number
  automatic_there [] types known are place number m n k = absurd cc
  automatic_there (x ∷ order) [] known are place number m n k = absurd (nothing_there known place m are k)
  automatic_there (x ∷ order) (t ∷ types) [] are place number m n k = absurd are
  automatic_there (x ∷ order) (t ∷ types) (y ∷ known) are zero number m n k =
      subst (λ (z : ℕ). (m.is_automatic ≡ true) ↔ Automatic ms z) (same_Some x number n)
      (subst (λ (z : Meaning). (z.is_automatic ≡ true) ↔ Automatic ms x) (same_Some y m k) are.0.1)
  automatic_there (x ∷ order) (t ∷ types) (y ∷ known) are (suc place) number m n k =
      automatic_there order types known are.1 place number m n k

  -- one definition more
  pub one_meaning_more : (order : List ℕ) (types : List AbstractType) (known : List Meaning) (t : AbstractType)
      (m : Meaning) (number : ℕ)
      → AreMeanings ms order types known → slice_get order (length types) ≡ Some number → IsMeaning ms number t m
      → AreMeanings ms order (types ++ t ∷ []) (known ++ m ∷ [])
  one_meaning_more [] types known t m number are n is = absurd cc
  one_meaning_more (x ∷ order) [] known t m number are n is =
      subst (λ (ks : List Meaning). AreMeanings ms (x ∷ order) (t ∷ []) (ks ++ m ∷ [])) (sym are)
      (subst (λ (z : ℕ). IsMeaning ms z t m) (sym (same_Some x number n)) is, none_yet order)
  one_meaning_more (x ∷ order) (u ∷ types) [] t m number are n is = absurd are
  one_meaning_more (x ∷ order) (u ∷ types) (k ∷ known) t m number are n is =
      (are.0, one_meaning_more order types known t m number are.1 n is)

  -- their types
  pub types_taken : (order : List ℕ) (types : List AbstractType) (known : List Meaning)
      → AreMeanings ms order types known
      → map (λ m. m.ty) known ≡ take (length order) types
  types_taken [] types known are = ap (map (λ m. m.ty)) are
  types_taken (n ∷ order) [] known are = ap (map (λ m. m.ty)) are
  types_taken (n ∷ order) (t ∷ types) [] are = absurd are
  types_taken (n ∷ order) (t ∷ types) (m ∷ known) are =
      ap (λ (u : AbstractType). u ∷ map (λ m. m.ty) known) are.0.0
      ∙ ap (λ (ts : List AbstractType). t ∷ ts) (types_taken order types known are.1)

  -- under what a definition is written
  pub same_surroundings : (order : List ℕ) (types : List AbstractType) (d : Definition) (around other : Surroundings)
      → AreSurroundings ms order types d around → AreSurroundings ms order types d other → around ≡ other
  same_surroundings order types d around other a b =
      a.2 ∙ ap (λ (known : List Meaning). surroundings ms order known d.home)
      (same_meanings order types a.0 b.0 a.1 b.1) ∙ sym b.2
