-- What a test shows. More of this kind is in Rattle.std.proofs.lemmas.Bool.
use Rattle.std.proofs.Common.{◌≡◌, Bool, true, false, cond, ◌&&◌, ◌⊎◌, inl, inr, refl, sym}

-- what is chosen by a test
pub chosen : {A : Type 0} (b : Bool) (x y z : A) → cond b x y ≡ z → ((b ≡ true) × (x ≡ z)) ⊎ ((b ≡ false) × (y ≡ z))
chosen true x y z e = inl (refl, e)
chosen false x y z e = inr (refl, e)

-- the first of two tests that fails
pub not_both : (a b : Bool) → (a && b) ≡ false → (a ≡ false) ⊎ ((a ≡ true) × (b ≡ false))
not_both true b e = inr (refl, e)
not_both false b e = inl refl

-- tests that pass together are equal
pub same_test : (a b : Bool) → (a ≡ true → b ≡ true) → (b ≡ true → a ≡ true) → a ≡ b
same_test true true f g = refl
same_test true false f g = sym (f refl)
same_test false true f g = g refl
same_test false false f g = refl

-- ---- a test of all, as a loop makes it: it goes on after a part that passes, and ends at one that doesn't

pub and_on : (a b whole : Bool) → a ≡ true → (a && b) ≡ whole → b ≡ whole
and_on true b whole passed e = e
and_on false b whole passed e = absurd cc

pub and_stop : (a b whole : Bool) → a ≡ false → (a && b) ≡ whole → false ≡ whole
and_stop true b whole failed e = absurd cc
and_stop false b whole failed e = e
