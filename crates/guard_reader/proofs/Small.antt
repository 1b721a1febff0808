-- Numbers of one and two octets.
use Rattle.std.proofs.Common.{◌≡◌, ℕ, ◌+◌, ◌-◌, ◌<◌, ◌≤◌, Bool, true, false, ltb, leb, eqb, [], ◌∷◌, None, refl, sym, ap, arith, inl, inr, pos, negsuc}
use Rattle.std.specs.Prelude.{◌||◌, ◌&&◌, ◌⊎◌}
use Rattle.std.specs.Int.Signed.{lt_z}
use Rattle.std.proofs.lemmas.Bool.{le-ltb, ltb-true, leb-true, eqb-true, and_parts}
use Rattle.guard_der.specs.Octets.{twos_complement}
use Rattle.guard_der.specs.Simple.{integer_fault, nine_equal}

low_narrow : (b : ℕ) → b < 128 → (lt_z (twos_complement (0 ∷ b ∷ [])) (negsuc 127) || lt_z (pos 127) (twos_complement (0 ∷ b ∷ []))) ≡ false
unfolding twos_complement
low_narrow b h = le-ltb 127 (0 + b) (omega (arith, h))

high_narrow : (b : ℕ) → 128 ≤ b → (lt_z (twos_complement (255 ∷ b ∷ [])) (negsuc 127) || lt_z (pos 127) (twos_complement (255 ∷ b ∷ []))) ≡ false
unfolding twos_complement
high_narrow b h = ap (λ (t : Bool). t || false) (le-ltb 127 (0 + (255 - b)) (omega (arith, h)))

either : (a b : Bool) → (a || b) ≡ true → (a ≡ true) ⊎ (b ≡ true)
either true b e = inl refl
either false b e = inr e

not_nine : (a b : ℕ) (nine : Bool) → nine_equal (a ∷ b ∷ []) ≡ nine → (lt_z (twos_complement (a ∷ b ∷ [])) (negsuc 127) || lt_z (pos 127) (twos_complement (a ∷ b ∷ []))) ≡ true → nine ≡ false
not_nine a b false e wide = refl
not_nine a b true e wide =
    elim (either (eqb a 0 && ltb b 128) (eqb a 255 && leb 128 b) e) [
      | inl low ↦
          let p = and_parts (eqb a 0) (ltb b 128) low in
          let is : a ≡ 0 = eqb-true a 0 p.0 in
          absurd (let w = rw is at wide in let n = low_narrow b (ltb-true b 128 p.1) in cc)
      | inr high ↦
          let p = and_parts (eqb a 255) (leb 128 b) high in
          let is : a ≡ 255 = eqb-true a 255 p.0 in
          absurd (let w = rw is at wide in let n = high_narrow b (leb-true 128 b p.1) in cc)
    ]

pub wide_right : (a b : ℕ) → (lt_z (twos_complement (a ∷ b ∷ [])) (negsuc 127) || lt_z (pos 127) (twos_complement (a ∷ b ∷ []))) ≡ true → integer_fault (a ∷ b ∷ []) ≡ None
wide_right a b wide = let nine : nine_equal (a ∷ b ∷ []) ≡ false = sym (sym (not_nine a b (nine_equal (a ∷ b ∷ [])) refl wide)) in rw nine refl
