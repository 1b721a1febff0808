-- Octets that are read as a frame: four of length, and those behind them.
use Rattle.std.proofs.Common.{◌≡◌, ◌∙◌, ◌+◌, ◌<◌, ◌≤◌, ℕ, List, ◌++◌, ap, sym, subst, take, drop, length, length-append, arith}
use Rattle.std.specs.Prelude.{Option}
use Rattle.std.specs.Io.KnownBytes.{Consumes}
use Rattle.std.proofs.lemmas.List.{length-take-le, length-drop}
use Rattle.std.proofs.Math.Seq.{take-add}
use Rattle.guard_frames.specs.Frames.{stated_length, IsFrame, IsTooLong, IsUnfinished}
use Rattle.guard_frames.proofs.Reading.{Consumes_trans}
use Rattle.guard_frames.proofs.Readings.{stated_length-append}

-- fewer octets than say a length
pub few_unfinished : (s : List ℕ) → length s < 4 → IsUnfinished s
few_unfinished s few = record {
  allowed = λ four. absurd (omega (arith, few, four));
  short = λ four. absurd (omega (arith, few, four));
}

-- the first four octets were read
pub head_read : (a b : Option (List ℕ)) (n : ℕ) (room : List ℕ) → n ≤ 4 → 4 ≤ n → Consumes a b (take n room)
    → Consumes a b (take 4 room)
head_read a b n room most least p =
    let four : n ≡ 4 = omega (arith, most, least) in
    subst (λ (k : ℕ). Consumes a b (take k room)) four p

module _ (room : List ℕ) (body : ℕ) (four : 4 ≤ length room) (stated : body ≡ stated_length (take 4 room)) where
  long : length (take 4 room) ≡ 4
  long = length-take-le 4 room four

  pub too_long_head : 1048576 < body → IsTooLong (take 4 room) × (length (take 4 room) ≡ 4)
  too_long_head beyond = (record { header = omega (arith, long); beyond = omega (arith, beyond, stated) }, long)

  -- and fewer octets behind them than they say
  pub torn_read : (a b c : Option (List ℕ)) (part : List ℕ) → body ≤ 1048576 → length part < body
      → Consumes a b (take 4 room) → Consumes b c part
      → (rest : List ℕ) × Consumes a c rest × (0 < length rest) × IsUnfinished rest
  torn_read a b c part allowed few p q =
      let same : stated_length (take 4 room ++ part) ≡ stated_length (take 4 room) =
      stated_length-append (take 4 room) part (omega (arith, long)) in
      let size = length-append (take 4 room) part in (
        take 4 room ++ part,
        Consumes_trans a b c (take 4 room) part p q,
        omega (arith, size, long),
        record {
          allowed = λ h. omega (arith, same, stated, allowed);
          short = λ h. omega (arith, same, stated, few, size, long);
        },
      )

  -- and as many as they say
  pub frame_read : (a b c : Option (List ℕ)) (new : List ℕ) (m : ℕ) → body ≤ 1048576 → m ≤ body → body ≤ m
      → body + 4 ≤ length new → take 4 new ≡ take 4 room
      → Consumes a b (take 4 room) → Consumes b c (take m (drop 4 new))
      → IsFrame (take (body + 4) new) × Consumes a c (take (body + 4) new)
  frame_read a b c new m allowed most least within kept p q =
      let whole : m ≡ body = omega (arith, most, least) in
      let swapped : body + 4 ≡ 4 + body = omega arith in
      let front : take (body + 4) new ≡ take 4 room ++ take body (drop 4 new) =
      ap (λ (k : ℕ). take k new) swapped ∙ take-add 4 body new ∙ ap (λ x. x ++ take body (drop 4 new)) kept in
      let behind : length (take body (drop 4 new)) ≡ body =
      length-take-le body (drop 4 new) (omega (arith, within, length-drop 4 new)) in
      let size = length-append (take 4 room) (take body (drop 4 new)) in
      let same : stated_length (take 4 room ++ take body (drop 4 new)) ≡ stated_length (take 4 room) =
      stated_length-append (take 4 room) (take body (drop 4 new)) (omega (arith, long)) in
      let frame : IsFrame (take 4 room ++ take body (drop 4 new)) = record {
        header = omega (arith, size, long);
        allowed = omega (arith, same, stated, allowed);
        exact = omega (arith, same, stated, size, long, behind);
      } in
      let q₁ : Consumes b c (take body (drop 4 new)) = subst (λ (k : ℕ). Consumes b c (take k (drop 4 new))) whole q in (
        subst IsFrame (sym front) frame,
        subst (λ (s : List ℕ). Consumes a c s) (sym front)
            (Consumes_trans a b c (take 4 room) (take body (drop 4 new)) p q₁),
      )
