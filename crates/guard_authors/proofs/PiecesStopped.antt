-- What is compared of a piece, whether it is taken whole or not.
use Rattle.std.proofs.Common.{◌≡◌, ◌∙◌, ℕ, List, [], ◌++◌, ap, sym, subst, drop}
use Rattle.guard_authors.specs.declared.summary.Sums.{Sums}
use Rattle.guard_authors.specs.Differing.{AbstractComparison, AreLines}
use Rattle.guard_authors.specs.inside.Pieces.{AreCompared, HasPassed}

pub passed_whole : (c : AbstractComparison) (octets slice whole : List ℕ) (old : Sums) (before : List ℕ) (at : ℕ) (new : Sums)
    (behind : List ℕ) → slice ≡ octets → octets ≡ whole → before ≡ [] → HasPassed c slice old before at new behind
    → AreCompared c whole old (drop at whole) behind new
passed_whole c octets slice whole old before at new behind same is none h =
    let k : HasPassed c whole old before at new behind =
    subst (λ (s : List ℕ). HasPassed c s old before at new behind) (same ∙ is) h in
    record {
      frames = k.frames;
      each = k.each;
      split = k.split;
      are = subst (λ (s : List ℕ). AreLines c old.tally k.frames s new.tally) (sym (k.added ∙ ap (λ s. s ++ k.lines) none)) k.are;
      counted = k.counted;
    }
