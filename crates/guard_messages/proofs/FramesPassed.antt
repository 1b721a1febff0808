-- The frames of a stream, read one after another up to one of a number.
use Rattle.std.proofs.Common.{◌≡◌, ◌∙◌, ◌+◌, ◌<◌, ◌^◌, inl, inr, ℕ, Bool, List, [], ◌∷◌, ◌++◌, ap, refl, sym, subst, length, length-append, arith}
use Rattle.std.specs.Prelude.{Option}
use Rattle.std.specs.List.{concat, All}
use Rattle.std.specs.Io.KnownBytes.{Consumes, IsAtEnd}
use Rattle.std.proofs.lemmas.List.{append-nil}
use Rattle.std.proofs.lemmas.List.Folds.{concat-append}
use Rattle.guard_frames.specs.declared.running.RunFault.{RunFault}
use Rattle.guard_frames.specs.declared.running.RunFault.TheVariants.{FrameTooLong, WriteFailed, TornFrame, ReadFailed, OutOfMemory}
use Rattle.guard_frames.specs.Frames.{IsFrame}
use Rattle.guard_frames.specs.Totals.{WentUpBy}
use Rattle.guard_frames.proofs.Elements.{All_none, All_more}
use Rattle.guard_frames.proofs.Reading.{Consumes_none, Consumes_trans}
use Rattle.guard_files.specs.Devices.{input_of}
use Rattle.guard_files.specs.NextFrame.{IsNoFrame}
use Rattle.guard_messages.specs.Numbered.{BreaksBefore, StopsBefore}

-- So many frames were read.
pub record PassedSoFar (a b : Option (List ℕ)) (n : ℕ) : Type 0 where
  pub frames : List (List ℕ)
  pub given : Consumes a b (concat frames)
  pub each : All IsFrame frames
  pub many : length frames ≡ n

pub none_passed : (a : Option (List ℕ)) → PassedSoFar a a 0
none_passed a = record { frames = []; given = Consumes_none a; each = All_none IsFrame; many = refl }

module _ (a b : Option (List ℕ)) (n : ℕ) (so_far : PassedSoFar a b n) where
  pub one_passed : (c : Option (List ℕ)) (frame : List ℕ) (m : ℕ) → IsFrame frame → Consumes b c frame → m ≡ n + 1
      → PassedSoFar a c m
  one_passed c frame m is read next =
      let joined : concat (so_far.frames ++ frame ∷ []) ≡ concat so_far.frames ++ frame =
      concat-append so_far.frames (frame ∷ []) ∙ ap (λ s. concat so_far.frames ++ s) (append-nil frame) in
      let size = length-append so_far.frames (frame ∷ []) in
      let many = so_far.many in record {
        frames = so_far.frames ++ frame ∷ [];
        given = subst (λ (s : List ℕ). Consumes a c s) (sym joined)
            (Consumes_trans a b c (concat so_far.frames) frame so_far.given read);
        each = All_more IsFrame so_far.frames frame so_far.each is;
        many = omega (arith, size, many, next);
      }

  broken_before : (c : Option (List ℕ)) (y z : ℕ) (failed : Bool) (number : ℕ) (rest : List ℕ)
      (IsRest : List ℕ → Type 0) → Consumes b c rest → n < number → IsRest rest
      → BreaksBefore number (input_of a c y z failed) IsRest
  broken_before c y z failed number rest IsRest read few is = let many = so_far.many in record {
    frames = so_far.frames;
    each = so_far.each;
    fewer = omega (arith, many, few);
    rest = rest;
    given = Consumes_trans a b c (concat so_far.frames) rest so_far.given read;
    is = is;
  }

  -- no more can be read
  pub stops_before : (fault : RunFault) (c : Option (List ℕ)) (y z reads : ℕ) (failed : Bool) (number : ℕ) (rest : List ℕ)
      → Consumes b c rest → IsNoFrame fault rest (IsAtEnd c) failed reads → (reads ≡ 0 → WentUpBy y (2 ^ 40) z)
      → n < number → StopsBefore fault number (input_of a c y z failed)
  stops_before FrameTooLong c y z reads failed number rest read why asked few =
      broken_before c y z failed number rest _ read few why
  stops_before TornFrame c y z reads failed number rest read why asked few =
      broken_before c y z failed number rest _ read few why
  stops_before ReadFailed c y z reads failed number rest read why asked few =
      broken_before c y z failed number rest _ read few (why.0, elim why.1 [ inl x ↦ inl x | inr x ↦ inr (asked x) ])
  stops_before WriteFailed c y z reads failed number rest read why asked few = absurd why
  stops_before OutOfMemory c y z reads failed number rest read why asked few = absurd why
