-- Reading one after the other, as a loop does.
use Rattle.std.proofs.Common.{◌≡◌, ℕ, zero, suc, ◌-◌, ◌+◌, ◌≤◌, ◌<◌, Bool, true, false, List, [], ◌∷◌, ◌++◌, length, map, Option, Some, None, Result, Ok, Err, refl, sym, ap, ◌∙◌, append_assoc, arith}
use Rattle.std.proofs.lemmas.List.{append-nil, map_push}
use Rattle.guard_model.specs.Answer.{◌>>=◌, Refuses}
use Rattle.guard_lexer.specs.declared.token.TokenKind.TheVariants.{Mark}
use Rattle.guard_lexer.specs.declared.token.Mark.TheVariants.{Comma}
use Rattle.guard_syntax.specs.declared.read_error.Failure.{Failure}
use Rattle.guard_syntax.specs.declared.read_error.Failure.TheVariants.{Unexpected}
use Rattle.guard_syntax.specs.inside.ReadTokens.{Placed, Reader, begins_with, behind, read_each, read_parted}

-- what was read before, and what is still read
abbrev pub with_earlier : {A : Type 0} → List A → Result (List A × List Placed) Failure → Result (List A × List Placed) Failure
with_earlier earlier read = read >>= λ x. Ok (earlier ++ x.0, x.1)

regroup : {A : Type 0} (earlier : List A) (a : A) (read : Result (List A × List Placed) Failure) → with_earlier earlier (read >>= λ x. Ok (a ∷ x.0, x.1)) ≡ with_earlier (earlier ++ a ∷ []) read
regroup {A} earlier a (Ok x) = ap (λ (all : List A). Ok (all, x.1)) (simp append_assoc)
regroup earlier a (Err failure) = refl

module _ {A : Type 0} (read : Reader A) (earlier : List A) (count i : ℕ) (ps : List Placed) (total : Result (List A × List Placed) Failure) where
  -- separated by commas
  module _ (lt : i < count) (so_far : with_earlier earlier (read_parted read (count - i) ps) ≡ total) where
    next : count - i ≡ suc (count - (i + 1))
    next = omega arith

    parted_fails_at : (failure : Option Failure) → Refuses failure (read ps) → Refuses failure total
    unfolding read_parted
    parted_fails_at None h = tt
    parted_fails_at (Some failure) h =
        let one : with_earlier earlier (read_parted read (count - i) ps) ≡ Err failure = rw (next, h) refl in
        sym so_far ∙ one

    parted_last_at : (one : A) (rest : List Placed) → read ps ≡ Ok (one, rest) → begins_with (Mark Comma) rest ≡ false → total ≡ Ok (earlier ++ one ∷ [], rest)
    unfolding read_parted
    parted_last_at one rest first none =
        let all : with_earlier earlier (read_parted read (count - i) ps) ≡ Ok (earlier ++ one ∷ [], rest) = rw (next, first, none) refl in
        sym so_far ∙ all

    parted_next_at : (one : A) (rest : List Placed) → read ps ≡ Ok (one, rest) → begins_with (Mark Comma) rest ≡ true → with_earlier (earlier ++ one ∷ []) (read_parted read (count - (i + 1)) (behind rest)) ≡ total
    unfolding read_parted
    parted_next_at one rest first comma =
        let all : with_earlier earlier (read_parted read (count - i) ps) ≡ with_earlier (earlier ++ one ∷ []) (read_parted read (count - (i + 1)) (behind rest)) =
        rw (next, first, comma) (regroup earlier one (read_parted read (count - (i + 1)) (behind rest))) in
        sym all ∙ so_far

  parted_ends_at : count ≤ i → with_earlier earlier (read_parted read (count - i) ps) ≡ total → total ≡ Err (Unexpected (length ps))
  unfolding read_parted
  parted_ends_at le so_far =
      let k : count - i ≡ zero = omega arith in
      let all : with_earlier earlier (read_parted read (count - i) ps) ≡ Err (Unexpected (length ps)) = rw k refl in
      sym so_far ∙ all

  -- one after the other
  module _ (goes_on : List Placed → Bool) (lt : i < count) (so_far : with_earlier earlier (read_each goes_on read (count - i) ps) ≡ total) where
    more : count - i ≡ suc (count - (i + 1))
    more = omega arith

    each_done_at : goes_on ps ≡ false → total ≡ Ok (earlier, ps)
    unfolding read_each
    each_done_at over =
        let all : with_earlier earlier (read_each goes_on read (count - i) ps) ≡ Ok (earlier, ps) = rw (more, over) (ap (λ (all : List A). Ok (all, ps)) (append-nil earlier)) in
        sym so_far ∙ all

    each_fails_at : goes_on ps ≡ true → (failure : Option Failure) → Refuses failure (read ps) → Refuses failure total
    unfolding read_each
    each_fails_at goes None h = tt
    each_fails_at goes (Some failure) h =
        let all : with_earlier earlier (read_each goes_on read (count - i) ps) ≡ Err failure = rw (more, goes, h) refl in
        sym so_far ∙ all

    each_next_at : goes_on ps ≡ true → (one : A) (rest : List Placed) → read ps ≡ Ok (one, rest) → with_earlier (earlier ++ one ∷ []) (read_each goes_on read (count - (i + 1)) rest) ≡ total
    unfolding read_each
    each_next_at goes one rest first =
        let all : with_earlier earlier (read_each goes_on read (count - i) ps) ≡ with_earlier (earlier ++ one ∷ []) (read_each goes_on read (count - (i + 1)) rest) =
        rw (more, goes, first) (regroup earlier one (read_each goes_on read (count - (i + 1)) rest)) in
        sym all ∙ so_far

  each_ends_at : (goes_on : List Placed → Bool) → count ≤ i → with_earlier earlier (read_each goes_on read (count - i) ps) ≡ total → total ≡ Err (Unexpected (length ps))
  unfolding read_each
  each_ends_at goes_on le so_far =
      let k : count - i ≡ zero = omega arith in
      let all : with_earlier earlier (read_each goes_on read (count - i) ps) ≡ Err (Unexpected (length ps)) = rw k refl in
      sym so_far ∙ all

-- ---- in the loops of the code

-- A loop over parts with commas between them has read `all` in `i` rounds, and `rest` is still ahead.
pub record PartedSoFar {X Y : Type 0} (view : X → Y) (read : Reader Y) (ps : List Placed) (all : List X) (i : ℕ) (rest : List Placed) : Type 0 where
  pub so_far : with_earlier (map view all) (read_parted read (length ps - i) rest) ≡ read_parted read (length ps) ps

-- A loop over parts that a test lets go on has read `all` in `i` rounds, and `rest` is still ahead.
pub record EachSoFar {X Y : Type 0} (view : X → Y) (goes_on : List Placed → Bool) (read : Reader Y) (ps : List Placed) (all : List X) (i : ℕ) (rest : List Placed) : Type 0 where
  pub so_far : with_earlier (map view all) (read_each goes_on read (length ps - i) rest) ≡ read_each goes_on read (length ps) ps

pushed : {X Y : Type 0} (view : X → Y) (all longer : List X) (one : X) → longer ≡ all ++ one ∷ [] → map view longer ≡ map view all ++ view one ∷ []
pushed view all longer one push = rw push (map_push view all one)

module _ {X Y : Type 0} {view : X → Y} where
  module _ {read : Reader Y} {ps rest : List Placed} {all : List X} {i end : ℕ} where
    pub parted_fails : PartedSoFar view read ps all i rest → end ≡ length ps → i < end → (failure : Option Failure) → Refuses failure (read rest) → Refuses failure (read_parted read (length ps) ps)
    parted_fails loop is lt = parted_fails_at read (map view all) (length ps) i rest _ (omega (arith, is, lt)) loop.so_far

    pub parted_last : PartedSoFar view read ps all i rest → end ≡ length ps → i < end → {longer : List X} {one : X} {next : List Placed} {comma : Bool}
        → longer ≡ all ++ one ∷ [] → read rest ≡ Ok (view one, next) → comma ≡ begins_with (Mark Comma) next → comma ≡ false
        → read_parted read (length ps) ps ≡ Ok (map view longer, next)
    parted_last loop is lt {longer} {one} {next} push first shows none =
        rw (pushed view all longer one push) (parted_last_at read (map view all) (length ps) i rest _ (omega (arith, is, lt)) loop.so_far (view one) next first (sym shows ∙ none))

    pub parted_next : PartedSoFar view read ps all i rest → end ≡ length ps → i < end → {longer : List X} {one : X} {next behind_comma : List Placed} {comma : Bool}
        → longer ≡ all ++ one ∷ [] → read rest ≡ Ok (view one, next) → comma ≡ begins_with (Mark Comma) next → comma ≡ true → behind_comma ≡ behind next
        → PartedSoFar view read ps longer (i + 1) behind_comma
    parted_next loop is lt {longer} {one} {next} push first shows there passed = record {
      so_far = rw (pushed view all longer one push, passed) (parted_next_at read (map view all) (length ps) i rest _ (omega (arith, is, lt)) loop.so_far (view one) next first (sym shows ∙ there));
    }

    pub parted_ends : PartedSoFar view read ps all i rest → end ≡ length ps → end ≤ i → read_parted read (length ps) ps ≡ Err (Unexpected (length rest))
    parted_ends loop is le = parted_ends_at read (map view all) (length ps) i rest _ (omega (arith, is, le)) loop.so_far

  module _ {goes_on : List Placed → Bool} {read : Reader Y} {ps rest : List Placed} {all : List X} {i end : ℕ} where
    pub each_done : EachSoFar view goes_on read ps all i rest → end ≡ length ps → i < end → goes_on rest ≡ false → read_each goes_on read (length ps) ps ≡ Ok (map view all, rest)
    each_done loop is lt = each_done_at read (map view all) (length ps) i rest _ goes_on (omega (arith, is, lt)) loop.so_far

    pub each_fails : EachSoFar view goes_on read ps all i rest → end ≡ length ps → i < end → goes_on rest ≡ true → (failure : Option Failure) → Refuses failure (read rest) → Refuses failure (read_each goes_on read (length ps) ps)
    each_fails loop is lt = each_fails_at read (map view all) (length ps) i rest _ goes_on (omega (arith, is, lt)) loop.so_far

    pub each_next : EachSoFar view goes_on read ps all i rest → end ≡ length ps → i < end → goes_on rest ≡ true → {longer : List X} {one : X} {next : List Placed}
        → longer ≡ all ++ one ∷ [] → read rest ≡ Ok (view one, next) → EachSoFar view goes_on read ps longer (i + 1) next
    each_next loop is lt goes {longer} {one} {next} push first = record {
      so_far = rw (pushed view all longer one push) (each_next_at read (map view all) (length ps) i rest _ goes_on (omega (arith, is, lt)) loop.so_far goes (view one) next first);
    }

    pub each_ends : EachSoFar view goes_on read ps all i rest → end ≡ length ps → end ≤ i → read_each goes_on read (length ps) ps ≡ Err (Unexpected (length rest))
    each_ends loop is le = each_ends_at read (map view all) (length ps) i rest _ goes_on (omega (arith, is, le)) loop.so_far

-- what closes such loops
pub ruleset parted_loop = (parted_fails, parted_last, parted_next, parted_ends)

pub ruleset each_loop = (each_done, each_fails, each_next, each_ends)
