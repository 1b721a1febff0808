-- How a text comes into a buffer of C.
use Rattle.std.specs.Prelude.{◌≡◌, ◌<◌, ◌≤◌, ℕ, List, [], ◌++◌, length, take, drop, Result, Ok, Err}
use Rattle.std.specs.Result.{result_map_both}
use Rattle.std.specs.declared.alloc.Global.{Global}
use Rattle.std_alloc.specs.declared.vec.Vec.{Vec}
use Rattle.guard_c.specs.declared.status.Status.{Status}
use Rattle.guard_c.specs.declared.status.Status.TheVariants.{Done, TooSmall}

-- a buffer with as much of a text at its front as fits
abbrev pub with_front : List ℕ → List ℕ → List ℕ
with_front text buffer = take (length buffer) text ++ drop (length text) buffer

-- As much of the text as fits is at the buffer's front, and this is how long it is. Where there is no text it is the
-- empty one, and the buffer stays.
pub record IsPut (text old new : List ℕ) (needed : ℕ) : Type 0 where
  pub front : new ≡ with_front text old
  pub counted : needed ≡ length text

-- What is told of what was said: all of it, or as much as fits, or why nothing was said.
abbrev pub Tells : Result (List ℕ) Status → List ℕ → List ℕ → ℕ → Status → Type 0
Tells (Ok text) old new needed Done = IsPut text old new needed × (length text ≤ length old)
Tells (Ok text) old new needed TooSmall = IsPut text old new needed × (length old < length text)
Tells (Ok text) old new needed _ = ⊥
Tells (Err why) old new needed status = IsPut [] old new needed × (status ≡ why)

abbrev pub said_view : Result (Vec ℕ Global) Status → Result (List ℕ) Status
said_view said = result_map_both (λ text. text.items) (λ why. why) said
