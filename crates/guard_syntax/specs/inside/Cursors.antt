-- What calls of the parser give, by the reading functions.
use Rattle.std.specs.Prelude.{List, map, Result, Vec, Box}
use Rattle.guard_model.specs.Answer.{Gives}
use Rattle.guard_syntax.specs.declared.read_error.Failure.{Failure}
use Rattle.guard_syntax.specs.declared.read_error.ReadError.{ReadError}
use Rattle.guard_syntax.specs.declared.cursor.Cursor.{Cursor}
use Rattle.guard_syntax.specs.inside.ReadTokens.{Placed, placed_of, failure_of}

-- what is still to be read
abbrev pub ahead : Cursor → List Placed
ahead at = placed_of at.text.now at.tokens.now

-- The call reads what the reading function reads, or fails where it fails, unless memory ran out.
abbrev pub Reads : {X Y : Type 0} → (X → Y) → Result (X × Cursor) ReadError → Result (Y × List Placed) Failure → Type 0
Reads view = Gives (λ x. (view x.0, ahead x.1)) failure_of

abbrev pub each_view : {X Y Z : Type 0} → (X → Y) → Vec X Z → List Y
each_view view all = map view all.items

abbrev pub boxed_view : {X Y Z : Type 0} → (X → Y) → Box X Z → Y
boxed_view view one = view one.value
