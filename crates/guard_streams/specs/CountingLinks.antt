-- What is shown of a stream of records of many links where `mux` is asked to show what it counts: each text counts what
-- was taken before. With LinksCounted.antt this is the page to read of that.
use Rattle.std.specs.Prelude.{◌≡◌, ◌⊎◌, ℕ, Bool, List, ◌++◌, map, Option, Some, Result, Ok, Err}
use Rattle.std.specs.List.{concat, All}
use Rattle.std.specs.Io.KnownBytes.{Consumes}
use Rattle.guard_files.specs.declared.stop.Stop.{Stop}
use Rattle.guard_files.specs.declared.stop.Stop.TheVariants.{BadRecord, ReadFailed, WriteFailed, ErrorFailed}
use Rattle.guard_files.specs.Records.{Record, record_octets}
use Rattle.guard_streams.specs.Counters.{AbstractCounted, counters_text}
use Rattle.guard_streams.specs.Counting.{ShowsLast}
use Rattle.guard_streams.specs.Shown.{Shown, ShowsAt, ShowsAll}
use Rattle.guard_streams.specs.Turns.{AbstractMux, Written, InTurn}

-- a text that counts this, where something is counted
abbrev pub IsTextOf : Option AbstractCounted → List ℕ → Type 0
IsTextOf counted text = (c : AbstractCounted) × (counted ≡ Some c) × (text ≡ counters_text c)

-- that, where it could be shown
abbrev pub ShowsCounted : Option (List ℕ) → Option AbstractCounted → Bool → Shown → Shown → Type 0
ShowsCounted place counted is old new = ShowsLast (IsTextOf counted) place is old new

-- now and then, before a record that may have to be waited for
abbrev pub MayShowCounted : Option (List ℕ) → Option AbstractCounted → Shown → Shown → Type 0
MayShowCounted place counted old new =
    (new ≡ old) ⊎ ((text : List ℕ) × IsTextOf counted text × ShowsAt old place text new)

-- The text counts what is counted once these records were taken, which are the first of what was read.
pub record IsShownBetween (path : List ℕ) (first : AbstractMux) (before after : Option (List ℕ)) (text : List ℕ) : Type 0
  where
    pub records : List Record
    pub rest : List ℕ
    pub given : Consumes before after (concat (map record_octets records) ++ rest)
    pub written : List Written
    pub last : AbstractMux
    pub in_turn : InTurn path first records written last
    pub is : IsTextOf last.counted text

-- such texts, one after another
abbrev pub ShowsBetween : List ℕ → AbstractMux → Option (List ℕ) → Option (List ℕ) → Option (List ℕ) → Shown →
    Shown → Type 0
ShowsBetween path first before after place old new =
    (texts : List (List ℕ)) × ShowsAll place old texts new × All (IsShownBetween path first before after) texts

-- all that is counted at the end; nothing, where an output failed
abbrev pub ShowsAtEnd : Result (Unit {0}) Stop → Option (List ℕ) → Option AbstractCounted → Bool → Shown → Shown → Type 0
ShowsAtEnd (Ok done) place counted is old new = ShowsCounted place counted is old new
ShowsAtEnd (Err BadRecord) place counted is old new = ShowsCounted place counted is old new
ShowsAtEnd (Err ReadFailed) place counted is old new = ShowsCounted place counted is old new
ShowsAtEnd (Err WriteFailed) place counted is old new = new ≡ old
ShowsAtEnd (Err ErrorFailed) place counted is old new = new ≡ old
