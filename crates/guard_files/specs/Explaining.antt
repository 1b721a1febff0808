-- What comes after the line of a fault where it is to be explained: the file, the line with a mark under the column,
-- and what to do.
use Rattle.std.specs.Prelude.{◌≡◌, ◌⊎◌, ℕ, Bool, true, false, List, [], ◌++◌, codes}
use Rattle.guard_policy.specs.Loads.{ListsFiles}
use Rattle.guard_notes.specs.Explaining.{IsSchemaNote, IsPolicyNote}
use Rattle.guard_notes.specs.Sources.{AbstractSources, sources}
use Rattle.guard_files.specs.declared.fault.Fault.{Fault}
use Rattle.guard_files.specs.declared.fault.Fault.TheVariants.{CannotRead, TooLarge, Schema, Policy, Run, NoMemory}
use Rattle.guard_files.specs.declared.files.Obstacle.{Obstacle}
use Rattle.guard_files.specs.declared.files.Obstacle.TheVariants.{Untold, NoFile, LostLink, Folder, NotAllowed}
use Rattle.guard_files.specs.Files.{Told, HasText, after_read}
use Rattle.guard_files.specs.Reading.{HaveTexts, IsNoPolicyAt, SayNothing, folder}
pub use Rattle.guard_files.specs.Writing.{TellsWith}

-- what stands in the way, where that is known
abbrev pub obstacle_line : Obstacle → List ℕ
obstacle_line Untold = []
obstacle_line NoFile = codes "  There is no file.\n"
obstacle_line LostLink = codes "  There is a link, and nothing where it leads.\n"
obstacle_line Folder = codes "  There is a folder in place of a file.\n"
obstacle_line NotAllowed = codes "  This user may not read the file, or not go through a folder on the way to it.\n"

abbrev pub unread_note : Obstacle → List ℕ
unread_note obstacle =
    obstacle_line obstacle
    ++ codes "  Nothing can be read at this path. Module files are looked for in the folder of the policy.\n"

abbrev pub large_note : List ℕ
large_note = codes "  A policy has 67,108,864 octets at most. Look whether this path leads to one.\n"

-- This comes after the line of a fault, over these texts and that of the policy. Nothing is said of a stream that failed,
-- nor where memory ran out, whoever ran out of it.
abbrev pub IsExplanation : AbstractSources → List ℕ → Fault → List ℕ → Type 0
IsExplanation s text (Schema f) note = IsSchemaNote s f note
IsExplanation s text (Policy f) note = IsPolicyNote s.path text f note
IsExplanation s text (CannotRead file obstacle) note = note ≡ unread_note obstacle
IsExplanation s text (TooLarge file) note = note ≡ large_note
IsExplanation s text (Run f) note = note ≡ []
IsExplanation s text NoMemory note = note ≡ []

-- A fault is refused as it is; or, where that is asked for, with what explains it, if there is memory for that.
abbrev pub IsRefused : Bool → AbstractSources → List ℕ → Fault → Fault → List ℕ → Type 0
IsRefused false s text f refused note = (refused ≡ f) × (note ≡ [])
IsRefused true s text f refused note =
    ((refused ≡ f) × IsExplanation s text f note) ⊎ ((refused ≡ NoMemory) × (note ≡ []))

-- ---- why there is no policy at the path, with its explanation

-- the policy at the path has this text and lists these files, and the modules beside it have these texts
abbrev pub AreTextsOf : Told → List ℕ → List ℕ → List (List ℕ) → List (List ℕ) → Type 0
AreTextsOf told path text files modules =
    HasText told path text × ListsFiles text files × HaveTexts (after_read told) (folder path) files modules

-- A fault of modules is explained over the texts that say no policy, and one of the policy over its text. For any other
-- one nothing of them is needed.
abbrev pub IsExplained : Told → List ℕ → Fault → List ℕ → Type 0
IsExplained told path (Schema f) note =
    (text : List ℕ) × (files : List (List ℕ)) × (modules : List (List ℕ)) × AreTextsOf told path text files modules
    × SayNothing modules text (Schema f) × IsSchemaNote (sources path files modules) f note
IsExplained told path (Policy f) note =
    (text : List ℕ) × HasText told path text × IsNoPolicyAt told path (Policy f) × IsPolicyNote path text f note
IsExplained told path (CannotRead file obstacle) note =
    IsNoPolicyAt told path (CannotRead file obstacle) × (note ≡ unread_note obstacle)
IsExplained told path (TooLarge file) note = IsNoPolicyAt told path (TooLarge file) × (note ≡ large_note)
IsExplained told path (Run f) note = IsNoPolicyAt told path (Run f) × (note ≡ [])
IsExplained told path NoMemory note = IsNoPolicyAt told path NoMemory × (note ≡ [])

-- so it is where that is asked for, and else there is no note
abbrev pub IsNoPolicyWith : Bool → Told → List ℕ → Fault → List ℕ → Type 0
IsNoPolicyWith false told path f note = IsNoPolicyAt told path f × (note ≡ [])
IsNoPolicyWith true told path f note = IsExplained told path f note
