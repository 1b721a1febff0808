-- The texts that a policy at a path needs, what they say, and why they can't be had or say nothing.
use Rattle.std.specs.Prelude.{◌≡◌, ◌⊎◌, ℕ, List, [], ◌∷◌, ◌++◌, string_bytes, Ok, IsSomeAnd}
pub use Rattle.guard_notes.specs.Sources.{folder}
use Rattle.guard_schema.specs.Accepts.{Knows}
use Rattle.guard_schema.specs.Known.{Known}
use Rattle.guard_schema.specs.Schemas.{named_types, schema_of}
use Rattle.guard_schema.specs.Views.{known_of}
use Rattle.guard_policy.specs.Policies.{AbstractPolicy}
use Rattle.guard_policy.specs.PolicyView.{policy_view}
use Rattle.guard_policy.specs.Loads.{ListsFiles, ListsNoFiles, Loads}
use Rattle.guard_policy.specs.PolicyFaults as policy
use Rattle.guard_frames.specs.Texts.{SayPolicy, SayNone}
use Rattle.guard_frames.specs.declared.texts.TextsFault.TheVariants as texts
use Rattle.guard_files.specs.declared.fault.Fault.{Fault}
use Rattle.guard_files.specs.declared.fault.Fault.TheVariants.{CannotRead, TooLarge, Schema, Policy, NoMemory}
use Rattle.guard_files.specs.declared.loaded.Loaded.{Loaded}
use Rattle.guard_files.specs.Files.{Told, after_read, HasFront, HasText, HasNone, IsTooLarge}

-- the texts at these names in a folder, read in order, each up to one octet more than a module may have
abbrev pub HaveTexts : Told → List ℕ → List (List ℕ) → List (List ℕ) → Type 0
HaveTexts told beside [] texts = texts ≡ []
HaveTexts told beside (name ∷ names) texts =
    (text : List ℕ) × (others : List (List ℕ)) × HasFront told (beside ++ name) text
    × HaveTexts (after_read told) beside names others × (texts ≡ text ∷ others)

-- the path of the first of these names at which nothing can be read
abbrev pub FirstMissing : Told → List ℕ → List (List ℕ) → List ℕ → Type 0
FirstMissing told beside [] path = ⊥
FirstMissing told beside (name ∷ names) path =
    (HasNone told (beside ++ name) × (path ≡ beside ++ name))
    ⊎ ((text : List ℕ) × HasFront told (beside ++ name) text × FirstMissing (after_read told) beside names path)

-- the policy at the path has this text, and then the modules that it lists, beside it, have these
abbrev pub AreTexts : Told → List ℕ → List ℕ → List (List ℕ) → Type 0
AreTexts told path text modules =
    HasText told path text
    × ((files : List (List ℕ)) × ListsFiles text files × HaveTexts (after_read told) (folder path) files modules)

-- nothing can be read at one of the modules that the policy at the path lists, and this is its path
abbrev pub LacksModule : Told → List ℕ → List ℕ → Type 0
LacksModule told path file =
    (text : List ℕ) × (files : List (List ℕ)) × HasText told path text × ListsFiles text files
    × FirstMissing (after_read told) (folder path) files file

-- nothing can be read at the path, which is named; or the text there is too large; or memory ran out
abbrev pub IsUnreadable : Told → List ℕ → Fault → Type 0
IsUnreadable told path (CannotRead file obstacle) = HasNone told path × (string_bytes file ≡ path)
IsUnreadable told path (TooLarge file) = IsTooLarge told path × (string_bytes file ≡ path)
IsUnreadable told path NoMemory = Unit {0}
IsUnreadable told path _ = ⊥

-- Why there are no such texts, the first of these: nothing can be read at the path; the text there is too large; it
-- lists no modules; nothing can be read at one of them.
abbrev pub AreMissing : Told → List ℕ → Fault → Type 0
AreMissing told path (CannotRead file obstacle) =
    (HasNone told path × (string_bytes file ≡ path)) ⊎ LacksModule told path (string_bytes file)
AreMissing told path (TooLarge file) = IsTooLarge told path × (string_bytes file ≡ path)
AreMissing told path (Policy f) =
    (text : List ℕ) × HasText told path text × IsSomeAnd (policy.named f) (ListsNoFiles text)
AreMissing told path _ = ⊥

-- the texts of the policy at the path say it
abbrev pub IsPolicyAt : Told → List ℕ → AbstractPolicy → Type 0
IsPolicyAt told path p =
    (text : List ℕ) × (modules : List (List ℕ)) × AreTexts told path text modules × SayPolicy modules text p

-- ---- a policy with its modules, in which values are written

pub record AbstractLoaded : Type 0 where
  pub policy : AbstractPolicy
  pub known : Known

abbrev pub loaded_view : Loaded → AbstractLoaded
loaded_view l = record { policy = policy_view l.policy; known = known_of l.modules }

-- This is known of the definitions in these modules, and over the schema that they so denote the text says the policy.
abbrev pub SayLoaded : List (List ℕ) → List ℕ → AbstractLoaded → Type 0
SayLoaded modules text l = Knows modules (Ok l.known) × Loads text (named_types (schema_of l.known)) l.policy

-- So it is with the texts of the policy at the path.
abbrev pub IsLoadedAt : Told → List ℕ → AbstractLoaded → Type 0
IsLoadedAt told path l =
    (text : List ℕ) × (modules : List (List ℕ)) × AreTexts told path text modules × SayLoaded modules text l

-- ---- why there is none

-- why these texts say no policy
abbrev pub SayNothing : List (List ℕ) → List ℕ → Fault → Type 0
SayNothing modules text (Schema f) = SayNone modules text (texts.Schema f)
SayNothing modules text (Policy f) = SayNone modules text (texts.Policy f)
SayNothing modules text _ = ⊥

-- Why there is no policy at the path: its texts are missing, or say none. That memory ran out says nothing of either.
abbrev pub IsNoPolicyAt : Told → List ℕ → Fault → Type 0
IsNoPolicyAt told path f =
    AreMissing told path f
    ⊎ ((text : List ℕ) × (modules : List (List ℕ)) × AreTexts told path text modules × SayNothing modules text f)
    ⊎ (f ≡ NoMemory)

-- why they say none, or that memory ran out
abbrev pub SayNoneLoaded : List (List ℕ) → List ℕ → Fault → Type 0
SayNoneLoaded modules text f = SayNothing modules text f ⊎ (f ≡ NoMemory)

-- a file whose path is one of these can't be read
abbrev pub NamesFile : (List ℕ → Type 0) → Fault → Type 0
NamesFile IsPath (CannotRead file obstacle) = IsPath (string_bytes file)
NamesFile IsPath NoMemory = Unit {0}
NamesFile IsPath _ = ⊥

-- nothing can be read at the path, and it is named; or memory ran out
abbrev pub HasNoFront : Told → List ℕ → Fault → Type 0
HasNoFront told path = NamesFile (λ file. HasNone told path × (file ≡ path))
