-- What comes to a device where each line of a plain text comes to it as JSON.
use Rattle.std.specs.Prelude.{◌≡◌, List, ℕ, ◌++◌, Some}
use Rattle.std.specs.Io.KnownBytes.{Appends}
use Rattle.guard_files.specs.Devices.{Device}
use Rattle.guard_json.specs.Taken.{IsJsonOf}

-- Where the real device tells what it took, so does the plain one, and what came to the real one since is the JSON of the
-- lines that came to the plain one; where that has failed, perhaps with the front of one more.
pub record ComesAsJson (plain real : Device) : Type 0 where
  pub tells : (before : List ℕ) → real.before ≡ Some before → (told : List ℕ) × (plain.before ≡ Some told)
  pub comes : (before text : List ℕ) → real.before ≡ Some before → Appends plain.before plain.after text
      → (since : List ℕ) × (real.after ≡ Some (before ++ since)) × IsJsonOf plain.failed since text
