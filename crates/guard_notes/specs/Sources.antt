-- The texts that a fault or a verdict is explained over, and how a place in them is shown.
use Rattle.std.specs.Prelude.{◌-◌, ℕ, nat_eq, List, [], ◌∷◌, ◌++◌, codes, decimal, map, string_bytes, slice_get, unwrap_or, if◌then◌else◌}
use Rattle.std.specs.List.{list_any}
use Rattle.guard_notes.specs.declared.notes.Place.{Place}
use Rattle.guard_notes.specs.declared.notes.Place.TheVariants.{Nowhere, ThePolicy, Module, At}
use Rattle.guard_notes.specs.declared.sources.Sources.{Sources}
use Rattle.guard_notes.specs.Marking.{line_at, marked_line}

-- the policy's path, the files that it lists, and their texts
pub record AbstractSources : Type 0 where
  pub path : List ℕ
  pub files : List (List ℕ)
  pub modules : List (List ℕ)

abbrev pub sources : List ℕ → List (List ℕ) → List (List ℕ) → AbstractSources
sources path files modules = record { path = path; files = files; modules = modules }

abbrev pub sources_view : Sources → AbstractSources
sources_view s = sources s.path.now (map string_bytes s.files.now) (map (λ m. m.items) s.modules.now)

-- the path up to and with its last `/`, which is 47; nothing where it has none
abbrev pub folder : List ℕ → List ℕ
folder [] = []
folder (o ∷ path) = if list_any (nat_eq 47) (o ∷ path) then o ∷ folder path else []

-- of the number of a module, from 1: its path, and its text
abbrev pub module_path : AbstractSources → ℕ → List ℕ
module_path s n = folder s.path ++ unwrap_or (slice_get s.files (n - 1)) []

abbrev pub module_text : AbstractSources → ℕ → List ℕ
module_text s n = unwrap_or (slice_get s.modules (n - 1)) []

-- The lines that show a place. Each begins with two blanks, as no other line does.
abbrev pub place_lines : AbstractSources → Place → List ℕ
place_lines s Nowhere = []
place_lines s ThePolicy = codes "  " ++ (s.path ++ codes "\n")
place_lines s (Module n) = codes "  " ++ (module_path s n ++ codes "\n")
place_lines s (At site) =
    codes "  " ++ (module_path s site.text ++ (codes ":" ++ (decimal site.line ++ (codes ":" ++ (decimal site.column
    ++ (codes "\n" ++ marked_line site.column (line_at site.line (module_text s site.text))))))))
