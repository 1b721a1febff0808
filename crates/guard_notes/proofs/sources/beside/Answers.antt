use Rattle.std.proofs.Common.{[], ◌∷◌, append_assoc}
use Rattle.guard_notes.proofs.Folders.{no_folder, folder_before_slash}
use Rattle.guard_notes.proofs.sources.beside.Goals as goal

pub returns-in-Some : goal.returns-in-Some
returns-in-Some c =
    let found = c.in-Some.ensures.cases in
    rw (folder_before_slash c.args.path.now c.in-Some.folder.now found.0 found.1 found.2 found.3, append_assoc c.in-Some.folder.now (47 ∷ []) c.args.name.now) c.format.ensures.ok

pub returns-in-None : goal.returns-in-None
returns-in-None c = rw (no_folder c.args.path.now c.in-None.ensures.cases) c.from_str.ensures.ok
