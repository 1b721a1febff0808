use Rattle.std.proofs.Common.{◌∙◌, ◌++◌, ℕ, List, ap, map}
use Rattle.std.proofs.lemmas.List.{map_push}
use Rattle.guard_files.specs.Reading.{folder}
use Rattle.guard_files.proofs.ReadingTexts.{read_next, read_whole, later_read}
use Rattle.guard_files.proofs.texts.module_texts.Goals as goal

pub loop-name-preserved : goal.loop-name-preserved
loop-name-preserved g c =
    let told = g.F.Files.told c.args.files.now in
    let now = g.F.Files.told c.loop-name.files in
    let beside = folder c.args.path.now in
    let place = c.deref-in-loop-name.result.now in (
      rw (c.in_ok-push.ensures.items, map_push (λ text. text.items) c.loop-name.texts.items, c.read_front.ensures.next)
          (read_next told now beside c.args.listed.now c.loop-name.name-index c.name-item.result place c.in_ok-text.text.items (map (λ text. text.items) c.loop-name.texts.items)
          c.loop-name-test.true c.name-item.is (c.deref-in-loop-name.ensures ∙ c.in_ok-place.ensures ∙ ap (λ (n : List ℕ). beside ++ n) c.deref.ensures)
          c.in_ok-text.ensures.text c.loop-name.invariant.0),
      later_read told now (g.F.Files.told c.read_front.new.files) c.loop-name.invariant.1 c.read_front.ensures.next,
    )

pub returns-clause-read : goal.returns-clause-read
returns-clause-read g c =
    read_whole (g.F.Files.told c.args.files.now) (g.F.Files.told c.loop-name.files) (folder c.args.path.now) c.args.listed.now c.loop-name.name-index
    (map (λ text. text.items) c.loop-name.texts.items) c.loop-name-test.false c.loop-name.invariant.0

pub returns-in_err-text-clause-later : goal.returns-in_err-text-clause-later
returns-in_err-text-clause-later g c =
    later_read (g.F.Files.told c.args.files.now) (g.F.Files.told c.loop-name.files) (g.F.Files.told c.read_front.new.files) c.loop-name.invariant.1 c.read_front.ensures.next

pub returns-in_err-push-clause-later : goal.returns-in_err-push-clause-later
returns-in_err-push-clause-later g c =
    later_read (g.F.Files.told c.args.files.now) (g.F.Files.told c.loop-name.files) (g.F.Files.told c.read_front.new.files) c.loop-name.invariant.1 c.read_front.ensures.next
