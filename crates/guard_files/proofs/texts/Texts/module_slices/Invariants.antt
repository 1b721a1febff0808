use Rattle.std.proofs.Common.{◌≡◌, map, take}
use Rattle.guard_files.proofs.texts.Texts.module_slices.Given as goal

abbrev pub invariant-loop-text : goal.invariant-loop-text
invariant-loop-text l = map (λ s. s.now) l.slices.items ≡ map (λ text. text.items) (take l.text-index l.self.modules.items)
