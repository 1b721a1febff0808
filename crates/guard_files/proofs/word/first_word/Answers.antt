use Rattle.guard_files.proofs.WordLaws.{word_before}
use Rattle.guard_files.proofs.word.first_word.Goals as goal

pub returns : goal.returns
returns c =
    let e = c.word_end.ensures in
    word_before c.args.text.now c.word_end.result e.within e.before e.there
