use Rattle.std.proofs.Common.{◌∙◌, ap, sym, refl, inl, inr, drop, ◌-◌, ◌∷◌, ◌≡◌, arith, ℕ}
use Rattle.std.proofs.lemmas.List.{take_rest}
use Rattle.guard_der.specs.Head.{length_at}
use Rattle.guard_reader.specs.Octets.{split, cut}
use Rattle.guard_reader.proofs.Lengths.{no_long, some_long}
use Rattle.guard_reader.proofs.header.split.Goals as goal
use Rattle.guard_reader.proofs.header.split.Goals.{then-size-eq0-via-then-size-eq0, then-size-eq0-via-else-size-eq0+then-after-extra}

pub returns-then-size-eq0 : goal.returns-then-size-eq0
unfolding split
returns-then-size-eq0 c = elim c.then-size-eq0.branch [
  | then-size-eq0-via-then-size-eq0 w ↦ sym (no_long c.args.first c.args.after.now c.long_length-size.result (length_at (c.args.first ∷ c.args.after.now)) c.if-first-lt128.false refl c.long_length-size.ensures (inl w.if-size-eq0.true))
  | then-size-eq0-via-else-size-eq0+then-after-extra w ↦
      sym (no_long c.args.first c.args.after.now c.long_length-size.result (length_at (c.args.first ∷ c.args.after.now)) c.if-first-lt128.false refl c.long_length-size.ensures (inr (omega (arith, w.if-after-extra.true, c.from-extra.ensures))))
]

pub returns : goal.returns
unfolding split
returns c =
    let extra : c.from-extra.result ≡ c.args.first = c.from-extra.ensures in
    c.cut-2.ensures
    ∙ ap (cut c.long_length-size.result) (take_rest c.args.after.now (c.from-extra.result - 128))
    ∙ ap (λ (n : ℕ). cut c.long_length-size.result (drop (n - 128) c.args.after.now)) extra
    ∙ some_long c.args.first c.args.after.now c.long_length-size.result (length_at (c.args.first ∷ c.args.after.now)) c.if-first-lt128.false refl c.long_length-size.ensures c.if-size-eq0.false
