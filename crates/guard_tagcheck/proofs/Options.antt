-- What an answer of the search that may be missing has come from.
use Rattle.std.proofs.Common.{◌≡◌, Option, Some, None, refl, sym}
use Rattle.std.specs.Prelude.{ℕ, []}
use Rattle.std.proofs.lemmas.Option.{same_Some}
use Rattle.guard_model.specs.declared.site.Step.{Step}
use Rattle.guard_tagcheck.specs.Distinct.{AbstractClash}
use Rattle.guard_tagcheck.specs.Search.{here, inside, below, paired}

pub inside_some : (step : Step) (r : Option AbstractClash) (c : AbstractClash) → inside step r ≡ Some c → (d : AbstractClash) × (r ≡ Some d) × (c ≡ below step d)
inside_some step None c e = absurd cc
inside_some step (Some d) c e = (d, refl, sym (same_Some (below step d) c e))

pub inside_none : (step : Step) (r : Option AbstractClash) → inside step r ≡ None → r ≡ None
inside_none step None e = refl
inside_none step (Some d) e = absurd cc

abbrev pub clash_here : ℕ × ℕ → AbstractClash
clash_here p = record { path = []; first = p.0; second = p.1 }

pub here_some : (r : Option (ℕ × ℕ)) (c : AbstractClash) → here r ≡ Some c → (p : ℕ × ℕ) × (r ≡ Some p) × (c ≡ clash_here p)
here_some None c e = absurd cc
here_some (Some p) c e = (p, refl, sym (same_Some (clash_here p) c e))

pub here_none : (r : Option (ℕ × ℕ)) → here r ≡ None → r ≡ None
here_none None e = refl
here_none (Some p) e = absurd cc

pub paired_some : (i : ℕ) (r : Option ℕ) (p : ℕ × ℕ) → paired i r ≡ Some p → (j : ℕ) × (r ≡ Some j) × (p ≡ (i, j))
paired_some i None p e = absurd cc
paired_some i (Some j) p e = (j, refl, sym (same_Some (i, j) p e))

pub paired_none : (i : ℕ) (r : Option ℕ) → paired i r ≡ None → r ≡ None
paired_none i None e = refl
paired_none i (Some j) e = absurd cc
