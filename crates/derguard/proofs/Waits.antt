-- A device keeps its octets while it is waited for.
use Rattle.std.proofs.Common.{◌∙◌, ◌++◌, ℕ, List, ap, refl, sym, take}
use Rattle.std.specs.Prelude.{Option, Some, None, Result, Ok, Err}
use Rattle.std.specs.Io.KnownBytes.{Keeps, ReadConsumes, WriteAppends}

pub keeps : (a : Option (List ℕ)) → Keeps a a
keeps None = tt
keeps (Some x) = refl

pub keeps_more : (a b c : Option (List ℕ)) → Keeps a b → Keeps b c → Keeps a c
keeps_more None b c k l = tt
keeps_more (Some x) None c k l = absurd k
keeps_more (Some x) (Some y) None k l = absurd l
keeps_more (Some x) (Some y) (Some z) k l = l ∙ k

-- what comes of a read after that
pub read_after : {E : Type 0} (a b c : Option (List ℕ)) (r : Result ℕ E) (buffer : List ℕ) → Keeps a b → ReadConsumes b c r buffer → ReadConsumes a c r buffer
read_after a b c (Err e) buffer k h = keeps_more a b c k h
read_after None b c (Ok n) buffer k h = (tt, h.1)
read_after (Some x) None c (Ok n) buffer k h = absurd k
read_after (Some x) (Some y) None (Ok n) buffer k h = absurd h.0
read_after (Some x) (Some y) (Some z) (Ok n) buffer k h = (sym k ∙ h.0, h.1)

-- and of a write
pub write_after : {E : Type 0} (a b c : Option (List ℕ)) (r : Result ℕ E) (octets : List ℕ) → Keeps a b → WriteAppends b c r octets → WriteAppends a c r octets
write_after a b c (Err e) octets k h = keeps_more a b c k h
write_after None b c (Ok n) octets k h = tt
write_after (Some x) None c (Ok n) octets k h = absurd k
write_after (Some x) (Some y) None (Ok n) octets k h = absurd h
write_after (Some x) (Some y) (Some z) (Ok n) octets k h = h ∙ ap (λ (l : List ℕ). l ++ take n octets) k
