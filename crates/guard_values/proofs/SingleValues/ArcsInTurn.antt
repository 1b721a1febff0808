-- Arcs, one after another, and what is too large among them.
use Rattle.std.proofs.Common.{◌≡◌, ℕ, Bool, true, false, List, [], ◌∷◌, Option, Some, None, Ok, Err, refl, sym, ap, ◌∙◌}
use Rattle.std.specs.Option.{option_or}
use Rattle.guard_model.specs.Answer.{◌>>=◌, Refuses}
use Rattle.guard_model.specs.inside.Each.{each}
use Rattle.guard_model.specs.AbstractValue.{object_identifier}
use Rattle.guard_model.specs.declared.site.Site.{Site}
use Rattle.guard_syntax.specs.Trees.{WrittenArc}
use Rattle.guard_values.specs.declared.fault.ValueFault.{ValueFault}
use Rattle.guard_values.specs.declared.fault.ValueFault.TheVariants.{BadObjectId}
use Rattle.guard_values.specs.ObjectIdentifiers.{arc_number, arc_numbers, is_large, large_arc, large_second, too_large_arc, are_arcs}
use Rattle.guard_values.specs.inside.Reading.{Read, read_arc, unless_large, limited_arcs}

joined : (n : ℕ) (ns : List ℕ) (s : Option Site) → (unless_large s >>= λ _. Ok ns) >>= (λ more. Ok (n ∷ more)) ≡ (unless_large s >>= λ _. Ok (n ∷ ns))
joined n ns None = refl
joined n ns (Some s) = refl

one_more : (a : WrittenArc) (arcs : List WrittenArc) (b : Bool) → is_large (arc_number a) ≡ b → each read_arc arcs ≡ (unless_large (large_arc arcs) >>= λ _. Ok (arc_numbers arcs))
    → each read_arc (a ∷ arcs) ≡ (unless_large (large_arc (a ∷ arcs)) >>= λ _. Ok (arc_numbers (a ∷ arcs)))
unfolding each
one_more a arcs true e others = rw e refl
one_more a arcs false e others = rw e (ap (λ (r : Read (List ℕ)). r >>= λ more. Ok (arc_number a ∷ more)) others ∙ joined (arc_number a) (arc_numbers arcs) (large_arc arcs))

-- the answer is the first large one, or all of them
each_arc : (arcs : List WrittenArc) → each read_arc arcs ≡ (unless_large (large_arc arcs) >>= λ _. Ok (arc_numbers arcs))
unfolding each
each_arc [] = refl
each_arc (a ∷ arcs) = one_more a arcs (is_large (arc_number a)) refl (each_arc arcs)

numbers_read : (s : Option Site) (all ns : List ℕ) → ◌≡◌ {A = Read (List ℕ)} (unless_large s >>= λ _. Ok all) (Ok ns) → (ns ≡ all) × (s ≡ None)
numbers_read None all ns e = (cc, refl)
numbers_read (Some s) all ns e = absurd cc

pub are_read : (arcs : List WrittenArc) (ns : List ℕ) → each read_arc arcs ≡ Ok ns → (ns ≡ arc_numbers arcs) × (large_arc arcs ≡ None)
are_read arcs ns e = numbers_read (large_arc arcs) (arc_numbers arcs) ns (sym (each_arc arcs) ∙ e)

first_stops : (f : Option ValueFault) (site : Site) (l s : Option Site) (ns : List ℕ) → Refuses f (unless_large l >>= λ _. Ok ns) → Refuses f (limited_arcs site (option_or l s) ns)
first_stops None site l s ns h = tt
first_stops (Some f) site None s ns h = absurd cc
first_stops (Some f) site (Some large) s ns h = cc

pub arc_stops : (f : Option ValueFault) (site : Site) (arcs : List WrittenArc) → Refuses f (each read_arc arcs) → Refuses f (limited_arcs site (too_large_arc arcs) (arc_numbers arcs))
arc_stops f site arcs h = first_stops f site (large_arc arcs) (large_second arcs) (arc_numbers arcs) (rw (each_arc arcs) at h)

pub second_stops : (f : Option ValueFault) (site : Site) (l s : Option Site) (ns : List ℕ) → l ≡ None → Refuses f (unless_large s) → Refuses f (limited_arcs site (option_or l s) ns)
second_stops None site l s ns none h = tt
second_stops (Some f) site l None ns none h = absurd cc
second_stops (Some f) site l (Some large) ns none h = rw none cc

pub too_few : (site : Site) (l s : Option Site) (ns : List ℕ) (u : Unit {0}) → l ≡ None → unless_large s ≡ Ok u → are_arcs ns ≡ false → limited_arcs site (option_or l s) ns ≡ Err (BadObjectId site)
too_few site l None ns u none h e = rw (none, e) refl
too_few site l (Some large) ns u none h e = absurd cc

pub enough_arcs : (site : Site) (l s : Option Site) (ns : List ℕ) (u : Unit {0}) → l ≡ None → unless_large s ≡ Ok u → are_arcs ns ≡ true → limited_arcs site (option_or l s) ns ≡ Ok (object_identifier ns)
enough_arcs site l None ns u none h e = rw (none, e) refl
enough_arcs site l (Some large) ns u none h e = absurd cc
