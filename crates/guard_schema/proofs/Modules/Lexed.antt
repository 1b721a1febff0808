-- What the lexer refuses is refused by the text's first fault.
use Rattle.std.proofs.Common.{◌≡◌, ◌⊎◌, inl, inr, ℕ, List, None, option_map, refl, sym, subst}
use Rattle.guard_lexer.specs.declared.fault.LexFault.{LexFault}
use Rattle.guard_lexer.specs.declared.fault.LexFault.TheVariants as lex
use Rattle.guard_lexer.specs.Lexing.{FirstFault, fault_named}
use Rattle.guard_schema.specs.declared.fault.SchemaFault.{SchemaFault}
use Rattle.guard_schema.specs.Outcomes.{RefusesBy}
use Rattle.guard_schema.specs.Faults.{Lex, IsNamed, named}
use Rattle.guard_schema.specs.Texts.{ReadsText}

-- it names itself, or memory ran out
itself : (f : LexFault) → (f ≡ lex.OutOfMemory) ⊎ IsNamed fault_named f
itself lex.OutOfMemory = inl refl
itself f = inr refl

no_memory : (f : LexFault) → f ≡ lex.OutOfMemory → fault_named f ≡ None
no_memory lex.OutOfMemory e = refl
no_memory f e = absurd cc

module _ (place : ℕ) (text : List ℕ) (f : LexFault) where
  pub lex_refused : (y : SchemaFault) → named y ≡ option_map Lex (fault_named f) → (f ≡ lex.OutOfMemory)
      ⊎ FirstFault place text f → RefusesBy (named y) (ReadsText place text)
  lex_refused y is found = subst (λ o. RefusesBy o (ReadsText place text)) (sym is) (by (itself f) found)
    where
      by : (f ≡ lex.OutOfMemory) ⊎ IsNamed fault_named f → (f ≡ lex.OutOfMemory) ⊎ FirstFault place text f
          → RefusesBy (option_map Lex (fault_named f)) (ReadsText place text)
      by (inl e) h = subst (λ o. RefusesBy (option_map Lex o) (ReadsText place text)) (sym (no_memory f e)) tt
      by (inr e) (inl o) = subst (λ o. RefusesBy (option_map Lex o) (ReadsText place text)) (sym (no_memory f o)) tt
      by (inr e) (inr h) = subst (λ o. RefusesBy (option_map Lex o) (ReadsText place text)) (sym e) (e, h)
