-- From the tokens of the code to the laws of reading.
use Rattle.std.proofs.Common.{◌≡◌, ℕ, List, [], ◌∷◌, Result, Ok, refl, sym, ap, ◌∙◌}
use Rattle.guard_model.specs.Answer.{Refuses}
use Rattle.guard_model.proofs.Results.{same_Ok}
use Rattle.guard_model.specs.declared.site.Site.{Site}
use Rattle.guard_lexer.specs.declared.token.Token.{Token}
use Rattle.guard_syntax.specs.Lexemes.{Lexeme, lexeme_of, octets_of, lexemes_of, sites_of}
use Rattle.guard_syntax.specs.Trees.{WrittenModule, WrittenValue}
use Rattle.guard_syntax.specs.TokensOf.{tokens_of, value_then}
use Rattle.guard_syntax.specs.Sites.{sited}
use Rattle.guard_syntax.specs.Parses.{IsWritten, HasSites, IsWrittenValue, HasValueSites, value_sited}
use Rattle.guard_syntax.specs.inside.ReadTokens.{placed_of, failure_of}
use Rattle.guard_syntax.specs.inside.ReadModule.{read_module, read_value_alone}
use Rattle.guard_syntax.specs.declared.read_error.Failure.{Failure}
use Rattle.guard_syntax.specs.declared.read_error.ReadError.{ReadError}
use Rattle.guard_syntax.specs.declared.read_error.ReadError.TheVariants as errors
use Rattle.guard_syntax.specs.declared.fault.SyntaxFault.{SyntaxFault}
use Rattle.guard_syntax.specs.declared.fault.SyntaxFault.TheVariants as faults
use Rattle.guard_syntax.specs.Faults.{fault_of}
use Rattle.guard_syntax.proofs.SoundSteps.{lexemes, sites}
use Rattle.guard_syntax.proofs.CompleteLists.{place, place_same}
use Rattle.guard_syntax.proofs.SoundModule.{module_sound, value_alone_sound}
use Rattle.guard_syntax.proofs.CompleteModule.{module_complete, value_alone_complete}

lexemes_placed : (text : List ℕ) (tokens : List Token) → lexemes (placed_of text tokens) ≡ lexemes_of text tokens
lexemes_placed text [] = refl
lexemes_placed text (t ∷ tokens) = ap (λ (ls : List Lexeme). lexeme_of t.kind (octets_of text t) ∷ ls) (lexemes_placed text tokens)

sites_placed : (text : List ℕ) (tokens : List Token) → sites (placed_of text tokens) ≡ sites_of tokens
sites_placed text [] = refl
sites_placed text (t ∷ tokens) = ap (λ (ss : List Site). t.site ∷ ss) (sites_placed text tokens)

pub is_written : (text : List ℕ) (tokens : List Token) (m : WrittenModule) → read_module (placed_of text tokens) ≡ Ok m → IsWritten m (lexemes_of text tokens)
is_written text tokens m e =
    let r = (module_sound (placed_of text tokens)).when m e in
    record { grammar = r.lawful; tokens = sym r.lexemes_are ∙ lexemes_placed text tokens }

pub has_sites : (text : List ℕ) (tokens : List Token) (m : WrittenModule) → read_module (placed_of text tokens) ≡ Ok m → HasSites m (sites_of tokens)
has_sites text tokens m e =
    let r = (module_sound (placed_of text tokens)).when m e in
    ap (sited m) (sym (sites_placed text tokens)) ∙ r.sites_are

placed_so : (text : List ℕ) (tokens : List Token) (ls : List Lexeme) → ls ≡ lexemes_of text tokens → placed_of text tokens ≡ place ls (sites_of tokens)
placed_so text tokens ls are =
    let ps = placed_of text tokens in
    sym (place_same ps) ∙ ap (λ (ls : List Lexeme). place ls (sites ps)) (lexemes_placed text tokens ∙ sym are) ∙ ap (place ls) (sites_placed text tokens)

pub is_read : (text : List ℕ) (tokens : List Token) (m : WrittenModule) → IsWritten m (lexemes_of text tokens) → read_module (placed_of text tokens) ≡ Ok (sited m (sites_of tokens))
is_read text tokens m w = ap read_module (placed_so text tokens (tokens_of m) w.tokens) ∙ module_complete m (sites_of tokens) w.grammar

pub one_tree : (a b : WrittenModule) (ls : List Lexeme) → IsWritten a ls → IsWritten b ls → (ss : List Site) → sited a ss ≡ sited b ss
one_tree a b ls p q ss =
    let first = module_complete a ss p.grammar in
    let second = module_complete b ss q.grammar in
    let same : read_module (place (tokens_of a) ss) ≡ read_module (place (tokens_of b) ss) = ap (λ (ts : List Lexeme). read_module (place ts ss)) (p.tokens ∙ sym q.tokens) in
    cc (sym first ∙ same ∙ second)

-- What is refused has no tree, unless memory ran out.
pub refused_only : {A : Type 0} (error : ReadError) (fault : SyntaxFault) (r : Result A Failure) (m : A) → Refuses (failure_of error) r → r ≡ Ok m → (error ≡ errors.OutOfMemory → fault ≡ faults.OutOfMemory) → Refuses (fault_of fault) (Ok m)
refused_only errors.OutOfMemory fault r m h e memory = rw (memory refl) tt
refused_only (errors.At failure) fault r m h e memory = absurd cc

pub answered_only : {A : Type 0} (r : Result A Failure) (m n : A) → r ≡ Ok m → r ≡ Ok n → ◌≡◌ {A = Result A SyntaxFault} (Ok n) (Ok m)
answered_only {A} r m n e f = ap (λ (k : A). Ok k) (same_Ok n m (sym f ∙ e))

-- ---- a value alone

pub is_value : (text : List ℕ) (tokens : List Token) (v : WrittenValue) → read_value_alone (placed_of text tokens) ≡ Ok v → IsWrittenValue v (lexemes_of text tokens)
is_value text tokens v e =
    let r = (value_alone_sound (placed_of text tokens)).when v e in
    record { grammar = r.lawful; tokens = sym r.lexemes_are ∙ lexemes_placed text tokens }

pub has_value_sites : (text : List ℕ) (tokens : List Token) (v : WrittenValue) → read_value_alone (placed_of text tokens) ≡ Ok v → HasValueSites v (sites_of tokens)
has_value_sites text tokens v e =
    let r = (value_alone_sound (placed_of text tokens)).when v e in
    ap (value_sited v) (sym (sites_placed text tokens)) ∙ r.sites_are

pub value_is_read : (text : List ℕ) (tokens : List Token) (v : WrittenValue) → IsWrittenValue v (lexemes_of text tokens) → read_value_alone (placed_of text tokens) ≡ Ok (value_sited v (sites_of tokens))
value_is_read text tokens v w = ap read_value_alone (placed_so text tokens (value_then v []) w.tokens) ∙ value_alone_complete v (sites_of tokens) w.grammar
