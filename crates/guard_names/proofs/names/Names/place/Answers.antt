use Rattle.std.proofs.Common.{◌≡◌, ◌↔◌, ℕ, length, Some, slice_get, ap, ◌∙◌}
use Rattle.guard_names.specs.NamesView.{modules_of, order_of}
use Rattle.guard_names.specs.Declarations.{definitions}
use Rattle.guard_names.specs.Meanings.{Uses}
use Rattle.guard_names.proofs.Declared.LookedUp.{read}
use Rattle.guard_names.proofs.ByNames.Found as found
use Rattle.guard_names.proofs.InOrder.Places.{place_is}
use Rattle.guard_names.proofs.names.Names.place.Goals as goal

pub returns : goal.returns
returns c =
    let at : (place : ℕ) → (c.copied.result ≡ Some place) ↔ (slice_get (order_of c.args.self.now) place ≡ Some c.args.id) =
    found.place_is (length (definitions (modules_of c.args.self.now))) (Uses (modules_of c.args.self.now)) (order_of c.args.self.now) c.args.self.now.places.items c.args.self.now.ordered c.args.self.now.whole c.args.self.now.placed c.args.id c.copied.result
    (c.copied.ensures ∙ read c.deref.result.now c.args.id c.get.result c.get.ensures.lookup ∙ ap (λ xs. slice_get xs c.args.id) c.deref.ensures.value) in
    record { placed = at; computed = place_is (order_of c.args.self.now) c.args.id c.copied.result at }
