-- Texts that denote a schema, part by part: their modules, the order of definitions, and what is built of these.
use Rattle.std.proofs.Common.{◌≡◌, inl, inr, ℕ, List, [], Ok, ap, ◌∙◌}
use Rattle.guard_model.proofs.Results.{same_Ok}
use Rattle.guard_syntax.specs.Trees.{WrittenModule}
use Rattle.guard_schema.specs.Accepts.{OrdersNames, ReadsModules, KnowsModules, Knows, Accepts}
use Rattle.guard_schema.specs.Building.{BuildsAll}
use Rattle.guard_schema.specs.Known.{Built, Known, none_known}
use Rattle.guard_schema.specs.Schemas.{AbstractSchema, schema_of}
use Rattle.guard_schema.specs.Texts.{ReadsTexts}

pub record Parts (texts : List (List ℕ)) (s : AbstractSchema) : Type 0 where
  pub modules : List WrittenModule
  pub order : List ℕ
  pub built : List Built
  pub read : ReadsTexts [] texts (Ok modules)
  pub ordered : OrdersNames modules (Ok order)
  pub builds : BuildsAll (none_known modules order) order (Ok built)
  pub schema : s ≡ schema_of (record { modules = modules; order = order; built = built })

texts_read : (texts : List (List ℕ)) (modules : List WrittenModule) → ReadsModules texts (Ok modules)
    → ReadsTexts [] texts (Ok modules)
texts_read texts modules (inl (u, counted, read)) = read
texts_read texts modules (inr (f, counted, e)) = absurd cc

modules_known : (modules : List WrittenModule) (k : Known) → KnowsModules modules (Ok k)
    → (order : List ℕ) × OrdersNames modules (Ok order) × (built : List Built)
    × BuildsAll (none_known modules order) order (Ok built)
    × (k ≡ record { modules = modules; order = order; built = built })
modules_known modules k (inl (order, ordered, inl (built, builds, e))) = (order, ordered, built, builds, same_Ok k _ e)
modules_known modules k (inl (order, ordered, inr (f, builds, e))) = absurd cc
modules_known modules k (inr (f, ordered, e)) = absurd cc

texts_known : (texts : List (List ℕ)) (k : Known) → Knows texts (Ok k)
    → (modules : List WrittenModule) × ReadsModules texts (Ok modules) × KnowsModules modules (Ok k)
texts_known texts k (inl (modules, read, known)) = (modules, read, known)
texts_known texts k (inr (f, read, e)) = absurd cc

known_there : (texts : List (List ℕ)) (s : AbstractSchema) → Accepts texts s
    → (k : Known) × Knows texts (Ok k) × (s ≡ schema_of k)
known_there texts s (inl (k, known, e)) = (k, known, same_Ok s (schema_of k) e)
known_there texts s (inr (f, known, e)) = absurd cc

pub parts : (texts : List (List ℕ)) (s : AbstractSchema) → Accepts texts s → Parts texts s
parts texts s a =
    let known = known_there texts s a in
    let modules = texts_known texts known.0 known.1 in
    let built = modules_known modules.0 known.0 modules.2 in
    record {
      modules = modules.0;
      order = built.0;
      built = built.2;
      read = texts_read texts modules.0 modules.1;
      ordered = built.1;
      builds = built.3;
      schema = known.2 ∙ ap schema_of built.4;
    }
