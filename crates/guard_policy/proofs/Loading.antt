-- From what each part of a text was read as to what the text says.
use Rattle.std.proofs.Common.{◌≡◌, ℕ, List, [], map, Option, Some, None, IfSome, Result, Ok, Err, ap, sym, ◌∙◌, inl, inr, subst}
use Rattle.std.specs.Prelude.{unwrap_or, IfOk, IfErr}
use Rattle.std.specs.Option.{option_or}
use Rattle.std.proofs.lemmas.Option.{same_Some}
use Rattle.toml.specs.Data.{Members}
use Rattle.guard_policy.specs.declared.entry.Key.TheVariants.{Message, Rule}
use Rattle.guard_policy.specs.Documents.{IsDocument, IsNoDocument, tables_at, messages_in, rules_in}
use Rattle.guard_der.specs.NamedTypes.{AbstractTypes}
use Rattle.guard_policy.specs.Entries.{message_in, rule_in, those_there, policy_in}
use Rattle.guard_policy.specs.EntryFaults.{message_fault, rule_fault, entries_fault, tables_fault, document_fault}
use Rattle.guard_policy.specs.Loads.{Loads, IsRefused}
use Rattle.guard_policy.specs.Policies.{AbstractPolicy, AbstractMessage, AbstractRule, message_names}
use Rattle.guard_policy.specs.inside.Answers.{Meets}
use Rattle.guard_policy.specs.PolicyFaults.{AbstractFault, toml, top_fault, named}
use Rattle.guard_policy.specs.PolicyView.{policy_view}
use Rattle.guard_policy.specs.declared.policy.Policy.{Policy}
use Rattle.guard_policy.specs.declared.fault.PolicyFault.{PolicyFault}

-- What was read of a text, as far as it was read.
pub record Document (text : List ℕ) (top : Members) (messages rules : List Members) : Type 0 where
  pub document : IsDocument text top
  pub faultless : top_fault top ≡ None
  pub messages_there : tables_at Message top ≡ Some messages
  pub rules_there : tables_at Rule top ≡ Some rules

pub record MessagesRead (s : AbstractTypes) (entries : List Members) (messages : List AbstractMessage) : Type 0 where
  pub faultless : entries_fault (message_fault s) [] 1 entries ≡ None
  pub said : messages ≡ those_there (map (message_in s) entries)

pub record RulesRead (s : AbstractTypes) (messages : List AbstractMessage) (entries : List Members) (rules : List AbstractRule) : Type 0 where
  pub faultless : entries_fault (rule_fault s (message_names messages)) [] 1 entries ≡ None
  pub said : rules ≡ those_there (map (rule_in s) entries)

one_document : (text : List ℕ) (a b : Members) → IsDocument text a → IsDocument text b → a ≡ b
one_document text a b p q = same_Some a b (sym p.1 ∙ q.1)

-- a text is one policy at most over the same types
pub one_policy : (text : List ℕ) (s : AbstractTypes) (p q : AbstractPolicy) → Loads text s p → Loads text s q → p ≡ q
one_policy text s p q (a, is_a, _, p_is) (b, is_b, _, q_is) = p_is ∙ ap (policy_in s) (one_document text a b is_a is_b) ∙ sym q_is

module _ (text : List ℕ) (s : AbstractTypes) (top : Members) (message_entries rule_entries : List Members) (d : Document text top message_entries rule_entries) where
  messages_are : messages_in top ≡ message_entries
  messages_are = ap (λ o. unwrap_or o []) d.messages_there

  rules_are : rules_in top ≡ rule_entries
  rules_are = ap (λ o. unwrap_or o []) d.rules_there

  module _ (messages : List AbstractMessage) (m : MessagesRead s message_entries messages) where
    policy_messages : messages ≡ (policy_in s top).messages
    policy_messages = m.said ∙ ap (λ es. those_there (map (message_in s) es)) (sym messages_are)

    module _ (rules : List AbstractRule) (r : RulesRead s messages rule_entries rules) where
      policy_rules : rules ≡ (policy_in s top).rules
      policy_rules = r.said ∙ ap (λ es. those_there (map (rule_in s) es)) (sym rules_are)

      messages_clear : entries_fault (message_fault s) [] 1 (messages_in top) ≡ None
      messages_clear = ap (entries_fault (message_fault s) [] 1) messages_are ∙ m.faultless

      rules_clear : entries_fault (rule_fault s (message_names (policy_in s top).messages)) [] 1 (rules_in top) ≡ None
      rules_clear =
          ap (λ ms. entries_fault (rule_fault s (message_names ms)) [] 1 (rules_in top)) (sym policy_messages)
          ∙ ap (entries_fault (rule_fault s (message_names messages)) [] 1) rules_are ∙ r.faultless

      tables_are : tables_fault rules 1 messages ≡ tables_fault (policy_in s top).rules 1 (policy_in s top).messages
      tables_are = ap (λ rs. tables_fault rs 1 messages) policy_rules ∙ ap (tables_fault (policy_in s top).rules 1) policy_messages

      fault_is : document_fault s top ≡ option_or (tables_fault rules 1 messages) None
      fault_is =
          ap (λ a. option_or a (option_or (entries_fault (message_fault s) [] 1 (messages_in top)) (option_or (entries_fault (rule_fault s (message_names (policy_in s top).messages)) [] 1 (rules_in top)) (option_or (tables_fault (policy_in s top).rules 1 (policy_in s top).messages) None)))) d.faultless
          ∙ ap (λ b. option_or b (option_or (entries_fault (rule_fault s (message_names (policy_in s top).messages)) [] 1 (rules_in top)) (option_or (tables_fault (policy_in s top).rules 1 (policy_in s top).messages) None))) messages_clear
          ∙ ap (λ c. option_or c (option_or (tables_fault (policy_in s top).rules 1 (policy_in s top).messages) None)) rules_clear
          ∙ ap (λ t. option_or t None) (sym tables_are)

      pub loads : (modules : List (List ℕ)) → tables_fault rules 1 messages ≡ None → modules ≡ s.modules
          → Loads text s (record { messages = messages; rules = rules; modules = modules })
      loads modules none are = (top, d.document, fault_is ∙ ap (λ t. option_or t None) none, λ i. record { messages = policy_messages i; rules = policy_rules i; modules = are i })

      pub refused_tables : (f : Option AbstractFault) → IfSome f (λ x. tables_fault rules 1 messages ≡ Some x) → IfSome f (IsRefused text s)
      refused_tables None is = tt
      refused_tables (Some x) is = inr (top, d.document, fault_is ∙ ap (λ t. option_or t None) is)

      -- what becomes of a policy that is made of these messages and rules
      module _ (modules : List (List ℕ)) (are : modules ≡ s.modules) where
        abbrev pub Made : Result Policy PolicyFault → Type 0
        Made result = IfOk result (λ p. policy_view p ≡ record { messages = messages; rules = rules; modules = modules })

        pub loaded : (result : Result Policy PolicyFault) → Made result → Meets (tables_fault rules 1 messages) result → IfOk result (λ p. Loads text s (policy_view p))
        loaded (Ok p) made none = subst (λ (q : AbstractPolicy). Loads text s q) (sym made) (loads modules none are)
        loaded (Err e) made here = tt

        pub loaded_only : (result : Result Policy PolicyFault) → Made result → Meets (tables_fault rules 1 messages) result
            → (q : AbstractPolicy) → Loads text s q → IfOk result (λ p. policy_view p ≡ q)
        loaded_only (Ok p) made none q said = made ∙ one_policy text s (record { messages = messages; rules = rules; modules = modules }) q (loads modules none are) said
        loaded_only (Err e) made here q said = tt

      pub load_refused : (result : Result Policy PolicyFault) → Meets (tables_fault rules 1 messages) result → IfErr result (λ f. IfSome (named f) (IsRefused text s))
      load_refused (Ok p) none = tt
      load_refused (Err e) here = refused_tables (named e) here

    pub refused_rules : (f : Option AbstractFault) → IfSome f (λ x. entries_fault (rule_fault s (message_names messages)) [] 1 rule_entries ≡ Some x) → IfSome f (IsRefused text s)
    refused_rules None is = tt
    refused_rules (Some x) is = inr (
      top,
      d.document,
      ap (λ a. option_or a (option_or (entries_fault (message_fault s) [] 1 (messages_in top)) (option_or (entries_fault (rule_fault s (message_names (policy_in s top).messages)) [] 1 (rules_in top)) (option_or (tables_fault (policy_in s top).rules 1 (policy_in s top).messages) None)))) d.faultless
          ∙ ap (λ b. option_or b (option_or (entries_fault (rule_fault s (message_names (policy_in s top).messages)) [] 1 (rules_in top)) (option_or (tables_fault (policy_in s top).rules 1 (policy_in s top).messages) None))) (ap (entries_fault (message_fault s) [] 1) messages_are ∙ m.faultless)
          ∙ ap (λ c. option_or c (option_or (tables_fault (policy_in s top).rules 1 (policy_in s top).messages) None))
          (ap (λ ms. entries_fault (rule_fault s (message_names ms)) [] 1 (rules_in top)) (sym policy_messages) ∙ ap (entries_fault (rule_fault s (message_names messages)) [] 1) rules_are ∙ is),
    )

  pub refused_messages : (f : Option AbstractFault) → IfSome f (λ x. entries_fault (message_fault s) [] 1 message_entries ≡ Some x) → IfSome f (IsRefused text s)
  refused_messages None is = tt
  refused_messages (Some x) is = inr (
    top,
    d.document,
    ap (λ a. option_or a (option_or (entries_fault (message_fault s) [] 1 (messages_in top)) (option_or (entries_fault (rule_fault s (message_names (policy_in s top).messages)) [] 1 (rules_in top)) (option_or (tables_fault (policy_in s top).rules 1 (policy_in s top).messages) None)))) d.faultless
        ∙ ap (λ b. option_or b (option_or (entries_fault (rule_fault s (message_names (policy_in s top).messages)) [] 1 (rules_in top)) (option_or (tables_fault (policy_in s top).rules 1 (policy_in s top).messages) None)))
        (ap (entries_fault (message_fault s) [] 1) messages_are ∙ is),
  )

-- the fault of the top is the text's
pub refused_top : (text : List ℕ) (s : AbstractTypes) (top : Members) (f : Option AbstractFault) → IsDocument text top → IfSome f (λ x. top_fault top ≡ Some x) → IfSome f (IsRefused text s)
refused_top text s top None document is = tt
refused_top text s top (Some x) document is = inr (
  top,
  document,
  ap (λ a. option_or a (option_or (entries_fault (message_fault s) [] 1 (messages_in top)) (option_or (entries_fault (rule_fault s (message_names (policy_in s top).messages)) [] 1 (rules_in top)) (option_or (tables_fault (policy_in s top).rules 1 (policy_in s top).messages) None)))) is,
)

pub refused_text : (text : List ℕ) (s : AbstractTypes) (f : Option AbstractFault) → IfSome f (λ x. (x ≡ toml) × IsNoDocument text) → IfSome f (IsRefused text s)
refused_text text s None is = tt
refused_text text s (Some x) is = inl (is.1, is.0)
