-- What a path leads to, a step further and along the fields of a SEQUENCE.
use Rattle.std.proofs.Common.{◌≡◌, ℕ, zero, suc, ◌+◌, List, [], ◌∷◌, ◌++◌, Option, Some, None, refl, ap, ◌∙◌, arith}
use Rattle.std.specs.Prelude.{IsSome}
use Rattle.acn_grammar.specs.Grammar.{Grammar, Fields, Alternatives, node, seq, component, inserted}
use Rattle.acn_grammar.specs.Paths.{node_along, field_at, alternative_at, if_some}
use Rattle.acn_grammar.specs.declared.node.Presence.{Presence}

pub some_on : (o : Option Grammar) (g : Grammar) → o ≡ Some g → IsSome o
some_on None g e = cc
some_on (Some h) g e = refl

pub same_node : (g h : Grammar) → Some g ≡ Some h → g ≡ h
same_node g h e = cc

pub after_step : {F : Type 0} (o : Option Grammar) (step : Grammar → Option Grammar) (g : Grammar) → if_some o step ≡ Some g → ((inside : Grammar) → o ≡ Some inside → step inside ≡ Some g → F) → F
after_step None step g e f = cc
after_step (Some inside) step g e f = f inside refl e

-- by what one step leads to
module _ (step : Grammar → ℕ → Option Grammar) where
  -- a path that goes on
  pub further : (path q : List ℕ) (root g : Grammar) → node_along step root path ≡ Some g → node_along step root (path ++ q) ≡ node_along step g q
  further [] q root g e = ap (λ h. node_along step h q) (same_node root g e)
  further (k ∷ path) q root g e =
      after_step {F = node_along step root ((k ∷ path) ++ q) ≡ node_along step g q} (step root k) (λ inside. node_along step inside path) g e
      (λ inside is more. ap (λ o. if_some o (λ h. node_along step h (path ++ q))) is ∙ further path q inside g more)

  pub one_further : (path : List ℕ) (k : ℕ) (root g h : Grammar) → node_along step root path ≡ Some g → step g k ≡ Some h → node_along step root (path ++ k ∷ []) ≡ Some h
  one_further path k root g h e is = further path (k ∷ []) root g e ∙ ap (λ o. if_some o (λ inside. node_along step inside [])) is

module _ (step : Grammar → ℕ → Option Grammar) (root : Grammar) where
  abbrev pub On : List ℕ → Grammar → Type 0
  On path g = node_along step root path ≡ Some g

  pub is_some : (path : List ℕ) (g : Grammar) → On path g → IsSome (node_along step root path)
  is_some path g e = some_on (node_along step root path) g e

  -- the fields that are left, the next of which is field k
  abbrev pub FieldsOn : List ℕ → Fields → ℕ → Type 0
  FieldsOn path fs k = (m j : ℕ) (h : Grammar) → m ≡ k + j → field_at fs j ≡ Some h → On (path ++ m ∷ []) h

  pub all_fields : (path : List ℕ) (align : ℕ) (fields : Fields) (home : List ℕ) → ((m : ℕ) → step (node align (seq fields home)) m ≡ field_at fields m) → On path (node align (seq fields home)) → FieldsOn path fields 0
  all_fields path align fields home in_fields e m j h is found = one_further step path m root (node align (seq fields home)) h e (in_fields m ∙ (ap (field_at fields) (number m j is) ∙ found))
    where
      number : (m j : ℕ) → m ≡ 0 + j → m ≡ j
      number m j is = omega arith

  pub first_component : (path : List ℕ) (name : List ℕ) (g : Grammar) (presence : Presence) (default : Option (List ℕ)) (own : Option ℕ) (fs : Fields) (k : ℕ) → FieldsOn path (component name g presence default own fs) k → On (path ++ k ∷ []) g
  first_component path name g presence default own fs k on = on k zero g (omega arith) refl

  pub behind_component : (path : List ℕ) (name : List ℕ) (g : Grammar) (presence : Presence) (default : Option (List ℕ)) (own : Option ℕ) (fs : Fields) (k : ℕ) → FieldsOn path (component name g presence default own fs) k → FieldsOn path fs (suc k)
  behind_component path name g presence default own fs k on m j h is found = on m (suc j) h (omega arith) found

  pub first_inserted : (path : List ℕ) (name : List ℕ) (g : Grammar) (slot : Option ℕ) (fs : Fields) (k : ℕ) → FieldsOn path (inserted name g slot fs) k → On (path ++ k ∷ []) g
  first_inserted path name g slot fs k on = on k zero g (omega arith) refl

  pub behind_inserted : (path : List ℕ) (name : List ℕ) (g : Grammar) (slot : Option ℕ) (fs : Fields) (k : ℕ) → FieldsOn path (inserted name g slot fs) k → FieldsOn path fs (suc k)
  behind_inserted path name g slot fs k on m j h is found = on m (suc j) h (omega arith) found

  -- the alternative of number i, of which j are left to pass over
  abbrev pub CaseOn : List ℕ → Alternatives → (i j : ℕ) → Type 0
  CaseOn path cases i j = (h : Grammar) → alternative_at cases j ≡ Some h → On (path ++ i ∷ []) h
