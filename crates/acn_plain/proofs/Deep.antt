-- A path that leads to a node of an accepted tree has few steps.
use Rattle.std.proofs.Common.{◌≡◌, ℕ, suc, ◌≤◌, List, [], ◌∷◌, length, Option, Some, None, refl, ap, subst, ◌∙◌}
use Rattle.std.specs.Prelude.{IsSome}
use Rattle.acn_num.specs.declared.limits.TheConstants.{MOST_STEPS}
use Rattle.acn_grammar.specs.Check.{NodeAt}
use Rattle.acn_grammar.specs.Grammar.{Grammar, node, num, octets, bits, text, seq, list, choice, contained}
use Rattle.acn_grammar.specs.Paths.{node_along, node_on, child, part_node, if_some}
use Rattle.acn_grammar.specs.Walk.{Stand}
use Rattle.acn_packet_laws.specs.Laws.{IsAccepted, EachNodeIsSound, EachPathHasItsNumber, LeadsToANode}

-- a path of the grammar that leads to the same node, as long as this one of a value
record Like (g h : Grammar) (path : List ℕ) : Type 0 where
  pub steps : List ℕ
  pub leads : node_along child g steps ≡ Some h
  pub long : length steps ≡ length path

none : {A : Type 0} {P : Type 0} (a : A) → None ≡ Some a → P
none a e = absurd cc

one_step : (g : Grammar) (k : ℕ) (h : Grammar) → part_node g k ≡ Some h → (j : ℕ) × (child g j ≡ Some h)
one_step (node align (num leaf)) k h e = (k, e)
one_step (node align (octets sizing)) k h e = (k, e)
one_step (node align (bits sizing)) k h e = (k, e)
one_step (node align (text leaf)) k h e = (k, e)
one_step (node align (seq fs home)) k h e = (k, e)
one_step (node align (list sizing g)) k h e = (0, e)
one_step (node align (choice cases rule)) k h e = (k, e)
one_step (node align (contained sizing g)) k h e = (k, e)

along : (g : Grammar) (k : ℕ) (path : List ℕ) (h : Grammar) → ((inside : Grammar) → node_along part_node inside path ≡ Some h → Like inside h path) → (o : Option Grammar) → part_node g k ≡ o → if_some o (λ inside. node_along part_node inside path) ≡ Some h → Like g h (k ∷ path)
along g k path h more None is e = none h e
along g k path h more (Some inside) is e =
    let s = one_step g k inside is in
    let x = more inside e in
    record { steps = s.0 ∷ x.steps; leads = ap (λ o. if_some o (λ i. node_along child i x.steps)) s.1 ∙ x.leads; long = ap suc x.long }

like : (path : List ℕ) (g h : Grammar) → node_along part_node g path ≡ Some h → Like g h path
like [] g h e = record { steps = []; leads = e; long = refl }
like (k ∷ path) g h e = along g k path h (λ inside x. like path inside h x) (part_node g k) refl e

module _ (root : Grammar) (accepted : IsAccepted root) (sound : EachNodeIsSound) (numbered : EachPathHasItsNumber) where
  at_number : (k : ℕ) (here : Stand) → NodeAt root k here → length here.path ≤ MOST_STEPS
  at_number k here is = (sound root k here accepted is).sound.1

  of_node : (path : List ℕ) (h : Grammar) → node_on root path ≡ Some h → length path ≤ MOST_STEPS
  of_node path h e =
      let x = like path root h e in
      let n = numbered root x.steps h x.leads in
      subst (λ (l : ℕ). l ≤ MOST_STEPS) (ap length n.path_is ∙ x.long) (at_number n.number n.here n.stands)

  pub few_steps : (path : List ℕ) → LeadsToANode root path → length path ≤ MOST_STEPS
  few_steps path leads = by (node_on root path) refl leads
    where
      by : (o : Option Grammar) → node_on root path ≡ o → IsSome o → length path ≤ MOST_STEPS
      by None is some = absurd cc
      by (Some h) is some = of_node path h is
