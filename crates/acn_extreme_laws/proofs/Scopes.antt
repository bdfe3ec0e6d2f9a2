-- Slots that are known are at home round a node, whatever stands before it.
use Rattle.std.proofs.Common.{◌≡◌, ℕ, true, List, ◌++◌, Option, Some, None, ◌∙◌, inl, inr, ◌⊎◌, nat_eq, subst}
use Rattle.std.proofs.lemmas.Bool.{or_right, eqb-true}
use Rattle.acn_grammar.specs.Grammar.{Grammar, node, num}
use Rattle.acn_grammar.specs.Scoped.{Known, with_slot, with_own, after, choose_known}
use Rattle.acn_grammar.specs.Sound.{Sound, SaysSlot, OwnSound}
use Rattle.acn_grammar.specs.Tree.{holds}
use Rattle.acn_grammar.specs.declared.node.Presence.{Presence}
use Rattle.acn_grammar.specs.declared.node.Presence.TheVariants.{Always, Bit, When}
use Rattle.acn_grammar.proofs.SlotLists.{holds-append}
use Rattle.acn_grammar.proofs.WholeTests.{either}
use Rattle.acn_packet_laws.specs.Laws.{KnownBehind}
use Rattle.acn_extreme_laws.proofs.Tuples.{first_three, last_two}

module _ (root : Grammar) (known_behind : KnownBehind) where
  abbrev pub Open : Known → List ℕ → Type 0
  Open ks around = (s : ℕ) → ks s ≡ true → holds around s ≡ true

  pub open_inside : (ks : Known) (home around : List ℕ) → Open ks around → Open ks (home ++ around)
  open_inside ks home around o = λ s h. holds-append home around s ∙ or_right (holds home s) (holds around s) (o s h)

  pub open_after : (k : ℕ) (around : List ℕ) (ks : Known) (g : Grammar) → Sound root k around ks g → Open ks around → Open (after ks g) around
  open_after k around ks g sound o = λ s h. by s (known_behind root k around ks g sound s h)
    where
      by : (s : ℕ) → (ks s ≡ true) ⊎ (holds around s ≡ true) → holds around s ≡ true
      by s (inl h) = o s h
      by s (inr h) = h

  pub says_open : (around : List ℕ) (ks : Known) (s : ℕ) (g : Grammar) → SaysSlot root around ks s g → holds around s ≡ true
  says_open around ks s (node a (num l)) h = first_three h
  says_open around ks s (node a _) h = absurd h

  pub open_slot : (around : List ℕ) (ks : Known) (s : ℕ) → holds around s ≡ true → Open ks around → Open (with_slot s ks) around
  open_slot around ks s h o = λ t e. either {F = holds around t ≡ true} (nat_eq s t) (ks t) e (λ q. subst (λ z. holds around z ≡ true) (eqb-true s t q) h) (λ q. o t q)

  pub open_own : (around : List ℕ) (ks ks' : Known) (own : Option ℕ) (presence : Presence) (g : Grammar) → OwnSound root around ks own presence g → Open ks' around → Open (with_own own ks') around
  open_own around ks ks' None presence g h o = o
  open_own around ks ks' (Some s) presence g h o = open_slot around ks' s (says_open around ks s g (last_two h)) o

  pub open_choose : (around : List ℕ) (presence : Presence) (there always : Known) → Open there around → Open always around → Open (choose_known presence there always) around
  open_choose around Always there always p q = q
  open_choose around Bit there always p q = p
  open_choose around (When ts) there always p q = p
