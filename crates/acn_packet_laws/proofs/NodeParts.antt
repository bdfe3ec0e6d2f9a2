-- Parts that follow each other at the front of an input, and what is told of texts.
use Rattle.std.proofs.Common.{◌≡◌, ℕ, ◌+◌, Bool, true, false, List, ◌++◌, length, refl, sym, ap, ◌∙◌, append_assoc, ◌⊎◌, IsTrue}
use Rattle.acn_grammar.specs.Env.{Env}
use Rattle.acn_grammar.specs.Fails.{Failing, Behind, Here, TextFails}
use Rattle.acn_grammar.specs.Grammar.{Grammar}
use Rattle.acn_grammar.specs.Leaves.{text_fine}
use Rattle.acn_grammar.specs.Scoped.{Known, RuleIn}
use Rattle.acn_grammar.specs.Spell.{Part, ◌then◌, EndedPart}
use Rattle.acn_grammar.specs.declared.node.TextLeaf.{TextLeaf}
use Rattle.acn_packet_laws.proofs.Envs.{Good, FrontOf, Stuck}

-- Parts that follow each other.

pub join_front : {P Q : Part} (at : ℕ) (rest front back : List Bool) → rest ≡ front ++ back → P at front → FrontOf Q (at + length front) back → FrontOf (P then Q) at rest
join_front at rest front back e p q = record {
  front = front ++ q.front;
  back = q.back;
  whole = e ∙ (ap (λ z. front ++ z) q.whole ∙ sym (append_assoc front q.front q.back));
  spelled = record { front = front; back = q.front; whole = refl; first = p; second = q.spelled };
}

pub join_stuck : {P : Part} {F : Failing} (at : ℕ) (rest front back : List Bool) → rest ≡ front ++ back → P at front → Stuck F (at + length front) back → Stuck (Behind P F) at rest
join_stuck at rest front back e p f = (f.0, length front + f.1, record { front = front; back = back; whole = e; spelled = p; more = f.1; fails = f.2; reaches = refl })

-- The same of texts.
abbrev pub TextTotal : Type 0
TextTotal =
    (root : Grammar) (here : Here) (leaf : TextLeaf) → IsTrue (text_fine leaf) → (ks keys : Known) → RuleIn ks leaf.sized.rule → ((s : ℕ) → ks s ≡ true → keys s ≡ true) → (env : Env) → Good root keys env → (at : ℕ) (rest : List Bool)
    → ((cs : List ℕ) × FrontOf (EndedPart leaf.ended leaf env cs) at rest) ⊎ Stuck (TextFails here leaf.ended leaf env) at rest

abbrev pub none : ℕ → Bool
none s = false
