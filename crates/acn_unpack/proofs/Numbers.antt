-- Numbers that are read, and the slots that they are noted for.
use Rattle.std.proofs.Common.{◌≡◌, ◌≤◌, ◌+◌, ℕ, ℤ, true, false, List, [], drop, length, Option, Some, None, refl, subst}
use Rattle.acn_bits.specs.Reading.{Reading, Reads}
use Rattle.acn_grammar.specs.Code.{Any, Code, NumberOf}
use Rattle.acn_grammar.specs.Env.{Env}
use Rattle.acn_grammar.specs.Grammar.{Grammar, Fields, Data, node, num, octets, bits, text, seq, list, choice, contained, component, inserted}
use Rattle.acn_grammar.specs.Scoped.{Known}
use Rattle.acn_grammar.specs.Sound.{SaysSlot}
use Rattle.acn_grammar.specs.Tree.{holds}
use Rattle.acn_grammar.specs.declared.limits.TheConstants.{MOST_OPEN_SLOTS}
use Rattle.acn_grammar.specs.declared.node.NumLeaf.{NumLeaf}
use Rattle.acn_grammar.specs.declared.node.Presence.{Presence}
use Rattle.acn_plan.specs.Back.{StepAt, node_at, form_in, marks}
use Rattle.acn_plan.specs.declared.step.Act.{Act}
use Rattle.acn_plan.specs.declared.step.Act.TheVariants as acts
use Rattle.acn_plan.specs.declared.step.Step.{Step}
use Rattle.acn_plan.proofs.Marks.{node_is}
use Rattle.acn_reads.specs.Decoded.{FieldsStand, Noted}
use Rattle.acn_reads.specs.Steps.{IsNumber}
use Rattle.acn_reads.proofs.Nodes.{noted_within}
use Rattle.acn_unpack.specs.Keeps.{IsFree, OwnStands}

pub leaf_read : (leaf : NumLeaf) (d : Data) (x : ℤ) (a b : Reading) → NumberOf leaf.kind d x → Reads (λ bs. Code Any leaf x bs) a b → Reads (λ bs. (y : ℤ) × NumberOf leaf.kind d y × Code Any leaf y bs) a b
leaf_read leaf d x a b is r = record { front = r.front; split = r.split; moved = r.moved; window = r.window; holds = (x, is, r.holds) }

some_is : (s u : ℕ) → ◌≡◌ {A = Option ℕ} (Some s) (Some u) → s ≡ u
some_is s u e = cc

home_of : (root : Grammar) (around : List ℕ) (ks : Known) (s : ℕ) (g : Grammar) → SaysSlot root around ks s g → (holds around s ≡ true) × (ks s ≡ false)
home_of root around ks s (node align (num leaf)) h = (h.0, h.1)
home_of root around ks s (node align (octets sizing)) h = absurd h
home_of root around ks s (node align (bits sizing)) h = absurd h
home_of root around ks s (node align (text leaf)) h = absurd h
home_of root around ks s (node align (seq fields home)) h = absurd h
home_of root around ks s (node align (list sizing g)) h = absurd h
home_of root around ks s (node align (choice cases rule)) h = absurd h
home_of root around ks s (node align (contained sizing g)) h = absurd h

pub says_number : (root : Grammar) (around : List ℕ) (ks : Known) (s : ℕ) (g : Grammar) → SaysSlot root around ks s g → IsNumber g
says_number root around ks s (node align (num leaf)) h = tt
says_number root around ks s (node align (octets sizing)) h = absurd h
says_number root around ks s (node align (bits sizing)) h = absurd h
says_number root around ks s (node align (text leaf)) h = absurd h
says_number root around ks s (node align (seq fields home)) h = absurd h
says_number root around ks s (node align (list sizing g)) h = absurd h
says_number root around ks s (node align (choice cases rule)) h = absurd h
says_number root around ks s (node align (contained sizing g)) h = absurd h

-- a slot whose field is read has no number yet
pub says_free : (root : Grammar) (around : List ℕ) (ks : Known) (s : ℕ) (g : Grammar) (t : Env) → SaysSlot root around ks s g → Noted around ks t → length around ≤ MOST_OPEN_SLOTS → IsFree s t
says_free root around ks s g t says n few = record { around = around; few = few; mine = (home_of root around ks s g says).0; none = (n.has s).1 (home_of root around ks s g says).1; within = noted_within around ks t n }

pub inserted_free : (root g : Grammar) (slot : Option ℕ) (fs : Fields) (depth : ℕ) (around : List ℕ) (t : Env) → FieldsStand root depth (inserted [] g slot fs) t around → length around ≤ MOST_OPEN_SLOTS → (s : ℕ) → slot ≡ Some s → IsFree s t
inserted_free root g None fs depth around t st few s q = absurd (none q)
  where
    none : ◌≡◌ {A = Option ℕ} None (Some s) → ⊥
    none e = cc
inserted_free root g (Some u) fs depth around t st few s q = subst (λ (n : ℕ). IsFree n t) (some_is u s q) (says_free root around st.known u g t st.is.0 st.noted few)

pub own_free : (root g : Grammar) (k : ℕ) (slot : Option ℕ) (t : Env) (around : List ℕ) → OwnStands root k g slot t around → (s : ℕ) → slot ≡ Some s → IsFree s t
own_free root g k slot t around o s q = says_free root around o.stands.known s g t (o.says s q) o.stands.noted o.few

-- what stands of a component, with its slot
pub own_stands : (root g : Grammar) (presence : Presence) (own : Option ℕ) (fs : Fields) (depth : ℕ) (around : List ℕ) (t : Env) → FieldsStand root depth (component [] g presence None own fs) t around → length around ≤ MOST_OPEN_SLOTS → OwnStands root depth g own t around
own_stands root g presence None fs depth around t st few = record { stands = record { known = st.known; noted = st.noted; is = st.is.3 }; says = λ s q. absurd (none s q); few = few }
  where
    none : (s : ℕ) → ◌≡◌ {A = Option ℕ} None (Some s) → ⊥
    none s e = cc
own_stands root g presence (Some u) fs depth around t st few = record { stands = record { known = st.known; noted = st.noted; is = st.is.3 }; says = λ s q. subst (λ (n : ℕ). SaysSlot root around st.known n g) (some_is u s q) st.is.1.1; few = few }

-- a step that is no number says no slot's
number_act : (a : Act) (align next n i : ℕ) (ss : List Step) → IsNumber (node align (form_in a next n (marks i ss))) → (leaf : NumLeaf) × (a ≡ acts.Num leaf)
number_act (acts.Num leaf) align next n i ss h = (leaf, refl)
number_act (acts.Octets sizing) align next n i ss h = absurd h
number_act (acts.Bits sizing) align next n i ss h = absurd h
number_act (acts.Text leaf) align next n i ss h = absurd h
number_act (acts.Seq home) align next n i ss h = absurd h
number_act (acts.List sizing) align next n i ss h = absurd h
number_act (acts.Choice cases) align next n i ss h = absurd h
number_act (acts.Contained sizing) align next n i ss h = absurd h

pub no_slot : (root : Grammar) (steps : List Step) (i : ℕ) (s : Step) (k : ℕ) (slot : Option ℕ) (t : Env) (around : List ℕ) → StepAt steps i s → OwnStands root k (node_at steps i) slot t around → ((leaf : NumLeaf) → s.act ≡ acts.Num leaf → ⊥) → slot ≡ None
no_slot root steps i s k None t around at o other = refl
no_slot root steps i s k (Some u) t around at o other =
    let says : SaysSlot root around o.stands.known u (node_at steps i) = o.says u refl in
    let number = subst IsNumber (node_is steps i s at) (says_number root around o.stands.known u (node_at steps i) says) in
    let leaf = number_act s.act s.align s.next (i + 1) (i + 1) (drop (i + 1) steps) number in
    absurd (other leaf.0 leaf.1)
