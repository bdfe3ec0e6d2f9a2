-- The end of a best value is that of its bits.
use Rattle.std.proofs.Common.{◌≡◌, ℕ, zero, suc, ◌+◌, ◌*◌, ◌-◌, ℤ, pos, negsuc, Bool, true, false, ◌&&◌, List, [], ◌++◌, length, Option, Some, None, refl, sym, ap, ◌∙◌, arith, subst, IsTrue, nat_lt}
use Rattle.std.proofs.lemmas.Bool.{and_parts}
use Rattle.std.proofs.lemmas.Int.{ints}
use Rattle.std.specs.Prelude.{◌≤ℤ◌, replicate}
use Rattle.std.specs.Ordering.{int_eq}
use Rattle.acn_num.specs.Ranges.{In, has, Ranges}
use Rattle.acn_grammar.specs.Check.{HasOneWidth}
use Rattle.acn_grammar.specs.Code.{Any}
use Rattle.acn_grammar.specs.Grammar.{Grammar, Form, Fields, Alternatives, Data, Places, Elements, node, num, octets, bits, text, seq, list, choice, contained, no_fields, component, inserted, no_alternatives, alternative, boolean, octet_string, bit_string, characters, record_of, list_of, alt, no_places, empty, filled, no_elements, element}
use Rattle.acn_grammar.specs.Interval.{held}
use Rattle.acn_grammar.specs.Leaves.{num_fine, set_fine, is_range, no_items, items_fine}
use Rattle.acn_grammar.specs.Length.{padding, rule_width, index_width, ending, least, num_length, number_of, inserted_length, presence_bits, run_length, list_length, text_length, bit_length, form_length, fields_length, alternative_length}
use Rattle.acn_grammar.specs.Scoped.{Known, with_slot, with_own, after, choose_known}
use Rattle.acn_grammar.specs.Sound.{Sound, FormSound, FieldsSound, AlternativesSound, SaysSlot, OneWidth, IsNull}
use Rattle.acn_grammar.specs.Tree.{is_align}
use Rattle.acn_grammar.specs.declared.node.ChoiceRule.{ChoiceRule}
use Rattle.acn_grammar.specs.declared.node.NumCoding.{NumCoding}
use Rattle.acn_grammar.specs.declared.node.Items.{Items}
use Rattle.acn_grammar.specs.declared.node.Table.{Table}
use Rattle.acn_grammar.specs.declared.node.NumKind.{NumKind}
use Rattle.acn_grammar.specs.declared.node.NumKind.TheVariants.{Integer, Boolean, Enumerated, Null}
use Rattle.acn_grammar.specs.declared.node.NumLeaf.{NumLeaf}
use Rattle.acn_grammar.specs.declared.node.Presence.TheVariants.{Always, Bit, When}
use Rattle.acn_grammar.specs.declared.node.SizeRule.{SizeRule}
use Rattle.acn_grammar.specs.declared.node.TextLeaf.{TextLeaf}
use Rattle.acn_grammar.proofs.FineLeaves.{rules_of}
use Rattle.acn_grammar.proofs.HasImage.{range_within}
use Rattle.acn_grammar.proofs.LeafLengths.{code-length}
use Rattle.acn_packet_laws.specs.Laws.{AcceptedIsSound, EachNumberHasACode}
use Rattle.acn_extreme_laws.specs.Best.{behind, character_of, number_data, side_of}
use Rattle.acn_extreme_laws.specs.Laws.{BestReaches}
use Rattle.acn_extreme_laws.proofs.Chosen.{RunBest, ListBest, IsBest, FormBest, FieldsBest, CaseBest, node_made}
use Rattle.acn_extreme_laws.specs.Codes.{number_at}
use Rattle.acn_extreme_laws.specs.Reach.{from_to, text_around, presence_count}
use Rattle.acn_extreme_laws.specs.declared.side.Side.{Side}
use Rattle.acn_extreme_laws.specs.declared.side.Side.TheVariants.{Shortest, Longest}
use Rattle.acn_extreme_laws.proofs.BestReach.{padded_held, node_agrees}
use Rattle.acn_extreme_laws.proofs.Codes.{number_permitted, least_in}
use Rattle.acn_extreme_laws.proofs.Sizes.{natural_back}
use Rattle.acn_extreme_laws.proofs.Tuples.{first_three, first_four, second_three, second_four, third_four, fourth_five, last_two, last_three, last_four, last_five}

-- The value of a number says the number.

bit_back : (x : ℤ) → pos 0 ≤ℤ x → x ≤ℤ pos 1 → number_of (boolean (int_eq x (pos 1))) ≡ x
bit_back (pos zero) h k = refl
bit_back (pos (suc zero)) h k = refl
bit_back (pos (suc (suc n))) h k = absurd (omega (arith, ints))
bit_back (negsuc n) h k = absurd (omega (arith, ints))

null_back : (x : ℤ) → pos 0 ≤ℤ x → x ≤ℤ pos 0 → pos 0 ≡ x
null_back x h k = omega (arith, ints)

pub number_back : (kind : NumKind) (coding : NumCoding) (items : Items) (table : Option Table) (set : Ranges) (x : ℤ) → set_fine kind coding items table set ≡ true → has set x ≡ true → number_of (number_data kind x) ≡ x
number_back Integer coding items table set x h k = refl
number_back Boolean coding items table set x h k = let w = range_within (pos 0) (pos 1) set x (and_parts (is_range (pos 0) (pos 1) set) (no_items items) h).0 k in bit_back x w.0 w.1
number_back Enumerated coding items table set x h k =
    let f = and_parts (nat_lt 0 (length items.items)) (is_range (pos 0) (pos (length items.items - 1)) set && items_fine coding items) h in
    let w = range_within (pos 0) (pos (length items.items - 1)) set x (and_parts (is_range (pos 0) (pos (length items.items - 1)) set) (items_fine coding items) f.1).0 k in
    natural_back x w.0
number_back Null coding items table set x h k = let w = range_within (pos 0) (pos 0) set x (and_parts (is_range (pos 0) (pos 0) set) (no_items items) h).0 k in null_back x w.0 w.1

pub leaf_back : (leaf : NumLeaf) → IsTrue (num_fine leaf) → (side : Side) → number_of (number_data leaf.kind (number_at side leaf)) ≡ number_at side leaf
leaf_back leaf fine side = number_back leaf.kind leaf.coding leaf.items leaf.table leaf.set (number_at side leaf) (rules_of leaf fine).set (number_permitted leaf fine side)

-- Inserted fields: all their numbers have one length.

one_width : EachNumberHasACode → (leaf : NumLeaf) → IsTrue (num_fine leaf) → HasOneWidth leaf → (x y : ℤ) → In leaf.set x → In leaf.set y → num_length leaf x ≡ num_length leaf y
one_width codes leaf fine wide x y h k =
    let c = codes Any leaf fine x h in
    let d = codes Any leaf fine y k in
    sym (code-length Any leaf fine x c.0 c.1) ∙ wide.all_codes x c.0 c.1 ∙ sym (wide.all_codes y d.0 d.1) ∙ code-length Any leaf fine y d.0 d.1

null_one : (leaf : NumLeaf) (kind : NumKind) → kind ≡ Null → set_fine kind leaf.coding leaf.items leaf.table leaf.set ≡ true → (x y : ℤ) → In leaf.set x → In leaf.set y → x ≡ y
null_one leaf Null e fine x y h k =
    let r = (and_parts (is_range (pos 0) (pos 0) leaf.set) (no_items leaf.items) fine).0 in
    let v = range_within (pos 0) (pos 0) leaf.set x r h in
    let w = range_within (pos 0) (pos 0) leaf.set y r k in
    sym (null_back x v.0 v.1) ∙ null_back y w.0 w.1
null_one leaf Integer e fine x y h k = cc
null_one leaf Boolean e fine x y h k = cc
null_one leaf Enumerated e fine x y h k = cc

-- Some places.

long : {A : Type 0} (n : ℕ) (x : A) → length (replicate n x) ≡ n
long zero x = refl
long (suc n) x = ap suc (long n x)

run_ends : (each : ℕ → Data → ℕ → Type 0) (size : ℕ → Data → ℕ) → ((n at : ℕ) → at ≡ held n → (d : Data) (e : ℕ) → each at d e → e ≡ held (n + size n d))
    → (es : Elements) (n at : ℕ) → at ≡ held n → (e : ℕ) → RunBest each at es e → e ≡ held (n + run_length size n es)
run_ends each size h no_elements n at is e r = omega arith
run_ends each size h (element d es) n at is e r =
    let here = h n at is d r.0 r.1 in
    let rest = run_ends each size h es (n + size n d) r.0 here e r.2 in
    omega arith

module _ (root : Grammar) (side : Side) (codes : EachNumberHasACode) where
  leaf_ends : (a : ℕ) (leaf : NumLeaf) → is_align a ≡ true → IsTrue (num_fine leaf) → ((x y : ℤ) → In leaf.set x → In leaf.set y → num_length leaf x ≡ num_length leaf y)
      → (n at : ℕ) → at ≡ held n → (d : Data) (e : ℕ) → IsBest root side (node a (num leaf)) at d e → e ≡ held (n + inserted_length (node a (num leaf)) n)
  leaf_ends a leaf align fine one n at is d e r =
      let p = padded_held a n at align is in
      let same = one (number_at side leaf) (least leaf.set) (number_permitted leaf fine side) (least_in leaf fine) in
      let end = r.1 in
      omega arith

  slot_ends : (k : ℕ) (around : List ℕ) (ks : Known) (s : ℕ) (g : Grammar) → SaysSlot root around ks s g → OneWidth g → Sound root k around ks g → (n at : ℕ) → at ≡ held n → (d : Data) (e : ℕ) → IsBest root side g at d e → e ≡ held (n + inserted_length g n)
  slot_ends k around ks s (node a (num leaf)) says wide sound n at is d e r = leaf_ends a leaf (first_three sound) (last_three sound) (one_width codes leaf (last_three sound) wide) n at is d e r
  slot_ends k around ks s (node a _) says wide sound n at is d e r = absurd says

  null_ends : (k : ℕ) (around : List ℕ) (ks : Known) (g : Grammar) → IsNull g → Sound root k around ks g → (n at : ℕ) → at ≡ held n → (d : Data) (e : ℕ) → IsBest root side g at d e → e ≡ held (n + inserted_length g n)
  null_ends k around ks (node a (num leaf)) null' sound n at is d e r =
      leaf_ends a leaf (first_three sound) (last_three sound) (λ x y h q. ap (num_length leaf) (null_one leaf leaf.kind null' (rules_of leaf (last_three sound)).set x y h q)) n at is d e r
  null_ends k around ks (node a _) null' sound n at is d e r = absurd null'

  fields_bits : (fs : Fields) (at : ℕ) (ps : Places) (e : ℕ) → FieldsBest root side fs at ps e → length (presence_bits fs ps) ≡ presence_count fs
  fields_bits no_fields at no_places e r = refl
  fields_bits no_fields at (empty ps) e r = absurd r
  fields_bits no_fields at (filled d ps) e r = absurd r
  fields_bits (component n g p def own fs) at no_places e r = absurd r
  fields_bits (component n g Always def own fs) at (filled d ps) e r = fields_bits fs r.1 ps e r.3
  fields_bits (component n g Always def own fs) at (empty ps) e r = fields_bits fs at ps e r.1
  fields_bits (component n g Bit def own fs) at (filled d ps) e r = ap suc (fields_bits fs r.1 ps e r.3)
  fields_bits (component n g Bit def own fs) at (empty ps) e r = ap suc (fields_bits fs at ps e r.1)
  fields_bits (component n g (When ts) def own fs) at (filled d ps) e r = fields_bits fs r.1 ps e r.3
  fields_bits (component n g (When ts) def own fs) at (empty ps) e r = fields_bits fs at ps e r.1
  fields_bits (inserted n g slot fs) at ps e r = fields_bits fs r.1 ps e r.3

  text_ends : (o : Option (List Bool)) (leaf : TextLeaf) (n at m : ℕ) → at ≡ held n → (e : ℕ) → e ≡ behind (behind at (text_around o leaf)) (leaf.width * m) → e ≡ held (n + text_length o leaf m)
  text_ends None leaf n at m is e r = omega arith
  text_ends (Some end) leaf n at m is e r = omega arith

  list_ends : (o : Option (List Bool)) (rule : SizeRule) (each : ℕ → Data → ℕ → Type 0) (size : ℕ → Data → ℕ) → ((n at : ℕ) → at ≡ held n → (d : Data) (e : ℕ) → each at d e → e ≡ held (n + size n d))
      → (es : Elements) (n at : ℕ) → at ≡ held n → (e : ℕ) → ListBest o rule each at es e → e ≡ held (n + list_length o rule size n es)
  list_ends None rule each size h es n at is e r =
      let run = run_ends each size h es (n + rule_width rule) (behind at (rule_width rule)) (omega arith) r.0 r.1 in
      let end = r.2 in
      omega arith
  list_ends (Some p) rule each size h es n at is e r =
      let run = run_ends each size h es n at is r.0 r.1 in
      let end = r.2 in
      omega arith

  mutual
    pub node_ends : (g : Grammar) (k : ℕ) (around : List ℕ) (ks : Known) → Sound root k around ks g → (n at : ℕ) → at ≡ held n → (d : Data) (e : ℕ) → IsBest root side g at d e → e ≡ held (n + bit_length g n d)
    node_ends (node a form) k around ks sound n at is d e r =
        let t = form_ends form k around ks (last_three sound) (n + padding a n) (behind at (padding a at)) (padded_held a n at (first_three sound) is) d e r in
        omega arith

    form_ends : (form : Form) (k : ℕ) (around : List ℕ) (ks : Known) → FormSound root k around ks form → (n at : ℕ) → at ≡ held n → (d : Data) (e : ℕ) → FormBest root side form at d e → e ≡ held (n + form_length form n d)
    form_ends (num l) k around ks sound n at is d e r =
        let back = ap (num_length l) (ap number_of r.0 ∙ leaf_back l sound side) in
        let end = r.1 in
        omega arith
    form_ends (octets z) k around ks sound n at is (octet_string os) e r =
        let m = ap length r.2 ∙ long r.0 0 in
        let end = r.3 in
        omega arith
    form_ends (bits z) k around ks sound n at is (bit_string bs) e r =
        let m = ap length r.2 ∙ long r.0 false in
        let end = r.3 in
        omega arith
    form_ends (text l) k around ks sound n at is (characters cs) e r =
        let m = ap length r.2 ∙ long r.0 (character_of l) in
        subst (λ x. e ≡ held (n + text_length l.ended l x)) (sym m) (text_ends l.ended l n at r.0 is e r.3)
    form_ends (seq fs home) k around ks sound n at is (record_of ps) e r =
        let t = fields_ends fs (suc k) (home ++ around) ks (last_two sound) (n + presence_count fs) (behind at (presence_count fs)) (omega arith) ps e r in
        rw (fields_bits fs (behind at (presence_count fs)) ps e r) (omega arith)
    form_ends (list z g) k around ks sound n at is (list_of es) e r =
        list_ends (ending z.rule) z.rule (IsBest root side g) (bit_length g) (λ n' at' q d e' t. node_ends g (suc k) around ks (last_five sound) n' at' q d e' t) es n at is e r.1
    form_ends (choice cases rule) k around ks sound n at is (alt i d) e r =
        let t = case_ends cases rule (suc k) around ks (last_four sound) i (n + index_width rule) (behind at (index_width rule)) (omega arith) d e r in
        omega arith
    form_ends (contained z g) k around ks sound n at is d e r =
        let t = node_ends g (suc k) around ks (last_four sound) 0 0 refl d r.0 r.1 in
        let end = r.2 in
        omega arith
    form_ends (octets z) k around ks sound n at is _ e r = absurd r
    form_ends (bits z) k around ks sound n at is _ e r = absurd r
    form_ends (text l) k around ks sound n at is _ e r = absurd r
    form_ends (seq fs home) k around ks sound n at is _ e r = absurd r
    form_ends (list z g) k around ks sound n at is _ e r = absurd r
    form_ends (choice cases rule) k around ks sound n at is _ e r = absurd r

    fields_ends : (fs : Fields) (k : ℕ) (around : List ℕ) (ks : Known) → FieldsSound root k around ks fs → (n at : ℕ) → at ≡ held n → (ps : Places) (e : ℕ) → FieldsBest root side fs at ps e → e ≡ held (n + fields_length fs n ps)
    fields_ends no_fields k around ks sound n at is no_places e r = (let end = r in omega arith)
    fields_ends no_fields k around ks sound n at is (empty ps) e r = absurd r
    fields_ends no_fields k around ks sound n at is (filled d ps) e r = absurd r
    fields_ends (component name g p def own fs) k around ks sound n at is no_places e r = absurd r
    fields_ends (component name g p def own fs) k around ks sound n at is (filled d ps) e r =
        let here = node_ends g k around ks (fourth_five sound) n at is d r.1 r.2 in
        let rest = fields_ends fs k around (choose_known p ks (with_own own (after ks g))) (last_five sound) (n + bit_length g n d) r.1 here ps e r.3 in
        omega arith
    fields_ends (component name g p def own fs) k around ks sound n at is (empty ps) e r = fields_ends fs k around (choose_known p ks (with_own own (after ks g))) (last_five sound) n at is ps e r.1
    fields_ends (inserted name g (Some s) fs) k around ks sound n at is ps e r =
        let here = slot_ends k around ks s g (first_four sound) (second_four sound) (third_four sound) n at is r.0 r.1 r.2 in
        let rest = fields_ends fs k around (with_slot s ks) (last_four sound) (n + inserted_length g n) r.1 here ps e r.3 in
        omega arith
    fields_ends (inserted name g None fs) k around ks sound n at is ps e r =
        let here = null_ends k around ks g (first_three sound) (second_three sound) n at is r.0 r.1 r.2 in
        let rest = fields_ends fs k around ks (last_three sound) (n + inserted_length g n) r.1 here ps e r.3 in
        omega arith

    case_ends : (cases : Alternatives) (rule : ChoiceRule) (k : ℕ) (around : List ℕ) (ks : Known) → AlternativesSound root k around ks cases → (i n at : ℕ) → at ≡ held n → (d : Data) (e : ℕ) → CaseBest root side rule cases i at d e → e ≡ held (n + alternative_length cases i n d)
    case_ends no_alternatives rule k around ks sound i n at is d e r = absurd r
    case_ends (alternative name g ts more) rule k around ks sound zero n at is d e r = node_ends g k around ks (second_three sound) n at is d e r.1
    case_ends (alternative name g ts more) rule k around ks sound (suc i) n at is d e r = case_ends more rule k around ks (last_three sound) i n at is d e r

-- what is found at the root, on either side, ends where the grammar reaches
pub best_reaches : AcceptedIsSound → EachNumberHasACode → BestReaches
best_reaches sound codes root side accepted =
    node_agrees root side (λ k around ks g s at w e q. let t = node_ends root side codes g k around ks s at at e w.1 w.0 (node_made root side g k around ks s at w q) in omega arith)
    root 0 [] (λ s. false) (sound root accepted) (from_to 0 0) 0 (by side)
  where
    by : (z : Side) → 0 ≡ held (side_of z (from_to 0 0))
    by Shortest = refl
    by Longest = refl
