-- What is written can be read: each spelling in mode Written is one in mode Any.
use Rattle.std.proofs.Common.{◌≡◌, ℕ, zero, suc, ◌+◌, ◌≤◌, ℤ, Bool, true, false, List, [], ◌∷◌, length, Option, Some, None, sym, ap, ◌∙◌, arith, inl, inr, IsTrue}
use Rattle.acn_grammar.specs.Grammar.{Grammar, Form, Fields, Alternatives, Data, Places, Elements, node, num, octets, bits, text, seq, list, choice, contained, no_fields, component, inserted, no_alternatives, alternative, octet_string, bit_string, characters, record_of, list_of, alt, null, no_places, empty, filled, no_elements, element}
use Rattle.acn_grammar.specs.Code.{Written, Any, Code, CodingCode, FlagCode, OtherPattern, opposite}
use Rattle.acn_grammar.specs.Env.{Env}
use Rattle.acn_grammar.specs.Leaves.{num_fine, coding_fine, flag_patterns_fine, is_pattern}
use Rattle.acn_grammar.specs.Length.{ending}
use Rattle.acn_grammar.specs.Spell.{Part, Padding, Fill, Spell, FormPart, FieldsPart, SlotField, RunPart, ListPart, Window, AlternativePart}
use Rattle.acn_grammar.specs.declared.node.ChoiceRule.{ChoiceRule}
use Rattle.acn_grammar.specs.declared.node.NumCoding.{NumCoding}
use Rattle.acn_grammar.specs.declared.node.NumCoding.TheVariants.{Range, CountedFrom, CountedSigned, PosInt, Twos, Bcd, BcdEnded, Ascii, AsciiEnded, Flag, Fixed}
use Rattle.acn_grammar.specs.declared.node.NumLeaf.{NumLeaf}
use Rattle.acn_grammar.specs.declared.node.Sizing.{Sizing}
use Rattle.acn_grammar.proofs.FineLeaves.{rules_of}
use Rattle.acn_grammar.proofs.SpanLaw.{Fine, FormFine, FieldsFine, AlternativesFine}
use Rattle.acn_grammar.proofs.TreeRules.{tree_fine}
use Rattle.acn_packet_laws.specs.Laws.{WrittenIsRead}
use Rattle.acn_grammar.proofs.LeafLengths.{opposite-length}
use Rattle.acn_grammar.proofs.TextRules.{some_bits}

-- Numbers.

-- a pattern isn't its own opposite
not_self : (p : List Bool) → 1 ≤ length p → opposite p ≡ p → ⊥
not_self [] some e = absurd (omega arith)
not_self (true ∷ p) some e = cc
not_self (false ∷ p) some e = cc

other_read : (p bs : List Bool) → is_pattern p ≡ true → OtherPattern Written p bs → OtherPattern Any p bs
other_read p bs h o = (ap length o ∙ opposite-length p, λ e. not_self p (some_bits p h) (sym o ∙ e))

flag_read : (a b : Option (List Bool)) (y : ℤ) (bs : List Bool) → flag_patterns_fine a b ≡ true → FlagCode Written a b y bs → FlagCode Any a b y bs
flag_read None None y bs h c = c
flag_read (Some p) (Some q) y bs h c = c
flag_read (Some p) None y bs h (inl c) = inl c
flag_read (Some p) None y bs h (inr c) = inr (c.0, other_read p bs h c.1)
flag_read None (Some q) y bs h (inl c) = inl c
flag_read None (Some q) y bs h (inr c) = inr (c.0, other_read q bs h c.1)

coding_read : (coding : NumCoding) (little : Bool) (y : ℤ) (bs : List Bool) → coding_fine coding ≡ true → CodingCode Written coding little y bs → CodingCode Any coding little y bs
coding_read (Flag a b) little y bs h c = flag_read a b y bs h c
coding_read (Range low width) little y bs h c = c
coding_read (CountedFrom low) little y bs h c = c
coding_read CountedSigned little y bs h c = c
coding_read (PosInt n) little y bs h c = c
coding_read (Twos n) little y bs h c = c
coding_read (Bcd n) little y bs h c = c
coding_read BcdEnded little y bs h c = c
coding_read (Ascii n signed) little y bs h c = c
coding_read (AsciiEnded end signed) little y bs h c = c
coding_read (Fixed p) little y bs h c = c

pub code_read : (leaf : NumLeaf) → IsTrue (num_fine leaf) → (x : ℤ) (bs : List Bool) → Code Written leaf x bs → Code Any leaf x bs
code_read leaf h x bs c = record { permitted = c.permitted; image = c.image; maps = c.maps; spelled = coding_read leaf.coding leaf.little c.image bs (rules_of leaf h).coding c.spelled }

-- Nodes.

padding_read : (align at : ℕ) (bs : List Bool) → Padding Written align at bs → Padding Any align at bs
padding_read align at bs t = record { aligned = t.aligned; fewest = t.fewest; zeros = λ e. cc }

run_read : (each other : Data → Part) → ((d : Data) (at : ℕ) (bs : List Bool) → each d at bs → other d at bs) → (es : Elements) (at : ℕ) (bs : List Bool) → RunPart each es at bs → RunPart other es at bs
run_read each other h no_elements at bs t = t
run_read each other h (element d es) at bs t =
    record { front = t.front; back = t.back; whole = t.whole; first = h d at t.front t.first; second = run_read each other h es (at + length t.front) t.back t.second }

list_read : (o : Option (List Bool)) (sizing : Sizing) (env : Env) (each other : Data → Part) → ((d : Data) (at : ℕ) (bs : List Bool) → each d at bs → other d at bs) → (es : Elements) (at : ℕ) (bs : List Bool)
    → ListPart o sizing env each es at bs → ListPart o sizing env other es at bs
list_read None sizing env each other h es at bs t =
    record { front = t.front; back = t.back; whole = t.whole; first = t.first; second = run_read each other h es (at + length t.front) t.back t.second }
list_read (Some p) sizing env each other h es at bs t =
    let u = t.spelled in
    record { given = t.given; spelled = record { front = u.front; back = u.back; whole = u.whole; first = run_read each other h es at u.front u.first; second = u.second } }

window_read : (content other : Part) (n at : ℕ) (bs : List Bool) → ((cs : List Bool) → content 0 cs → other 0 cs) → Window content (Fill Written) n at bs → Window other (Fill Any) n at bs
window_read content other n at bs h t =
    let u = t.inside in
    let fill = u.second in
    record {
      size = t.size;
      inside = record { front = u.front; back = u.back; whole = u.whole; first = h u.front u.first; second = record { aligned = fill.aligned; few = fill.few; zeros = λ e. cc } };
    }

module _ (root : Grammar) where
  slot_read : (g : Grammar) → Fine g → (env : Env) (s at : ℕ) (bs : List Bool) → SlotField root Written g env s at bs → SlotField root Any g env s at bs
  slot_read (node align (num leaf)) f env s at bs t =
      let u = t.2 in
      (t.0, t.1, record { front = u.front; back = u.back; whole = u.whole; first = padding_read align at u.front u.first; second = code_read leaf f.1 t.0 u.back u.second })
  slot_read (node align _) f env s at bs t = absurd t.0

  mutual
    pub node_read : (g : Grammar) → Fine g → (env : Env) (d : Data) (at : ℕ) (bs : List Bool) → Spell root Written g env d at bs → Spell root Any g env d at bs
    node_read (node align form) f env d at bs t =
        record { front = t.front; back = t.back; whole = t.whole; first = padding_read align at t.front t.first; second = form_read form f.1 env d (at + length t.front) t.back t.second }

    form_read : (form : Form) → FormFine form → (env : Env) (d : Data) (at : ℕ) (bs : List Bool) → FormPart root Written form env d at bs → FormPart root Any form env d at bs
    form_read (num leaf) f env d at bs t = (t.0, t.1, code_read leaf f t.0 bs t.2)
    form_read (octets sizing) f env (octet_string os) at bs t = t
    form_read (bits sizing) f env (bit_string cs) at bs t = t
    form_read (text leaf) f env (characters cs) at bs t = t
    form_read (seq fields home) f env (record_of ps) at bs t =
        let u = t.spelled in
        record {
          numbers = t.numbers;
          fine = record { count = (t.fine).count; permitted = (t.fine).permitted; least = λ e. cc };
          spelled = record { front = u.front; back = u.back; whole = u.whole; first = u.first; second = fields_read fields f _ ps (at + length u.front) u.back u.second };
        }
    form_read (list sizing g) f env (list_of es) at bs t = list_read (ending sizing.rule) sizing env (Spell root Written g env) (Spell root Any g env) (node_read g f.1 env) es at bs t
    form_read (choice cases rule) f env (alt i d) at bs t =
        record { front = t.front; back = t.back; whole = t.whole; first = t.first; second = case_read cases f rule env i d (at + length t.front) t.back t.second }
    form_read (contained sizing g) f env d at bs t =
        let u = t.spelled in
        record {
          some = t.some;
          spelled = record {
            front = u.front;
            back = u.back;
            whole = u.whole;
            first = u.first;
            second = window_read (Spell root Written g env d) (Spell root Any g env d) t.some (at + length u.front) u.back (λ cs h. node_read g f.1 env d 0 cs h) u.second;
          };
        }
    form_read _ f env d at bs t = absurd t.0

    fields_read : (fs : Fields) → FieldsFine fs → (env : Env) (ps : Places) (at : ℕ) (bs : List Bool) → FieldsPart root Written fs env ps at bs → FieldsPart root Any fs env ps at bs
    fields_read no_fields f env no_places at bs t = t
    fields_read (component name g presence default own fs) f env (filled d ps) at bs t =
        let u = t.first in
        record {
          front = t.front;
          back = t.back;
          whole = t.whole;
          first = record { given = u.given; spelled = node_read g f.0 env d at t.front u.spelled };
          second = fields_read fs f.1 env ps (at + length t.front) t.back t.second;
        }
    fields_read (component name g presence default own fs) f env (empty ps) at bs t = record { given = t.given; spelled = fields_read fs f.1 env ps at bs t.spelled }
    fields_read (inserted name g (Some s) fs) f env ps at bs t =
        record { front = t.front; back = t.back; whole = t.whole; first = slot_read g f.0 env s at t.front t.first; second = fields_read fs f.1 env ps (at + length t.front) t.back t.second }
    fields_read (inserted name g None fs) f env ps at bs t =
        record { front = t.front; back = t.back; whole = t.whole; first = node_read g f.0 env null at t.front t.first; second = fields_read fs f.1 env ps (at + length t.front) t.back t.second }
    fields_read _ f env ps at bs t = absurd t.0

    case_read : (cases : Alternatives) → AlternativesFine cases → (rule : ChoiceRule) (env : Env) (i : ℕ) (d : Data) (at : ℕ) (bs : List Bool) → AlternativePart root Written cases rule env i d at bs → AlternativePart root Any cases rule env i d at bs
    case_read (alternative name g tests more) f rule env zero d at bs t = record { given = t.given; spelled = node_read g f.0 env d at bs t.spelled }
    case_read (alternative name g tests more) f rule env (suc i) d at bs t = case_read more f.1 rule env i d at bs t
    case_read no_alternatives f rule env i d at bs t = absurd t.0

pub written_is_read : WrittenIsRead
written_is_read root d bs tree t = node_read root root (tree_fine root tree) [] d 0 bs t
