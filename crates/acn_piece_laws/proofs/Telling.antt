-- The bits of a spelling are cut as the pieces of its value say.
use Rattle.std.proofs.Common.{◌≡◌, ℕ, zero, suc, ◌+◌, ◌-◌, ◌*◌, pos, Bool, false, List, [], ◌∷◌, ◌++◌, length, Option, Some, None, refl, sym, ap, ◌∙◌, arith, subst, append-nil}
use Rattle.acn_num.specs.Bits.{octets as octets_for, bits as bits_of}
use Rattle.acn_grammar.specs.Asks.{Ask}
use Rattle.acn_grammar.specs.AsksOn.{LeastAnswer, form_asks_on}
use Rattle.acn_grammar.specs.Code.{Mode, Code}
use Rattle.acn_grammar.specs.Env.{Env}
use Rattle.acn_grammar.specs.Grammar.{Grammar, Form, Fields, Alternatives, Data, Places, Elements, node, num, octets, bits, text, seq, list, choice, contained, no_fields, component, inserted, no_alternatives, alternative, null, octet_string, bit_string, characters, record_of, list_of, alt, no_places, empty, filled, no_elements, element, element_count}
use Rattle.acn_grammar.specs.Length.{padding, bit_length, inserted_length, num_length, number_of, least, rule_width, ending, index_width, presence_bits}
use Rattle.acn_grammar.specs.Scoped.{Known}
use Rattle.acn_grammar.specs.Sound.{OneWidth, IsNull, SaysSlot, Sound, FormSound, FieldsSound, AlternativesSound}
use Rattle.acn_grammar.specs.Spell.{Part, Spell, FormPart, FieldsPart, SlotField, CharactersPart, RulePart, RunPart, ListPart, EndedPart, IndexPart, AlternativePart, with_home}
use Rattle.acn_grammar.specs.declared.node.ChoiceRule.{ChoiceRule}
use Rattle.acn_grammar.specs.declared.node.ChoiceRule.TheVariants.{Index, Tests, Item}
use Rattle.acn_grammar.specs.declared.node.SizeRule.{SizeRule}
use Rattle.acn_grammar.specs.declared.node.SizeRule.TheVariants.{Prefix, Slot, Ended}
use Rattle.acn_grammar.specs.declared.node.Sizing.{Sizing}
use Rattle.acn_grammar.specs.declared.node.TextLeaf.{TextLeaf}
use Rattle.acn_grammar.proofs.Characters.{characters_long}
use Rattle.acn_grammar.proofs.LeafLengths.{code-length}
use Rattle.acn_grammar.proofs.SpellLength.{NumberOf-number_of, Padding-length, bits-length, rule-length, then-length}
use Rattle.acn_packet_laws.specs.Laws.{AcceptedIsSound, EachNumberHasACode}
use Rattle.acn_pieces.specs.declared.piece.Piece.{Piece}
use Rattle.acn_pieces.specs.declared.piece.PieceKind.TheVariants.{Pad, Presence, Size, Index as IndexKind, Leaf, Mark, Fill}
use Rattle.acn_pieces.specs.Pieces.{part, inserted_pieces, text_pieces, run_pieces, list_pieces, pieces, pieces_of, form_pieces, field_pieces, case_pieces}
use Rattle.acn_pieces.proofs.Joining.{inserted_joined, node_joined, pieces_are_joined}
use Rattle.acn_piece_laws.specs.Laws.{PiecesTellTheirParts}
use Rattle.acn_piece_laws.specs.Meanings.{Meaning, space, these, a_number, a_code, a_determinant, a_text, meant, size_meant, index_meant, inserted_meant, says_slot, text_meant, run_meant, list_meant, wants_here, meanings, meanings_of, form_meanings, field_meanings, case_meanings}
use Rattle.acn_piece_laws.proofs.Cuts.{Cut, both, one, long, told}
use Rattle.acn_piece_laws.proofs.Slots.{AreLeast, domain_is, home_least, null_width, one_width}

-- where characters stand plays no part
moved : (leaf : TextLeaf) (cs : List ℕ) (at to : ℕ) (bs : List Bool) → CharactersPart leaf cs at bs → CharactersPart leaf cs to bs
moved leaf [] at to bs t = t
moved leaf (c ∷ cs) at to bs t = record {
  front = t.front;
  back = t.back;
  whole = t.whole;
  first = record { given = t.first.given; spelled = t.first.spelled };
  second = moved leaf cs (at + length t.front) (to + length t.front) t.back t.second;
}

module _ (root : Grammar) (mode : Mode) (coded : EachNumberHasACode) where
  -- what is spelled at a place is spelled at its like
  placed : (P : Part) (at m n : ℕ) (bs : List Bool) → m ≡ n → P (at + m) bs → P (at + n) bs
  placed P at m n bs e t = subst (λ k. P (at + k) bs) e t

  -- Sizes, strings and texts.

  size_cut : (path : List ℕ) (rule : SizeRule) (env : Env) (n at here : ℕ) (bs : List Bool) → RulePart rule env n at bs → Cut mode bs (part path Size here (rule_width rule)) (size_meant rule n)
  size_cut path (Prefix low width) env n at here bs t = one mode path Size here width (a_number width (n - low)) bs t.spelled.width t.spelled
  size_cut path (Slot s) env n at here bs t = t.1
  size_cut path (Ended p) env n at here bs t = absurd t.0

  rule_long : (rule : SizeRule) (env : Env) (n at : ℕ) (bs : List Bool) → RulePart rule env n at bs → length bs ≡ rule_width rule
  rule_long rule env n at bs t = rule-length root mode (code-length mode) rule env n at bs t

  text_cut : (path : List ℕ) (o : Option (List Bool)) (leaf : TextLeaf) (env : Env) (cs : List ℕ) (at here : ℕ) (bs : List Bool) → EndedPart o leaf env cs at bs → Cut mode bs (text_pieces path o leaf here (length cs)) (text_meant o leaf cs)
  text_cut path None leaf env cs at here bs t =
      let n = leaf.width * length cs in
      both mode t (part path Size here (rule_width leaf.sized.rule)) (part path Leaf (here + rule_width leaf.sized.rule) n) (size_meant leaf.sized.rule (length cs)) (meant n (a_text leaf cs []))
      (size_cut path leaf.sized.rule env (length cs) at here t.front t.first.spelled)
      (one mode path Leaf (here + rule_width leaf.sized.rule) n (a_text leaf cs []) t.back (characters_long leaf cs (at + length t.front) t.back t.second)
      (record { front = t.back; back = []; whole = sym (append-nil t.back); first = moved leaf cs (at + length t.front) 0 t.back t.second; second = refl }))
  text_cut path (Some end) leaf env cs at here bs t =
      let u = t.spelled in
      let n = characters_long leaf cs at u.front u.first in
      one mode path Leaf here (leaf.width * length cs + length end) (a_text leaf cs end) bs (omega (arith, then-length u, n, ap length u.second))
      (record { front = u.front; back = u.back; whole = u.whole; first = moved leaf cs at 0 u.front u.first; second = u.second })

  -- Elements that follow each other, each with its bits and their number.

  run_cut : (each : (path : List ℕ) → (at : ℕ) → Data → List Piece) (means : (at : ℕ) → Data → List Meaning) (size : ℕ → Data → ℕ) (P : Data → Part) → ((path : List ℕ) (at : ℕ) (d : Data) (bs : List Bool) → P d at bs → Cut mode bs (each path at d) (means at d) × (length bs ≡ size at d))
      → (path : List ℕ) (k at : ℕ) (es : Elements) (bs : List Bool) → RunPart P es at bs → Cut mode bs (run_pieces each size path k at es) (run_meant means size at es)
  run_cut each means size P h path k at no_elements bs t = t
  run_cut each means size P h path k at (element d es) bs t =
      let first = h (path ++ k ∷ []) at d t.front t.first in
      both mode t (each (path ++ k ∷ []) at d) (run_pieces each size path (suc k) (at + size at d) es) (means at d) (run_meant means size (at + size at d) es) first.0
      (run_cut each means size P h path (suc k) (at + size at d) es t.back (placed (RunPart P es) at (length t.front) (size at d) t.back first.1 t.second))

  list_cut : (o : Option (List Bool)) (sizing : Sizing) (env : Env) (each : (path : List ℕ) → (at : ℕ) → Data → List Piece) (means : (at : ℕ) → Data → List Meaning) (size : ℕ → Data → ℕ) (P : Data → Part) → ((path : List ℕ) (at : ℕ) (d : Data) (bs : List Bool) → P d at bs → Cut mode bs (each path at d) (means at d) × (length bs ≡ size at d))
      → (path : List ℕ) (origin at : ℕ) (es : Elements) (bs : List Bool) → ListPart o sizing env P es at bs → Cut mode bs (list_pieces o sizing.rule each size path origin at es) (list_meant o sizing.rule means size at es)
  list_cut None sizing env each means size P h path origin at es bs t =
      let n = rule_long sizing.rule env (element_count es) at t.front t.first.spelled in
      both mode t (part path Size (origin + at) (rule_width sizing.rule)) (run_pieces each size path 0 (at + rule_width sizing.rule) es) (size_meant sizing.rule (element_count es)) (run_meant means size (at + rule_width sizing.rule) es)
      (size_cut path sizing.rule env (element_count es) at (origin + at) t.front t.first.spelled)
      (run_cut each means size P h path 0 (at + rule_width sizing.rule) es t.back (placed (RunPart P es) at (length t.front) (rule_width sizing.rule) t.back n t.second))
  list_cut (Some p) sizing env each means size P h path origin at es bs t =
      let u = t.spelled in
      both mode u (run_pieces each size path 0 at es) (part path Mark _ (length p)) (run_meant means size at es) (meant (length p) (these p)) (run_cut each means size P h path 0 at es u.front u.first) (one mode path Mark _ (length p) (these p) u.back (ap length u.second) u.second)

  -- Inserted fields.

  slot_cut : (path : List ℕ) (g : Grammar) (k s : ℕ) (around : List ℕ) (ks : Known) → SaysSlot root around ks s g → OneWidth g → Sound root k around ks g → (wants : ℕ → List Ask) (env : Env) → AreLeast root mode wants env
      → (origin at : ℕ) (bs : List Bool) → SlotField root mode g env s at bs → Cut mode bs (inserted_pieces path g origin at) (inserted_meant (says_slot wants (Some s)) g at)
  slot_cut path (node align (num leaf)) k s around ks says width sound wants env small origin at bs t =
      let u = t.2 in
      let n = num_length leaf (least leaf.set) in
      both mode u (part path Pad (origin + at) (padding align at)) (part path Leaf (origin + (at + padding align at)) n) (meant (padding align at) space) (meant n (a_determinant leaf (wants s)))
      (one mode path Pad (origin + at) (padding align at) space u.front (Padding-length mode align at u.front u.first) u.first.zeros)
      (one mode path Leaf (origin + (at + padding align at)) n (a_determinant leaf (wants s)) u.back (code-length mode leaf sound.2 t.0 u.back u.second ∙ one_width coded leaf sound.2 width.width width.all_codes t.0 u.second.permitted)
      (t.0, u.second, λ w. subst (λ set. LeastAnswer set (wants s) t.0) (domain_is root mode s leaf says.2) (small w s t.0 t.1)))
  slot_cut path (node align _) k s around ks says width sound wants env small origin at bs t = absurd says

  null_cut : (path : List ℕ) (g : Grammar) (k : ℕ) (around : List ℕ) (ks : Known) → IsNull g → Sound root k around ks g → (wants : ℕ → List Ask) (env : Env) (origin at : ℕ) (bs : List Bool) → Spell root mode g env null at bs → Cut mode bs (inserted_pieces path g origin at) (inserted_meant (says_slot wants None) g at)
  null_cut path (node align (num leaf)) k around ks is sound wants env origin at u t =
      let n = num_length leaf (least leaf.set) in
      let c = t.second in
      both mode t (part path Pad (origin + at) (padding align at)) (part path Leaf (origin + (at + padding align at)) n) (meant (padding align at) space) (meant n (a_code leaf (pos 0)))
      (one mode path Pad (origin + at) (padding align at) space t.front (Padding-length mode align at t.front t.first) t.first.zeros)
      (one mode path Leaf (origin + (at + padding align at)) n (a_code leaf (pos 0)) t.back (code-length mode leaf sound.2 c.0 t.back c.2 ∙ null_width leaf sound.2 is c.0 c.2.permitted) (subst (λ x. Code mode leaf x t.back) (NumberOf-number_of leaf.kind null c.0 c.1) c.2))
  null_cut path (node align _) k around ks is sound wants env origin at bs t = absurd is

  -- Choices.

  index_cut : (path : List ℕ) (rule : ChoiceRule) (i at here : ℕ) (bs : List Bool) → IndexPart root rule i at bs → Cut mode bs (part path IndexKind here (index_width rule)) (index_meant rule i)
  index_cut path (Index width) i at here bs t = one mode path IndexKind here width (a_number width i) bs t.width t
  index_cut path Tests i at here bs t = t
  index_cut path (Item s) i at here bs t = t

  index_long : (rule : ChoiceRule) (i at : ℕ) (bs : List Bool) → IndexPart root rule i at bs → length bs ≡ index_width rule
  index_long (Index width) i at bs t = t.width
  index_long Tests i at bs t = ap length t
  index_long (Item s) i at bs t = ap length t

  -- the number of bits of a node that is cut
  node_long : (path : List ℕ) (g : Grammar) (wants : ℕ → List Ask) (origin at : ℕ) (d : Data) (bs : List Bool) → Cut mode bs (pieces path g origin at d) (meanings root wants g at d) → length bs ≡ bit_length g at d
  node_long path g wants origin at d bs h = (let n = long mode bs (pieces path g origin at d) (meanings root wants g at d) (origin + at) (origin + (at + bit_length g at d)) h (node_joined path g origin at d) in omega (arith, n))

  inserted_long : (path : List ℕ) (g : Grammar) (ms : List Meaning) (origin at : ℕ) (bs : List Bool) → Cut mode bs (inserted_pieces path g origin at) ms → length bs ≡ inserted_length g at
  inserted_long path g ms origin at bs h = (let n = long mode bs (inserted_pieces path g origin at) ms (origin + at) (origin + (at + inserted_length g at)) h (inserted_joined path g origin at _ refl) in omega (arith, n))

  mutual
    node_cut : (g : Grammar) (k : ℕ) (around : List ℕ) (ks : Known) → Sound root k around ks g → (wants : ℕ → List Ask) (env : Env) → AreLeast root mode wants env → (path : List ℕ) (origin at : ℕ) (d : Data) (bs : List Bool) → Spell root mode g env d at bs → Cut mode bs (pieces path g origin at d) (meanings root wants g at d)
    node_cut (node align form) k around ks s wants env small path origin at d bs t =
        let n = Padding-length mode align at t.front t.first in
        both mode t (part path Pad (origin + at) (padding align at)) (form_pieces path form origin (at + padding align at) d) (meant (padding align at) space) (form_meanings root wants form (at + padding align at) d)
        (one mode path Pad (origin + at) (padding align at) space t.front n t.first.zeros)
        (form_cut form k around ks s.2 wants env small path origin (at + padding align at) d t.back (placed (FormPart root mode form env d) at (length t.front) (padding align at) t.back n t.second))

    form_cut : (form : Form) (k : ℕ) (around : List ℕ) (ks : Known) → FormSound root k around ks form → (wants : ℕ → List Ask) (env : Env) → AreLeast root mode wants env → (path : List ℕ) (origin at : ℕ) (d : Data) (bs : List Bool) → FormPart root mode form env d at bs → Cut mode bs (form_pieces path form origin at d) (form_meanings root wants form at d)
    form_cut (num leaf) k around ks s wants env small path origin at d bs t =
        let e = NumberOf-number_of leaf.kind d t.0 t.1 in
        one mode path Leaf (origin + at) (num_length leaf (number_of d)) (a_code leaf (number_of d)) bs (code-length mode leaf s t.0 bs t.2 ∙ ap (num_length leaf) e) (subst (λ x. Code mode leaf x bs) e t.2)
    form_cut (octets sizing) k around ks s wants env small path origin at (octet_string os) bs t =
        let w = rule_width sizing.rule in
        both mode t (part path Size (origin + at) w) (part path Leaf (origin + at + w) (8 * length os)) (size_meant sizing.rule (length os)) (meant (8 * length os) (these (bits_of os)))
        (size_cut path sizing.rule env (length os) at (origin + at) t.front t.first.spelled)
        (one mode path Leaf (origin + at + w) (8 * length os) (these (bits_of os)) t.back (ap length t.second.spelled ∙ bits-length os) t.second.spelled)
    form_cut (bits sizing) k around ks s wants env small path origin at (bit_string cs) bs t =
        let w = rule_width sizing.rule in
        both mode t (part path Size (origin + at) w) (part path Leaf (origin + at + w) (length cs)) (size_meant sizing.rule (length cs)) (meant (length cs) (these cs))
        (size_cut path sizing.rule env (length cs) at (origin + at) t.front t.first.spelled)
        (one mode path Leaf (origin + at + w) (length cs) (these cs) t.back (ap length t.second) t.second)
    form_cut (text leaf) k around ks s wants env small path origin at (characters cs) bs t = text_cut path leaf.ended leaf env cs at (origin + at) bs t
    form_cut (seq fields home) k around ks s wants env small path origin at (record_of ps) bs t =
        let u = t.spelled in
        let front = presence_bits fields ps in
        let here = λ (r : ℕ). form_asks_on root r (seq fields home) (record_of ps) in
        both mode u (part path Presence (origin + at) (length front)) (field_pieces path 0 fields origin (at + length front) ps) (meant (length front) (these front)) (field_meanings root (wants_here home here wants) fields (at + length front) ps)
        (one mode path Presence (origin + at) (length front) (these front) u.front (ap length u.first) u.first)
        (fields_cut fields (suc k) (home ++ around) ks s.1 (wants_here home here wants) (with_home home t.numbers env) (home_least root mode home t.numbers env here wants (t.fine).count (t.fine).least small) path 0 origin (at + length front) ps u.back
        (placed (FieldsPart root mode fields (with_home home t.numbers env) ps) at (length u.front) (length front) u.back (ap length u.first) u.second))
    form_cut (list sizing g) k around ks s wants env small path origin at (list_of es) bs t =
        list_cut (ending sizing.rule) sizing env (λ path at d. pieces path g origin at d) (λ at d. meanings root wants g at d) (bit_length g) (Spell root mode g env)
        (λ p n d cs h. (let c = node_cut g (suc k) around ks s.4 wants env small p origin n d cs h in (c, node_long p g wants origin n d cs c))) path origin at es bs t
    form_cut (choice cases rule) k around ks s wants env small path origin at (alt i d) bs t =
        let n = index_long rule i at t.front t.first in
        both mode t (part path IndexKind (origin + at) (index_width rule)) (case_pieces path i cases i origin (at + index_width rule) d) (index_meant rule i) (case_meanings root wants cases i (at + index_width rule) d)
        (index_cut path rule i at (origin + at) t.front t.first)
        (case_cut cases (suc k) around ks s.3 rule wants env small path i i origin (at + index_width rule) d t.back (placed (AlternativePart root mode cases rule env i d) at (length t.front) (index_width rule) t.back n t.second))
    form_cut (contained sizing g) k around ks s wants env small path origin at d bs t =
        let u = t.spelled in
        let w = u.second in
        let window = origin + (at + rule_width sizing.rule) in
        let inner = bit_length g 0 d in
        let inside = node_cut g (suc k) around ks s.3 wants env small (path ++ 0 ∷ []) window 0 d w.inside.front w.inside.first in
        let n = node_long (path ++ 0 ∷ []) g wants window 0 d w.inside.front inside in
        let size : t.some ≡ octets_for inner = omega (arith, w.size, then-length w.inside, n, w.inside.second.aligned, w.inside.second.few) in
        let fill : length w.inside.back ≡ 8 * octets_for inner - inner = omega (arith, w.size, then-length w.inside, n, size) in
        both mode u (part path Size (origin + at) (rule_width sizing.rule)) (pieces (path ++ 0 ∷ []) g window 0 d ++ part path Fill (window + inner) (8 * octets_for inner - inner)) (size_meant sizing.rule (octets_for inner)) (meanings root wants g 0 d ++ meant (8 * octets_for inner - inner) space)
        (subst (λ m. Cut mode u.front (part path Size (origin + at) (rule_width sizing.rule)) (size_meant sizing.rule m)) size (size_cut path sizing.rule env t.some at (origin + at) u.front u.first.spelled))
        (both mode w.inside (pieces (path ++ 0 ∷ []) g window 0 d) (part path Fill (window + inner) (8 * octets_for inner - inner)) (meanings root wants g 0 d) (meant (8 * octets_for inner - inner) space) inside
        (one mode path Fill (window + inner) (8 * octets_for inner - inner) space w.inside.back fill w.inside.second.zeros))
    form_cut _ k around ks s wants env small path origin at d bs t = absurd t.0

    fields_cut : (fs : Fields) (k : ℕ) (around : List ℕ) (ks : Known) → FieldsSound root k around ks fs → (wants : ℕ → List Ask) (env : Env) → AreLeast root mode wants env → (path : List ℕ) (i origin at : ℕ) (ps : Places) (bs : List Bool) → FieldsPart root mode fs env ps at bs → Cut mode bs (field_pieces path i fs origin at ps) (field_meanings root wants fs at ps)
    fields_cut no_fields k around ks s wants env small path i origin at no_places bs t = t
    fields_cut (component name g presence default own fs) k around ks s wants env small path i origin at (filled d ps) bs t =
        let here = node_cut g k around ks s.3 wants env small (path ++ i ∷ []) origin at d t.front t.first.spelled in
        let n = node_long (path ++ i ∷ []) g wants origin at d t.front here in
        both mode t (pieces (path ++ i ∷ []) g origin at d) (field_pieces path (suc i) fs origin (at + bit_length g at d) ps) (meanings root wants g at d) (field_meanings root wants fs (at + bit_length g at d) ps) here
        (fields_cut fs k around _ s.4 wants env small path (suc i) origin (at + bit_length g at d) ps t.back (placed (FieldsPart root mode fs env ps) at (length t.front) (bit_length g at d) t.back n t.second))
    fields_cut (component name g presence default own fs) k around ks s wants env small path i origin at (empty ps) bs t = fields_cut fs k around _ s.4 wants env small path (suc i) origin at ps bs t.spelled
    fields_cut (inserted name g (Some r) fs) k around ks s wants env small path i origin at ps bs t =
        let says = inserted_meant (says_slot wants (Some r)) g at in
        let here = slot_cut (path ++ i ∷ []) g k r around ks s.0 s.1 s.2 wants env small origin at t.front t.first in
        let n = inserted_long (path ++ i ∷ []) g says origin at t.front here in
        both mode t (inserted_pieces (path ++ i ∷ []) g origin at) (field_pieces path (suc i) fs origin (at + inserted_length g at) ps) says (field_meanings root wants fs (at + inserted_length g at) ps) here
        (fields_cut fs k around _ s.3 wants env small path (suc i) origin (at + inserted_length g at) ps t.back (placed (FieldsPart root mode fs env ps) at (length t.front) (inserted_length g at) t.back n t.second))
    fields_cut (inserted name g None fs) k around ks s wants env small path i origin at ps bs t =
        let says = inserted_meant (says_slot wants None) g at in
        let here = null_cut (path ++ i ∷ []) g k around ks s.0 s.1 wants env origin at t.front t.first in
        let n = inserted_long (path ++ i ∷ []) g says origin at t.front here in
        both mode t (inserted_pieces (path ++ i ∷ []) g origin at) (field_pieces path (suc i) fs origin (at + inserted_length g at) ps) says (field_meanings root wants fs (at + inserted_length g at) ps) here
        (fields_cut fs k around _ s.2 wants env small path (suc i) origin (at + inserted_length g at) ps t.back (placed (FieldsPart root mode fs env ps) at (length t.front) (inserted_length g at) t.back n t.second))
    fields_cut _ k around ks s wants env small path i origin at ps bs t = absurd t.0

    case_cut : (cases : Alternatives) (k : ℕ) (around : List ℕ) (ks : Known) → AlternativesSound root k around ks cases → (rule : ChoiceRule) (wants : ℕ → List Ask) (env : Env) → AreLeast root mode wants env → (path : List ℕ) (i j origin at : ℕ) (d : Data) (bs : List Bool) → AlternativePart root mode cases rule env j d at bs
        → Cut mode bs (case_pieces path i cases j origin at d) (case_meanings root wants cases j at d)
    case_cut (alternative name g tests more) k around ks s rule wants env small path i zero origin at d bs t = node_cut g k around ks s.1 wants env small (path ++ i ∷ []) origin at d bs t.spelled
    case_cut (alternative name g tests more) k around ks s rule wants env small path i (suc j) origin at d bs t = case_cut more k around ks s.2 rule wants env small path i j origin at d bs t
    case_cut no_alternatives k around ks s rule wants env small path i j origin at d bs t = absurd t.0

pub pieces_tell : AcceptedIsSound → EachNumberHasACode → PiecesTellTheirParts
pieces_tell sound coded root mode d packet behind a t =
    told mode packet (pieces_of root d) (meanings_of root d) 0 (bit_length root 0 d) (node_cut root mode coded root 0 [] (λ s. false) (sound root a) (λ s. []) [] (λ w s x e. cc) [] 0 0 d packet t) (pieces_are_joined root d) [] behind refl
