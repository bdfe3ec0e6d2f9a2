-- The pieces of a value follow each other without a gap.
use Rattle.std.proofs.Common.{◌≡◌, ℕ, zero, suc, ◌+◌, ◌-◌, ◌*◌, ◌<◌, ◌≤◌, Bool, true, false, List, [], ◌∷◌, ◌++◌, length, Option, Some, None, refl, sym, arith, subst, nat_eq}
use Rattle.std.proofs.lemmas.Bool.{eqb-true}
use Rattle.std.proofs.lemmas.Bool.Decides.{nat_tests}
use Rattle.std.proofs.Math.Nat.{div-add-mod, mod-lt}
use Rattle.acn_num.specs.Bits.{octets as octets_for}
use Rattle.acn_grammar.specs.Grammar.{Grammar, Form, Fields, Alternatives, Data, Places, Elements, node, num, octets, bits, text, seq, list, choice, contained, component, inserted, no_alternatives, alternative, octet_string, bit_string, characters, record_of, list_of, alt, empty, filled, no_elements, element}
use Rattle.acn_grammar.specs.Length.{padding, bit_length, form_length, fields_length, alternative_length, inserted_length, num_length, number_of, least, rule_width, ending, index_width, presence_bits, run_length, list_length, text_length}
use Rattle.acn_grammar.specs.declared.node.SizeRule.{SizeRule}
use Rattle.acn_grammar.specs.declared.node.TextLeaf.{TextLeaf}
use Rattle.acn_pieces.specs.Laws.{PiecesAreJoined}
use Rattle.acn_pieces.specs.declared.piece.Piece.{Piece}
use Rattle.acn_pieces.specs.declared.piece.PieceKind.{PieceKind}
use Rattle.acn_pieces.specs.Pieces.{part, inserted_pieces, string_pieces, text_pieces, run_pieces, list_pieces, pieces, form_pieces, field_pieces, case_pieces, Joined}

join : (xs ys : List Piece) (a b c : ℕ) → Joined a b xs → Joined b c ys → Joined a c (xs ++ ys)
join [] ys a b c h k = subst (λ z. Joined z c ys) (sym h) k
join (p ∷ xs) ys a b c h k = (h.0, h.1, join xs ys (a + p.count) b c h.2 k)

moved : (xs : List Piece) (a b c d : ℕ) → a ≡ c → b ≡ d → Joined a b xs → Joined c d xs
moved xs a b c d e f h = subst (λ z. Joined c z xs) f (subst (λ z. Joined z b xs) e h)

part_joined : (path : List ℕ) (kind : PieceKind) (at count to : ℕ) → at + count ≡ to → Joined at to (part path kind at count)
part_joined path kind at count to e = by (nat_eq count 0) refl
  where
    by : (t : Bool) → nat_eq count 0 ≡ t → Joined at to (part path kind at count)
    by true h = (let z = eqb-true count 0 h in rw h (omega arith))
    by false h = (let z : 0 < count = grind (arith, nat_tests, h) in rw h (refl, z, e))

string_joined : (path : List ℕ) (rule : SizeRule) (at count to : ℕ) → at + (rule_width rule + count) ≡ to → Joined at to (string_pieces path rule at count)
string_joined path rule at count to e = join (part path _ at (rule_width rule)) (part path _ (at + rule_width rule) count) at (at + rule_width rule) to (part_joined path _ at (rule_width rule) (at + rule_width rule) refl) (part_joined path _ (at + rule_width rule) count to (omega arith))

text_joined : (path : List ℕ) (o : Option (List Bool)) (leaf : TextLeaf) (at n to : ℕ) → at + text_length o leaf n ≡ to → Joined at to (text_pieces path o leaf at n)
text_joined path None leaf at n to e = string_joined path leaf.sized.rule at (leaf.width * n) to e
text_joined path (Some end) leaf at n to e = part_joined path _ at (leaf.width * n + length end) to e

pub inserted_joined : (path : List ℕ) (g : Grammar) (origin at to : ℕ) → origin + (at + inserted_length g at) ≡ to → Joined (origin + at) to (inserted_pieces path g origin at)
inserted_joined path (node align (num leaf)) origin at to e =
    join (part path _ (origin + at) (padding align at)) (part path _ (origin + (at + padding align at)) (num_length leaf (least leaf.set))) (origin + at) (origin + (at + padding align at)) to
    (part_joined path _ (origin + at) (padding align at) (origin + (at + padding align at)) (omega arith)) (part_joined path _ (origin + (at + padding align at)) (num_length leaf (least leaf.set)) to (omega arith))
inserted_joined path (node align _) origin at to e = omega arith

run_joined : (each : (path : List ℕ) → (at : ℕ) → Data → List Piece) (size : ℕ → Data → ℕ) (origin : ℕ) → ((path : List ℕ) (at : ℕ) (d : Data) → Joined (origin + at) (origin + (at + size at d)) (each path at d))
    → (path : List ℕ) (k at : ℕ) (es : Elements) → Joined (origin + at) (origin + (at + run_length size at es)) (run_pieces each size path k at es)
run_joined each size origin h path k at no_elements = omega arith
run_joined each size origin h path k at (element d es) =
    join (each (path ++ k ∷ []) at d) (run_pieces each size path (suc k) (at + size at d) es) (origin + at) (origin + (at + size at d)) (origin + (at + (size at d + run_length size (at + size at d) es)))
    (h (path ++ k ∷ []) at d) (moved (run_pieces each size path (suc k) (at + size at d) es) _ _ _ _ refl (omega arith) (run_joined each size origin h path (suc k) (at + size at d) es))

list_joined : (o : Option (List Bool)) (rule : SizeRule) (each : (path : List ℕ) → (at : ℕ) → Data → List Piece) (size : ℕ → Data → ℕ) (origin : ℕ) → ((path : List ℕ) (at : ℕ) (d : Data) → Joined (origin + at) (origin + (at + size at d)) (each path at d))
    → (path : List ℕ) (at : ℕ) (es : Elements) → Joined (origin + at) (origin + (at + list_length o rule size at es)) (list_pieces o rule each size path origin at es)
list_joined None rule each size origin h path at es =
    join (part path _ (origin + at) (rule_width rule)) (run_pieces each size path 0 (at + rule_width rule) es) (origin + at) (origin + (at + rule_width rule)) (origin + (at + (rule_width rule + run_length size (at + rule_width rule) es)))
    (part_joined path _ (origin + at) (rule_width rule) (origin + (at + rule_width rule)) (omega arith)) (moved (run_pieces each size path 0 (at + rule_width rule) es) _ _ _ _ refl (omega arith) (run_joined each size origin h path 0 (at + rule_width rule) es))
list_joined (Some p) rule each size origin h path at es =
    join (run_pieces each size path 0 at es) (part path _ (origin + (at + run_length size at es)) (length p)) (origin + at) (origin + (at + run_length size at es)) (origin + (at + (run_length size at es + length p)))
    (run_joined each size origin h path 0 at es) (part_joined path _ (origin + (at + run_length size at es)) (length p) _ (omega arith))

-- whole octets hold what they are counted for
holds_bits : (n : ℕ) → n ≤ 8 * octets_for n
holds_bits n =
    let e = div-add-mod (n + 7) 8 in
    let m = mod-lt (n + 7) {m = 8} (omega arith) in
    omega arith

mutual
  pub node_joined : (path : List ℕ) (g : Grammar) (origin at : ℕ) (d : Data) → Joined (origin + at) (origin + (at + bit_length g at d)) (pieces path g origin at d)
  node_joined path (node align form) origin at d =
      join (part path _ (origin + at) (padding align at)) (form_pieces path form origin (at + padding align at) d) (origin + at) (origin + (at + padding align at)) (origin + (at + (padding align at + form_length form (at + padding align at) d)))
      (part_joined path _ (origin + at) (padding align at) (origin + (at + padding align at)) (omega arith)) (moved (form_pieces path form origin (at + padding align at) d) _ _ _ _ refl (omega arith) (form_joined path form origin (at + padding align at) d))

  form_joined : (path : List ℕ) (form : Form) (origin at : ℕ) (d : Data) → Joined (origin + at) (origin + (at + form_length form at d)) (form_pieces path form origin at d)
  form_joined path (num leaf) origin at d = part_joined path _ (origin + at) (num_length leaf (number_of d)) _ (omega arith)
  form_joined path (octets sizing) origin at (octet_string os) = string_joined path sizing.rule (origin + at) (8 * length os) _ (omega arith)
  form_joined path (bits sizing) origin at (bit_string bs) = string_joined path sizing.rule (origin + at) (length bs) _ (omega arith)
  form_joined path (text leaf) origin at (characters cs) = text_joined path leaf.ended leaf (origin + at) (length cs) _ (omega arith)
  form_joined path (seq fields home) origin at (record_of ps) =
      let n = length (presence_bits fields ps) in
      join (part path _ (origin + at) n) (field_pieces path 0 fields origin (at + n) ps) (origin + at) (origin + (at + n)) (origin + (at + (n + fields_length fields (at + n) ps)))
      (part_joined path _ (origin + at) n (origin + (at + n)) (omega arith)) (moved (field_pieces path 0 fields origin (at + n) ps) _ _ _ _ refl (omega arith) (fields_joined path 0 fields origin (at + n) ps))
  form_joined path (list sizing g) origin at (list_of es) = list_joined (ending sizing.rule) sizing.rule (λ path at d. pieces path g origin at d) (bit_length g) origin (λ path at d. node_joined path g origin at d) path at es
  form_joined path (choice cases rule) origin at (alt i d) =
      join (part path _ (origin + at) (index_width rule)) (case_pieces path i cases i origin (at + index_width rule) d) (origin + at) (origin + (at + index_width rule)) (origin + (at + (index_width rule + alternative_length cases i (at + index_width rule) d)))
      (part_joined path _ (origin + at) (index_width rule) (origin + (at + index_width rule)) (omega arith)) (moved (case_pieces path i cases i origin (at + index_width rule) d) _ _ _ _ refl (omega arith) (case_joined path i cases i origin (at + index_width rule) d))
  form_joined path (contained sizing g) origin at d =
      let w = origin + (at + rule_width sizing.rule) in
      let n = bit_length g 0 d in
      let fits = holds_bits n in
      join (part path _ (origin + at) (rule_width sizing.rule)) (pieces (path ++ 0 ∷ []) g w 0 d ++ part path _ (w + n) (8 * octets_for n - n)) (origin + at) w (origin + (at + (rule_width sizing.rule + 8 * octets_for n)))
      (part_joined path _ (origin + at) (rule_width sizing.rule) w (omega arith))
      (join (pieces (path ++ 0 ∷ []) g w 0 d) (part path _ (w + n) (8 * octets_for n - n)) w (w + n) (origin + (at + (rule_width sizing.rule + 8 * octets_for n)))
      (moved (pieces (path ++ 0 ∷ []) g w 0 d) _ _ _ _ (omega arith) (omega arith) (node_joined (path ++ 0 ∷ []) g w 0 d)) (part_joined path _ (w + n) (8 * octets_for n - n) _ (omega arith)))
  form_joined path _ origin at d = omega arith

  fields_joined : (path : List ℕ) (k : ℕ) (fs : Fields) (origin at : ℕ) (ps : Places) → Joined (origin + at) (origin + (at + fields_length fs at ps)) (field_pieces path k fs origin at ps)
  fields_joined path k (component name g presence default own fs) origin at (filled d ps) =
      join (pieces (path ++ k ∷ []) g origin at d) (field_pieces path (suc k) fs origin (at + bit_length g at d) ps) (origin + at) (origin + (at + bit_length g at d)) (origin + (at + (bit_length g at d + fields_length fs (at + bit_length g at d) ps)))
      (node_joined (path ++ k ∷ []) g origin at d) (moved (field_pieces path (suc k) fs origin (at + bit_length g at d) ps) _ _ _ _ refl (omega arith) (fields_joined path (suc k) fs origin (at + bit_length g at d) ps))
  fields_joined path k (component name g presence default own fs) origin at (empty ps) = fields_joined path (suc k) fs origin at ps
  fields_joined path k (inserted name g slot fs) origin at ps =
      join (inserted_pieces (path ++ k ∷ []) g origin at) (field_pieces path (suc k) fs origin (at + inserted_length g at) ps) (origin + at) (origin + (at + inserted_length g at)) (origin + (at + (inserted_length g at + fields_length fs (at + inserted_length g at) ps)))
      (inserted_joined (path ++ k ∷ []) g origin at _ refl) (moved (field_pieces path (suc k) fs origin (at + inserted_length g at) ps) _ _ _ _ refl (omega arith) (fields_joined path (suc k) fs origin (at + inserted_length g at) ps))
  fields_joined path k _ origin at ps = omega arith

  case_joined : (path : List ℕ) (i : ℕ) (cases : Alternatives) (j : ℕ) (origin at : ℕ) (d : Data) → Joined (origin + at) (origin + (at + alternative_length cases j at d)) (case_pieces path i cases j origin at d)
  case_joined path i (alternative name g tests more) zero origin at d = node_joined (path ++ i ∷ []) g origin at d
  case_joined path i (alternative name g tests more) (suc j) origin at d = case_joined path i more j origin at d
  case_joined path i no_alternatives j origin at d = omega arith

pub pieces_are_joined : PiecesAreJoined
pieces_are_joined root d = moved (pieces [] root 0 0 d) _ _ _ _ (omega arith) (omega arith) (node_joined [] root 0 0 d)
