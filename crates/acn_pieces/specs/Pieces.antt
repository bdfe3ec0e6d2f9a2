-- The pieces of a packet: its parts, in the order of the grammar of spellings (`Spell`): where each begins, how many bits it has, and of which node it is.
-- They are told by the value, as its length is (`Length`). (This profile's own.)
use Rattle.std.specs.Prelude.{◌≡◌, ℕ, zero, suc, ◌+◌, ◌-◌, ◌*◌, ◌<◌, nat_eq, if◌then◌else◌, Bool, List, [], ◌∷◌, ◌++◌, length, take, drop, Option, Some, None}
use Rattle.acn_num.specs.Bits.{octets as octets_for}
use Rattle.acn_grammar.specs.Grammar.{Grammar, Form, Fields, Alternatives, Data, Places, Elements, node, num, octets, bits, text, seq, list, choice, contained, component, inserted, no_alternatives, alternative, octet_string, bit_string, characters, record_of, list_of, alt, empty, filled, no_elements, element}
use Rattle.acn_grammar.specs.Length.{padding, bit_length, inserted_length, num_length, number_of, least, rule_width, ending, index_width, presence_bits, run_length}
use Rattle.acn_grammar.specs.declared.node.SizeRule.{SizeRule}
use Rattle.acn_grammar.specs.declared.node.TextLeaf.{TextLeaf}
use Rattle.acn_pieces.specs.declared.piece.Piece.{Piece}
use Rattle.acn_pieces.specs.declared.piece.PieceKind.{PieceKind}
use Rattle.acn_pieces.specs.declared.piece.PieceKind.TheVariants.{Pad, Presence, Size, Index, Leaf, Mark, Fill}

-- a part of a node, none of no bits
abbrev pub part : List ℕ → PieceKind → (at count : ℕ) → List Piece
part path kind at count = if nat_eq count 0 then [] else record { path = path; at = at; count = count; kind = kind } ∷ []

-- an inserted field: padding, and the code of its number
abbrev pub inserted_pieces : List ℕ → Grammar → (origin at : ℕ) → List Piece
inserted_pieces path (node align (num leaf)) origin at = part path Pad (origin + at) (padding align at) ++ part path Leaf (origin + (at + padding align at)) (num_length leaf (least leaf.set))
inserted_pieces path _ origin at = []

-- a size in front of a string, and its octets, bits or characters
abbrev pub string_pieces : List ℕ → SizeRule → (at count : ℕ) → List Piece
string_pieces path rule at count = part path Size at (rule_width rule) ++ part path Leaf (at + rule_width rule) count

-- of n characters, with the terminator where there is one
abbrev pub text_pieces : List ℕ → Option (List Bool) → TextLeaf → (at n : ℕ) → List Piece
text_pieces path None leaf at n = string_pieces path leaf.sized.rule at (leaf.width * n)
text_pieces path (Some end) leaf at n = part path Leaf at (leaf.width * n + length end)

-- elements that follow each other: k is the number of the next one
abbrev pub run_pieces : (each : (path : List ℕ) → (at : ℕ) → Data → List Piece) → (size : ℕ → Data → ℕ) → List ℕ → (k at : ℕ) → Elements → List Piece
run_pieces each size path k at no_elements = []
run_pieces each size path k at (element d es) = each (path ++ k ∷ []) at d ++ run_pieces each size path (suc k) (at + size at d) es

-- a size in front of the elements, or the pattern behind them
abbrev pub list_pieces : Option (List Bool) → SizeRule → (each : (path : List ℕ) → (at : ℕ) → Data → List Piece) → (size : ℕ → Data → ℕ) → List ℕ → (origin at : ℕ) → Elements → List Piece
list_pieces None rule each size path origin at es = part path Size (origin + at) (rule_width rule) ++ run_pieces each size path 0 (at + rule_width rule) es
list_pieces (Some p) rule each size path origin at es = run_pieces each size path 0 at es ++ part path Mark (origin + (at + run_length size at es)) (length p)

-- Positions count from the origin: the packet's first bit, or that of the window round contents.
abbrev mutual
  pub pieces : List ℕ → Grammar → (origin at : ℕ) → Data → List Piece
  pieces path (node align form) origin at d = part path Pad (origin + at) (padding align at) ++ form_pieces path form origin (at + padding align at) d

  pub form_pieces : List ℕ → Form → (origin at : ℕ) → Data → List Piece
  form_pieces path (num leaf) origin at d = part path Leaf (origin + at) (num_length leaf (number_of d))
  form_pieces path (octets sizing) origin at (octet_string os) = string_pieces path sizing.rule (origin + at) (8 * length os)
  form_pieces path (bits sizing) origin at (bit_string bs) = string_pieces path sizing.rule (origin + at) (length bs)
  form_pieces path (text leaf) origin at (characters cs) = text_pieces path leaf.ended leaf (origin + at) (length cs)
  form_pieces path (seq fields home) origin at (record_of ps) =
      let front = length (presence_bits fields ps) in
      part path Presence (origin + at) front ++ field_pieces path 0 fields origin (at + front) ps
  form_pieces path (list sizing g) origin at (list_of es) = list_pieces (ending sizing.rule) sizing.rule (λ path at d. pieces path g origin at d) (bit_length g) path origin at es
  form_pieces path (choice cases rule) origin at (alt i d) = part path Index (origin + at) (index_width rule) ++ case_pieces path i cases i origin (at + index_width rule) d
  form_pieces path (contained sizing g) origin at d =
      let window = origin + (at + rule_width sizing.rule) in
      let inner = bit_length g 0 d in
      part path Size (origin + at) (rule_width sizing.rule) ++ (pieces (path ++ 0 ∷ []) g window 0 d ++ part path Fill (window + inner) (8 * octets_for inner - inner))
  form_pieces path _ origin at d = []

  -- k is the number of the next field
  pub field_pieces : List ℕ → (k : ℕ) → Fields → (origin at : ℕ) → Places → List Piece
  field_pieces path k (component name g presence default own fs) origin at (filled d ps) = pieces (path ++ k ∷ []) g origin at d ++ field_pieces path (suc k) fs origin (at + bit_length g at d) ps
  field_pieces path k (component name g presence default own fs) origin at (empty ps) = field_pieces path (suc k) fs origin at ps
  field_pieces path k (inserted name g slot fs) origin at ps = inserted_pieces (path ++ k ∷ []) g origin at ++ field_pieces path (suc k) fs origin (at + inserted_length g at) ps
  field_pieces path k _ origin at ps = []

  -- the number of the alternative is i, of which j are left to pass over
  pub case_pieces : List ℕ → (i : ℕ) → Alternatives → (j : ℕ) → (origin at : ℕ) → Data → List Piece
  case_pieces path i (alternative name g tests more) zero origin at d = pieces (path ++ i ∷ []) g origin at d
  case_pieces path i (alternative name g tests more) (suc j) origin at d = case_pieces path i more j origin at d
  case_pieces path i no_alternatives j origin at d = []

-- the pieces of the packet of a value
abbrev pub pieces_of : Grammar → Data → List Piece
pieces_of root d = pieces [] root 0 0 d

-- each piece begins where the one before it ends, the first at one bit, and the last ends before another; none is empty
abbrev pub Joined : (from to : ℕ) → List Piece → Type 0
Joined from to [] = from ≡ to
Joined from to (p ∷ ps) = (p.at ≡ from) × (0 < p.count) × Joined (from + p.count) to ps

-- the bits of a piece
abbrev pub piece_bits : List Bool → Piece → List Bool
piece_bits input p = take p.count (drop p.at input)
