-- Values that are spelled can be walked over, and their pieces are those of the packet.
use Rattle.std.proofs.Common.{◌≡◌, ℕ, ◌+◌, ◌-◌, ◌*◌, ◌^◌, ◌<◌, ◌≤◌, Bool, true, false, List, [], ◌∷◌, ◌++◌, length, take, drop, refl, sym, ap, subst, ◌∙◌, arith, nat_eq, nat_lt, append-nil, length-append, length-take, take-append-drop}
use Rattle.std.specs.List.{AllZip}
use Rattle.std.proofs.lemmas.Bool.{eqb-true}
use Rattle.std.proofs.lemmas.Bool.Decides.{nat_tests}
use Rattle.acn_num.specs.Bits.{bits}
use Rattle.acn_num.proofs.BitLists.{length-bits}
use Rattle.acn_grammar.specs.Code.{Any}
use Rattle.acn_grammar.specs.Front.{Front}
use Rattle.acn_grammar.specs.Grammar.{Grammar, Data}
use Rattle.acn_grammar.specs.Length.{bit_length}
use Rattle.acn_grammar.specs.Spell.{Spell}
use Rattle.acn_packet_laws.specs.Laws.{IsAccepted, AcceptedIsSound, LengthsAreTold, SpelledValuesMeet}
use Rattle.acn_piece_laws.specs.Laws.{PiecesTellTheirParts}
use Rattle.acn_piece_laws.specs.Meanings.{Means, meanings_of}
use Rattle.acn_pieces.specs.declared.piece.Piece.{Piece}
use Rattle.acn_pieces.specs.declared.piece.PieceKind.TheVariants.{Fill}
use Rattle.acn_pieces.specs.CanWalk.{CanWalk, SoundValuesCanBeWalked}
use Rattle.acn_pieces.specs.Laws.{PiecesAreJoined, JoinedPiecesAreTheBits}
use Rattle.acn_pieces.specs.Pieces.{Joined, part, piece_bits, pieces_of}
use Rattle.acn_reads.specs.Answers.{OnlyFront}
use Rattle.acn_reads.specs.declared.answers.TheConstants.{MOST_BYTES}
use Rattle.acn_stream.specs.Recording.{IsPacket}
use Rattle.acn_supply.specs.declared.window.TheConstants.{MOST_IN_HAND}
use Rattle.acn_explain.specs.Explaining.{ArePieces}
use Rattle.acn_explain.specs.Texts.{recorded_pieces}

pub can_walk : AcceptedIsSound → SpelledValuesMeet → SoundValuesCanBeWalked → (root : Grammar) → IsAccepted root → (d : Data) (bs : List Bool) → Spell root Any root [] d 0 bs → CanWalk 0 root d
can_walk sound meet walked root a d bs s = walked root 0 [] (λ s. false) root (sound root a) d (meet root Any d bs a.formed s)

-- Packets of a recording.

pub recorded_near : LengthsAreTold → (root : Grammar) → IsAccepted root → (d : Data) (piece : List ℕ) → length piece ≤ MOST_IN_HAND → IsPacket root d piece → bit_length root 0 d ≤ 2 ^ 40
recorded_near told root a d piece few p =
    let size = told root Any d p.spelling a p.spelled in
    let whole = ap length p.whole in
    omega (arith, size, whole, length-bits piece, length-append p.spelling p.fill, few)

-- The packet at the front of an input.

front_size : LengthsAreTold → (root : Grammar) → IsAccepted root → (input : List Bool) (d : Data) (n : ℕ) → Front root input d n → bit_length root 0 d ≡ n
front_size told root a input d n f =
    let size = told root Any d (take n input) a f.spelled in
    let within = f.within in
    let long = length-take n input in
    omega (arith, size, within, long)

pub front_near : LengthsAreTold → (root : Grammar) → IsAccepted root → (bytes : List ℕ) (d : Data) (n : ℕ) → length bytes ≤ MOST_BYTES → Front root (bits bytes) d n → bit_length root 0 d ≤ 2 ^ 40
front_near told root a bytes d n few f =
    let size = front_size told root a (bits bytes) d n f in
    let within = f.within in
    omega (arith, size, within, length-bits bytes, few)

pub are_pieces : LengthsAreTold → PiecesAreJoined → JoinedPiecesAreTheBits → PiecesTellTheirParts → (root : Grammar) → IsAccepted root → (input : List Bool) (d : Data) (n : ℕ) (found : List Piece) → Front root input d n → OnlyFront root input d n → found ≡ pieces_of root d → ArePieces root input found
are_pieces told joins joined_bits tell root a input d n found f only are =
    let joined : Joined 0 n found = subst (λ ps. Joined 0 n ps) (sym are) (subst (λ m. Joined 0 m (pieces_of root d)) (front_size told root a input d n f) (joins root d)) in
    let parts : AllZip (λ p m. Means Any m (piece_bits input p)) (pieces_of root d) (meanings_of root d) =
    subst (λ bs. AllZip (λ p m. Means Any m (piece_bits bs p)) (pieces_of root d) (meanings_of root d)) (take-append-drop n input) (tell root Any d (take n input) (drop n input) a f.spelled) in
    record {
      value = d;
      size = n;
      front = f;
      alone = only;
      are = are;
      joined = joined;
      whole = joined_bits input n found joined;
      parts = subst (λ ps. AllZip (λ p m. Means Any m (piece_bits input p)) ps (meanings_of root d)) (sym are) parts;
    }

-- Fill bits behind a packet of a recording.

some_fill : (n whole : ℕ) → n < whole → nat_eq (whole - n) 0 ≡ false
some_fill n whole h = grind (arith, nat_tests)

no_fill : (n whole : ℕ) → whole ≤ n → nat_eq (whole - n) 0 ≡ true
no_fill n whole h = grind (arith, nat_tests)

pub filled_up : (n whole : ℕ) → n < whole → record { path = []; at = n; count = whole - n; kind = Fill } ∷ [] ≡ part [] Fill n (whole - n)
filled_up n whole h = rw (some_fill n whole h) refl

pub none_filled : (n whole : ℕ) (found : List Piece) → whole ≤ n → found ≡ found ++ part [] Fill n (whole - n)
none_filled n whole found h = rw (no_fill n whole h) (sym (append-nil found))

pub all_recorded : (root : Grammar) (d : Data) (whole : List Bool) (n : ℕ) (found all : List Piece) → found ≡ pieces_of root d → n ≡ bit_length root 0 d → all ≡ found ++ part [] Fill n (length whole - n) → all ≡ recorded_pieces root d whole
all_recorded root d whole n found all e q f = f ∙ (ap (λ (ps : List Piece). ps ++ part [] Fill n (length whole - n)) e ∙ ap (λ (k : ℕ). pieces_of root d ++ part [] Fill k (length whole - k)) q)
