-- Pieces one behind another, and what is written for them.
use Rattle.std.proofs.Common.{◌≡◌, ℕ, suc, ◌+◌, List, [], ◌∷◌, ◌++◌, length, Option, None, Some, subst, sym, ap, refl, ◌∙◌, append_assoc, append-nil, arith}
use Rattle.std.proofs.Math.Path.{path_j, subst_refl}
use Rattle.acn_grammar.specs.Grammar.{Grammar, Data}
use Rattle.acn_json.specs.Lines.{line_of}
use Rattle.acn_outside.specs.Moves.{Gains}
use Rattle.acn_stream.specs.Recording.{Joined, IsPacket, Recording, Shown, texts, lines_text}

abbrev pub joined_on : {A B : Type 0} (P : A → List B → Type 0) (xs ys : List A) (a b : List B) → Joined P xs a → Joined P ys b → Joined P (xs ++ ys) (a ++ b)
joined_on {B = B} P [] ys a b h k = subst (λ (t : List B). Joined P ys (t ++ b)) (sym h) k
joined_on {B = B} P (x ∷ xs) ys a b h k = record {
  piece = h.piece;
  rest = h.rest ++ b;
  parts = ap (λ (t : List B). t ++ b) h.parts ∙ append_assoc h.piece h.rest b;
  first = h.first;
  second = joined_on P xs ys h.rest b h.second k;
}

-- one piece alone
abbrev pub joined_one : {A B : Type 0} (P : A → List B → Type 0) (x : A) (piece : List B) → P x piece → Joined P (x ∷ []) piece
joined_one P x piece h = record { piece = piece; rest = []; parts = sym (append-nil piece); first = h; second = refl }

-- ---- what is shown of packets

texts_moved : (g : Grammar) (shown : Shown) (n : ℕ) (ds : List Data) (a b : List ℕ) (e : a ≡ b) (r : Recording g ds a) → texts g shown n ds b (subst (Recording g ds) e r) ≡ texts g shown n ds a r
texts_moved g shown n ds a b e r =
    path_j (λ (c : List ℕ) (p : a ≡ c). texts g shown n ds c (subst (Recording g ds) p r) ≡ texts g shown n ds a r) (ap (λ (q : Recording g ds a). texts g shown n ds a q) (subst_refl (Recording g ds) r)) e

-- of packets and others behind them
pub texts_on : (g : Grammar) (shown : Shown) (n m : ℕ) (ds es : List Data) (a b : List ℕ) (r : Recording g ds a) (q : Recording g es b) → m ≡ n + length ds
    → texts g shown n (ds ++ es) (a ++ b) (joined_on (IsPacket g) ds es a b r q) ≡ texts g shown n ds a r ++ texts g shown m es b q
texts_on g shown n m [] es a b r q e = texts_moved g shown n es _ _ _ q ∙ ap (λ (k : ℕ). texts g shown k es b q) (omega (arith, e))
texts_on g shown n m (d ∷ ds) es a b r q e =
    ap (λ (t : List ℕ). shown n d r.piece ++ t) (texts_on g shown (suc n) m ds es r.rest b r.second q (omega (arith, e)))
    ∙ sym (append_assoc (shown n d r.piece) (texts g shown (suc n) ds r.rest r.second) (texts g shown m es b q))

-- of one packet alone
pub texts_one : (g : Grammar) (shown : Shown) (n : ℕ) (d : Data) (piece : List ℕ) (p : IsPacket g d piece) → texts g shown n (d ∷ []) piece (joined_one (IsPacket g) d piece p) ≡ shown n d piece
texts_one g shown n d piece p = append-nil (shown n d piece)

-- lines are what is shown by decoding
pub lines_shown : (g : Grammar) (n : ℕ) (ds : List Data) (packets : List ℕ) (r : Recording g ds packets) → texts g (λ number d piece. line_of g d ++ 10 ∷ []) n ds packets r ≡ lines_text g ds packets r
lines_shown g n [] packets r = refl
lines_shown g n (d ∷ ds) packets r = ap (λ (t : List ℕ). (line_of g d ++ 10 ∷ []) ++ t) (lines_shown g (suc n) ds r.rest r.second)

pub gains_nothing : (o : Option (List ℕ)) → Gains o o []
gains_nothing None = tt
gains_nothing (Some bytes) = (bytes, refl, sym (append-nil bytes))
