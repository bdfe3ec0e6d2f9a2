-- A packet's header says how long it is, so bytes are packets in one way.
use Rattle.std.proofs.Common.{◌≡◌, ℕ, ◌<◌, List, [], ◌∷◌, ◌++◌, length, Some, refl, sym, ap, ◌∙◌, arith, append_assoc, length-append}
use Rattle.std.specs.List.{concat, AllByRecursion}
use Rattle.acn_route.specs.Laws.{OneSpace}
use Rattle.acn_route.specs.Space.{packet_length, IsSpacePacket, IsUnfinished}

some_one : (m n : ℕ) → Some m ≡ Some n → m ≡ n
some_one m n e = cc

-- what stands in front is told by its length
cut_at : (p q r s : List ℕ) → length p ≡ length q → p ++ r ≡ q ++ s → (p ≡ q) × (r ≡ s)
cut_at [] [] r s l e = (refl, e)
cut_at [] (y ∷ q) r s l e = absurd (omega arith)
cut_at (x ∷ p) [] r s l e = absurd (omega arith)
cut_at (x ∷ p) (y ∷ q) r s l e =
    let head : x ≡ y = cc in
    let tail : p ++ r ≡ q ++ s = cc in
    let k = cut_at p q r s (omega arith) tail in
    (ap (λ z. z ∷ p) head ∙ ap (λ z. y ∷ z) k.0, k.1)

-- the length stands in the header, and what follows doesn't change it
header_tells : (p r : List ℕ) (n : ℕ) → packet_length p ≡ Some n → packet_length (p ++ r) ≡ Some n
header_tells (a ∷ b ∷ c ∷ d ∷ e ∷ f ∷ p) r n h = h
header_tells [] r n h = cc
header_tells (a ∷ []) r n h = cc
header_tells (a ∷ b ∷ []) r n h = cc
header_tells (a ∷ b ∷ c ∷ []) r n h = cc
header_tells (a ∷ b ∷ c ∷ d ∷ []) r n h = cc
header_tells (a ∷ b ∷ c ∷ d ∷ e ∷ []) r n h = cc

-- no beginning of a packet holds a whole one
no_packet : (p r rest : List ℕ) → IsSpacePacket p → IsUnfinished rest → rest ≡ p ++ r → ⊥
no_packet p r rest is u e = omega (arith, u (length p) (ap packet_length e ∙ header_tells p r (length p) is), ap length e, length-append p r)

split : (packets others : List (List ℕ)) (rest left : List ℕ) → AllByRecursion IsSpacePacket packets → AllByRecursion IsSpacePacket others → IsUnfinished rest → IsUnfinished left
    → concat packets ++ rest ≡ concat others ++ left → (packets ≡ others) × (rest ≡ left)
split [] [] rest left h k u v e = (refl, e)
split [] (q ∷ qs) rest left h k u v e = absurd (no_packet q (concat qs ++ left) rest k.0 u (e ∙ append_assoc q (concat qs) left))
split (p ∷ ps) [] rest left h k u v e = absurd (no_packet p (concat ps ++ rest) left h.0 v (sym e ∙ append_assoc p (concat ps) rest))
split (p ∷ ps) (q ∷ qs) rest left h k u v e =
    let same : p ++ (concat ps ++ rest) ≡ q ++ (concat qs ++ left) = sym (append_assoc p (concat ps) rest) ∙ e ∙ append_assoc q (concat qs) left in
    let l = some_one (length p) (length q) (sym (header_tells p (concat ps ++ rest) (length p) h.0) ∙ ap packet_length same ∙ header_tells q (concat qs ++ left) (length q) k.0) in
    let two = cut_at p q (concat ps ++ rest) (concat qs ++ left) l same in
    let more = split ps qs rest left h.1 k.1 u v two.1 in
    (ap (λ z. z ∷ ps) two.0 ∙ ap (λ z. q ∷ z) more.0, more.1)

pub one_space : OneSpace
one_space bytes rest left packets others a u b v =
    split packets others rest left a.space.each b.space.each u v (ap (λ (t : List ℕ). t ++ rest) (sym a.space.joined) ∙ sym a.whole ∙ b.whole ∙ ap (λ (t : List ℕ). t ++ left) b.space.joined)
