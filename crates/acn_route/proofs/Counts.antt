-- Lines and their counts, one behind another.
use Rattle.std.proofs.Common.{◌≡◌, ℕ, ◌+◌, List, [], ◌∷◌, ◌++◌, refl, sym, ap, ◌∙◌, arith, append_assoc}
use Rattle.std.specs.List.{concat, AllByRecursion}
use Rattle.acn_route.specs.Counting.{total}
use Rattle.acn_route.specs.Routing.{Line, with_line, counts_of, packets_of, text_of}
use Rattle.acn_route.specs.Space.{IsSpacePacket}
use Rattle.acn_route.specs.declared.count.LineKind.{LineKind}
use Rattle.acn_route.specs.declared.count.LineKind.TheVariants.{Good, Long, Bad, Unrouted}
use Rattle.acn_route.specs.declared.count.RouteCount.{RouteCount}

swapped : (j k : LineKind) (c : RouteCount) → with_line j (with_line k c) ≡ with_line k (with_line j c)
swapped Good Good c = refl
swapped Good Long c = refl
swapped Good Bad c = refl
swapped Good Unrouted c = refl
swapped Long Good c = refl
swapped Long Long c = refl
swapped Long Bad c = refl
swapped Long Unrouted c = refl
swapped Bad Good c = refl
swapped Bad Long c = refl
swapped Bad Bad c = refl
swapped Bad Unrouted c = refl
swapped Unrouted Good c = refl
swapped Unrouted Long c = refl
swapped Unrouted Bad c = refl
swapped Unrouted Unrouted c = refl

pub one_behind : (ls : List Line) (l : Line) → counts_of (ls ++ l ∷ []) ≡ with_line l.kind (counts_of ls)
one_behind [] l = refl
one_behind (m ∷ ls) l = ap (with_line m.kind) (one_behind ls l) ∙ swapped m.kind l.kind (counts_of ls)

pub one_more : (k : LineKind) (c : RouteCount) → total (with_line k c) ≡ total c + 1
one_more Good c = omega arith
one_more Long c = omega arith
one_more Bad c = omega arith
one_more Unrouted c = omega arith

-- ---- lines and others behind them

pub each_on : {A : Type 0} (P : A → Type 0) (xs ys : List A) → AllByRecursion P xs → AllByRecursion P ys → AllByRecursion P (xs ++ ys)
each_on P [] ys h k = k
each_on P (x ∷ xs) ys h k = (h.0, each_on P xs ys h.1 k)

pub packets_on : (ls ms : List Line) → AllByRecursion IsSpacePacket (packets_of ls) → AllByRecursion IsSpacePacket (packets_of ms) → AllByRecursion IsSpacePacket (packets_of (ls ++ ms))
packets_on [] ms h k = k
packets_on (l ∷ ls) ms h k = (h.0, packets_on ls ms h.1 k)

pub bytes_on : (ls ms : List Line) → concat (packets_of (ls ++ ms)) ≡ concat (packets_of ls) ++ concat (packets_of ms)
bytes_on [] ms = refl
bytes_on (l ∷ ls) ms = ap (λ (t : List ℕ). l.packet ++ t) (bytes_on ls ms) ∙ sym (append_assoc l.packet (concat (packets_of ls)) (concat (packets_of ms)))

pub text_on : (ls ms : List Line) → text_of (ls ++ ms) ≡ text_of ls ++ text_of ms
text_on [] ms = refl
text_on (l ∷ ls) ms = ap (λ (t : List ℕ). l.text ++ t) (text_on ls ms) ∙ sym (append_assoc l.text (text_of ls) (text_of ms))
