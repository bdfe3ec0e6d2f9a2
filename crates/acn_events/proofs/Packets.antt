-- What stands in the buffer where the events of a value have run: the bits that are written for it, and behind them what stood there.
use Rattle.std.proofs.Common.{◌≡◌, ℕ, zero, suc, ◌+◌, ◌-◌, ◌≤◌, Bool, true, false, ◌||◌, List, [], ◌∷◌, ◌++◌, length, take, drop, replicate, Option, Some, None, nat_eq, refl, sym, ap, ◌∙◌, subst, arith, append_assoc, length-append}
use Rattle.std.proofs.lemmas.List.{length-replicate}
use Rattle.acn_num.specs.Bits.{low_bits}
use Rattle.acn_num.proofs.BitLists.{length-low_bits}
use Rattle.acn_bits.specs.Overwrite.{Gap, overwritten}
use Rattle.acn_fill.specs.Table.{begun, gap_at, has_spot}
use Rattle.acn_fill.specs.declared.spot.Spot.{Spot}
use Rattle.acn_grammar.specs.Code.{Written, Code}
use Rattle.acn_grammar.specs.Grammar.{Grammar}
use Rattle.acn_grammar.specs.Length.{num_length, padding, rule_width, text_length}
use Rattle.acn_text.specs.Steps.{size_bits}
use Rattle.acn_grammar.proofs.LeafLengths.{code-length}
use Rattle.acn_grammar.specs.declared.node.NumLeaf.{NumLeaf}
use Rattle.acn_grammar.specs.declared.node.SizeRule.{SizeRule}
use Rattle.acn_grammar.specs.declared.node.SizeRule.TheVariants.{Prefix, Slot, Ended}
use Rattle.acn_packet_laws.specs.Laws.{AcceptedIsSound}
use Rattle.acn_events.specs.Event.{Event, Frame, State, aligns, copies, begins, puts, sizes, codes, texts, opens, notes, wants, fills, enters, closes, base_of, octets_in, position}
use Rattle.acn_events.specs.Events.{events}
use Rattle.acn_events.specs.Laws.{EventsAreInOrder, EventsWriteThePacket, first_state}
use Rattle.acn_events.specs.Marks.{Mark, marked, first_mark, Right, AllRight}
use Rattle.acn_events.specs.Steps.{Closes, FillsGap, Step, Run, gap_of, put}
use Rattle.acn_events.proofs.Showing.{Shows, open_gaps, shows_all}
use Rattle.acn_events.proofs.Small.{eq_here}
use Rattle.acn_events.proofs.Spelling.{node_spells}
use Rattle.acn_events.proofs.Standing.{AllStand, GapStands, Stands, code_width, first_stands, size_long, stands_along, stands_on, text_long}
use Rattle.acn_events.proofs.Writing.{Writing, Held, all_gaps, frame_gaps, held_along}

-- Bits behind a place.

drop_both : (xs ys : List Bool) (j : ℕ) → drop (length xs + j) (xs ++ ys) ≡ drop j ys
drop_both [] ys j = ap (λ n. drop n ys) (zero_front j)
  where
    zero_front : (n : ℕ) → 0 + n ≡ n
    zero_front n = omega arith
drop_both (x ∷ xs) ys j = ap (λ n. drop n (x ∷ (xs ++ ys))) (front (length xs) j) ∙ drop_both xs ys j
  where
    front : (a b : ℕ) → suc a + b ≡ suc (a + b)
    front a b = omega arith

abbrev no_bits : List Bool
no_bits = []

drop_none : (n : ℕ) → drop n no_bits ≡ no_bits
drop_none zero = refl
drop_none (suc n) = refl

drop_drop : (i j : ℕ) (xs : List Bool) → drop j (drop i xs) ≡ drop (i + j) xs
drop_drop zero j xs = ap (λ n. drop n xs) (zero_front j)
  where
    zero_front : (n : ℕ) → n ≡ 0 + n
    zero_front n = omega arith
drop_drop (suc i) j [] = drop_none j ∙ sym (drop_none (suc i + j))
drop_drop (suc i) j (x ∷ xs) = drop_drop i j xs ∙ ap (λ n. drop n (x ∷ xs)) (front i j)
  where
    front : (a b : ℕ) → suc (a + b) ≡ suc a + b
    front a b = omega arith

long_take : (n : ℕ) (xs : List Bool) → n ≤ length xs → length (take n xs) ≡ n
long_take zero xs h = refl
long_take (suc n) [] h = absurd (omega arith)
long_take (suc n) (x ∷ xs) h = ap suc (long_take n xs (omega arith))

-- bits behind those that are put over stay
behind_over : (all : List Bool) (at : ℕ) (piece : List Bool) (k : ℕ) → at + length piece ≤ length all → at + length piece ≤ k → drop k (overwritten all at piece) ≡ drop k all
behind_over all at piece k l h =
    let front = take at all ++ piece in
    let rest = drop (at + length piece) all in
    let long : length front ≡ at + length piece = (let a = length-append (take at all) piece in let b = long_take at all (omega (arith, l)) in omega (arith, a, b)) in
    let is : k ≡ length front + (k - (at + length piece)) = omega (arith, long, h) in
    ap (drop k) (sym (append_assoc (take at all) piece rest))
    ∙ (ap (λ n. drop n (front ++ rest)) is
    ∙ (drop_both front rest (k - (at + length piece)) ∙ (drop_drop (at + length piece) (k - (at + length piece)) all ∙ ap (λ n. drop n all) (sum (at + length piece) k h))))
  where
    sum : (a k : ℕ) → a ≤ k → a + (k - a) ≡ k
    sum a k h = omega (arith, h)

-- later bits of the buffer are as they were
pub record Behind (m n : State) : Type 0 where
  pub on : m.place ≤ n.place
  pub same : drop n.place n.buf ≡ drop n.place m.buf

pub behind_none : (m n : State) → n.place ≡ m.place → n.buf ≡ m.buf → Behind m n
behind_none m n p b = record { on = omega (arith, p); same = ap (drop n.place) b }

behind_put : (m n : State) (bs : List Bool) (at : ℕ) → m.place ≤ n.place → at + length bs ≤ n.place → at + length bs ≤ length m.buf → n.buf ≡ overwritten m.buf at bs → Behind m n
behind_put m n bs at on l r e = record { on = on; same = ap (drop n.place) e ∙ behind_over m.buf at bs n.place r l }

pub behind_then : (m n o : State) → Behind m n → Behind n o → Behind m o
behind_then m n o f g =
    let a = f.on in
    let b = g.on in
    let rest = o.place - n.place in
    record {
      on = omega (arith, a, b);
      same = g.same ∙ (sym (split n.buf) ∙ (ap (drop rest) f.same ∙ split m.buf));
    }
  where
    sum : n.place + (o.place - n.place) ≡ o.place
    sum = (let b = g.on in omega (arith, b))

    split : (xs : List Bool) → drop (o.place - n.place) (drop n.place xs) ≡ drop o.place xs
    split xs = drop_drop n.place (o.place - n.place) xs ∙ ap (λ k. drop k xs) sum

module _ (root : Grammar) (size : ℕ) where
  by_put : (m n : State) (bs : List Bool) (k : ℕ) → length bs ≡ k → m.place + k ≤ length m.buf → n ≡ put bs m → Behind m n
  by_put m n bs k l room next =
      subst (λ (z : State). Behind m z) (sym next) (behind_put m (put bs m) bs m.place (omega arith) (omega arith) (omega (arith, room, l)) refl)

  fills_behind : (p : Mark) (m n : State) (t : ℕ) (o : Option (Option Gap)) → GapStands root t o m.leaves m.place → Stands root size p m → FillsGap t o m n → Behind m n
  fills_behind p m n t None g a f = absurd f
  fills_behind p m n t (Some None) g a f = behind_none m n (ap (λ (z : State). z.place) f) (ap (λ (z : State). z.buf) f)
  fills_behind p m n t (Some (Some gap)) g a f =
      let same : g.leaf ≡ f.leaf = one g.leaf f.leaf (sym g.found ∙ f.of_slot) in
      let code : Code Written g.leaf f.number f.code = subst (λ (z : NumLeaf). Code Written z f.number f.code) (sym same) f.codes in
      let wide = code_width g.leaf gap.width f.number f.code g.fine g.width code in
      let passed = g.passed in
      let within = a.within in
      let long = a.long in
      let place = ap (λ (z : State). z.place) f.next in
      behind_put m n f.code gap.place (omega (arith, place)) (omega (arith, wide, passed, place)) (omega (arith, wide, passed, within, long)) (ap (λ (z : State). z.buf) f.next)
    where
      one : (a b : NumLeaf) → Some a ≡ Some b → a ≡ b
      one a b e = cc

  closes_behind : (p : Mark) (m n : State) (rule : SizeRule) (k start : ℕ) (rest : List (ℕ × SizeRule)) (gap : Option Gap) → gap_of m.contents ≡ gap → AllStand m.contents ((start, rule) ∷ rest) → Stands root size p m → Closes rule k gap m n → Behind m n
  closes_behind p m n (Prefix low width) k start rest None is frames a d = absurd d
  closes_behind p m n (Prefix low width) k start rest (Some g) is frames a d =
      let end = hole_end m.contents g is frames in
      let bits = length-low_bits width (k - low) in
      let place = a.place in
      let within = a.within in
      let long = a.long in
      let same = ap (λ (z : State). z.place) d in
      behind_put m n (low_bits width (k - low)) g.place (omega (arith, same)) (omega (arith, bits, end, place, same)) (omega (arith, bits, end, place, within, long)) (ap (λ (z : State). z.buf) d)
    where
      two : {a b : Gap} → Some a ≡ Some b → a ≡ b
      two e = cc

      hole_end : (fs : List Frame) (g : Gap) → gap_of fs ≡ Some g → AllStand fs ((start, Prefix low width) ∷ rest) → g.place + width ≡ base_of fs
      hole_end [] g is h = absurd h
      hole_end (f ∷ fs) g is h =
          let hole = h.1 in
          let same = ap (λ (z : Gap). z.place) (two (sym hole.1 ∙ is)) in
          let wide = hole.2 in
          let ends' = hole.3 in
          omega (arith, same, wide, ends')
  closes_behind p m n (Slot t) k start rest gap is frames a d = behind_none m n (ap (λ (z : State). z.place) d.1) (ap (λ (z : State). z.buf) d.1)
  closes_behind p m n (Ended e) k start rest gap is frames a d = absurd d

  pub behind_on : (e : Event) (p : Mark) (m n : State) → Right root e p → Step e m n → Stands root size p m → Behind m n
  behind_on (aligns a) p m n r s h = by_put m n (replicate (padding a (position m)) false) (padding a (position m)) (length-replicate (padding a (position m)) false) s.can.1 s.does
  behind_on (copies bs) p m n r s h = by_put m n bs (length bs) refl s.can s.does
  behind_on (begins homes bs) p m n r s h = by_put m n bs (length bs) refl s.can s.does
  behind_on (puts width k) p m n r s h = by_put m n (low_bits width k) width (length-low_bits width k) s.can.2 s.does
  behind_on (sizes sizing k) p m n r s h = by_put m n (size_bits sizing.rule k) (rule_width sizing.rule) (size_long sizing.rule k) s.can.1 s.does.1
  behind_on (codes leaf x) p m n r s h = by_put m n s.does.0 (num_length leaf x) (code-length Written leaf r x s.does.0 s.does.1) s.can s.does.2
  behind_on (texts leaf cs) p m n r s h = (let t = s.does.1 in by_put m n t.0 (text_length leaf.ended leaf (length cs)) (text_long leaf cs t.0 t.1) s.can t.2)
  behind_on (opens t leaf) p m n r s h =
      let w = s.does.width in
      let same : s.can.1 ≡ w = one (sym s.can.2 ∙ s.does.is_width) in
      let room = s.can.4 in
      let zeros = length-replicate w false in
      let place = ap (λ (z : State). z.place) s.does.next in
      behind_put m n (replicate w false) m.place (omega (arith, place)) (omega (arith, place, zeros)) (omega (arith, room, same, zeros)) (ap (λ (z : State). z.buf) s.does.next)
    where
      one : {a b : ℕ} → Some a ≡ Some b → a ≡ b
      one e = cc
  behind_on (notes path t set x) p m n r s h = behind_none m n (ap (λ (z : State). z.place) s.does.next) (ap (λ (z : State). z.buf) s.does.next)
  behind_on (wants path t a) p m n r s h = behind_none m n (ap (λ (z : State). z.place) s.does.next) (ap (λ (z : State). z.buf) s.does.next)
  behind_on (fills t) p m n r s h = fills_behind p m n t (gap_at m.table t) (h.holes t (h.known t ∙ r)) h s.does.1
  behind_on (enters (Prefix low width)) p m n r s h =
      let zeros = length-replicate width false in
      let room = s.can.1.1 in
      let place = ap (λ (z : State). z.place) s.does in
      behind_put m n (replicate width false) m.place (omega (arith, place)) (omega (arith, place, zeros)) (omega (arith, room, zeros)) (ap (λ (z : State). z.buf) s.does)
  behind_on (enters (Slot t)) p m n r s h = behind_none m n (ap (λ (z : State). z.place) s.does) (ap (λ (z : State). z.buf) s.does)
  behind_on (enters (Ended e)) p m n r s h = behind_none m n (ap (λ (z : State). z.place) s.does) (ap (λ (z : State). z.buf) s.does)
  behind_on (closes path sizing k) p m n r s h = closes_behind p m n sizing.rule (octets_in m) r.start r.rest (gap_of m.contents) refl (subst (λ (z : List (ℕ × SizeRule)). AllStand m.contents z) r.outer h.contents) h s.does.1

  behind_along : (es : List Event) (p : Mark) (m n : State) → AllRight root es p → Run es m n → Stands root size p m → Behind m n
  behind_along [] p m n r s h = behind_none m n (ap (λ (z : State). z.place) s) (ap (λ (z : State). z.buf) s)
  behind_along (e ∷ es) p m n r s h = behind_then m s.0 n (behind_on e p m s.0 r.0 s.1 h) (behind_along es (marked e p) s.0 n r.1 s.2 (stands_on root size e p m s.0 r.0 s.1 h))

-- The whole packet.

abbrev first_writing : Writing
first_writing = record { numbers = λ s. None; at = 0; outer = [] }

first_held : (root : Grammar) (buf : List Bool) → Held root first_writing [] (first_state buf)
first_held root buf = record { shows = record { long = refl; agrees = tt }; says = λ s g b i. cc; sizes = tt; at = refl }

no_spots : (xs : List Spot) → ((s : ℕ) → has_spot s xs ≡ false) → xs ≡ []
no_spots [] h = refl
no_spots (x ∷ xs) h = (let n = h x.slot in let e = eq_here x.slot in absurd (never (nat_eq x.slot x.slot) (has_spot x.slot xs) e n))
  where
    never : (a b : Bool) → a ≡ true → (a || b) ≡ false → ⊥
    never a b e n = cc

no_gaps : (gs : List (Option Gap)) (xs : List Spot) → xs ≡ [] → length gs ≡ length xs → gs ≡ []
no_gaps [] xs e l = refl
no_gaps (g ∷ gs) xs e l = (let n = ap length e in absurd (omega (arith, n, l)))

no_contents : (fs : List Frame) → AllStand fs [] → fs ≡ []
no_contents [] h = refl
no_contents (f ∷ fs) h = absurd h

pub writes_packet : AcceptedIsSound → EventsAreInOrder → EventsWriteThePacket
writes_packet sound order root d buf bs m accepted shaped run written gaps =
    let es = events root root [] d in
    let o = order root d accepted shaped in
    let start = first_stands root buf in
    let spells = node_spells root root 0 [] (λ s. false) (sound root accepted) [] d first_mark o.right (λ s h. refl) first_writing [] (λ s h. cc) 0 refl bs written in
    let held = held_along root (length buf) es first_mark first_writing spells.behind [] bs (first_state buf) m o.right spells.spelt run start (first_held root buf) in
    let stands = stands_along root (length buf) es first_mark (first_state buf) m o.right run start in
    let none : (s : ℕ) → begun m.table s ≡ false = λ s. stands.known s ∙ o.none_known s in
    let contents : m.contents ≡ [] = no_contents m.contents (subst (λ (z : List (ℕ × SizeRule)). AllStand m.contents z) o.outermost stands.contents) in
    let spots = no_spots m.table.spots none in
    let closed : all_gaps m ≡ [] = ap (λ z. open_gaps z ++ frame_gaps m.contents) (no_gaps m.table.gaps m.table.spots spots gaps) ∙ ap frame_gaps contents in
    record {
      front = shows_all bs m.buf m.place (subst (λ (z : List Gap). Shows z bs m.buf m.place) closed held.shows);
      long = held.shows.long;
      behind = (behind_along root (length buf) es first_mark (first_state buf) m o.right run start).same;
      none_begun = none;
      outermost = contents;
    }
