-- Joining two sets in one walk over both.
use Rattle.std.proofs.Common.{int_le, ◌≡◌, ℕ, ◌<◌, ◌≤◌, ◌+◌, Bool, true, false, refl, sym, ap, subst, ◌∙◌, ℤ, pos, ◌≤ℤ◌, [], ◌∷◌, ◌++◌, arith, drop_of_length-le, drop, length, get_or}
use Rattle.std.specs.Prelude.{◌<ℤ◌, ◌+ℤ◌, ◌-ℤ◌, ◌||◌}
use Rattle.std.specs.Int.{int_max}
use Rattle.std.proofs.lemmas.Int.{ints, clamps}
use Rattle.std.proofs.lemmas.List.{drop_more}
use Rattle.acn_num.specs.Ranges.{Ranges, has, is_in, Above, AreRanges, IsRange, some_range, bottom, top}
use Rattle.acn_num.specs.Joining.{Begun, Begins, InTurn, CanJoin, Joins, JoinsBefore}
use Rattle.acn_num.proofs.Members.{has_append, or_assoc, above_weaker, false_le, true_le}

begun_append : (l : ℤ) (s t : Ranges) → Begun l s → Begun l t → Begun l (s ++ t)
begun_append l [] t h k = k
begun_append l (r ∷ s) t h k = (h.0, begun_append l s t h.1 k)

begun_front : (l : ℤ) (s t : Ranges) → Begun l (s ++ t) → Begun l s
begun_front l [] t h = tt
begun_front l (r ∷ s) t h = (h.0, begun_front l s t h.1)

begun_behind : (l : ℤ) (s t : Ranges) → Begun l (s ++ t) → Begun l t
begun_behind l [] t h = h
begun_behind l (r ∷ s) t h = begun_behind l s t h.1

-- the last range grows
last_grows : (b h : ℤ) (s : Ranges) (q : ℤ × ℤ) → Above b (s ++ q ∷ []) → q.1 ≤ℤ h → h ≤ℤ top → Above b (s ++ (q.0, h) ∷ [])
last_grows b h [] q above le up = (above.0, (let k = above.1 in omega (arith, ints)), up, tt)
last_grows b h (r ∷ s) q above le up = (above.0, above.1, above.2, last_grows (r.1 +ℤ pos 1) h s q above.3 le up)

-- a range stands behind the last one
one_behind : (b : ℤ) (s : Ranges) (q r : ℤ × ℤ) → Above b (s ++ q ∷ []) → (q.1 +ℤ pos 1) <ℤ r.0 → IsRange r → Above b ((s ++ q ∷ []) ++ r ∷ [])
one_behind b [] q r above lt is = (above.0, above.1, above.2, (lt, is.order, is.high, tt))
one_behind b (p ∷ s) q r above lt is = (above.0, above.1, above.2, one_behind (p.1 +ℤ pos 1) s q r above.3 lt is)

in_both : (x : ℤ) (q r : ℤ × ℤ) → q.0 ≤ℤ r.0 → r.0 ≤ℤ (q.1 +ℤ pos 1) → q.0 ≤ℤ q.1 → r.0 ≤ℤ r.1 → is_in x (q.0, int_max q.1 r.1) ≡ (is_in x q || is_in x r)
in_both x q r h k o p = grind (arith, ints, clamps)

or_nothing : (a : Bool) → (a || false) ≡ a
or_nothing true = refl
or_nothing false = refl

last_ordered : (b : ℤ) (s : Ranges) (q : ℤ × ℤ) → Above b (s ++ q ∷ []) → (q.0 ≤ℤ q.1) × (q.1 ≤ℤ top)
last_ordered b [] q above = (above.1, above.2)
last_ordered b (p ∷ s) q above = last_ordered (p.1 +ℤ pos 1) s q above.3

has_last : (x : ℤ) (s : Ranges) (q : ℤ × ℤ) → has (s ++ q ∷ []) x ≡ (has s x || is_in x q)
has_last x s q = has_append s (q ∷ []) x ∙ ap (λ (b : Bool). has s x || b) (or_nothing (is_in x q))

pub joins_behind : (next last : ℤ × ℤ) (old front new : Ranges) → CanJoin old next → old ≡ front ++ last ∷ [] → (last.1 +ℤ pos 1) <ℤ next.0 → new ≡ (front ++ last ∷ []) ++ next ∷ [] → Joins old next new
joins_behind next last old front new can split lt added =
    let above : AreRanges (front ++ last ∷ []) = subst (λ (z : Ranges). AreRanges z) split can.are in
    rw (split, added) (record {
      are = one_behind (bottom -ℤ pos 1) front last next above lt can.range;
      numbers = λ x. has_last x (front ++ last ∷ []) next;
      begun = λ l le h. begun_append l (front ++ last ∷ []) (next ∷ []) h (le, tt);
    })

pub joins_last : (next last : ℤ × ℤ) (old front new : Ranges) → CanJoin old next → old ≡ front ++ last ∷ [] → next.0 ≤ℤ (last.1 +ℤ pos 1) → new ≡ front ++ some_range last.0 (int_max last.1 next.1) → Joins old next new
joins_last next last old front new can split le added =
    let above : AreRanges (front ++ last ∷ []) = subst (λ (z : Ranges). AreRanges z) split can.are in
    let begun : Begun next.0 (last ∷ []) = begun_behind next.0 front (last ∷ []) (subst (λ (z : Ranges). Begun next.0 z) split can.begun) in
    let ordered = last_ordered (bottom -ℤ pos 1) front last above in
    let up = ordered.1 in
    let one : some_range last.0 (int_max last.1 next.1) ≡ (last.0, int_max last.1 next.1) ∷ [] = (let o = ordered.0 in grind (arith, ints, clamps)) in
    let most = can.range.high in
    rw (split, added ∙ ap (λ (z : Ranges). front ++ z) one) (record {
      are = last_grows (bottom -ℤ pos 1) (int_max last.1 next.1) front last above (omega (arith, ints, clamps)) (omega (arith, ints, clamps));
      numbers = λ x.
          has_last x front (last.0, int_max last.1 next.1)
          ∙ (ap (λ (b : Bool). has front x || b) (in_both x last next begun.0 le ordered.0 can.range.order)
          ∙ (sym (or_assoc (has front x) (is_in x last) (is_in x next)) ∙ ap (λ (b : Bool). b || is_in x next) (sym (has_last x front last))));
      begun = λ l at h. begun_append l front ((last.0, int_max last.1 next.1) ∷ []) (begun_front l front (last ∷ []) h) ((begun_behind l front (last ∷ []) h).0, tt);
    })

-- what begins no later than one range begins no later than those behind it
turn_weaker : (out out' s : Ranges) (low : ℤ) → Begins low s → ((l : ℤ) → low ≤ℤ l → Begun l out → Begun l out') → InTurn out s → InTurn out' s
turn_weaker out out' [] low h go turn = tt
turn_weaker out out' (r ∷ s) low h go turn = (go r.0 h.0 turn.0, turn_weaker out out' s low h.1 go turn.1)

begins_weaker : (l m : ℤ) (s : Ranges) → Begins m s → l ≤ℤ m → Begins l s
begins_weaker l m [] h le = tt
begins_weaker l m (r ∷ s) h le = (omega (arith, ints, h.0), begins_weaker l m s h.1 le)

above_begins : (b : ℤ) (s : Ranges) → Above b s → Begins b s
above_begins b [] h = tt
above_begins b (r ∷ s) h = (let p = h.0 in omega (arith, ints), begins_weaker b (r.1 +ℤ pos 1) s (above_begins (r.1 +ℤ pos 1) s h.3) (let p = h.0 in let q = h.1 in omega (arith, ints)))

-- behind a range all begins behind its start
rest_begins : (b : ℤ) (r : ℤ × ℤ) (s : Ranges) → Above b (r ∷ s) → Begins r.0 s
rest_begins b r s h = begins_weaker r.0 (r.1 +ℤ pos 1) s (above_begins (r.1 +ℤ pos 1) s h.3) (let q = h.1 in omega (arith, ints))

rest_above : (b : ℤ) (r : ℤ × ℤ) (s : Ranges) → Above b (r ∷ s) → Above b s
rest_above b r s h = above_weaker (r.1 +ℤ pos 1) b s h.3 (let p = h.0 in let q = h.1 in omega (arith, ints))

one_range : (r : ℤ × ℤ) (s : Ranges) → AreRanges (r ∷ s) → IsRange r
one_range r s h = (let p = h.0 in record { low = omega (arith, ints); order = h.1; high = h.2 })

-- ranges were added up to here
pub record Walk (low : ℤ) (old others out rest : Ranges) : Type 0 where
  pub are : AreRanges out
  pub rest_are : AreRanges rest
  pub turn : InTurn out rest
  pub numbers : (x : ℤ) → (has out x || has rest x) ≡ (has old x || has others x)
  pub begun : (l : ℤ) → low ≤ℤ l → Begun l old → Begun l out

walk_turn : (low : ℤ) (old others out out' rest : Ranges) (r : ℤ × ℤ) → Walk low old others out (r ∷ rest) → r.0 <ℤ low → Joins out r out' → Walk low old others out' rest
walk_turn low old others out out' rest r walk lt joins = record {
  are = joins.are;
  rest_are = rest_above (bottom -ℤ pos 1) r rest walk.rest_are;
  turn = turn_weaker out out' rest r.0 (rest_begins (bottom -ℤ pos 1) r rest walk.rest_are) joins.begun walk.turn.1;
  numbers = λ x. ap (λ (b : Bool). b || has rest x) (joins.numbers x) ∙ (or_assoc (has out x) (is_in x r) (has rest x) ∙ walk.numbers x);
  begun = λ l le h. joins.begun l (omega (arith, ints)) (walk.begun l le h);
}

pub walk_on : (low : ℤ) (old others out out' : Ranges) (i : ℕ) → i < length others → Walk low old others out (drop i others) → int_le low (get_or others i (pos 0, pos 0)).0 ≡ false → Joins out (get_or others i (pos 0, pos 0)) out' → Walk low old others out' (drop (i + 1) others)
walk_on low old others out out' i inside walk is joins =
    walk_turn low old others out out' (drop (i + 1) others) (get_or others i (pos 0, pos 0)) (subst (λ (z : Ranges). Walk low old others out z) (drop_more others i (pos 0, pos 0) inside) walk) (false_le low (get_or others i (pos 0, pos 0)).0 is) joins

pub walk_can : (low : ℤ) (old others out : Ranges) (i : ℕ) → i < length others → Walk low old others out (drop i others) → CanJoin out (get_or others i (pos 0, pos 0))
walk_can low old others out i inside walk =
    let here : Walk low old others out (get_or others i (pos 0, pos 0) ∷ drop (i + 1) others) = subst (λ (z : Ranges). Walk low old others out z) (drop_more others i (pos 0, pos 0) inside) walk in
    record { are = here.are; range = one_range (get_or others i (pos 0, pos 0)) (drop (i + 1) others) here.rest_are; begun = here.turn.0 }

pub walk_stops : (low : ℤ) (old others out : Ranges) (i : ℕ) → i < length others → Walk low old others out (drop i others) → int_le low (get_or others i (pos 0, pos 0)).0 ≡ true → JoinsBefore low old others out (drop i others)
walk_stops low old others out i inside walk is =
    let r = get_or others i (pos 0, pos 0) in
    let here : AreRanges (r ∷ drop (i + 1) others) = subst (λ (z : Ranges). AreRanges z) (drop_more others i (pos 0, pos 0) inside) walk.rest_are in
    let le : low ≤ℤ r.0 = true_le low r.0 is in
    record {
      are = walk.are;
      left_are = walk.rest_are;
      turn = walk.turn;
      behind = subst (λ (z : Ranges). Begins low z) (sym (drop_more others i (pos 0, pos 0) inside)) (le, begins_weaker low r.0 (drop (i + 1) others) (rest_begins (bottom -ℤ pos 1) r (drop (i + 1) others) here) le);
      numbers = walk.numbers;
      begun = walk.begun;
    }

-- both sets were gone over up to here
pub record Both (a b out own rest : Ranges) : Type 0 where
  pub are : AreRanges out
  pub own_are : AreRanges own
  pub rest_are : AreRanges rest
  pub own_turn : InTurn out own
  pub turn : InTurn out rest
  pub numbers : (x : ℤ) → (has out x || (has own x || has rest x)) ≡ (has a x || has b x)

nothing_in_turn : (s : Ranges) → InTurn [] s
nothing_in_turn [] = tt
nothing_in_turn (r ∷ s) = (tt, nothing_in_turn s)

pub both_begin : (a b : Ranges) → AreRanges a → AreRanges b → Both a b [] a b
both_begin a b h k = record { are = tt; own_are = h; rest_are = k; own_turn = nothing_in_turn a; turn = nothing_in_turn b; numbers = λ x. refl }

pub both_can : (a b out out' own rest left : Ranges) (r : ℤ × ℤ) → Both a b out (r ∷ own) rest → JoinsBefore r.0 out rest out' left → CanJoin out' r
both_can a b out out' own rest left r both before = record { are = before.are; range = one_range r own both.own_are; begun = before.begun r.0 (omega (arith, ints)) both.own_turn.0 }

rearranged : (o p q i w l : Bool) → (o || l) ≡ (p || q) → ((o || i) || (w || l)) ≡ (p || ((i || w) || q))
rearranged true p q i w l e = (let f : true ≡ (p || q) = e in any p q i w f)
  where
    any : (p q i w : Bool) → true ≡ (p || q) → true ≡ (p || ((i || w) || q))
    any true q i w f = refl
    any false q true w f = refl
    any false q false true f = refl
    any false q false false f = f
rearranged false p q true w l e = (let f : l ≡ (p || q) = e in one p q w)
  where
    one : (p q w : Bool) → true ≡ (p || ((true || w) || q))
    one true q w = refl
    one false q w = refl
rearranged false p q false true l e = one p q
  where
    one : (p q : Bool) → true ≡ (p || ((false || true) || q))
    one true q = refl
    one false q = refl
rearranged false p q false false l e = e

pub both_turn : (a b out out' out'' own rest left : Ranges) (r : ℤ × ℤ) → Both a b out (r ∷ own) rest → JoinsBefore r.0 out rest out' left → Joins out' r out'' → Both a b out'' own left
both_turn a b out out' out'' own rest left r both before joins = record {
  are = joins.are;
  own_are = rest_above (bottom -ℤ pos 1) r own both.own_are;
  rest_are = before.left_are;
  own_turn = turn_weaker out out'' own r.0 (rest_begins (bottom -ℤ pos 1) r own both.own_are) (λ l le h. joins.begun l le (before.begun l le h)) both.own_turn.1;
  turn = turn_weaker out' out'' left r.0 before.behind joins.begun before.turn;
  numbers = λ x. ap (λ (z : Bool). z || (has own x || has left x)) (joins.numbers x) ∙ (rearranged (has out' x) (has out x) (has rest x) (is_in x r) (has own x) (has left x) (before.numbers x) ∙ both.numbers x);
}

none_left : (b : ℤ) (s : Ranges) → Above b s → Begins (top +ℤ pos 1) s → s ≡ []
none_left b [] h k = refl
none_left b (r ∷ s) h k = absurd (let p = h.1 in let q = h.2 in let l = k.0 in omega (arith, ints))

pub both_end : (a b out out' rest left : Ranges) → Both a b out [] rest → JoinsBefore (top +ℤ pos 1) out rest out' left → (x : ℤ) → has out' x ≡ (has a x || has b x)
both_end a b out out' rest left both before x =
    let none : left ≡ [] = none_left (bottom -ℤ pos 1) left before.left_are before.behind in
    sym (or_nothing (has out' x)) ∙ (subst (λ (z : Ranges). (has out' x || has z x) ≡ (has out x || has rest x)) none (before.numbers x) ∙ both.numbers x)

-- the range at hand, and those behind it
pub both_at : (a b out rest items : Ranges) (i : ℕ) → items ≡ a → i < length items → Both a b out (drop i a) rest → Both a b out (get_or items i (pos 0, pos 0) ∷ drop (i + 1) a) rest
both_at a b out rest items i e inside both =
    subst (λ (z : Ranges). i < length z → Both a b out (get_or z i (pos 0, pos 0) ∷ drop (i + 1) a) rest) (sym e)
    (λ (k : i < length a). subst (λ (z : Ranges). Both a b out z rest) (drop_more a i (pos 0, pos 0) k) both) inside

pub both_over : (a b out rest items : Ranges) (i : ℕ) → items ≡ a → length items ≤ i → Both a b out (drop i a) rest → Both a b out [] rest
both_over a b out rest items i e over both = (let le : length a ≤ i = rw e at over in subst (λ (z : Ranges). Both a b out z rest) (drop_of_length-le a le) both)
