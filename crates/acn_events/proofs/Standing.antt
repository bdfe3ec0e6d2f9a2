-- What the events so far tell of a state holds of it: each event that comes in good order leads from one mark to the next.
use Rattle.std.proofs.Common.{◌≡◌, ℕ, zero, suc, ◌+◌, ◌-◌, ◌*◌, ◌≤◌, ℤ, pos, Bool, true, false, not, ◌&&◌, ◌||◌, List, [], ◌∷◌, ◌++◌, length, take, drop, replicate, Option, Some, None, nat_eq, IsTrue, refl, sym, ap, ◌∙◌, subst, arith, append-nil, length-append}
use Rattle.std.specs.Prelude.{if◌then◌else◌}
use Rattle.std.proofs.lemmas.Bool.{eqb-true}
use Rattle.std.proofs.lemmas.List.{length-replicate}
use Rattle.acn_num.specs.Bits.{low_bits}
use Rattle.acn_num.specs.Ranges.{In, has}
use Rattle.acn_num.proofs.BitLists.{length-low_bits}
use Rattle.acn_bits.specs.Overwrite.{Gap, overwritten}
use Rattle.acn_fill.specs.Table.{Table, Keeps, KeepsSpot, OneMore, begun, gap_at, spot_of, avoided_on}
use Rattle.acn_fill.specs.declared.spot.Spot.{Spot}
use Rattle.acn_grammar.specs.Asks.{Ask, Equal}
use Rattle.acn_grammar.specs.AsksOn.{on, LeastAnswer, size_asks_on}
use Rattle.acn_grammar.specs.Check.{HasOneWidth}
use Rattle.acn_grammar.specs.Code.{Any, Written, Code}
use Rattle.acn_grammar.specs.Env.{Env}
use Rattle.acn_grammar.specs.Grammar.{Grammar}
use Rattle.acn_grammar.specs.Interval.{width_of}
use Rattle.acn_grammar.specs.Leaves.{num_fine}
use Rattle.acn_grammar.specs.Length.{least, num_length, padding, rule_width, text_length}
use Rattle.acn_grammar.specs.Scoped.{with_slot}
use Rattle.acn_grammar.specs.Slots.{domain_of, slot_leaf}
use Rattle.acn_grammar.specs.Spell.{RulePart, EndedPart}
use Rattle.acn_grammar.specs.declared.node.NumLeaf.{NumLeaf}
use Rattle.acn_grammar.specs.declared.node.SizeRule.{SizeRule}
use Rattle.acn_grammar.specs.declared.node.SizeRule.TheVariants.{Prefix, Slot, Ended}
use Rattle.acn_grammar.specs.declared.node.Sizing.{Sizing}
use Rattle.acn_grammar.specs.declared.node.TextLeaf.{TextLeaf}
use Rattle.acn_grammar.proofs.Characters.{characters_long}
use Rattle.acn_grammar.proofs.LeafLengths.{code-length}
use Rattle.acn_grammar.proofs.SpellLength.{then_sums}
use Rattle.acn_grammar.proofs.WidthLaw.{width_holds}
use Rattle.acn_packet_laws.proofs.Codes.{each_number_has_a_code}
use Rattle.acn_text.specs.Steps.{size_bits}
use Rattle.acn_text.specs.Texts.{SlotSays, TextCode, given_size}
use Rattle.acn_events.specs.Event.{Event, Frame, State, aligns, copies, begins, puts, sizes, codes, texts, opens, notes, wants, fills, enters, closes, base_of, position, octets_in, leaf_of, leaves_without}
use Rattle.acn_events.specs.Laws.{first_state}
use Rattle.acn_events.specs.Marks.{Mark, first_mark, marked, start_of, rest_of, Right, AllRight, CanBeClosed, OpensRight, ends, depth_of}
use Rattle.acn_events.specs.Steps.{put, entered, tail_of, IsBegun, Ends, Room, Can, Opens, Notes, FillsGap, Closes, Does, Step, Run, gap_of}
use Rattle.acn_events.proofs.Keeping.{Kept, kept_one, kept_noted, kept_opened, kept_ended, same_begun, same_gap}
use Rattle.acn_events.proofs.Right.{domain_is}
use Rattle.acn_events.proofs.Small.{truth, if_yes, if_no, eq_turn, eq_here, none_behind, one_width}

-- Lengths.

long_take : (n : ℕ) (xs : List Bool) → n ≤ length xs → length (take n xs) ≡ n
long_take zero xs h = refl
long_take (suc n) [] h = absurd (omega arith)
long_take (suc n) (x ∷ xs) h = ap suc (long_take n xs (omega arith))

long_drop : (n : ℕ) (xs : List Bool) → n ≤ length xs → n + length (drop n xs) ≡ length xs
long_drop zero xs h = omega arith
long_drop (suc n) [] h = absurd (omega arith)
long_drop (suc n) (x ∷ xs) h = let r = long_drop n xs (omega arith) in omega (arith, r)

pub long_over : (all : List Bool) (at : ℕ) (piece : List Bool) → at + length piece ≤ length all → length (overwritten all at piece) ≡ length all
long_over all at piece h =
    let a = length-append (take at all) (piece ++ drop (at + length piece) all) in
    let b = length-append piece (drop (at + length piece) all) in
    let c = long_take at all (omega (arith, h)) in
    let d = long_drop (at + length piece) all h in
    omega (arith, a, b, c, d)

pub size_long : (rule : SizeRule) (n : ℕ) → length (size_bits rule n) ≡ rule_width rule
size_long (Prefix low width) n = length-low_bits width (n - low)
size_long (Slot s) n = refl
size_long (Ended p) n = refl

-- the numbers under which the size of a text is told
pub says_size : (rule : SizeRule) (n : ℕ) → (env : Env) × SlotSays rule (given_size rule n) env
says_size (Prefix low width) n = ([], tt)
says_size (Slot s) n = ((s, pos n) ∷ [], (n, refl, if_yes (nat_eq s s) (Some (pos n)) None (eq_here s)))
says_size (Ended p) n = ([], tt)

rule_long : (rule : SizeRule) (env : Env) (n at : ℕ) (bs : List Bool) → RulePart rule env n at bs → length bs ≡ rule_width rule
rule_long (Prefix low width) env n at bs p = p.spelled.width
rule_long (Slot s) env n at bs p = ap length p.1
rule_long (Ended q) env n at bs p = absurd p.0

ended_long : (end : Option (List Bool)) (leaf : TextLeaf) (env : Env) (cs : List ℕ) (at : ℕ) (bs : List Bool) → EndedPart end leaf env cs at bs → length bs ≡ text_length end leaf (length cs)
ended_long None leaf env cs at bs t =
    then_sums t (rule_width leaf.sized.rule) (λ n. leaf.width * length cs) (rule_long leaf.sized.rule env (length cs) at t.front t.first.spelled) (characters_long leaf cs (at + length t.front) t.back t.second)
ended_long (Some end) leaf env cs at bs t =
    then_sums t.spelled (leaf.width * length cs) (λ n. length end) (characters_long leaf cs at t.spelled.front t.spelled.first) (ap length t.spelled.second)

pub text_long : (leaf : TextLeaf) (cs : List ℕ) (bs : List Bool) → TextCode leaf (given_size leaf.sized.rule (length cs)) cs bs → length bs ≡ text_length leaf.ended leaf (length cs)
text_long leaf cs bs t = let e = says_size leaf.sized.rule (length cs) in ended_long leaf.ended leaf e.0 cs 0 bs (t e.0 0 e.1)

-- what is kept says a permitted number
pub keeps_least : (set : List (ℤ × ℤ)) (wanted : List Ask) (t : Table) (s : ℕ) → Keeps set wanted t s → (x : ℤ) × LeastAnswer set wanted x
keeps_least set wanted t s k = by (spot_of s t.spots) k
  where
    by : (o : Option Spot) → KeepsSpot set wanted o (avoided_on s t.avoided) → (x : ℤ) × LeastAnswer set wanted x
    by None k = absurd k
    by (Some e) k = (e.least, k.keeps.answer)

-- the width of a hole is that of the least number
pub hole_width : (leaf : NumLeaf) (w : ℕ) (x : ℤ) → IsTrue (num_fine leaf) → HasOneWidth leaf → width_of leaf ≡ Some w → In leaf.set x → (num_length leaf (least leaf.set) ≡ w) × (num_length leaf x ≡ w)
hole_width leaf w x fine one is p =
    let c = each_number_has_a_code Any leaf fine x p in
    let l : num_length leaf x ≡ w = sym (code-length Any leaf fine x c.0 c.1) ∙ width_holds leaf w fine is x c.0 c.1 in
    (sym (one_width leaf fine one x p) ∙ l, l)

pub code_width : (leaf : NumLeaf) (w : ℕ) (x : ℤ) (bs : List Bool) → IsTrue (num_fine leaf) → width_of leaf ≡ Some w → Code Written leaf x bs → length bs ≡ w
code_width leaf w x bs fine is code =
    let c = each_number_has_a_code Any leaf fine x code.permitted in
    code-length Written leaf fine x bs code ∙ (sym (code-length Any leaf fine x c.0 c.1) ∙ width_holds leaf w fine is x c.0 c.1)

-- Leaves of slots.

leaf_new : (s t : ℕ) (leaf : NumLeaf) (ls : List (ℕ × NumLeaf)) → nat_eq t s ≡ false → leaf_of t ((s, leaf) ∷ ls) ≡ leaf_of t ls
leaf_new s t leaf ls n = if_no (nat_eq s t) (Some leaf) (leaf_of t ls) (eq_turn t s n)

leaf_left : (s t : ℕ) (ls : List (ℕ × NumLeaf)) → nat_eq t s ≡ false → leaf_of t (leaves_without s ls) ≡ leaf_of t ls
leaf_left s t [] n = refl
leaf_left s t (e ∷ es) n = truth {F = leaf_of t (if nat_eq e.0 s then es else e ∷ leaves_without s es) ≡ leaf_of t (e ∷ es)} (nat_eq e.0 s)
    (λ y. ap (leaf_of t) (if_yes (nat_eq e.0 s) es (e ∷ leaves_without s es) y) ∙ sym (if_no (nat_eq e.0 t) (Some e.1) (leaf_of t es) (other y)))
    (λ y. ap (leaf_of t) (if_no (nat_eq e.0 s) es (e ∷ leaves_without s es) y) ∙ ap (λ (o : Option NumLeaf). if nat_eq e.0 t then Some e.1 else o) (leaf_left s t es n))
  where
    other : nat_eq e.0 s ≡ true → nat_eq e.0 t ≡ false
    other y = eq_turn t e.0 (subst (λ (z : ℕ). nat_eq t z ≡ false) (sym (eqb-true e.0 s y)) n)

-- The hole of a slot lies behind the writer, and has the width of the slot's leaf.
pub record HoleStands (root : Grammar) (s : ℕ) (g : Gap) (ls : List (ℕ × NumLeaf)) (place : ℕ) : Type 0 where
  pub leaf : NumLeaf
  pub found : leaf_of s ls ≡ Some leaf
  pub of_slot : slot_leaf root s ≡ Some leaf
  pub fine : IsTrue (num_fine leaf)
  pub width : width_of leaf ≡ Some g.width
  pub passed : g.place + g.width ≤ place

abbrev pub GapStands : (root : Grammar) → (s : ℕ) → Option (Option Gap) → List (ℕ × NumLeaf) → (place : ℕ) → Type 0
GapStands root s None ls place = ⊥
GapStands root s (Some None) ls place = Unit {0}
GapStands root s (Some (Some g)) ls place = HoleStands root s g ls place

-- The size of contents stands in a hole directly before them, or nowhere.
abbrev pub FrameStands : SizeRule → Frame → Type 0
FrameStands (Prefix low width) f = (g : Gap) × (f.gap ≡ Some g) × (g.width ≡ width) × (g.place + g.width ≡ f.base)
FrameStands (Slot s) f = f.gap ≡ None
FrameStands (Ended p) f = ⊥

abbrev pub AllStand : List Frame → List (ℕ × SizeRule) → Type 0
AllStand [] [] = Unit {0}
AllStand (f ∷ fs) (o ∷ os) = (f.base ≡ base_of fs + o.0) × FrameStands o.1 f × AllStand fs os
AllStand _ _ = ⊥

pub base_depth : (fs : List Frame) (os : List (ℕ × SizeRule)) → AllStand fs os → (base_of fs ≡ depth_of os) × (length fs ≡ length os)
base_depth [] [] h = (refl, refl)
base_depth [] (o ∷ os) h = absurd h
base_depth (f ∷ fs) [] h = absurd h
base_depth (f ∷ fs) (o ∷ os) h = let r = base_depth fs os h.2 in let a = h.0 in let b = r.0 in (omega (arith, a, b), ap suc r.1)

pub record Stands (root : Grammar) (size : ℕ) (p : Mark) (m : State) : Type 0 where
  pub long : length m.buf ≡ size
  pub place : m.place ≡ base_of m.contents + p.at
  pub within : m.place ≤ size
  pub contents : AllStand m.contents p.outer
  pub known : (s : ℕ) → begun m.table s ≡ p.known s
  pub keeps : (s : ℕ) → Kept (domain_of root s) (p.asked s) m.table s
  pub holes : (s : ℕ) → begun m.table s ≡ true → GapStands root s (gap_at m.table s) m.leaves m.place

pub stands_at : (root : Grammar) (size : ℕ) (p : Mark) (m : State) → Stands root size p m → position m ≡ p.at
stands_at root size p m a = let e = a.place in omega (arith, e)

pub octets_are : (root : Grammar) (size : ℕ) (p : Mark) (m : State) (n : ℕ) → Stands root size p m → p.at ≡ 8 * n → octets_in m ≡ n
octets_are root size p m n a e = let l = stands_at root size p m a ∙ e in omega (arith, l)

gap_moved : (root : Grammar) (s : ℕ) (o : Option (Option Gap)) (ls ls' : List (ℕ × NumLeaf)) (place place' : ℕ) → leaf_of s ls' ≡ leaf_of s ls → place ≤ place' → GapStands root s o ls place → GapStands root s o ls' place'
gap_moved root s None ls ls' place place' e l h = h
gap_moved root s (Some None) ls ls' place place' e l h = tt
gap_moved root s (Some (Some g)) ls ls' place place' e l h = (let w = h.passed in record { leaf = h.leaf; found = e ∙ h.found; of_slot = h.of_slot; fine = h.fine; width = h.width; passed = omega (arith, w, l) })

module _ (root : Grammar) (size : ℕ) where
  -- bits are put
  stands_put : (p q : Mark) (m : State) (bs : List Bool) (k : ℕ) → length bs ≡ k → q.at ≡ p.at + k → q.outer ≡ p.outer → ((s : ℕ) → q.known s ≡ p.known s) → ((s : ℕ) → q.asked s ≡ p.asked s) → Room k m → Stands root size p m → Stands root size q (put bs m)
  stands_put p q m bs k l a o n w room h =
      let e = h.place in
      let r : m.place + length bs ≤ length m.buf = omega (arith, room, l) in
      record {
        long = long_over m.buf m.place bs r ∙ h.long;
        place = omega (arith, l, a, e);
        within = (let b = h.long in omega (arith, r, b));
        contents = subst (λ (z : List (ℕ × SizeRule)). AllStand m.contents z) (sym o) h.contents;
        known = λ s. h.known s ∙ sym (n s);
        keeps = λ s. subst (λ (z : List Ask). Kept (domain_of root s) z m.table s) (sym (w s)) (h.keeps s);
        holes = λ s b. gap_moved root s (gap_at m.table s) m.leaves m.leaves m.place (m.place + length bs) refl (omega arith) (h.holes s b);
      }

  -- a slot is asked
  stands_asked : (p q : Mark) (m n : State) (t : ℕ) (a : Ask) → q.at ≡ p.at → q.outer ≡ p.outer → ((s : ℕ) → q.known s ≡ p.known s) → ((s : ℕ) → q.asked s ≡ p.asked s ++ on s t a) → begun m.table t ≡ true → OneMore t a m.table n.table
      → n.buf ≡ m.buf → n.place ≡ m.place → n.contents ≡ m.contents → n.leaves ≡ m.leaves → Stands root size p m → Stands root size q n
  stands_asked p q m n t a at o k w b more buf place contents leaves h = record {
    long = ap length buf ∙ h.long;
    place = place ∙ (h.place ∙ (ap (λ z. base_of m.contents + z) (sym at) ∙ ap (λ z. base_of z + q.at) (sym contents)));
    within = (let b = h.within in omega (arith, b, place));
    contents = subst (λ (z : List Frame). AllStand z q.outer) (sym contents) (subst (λ (z : List (ℕ × SizeRule)). AllStand m.contents z) (sym o) h.contents);
    known = λ s. same_begun s m.table n.table more.holes ∙ (h.known s ∙ sym (k s));
    keeps = λ s. subst (λ (z : List Ask). Kept (domain_of root s) z n.table s) (sym (w s)) (kept_one (domain_of root) t a m.table n.table b more s (p.asked s) (h.keeps s));
    holes = λ s c.
        subst (λ (z : Option (Option Gap)). GapStands root s z n.leaves n.place) (sym (same_gap s m.table n.table more.holes))
        (gap_moved root s (gap_at m.table s) m.leaves n.leaves m.place n.place (ap (leaf_of s) leaves) (omega (arith, place)) (h.holes s (sym (same_begun s m.table n.table more.holes) ∙ c)));
  }

  -- a slot is begun: the others stand as they stood
  begun_known : (p : Mark) (t : ℕ) (gap : Option Gap) (old new : Table) → IsBegun t gap old new → ((s : ℕ) → begun old s ≡ p.known s) → (s : ℕ) → begun new s ≡ with_slot t p.known s
  begun_known p t gap old new b h s = truth {F = begun new s ≡ (nat_eq t s || p.known s)} (nat_eq t s)
      (λ y. ap (begun new) (sym (eqb-true t s y)) ∙ (b.is_begun ∙ sym (ap (λ z. z || p.known s) y)))
      (λ y. (b.rest s (eq_turn t s y)).begun_as ∙ (h s ∙ sym (ap (λ z. z || p.known s) y)))

  begun_holes : (t : ℕ) (gap : Option Gap) (old new : Table) (ls ls' : List (ℕ × NumLeaf)) (place place' : ℕ) → IsBegun t gap old new → ((s : ℕ) → nat_eq s t ≡ false → leaf_of s ls' ≡ leaf_of s ls) → place ≤ place'
      → GapStands root t (Some gap) ls' place' → ((s : ℕ) → begun old s ≡ true → GapStands root s (gap_at old s) ls place) → (s : ℕ) → begun new s ≡ true → GapStands root s (gap_at new s) ls' place'
  begun_holes t gap old new ls ls' place place' b e l mine h s c = truth {F = GapStands root s (gap_at new s) ls' place'} (nat_eq t s)
      (λ y. subst (λ (z : ℕ). GapStands root z (gap_at new z) ls' place') (eqb-true t s y) (subst (λ (z : Option (Option Gap)). GapStands root t z ls' place') (sym b.own) mine))
      (λ y.
      let n = eq_turn t s y in
      let r = b.rest s n in
      let was = sym r.begun_as ∙ c in
      subst (λ (z : Option (Option Gap)). GapStands root s z ls' place') (sym (r.gap_as was)) (gap_moved root s (gap_at old s) ls ls' place place' (e s n) l (h s was)))

  stands_noted : (p : Mark) (m n : State) (path : List ℕ) (t : ℕ) (set : List (ℤ × ℤ)) (x : ℤ) → (p.known t ≡ false) × (domain_of root t ≡ set) → Notes t set x m n → Stands root size p m → Stands root size (marked (notes path t set x) p) n
  stands_noted p m n path t set x r d h =
      let q = marked (notes path t set x) p in
      let fresh = h.known t ∙ r.0 in
      let keeps : Keeps (domain_of root t) (Equal x ∷ []) n.table t = subst (λ (z : List (ℤ × ℤ)). Keeps z (Equal x ∷ []) n.table t) (sym r.1) d.keeps in
      subst (λ (z : State). Stands root size q z) (sym d.next) (record {
        long = h.long;
        place = h.place ∙ ap (λ z. base_of m.contents + z) (sym (none_behind p.at));
        within = h.within;
        contents = h.contents;
        known = begun_known p t None m.table n.table d.begun_so h.known;
        keeps = λ s. kept_noted (domain_of root) t (Equal x) m.table n.table fresh keeps d.begun_so.others s (p.asked s) (h.keeps s);
        holes = begun_holes t None m.table n.table m.leaves m.leaves m.place m.place d.begun_so (λ s e. refl) (omega arith) tt h.holes;
      })

  stands_opened : (p : Mark) (m n : State) (t : ℕ) (leaf : NumLeaf) → OpensRight root t leaf p → Can (opens t leaf) m → Opens t leaf m n → Stands root size p m → Stands root size (marked (opens t leaf) p) n
  stands_opened p m n t leaf r can d h =
      let q = marked (opens t leaf) p in
      let w = d.width in
      let some = keeps_least leaf.set [] n.table t d.keeps in
      let wide = hole_width leaf w some.0 r.fine r.width d.is_width some.1.answers.permitted in
      let same : can.1 ≡ w = one (sym can.2 ∙ d.is_width) in
      let room = can.4 in
      let zeros = length-replicate w false in
      let fresh = h.known t ∙ r.fresh in
      let set : domain_of root t ≡ leaf.set = domain_is root t leaf r.of_slot in
      let keeps : Keeps (domain_of root t) [] n.table t = subst (λ (z : List (ℤ × ℤ)). Keeps z [] n.table t) (sym set) d.keeps in
      let e = h.place in
      let wide1 = wide.0 in
      subst (λ (z : State). Stands root size q z) (sym d.next) (record {
        long = long_over m.buf m.place (replicate w false) (omega (arith, room, same, zeros)) ∙ h.long;
        place = omega (arith, e, wide1);
        within = (let b = h.long in omega (arith, room, same, b));
        contents = h.contents;
        known = begun_known p t (Some (record { place = m.place; width = w })) m.table n.table d.begun_so h.known;
        keeps = λ s. subst (λ (z : List Ask). Kept (domain_of root s) z n.table s) (sym (append-nil (p.asked s))) (kept_opened (domain_of root) t m.table n.table fresh keeps d.begun_so.others s (p.asked s) (h.keeps s));
        holes = begun_holes t (Some (record { place = m.place; width = w })) m.table n.table m.leaves ((t, leaf) ∷ m.leaves) m.place (m.place + w) d.begun_so (λ s k. leaf_new t s leaf m.leaves k) (omega arith)
            (record { leaf = leaf; found = if_yes (nat_eq t t) (Some leaf) (leaf_of t m.leaves) (eq_here t); of_slot = r.of_slot; fine = r.fine; width = d.is_width; passed = omega arith }) h.holes;
      })
    where
      one : {a b : ℕ} → Some a ≡ Some b → a ≡ b
      one e = cc

  -- a slot is ended
  ended_known : (p : Mark) (t : ℕ) (old new : Table) → Ends t old new → ((s : ℕ) → begun old s ≡ p.known s) → (s : ℕ) → begun new s ≡ (p.known s && not (nat_eq t s))
  ended_known p t old new d h s = truth {F = begun new s ≡ (p.known s && not (nat_eq t s))} (nat_eq t s)
      (λ y. ap (begun new) (sym (eqb-true t s y)) ∙ (d.ended ∙ never (p.known s) (nat_eq t s) y))
      (λ y. (d.rest s (eq_turn t s y)).begun_as ∙ (h s ∙ still (p.known s) (nat_eq t s) y))
    where
      never : (a b : Bool) → b ≡ true → false ≡ (a && not b)
      never true b e = cc
      never false b e = refl

      still : (a b : Bool) → b ≡ false → a ≡ (a && not b)
      still true b e = cc
      still false b e = refl

  ended_holes : (t : ℕ) (old new : Table) (ls ls' : List (ℕ × NumLeaf)) (place : ℕ) → Ends t old new → ((s : ℕ) → nat_eq s t ≡ false → leaf_of s ls' ≡ leaf_of s ls)
      → ((s : ℕ) → begun old s ≡ true → GapStands root s (gap_at old s) ls place) → (s : ℕ) → begun new s ≡ true → GapStands root s (gap_at new s) ls' place
  ended_holes t old new ls ls' place d e h s c = truth {F = GapStands root s (gap_at new s) ls' place} (nat_eq t s)
      (λ y. (let never = sym c ∙ (ap (begun new) (sym (eqb-true t s y)) ∙ d.ended) in cc))
      (λ y.
      let n = eq_turn t s y in
      let r = d.rest s n in
      let was = sym r.begun_as ∙ c in
      subst (λ (z : Option (Option Gap)). GapStands root s z ls' place) (sym (r.gap_as was)) (gap_moved root s (gap_at old s) ls ls' place place (e s n) (omega arith) (h s was)))

  -- what is left of a state where a slot is ended
  stands_ended : (p : Mark) (m n : State) (t : ℕ) (buf : List Bool) (ls : List (ℕ × NumLeaf)) → n ≡ record { buf = buf; place = m.place; table = n.table; leaves = ls; contents = m.contents } → length buf ≡ size → ((s : ℕ) → nat_eq s t ≡ false → leaf_of s ls ≡ leaf_of s m.leaves)
      → Ends t m.table n.table → Stands root size p m → Stands root size (marked (fills t) p) n
  stands_ended p m n t buf ls next long e d h =
      subst (λ (z : State). Stands root size (marked (fills t) p) z) (sym next) (record {
        long = long;
        place = h.place ∙ ap (λ z. base_of m.contents + z) (sym (none_behind p.at));
        within = h.within;
        contents = h.contents;
        known = ended_known p t m.table n.table d h.known;
        keeps = λ s. kept_ended (domain_of root) t m.table n.table d s (p.asked s) (h.keeps s);
        holes = ended_holes t m.table n.table m.leaves ls m.place d e h.holes;
      })

  stands_filled : (p : Mark) (m n : State) (t : ℕ) (o : Option (Option Gap)) → gap_at m.table t ≡ o → p.known t ≡ true → Ends t m.table n.table → FillsGap t o m n → Stands root size p m → Stands root size (marked (fills t) p) n
  stands_filled p m n t None is b d f h = absurd f
  stands_filled p m n t (Some None) is b d f h = stands_ended p m n t m.buf m.leaves f h.long (λ s e. refl) d h
  stands_filled p m n t (Some (Some g)) is b d f h =
      let hole : HoleStands root t g m.leaves m.place = subst (λ (z : Option (Option Gap)). GapStands root t z m.leaves m.place) is (h.holes t (h.known t ∙ b)) in
      let same : hole.leaf ≡ f.leaf = one hole.leaf f.leaf (sym hole.found ∙ f.of_slot) in
      let code : Code Written hole.leaf f.number f.code = subst (λ (z : NumLeaf). Code Written z f.number f.code) (sym same) f.codes in
      let wide = code_width hole.leaf g.width f.number f.code hole.fine hole.width code in
      let passed = hole.passed in
      let within = h.within in
      let long = h.long in
      stands_ended p m n t (overwritten m.buf g.place f.code) (leaves_without t m.leaves) f.next (long_over m.buf g.place f.code (omega (arith, wide, passed, within, long)) ∙ h.long) (λ s e. leaf_left t s m.leaves e) d h
    where
      one : (a b : NumLeaf) → Some a ≡ Some b → a ≡ b
      one a b e = cc

  -- contents are entered
  stands_entered : (p : Mark) (m : State) (rule : SizeRule) → Can (enters rule) m → Stands root size p m → Stands root size (marked (enters rule) p) (entered rule m)
  stands_entered p m (Prefix low width) can h =
      let zeros = length-replicate width false in
      let room = can.1.1 in
      let long = h.long in
      let place = h.place in
      record {
        long = long_over m.buf m.place (replicate width false) (omega (arith, room, zeros)) ∙ h.long;
        place = sym (none_behind (m.place + width));
        within = omega (arith, room, long);
        contents = (omega (arith, place), (record { place = m.place; width = width }, refl, refl, refl), h.contents);
        known = h.known;
        keeps = λ s. subst (λ (z : List Ask). Kept (domain_of root s) z m.table s) (sym (append-nil (p.asked s))) (h.keeps s);
        holes = λ s b. gap_moved root s (gap_at m.table s) m.leaves m.leaves m.place (m.place + width) refl (omega arith) (h.holes s b);
      }
  stands_entered p m (Slot t) can h =
      let place = h.place in
      record {
        long = h.long;
        place = sym (none_behind m.place);
        within = h.within;
        contents = (omega (arith, place), refl, h.contents);
        known = h.known;
        keeps = λ s. subst (λ (z : List Ask). Kept (domain_of root s) z m.table s) (sym (append-nil (p.asked s))) (h.keeps s);
        holes = h.holes;
      }
  stands_entered p m (Ended e) can h = absurd can.1

  -- Contents are ended.

  closed_place : (m : State) (at : ℕ) (start : ℕ) (rule : SizeRule) (rest : List (ℕ × SizeRule)) → AllStand m.contents ((start, rule) ∷ rest) → m.place ≡ base_of m.contents + at → (m.place ≡ base_of (tail_of m.contents) + (start + at)) × AllStand (tail_of m.contents) rest
  closed_place m at start rule rest h e = by m.contents h e
    where
      by : (fs : List Frame) → AllStand fs ((start, rule) ∷ rest) → m.place ≡ base_of fs + at → (m.place ≡ base_of (tail_of fs) + (start + at)) × AllStand (tail_of fs) rest
      by [] k e = absurd k
      by (f ∷ fs) k e = (let base = k.0 in omega (arith, base, e), k.2)

  frame_here : (fs : List Frame) (start : ℕ) (rule : SizeRule) (rest : List (ℕ × SizeRule)) → AllStand fs ((start, rule) ∷ rest) → (f : Frame) × (fs ≡ f ∷ tail_of fs) × FrameStands rule f × (gap_of fs ≡ f.gap)
  frame_here [] start rule rest h = absurd h
  frame_here (f ∷ fs) start rule rest h = (f, refl, h.1, refl)

  asked_none : (p : Mark) (m : State) (ask : ℕ → List Ask) → ((s : ℕ) → ask s ≡ []) → Stands root size p m → (s : ℕ) → Kept (domain_of root s) (p.asked s ++ ask s) m.table s
  asked_none p m ask none h s = subst (λ (z : List Ask). Kept (domain_of root s) z m.table s) (sym (ap (λ z. p.asked s ++ z) (none s) ∙ append-nil (p.asked s))) (h.keeps s)

  closes_by : (p : Mark) (m n : State) (path : List ℕ) (sizing : Sizing) (k start : ℕ) (rest : List (ℕ × SizeRule)) (rule : SizeRule) (gap : Option Gap) → sizing.rule ≡ rule → gap_of m.contents ≡ gap → AllStand m.contents ((start, rule) ∷ rest) → p.outer ≡ (start, rule) ∷ rest → octets_in m ≡ k
      → ((s : ℕ) → rule ≡ Slot s → begun m.table s ≡ true) → Closes rule (octets_in m) gap m n → Stands root size p m → Stands root size (marked (closes path sizing k) p) n
  closes_by p m n path sizing k start rest (Prefix low width) None is gap frames outer count begun' d h = absurd d
  closes_by p m n path sizing k start rest (Prefix low width) (Some g) is gap frames outer count begun' d h =
      let q = marked (closes path sizing k) p in
      let f = frame_here m.contents start (Prefix low width) rest frames in
      let hole = f.2 in
      let same : g ≡ hole.0 = one (sym gap ∙ (f.3 ∙ hole.1)) in
      let cs = low_bits width (octets_in m - low) in
      let base : base_of m.contents ≡ f.0.base = ap base_of f.1 in
      let wide = hole.2 in
      let ends = hole.3 in
      let place = h.place in
      let long = h.long in
      let within = h.within in
      let bits = length-low_bits width (octets_in m - low) in
      let at = ap (λ (z : Gap). z.place) same in
      let closed = closed_place m p.at start (Prefix low width) rest frames h.place in
      subst (λ (z : State). Stands root size q z) (sym d) (record {
        long = long_over m.buf g.place cs (omega (arith, wide, ends, base, place, long, within, bits, at)) ∙ h.long;
        place = closed.0 ∙ ap (λ z. base_of (tail_of m.contents) + (start_of z + p.at)) (sym outer);
        within = h.within;
        contents = subst (λ (z : List (ℕ × SizeRule)). AllStand (tail_of m.contents) z) (sym (ap rest_of outer)) closed.1;
        known = h.known;
        keeps = asked_none p m (λ s. size_asks_on s k sizing.rule) (λ s. ap (size_asks_on s k) is) h;
        holes = h.holes;
      })
    where
      one : {a b : Gap} → Some a ≡ Some b → a ≡ b
      one e = cc
  closes_by p m n path sizing k start rest (Slot t) gap is gap_is frames outer count begun' d h =
      let q = marked (closes path sizing k) p in
      let more : OneMore t (Equal (pos k)) m.table n.table = subst (λ (z : ℕ). OneMore t (Equal (pos z)) m.table n.table) count d.0 in
      let closed = closed_place m p.at start (Slot t) rest frames h.place in
      let there = begun' t refl in
      subst (λ (z : State). Stands root size q z) (sym d.1) (record {
        long = h.long;
        place = closed.0 ∙ ap (λ z. base_of (tail_of m.contents) + (start_of z + p.at)) (sym outer);
        within = h.within;
        contents = subst (λ (z : List (ℕ × SizeRule)). AllStand (tail_of m.contents) z) (sym (ap rest_of outer)) closed.1;
        known = λ s. same_begun s m.table n.table more.holes ∙ h.known s;
        keeps = λ s. subst (λ (z : SizeRule). Kept (domain_of root s) (p.asked s ++ size_asks_on s k z) n.table s) (sym is) (kept_one (domain_of root) t (Equal (pos k)) m.table n.table there more s (p.asked s) (h.keeps s));
        holes = λ s c. subst (λ (z : Option (Option Gap)). GapStands root s z m.leaves m.place) (sym (same_gap s m.table n.table more.holes)) (h.holes s (sym (same_begun s m.table n.table more.holes) ∙ c));
      })
  closes_by p m n path sizing k start rest (Ended e) gap is gap_is frames outer count begun' d h = absurd d

  stands_closed : (p : Mark) (m n : State) (path : List ℕ) (sizing : Sizing) (k : ℕ) → Right root (closes path sizing k) p → Does (closes path sizing k) m n → Stands root size p m → Stands root size (marked (closes path sizing k) p) n
  stands_closed p m n path sizing k r d h =
      closes_by p m n path sizing k r.start r.rest sizing.rule (gap_of m.contents) refl refl (subst (λ (z : List (ℕ × SizeRule)). AllStand m.contents z) r.outer h.contents) r.outer (octets_are root size p m k h r.octets)
      (λ s e. h.known s ∙ slot_known s sizing.rule e r.closes) d.1 h
    where
      slot_known : (s : ℕ) (rule : SizeRule) → rule ≡ Slot s → CanBeClosed rule p.known k (has sizing.sizes (pos k)) → p.known s ≡ true
      slot_known s (Prefix low width) e c = cc
      slot_known s (Slot t) e c = ap p.known (slot_is e) ∙ c
        where
          slot_is : Slot t ≡ Slot s → s ≡ t
          slot_is e = cc
      slot_known s (Ended q) e c = cc

  -- each event
  pub stands_on : (e : Event) (p : Mark) (m n : State) → Right root e p → Step e m n → Stands root size p m → Stands root size (marked e p) n
  stands_on (aligns a) p m n r d h =
      let k = padding a (position m) in
      subst (λ (z : State). Stands root size (marked (aligns a) p) z) (sym d.does)
      (stands_put p (marked (aligns a) p) m (replicate k false) k (length-replicate k false) (ap (λ z. p.at + padding a z) (sym (stands_at root size p m h))) refl (λ s. refl) (λ s. append-nil (p.asked s)) d.can.1 h)
  stands_on (copies bs) p m n r d h = subst (λ (z : State). Stands root size (marked (copies bs) p) z) (sym d.does) (stands_put p (marked (copies bs) p) m bs (length bs) refl refl refl (λ s. refl) (λ s. append-nil (p.asked s)) d.can h)
  stands_on (begins homes bs) p m n r d h = subst (λ (z : State). Stands root size (marked (begins homes bs) p) z) (sym d.does) (stands_put p (marked (begins homes bs) p) m bs (length bs) refl refl refl (λ s. refl) (λ s. append-nil (p.asked s)) d.can h)
  stands_on (puts width k) p m n r d h = subst (λ (z : State). Stands root size (marked (puts width k) p) z) (sym d.does) (stands_put p (marked (puts width k) p) m (low_bits width k) width (length-low_bits width k) refl refl (λ s. refl) (λ s. append-nil (p.asked s)) d.can.2 h)
  stands_on (sizes sizing k) p m n r d h =
      subst (λ (z : State). Stands root size (marked (sizes sizing k) p) z) (sym d.does.1) (stands_put p (marked (sizes sizing k) p) m (size_bits sizing.rule k) (rule_width sizing.rule) (size_long sizing.rule k) refl refl (λ s. refl) (λ s. append-nil (p.asked s)) d.can.1 h)
  stands_on (codes leaf x) p m n r d h =
      subst (λ (z : State). Stands root size (marked (codes leaf x) p) z) (sym d.does.2) (stands_put p (marked (codes leaf x) p) m d.does.0 (num_length leaf x) (code-length Written leaf r x d.does.0 d.does.1) refl refl (λ s. refl) (λ s. append-nil (p.asked s)) d.can h)
  stands_on (texts leaf cs) p m n r d h =
      let t = d.does.1 in
      subst (λ (z : State). Stands root size (marked (texts leaf cs) p) z) (sym t.2) (stands_put p (marked (texts leaf cs) p) m t.0 (text_length leaf.ended leaf (length cs)) (text_long leaf cs t.0 t.1) refl refl (λ s. refl) (λ s. append-nil (p.asked s)) d.can h)
  stands_on (opens t leaf) p m n r d h = stands_opened p m n t leaf r d.can d.does h
  stands_on (notes path t set x) p m n r d h = stands_noted p m n path t set x r d.does h
  stands_on (wants path t a) p m n r d h =
      let e = d.does.next in
      stands_asked p (marked (wants path t a) p) m n t a (none_behind p.at) refl (λ s. refl) (λ s. refl) d.can d.does.more (ap (λ (z : State). z.buf) e) (ap (λ (z : State). z.place) e) (ap (λ (z : State). z.contents) e) (ap (λ (z : State). z.leaves) e) h
  stands_on (fills t) p m n r d h = stands_filled p m n t (gap_at m.table t) refl r d.does.0 d.does.1 h
  stands_on (enters rule) p m n r d h = subst (λ (z : State). Stands root size (marked (enters rule) p) z) (sym d.does) (stands_entered p m rule d.can h)
  stands_on (closes path sizing k) p m n r d h = stands_closed p m n path sizing k r d.does h

  pub stands_along : (es : List Event) (p : Mark) (m n : State) → AllRight root es p → Run es m n → Stands root size p m → Stands root size (ends es p) n
  stands_along [] p m n r d h = subst (λ (z : State). Stands root size p z) (sym d) h
  stands_along (e ∷ es) p m n r d h = stands_along es (marked e p) d.0 n r.1 d.2 (stands_on e p m d.0 r.0 d.1 h)

-- a writer at the first bit, where nothing is begun
pub first_stands : (root : Grammar) (buf : List Bool) → Stands root (length buf) first_mark (first_state buf)
first_stands root buf = record { long = refl; place = refl; within = omega arith; contents = tt; known = λ s. refl; keeps = λ s. refl; holes = λ s b. cc }
