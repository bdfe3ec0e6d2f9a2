-- Which bits the events of a written value leave, with the numbers that the open slots will have; and that a buffer shows them.
use Rattle.std.proofs.Common.{◌≡◌, ℕ, ◌+◌, ◌-◌, ◌*◌, ℤ, Bool, true, false, ◌||◌, List, [], ◌∷◌, ◌++◌, length, take, drop, replicate, remove, Option, Some, None, nat_eq, IsTrue, refl, sym, ap, ◌∙◌, subst, arith, append_assoc, append-nil}
use Rattle.std.specs.List.{AllByRecursion}
use Rattle.std.proofs.lemmas.Bool.{eqb-true}
use Rattle.std.proofs.lemmas.List.{length-replicate}
use Rattle.acn_num.specs.Bits.{low_bits}
use Rattle.acn_num.proofs.BitLists.{length-low_bits}
use Rattle.acn_bits.specs.Overwrite.{Gap, overwritten}
use Rattle.acn_fill.specs.Table.{Table, Keeps, begun, gap_at, place}
use Rattle.acn_grammar.specs.Asks.{Ask}
use Rattle.acn_grammar.specs.AsksOn.{LeastAnswer}
use Rattle.acn_grammar.specs.Code.{Code, Written}
use Rattle.acn_grammar.specs.Env.{Env}
use Rattle.acn_grammar.specs.Grammar.{Grammar}
use Rattle.acn_grammar.specs.Leaves.{num_fine}
use Rattle.acn_grammar.specs.Length.{padding}
use Rattle.acn_grammar.specs.Slots.{domain_of, slot_leaf}
use Rattle.acn_grammar.specs.Spell.{RulePart, CharactersPart, EndedPart, TextPart}
use Rattle.acn_grammar.specs.declared.node.NumLeaf.{NumLeaf}
use Rattle.acn_grammar.specs.declared.node.SizeRule.{SizeRule}
use Rattle.acn_grammar.specs.declared.node.SizeRule.TheVariants.{Prefix, Slot, Ended}
use Rattle.acn_grammar.specs.declared.node.TextLeaf.{TextLeaf}
use Rattle.acn_num.proofs.BitLists.{number_same}
use Rattle.acn_grammar.proofs.LeafLengths.{code-length}
use Rattle.acn_packet_laws.proofs.OneWriting.{code_one}
use Rattle.acn_text.specs.Steps.{size_bits}
use Rattle.acn_events.specs.Event.{Event, Frame, State, aligns, copies, begins, puts, sizes, codes, texts, opens, notes, wants, fills, enters, closes, base_of, position, octets_in, leaf_of}
use Rattle.acn_events.specs.Marks.{Mark, marked, ends, Right, AllRight}
use Rattle.acn_events.specs.Steps.{IsBegun, Ends, Opens, Notes, Wants, FillsGap, Closes, Step, Run, CanEnter, gap_of, tail_of, put, with_table, entered, left, sized}
use Rattle.acn_events.proofs.Keeping.{kept_keeps, least_one, same_begun, same_gap}
use Rattle.acn_events.proofs.Showing.{Agrees, Shows, Stood, shows_put, shows_fill, shows_gap, stood_more, stood_new, open_gaps, open_none, open_removed, parts_local, parts_push, parts_remove, fits_gap}
use Rattle.acn_events.proofs.Small.{truth, eq_turn, none_behind}
use Rattle.acn_events.proofs.Standing.{AllStand, GapStands, Stands, hole_width, says_size, stands_on}

-- Contents that aren't ended: where they begin in what is round them, how many octets they will have, and the rule of their size.
pub record Pending : Type 0 where
  pub start : ℕ
  pub octets : ℕ
  pub rule : SizeRule

-- The numbers that slots will have, and where in its contents the writer stands.
pub record Writing : Type 0 where
  pub numbers : ℕ → Option ℤ
  pub at : ℕ
  pub outer : List Pending

abbrev pub forth : ℕ → Writing → Writing
forth n q = record { numbers = q.numbers; at = q.at + n; outer = q.outer }

abbrev pub has_home : List (ℕ × List ℕ) → ℕ → Bool
has_home [] s = false
has_home (h ∷ homes) s = nat_eq h.0 s || has_home homes s

-- contents of so many octets are ended
pub record EndsHere (rule : SizeRule) (q r : Writing) : Type 0 where
  pub pending : Pending
  pub rest : List Pending
  pub outer : q.outer ≡ pending ∷ rest
  pub of_rule : pending.rule ≡ rule
  pub whole : q.at ≡ 8 * pending.octets
  pub next : r ≡ record { numbers = q.numbers; at = pending.start + q.at; outer = rest }

-- what one event leaves, and others behind it
pub record WritesOne (P : Event → Mark → Writing → Writing → List Bool → Type 0) (Rest : Writing → List Bool → Type 0) (e : Event) (p : Mark) (q : Writing) (bs : List Bool) : Type 0 where
  pub front : List Bool
  pub back : List Bool
  pub mid : Writing
  pub whole : bs ≡ front ++ back
  pub first : P e p q mid front
  pub rest : Rest mid back

module _ (root : Grammar) where
  -- these bits are what an event leaves
  abbrev pub Writes : Event → Mark → (q r : Writing) → List Bool → Type 0
  Writes (aligns a) p q r bs = (bs ≡ replicate (padding a q.at) false) × (r ≡ forth (length bs) q)
  Writes (copies xs) p q r bs = (bs ≡ xs) × (r ≡ forth (length bs) q)
  Writes (begins homes xs) p q r bs = (bs ≡ xs) × (r.at ≡ q.at + length bs) × (r.outer ≡ q.outer) × ((s : ℕ) → has_home homes s ≡ false → r.numbers s ≡ q.numbers s)
  Writes (puts width n) p q r bs = (bs ≡ low_bits width n) × (r ≡ forth (length bs) q)
  Writes (sizes sizing n) p q r bs = (bs ≡ size_bits sizing.rule n) × (r ≡ forth (length bs) q)
  Writes (codes leaf x) p q r bs = Code Written leaf x bs × (r ≡ forth (length bs) q)
  Writes (texts leaf cs) p q r bs = ((env : Env) × (at : ℕ) × TextPart leaf env cs at bs) × (r ≡ forth (length bs) q)
  Writes (opens s leaf) p q r bs = ((x : ℤ) × (q.numbers s ≡ Some x) × Code Written leaf x bs) × (r ≡ forth (length bs) q)
  Writes (notes path s set x) p q r bs = (bs ≡ []) × (r ≡ q)
  Writes (wants path s a) p q r bs = (bs ≡ []) × (r ≡ q)
  Writes (fills s) p q r bs = (bs ≡ []) × (r ≡ q) × ((x : ℤ) × (q.numbers s ≡ Some x) × LeastAnswer (domain_of root s) (p.asked s) x)
  Writes (enters rule) p q r bs = (k : ℕ) × (bs ≡ size_bits rule k) × (r ≡ record { numbers = q.numbers; at = 0; outer = record { start = q.at + length bs; octets = k; rule = rule } ∷ q.outer })
  Writes (closes path sizing n) p q r bs = (bs ≡ []) × EndsHere sizing.rule q r

  -- and what several leave, one behind another
  abbrev pub Spelt : List Event → Mark → (q r : Writing) → List Bool → Type 0
  Spelt [] p q r bs = (bs ≡ []) × (r ≡ q)
  Spelt (e ∷ es) p q r bs = WritesOne Writes (λ mid back. Spelt es (marked e p) mid r back) e p q bs

pub spelt_then : (root : Grammar) (a b : List Event) (p : Mark) (q mid r : Writing) (x y : List Bool) → Spelt root a p q mid x → Spelt root b (ends a p) mid r y → Spelt root (a ++ b) p q r (x ++ y)
spelt_then root [] b p q mid r x y s t = subst (λ (z : List Bool). Spelt root b p q r (z ++ y)) (sym s.0) (subst (λ (z : Writing). Spelt root b p z r y) s.1 t)
spelt_then root (e ∷ a) b p q mid r x y s t = record {
  front = s.front;
  back = s.back ++ y;
  mid = s.mid;
  whole = ap (λ z. z ++ y) s.whole ∙ append_assoc s.front s.back y;
  first = s.first;
  rest = spelt_then root a b (marked e p) s.mid mid r s.back y s.rest t;
}

-- A text is put in one way.

rule_one : (rule : SizeRule) (env env' : Env) (n at at' : ℕ) (a b : List Bool) → RulePart rule env n at a → RulePart rule env' n at' b → a ≡ b
rule_one (Prefix low width) env env' n at at' a b p q = number_same a b (p.spelled.width ∙ sym q.spelled.width) (p.spelled.value ∙ sym q.spelled.value)
rule_one (Slot s) env env' n at at' a b p q = p.1 ∙ sym q.1
rule_one (Ended e) env env' n at at' a b p q = absurd p.0

both : (a b c d : List Bool) → a ≡ b → c ≡ d → a ++ c ≡ b ++ d
both a b c d p q = cc

characters_one : (leaf : TextLeaf) (cs : List ℕ) (at at' : ℕ) (a b : List Bool) → CharactersPart leaf cs at a → CharactersPart leaf cs at' b → a ≡ b
characters_one leaf [] at at' a b p q = p ∙ sym q
characters_one leaf (c ∷ cs) at at' a b p q =
    p.whole ∙ (both p.front q.front p.back q.back (number_same p.front q.front (p.first.spelled.width ∙ sym q.first.spelled.width) (p.first.spelled.value ∙ sym q.first.spelled.value)) (characters_one leaf cs (at + length p.front) (at' + length q.front) p.back q.back p.second q.second) ∙ sym q.whole)

text_one : (end : Option (List Bool)) (leaf : TextLeaf) (env env' : Env) (cs : List ℕ) (at at' : ℕ) (a b : List Bool) → EndedPart end leaf env cs at a → EndedPart end leaf env' cs at' b → a ≡ b
text_one None leaf env env' cs at at' a b p q =
    p.whole ∙ (both p.front q.front p.back q.back (rule_one leaf.sized.rule env env' (length cs) at at' p.front q.front p.first.spelled q.first.spelled) (characters_one leaf cs (at + length p.front) (at' + length q.front) p.back q.back p.second q.second) ∙ sym q.whole)
text_one (Some end) leaf env env' cs at at' a b p q =
    let u = p.spelled in
    let v = q.spelled in
    u.whole ∙ (both u.front v.front u.back v.back (characters_one leaf cs at at' u.front v.front u.first v.first) (u.second ∙ sym v.second) ∙ sym v.whole)

-- What a buffer shows.

abbrev pub cons_gap : Option Gap → List Gap → List Gap
cons_gap None gs = gs
cons_gap (Some g) gs = g ∷ gs

abbrev pub frame_gaps : List Frame → List Gap
frame_gaps [] = []
frame_gaps (f ∷ fs) = cons_gap f.gap (frame_gaps fs)

abbrev pub all_gaps : State → List Gap
all_gaps m = open_gaps m.table.gaps ++ frame_gaps m.contents

-- the slot's number is to stand in its hole
pub record SaysSlot (root : Grammar) (numbers : ℕ → Option ℤ) (ws : List Bool) (s : ℕ) (g : Gap) : Type 0 where
  pub leaf : NumLeaf
  pub number : ℤ
  pub is : numbers s ≡ Some number
  pub of_slot : slot_leaf root s ≡ Some leaf
  pub says : Stood (Code Written leaf number) ws g

-- the size of contents is to stand in the hole before them
abbrev pub SizeStands : Option Gap → Pending → List Bool → Type 0
SizeStands None o ws = Unit {0}
SizeStands (Some g) o ws = Stood (λ bs. bs ≡ size_bits o.rule o.octets) ws g

abbrev pub SizesStand : List Frame → List Pending → List Bool → Type 0
SizesStand [] [] ws = Unit {0}
SizesStand (f ∷ fs) (o ∷ os) ws = (f.base ≡ base_of fs + o.start) × SizeStands f.gap o ws × SizesStand fs os ws
SizesStand _ _ ws = ⊥

-- These bits stand written once all holes are filled.
pub record Held (root : Grammar) (q : Writing) (ws : List Bool) (m : State) : Type 0 where
  pub shows : Shows (all_gaps m) ws m.buf m.place
  pub says : (s : ℕ) (g : Gap) → begun m.table s ≡ true → gap_at m.table s ≡ Some (Some g) → SaysSlot root q.numbers ws s g
  pub sizes : SizesStand m.contents q.outer ws
  pub at : m.place ≡ base_of m.contents + q.at

size_more : (o : Option Gap) (p : Pending) (ws more : List Bool) → SizeStands o p ws → SizeStands o p (ws ++ more)
size_more None p ws more h = tt
size_more (Some g) p ws more h = stood_more {P = λ bs. bs ≡ size_bits p.rule p.octets} ws more g h

sizes_more : (fs : List Frame) (os : List Pending) (ws more : List Bool) → SizesStand fs os ws → SizesStand fs os (ws ++ more)
sizes_more [] [] ws more h = tt
sizes_more [] (o ∷ os) ws more h = h
sizes_more (f ∷ fs) [] ws more h = h
sizes_more (f ∷ fs) (o ∷ os) ws more h = (h.0, size_more f.gap o ws more h.1, sizes_more fs os ws more h.2)

-- the hole that is left at the next place
abbrev new_gap : State → (width : ℕ) → Gap
new_gap m w = record { place = m.place; width = w }

module _ (root : Grammar) where
  slot_more : (numbers : ℕ → Option ℤ) (ws more : List Bool) (s : ℕ) (g : Gap) → SaysSlot root numbers ws s g → SaysSlot root numbers (ws ++ more) s g
  slot_more numbers ws more s g h = record { leaf = h.leaf; number = h.number; is = h.is; of_slot = h.of_slot; says = stood_more {P = Code Written h.leaf h.number} ws more g h.says }

  slot_same : (numbers numbers' : ℕ → Option ℤ) (ws : List Bool) (s : ℕ) (g : Gap) → numbers' s ≡ numbers s → SaysSlot root numbers ws s g → SaysSlot root numbers' ws s g
  slot_same numbers numbers' ws s g e h = record { leaf = h.leaf; number = h.number; is = e ∙ h.is; of_slot = h.of_slot; says = h.says }

  pub held_put : (q : Writing) (ws bs : List Bool) (m : State) → Held root q ws m → Held root (forth (length bs) q) (ws ++ bs) (put bs m)
  held_put q ws bs m h =
      let e = h.at in
      record {
        shows = shows_put (all_gaps m) ws m.buf bs m.place (overwritten m.buf m.place bs) (m.place + length bs) refl refl h.shows;
        says = λ s g b i. slot_more q.numbers ws bs s g (h.says s g b i);
        sizes = sizes_more m.contents q.outer ws bs h.sizes;
        at = omega (arith, e);
      }

  -- under other numbers of slots that aren't begun
  held_numbers : (q r : Writing) (ws : List Bool) (m : State) → r.at ≡ q.at → r.outer ≡ q.outer → ((s : ℕ) → begun m.table s ≡ true → r.numbers s ≡ q.numbers s) → Held root q ws m → Held root r ws m
  held_numbers q r ws m a o e h = record {
    shows = h.shows;
    says = λ s g b i. slot_same q.numbers r.numbers ws s g (e s b) (h.says s g b i);
    sizes = subst (λ (z : List Pending). SizesStand m.contents z ws) (sym o) h.sizes;
    at = h.at ∙ ap (λ z. base_of m.contents + z) (sym a);
  }

  -- a table with the same holes
  held_table : (q : Writing) (ws : List Bool) (m n : State) → n ≡ with_table n.table m → open_gaps n.table.gaps ≡ open_gaps m.table.gaps
      → ((s : ℕ) (g : Gap) → begun n.table s ≡ true → gap_at n.table s ≡ Some (Some g) → (begun m.table s ≡ true) × (gap_at m.table s ≡ Some (Some g))) → Held root q ws m → Held root q ws n
  held_table q ws m n next gaps same h =
      subst (λ (z : State). Held root q ws z) (sym next) (record {
        shows = record { long = h.shows.long; agrees = subst (λ (z : List Gap). Agrees (z ++ frame_gaps m.contents) 0 ws m.buf) (sym gaps) h.shows.agrees };
        says = λ s g b i. (let r = same s g b i in h.says s g r.0 r.1);
        sizes = h.sizes;
        at = h.at;
      })

  held_asked : (q : Writing) (ws : List Bool) (m n : State) (t : ℕ) (a : Ask) → Wants t a m n → Held root q ws m → Held root q ws n
  held_asked q ws m n t a d h =
      held_table q ws m n d.next (ap open_gaps d.more.holes.gaps) (λ s g b i. (sym (same_begun s m.table n.table d.more.holes) ∙ b, sym (same_gap s m.table n.table d.more.holes) ∙ i)) h

  begun_rest : (t : ℕ) (gap : Option Gap) (old new : Table) → IsBegun t gap old new → (s : ℕ) → nat_eq t s ≡ false → (g : Gap) → begun new s ≡ true → gap_at new s ≡ Some (Some g) → (begun old s ≡ true) × (gap_at old s ≡ Some (Some g))
  begun_rest t gap old new b s y g c i =
      let r = b.rest s (eq_turn t s y) in
      let was = sym r.begun_as ∙ c in
      (was, sym (r.gap_as was) ∙ i)

  held_noted : (q : Writing) (ws : List Bool) (m n : State) (t : ℕ) (set : List (ℤ × ℤ)) (x : ℤ) → Notes t set x m n → Held root q ws m → Held root q ws n
  held_noted q ws m n t set x d h =
      held_table q ws m n d.next (ap open_gaps d.begun_so.holes ∙ open_none m.table.gaps) (λ s g b i. by s g b i (nat_eq t s) refl) h
    where
      by : (s : ℕ) (g : Gap) → begun n.table s ≡ true → gap_at n.table s ≡ Some (Some g) → (c : Bool) → nat_eq t s ≡ c → (begun m.table s ≡ true) × (gap_at m.table s ≡ Some (Some g))
      by s g b i true y = (let none = sym (ap (gap_at n.table) (eqb-true t s y)) ∙ d.begun_so.own in let never = sym i ∙ none in cc)
      by s g b i false y = begun_rest t None m.table n.table d.begun_so s y g b i

  -- a hole is left for a slot
  held_opened : (q : Writing) (ws cs : List Bool) (m n : State) (t : ℕ) (leaf : NumLeaf) (x : ℤ) → (d : Opens t leaf m n) → length cs ≡ d.width → q.numbers t ≡ Some x → slot_leaf root t ≡ Some leaf → Code Written leaf x cs → Held root q ws m → Held root (forth (length cs) q) (ws ++ cs) n
  held_opened q ws cs m n t leaf x d l is of_slot code h =
      let w = d.width in
      let g = new_gap m w in
      let e = h.at in
      let shown = shows_gap g (open_gaps (m.table.gaps ++ Some g ∷ []) ++ frame_gaps m.contents) (all_gaps m) (parts_push g m.table.gaps (frame_gaps m.contents)) ws m.buf cs (replicate w false) m.place (overwritten m.buf m.place (replicate w false)) (m.place + w)
      (length-replicate w false ∙ sym l) refl (sym l) refl (ap (λ z. m.place + z) (sym l)) h.shows in
      subst (λ (z : State). Held root (forth (length cs) q) (ws ++ cs) z) (sym d.next) (record {
        shows = subst (λ (z : List (Option Gap)). Shows (open_gaps z ++ frame_gaps m.contents) (ws ++ cs) (overwritten m.buf m.place (replicate w false)) (m.place + w)) (sym d.begun_so.holes) shown;
        says = λ s k b i. by s k b i (nat_eq t s) refl;
        sizes = sizes_more m.contents q.outer ws cs h.sizes;
        at = omega (arith, e, l);
      })
    where
      two : {a b : Gap} → Some (Some a) ≡ Some (Some b) → a ≡ b
      two e = cc

      by : (s : ℕ) (k : Gap) → begun n.table s ≡ true → gap_at n.table s ≡ Some (Some k) → (c : Bool) → nat_eq t s ≡ c → SaysSlot root q.numbers (ws ++ cs) s k
      by s k b i true y =
          let same = eqb-true t s y in
          let it : new_gap m d.width ≡ k = two (sym d.begun_so.own ∙ (ap (gap_at n.table) same ∙ i)) in
          subst (λ (z : ℕ). SaysSlot root q.numbers (ws ++ cs) z k) same (subst (λ (z : Gap). SaysSlot root q.numbers (ws ++ cs) t z) it
          (record { leaf = leaf; number = x; is = is; of_slot = of_slot; says = stood_new {P = Code Written leaf x} ws cs (new_gap m d.width) h.shows.long (sym l) code }))
      by s k b i false y =
          let r = begun_rest t (Some (new_gap m d.width)) m.table n.table d.begun_so s y k b i in
          slot_more q.numbers ws cs s k (h.says s k r.0 r.1)

  -- a slot is ended
  ended_rest : (t : ℕ) (old new : Table) → Ends t old new → (s : ℕ) (g : Gap) → begun new s ≡ true → gap_at new s ≡ Some (Some g) → (begun old s ≡ true) × (gap_at old s ≡ Some (Some g))
  ended_rest t old new d s g b i = by (nat_eq t s) refl
    where
      by : (c : Bool) → nat_eq t s ≡ c → (begun old s ≡ true) × (gap_at old s ≡ Some (Some g))
      by true y = (let never = sym b ∙ (ap (begun new) (sym (eqb-true t s y)) ∙ d.ended) in cc)
      by false y =
          let r = d.rest s (eq_turn t s y) in
          let was = sym r.begun_as ∙ b in
          (was, sym (r.gap_as was) ∙ i)

  -- the hole of a slot is filled with the code that is to stand there
  held_filled : (q : Writing) (ws : List Bool) (m n : State) (t : ℕ) (o : Option (Option Gap)) (x : ℤ) → gap_at m.table t ≡ o → begun m.table t ≡ true → q.numbers t ≡ Some x → ((leaf : NumLeaf) → leaf_of t m.leaves ≡ Some leaf → (g : Gap) → o ≡ Some (Some g) → (slot_leaf root t ≡ Some leaf) × IsTrue (num_fine leaf))
      → ((y : ℤ) → ((set : List (ℤ × ℤ)) (wanted : List Ask) → Keeps set wanted m.table t → LeastAnswer set wanted y) → y ≡ x) → Ends t m.table n.table → FillsGap t o m n → Held root q ws m → Held root q ws n
  held_filled q ws m n t None x is b number fine one d f h = absurd f
  held_filled q ws m n t (Some None) x is b number fine one d f h =
      held_table q ws m n f (ap open_gaps d.gaps ∙ open_removed m.table.gaps (place t m.table.spots) is) (λ s g c i. ended_rest t m.table n.table d s g c i) h
  held_filled q ws m n t (Some (Some g)) x is b number fine one d f h =
      let says = h.says t g b is in
      let leaf = fine f.leaf f.of_slot g refl in
      let l : says.leaf ≡ f.leaf = some_one says.leaf f.leaf (sym says.of_slot ∙ leaf.0) in
      let y : says.number ≡ f.number = some_two says.number x (sym says.is ∙ number) ∙ sym (one f.number f.least) in
      let there : Code Written f.leaf says.number (take g.width (drop g.place ws)) = subst (λ (z : NumLeaf). Code Written z says.number (take g.width (drop g.place ws))) l says.says.holds in
      let same : take g.width (drop g.place ws) ≡ f.code = code_one f.leaf leaf.1 says.number f.number y (take g.width (drop g.place ws)) f.code there f.codes in
      let fit = fits_gap g.place g.width ws f.code says.says.within same in
      let shown = shows_fill g (all_gaps m) (open_gaps (remove m.table.gaps (place t m.table.spots)) ++ frame_gaps m.contents) (parts_remove g m.table.gaps (frame_gaps m.contents) (place t m.table.spots) is) ws m.buf f.code m.place (overwritten m.buf g.place f.code) m.place fit.0 fit.1 fit.2 refl refl h.shows in
      subst (λ (z : State). Held root q ws z) (sym f.next) (record {
        shows = subst (λ (z : List (Option Gap)). Shows (open_gaps z ++ frame_gaps m.contents) ws (overwritten m.buf g.place f.code) m.place) (sym d.gaps) shown;
        says = λ s k c i. (let r = ended_rest t m.table n.table d s k c i in h.says s k r.0 r.1);
        sizes = h.sizes;
        at = h.at;
      })
    where
      some_one : (a c : NumLeaf) → Some a ≡ Some c → a ≡ c
      some_one a c e = cc

      some_two : (a c : ℤ) → Some a ≡ Some c → a ≡ c
      some_two a c e = cc

  -- contents are entered
  held_entered : (q : Writing) (ws : List Bool) (m : State) (rule : SizeRule) (k : ℕ) → CanEnter rule m → Held root q ws m → Held root (record { numbers = q.numbers; at = 0; outer = record { start = q.at + length (size_bits rule k); octets = k; rule = rule } ∷ q.outer }) (ws ++ size_bits rule k) (entered rule m)
  held_entered q ws m (Prefix low width) k can h =
      let cs = low_bits width (k - low) in
      let l = length-low_bits width (k - low) in
      let g = new_gap m width in
      let e = h.at in
      record {
        shows = shows_gap g (open_gaps m.table.gaps ++ g ∷ frame_gaps m.contents) (all_gaps m) (parts_local g (open_gaps m.table.gaps) (frame_gaps m.contents)) ws m.buf cs (replicate width false) m.place (overwritten m.buf m.place (replicate width false)) (m.place + width)
            (length-replicate width false ∙ sym l) refl (sym l) refl (ap (λ z. m.place + z) (sym l)) h.shows;
        says = λ s j b i. slot_more q.numbers ws cs s j (h.says s j b i);
        sizes = (omega (arith, e, l), stood_new {P = λ bs. bs ≡ low_bits width (k - low)} ws cs g h.shows.long (sym l) refl, sizes_more m.contents q.outer ws cs h.sizes);
        at = sym (none_behind (m.place + width));
      }
  held_entered q ws m (Slot t) k can h =
      let e = h.at in
      let none = append-nil ws in
      record {
        shows = subst (λ (z : List Bool). Shows (all_gaps m) z m.buf m.place) (sym none) h.shows;
        says = λ s j b i. slot_more q.numbers ws [] s j (h.says s j b i);
        sizes = (omega (arith, e), tt, sizes_more m.contents q.outer ws [] h.sizes);
        at = sym (none_behind m.place);
      }
  held_entered q ws m (Ended p) k can h = absurd can

  -- contents are ended

  frame_first : (fs : List Frame) (o : Pending) (os : List Pending) (ws : List Bool) → SizesStand fs (o ∷ os) ws → (f : Frame) × (fs ≡ f ∷ tail_of fs) × (gap_of fs ≡ f.gap) × (f.base ≡ base_of (tail_of fs) + o.start) × SizeStands f.gap o ws × SizesStand (tail_of fs) os ws
  frame_first [] o os ws h = absurd h
  frame_first (f ∷ fs) o os ws h = (f, refl, refl, h.0, h.1, h.2)

  held_closed : (q r : Writing) (ws : List Bool) (m n : State) (rule : SizeRule) (gap : Option Gap) → (e : EndsHere rule q r) → gap_of m.contents ≡ gap → octets_in m ≡ e.pending.octets → ((s : ℕ) → rule ≡ Slot s → gap ≡ None) → Closes rule (octets_in m) gap m n → Held root q ws m → Held root r ws n
  held_closed q r ws m n (Prefix low width) None e is count none d h = absurd d
  held_closed q r ws m n (Prefix low width) (Some g) e is count none d h =
      let o = e.pending in
      let f = frame_first m.contents o e.rest ws (subst (λ (z : List Pending). SizesStand m.contents z ws) e.outer h.sizes) in
      let mine : f.0.gap ≡ Some g = sym f.2 ∙ is in
      let cs = low_bits width (octets_in m - low) in
      let stands = subst (λ (z : Option Gap). SizeStands z o ws) mine f.4 in
      let size : size_bits o.rule o.octets ≡ cs = ap (λ (z : SizeRule). size_bits z o.octets) e.of_rule ∙ ap (λ z. low_bits width (z - low)) (sym count) in
      let fit = fits_gap g.place g.width ws cs stands.within (stands.holds ∙ size) in
      let more = frame_gaps (tail_of m.contents) in
      let gaps : frame_gaps m.contents ≡ g ∷ more = ap frame_gaps f.1 ∙ ap (λ (z : Option Gap). cons_gap z more) mine in
      let base = ap base_of f.1 in
      let here = h.at in
      let start = f.3 in
      subst (λ (z : State). Held root r ws z) (sym d) (subst (λ (z : Writing). Held root z ws (sized g cs m)) (sym e.next) (record {
        shows = shows_fill g (open_gaps m.table.gaps ++ g ∷ more) (open_gaps m.table.gaps ++ more) (parts_local g (open_gaps m.table.gaps) more) ws m.buf cs m.place (overwritten m.buf g.place cs) m.place fit.0 fit.1 fit.2 refl refl
            (subst (λ (z : List Gap). Shows (open_gaps m.table.gaps ++ z) ws m.buf m.place) gaps h.shows);
        says = h.says;
        sizes = f.5;
        at = omega (arith, base, here, start);
      }))
  held_closed q r ws m n (Slot t) gap e is count none d h =
      let o = e.pending in
      let f = frame_first m.contents o e.rest ws (subst (λ (z : List Pending). SizesStand m.contents z ws) e.outer h.sizes) in
      let mine : f.0.gap ≡ None = sym f.2 ∙ (is ∙ none t refl) in
      let more = frame_gaps (tail_of m.contents) in
      let gaps : frame_gaps m.contents ≡ more = ap frame_gaps f.1 ∙ ap (λ (z : Option Gap). cons_gap z more) mine in
      let base = ap base_of f.1 in
      let here = h.at in
      let start = f.3 in
      subst (λ (z : State). Held root r ws z) (sym d.1) (subst (λ (z : Writing). Held root z ws (left n.table m)) (sym e.next) (record {
        shows = subst (λ (z : List (Option Gap)). Shows (open_gaps z ++ more) ws m.buf m.place) (sym d.0.holes.gaps) (subst (λ (z : List Gap). Shows (open_gaps m.table.gaps ++ z) ws m.buf m.place) gaps h.shows);
        says = λ s g b i. h.says s g (sym (same_begun s m.table n.table d.0.holes) ∙ b) (sym (same_gap s m.table n.table d.0.holes) ∙ i);
        sizes = f.5;
        at = omega (arith, base, here, start);
      }))
  held_closed q r ws m n (Ended p) gap e is count none d h = absurd d

module _ (root : Grammar) (size : ℕ) where
  put_by : (q r : Writing) (ws bs xs : List Bool) (m n : State) → bs ≡ xs → r ≡ forth (length bs) q → n ≡ put xs m → Held root q ws m → Held root r (ws ++ bs) n
  put_by q r ws bs xs m n e f g h =
      subst (λ (z : Writing). Held root z (ws ++ bs) n) (sym f) (subst (λ (z : State). Held root (forth (length bs) q) (ws ++ bs) z) (sym (g ∙ ap (λ z. put z m) (sym e))) (held_put root q ws bs m h))

  none_by : (q r : Writing) (ws bs : List Bool) (n : State) → bs ≡ [] → r ≡ q → Held root q ws n → Held root r (ws ++ bs) n
  none_by q r ws bs n e f h = subst (λ (z : Writing). Held root z (ws ++ bs) n) (sym f) (subst (λ (z : List Bool). Held root q z n) (sym (ap (λ z. ws ++ z) e ∙ append-nil ws)) h)

  held_at : (q : Writing) (ws : List Bool) (m : State) → Held root q ws m → position m ≡ q.at
  held_at q ws m h = let e = h.at in omega (arith, e)

  no_home : (homes : List (ℕ × List ℕ)) (ks : ℕ → Bool) → AllByRecursion (λ (h : ℕ × List ℕ). ks h.0 ≡ false) homes → (s : ℕ) → ks s ≡ true → has_home homes s ≡ false
  no_home [] ks a s k = refl
  no_home (h ∷ homes) ks a s k = truth {F = (nat_eq h.0 s || has_home homes s) ≡ false} (nat_eq h.0 s)
      (λ y. (let same = ap ks (eqb-true h.0 s y) in let never = a.0 in cc))
      (λ y. ap (λ z. z || has_home homes s) y ∙ no_home homes ks a.1 s k)

  hole_leaf : (t : ℕ) (g : Gap) (m : State) (o : Option (Option Gap)) → o ≡ Some (Some g) → GapStands root t o m.leaves m.place → (leaf : NumLeaf) → leaf_of t m.leaves ≡ Some leaf → (slot_leaf root t ≡ Some leaf) × IsTrue (num_fine leaf)
  hole_leaf t g m o e h leaf l =
      let stands = subst (λ (z : Option (Option Gap)). GapStands root t z m.leaves m.place) e h in
      let same : stands.leaf ≡ leaf = one stands.leaf leaf (sym stands.found ∙ l) in
      (subst (λ (z : NumLeaf). slot_leaf root t ≡ Some z) same stands.of_slot, subst (λ (z : NumLeaf). IsTrue (num_fine z)) same stands.fine)
    where
      one : (a b : NumLeaf) → Some a ≡ Some b → a ≡ b
      one a b e = cc

  open_long : (leaf : NumLeaf) (t : ℕ) (p : Mark) (m n : State) (x : ℤ) (bs : List Bool) → Right root (opens t leaf) p → (d : Opens t leaf m n) → Code Written leaf x bs → length bs ≡ d.width
  open_long leaf t p m n x bs r d code = code-length Written leaf r.fine x bs code ∙ (hole_width leaf d.width x r.fine r.width d.is_width code.permitted).1

  pub held_on : (e : Event) (p : Mark) (q r : Writing) (ws bs : List Bool) (m n : State) → Right root e p → Writes root e p q r bs → Step e m n → Stands root size p m → Held root q ws m → Held root r (ws ++ bs) n
  held_on (aligns a) p q r ws bs m n i w s a' h = put_by q r ws bs (replicate (padding a (position m)) false) m n (w.0 ∙ ap (λ z. replicate (padding a z) false) (sym (held_at q ws m h))) w.1 s.does h
  held_on (copies xs) p q r ws bs m n i w s a' h = put_by q r ws bs xs m n w.0 w.1 s.does h
  held_on (begins homes xs) p q r ws bs m n i w s a' h =
      let table = ap (λ (z : State). z.table) s.does in
      held_numbers root (forth (length bs) q) r (ws ++ bs) n w.1 w.2 (λ u b. w.3 u (no_home homes p.known i u (sym (a'.known u) ∙ (ap (λ (z : Table). begun z u) (sym table) ∙ b)))) (put_by q (forth (length bs) q) ws bs xs m n w.0 refl s.does h)
  held_on (puts width k) p q r ws bs m n i w s a' h = put_by q r ws bs (low_bits width k) m n w.0 w.1 s.does h
  held_on (sizes sizing k) p q r ws bs m n i w s a' h = put_by q r ws bs (size_bits sizing.rule k) m n w.0 w.1 s.does.1 h
  held_on (codes leaf x) p q r ws bs m n i w s a' h = put_by q r ws bs s.does.0 m n (code_one leaf i x x refl bs s.does.0 w.0 s.does.1) w.1 s.does.2 h
  held_on (texts leaf cs) p q r ws bs m n i w s a' h =
      let t = s.does.1 in
      let e = says_size leaf.sized.rule (length cs) in
      put_by q r ws bs t.0 m n (text_one leaf.ended leaf w.0.0 e.0 cs w.0.1 0 bs t.0 w.0.2 (t.1 e.0 0 e.1)) w.1 t.2 h
  held_on (opens t leaf) p q r ws bs m n i w s a' h =
      let x = w.0 in
      subst (λ (z : Writing). Held root z (ws ++ bs) n) (sym w.1) (held_opened root q ws bs m n t leaf x.0 s.does (open_long leaf t p m n x.0 bs i s.does x.2) x.1 i.of_slot x.2 h)
  held_on (notes path t set x) p q r ws bs m n i w s a' h = none_by q r ws bs n w.0 w.1 (held_noted root q ws m n t set x s.does h)
  held_on (wants path t a) p q r ws bs m n i w s a' h = none_by q r ws bs n w.0 w.1 (held_asked root q ws m n t a s.does h)
  held_on (fills t) p q r ws bs m n i w s a' h =
      let x = w.2 in
      let b = a'.known t ∙ i in
      none_by q r ws bs n w.0 w.1
      (held_filled root q ws m n t (gap_at m.table t) x.0 refl b x.1 (λ leaf l g e. hole_leaf t g m (gap_at m.table t) e (a'.holes t b) leaf l)
      (λ y least. least_one (domain_of root t) (p.asked t) y x.0 (least (domain_of root t) (p.asked t) (kept_keeps (domain_of root t) (p.asked t) t m.table b (a'.keeps t))) x.2) s.does.0 s.does.1 h)
  held_on (enters rule) p q r ws bs m n i w s a' h =
      subst (λ (z : Writing). Held root z (ws ++ bs) n) (sym w.2)
      (subst (λ (z : State). Held root (record { numbers = q.numbers; at = 0; outer = record { start = q.at + length bs; octets = w.0; rule = rule } ∷ q.outer }) (ws ++ bs) z) (sym s.does)
      (subst (λ (z : List Bool). Held root (record { numbers = q.numbers; at = 0; outer = record { start = q.at + length z; octets = w.0; rule = rule } ∷ q.outer }) (ws ++ z) (entered rule m)) (sym w.1) (held_entered root q ws m rule w.0 s.can.1 h)))
  held_on (closes path sizing k) p q r ws bs m n i w s a' h =
      let e = w.1 in
      let at = held_at q ws m h in
      let whole = e.whole in
      let count : octets_in m ≡ e.pending.octets = omega (arith, at, whole) in
      subst (λ (z : List Bool). Held root r z n) (sym (ap (λ z. ws ++ z) w.0 ∙ append-nil ws))
      (held_closed root q r ws m n sizing.rule (gap_of m.contents) e refl count (λ t is. slot_frame m.contents i.start i.rest sizing.rule t is (subst (λ (z : List (ℕ × SizeRule)). AllStand m.contents z) i.outer a'.contents)) s.does.1 h)
    where
      slot_frame : (fs : List Frame) (start : ℕ) (rest : List (ℕ × SizeRule)) (rule : SizeRule) (t : ℕ) → rule ≡ Slot t → AllStand fs ((start, rule) ∷ rest) → gap_of fs ≡ None
      slot_frame [] start rest rule t is f = absurd f
      slot_frame (f ∷ fs) start rest (Slot u) t is g = g.1
      slot_frame (f ∷ fs) start rest (Prefix low width) t is g = cc
      slot_frame (f ∷ fs) start rest (Ended e) t is g = cc

  pub held_along : (es : List Event) (p : Mark) (q r : Writing) (ws bs : List Bool) (m n : State) → AllRight root es p → Spelt root es p q r bs → Run es m n → Stands root size p m → Held root q ws m → Held root r (ws ++ bs) n
  held_along [] p q r ws bs m n i w s a h = none_by q r ws bs n w.0 w.1 (subst (λ (z : State). Held root q ws z) (sym s) h)
  held_along (e ∷ es) p q r ws bs m n i w s a h =
      let one = held_on e p q w.mid ws w.front m s.0 i.0 w.first s.1 a h in
      let all = held_along es (marked e p) w.mid r (ws ++ w.front) w.back s.0 n i.1 w.rest s.2 (stands_on root size e p m s.0 i.0 s.1 a) one in
      subst (λ (z : List Bool). Held root r z n) (append_assoc ws w.front w.back ∙ ap (λ z. ws ++ z) (sym w.whole)) all
