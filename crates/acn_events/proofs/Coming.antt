-- What may not come doesn't come: an event in good order can come to pass where there is room for all of them.
use Rattle.std.proofs.Common.{◌≡◌, ℕ, suc, ◌+◌, ◌≤◌, ℤ, pos, Bool, true, false, List, [], ◌∷◌, length, Option, Some, None, IsTrue, refl, sym, ap, ◌∙◌, subst, arith}
use Rattle.std.specs.Prelude.{int_le, nat_lt, ◌&&◌}
use Rattle.std.proofs.lemmas.Bool.{or_left}
use Rattle.std.proofs.lemmas.Int.{ints}
use Rattle.acn_num.specs.Ranges.{In, has}
use Rattle.acn_bits.specs.Overwrite.{Gap}
use Rattle.acn_fill.specs.Table.{Keeps, begun, gap_at}
use Rattle.acn_grammar.specs.Grammar.{Grammar}
use Rattle.acn_grammar.specs.Interval.{width_of}
use Rattle.acn_grammar.specs.Leaves.{num_fine, set_fine}
use Rattle.acn_grammar.specs.Length.{num_length, padding, rule_width, text_length}
use Rattle.acn_grammar.specs.Slots.{domain_of}
use Rattle.acn_grammar.specs.declared.node.Items.{Items}
use Rattle.acn_grammar.specs.declared.node.NumCoding.{NumCoding}
use Rattle.acn_grammar.specs.declared.node.NumKind.{NumKind}
use Rattle.acn_grammar.specs.declared.node.NumKind.TheVariants.{Integer, Boolean, Enumerated, Null}
use Rattle.acn_grammar.specs.declared.node.NumLeaf.{NumLeaf}
use Rattle.acn_grammar.specs.declared.node.SizeRule.{SizeRule}
use Rattle.acn_grammar.specs.declared.node.SizeRule.TheVariants.{Prefix, Slot, Ended}
use Rattle.acn_grammar.specs.declared.node.Table.{Table as LeafTable}
use Rattle.acn_grammar.proofs.FineLeaves.{rules_of}
use Rattle.acn_grammar.proofs.HasImage.{set_ordered, Ordered}
use Rattle.acn_grammar.proofs.WholeTests.{le_test}
use Rattle.acn_packet_laws.specs.Laws.{WidthsAreLengths}
use Rattle.acn_events.specs.Event.{Event, Frame, State, aligns, copies, begins, puts, sizes, codes, texts, opens, notes, wants, fills, enters, closes, base_of}
use Rattle.acn_events.specs.Marks.{Mark, marked, ends, reach, depth_of, size_of, start_of, rest_of, Right, AllRight, CanBeEntered, CanBeClosed}
use Rattle.acn_events.specs.Steps.{Can, CanEnter, CanClose, Room, GapFits}
use Rattle.acn_events.proofs.Keeping.{kept_keeps}
use Rattle.acn_events.proofs.Right.{domain_is}
use Rattle.acn_events.proofs.Standing.{Stands, AllStand, GapStands, base_depth, hole_width, stands_at, octets_are}

-- A leaf that keeps its rules permits a number.

none_fine : (kind : NumKind) (coding : NumCoding) (items : Items) (table : Option LeafTable) → set_fine kind coding items table [] ≡ true → ⊥
none_fine Integer coding items table h = cc
none_fine Boolean coding items table h = cc
none_fine Enumerated coding items table h = by (nat_lt 0 (length items.items)) h
  where
    by : (b : Bool) → (b && false) ≡ true → ⊥
    by true e = cc
    by false e = cc
none_fine Null coding items table h = cc

pub some_in : (leaf : NumLeaf) → IsTrue (num_fine leaf) → (x : ℤ) × In leaf.set x
some_in leaf fine = by leaf.set (rules_of leaf fine).set (set_ordered leaf.kind leaf.coding leaf.items leaf.table leaf.set (rules_of leaf fine).set)
  where
    by : (set : List (ℤ × ℤ)) → set_fine leaf.kind leaf.coding leaf.items leaf.table set ≡ true → Ordered set → (x : ℤ) × In set x
    by [] h o = absurd (none_fine leaf.kind leaf.coding leaf.items leaf.table h)
    by (r ∷ rs) h o = (r.0, or_left (int_le r.0 r.0 && int_le r.0 r.1) (has rs r.0) (rw (le_test r.0 r.0 (omega (arith, ints)), le_test r.0 r.1 o.0) refl))

-- The place of the writer.

pub moved_by : (e : Event) (p : Mark) (root : Grammar) → Right root e p → reach (marked e p) ≡ reach p + size_of e p.at
moved_by (aligns a) p root r = omega arith
moved_by (copies bs) p root r = omega arith
moved_by (begins homes bs) p root r = omega arith
moved_by (puts width n) p root r = omega arith
moved_by (sizes sizing n) p root r = omega arith
moved_by (codes leaf x) p root r = omega arith
moved_by (texts leaf cs) p root r = omega arith
moved_by (opens s leaf) p root r = omega arith
moved_by (notes path s set x) p root r = omega arith
moved_by (wants path s a) p root r = omega arith
moved_by (fills s) p root r = omega arith
moved_by (enters rule) p root r = omega arith
moved_by (closes path sizing n) p root r =
    let a = ap start_of r.outer in
    let b = ap (λ z. depth_of (rest_of z)) r.outer in
    let c = ap depth_of r.outer in
    omega (arith, a, b, c)

pub reach_grows : (root : Grammar) (es : List Event) (p : Mark) → AllRight root es p → reach p ≤ reach (ends es p)
reach_grows root [] p r = omega arith
reach_grows root (e ∷ es) p r = let a = moved_by e p root r.0 in let b = reach_grows root es (marked e p) r.1 in omega (arith, a, b)

module _ (root : Grammar) (size : ℕ) where
  room_here : (p : Mark) (m : State) (k : ℕ) → Stands root size p m → reach p + k ≤ size → Room k m
  room_here p m k h l =
      let b = (base_depth m.contents p.outer h.contents).0 in
      let place = h.place in
      let long = h.long in
      omega (arith, b, place, long, l)

  fill_can : (p : Mark) (m : State) (s : ℕ) (o : Option (Option Gap)) → begun m.table s ≡ true → Stands root size p m → GapStands root s o m.leaves m.place → GapFits s o m
  fill_can p m s None b h g = absurd g
  fill_can p m s (Some None) b h g = tt
  fill_can p m s (Some (Some gap)) b h g = record {
    leaf = g.leaf;
    of_slot = g.found;
    width = g.width;
    passed = g.passed;
    wanted = p.asked s;
    keeps = subst (λ (z : List (ℤ × ℤ)). Keeps z (p.asked s) m.table s) (domain_is root s g.leaf g.of_slot) (kept_keeps (domain_of root s) (p.asked s) s m.table b (h.keeps s));
  }

  enter_can : (p : Mark) (m : State) (rule : SizeRule) → CanBeEntered rule → Room (rule_width rule) m → CanEnter rule m
  enter_can p m (Prefix low width) r room = (r, room)
  enter_can p m (Slot s) r room = tt
  enter_can p m (Ended e) r room = absurd r

  close_can : (p : Mark) (m : State) (rule : SizeRule) (k : ℕ) (allowed : Bool) (start : ℕ) (rest : List (ℕ × SizeRule)) → CanBeClosed rule p.known k allowed → AllStand m.contents ((start, rule) ∷ rest) → m.place ≡ base_of m.contents + p.at → Stands root size p m → CanClose rule k allowed m.contents m
  close_can p m rule k allowed start rest r frames place h = by m.contents rule r frames place
    where
      by : (fs : List Frame) (rule : SizeRule) → CanBeClosed rule p.known k allowed → AllStand fs ((start, rule) ∷ rest) → m.place ≡ base_of fs + p.at → CanClose rule k allowed fs m
      by [] rule r f e = absurd f
      by (f ∷ fs) (Prefix low width) r stands e =
          let g = stands.1 in
          let end = g.3 in
          (g.0, g.1, g.2, omega (arith, end, e), r)
      by (f ∷ fs) (Slot s) r stands e = (stands.1, h.known s ∙ r)
      by (f ∷ fs) (Ended q) r stands e = absurd r

  -- each event
  pub comes : WidthsAreLengths → (e : Event) (p : Mark) (m : State) → Right root e p → reach p + size_of e p.at ≤ size → Stands root size p m → Can e m
  comes widths (aligns a) p m r l h = (r, subst (λ z. Room (padding a z) m) (sym (stands_at root size p m h)) (room_here p m (padding a p.at) h l))
  comes widths (copies bs) p m r l h = room_here p m (length bs) h l
  comes widths (begins homes bs) p m r l h = room_here p m (length bs) h l
  comes widths (puts width n) p m r l h = (r.0, r.1, room_here p m width h l)
  comes widths (sizes sizing n) p m r l h = (r, room_here p m (rule_width sizing.rule) h l)
  comes widths (codes leaf x) p m r l h = room_here p m (num_length leaf x) h l
  comes widths (texts leaf cs) p m r l h = room_here p m (text_length leaf.ended leaf (length cs)) h l
  comes widths (opens s leaf) p m r l h =
      let w = r.width.width in
      let is : width_of leaf ≡ Some w = (widths leaf w r.fine).1 r.width.all_codes in
      let some = some_in leaf r.fine in
      let wide = hole_width leaf w some.0 r.fine r.width is some.1 in
      let long = wide.0 in
      let narrow = r.width.narrow in
      (h.known s ∙ r.fresh, w, is, omega (arith, narrow), room_here p m w h (omega (arith, l, long)))
  comes widths (notes path s set x) p m r l h = h.known s ∙ r.0
  comes widths (wants path s a) p m r l h = h.known s ∙ r
  comes widths (fills s) p m r l h = let b = h.known s ∙ r in (b, fill_can p m s (gap_at m.table s) b h (h.holes s b))
  comes widths (enters rule) p m r l h =
      let few = (base_depth m.contents p.outer h.contents).1 in
      let short = r.0 in
      (omega (arith, few, short), enter_can p m rule r.1 (room_here p m (rule_width rule) h l))
  comes widths (closes path sizing n) p m r l h =
      let frames = subst (λ (z : List (ℕ × SizeRule)). AllStand m.contents z) r.outer h.contents in
      subst (λ k. CanClose sizing.rule k (has sizing.sizes (pos k)) m.contents m) (sym (octets_are root size p m n h r.octets)) (close_can p m sizing.rule n (has sizing.sizes (pos n)) r.start r.rest r.closes frames h.place h)
