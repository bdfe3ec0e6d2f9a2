use Rattle.std.proofs.Common.{◌≡◌, ℕ, get_or, remove, Some, None, IsTrue, true, sym, ap, ◌∙◌, subst}
use Rattle.acn_bits.specs.Overwrite.{Gap}
use Rattle.acn_grammar.specs.Interval.{width_of}
use Rattle.acn_grammar.specs.Leaves.{num_fine}
use Rattle.acn_grammar.specs.declared.node.NumLeaf.{NumLeaf}
use Rattle.acn_fill.specs.Table.{Table, Keeps, begun, gap_at}
use Rattle.acn_events.specs.Event.{leaf_of, leaves_without}
use Rattle.acn_writer.specs.Leaves.{has_leaf, leaf_place, leaves_in}
use Rattle.acn_writer.specs.Slots.{OpenSlots}
use Rattle.acn_writer.specs.declared.leaf.SlotLeaf.{SlotLeaf}
use Rattle.acn_writer.proofs.LeafLists.{leaf_at, less_leaves, same_some}
use Rattle.acn_writer.proofs.Tables.{tied_filled, hole_leaf}
use denote.Bor.{Bor}
use Rattle.acn_writer.proofs.slots.Slots.end_opened.Goals as goal

one_bor : {a b : Bor NumLeaf} → Some a ≡ Some b → a ≡ b
one_bor e = cc

one_leaf : {a b : NumLeaf} → Some a ≡ Some b → a ≡ b
one_leaf e = cc

never_none : {l : Bor NumLeaf} → None ≡ Some l → ⊥
never_none e = cc

pub place_of-at-requires : goal.place_of-at-requires
place_of-at-requires g c =
    let s = c.args.slot in
    let t = c.self.inside.fills in
    let items = c.self.inside.leaves.items in
    let b : begun t s ≡ true = ap (λ (z : OpenSlots). begun z.table s) c.self.view_is ∙ c.requires.begun in
    let hole : gap_at t s ≡ Some (Some c.requires.hole.0) = ap (λ (z : OpenSlots). gap_at z.table s) c.self.view_is ∙ c.requires.hole.1 in
    let has = hole_leaf s c.requires.hole.0 t items b hole c.self.invariant in
    ap (has_leaf s) c.as_slice.ensures.value ∙ has

pub unreachable-requires : goal.unreachable-requires
unreachable-requires g c =
    let s = c.args.slot in
    let t = c.self.inside.fills in
    let items = c.self.inside.leaves.items in
    let b : begun t s ≡ true = ap (λ (z : OpenSlots). begun z.table s) c.self.view_is ∙ c.requires.begun in
    let hole : gap_at t s ≡ Some (Some c.requires.hole.0) = ap (λ (z : OpenSlots). gap_at z.table s) c.self.view_is ∙ c.requires.hole.1 in
    let has = hole_leaf s c.requires.hole.0 t items b hole c.self.invariant in
    let at : c.place_of-at.result ≡ leaf_place s items = c.place_of-at.ensures.found ∙ ap (leaf_place s) c.as_slice.ensures.value in
    let e = c.remove-entry.result in
    let l = leaf_at s items e c.self.invariant.are_leaves has in
    let found : e.leaf ≡ Some l.0 = ap (λ (z : SlotLeaf). z.leaf) (c.remove-entry.ensures.value ∙ ap (λ (k : ℕ). get_or items k e) at) ∙ l.1 in
    never_none (sym c.in-None.is ∙ found)

pub invariant_of-self : goal.invariant_of-self
invariant_of-self g c =
    let s = c.args.slot in
    let t = c.self.inside.fills in
    let items = c.self.inside.leaves.items in
    let b : begun t s ≡ true = ap (λ (z : OpenSlots). begun z.table s) c.self.view_is ∙ c.requires.begun in
    let hole : gap_at t s ≡ Some (Some c.requires.hole.0) = ap (λ (z : OpenSlots). gap_at z.table s) c.self.view_is ∙ c.requires.hole.1 in
    let has = hole_leaf s c.requires.hole.0 t items b hole c.self.invariant in
    let at : c.place_of-at.result ≡ leaf_place s items = c.place_of-at.ensures.found ∙ ap (leaf_place s) c.as_slice.ensures.value in
    let e = c.remove-entry.result in
    let f = c.finish-hole.ensures in
    tied_filled s c.requires.hole.0 t c.finish-hole.new.self items c.remove-entry.new.self.items has (c.remove-entry.ensures.items ∙ ap (λ (k : ℕ). remove items k) at) hole (record { ended = f.ended; others = f.others; rest = f.rest; gaps = f.gaps }) f.few c.self.invariant

pub returns-clause-leaf : goal.returns-clause-leaf
returns-clause-leaf g c =
    let s = c.args.slot in
    let t = c.self.inside.fills in
    let items = c.self.inside.leaves.items in
    let b : begun t s ≡ true = ap (λ (z : OpenSlots). begun z.table s) c.self.view_is ∙ c.requires.begun in
    let hole : gap_at t s ≡ Some (Some c.requires.hole.0) = ap (λ (z : OpenSlots). gap_at z.table s) c.self.view_is ∙ c.requires.hole.1 in
    let has = hole_leaf s c.requires.hole.0 t items b hole c.self.invariant in
    let at : c.place_of-at.result ≡ leaf_place s items = c.place_of-at.ensures.found ∙ ap (leaf_place s) c.as_slice.ensures.value in
    let e = c.remove-entry.result in
    let l = leaf_at s items e c.self.invariant.are_leaves has in
    let found : e.leaf ≡ Some l.0 = ap (λ (z : SlotLeaf). z.leaf) (c.remove-entry.ensures.value ∙ ap (λ (k : ℕ). get_or items k e) at) ∙ l.1 in
    ap (λ (z : OpenSlots). leaf_of s z.leaves) (sym c.self.view_is) ∙ (l.2 ∙ ap (λ (z : Bor NumLeaf). Some z.now) (one_bor (sym found ∙ c.in-Some.is)))

pub returns-clause-fine : goal.returns-clause-fine
returns-clause-fine g c =
    let s = c.args.slot in
    let t = c.self.inside.fills in
    let items = c.self.inside.leaves.items in
    let b : begun t s ≡ true = ap (λ (z : OpenSlots). begun z.table s) c.self.view_is ∙ c.requires.begun in
    let hole : gap_at t s ≡ Some (Some c.requires.hole.0) = ap (λ (z : OpenSlots). gap_at z.table s) c.self.view_is ∙ c.requires.hole.1 in
    let has = hole_leaf s c.requires.hole.0 t items b hole c.self.invariant in
    let at : c.place_of-at.result ≡ leaf_place s items = c.place_of-at.ensures.found ∙ ap (leaf_place s) c.as_slice.ensures.value in
    let e = c.remove-entry.result in
    let l = leaf_at s items e c.self.invariant.are_leaves has in
    let found : e.leaf ≡ Some l.0 = ap (λ (z : SlotLeaf). z.leaf) (c.remove-entry.ensures.value ∙ ap (λ (k : ℕ). get_or items k e) at) ∙ l.1 in
    let w = c.self.invariant.have s c.requires.hole.0 b hole in
    let same : w.leaf ≡ c.in-Some.leaf.now = one_leaf (sym w.of_slot ∙ (l.2 ∙ ap (λ (z : Bor NumLeaf). Some z.now) (one_bor (sym found ∙ c.in-Some.is)))) in
    subst (λ (z : NumLeaf). IsTrue (num_fine z)) same w.fine

pub returns-clause-width : goal.returns-clause-width
returns-clause-width g c =
    let s = c.args.slot in
    let t = c.self.inside.fills in
    let items = c.self.inside.leaves.items in
    let b : begun t s ≡ true = ap (λ (z : OpenSlots). begun z.table s) c.self.view_is ∙ c.requires.begun in
    let hole : gap_at t s ≡ Some (Some c.requires.hole.0) = ap (λ (z : OpenSlots). gap_at z.table s) c.self.view_is ∙ c.requires.hole.1 in
    let has = hole_leaf s c.requires.hole.0 t items b hole c.self.invariant in
    let at : c.place_of-at.result ≡ leaf_place s items = c.place_of-at.ensures.found ∙ ap (leaf_place s) c.as_slice.ensures.value in
    let e = c.remove-entry.result in
    let l = leaf_at s items e c.self.invariant.are_leaves has in
    let found : e.leaf ≡ Some l.0 = ap (λ (z : SlotLeaf). z.leaf) (c.remove-entry.ensures.value ∙ ap (λ (k : ℕ). get_or items k e) at) ∙ l.1 in
    let w = c.self.invariant.have s c.requires.hole.0 b hole in
    let same : w.leaf ≡ c.in-Some.leaf.now = one_leaf (sym w.of_slot ∙ (l.2 ∙ ap (λ (z : Bor NumLeaf). Some z.now) (one_bor (sym found ∙ c.in-Some.is)))) in
    ap width_of (sym same) ∙ (w.width ∙ ap (λ (z : Gap). Some z.width) (same_some (same_some (sym hole ∙ c.finish-hole.ensures.hole))))

pub returns-clause-some : goal.returns-clause-some
returns-clause-some g c =
    let s = c.args.slot in
    let t = c.self.inside.fills in
    let items = c.self.inside.leaves.items in
    let b : begun t s ≡ true = ap (λ (z : OpenSlots). begun z.table s) c.self.view_is ∙ c.requires.begun in
    let hole : gap_at t s ≡ Some (Some c.requires.hole.0) = ap (λ (z : OpenSlots). gap_at z.table s) c.self.view_is ∙ c.requires.hole.1 in
    let has = hole_leaf s c.requires.hole.0 t items b hole c.self.invariant in
    let at : c.place_of-at.result ≡ leaf_place s items = c.place_of-at.ensures.found ∙ ap (leaf_place s) c.as_slice.ensures.value in
    let e = c.remove-entry.result in
    let l = leaf_at s items e c.self.invariant.are_leaves has in
    let found : e.leaf ≡ Some l.0 = ap (λ (z : SlotLeaf). z.leaf) (c.remove-entry.ensures.value ∙ ap (λ (k : ℕ). get_or items k e) at) ∙ l.1 in
    let w = c.self.invariant.have s c.requires.hole.0 b hole in
    let same : w.leaf ≡ c.in-Some.leaf.now = one_leaf (sym w.of_slot ∙ (l.2 ∙ ap (λ (z : Bor NumLeaf). Some z.now) (one_bor (sym found ∙ c.in-Some.is)))) in
    (w.wanted, subst (λ (z : NumLeaf). Keeps z.set w.wanted c.args.self.now.table s) same (subst (λ (z : Table). Keeps w.leaf.set w.wanted z s) (ap (λ (z : OpenSlots). z.table) c.self.view_is) w.keeps))

pub returns-clause-leaves : goal.returns-clause-leaves
returns-clause-leaves g c =
    let s = c.args.slot in
    let t = c.self.inside.fills in
    let items = c.self.inside.leaves.items in
    let b : begun t s ≡ true = ap (λ (z : OpenSlots). begun z.table s) c.self.view_is ∙ c.requires.begun in
    let hole : gap_at t s ≡ Some (Some c.requires.hole.0) = ap (λ (z : OpenSlots). gap_at z.table s) c.self.view_is ∙ c.requires.hole.1 in
    let has = hole_leaf s c.requires.hole.0 t items b hole c.self.invariant in
    let at : c.place_of-at.result ≡ leaf_place s items = c.place_of-at.ensures.found ∙ ap (leaf_place s) c.as_slice.ensures.value in
    let e = c.remove-entry.result in
    ap leaves_in (c.remove-entry.ensures.items ∙ ap (λ (k : ℕ). remove items k) at) ∙ (less_leaves s items c.self.invariant.are_leaves has ∙ ap (λ (z : OpenSlots). leaves_without s z.leaves) c.self.view_is)
