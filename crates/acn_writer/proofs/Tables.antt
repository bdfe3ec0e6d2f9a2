-- The table and the leaves of its holes belong together, whatever is begun, asked or ended.
use Rattle.std.proofs.Common.{◌≡◌, ℕ, zero, suc, ◌+◌, ◌<◌, ℤ, true, false, List, [], ◌∷◌, ◌++◌, length, remove, Option, Some, None, Result, Ok, Err, OnOk, OnErr, IsTrue, nat_eq, refl, sym, ap, ◌∙◌, subst, arith, length-append}
use Rattle.std.specs.Prelude.{slice_get}
use Rattle.std.proofs.lemmas.Bool.{eqb-true}
use Rattle.acn_bits.specs.Overwrite.{Gap}
use Rattle.acn_grammar.specs.Asks.{Ask}
use Rattle.acn_grammar.specs.Interval.{width_of}
use Rattle.acn_grammar.specs.Leaves.{num_fine}
use Rattle.acn_grammar.specs.declared.node.NumLeaf.{NumLeaf}
use Rattle.acn_fill.specs.Table.{Table, Keeps, KeepsSpot, OneMore, SameAt, avoided_on, begun, frames, gap_at, place, spot_of}
use Rattle.acn_fill.specs.declared.spot.Spot.{Spot}
use Rattle.acn_events.specs.Event.{leaf_of}
use Rattle.acn_events.specs.Steps.{Ends, IsBegun}
use Rattle.acn_events.proofs.Keeping.{same_begun, same_gap}
use Rattle.acn_writer.specs.Leaves.{end_of, has_leaf, leaf_place, leaves_in}
use Rattle.acn_writer.specs.Slots.{HasLeaf, HaveLeaves, Tied, hole_count}
use Rattle.acn_writer.specs.declared.leaf.SlotLeaf.{SlotLeaf}
use Rattle.acn_writer.proofs.LeafLists.{truth, if_yes, if_no, eq_turn, eq_here, has_of_leaf, less_leaves, less_are, less_length, leaf_left, end_left, leaf_place_in, same_some}
use denote.Bor.{Bor}

long_frames : (xs : List Spot) → length (frames xs) ≡ length xs
long_frames [] = refl
long_frames (e ∷ es) = ap suc (long_frames es)

same_keeps : (set : List (ℤ × ℤ)) (wanted : List Ask) (s : ℕ) (old new : Table) → SameAt s old new → Keeps set wanted old s → Keeps set wanted new s
same_keeps set wanted s old new same k =
    subst (λ (z : List ℤ). KeepsSpot set wanted (spot_of s new.spots) z) (sym same.avoided) (subst (λ (o : Option Spot). KeepsSpot set wanted o (avoided_on s old.avoided)) (sym same.spot) k)

-- Counts.

count_push : (gs : List (Option Gap)) (g : Gap) → hole_count (gs ++ Some g ∷ []) ≡ suc (hole_count gs)
count_push [] g = refl
count_push (None ∷ gs) g = count_push gs g
count_push (Some x ∷ gs) g = ap suc (count_push gs g)

count_skip : (gs : List (Option Gap)) → hole_count (gs ++ None ∷ []) ≡ hole_count gs
count_skip [] = refl
count_skip (None ∷ gs) = count_skip gs
count_skip (Some x ∷ gs) = ap suc (count_skip gs)

count_less : (gs : List (Option Gap)) (i : ℕ) (g : Gap) → slice_get gs i ≡ Some (Some g) → suc (hole_count (remove gs i)) ≡ hole_count gs
count_less [] i g h = cc
count_less (None ∷ gs) zero g h = cc
count_less (Some x ∷ gs) zero g h = refl
count_less (None ∷ gs) (suc i) g h = count_less gs i g h
count_less (Some x ∷ gs) (suc i) g h = ap suc (count_less gs i g h)

count_same : (gs : List (Option Gap)) (i : ℕ) → slice_get gs i ≡ Some None → hole_count (remove gs i) ≡ hole_count gs
count_same [] i h = cc
count_same (None ∷ gs) zero h = refl
count_same (Some x ∷ gs) zero h = cc
count_same (None ∷ gs) (suc i) h = count_same gs i h
count_same (Some x ∷ gs) (suc i) h = ap suc (count_same gs i h)

pub count_most : (gs : List (Option Gap)) → (n : ℕ) × (hole_count gs + n ≡ length gs)
count_most [] = (0, refl)
count_most (None ∷ gs) = (let r = count_most gs in let e = r.1 in (suc r.0, omega (arith, e)))
count_most (Some x ∷ gs) = (let r = count_most gs in let e = r.1 in (r.0, omega (arith, e)))

long_less : (gs : List (Option Gap)) (i : ℕ) (g : Option Gap) → slice_get gs i ≡ Some g → suc (length (remove gs i)) ≡ length gs
long_less [] i g h = cc
long_less (x ∷ gs) zero g h = refl
long_less (x ∷ gs) (suc i) g h = ap suc (long_less gs i g h)

-- fewer leaves than places are kept where a slot has room
pub leaves_room : (t : Table) (es : List SlotLeaf) (most : ℕ) → Tied t es → length t.spots < most → length es < most
leaves_room t es most h l = (let m = count_most t.gaps in let a = m.1 in let b = h.count in let c = h.paired in omega (arith, a, b, c, l))

-- Other slots.

other_leaf : (t : ℕ) (g : Gap) (old new : Table) (es es' : List SlotLeaf) → SameAt t old new → leaf_of t (leaves_in es') ≡ leaf_of t (leaves_in es) → end_of t es' ≡ end_of t es → HasLeaf t g old es → HasLeaf t g new es'
other_leaf t g old new es es' same l e h = record {
  leaf = h.leaf;
  of_slot = l ∙ h.of_slot;
  ends = e ∙ h.ends;
  fine = h.fine;
  width = h.width;
  wanted = h.wanted;
  keeps = same_keeps h.leaf.set h.wanted t old new same h.keeps;
}

-- A slot is begun.

begun_paired : (s : ℕ) (g : Option Gap) (old new : Table) → frames new.spots ≡ frames old.spots ++ s ∷ [] → new.gaps ≡ old.gaps ++ g ∷ [] → length old.gaps ≡ length old.spots → length new.gaps ≡ length new.spots
begun_paired s g old new f gaps h =
    let a = ap length gaps ∙ length-append old.gaps (g ∷ []) in
    let b = sym (long_frames new.spots) ∙ (ap length f ∙ length-append (frames old.spots) (s ∷ [])) in
    let c = long_frames old.spots in
    omega (arith, a, b, c, h)

pub tied_opened : (s : ℕ) (leaf : Bor NumLeaf) (g : Gap) (old new : Table) (es es' : List SlotLeaf) (e : SlotLeaf) → es' ≡ e ∷ es → e.slot ≡ s → e.leaf ≡ Some leaf → e.end ≡ g.place + g.width → IsTrue (num_fine leaf.now) → width_of leaf.now ≡ Some g.width → Keeps leaf.now.set [] new s
    → IsBegun s (Some g) old new → frames new.spots ≡ frames old.spots ++ s ∷ [] → Tied old es → Tied new es'
tied_opened s leaf g old new es es' e is slot found end fine width keeps b f h =
    subst (λ (z : List SlotLeaf). Tied new z) (sym is)
    (subst (λ (z : SlotLeaf). Tied new (z ∷ es)) whole (record {
      are_leaves = (refl, h.are_leaves);
      count = ap suc h.count ∙ sym (ap hole_count b.holes ∙ count_push old.gaps g);
      paired = begun_paired s (Some g) old new f b.holes h.paired;
      have = λ t g' c q. truth {F = HasLeaf t g' new (entry ∷ es)} (nat_eq t s)
          (λ y. subst (λ (z : ℕ). HasLeaf z g' new (entry ∷ es)) (sym (eqb-true t s y)) (mine g' (same_some (same_some (sym b.own ∙ (ap (gap_at new) (sym (eqb-true t s y)) ∙ q))))))
          (λ n. other t g' n c q);
    }))
  where
    entry : SlotLeaf
    entry = record { slot = s; leaf = Some leaf; end = g.place + g.width }

    of_parts : ℕ → Option (Bor NumLeaf) → ℕ → SlotLeaf
    of_parts a l n = record { slot = a; leaf = l; end = n }

    whole : entry ≡ e
    whole = sym (ap (λ (z : ℕ). of_parts z e.leaf e.end) slot ∙ (ap (λ (z : Option (Bor NumLeaf)). of_parts s z e.end) found ∙ ap (λ (z : ℕ). of_parts s (Some leaf) z) end))

    mine : (g' : Gap) → g ≡ g' → HasLeaf s g' new (entry ∷ es)
    mine g' p = subst (λ (z : Gap). HasLeaf s z new (entry ∷ es)) p (record {
      leaf = leaf.now;
      of_slot = if_yes (nat_eq s s) (Some leaf.now) (leaf_of s (leaves_in es)) (eq_here s);
      ends = if_yes (nat_eq s s) (g.place + g.width) (end_of s es) (eq_here s);
      fine = fine;
      width = width;
      wanted = [];
      keeps = keeps;
    })

    other : (t : ℕ) (g' : Gap) → nat_eq t s ≡ false → begun new t ≡ true → gap_at new t ≡ Some (Some g') → HasLeaf t g' new (entry ∷ es)
    other t g' n c q =
        let r = b.rest t n in
        let was = sym r.begun_as ∙ c in
        other_leaf t g' old new es (entry ∷ es) (b.others t n) (if_no (nat_eq s t) (Some leaf.now) (leaf_of t (leaves_in es)) (eq_turn t s n)) (if_no (nat_eq s t) (g.place + g.width) (end_of t es) (eq_turn t s n))
        (h.have t g' was (sym (r.gap_as was) ∙ q))

pub tied_noted : (s : ℕ) (old new : Table) (es : List SlotLeaf) → IsBegun s None old new → frames new.spots ≡ frames old.spots ++ s ∷ [] → Tied old es → Tied new es
tied_noted s old new es b f h = record {
  are_leaves = h.are_leaves;
  count = h.count ∙ sym (ap hole_count b.holes ∙ count_skip old.gaps);
  paired = begun_paired s None old new f b.holes h.paired;
  have = λ t g' c q. truth {F = HasLeaf t g' new es} (nat_eq t s)
      (λ y. never g' (sym b.own ∙ (ap (gap_at new) (sym (eqb-true t s y)) ∙ q)))
      (λ n. let r = b.rest t n in let was = sym r.begun_as ∙ c in other_leaf t g' old new es es (b.others t n) refl refl (h.have t g' was (sym (r.gap_as was) ∙ q)));
}
  where
    never : {F : Type 0} (g' : Gap) → Some None ≡ Some (Some g') → F
    never g' e = cc

-- A slot is asked.

pub tied_asked : (s : ℕ) (a : Ask) (old new : Table) (es : List SlotLeaf) → OneMore s a old new → Tied old es → Tied new es
tied_asked s a old new es m h = record {
  are_leaves = h.are_leaves;
  count = h.count ∙ sym (ap hole_count m.holes.gaps);
  paired = ap length m.holes.gaps ∙ (h.paired ∙ (sym (long_frames old.spots) ∙ (ap length (sym m.holes.slots) ∙ long_frames new.spots)));
  have = λ t g' c q.
      let was = h.have t g' (sym (same_begun t old new m.holes) ∙ c) (sym (same_gap t old new m.holes) ∙ q) in
      truth {F = HasLeaf t g' new es} (nat_eq t s)
      (λ y. subst (λ (z : ℕ). HasLeaf z g' old es → HasLeaf z g' new es) (sym (eqb-true t s y)) (mine g') was)
      (λ n. other_leaf t g' old new es es (m.others t n) refl refl was);
}
  where
    mine : (g' : Gap) → HasLeaf s g' old es → HasLeaf s g' new es
    mine g' w = record { leaf = w.leaf; of_slot = w.of_slot; ends = w.ends; fine = w.fine; width = w.width; wanted = w.wanted ++ a ∷ []; keeps = m.kept w.leaf.set w.wanted w.keeps }

-- whether it is asked or refused
pub tied_answered : {E : Type 0} (s : ℕ) (a : Ask) (old new : Table) (es : List SlotLeaf) (r : Result (Unit {0}) E) → OnOk r (OneMore s a old new) → OnErr r (new ≡ old) → Tied old es → Tied new es
tied_answered s a old new es (Ok u) more same h = tied_asked s a old new es more h
tied_answered s a old new es (Err e) more same h = subst (λ (z : Table). Tied z es) (sym same) h

-- A slot is ended.

ended_paired : (s : ℕ) (g : Option Gap) (old new : Table) → gap_at old s ≡ Some g → Ends s old new → length new.spots + 1 ≡ length old.spots → length old.gaps ≡ length old.spots → length new.gaps ≡ length new.spots
ended_paired s g old new is e few h =
    let a = long_less old.gaps (place s old.spots) g is in
    let b = ap length e.gaps in
    omega (arith, a, b, few, h)

ended_other : (s : ℕ) (old new : Table) (es es' : List SlotLeaf) → Ends s old new → ((t : ℕ) → nat_eq t s ≡ false → leaf_of t (leaves_in es') ≡ leaf_of t (leaves_in es)) → ((t : ℕ) → nat_eq t s ≡ false → end_of t es' ≡ end_of t es) → HaveLeaves old es → HaveLeaves new es'
ended_other s old new es es' e l k h t g' c q = truth {F = HasLeaf t g' new es'} (nat_eq t s)
    (λ y. never (sym c ∙ (ap (begun new) (eqb-true t s y) ∙ e.ended)))
    (λ n. let r = e.rest t n in let was = sym r.begun_as ∙ c in other_leaf t g' old new es es' (e.others t n) (l t n) (k t n) (h t g' was (sym (r.gap_as was) ∙ q)))
  where
    never : {F : Type 0} → true ≡ false → F
    never e = cc

pub tied_ended : (s : ℕ) (old new : Table) (es : List SlotLeaf) → gap_at old s ≡ Some None → Ends s old new → length new.spots + 1 ≡ length old.spots → Tied old es → Tied new es
tied_ended s old new es is e few h = record {
  are_leaves = h.are_leaves;
  count = h.count ∙ sym (ap hole_count e.gaps ∙ count_same old.gaps (place s old.spots) is);
  paired = ended_paired s None old new is e few h.paired;
  have = ended_other s old new es es e (λ t n. refl) (λ t n. refl) h.have;
}

-- the leaf of a hole is found
pub hole_leaf : (s : ℕ) (g : Gap) (t : Table) (es : List SlotLeaf) → begun t s ≡ true → gap_at t s ≡ Some (Some g) → Tied t es → has_leaf s es ≡ true
hole_leaf s g t es b is h = (let w = h.have s g b is in has_of_leaf s es w.leaf w.of_slot)

pub tied_filled : (s : ℕ) (g : Gap) (old new : Table) (es es' : List SlotLeaf) → has_leaf s es ≡ true → es' ≡ remove es (leaf_place s es) → gap_at old s ≡ Some (Some g) → Ends s old new → length new.spots + 1 ≡ length old.spots → Tied old es → Tied new es'
tied_filled s g old new es es' b p is e few h = subst (λ (z : List SlotLeaf). Tied new z) (sym p) (record {
  are_leaves = less_are es (leaf_place s es) h.are_leaves;
  count = one (less_length es (leaf_place s es) (leaf_place_in s es b)) h.count (count_less old.gaps (place s old.spots) g is) (ap hole_count e.gaps);
  paired = ended_paired s (Some g) old new is e few h.paired;
  have = ended_other s old new es (remove es (leaf_place s es)) e (λ t n. ap (leaf_of t) (less_leaves s es h.are_leaves b) ∙ leaf_left s t (leaves_in es) n) (λ t n. end_left s t es n) h.have;
})
  where
    one : {a b c d d' : ℕ} → suc a ≡ b → b ≡ c → suc d ≡ c → d' ≡ d → a ≡ d'
    one p q r t = omega (arith, p, q, r, t)
