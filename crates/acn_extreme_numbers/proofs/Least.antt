-- The search finds a best number: of those with a code of the length that is picked the least begins a range or a line, or is one at
-- which lengths change.
use Rattle.std.proofs.Common.{◌≡◌, ℕ, zero, suc, ◌^◌, ℤ, pos, neg_ℤ, ◌+ℤ◌, Bool, true, false, ◌&&◌, List, [], ◌∷◌, ◌++◌, Option, Some, None, append_assoc, refl, sym, ap, ◌∙◌, arith, inl, inr, ◌⊎◌, IsTrue, subst, nat_eq}
use Rattle.std.proofs.lemmas.Bool.{and_parts, or_left, or_right}
use Rattle.std.proofs.lemmas.Bool.Decides.{nat_tests}
use Rattle.std.proofs.lemmas.Int.{ints}
use Rattle.std.specs.Prelude.{◌-ℤ◌, ◌≤ℤ◌, ◌<ℤ◌, int_le, int_lt, if◌then◌else◌, map, nat_abs, unwrap_or}
use Rattle.std.specs.List.{flat_map, list_all}
use Rattle.acn_num.specs.Ranges.{Ranges, In, has, are_ranges}
use Rattle.acn_grammar.specs.Code.{on_line, image_in, image_by, image_of}
use Rattle.acn_grammar.specs.Images.{ends}
use Rattle.acn_grammar.specs.Interval.{fixed_width, origin}
use Rattle.acn_grammar.specs.Leaves.{num_fine, set_fine, integer_set_fine, no_items, has_size, line_fine, share, all_differ}
use Rattle.acn_grammar.specs.Length.{coding_length, num_length, least}
use Rattle.acn_grammar.specs.declared.node.NumCoding.{NumCoding}
use Rattle.acn_grammar.specs.declared.node.NumCoding.TheVariants.{Range, CountedFrom, CountedSigned, PosInt, Twos, Bcd, BcdEnded, Ascii, AsciiEnded, Flag, Fixed}
use Rattle.acn_grammar.specs.declared.node.Items.{Items}
use Rattle.acn_grammar.specs.declared.node.NumKind.{NumKind}
use Rattle.acn_grammar.specs.declared.node.NumKind.TheVariants.{Integer, Boolean, Enumerated, Null}
use Rattle.acn_grammar.specs.declared.node.NumLeaf.{NumLeaf}
use Rattle.acn_grammar.specs.declared.node.Table.{Table}
use Rattle.acn_grammar.proofs.FineLeaves.{rules_of}
use Rattle.acn_grammar.proofs.LeafLengths.{int_ends}
use Rattle.acn_grammar.proofs.Monotone.{Varies}
use Rattle.acn_grammar.proofs.SpanLaw.{fixed_is, varies_if}
use Rattle.acn_grammar.proofs.WholeTests.{either, le_fact, lt_fact, ge_fact}
use Rattle.acn_grammar.proofs.Within.{between, ends-has}
use Rattle.acn_extreme_laws.specs.Codes.{ahead, pick, IsBestNumber}
use Rattle.acn_extreme_laws.specs.declared.side.Side.{Side}
use Rattle.acn_extreme_laws.proofs.Codes.{Among, among_left, among_right, Ascends, Rises, rises, least_in, in_range, self, ahead_self, alone, pick_foremost}
use Rattle.acn_extreme_numbers.specs.Picked.{picked}
use Rattle.acn_extreme_numbers.specs.Tries.{image_on, tried_by, steps, keys_from, line_keys, firsts_by, firsts_of, lesser, least_of, picked_of, tried_of}
use Rattle.acn_extreme_numbers.proofs.Changes.{CanStep, step_found}
use Rattle.acn_extreme_numbers.proofs.Covering.{Line, mapped, least_keeps, lesser_keeps, kind_is, length_is, image_there, apart, picked_permitted, picked_extreme}
use Rattle.acn_extreme_numbers.proofs.Picking.{near_between, number_low, image_is_number, tabled}
use Rattle.acn_extreme_numbers.proofs.Stepping.{counted_low}

-- The least of those with one length.

lesser_bounds : (leaf : NumLeaf) (x best : ℤ) → (lesser leaf x best ≤ℤ best) × (In leaf.set x → num_length leaf x ≡ num_length leaf best → lesser leaf x best ≤ℤ x)
lesser_bounds leaf x best = by (has leaf.set x) (nat_eq (num_length leaf x) (num_length leaf best)) (int_lt x best) (lt_fact x best) (ge_fact x best) (λ e. ap (λ (n : ℕ). nat_eq n (num_length leaf best)) e ∙ same (num_length leaf best))
  where
    same : (n : ℕ) → nat_eq n n ≡ true
    same n = grind (arith, nat_tests)

    by : (s t u : Bool) → (u ≡ true → x <ℤ best) → (u ≡ false → best ≤ℤ x) → (num_length leaf x ≡ num_length leaf best → t ≡ true)
        → ((if s && (t && u) then x else best) ≤ℤ best) × (s ≡ true → num_length leaf x ≡ num_length leaf best → (if s && (t && u) then x else best) ≤ℤ x)
    by true true true f g h = (let l = f refl in omega (arith, ints), λ p q. self x)
    by true true false f g h = (self best, λ p q. g refl)
    by true false u f g h = (self best, λ p q. absurd (wrong (h q)))
      where
        wrong : false ≡ true → ⊥
        wrong e = cc
    by false t u f g h = (self best, λ p q. absurd (wrong p))
      where
        wrong : false ≡ true → ⊥
        wrong e = cc

up : (a b c : ℤ) → a ≤ℤ b → b ≤ℤ c → a ≤ℤ c
up a b c h k = omega (arith, ints)

not_above : (leaf : NumLeaf) (best : ℤ) (xs : List ℤ) → least_of leaf best xs ≤ℤ best
not_above leaf best [] = self best
not_above leaf best (x ∷ xs) = up _ (lesser leaf x best) best (not_above leaf (lesser leaf x best) xs) (lesser_bounds leaf x best).0

among_above : (leaf : NumLeaf) (best : ℤ) (xs : List ℤ) → In leaf.set best → (c : ℤ) → Among c xs → In leaf.set c → num_length leaf c ≡ num_length leaf best → least_of leaf best xs ≤ℤ c
among_above leaf best [] h c q p e = absurd q
among_above leaf best (x ∷ xs) h c (inl is) p e =
    up _ (lesser leaf x best) c (not_above leaf (lesser leaf x best) xs)
    (subst (λ (z : ℤ). lesser leaf x best ≤ℤ z) (sym is) ((lesser_bounds leaf x best).1 (subst (In leaf.set) is p) (ap (num_length leaf) (sym is) ∙ e)))
among_above leaf best (x ∷ xs) h c (inr q) p e = (let one = lesser_keeps leaf x best h in among_above leaf (lesser leaf x best) xs one.there c q p (e ∙ sym one.alike))

-- What is tried where there is no table ascends.

tried_ascends : (o b : ℤ) (rs : Ranges) → Rises b rs → Ascends b (tried_by o None rs)
tried_ascends o b [] h = tt
tried_ascends o b (r ∷ rs) h = (let n = near_between o r h.1 in (h.0, (n.0, (n.1, tried_ascends o r.1 rs h.2))))

first_tried : (o k : ℤ) (rs : Ranges) → Among k (map (λ (r : ℤ × ℤ). r.0) rs) → Among k (tried_by o None rs)
first_tried o k [] h = absurd h
first_tried o k (r ∷ rs) (inl e) = inl e
first_tried o k (r ∷ rs) (inr h) = inr (inr (inr (first_tried o k rs h)))

in_keys : (key image y : ℤ) (ys : List ℤ) → Among y ys → Among (key +ℤ (y -ℤ image)) (keys_from key image ys)
in_keys key image y [] h = absurd h
in_keys key image y (x ∷ ys) (inl e) = inl (ap (λ (z : ℤ). key +ℤ (z -ℤ image)) e)
in_keys key image y (x ∷ ys) (inr h) = inr (in_keys key image y ys h)

-- Numbers of integers.

low_by : (kind : NumKind) (coding : NumCoding) (items : Items) (table : Option Table) (set : Ranges) → kind ≡ Integer → set_fine kind coding items table set ≡ true → (x : ℤ) → has set x ≡ true → neg_ℤ (pos (2 ^ 63)) ≤ℤ x
low_by Integer coding items table set k s x h =
    let a = and_parts (are_ranges set) (integer_set_fine coding (ends set) && no_items items) s in
    let b = and_parts (integer_set_fine coding (ends set)) (no_items items) a.1 in
    let e = int_ends coding (ends set) b.0 in
    let inside = ends-has set x e.0 h e.1 in
    let low = le_fact (neg_ℤ (pos (2 ^ 63))) e.0.0 e.2 in
    up (neg_ℤ (pos (2 ^ 63))) e.0.0 x low inside.0
low_by Boolean coding items table set k s x h = cc
low_by Enumerated coding items table set k s x h = cc
low_by Null coding items table set k s x h = cc

can_step : (coding : NumCoding) (y : ℤ) → ((low : ℤ) → coding ≡ CountedFrom low → low ≤ℤ (y -ℤ pos 1)) → neg_ℤ (pos (2 ^ 63)) ≤ℤ (y -ℤ pos 1) → CanStep coding y
can_step (CountedFrom low) y f h = f low refl
can_step CountedSigned y f h = tt
can_step BcdEnded y f h = h
can_step (AsciiEnded end signed) y f h = h
can_step (Range low width) y f h = tt
can_step (PosInt n) y f h = tt
can_step (Twos n) y f h = tt
can_step (Bcd n) y f h = tt
can_step (Ascii n signed) y f h = tt
can_step (Flag p q) y f h = tt
can_step (Fixed pattern) y f h = tt

-- Of two numbers of a line.

module _ (coding : NumCoding) (varies : Varies coding) (len : ℤ → ℕ) where
  on_change : (l : Line) → ((k : ℤ) → on_line l k ≡ true → len k ≡ coding_length coding (image_on l k)) → line_fine l ≡ true → origin coding ≡ pos 0 → ((low : ℤ) → coding ≡ CountedFrom low → ⊥)
      → (y : ℤ) → l.0 ≤ℤ y → y ≤ℤ l.1 → (len (y -ℤ pos 1) ≡ len y) ⊎ Among y (line_keys (steps coding) l)
  on_change l is fine zero_is never y a b = by (int_lt l.0 y) refl
    where
      low : l.0 <ℤ y → l.0 ≤ℤ (y -ℤ pos 1)
      low h = omega (arith, ints)

      high : (y -ℤ pos 1) ≤ℤ l.1
      high = omega (arith, ints)

      next : image_on l (y -ℤ pos 1) ≡ image_on l y -ℤ pos 1
      next = omega (arith, ints)

      back : l.0 +ℤ ((image_on l y -ℤ pos 0) -ℤ l.2) ≡ y
      back = omega (arith, ints)

      far : l.0 <ℤ y → neg_ℤ (pos (2 ^ 63)) ≤ℤ (image_on l y -ℤ pos 1)
      far h = subst (λ (z : ℤ). neg_ℤ (pos (2 ^ 63)) ≤ℤ z) next (number_low (image_on l (y -ℤ pos 1)) (image_is_number l (y -ℤ pos 1) fine (low h) high))

      keys : Among (image_on l y -ℤ origin coding) (steps coding) → Among y (keys_from l.0 l.2 (steps coding))
      keys h = subst (λ (z : ℤ). Among z (keys_from l.0 l.2 (steps coding))) back (in_keys l.0 l.2 (image_on l y -ℤ pos 0) (steps coding) (subst (λ (z : ℤ). Among (image_on l y -ℤ z) (steps coding)) zero_is h))

      turned : l.0 <ℤ y → (coding_length coding (image_on l y -ℤ pos 1) ≡ coding_length coding (image_on l y)) ⊎ Among (image_on l y -ℤ origin coding) (steps coding) → (len (y -ℤ pos 1) ≡ len y) ⊎ Among y (line_keys (steps coding) l)
      turned h (inl e) = inl (is (y -ℤ pos 1) (in_range l.0 l.1 (y -ℤ pos 1) (low h) high) ∙ (ap (coding_length coding) next ∙ (e ∙ sym (is y (in_range l.0 l.1 y a b)))))
      turned h (inr q) = inr (inr (keys q))

      by : (t : Bool) → int_lt l.0 y ≡ t → (len (y -ℤ pos 1) ≡ len y) ⊎ Among y (line_keys (steps coding) l)
      by true e = (let h = lt_fact l.0 y e in turned h (step_found coding varies (image_on l y) (can_step coding (image_on l y) (λ k q. absurd (never k q)) (far h))))
      by false e = (let h = ge_fact l.0 y e in inr (inl (omega (arith, ints))))

  lines_change : (all before ls : List Line) → all ≡ before ++ ls → all_differ share all ≡ true → ((k y : ℤ) → image_in all k ≡ Some y → len k ≡ coding_length coding y) → list_all line_fine ls ≡ true → origin coding ≡ pos 0 → ((low : ℤ) → coding ≡ CountedFrom low → ⊥)
      → (y v : ℤ) → image_in ls y ≡ Some v → (len (y -ℤ pos 1) ≡ len y) ⊎ Among y (flat_map (line_keys (steps coding)) ls)
  lines_change all before [] e d is fine zero_is never y v i = cc
  lines_change all before (l ∷ ls) e d is fine zero_is never y v i =
      let f = and_parts (line_fine l) (list_all line_fine ls) fine in
      by (on_line l y) refl i (λ q. lines_change all (before ++ l ∷ []) ls (e ∙ sym (append_assoc before (l ∷ []) ls)) d is f.1 zero_is never y v q) f.0
    where
      first : (len (y -ℤ pos 1) ≡ len y) ⊎ Among y (line_keys (steps coding) l) → (len (y -ℤ pos 1) ≡ len y) ⊎ Among y (flat_map (line_keys (steps coding)) (l ∷ ls))
      first (inl same) = inl same
      first (inr h) = inr (among_left y (line_keys (steps coding) l) (flat_map (line_keys (steps coding)) ls) h)

      rest : (len (y -ℤ pos 1) ≡ len y) ⊎ Among y (flat_map (line_keys (steps coding)) ls) → (len (y -ℤ pos 1) ≡ len y) ⊎ Among y (flat_map (line_keys (steps coding)) (l ∷ ls))
      rest (inl same) = inl same
      rest (inr h) = inr (among_right y (line_keys (steps coding) l) (flat_map (line_keys (steps coding)) ls) h)

      by : (t : Bool) → on_line l y ≡ t → (if t then Some (l.2 +ℤ (y -ℤ l.0)) else image_in ls y) ≡ Some v → (image_in ls y ≡ Some v → (len (y -ℤ pos 1) ≡ len y) ⊎ Among y (flat_map (line_keys (steps coding)) ls)) → line_fine l ≡ true
          → (len (y -ℤ pos 1) ≡ len y) ⊎ Among y (flat_map (line_keys (steps coding)) (l ∷ ls))
      by true on q f g = (let w = between l.0 l.1 y on in
          first (on_change l (λ k h. is k (image_on l k) (ap (λ z. image_in z k) e ∙ mapped before l ls k (sym (ap (all_differ share) e) ∙ d) h)) g zero_is never y w.0 w.1))
      by false on q f g = rest (f q)

-- Leaves that keep their rules.

counted_plain : (coding : NumCoding) (low : ℤ) → coding ≡ CountedFrom low → has_size coding ≡ true → ⊥
counted_plain (CountedFrom low) l e h = cc
counted_plain CountedSigned l e h = cc
counted_plain (Range low width) l e h = cc
counted_plain (PosInt n) l e h = cc
counted_plain (Twos n) l e h = cc
counted_plain (Bcd n) l e h = cc
counted_plain BcdEnded l e h = cc
counted_plain (Ascii n signed) l e h = cc
counted_plain (AsciiEnded end signed) l e h = cc
counted_plain (Flag p q) l e h = cc
counted_plain (Fixed pattern) l e h = cc

module _ (leaf : NumLeaf) (fine : IsTrue (num_fine leaf)) (varies : Varies leaf.coding) where
  low_in : (x : ℤ) → In leaf.set x → neg_ℤ (pos (2 ^ 63)) ≤ℤ x
  low_in x h = low_by leaf.kind leaf.coding leaf.items leaf.table leaf.set (kind_is leaf fine varies) (rules_of leaf fine).set x h

  -- a number whose code has another length than that of the one before it is among those that are looked through
  changes : (y : ℤ) → In leaf.set y → In leaf.set (y -ℤ pos 1) → (num_length leaf (y -ℤ pos 1) ≡ num_length leaf y) ⊎ Among y (firsts_of leaf)
  changes y h k = by leaf.table refl
    where
      back : (o : ℤ) → o +ℤ ((y -ℤ o) -ℤ pos 0) ≡ y
      back o = omega (arith, ints)

      plain : leaf.table ≡ None → (coding_length leaf.coding (y -ℤ pos 1) ≡ coding_length leaf.coding y) ⊎ Among (y -ℤ origin leaf.coding) (steps leaf.coding)
          → (num_length leaf (y -ℤ pos 1) ≡ num_length leaf y) ⊎ Among y (firsts_by (origin leaf.coding) None leaf.set (steps leaf.coding))
      plain e (inl same) =
          inl (length_is leaf fine varies (y -ℤ pos 1) (y -ℤ pos 1) (ap (λ t. image_by t (y -ℤ pos 1)) e) ∙ (same ∙ sym (length_is leaf fine varies y y (ap (λ t. image_by t y) e))))
      plain e (inr q) = inr (subst (λ (z : ℤ). Among z (keys_from (origin leaf.coding) (pos 0) (steps leaf.coding))) (back (origin leaf.coding)) (in_keys (origin leaf.coding) (pos 0) (y -ℤ origin leaf.coding) (steps leaf.coding) q))

      lines : (table : Table) → (num_length leaf (y -ℤ pos 1) ≡ num_length leaf y) ⊎ Among y (flat_map (line_keys (steps leaf.coding)) table.lines)
          → (num_length leaf (y -ℤ pos 1) ≡ num_length leaf y) ⊎ Among y (firsts_by (origin leaf.coding) (Some table) leaf.set (steps leaf.coding))
      lines table (inl same) = inl same
      lines table (inr q) = inr (among_right y (map (λ (r : ℤ × ℤ). r.0) leaf.set) (flat_map (line_keys (steps leaf.coding)) table.lines) q)

      by : (t : Option Table) → leaf.table ≡ t → (num_length leaf (y -ℤ pos 1) ≡ num_length leaf y) ⊎ Among y (firsts_by (origin leaf.coding) t leaf.set (steps leaf.coding))
      by None e = plain e (step_found leaf.coding varies y (can_step leaf.coding y (λ low is. counted_low leaf fine low is (y -ℤ pos 1) k) (low_in (y -ℤ pos 1) k)))
      by (Some table) e =
          let t = tabled leaf table fine e in
          let image = image_there leaf fine varies y h in
          lines table (lines_change leaf.coding varies (num_length leaf) table.lines [] table.lines refl (apart leaf fine varies table e) (λ k v i. length_is leaf fine varies k v (ap (λ t. image_by t k) e ∙ i))
          t.lines t.origin_is (λ low is. counted_plain leaf.coding low is t.size) y image.0 (ap (λ t. image_by t y) (sym e) ∙ image.1))

  module _ (side : Side) where
    abbrev found : ℤ
    found = tried_of side leaf

    there : In leaf.set (picked_of side leaf)
    there = picked_permitted leaf fine varies side

    -- the first number of a range isn't below what is found
    first_above : (x : ℤ) → Among x (map (λ (r : ℤ × ℤ). r.0) leaf.set) → In leaf.set x → num_length leaf x ≡ num_length leaf (picked_of side leaf) → found ≤ℤ x
    first_above x q h same = by leaf.table refl
      where
        plain : leaf.table ≡ None → picked_of side leaf ≤ℤ x
        plain e =
            let tried = tried_by (origin leaf.coding) None leaf.set in
            let is : picked_of side leaf ≡ pick (num_length leaf) side (least leaf.set) tried = ap (λ t. pick (num_length leaf) side (least leaf.set) (tried_by (origin leaf.coding) t leaf.set)) e in
            let one = pick_foremost (num_length leaf) side (λ y. y ≡ least leaf.set) (least leaf.set) (least leaf.set) tried (alone (num_length leaf) side (least leaf.set)) (self (least leaf.set)) (tried_ascends (origin leaf.coding) (least leaf.set) leaf.set (rises leaf fine)) in
            subst (λ (z : ℤ). z ≤ℤ x) (sym is) (one.least x (inr (first_tried (origin leaf.coding) x leaf.set q)) (same ∙ ap (num_length leaf) is))

        by : (t : Option Table) → leaf.table ≡ t → found ≤ℤ x
        by None e = up found (picked_of side leaf) x (not_above leaf (picked_of side leaf) (firsts_of leaf)) (plain e)
        by (Some table) e = among_above leaf (picked_of side leaf) (firsts_of leaf) there x
            (subst (λ t. Among x (firsts_by (origin leaf.coding) t leaf.set (steps leaf.coding))) (sym e) (among_left x (map (λ (r : ℤ × ℤ). r.0) leaf.set) (flat_map (line_keys (steps leaf.coding)) table.lines) q)) h same

    -- nor one behind it, step by step
    range_above : (low high : ℤ) → ((x : ℤ) → low ≤ℤ x → x ≤ℤ high → In leaf.set x) → Among low (map (λ (r : ℤ × ℤ). r.0) leaf.set)
        → (n : ℕ) (y : ℤ) → y ≡ (low +ℤ pos n) → y ≤ℤ high → num_length leaf y ≡ num_length leaf (picked_of side leaf) → found ≤ℤ y
    range_above low high inside q zero y is le same =
        let here : y ≡ low = omega (arith, ints) in
        subst (λ (z : ℤ). found ≤ℤ z) (sym here) (first_above low q (inside low (self low) (omega (arith, ints))) (ap (num_length leaf) (sym here) ∙ same))
    range_above low high inside q (suc n) y is le same = by (changes y (inside y (omega (arith, ints)) le) (inside (y -ℤ pos 1) (omega (arith, ints)) (omega (arith, ints)))) (range_above low high inside q n (y -ℤ pos 1) (omega (arith, ints)) (omega (arith, ints)))
      where
        by : (num_length leaf (y -ℤ pos 1) ≡ num_length leaf y) ⊎ Among y (firsts_of leaf) → (num_length leaf (y -ℤ pos 1) ≡ num_length leaf (picked_of side leaf) → found ≤ℤ (y -ℤ pos 1)) → found ≤ℤ y
        by (inl e) f = (let l = f (e ∙ same) in up found (y -ℤ pos 1) y l (omega (arith, ints)))
        by (inr h) f = among_above leaf (picked_of side leaf) (firsts_of leaf) there y h (inside y (omega (arith, ints)) le) same

    steps_up : (low y : ℤ) → low ≤ℤ y → (n : ℕ) × (y ≡ (low +ℤ pos n))
    steps_up low y h = (nat_abs (y -ℤ low), omega (arith, ints))

    ranges_above : (rs : Ranges) → ((x : ℤ) → has rs x ≡ true → In leaf.set x) → ((x : ℤ) → Among x (map (λ (r : ℤ × ℤ). r.0) rs) → Among x (map (λ (r : ℤ × ℤ). r.0) leaf.set))
        → (y : ℤ) → has rs y ≡ true → num_length leaf y ≡ num_length leaf (picked_of side leaf) → found ≤ℤ y
    ranges_above [] inside q y h same = cc
    ranges_above (r ∷ rs) inside q y h same = either {F = found ≤ℤ y} (int_le r.0 y && int_le y r.1) (has rs y) h
        (λ o. let w = between r.0 r.1 y o in
        let n = steps_up r.0 y w.0 in
        range_above r.0 r.1 (λ x a b. inside x (or_left (int_le r.0 x && int_le x r.1) (has rs x) (in_range r.0 r.1 x a b))) (q r.0 (inl refl)) n.0 y n.1 w.1 same)
        (λ o. ranges_above rs (λ x k. inside x (or_right (int_le r.0 x && int_le x r.1) (has rs x) k)) (λ x k. q x (inr k)) y o same)

    -- what the search finds is a best number
    pub found_best : IsBestNumber side leaf (tried_of side leaf)
    found_best =
        let keeps = least_keeps leaf (picked_of side leaf) (firsts_of leaf) there in
        record {
          permitted = keeps.there;
          extreme = λ y h. ap (ahead side (num_length leaf y)) keeps.alike ∙ picked_extreme leaf fine varies side y h;
          least = λ y h e. ranges_above leaf.set (λ x k. k) (λ x k. k) y h (e ∙ keeps.alike);
        }

-- where all codes have one width the least number is a best one
not_below_first : (b : ℤ) (rs : Ranges) → Rises b rs → (y : ℤ) → has rs y ≡ true → b ≤ℤ y
not_below_first b [] o y h = cc
not_below_first b (r ∷ rs) o y h = either {F = b ≤ℤ y} (int_le r.0 y && int_le y r.1) (has rs y) h
    (λ q. up b r.0 y o.0 (between r.0 r.1 y q).0)
    (λ q. up b r.0 y o.0 (up r.0 r.1 y o.1 (not_below_first r.1 rs o.2 y q)))

pub fixed_best : (leaf : NumLeaf) → IsTrue (num_fine leaf) → (w : ℕ) → Some w ≡ fixed_width leaf.coding → (side : Side) → IsBestNumber side leaf (least leaf.set)
fixed_best leaf fine w e side = record {
  permitted = least_in leaf fine;
  extreme = λ y h. ap (λ (n : ℕ). ahead side n (num_length leaf (least leaf.set))) (one y ∙ sym (one (least leaf.set))) ∙ ahead_self side (num_length leaf (least leaf.set));
  least = λ y h q. not_below_first (least leaf.set) leaf.set (rises leaf fine) y h;
}
  where
    one : (x : ℤ) → num_length leaf x ≡ w
    one x = fixed_is leaf.coding w (unwrap_or (image_of leaf x) (pos 0)) e

-- what is found is what the search tries, from the least number on
pub varied_best : (leaf : NumLeaf) → IsTrue (num_fine leaf) → None ≡ fixed_width leaf.coding → (side : Side) (first near last : ℤ) → first ≡ least leaf.set
    → near ≡ picked leaf side first (tried_by (origin leaf.coding) leaf.table leaf.set) → last ≡ least_of leaf near (firsts_of leaf) → IsBestNumber side leaf last
varied_best leaf fine e side first near last is near_is last_is =
    let best = found_best leaf fine (varies_if leaf.coding e) side in
    let same : near ≡ picked_of side leaf = near_is ∙ ap (λ (n : ℤ). picked leaf side n (tried_by (origin leaf.coding) leaf.table leaf.set)) is in
    subst (IsBestNumber side leaf) (sym (last_is ∙ ap (λ (n : ℤ). least_of leaf n (firsts_of leaf)) same)) best
