-- Lines whose keys rise, and those that can have keys in a range.
use Rattle.std.proofs.Common.{◌++◌, ◌≡◌, ℕ, zero, suc, ◌+◌, ◌-◌, ◌<◌, ◌≤◌, Bool, true, List, [], ◌∷◌, map, length, get_or, take, drop, refl, sym, ap, subst, ◌∙◌, arith}
use Rattle.std.specs.Prelude.{ℤ, int_lt}
use Rattle.std.specs.List.{list_all, flat_map}
use Rattle.std.proofs.lemmas.Bool.{and_parts, and_from}
use Rattle.std.proofs.lemmas.Int.{ints, clamps}
use Rattle.std.proofs.lemmas.Grind.{flat_map-append}
use Rattle.std.proofs.lemmas.List.{append-nil, map-append, take-append-drop, take_more, drop_more, drop-drop}
use Rattle.acn_grammar.specs.Images.{clipped}
use Rattle.acn_grammar.specs.Leaves.{line_fine}
use Rattle.acn_grammar.proofs.WholeTests.{lt_fact}
use Rattle.acn_leaf.specs.Neighbours.{neighbours_differ}
use Rattle.acn_leaf.specs.Sides.{range_of, reaches}
use Rattle.acn_leaf.specs.declared.line_blocks.Side.TheVariants.{Keys}
use Rattle.acn_leaf.proofs.Rising.{Rises, rises_behind, earlier, later, in_order}
use Rattle.acn_leaf.proofs.Sides.{of_ranges, ranges_fine}
use Rattle.acn_leaf.proofs.TableRules.{clipped_none}

abbrev Line : Type 0
Line = ℤ × ℤ × ℤ

all_append : (p : Line → Bool) (xs : List Line) (y : Line) → list_all p xs ≡ true → p y ≡ true → list_all p (xs ++ y ∷ []) ≡ true
all_append p [] y h k = and_from (p y) true k refl
all_append p (x ∷ xs) y h k = (let f = and_parts (p x) (list_all p xs) h in and_from (p x) (list_all p (xs ++ y ∷ [])) f.0 (all_append p xs y f.1 k))

rises_at : (lines : List Line) (m : ℕ) (d : Line) → m < length lines → list_all line_fine lines ≡ true → neighbours_differ reaches (map (range_of Keys) lines) ≡ true
    → Rises (map (range_of Keys) (take m lines) ++ (range_of Keys (get_or lines m d) ∷ map (range_of Keys) (drop (m + 1) lines)))
rises_at lines m d long fine rising =
    let e : lines ≡ take m lines ++ (get_or lines m d ∷ drop (m + 1) lines) = sym (take-append-drop m lines) ∙ ap (λ z. take m lines ++ z) (drop_more lines m d long) in
    subst Rises (ap (map (range_of Keys)) e ∙ map-append (range_of Keys) (take m lines) (get_or lines m d ∷ drop (m + 1) lines)) (record { each = ranges_fine Keys lines fine; rising = rising })

pub more_lines_before : (x : ℤ) (lines : List (ℤ × ℤ × ℤ)) (m : ℕ) (d : ℤ × ℤ × ℤ) → m < length lines → list_all line_fine lines ≡ true → neighbours_differ reaches (map (range_of Keys) lines) ≡ true
    → int_lt (get_or lines m d).1 x ≡ true → list_all (λ line. int_lt line.1 x) (take (m + 1) lines) ≡ true
more_lines_before x lines m d long fine rising t =
    let y = get_or lines m d in
    let whole = rises_at lines m d long fine rising in
    let here = rises_behind (map (range_of Keys) (take m lines)) (range_of Keys y ∷ map (range_of Keys) (drop (m + 1) lines)) whole in
    let o = in_order (range_of Keys y) (map (range_of Keys) (drop (m + 1) lines)) here.each in
    let l = lt_fact y.1 x t in
    let front = earlier x (map (range_of Keys) (take m lines)) (range_of Keys y) (map (range_of Keys) (drop (m + 1) lines)) whole (omega (arith, ints, o, l)) in
    ap (list_all (λ line. int_lt line.1 x)) (take_more lines m d long) ∙ all_append (λ line. int_lt line.1 x) (take m lines) y (of_ranges (λ r. int_lt r.1 x) Keys (take m lines) ∙ front) t

pub more_lines_behind : (x : ℤ) (lines : List (ℤ × ℤ × ℤ)) (m : ℕ) (d : ℤ × ℤ × ℤ) → m < length lines → list_all line_fine lines ≡ true → neighbours_differ reaches (map (range_of Keys) lines) ≡ true
    → int_lt x (get_or lines m d).0 ≡ true → list_all (λ line. int_lt x line.0) (drop m lines) ≡ true
more_lines_behind x lines m d long fine rising t =
    let y = get_or lines m d in
    let here = rises_behind (map (range_of Keys) (take m lines)) (range_of Keys y ∷ map (range_of Keys) (drop (m + 1) lines)) (rises_at lines m d long fine rising) in
    ap (list_all (λ line. int_lt x line.0)) (drop_more lines m d long) ∙ (of_ranges (λ r. int_lt x r.0) Keys (y ∷ drop (m + 1) lines) ∙ later x (range_of Keys y) (map (range_of Keys) (drop (m + 1) lines)) here (lt_fact x y.0 t))

-- Lines that have no key in a range.

none_before : (r : ℤ × ℤ) (lines : List Line) → list_all (λ line. int_lt line.1 r.0) lines ≡ true → flat_map (clipped r) lines ≡ []
none_before r [] h = refl
none_before r (l ∷ ls) h =
    let f = and_parts (int_lt l.1 r.0) (list_all (λ line. int_lt line.1 r.0) ls) h in
    let k = lt_fact l.1 r.0 f.0 in
    rw (clipped_none r l (omega (arith, ints, clamps, k)), none_before r ls f.1) refl

none_behind : (r : ℤ × ℤ) (lines : List Line) → list_all (λ line. int_lt r.1 line.0) lines ≡ true → flat_map (clipped r) lines ≡ []
none_behind r [] h = refl
none_behind r (l ∷ ls) h =
    let f = and_parts (int_lt r.1 l.0) (list_all (λ line. int_lt r.1 line.0) ls) h in
    let k = lt_fact r.1 l.0 f.0 in
    rw (clipped_none r l (omega (arith, ints, clamps, k)), none_behind r ls f.1) refl

all_front : (p : Line → Bool) (m n : ℕ) (xs : List Line) → m ≤ n → list_all p (take n xs) ≡ true → list_all p (take m xs) ≡ true
all_front p zero n xs h k = refl
all_front p (suc m) zero xs h k = absurd (omega arith)
all_front p (suc m) (suc n) [] h k = refl
all_front p (suc m) (suc n) (x ∷ xs) h k = (let f = and_parts (p x) (list_all p (take n xs)) k in and_from (p x) (list_all p (take m xs)) f.0 (all_front p m n xs (omega arith) f.1))

pub images_near : (r : ℤ × ℤ) (lines : List (ℤ × ℤ × ℤ)) (n start end : ℕ) → start ≤ n → start ≤ end → list_all (λ line. int_lt line.1 r.0) (take n lines) ≡ true → list_all (λ line. int_lt r.1 line.0) (drop end lines) ≡ true
    → flat_map (clipped r) (take (end - start) (drop start lines)) ≡ flat_map (clipped r) lines
images_near r lines n start end h k before behind =
    let rest = drop start lines in
    let none = none_before r (take start lines) (all_front (λ line. int_lt line.1 r.0) start n lines h before) in
    let e : drop (end - start) rest ≡ drop end lines = drop-drop (end - start) start lines ∙ ap (λ i. drop i lines) (omega arith) in
    let last = none_behind r (drop (end - start) rest) (ap (list_all (λ line. int_lt r.1 line.0)) e ∙ behind) in
    sym (
    ap (flat_map (clipped r)) (sym (take-append-drop start lines))
    ∙ (flat_map-append (clipped r) (take start lines) rest
    ∙ (ap (λ z. z ++ flat_map (clipped r) rest) none
    ∙ (ap (flat_map (clipped r)) (sym (take-append-drop (end - start) rest))
    ∙ (flat_map-append (clipped r) (take (end - start) rest) (drop (end - start) rest)
    ∙ (ap (λ z. flat_map (clipped r) (take (end - start) rest) ++ z) last ∙ append-nil (flat_map (clipped r) (take (end - start) rest))))))))
