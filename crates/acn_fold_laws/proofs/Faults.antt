-- A table has no fault where it is one to one, and the fault that it has is the first.
use Rattle.std.proofs.Common.{◌≡◌, ℕ, ◌+◌, ◌≤◌, Bool, true, false, cond, ◌&&◌, ◌||◌, refl, sym, ap, subst, ◌∙◌, ℤ, [], ◌∷◌, ◌++◌, List, length, Option, Some, None, arith}
use Rattle.std.specs.Prelude.{◌+ℤ◌, ◌-ℤ◌, if◌then◌else◌, filter, option_map}
use Rattle.std.specs.List.{list_all, list_any}
use Rattle.std.proofs.lemmas.Bool.{and_parts, and_from, true≢false}
use Rattle.acn_num.specs.Bits.{weight}
use Rattle.acn_num.specs.Ranges.{Ranges, has, AreRanges, meet, least, union}
use Rattle.acn_num.proofs.Members.{or_assoc}
use Rattle.acn_grammar.specs.Leaves.{line_fine}
use Rattle.acn_codings.proofs.FineFront.{line_ranges, union_ranges, union_has}
use Rattle.acn_codings.specs.Tables.{Line, keys, images, lesser, taken, line_fault, or_else, fault_behind}
use Rattle.acn_fold_laws.specs.Ends.{IsLeastThat, IsLeast}
use Rattle.acn_fold_laws.specs.Tables.{has_key, has_image, image_of, IsOneToOne, IsFaultOf, IsFirstFault}
use Rattle.acn_fold_laws.proofs.Ends.{least_same}
use Rattle.acn_fold_laws.proofs.Lines.{key_in, image_in, least_key, least_image, least_taken}

-- ---- one line

-- it isn't at fault, and has no key and no image of these
record IsClear (ks is : Ranges) (l : Line) : Type 0 where
  fine : line_fine l ≡ true
  no_key : (x : ℤ) → (has_key x l && has ks x) ≡ false
  no_image : (y : ℤ) → (has_image y l && has is y) ≡ false

lesser_none : (a b : Option ℤ) → lesser a b ≡ None → (a ≡ None) × (b ≡ None)
lesser_none None b h = (refl, h)
lesser_none (Some x) None h = cc
lesser_none (Some x) (Some y) h = cc

unmapped : (f : ℤ → ℤ) (o : Option ℤ) → option_map f o ≡ None → o ≡ None
unmapped f None h = refl
unmapped f (Some x) h = cc

fine_line : (ks is : Ranges) (l : Line) → line_fault ks is l ≡ None → (line_fine l ≡ true) × (taken ks is l ≡ None)
fine_line ks is l h = by (line_fine l) h
  where
    by : (t : Bool) → (if t then taken ks is l else Some l.0) ≡ None → (t ≡ true) × (taken ks is l ≡ None)
    by true e = (refl, e)
    by false e = cc

none_from : (p : ℤ → Bool) (o : Option ℤ) → IsLeast p o → ((x : ℤ) → p x ≡ false) → o ≡ None
none_from p None h f = refl
none_from p (Some x) h f = absurd (true≢false (sym h.passes ∙ f x))

module _ (ks is : Ranges) (l : Line) (h : AreRanges ks) (k : AreRanges is) where
  clear : line_fault ks is l ≡ None → IsClear ks is l
  clear e =
      let f = fine_line ks is l e in
      let o = lesser_none (least (meet (keys l) ks)) (option_map (λ x. l.0 +ℤ (x -ℤ l.2)) (least (meet (images l) is))) f.1 in
      record {
        fine = f.0;
        no_key = subst (IsLeast (λ x. has_key x l && has ks x)) o.0 (least_key ks is l h k f.0);
        no_image = subst (IsLeast (λ y. has_image y l && has is y)) (unmapped (λ x. l.0 +ℤ (x -ℤ l.2)) (least (meet (images l) is)) o.1) (least_image ks is l h k f.0);
      }

  no_fault : IsClear ks is l → line_fault ks is l ≡ None
  no_fault c =
      ap (λ (t : Bool). if t then taken ks is l else Some l.0) c.fine
      ∙ (ap (λ o. lesser o (option_map (λ x. l.0 +ℤ (x -ℤ l.2)) (least (meet (images l) is)))) (none_from (λ x. has_key x l && has ks x) (least (meet (keys l) ks)) (least_key ks is l h k c.fine) c.no_key)
      ∙ ap (λ o. option_map (λ x. l.0 +ℤ (x -ℤ l.2)) o) (none_from (λ y. has_image y l && has is y) (least (meet (images l) is)) (least_image ks is l h k c.fine) c.no_image))

-- ---- counts of lines

count_step : (p : Line → Bool) (l : Line) (ls : List Line) → length (filter p (l ∷ ls)) ≡ weight (p l) + length (filter p ls)
count_step p l ls = by (p l)
  where
    by : (t : Bool) → length (cond t (l ∷ filter p ls) (filter p ls)) ≡ weight t + length (filter p ls)
    by true = omega arith
    by false = omega arith

or_weight : (a b : Bool) → (b && a) ≡ false → weight (a || b) ≡ weight a + weight b
or_weight true true e = cc
or_weight true false e = refl
or_weight false b e = omega arith

not_both : (a b : Bool) (n : ℕ) → weight a + (weight b + n) ≤ 1 → (b && a) ≡ false
not_both true true n h = absurd (omega (arith, h))
not_both true false n h = refl
not_both false true n h = refl
not_both false false n h = refl

at_most : (b : Bool) → weight b + 0 ≤ 1
at_most true = omega arith
at_most false = omega arith

-- ---- behind lines with these keys and images

record AreClear (ks is : Ranges) (ls : List Line) : Type 0 where
  fine : list_all line_fine ls ≡ true
  few_keys : (x : ℤ) → weight (has ks x) + length (filter (has_key x) ls) ≤ 1
  few_images : (y : ℤ) → weight (has is y) + length (filter (has_image y) ls) ≤ 1

joined : (a b c n m : ℕ) → c ≡ a + b → m ≡ b + n → c + n ≡ a + m
joined a b c n m e f = omega (arith, e, f)

module _ (ks is : Ranges) (l : Line) (ls : List Line) (h : AreRanges ks) (k : AreRanges is) where
  more_keys : IsClear ks is l → (x : ℤ) → weight (has (union ks (keys l)) x) + length (filter (has_key x) ls) ≡ weight (has ks x) + length (filter (has_key x) (l ∷ ls))
  more_keys c x =
      joined (weight (has ks x)) (weight (has_key x l)) (weight (has (union ks (keys l)) x)) (length (filter (has_key x) ls)) (length (filter (has_key x) (l ∷ ls)))
      (ap weight (union_has ks (keys l) x h (line_ranges l c.fine).of_keys ∙ ap (λ t. has ks x || t) (key_in l x)) ∙ or_weight (has ks x) (has_key x l) (c.no_key x))
      (count_step (has_key x) l ls)

  more_images : IsClear ks is l → (y : ℤ) → weight (has (union is (images l)) y) + length (filter (has_image y) ls) ≡ weight (has is y) + length (filter (has_image y) (l ∷ ls))
  more_images c y =
      joined (weight (has is y)) (weight (has_image y l)) (weight (has (union is (images l)) y)) (length (filter (has_image y) ls)) (length (filter (has_image y) (l ∷ ls)))
      (ap weight (union_has is (images l) y k (line_ranges l c.fine).of_images ∙ ap (λ t. has is y || t) (image_in l y)) ∙ or_weight (has is y) (has_image y l) (c.no_image y))
      (count_step (has_image y) l ls)

  with_line : IsClear ks is l → AreClear (union ks (keys l)) (union is (images l)) ls → AreClear ks is (l ∷ ls)
  with_line c r = record {
    fine = and_from (line_fine l) (list_all line_fine ls) c.fine r.fine;
    few_keys = λ x. subst (λ (n : ℕ). n ≤ 1) (more_keys c x) (r.few_keys x);
    few_images = λ y. subst (λ (n : ℕ). n ≤ 1) (more_images c y) (r.few_images y);
  }

  first_clear : AreClear ks is (l ∷ ls) → IsClear ks is l
  first_clear c = record {
    fine = (and_parts (line_fine l) (list_all line_fine ls) c.fine).0;
    no_key = λ x. not_both (has ks x) (has_key x l) (length (filter (has_key x) ls)) (subst (λ (n : ℕ). weight (has ks x) + n ≤ 1) (count_step (has_key x) l ls) (c.few_keys x));
    no_image = λ y. not_both (has is y) (has_image y l) (length (filter (has_image y) ls)) (subst (λ (n : ℕ). weight (has is y) + n ≤ 1) (count_step (has_image y) l ls) (c.few_images y));
  }

  rest_clear : AreClear ks is (l ∷ ls) → AreClear (union ks (keys l)) (union is (images l)) ls
  rest_clear c =
      let f = first_clear c in
      record {
        fine = (and_parts (line_fine l) (list_all line_fine ls) c.fine).1;
        few_keys = λ x. subst (λ (n : ℕ). n ≤ 1) (sym (more_keys f x)) (c.few_keys x);
        few_images = λ y. subst (λ (n : ℕ). n ≤ 1) (sym (more_images f y)) (c.few_images y);
      }

none_clear : (ks is : Ranges) → AreClear ks is []
none_clear ks is = record { fine = refl; few_keys = λ x. at_most (has ks x); few_images = λ y. at_most (has is y) }

or_else_none : (a b : Option ℤ) → or_else a b ≡ None → (a ≡ None) × (b ≡ None)
or_else_none None b h = (refl, h)
or_else_none (Some x) b h = cc

all_clear : (ks is : Ranges) (ls : List Line) → AreRanges ks → AreRanges is → fault_behind ks is ls ≡ None → AreClear ks is ls
all_clear ks is [] h k e = none_clear ks is
all_clear ks is (l ∷ ls) h k e =
    let o = or_else_none (line_fault ks is l) (fault_behind (union ks (keys l)) (union is (images l)) ls) e in
    let c = clear ks is l h k o.0 in
    let r = line_ranges l c.fine in
    with_line ks is l ls h k c (all_clear (union ks (keys l)) (union is (images l)) ls (union_ranges ks (keys l) h r.of_keys) (union_ranges is (images l) k r.of_images) o.1)

none_at_fault : (ks is : Ranges) (ls : List Line) → AreRanges ks → AreRanges is → AreClear ks is ls → fault_behind ks is ls ≡ None
none_at_fault ks is [] h k c = refl
none_at_fault ks is (l ∷ ls) h k c =
    let f = first_clear ks is l ls h k c in
    let r = line_ranges l f.fine in
    ap (λ o. or_else o (fault_behind (union ks (keys l)) (union is (images l)) ls)) (no_fault ks is l h k f)
    ∙ none_at_fault (union ks (keys l)) (union is (images l)) ls (union_ranges ks (keys l) h r.of_keys) (union_ranges is (images l) k r.of_images) (rest_clear ks is l ls h k c)

up_one : (n : ℕ) → 0 + n ≤ 1 → n ≤ 1
up_one n h = omega (arith, h)

down_one : (n : ℕ) → n ≤ 1 → 0 + n ≤ 1
down_one n h = omega (arith, h)

one_to_one : (ls : List Line) → AreClear [] [] ls → IsOneToOne ls
one_to_one ls c = record { fine = c.fine; keys = λ x. up_one (length (filter (has_key x) ls)) (c.few_keys x); images = λ y. up_one (length (filter (has_image y) ls)) (c.few_images y) }

pub is_one_to_one : (ls : List Line) → fault_behind [] [] ls ≡ None → IsOneToOne ls
is_one_to_one ls e = one_to_one ls (all_clear [] [] ls tt tt e)

pub has_no_fault : (ls : List Line) → IsOneToOne ls → fault_behind [] [] ls ≡ None
has_no_fault ls c = none_at_fault [] [] ls tt tt (record { fine = c.fine; few_keys = λ x. down_one (length (filter (has_key x) ls)) (c.keys x); few_images = λ y. down_one (length (filter (has_image y) ls)) (c.images y) })

-- ---- the first fault

abbrev is_taken_by : (ks is : Ranges) (front : List Line) → Line → ℤ → Bool
is_taken_by ks is front l x = has_key x l && ((has ks x || list_any (has_key x) front) || (has is (image_of l x) || list_any (has_image (image_of l x)) front))

abbrev FaultOf : (fine : Bool) (ks is : Ranges) (front : List Line) → Line → ℤ → Type 0
FaultOf false ks is front l x = x ≡ l.0
FaultOf true ks is front l x = IsLeastThat (is_taken_by ks is front l) x

record HasFault (ks is : Ranges) (ls : List Line) (x : ℤ) : Type 0 where
  front : List Line
  line : Line
  behind : List Line
  there : ls ≡ front ++ line ∷ behind
  before : AreClear ks is front
  fault : FaultOf (line_fine line) ks is front line x

or_none : (t : Bool) → t ≡ (t || false)
or_none true = refl
or_none false = refl

none_in_front : (ks is : Ranges) (l : Line) (x : ℤ) → (has_key x l && (has ks x || has is (image_of l x))) ≡ is_taken_by ks is [] l x
none_in_front ks is l x =
    ap (λ t. has_key x l && (t || has is (image_of l x))) (or_none (has ks x)) ∙ ap (λ t. has_key x l && ((has ks x || false) || t)) (or_none (has is (image_of l x)))

here : (ks is : Ranges) (l : Line) (x : ℤ) → AreRanges ks → AreRanges is → line_fault ks is l ≡ Some x → FaultOf (line_fine l) ks is [] l x
here ks is l x h k = by (line_fine l) refl
  where
    by : (t : Bool) → line_fine l ≡ t → (if t then taken ks is l else Some l.0) ≡ Some x → FaultOf t ks is [] l x
    by true fine e = least_same (λ z. has_key z l && (has ks z || has is (image_of l z))) (is_taken_by ks is [] l) (Some x) (none_in_front ks is l) (subst (IsLeast (λ z. has_key z l && (has ks z || has is (image_of l z)))) e (least_taken ks is l h k fine))
    by false fine e = cc

line_more : (ks is : Ranges) (l : Line) (front : List Line) (m : Line) → AreRanges ks → AreRanges is → line_fine l ≡ true
    → (x : ℤ) → is_taken_by (union ks (keys l)) (union is (images l)) front m x ≡ is_taken_by ks is (l ∷ front) m x
line_more ks is l front m h k fine x =
    let r = line_ranges l fine in
    let y = image_of m x in
    ap (λ t. has_key x m && (t || (has (union is (images l)) y || list_any (has_image y) front)))
    (ap (λ t. t || list_any (has_key x) front) (union_has ks (keys l) x h r.of_keys ∙ ap (λ t. has ks x || t) (key_in l x)) ∙ or_assoc (has ks x) (has_key x l) (list_any (has_key x) front))
    ∙ ap (λ t. has_key x m && ((has ks x || (has_key x l || list_any (has_key x) front)) || t))
    (ap (λ t. t || list_any (has_image y) front) (union_has is (images l) y k r.of_images ∙ ap (λ t. has is y || t) (image_in l y)) ∙ or_assoc (has is y) (has_image y l) (list_any (has_image y) front))

behind_line : (ks is : Ranges) (l : Line) (ls : List Line) (x : ℤ) → AreRanges ks → AreRanges is → IsClear ks is l → HasFault (union ks (keys l)) (union is (images l)) ls x → HasFault ks is (l ∷ ls) x
behind_line ks is l ls x h k c f = record {
  front = l ∷ f.front;
  line = f.line;
  behind = f.behind;
  there = ap (λ (m : List Line). l ∷ m) f.there;
  before = with_line ks is l f.front h k c f.before;
  fault = by (line_fine f.line) f.fault;
}
  where
    by : (t : Bool) → FaultOf t (union ks (keys l)) (union is (images l)) f.front f.line x → FaultOf t ks is (l ∷ f.front) f.line x
    by true e = least_same (is_taken_by (union ks (keys l)) (union is (images l)) f.front f.line) (is_taken_by ks is (l ∷ f.front) f.line) (Some x) (line_more ks is l f.front f.line h k c.fine) e
    by false e = e

has_fault : (ks is : Ranges) (ls : List Line) (x : ℤ) → AreRanges ks → AreRanges is → fault_behind ks is ls ≡ Some x → HasFault ks is ls x
has_fault ks is [] x h k e = cc
has_fault ks is (l ∷ ls) x h k e = by (line_fault ks is l) refl e (λ a b f. has_fault (union ks (keys l)) (union is (images l)) ls x a b f)
  where
    by : (o : Option ℤ) → line_fault ks is l ≡ o → or_else o (fault_behind (union ks (keys l)) (union is (images l)) ls) ≡ Some x
        → (AreRanges (union ks (keys l)) → AreRanges (union is (images l)) → fault_behind (union ks (keys l)) (union is (images l)) ls ≡ Some x → HasFault (union ks (keys l)) (union is (images l)) ls x)
        → HasFault ks is (l ∷ ls) x
    by None o f rest =
        let c = clear ks is l h k o in
        let r = line_ranges l c.fine in
        behind_line ks is l ls x h k c (rest (union_ranges ks (keys l) h r.of_keys) (union_ranges is (images l) k r.of_images) f)
    by (Some z) o f rest = record { front = []; line = l; behind = ls; there = refl; before = none_clear ks is; fault = here ks is l x h k (o ∙ f) }

pub first_fault : (ls : List Line) (x : ℤ) → fault_behind [] [] ls ≡ Some x → IsFirstFault ls x
first_fault ls x e =
    let f = has_fault [] [] ls x tt tt e in
    record { front = f.front; line = f.line; behind = f.behind; there = f.there; before = one_to_one f.front f.before; fault = by (line_fine f.line) f.front f.line f.fault }
  where
    by : (t : Bool) (front : List Line) (l : Line) → FaultOf t [] [] front l x → IsFaultOf t front l x
    by true front l g = g
    by false front l g = g
