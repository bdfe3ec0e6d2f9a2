-- The items of an enumeration with the numbers that are written for them.
use Rattle.std.proofs.Common.{◌≡◌, ℕ, suc, Bool, true, false, not, ◌||◌, cond, List, [], ◌∷◌, ◌++◌, append_assoc, map, filter_map, find, length, Option, Some, None, refl, sym, ap, subst, ◌∙◌, ℤ, arith}
use Rattle.std.specs.Prelude.{option_map}
use Rattle.std.specs.List.{list_any, cons_option}
use Rattle.std.specs.Ordering.{int_eq}
use Rattle.std.specs.Str.{bytes_eq}
use Rattle.std.proofs.lemmas.Bool.{and_parts, and_from, or_parts, or_from, not-true, not-false, not_from_false, false_from_ne_true, true≢false, or_right, or_left}
use Rattle.std.proofs.lemmas.Bool.Decides.{nat_tests}
use Rattle.std.proofs.lemmas.Int.{ints}
use Rattle.std.proofs.lemmas.Slice.Eq.{bytes_eq-Decides}
use Rattle.acn_num.specs.Names.{Name}
use Rattle.acn_asn_syntax.specs.declared.types.Item.{Item}
use Rattle.acn_acn_syntax.specs.Mirror.{Field}
use Rattle.acn_codings.specs.Items.{written, without_at, numbers_behind, free, numbers_of}
use Rattle.acn_num.specs.Ranges.{Ranges}
use Rattle.acn_enum_values.specs.EnumValues.{with_number, twins_behind, twins, has_number, lacks, lacking, braces_fault, fault_of}
use Rattle.acn_asn_syntax.specs.Mirror.{enumerated}
use Rattle.acn_grammar.specs.Asks.{same_name}
use Rattle.acn_grammar.specs.Leaves.{all_differ}
use Rattle.acn_grammar.proofs.Characters.{same_name-is, same_name-refl}
use Rattle.acn_written.specs.Items.{Numbered, item_numbers, field_numbers}
use Rattle.acn_written.specs.Numbers.{renumbered, values_of}
use Rattle.acn_leaf_laws.specs.Laws.{item_names}
use Rattle.acn_leaf_laws.proofs.Options.{both_none, unmapped}
use Rattle.acn_leaf_laws.proofs.Ordering.{length_map, first_parts}

-- ---- names and numbers that are the same

pub name_symmetric : (a b : List ℕ) → same_name a b ≡ same_name b a
name_symmetric a b = by (same_name a b) (same_name b a) refl refl
  where
    by : (t u : Bool) → same_name a b ≡ t → same_name b a ≡ u → t ≡ u
    by true true e f = refl
    by false false e f = refl
    by true false e f = sym (subst (λ (z : List ℕ). same_name b z ≡ true) (sym (same_name-is a b e)) (same_name-refl b)) ∙ f
    by false true e f = sym e ∙ subst (λ (z : List ℕ). same_name a z ≡ true) (sym (same_name-is b a f)) (same_name-refl a)

pub number_symmetric : (x y : ℤ) → int_eq x y ≡ int_eq y x
number_symmetric x y = grind (arith, ints, nat_tests)

abbrev pub one_number : Numbered → Numbered → Bool
one_number a b = int_eq a.1 b.1

-- ---- without twins the numbers differ

found_none : {A : Type 0} (p : A → Bool) (x : A) (xs : List A) → find p (x ∷ xs) ≡ None → (p x ≡ false) × (find p xs ≡ None)
found_none {A} p x xs h = by (p x) h
  where
    by : (t : Bool) → cond t (Some x) (find p xs) ≡ None → (t ≡ false) × (find p xs ≡ None)
    by true e = cc
    by false e = (refl, e)

-- nor does one behind others pass
none_at : {A : Type 0} (p : A → Bool) (front : List A) (x : A) (back : List A) → find p (front ++ x ∷ back) ≡ None → p x ≡ false
none_at p [] x back h = (found_none p x back h).0
none_at p (y ∷ front) x back h = none_at p front x back (found_none p y (front ++ x ∷ back) h).1

twins_step : (before : List Numbered) (i : Numbered) (is : List Numbered) → twins_behind before (i ∷ is) ≡ None → (find (λ (j : Numbered). int_eq i.1 j.1) before ≡ None) × (twins_behind (before ++ i ∷ []) is ≡ None)
twins_step before i is h =
    let o = both_none (option_map (λ (name : Name). (name, i.0)) (with_number before i.1)) (twins_behind (before ++ i ∷ []) is) h in
    (unmapped (λ (j : Numbered). j.0) (find (λ (j : Numbered). int_eq i.1 j.1) before) (unmapped (λ (name : Name). (name, i.0)) (with_number before i.1) o.0), o.1)

-- none behind it has the number of one that stood before
none_later : (front : List Numbered) (x : Numbered) (back is : List Numbered) → twins_behind (front ++ x ∷ back) is ≡ None → list_any (one_number x) is ≡ false
none_later front x back [] h = refl
none_later front x back (i ∷ is) h =
    let s = twins_step (front ++ x ∷ back) i is h in
    or_from (one_number x i) (list_any (one_number x) is) (number_symmetric x.1 i.1 ∙ none_at (λ (j : Numbered). int_eq i.1 j.1) front x back s.0)
    (none_later front x (back ++ i ∷ []) is (subst (λ (l : List Numbered). twins_behind l is ≡ None) (append_assoc front (x ∷ back) (i ∷ [])) s.1))

differ_behind : (before is : List Numbered) → twins_behind before is ≡ None → all_differ one_number is ≡ true
differ_behind before [] h = refl
differ_behind before (i ∷ is) h =
    let s = twins_step before i is h in
    and_from (not (list_any (one_number i) is)) (all_differ one_number is) (not_from_false (list_any (one_number i) is) (none_later before i [] is s.1)) (differ_behind (before ++ i ∷ []) is s.1)

pub numbers_differ : (is : List Numbered) → twins is ≡ None → all_differ one_number is ≡ true
numbers_differ is h = differ_behind [] is h

-- ---- the numbers of ASN.1

length_behind : (unused : Ranges) (k : ℕ) (items : List Item) → length (numbers_behind unused k items) ≡ length items
length_behind unused k [] = refl
length_behind unused k (i ∷ is) = ap (λ n. suc n) (length_behind unused (without_at k (written i)) is)

length_numbers : (items : List Item) → length (numbers_of items) ≡ length items
unfolding numbers_of
length_numbers items = length_behind (free items) 0 items

pub numbered_names : (items : List Item) → map (λ (i : Numbered). i.0) (item_numbers items) ≡ item_names items
numbered_names items = first_parts (item_names items) (numbers_of items) (length_map (λ (i : Item). i.name) items ∙ sym (length_numbers items))

-- ---- the numbers that braces give

same_bytes : (a b : List ℕ) → bytes_eq a b ≡ true → a ≡ b
same_bytes a b h = (bytes_eq-Decides a b).0 h

found_any : {A : Type 0} (p q : A → Bool) (xs : List A) (x : A) → find p xs ≡ Some x → q x ≡ true → list_any q xs ≡ true
found_any p q [] x h e = cc
found_any p q (y ∷ ys) x h e = by (p y) h (λ g. found_any p q ys x g e)
  where
    by : (t : Bool) → cond t (Some y) (find p ys) ≡ Some x → (find p ys ≡ Some x → list_any q ys ≡ true) → (q y || list_any q ys) ≡ true
    by true g rest = or_left (q y) (list_any q ys) (let i : x ≡ y = cc in ap q (sym i) ∙ e)
    by false g rest = or_right (q y) (list_any q ys) (rest g)

any_found : {A : Type 0} (p : A → Bool) (xs : List A) → list_any p xs ≡ true → (x : A) × (find p xs ≡ Some x)
any_found p [] h = cc
any_found {A} p (y ∷ ys) h = by (p y) h (any_found p ys)
  where
    by : (t : Bool) → (t || list_any p ys) ≡ true → (list_any p ys ≡ true → (x : A) × (find p ys ≡ Some x)) → (x : A) × (cond t (Some y) (find p ys) ≡ Some x)
    by true e rest = (y, refl)
    by false e rest = rest e

-- two names with one number are one name
one_name : (given : List Numbered) (m n : Name) (g h : Numbered) → all_differ one_number given ≡ true → find (λ (k : Numbered). bytes_eq m k.0) given ≡ Some g → find (λ (k : Numbered). bytes_eq n k.0) given ≡ Some h → int_eq g.1 h.1 ≡ true → m ≡ n
one_name [] m n g h d e f same = cc
one_name (k ∷ ks) m n g h d e f same =
    let p = and_parts (not (list_any (one_number k) ks)) (all_differ one_number ks) d in
    by (not-true (list_any (one_number k) ks) p.0) (bytes_eq m k.0) (bytes_eq n k.0) refl refl e f (λ c o. one_name ks m n g h p.1 c o same)
  where
    alone : list_any (one_number k) ks ≡ false → (z : Numbered) (o : Name) → find (λ (j : Numbered). bytes_eq o j.0) ks ≡ Some z → int_eq k.1 z.1 ≡ true → ⊥
    alone none z o there is = true≢false (sym (found_any (λ (j : Numbered). bytes_eq o j.0) (one_number k) ks z there is) ∙ none)

    by : list_any (one_number k) ks ≡ false → (t u : Bool) → bytes_eq m k.0 ≡ t → bytes_eq n k.0 ≡ u → cond t (Some k) (find (λ (j : Numbered). bytes_eq m j.0) ks) ≡ Some g → cond u (Some k) (find (λ (j : Numbered). bytes_eq n j.0) ks) ≡ Some h
        → (find (λ (j : Numbered). bytes_eq m j.0) ks ≡ Some g → find (λ (j : Numbered). bytes_eq n j.0) ks ≡ Some h → m ≡ n) → m ≡ n
    by none true true a b c o rest = same_bytes m k.0 a ∙ sym (same_bytes n k.0 b)
    by none true false a b c o rest = (let i : k ≡ g = cc in absurd (alone none h n o (ap (λ (z : Numbered). int_eq z.1 h.1) i ∙ same)))
    by none false true a b c o rest = (let i : k ≡ h = cc in absurd (alone none g m c (ap (λ (z : Numbered). int_eq z.1 g.1) i ∙ (number_symmetric h.1 g.1 ∙ same))))
    by none false false a b c o rest = rest c o

-- each item has a number between the braces
record IsGiven (given : List Numbered) (i : Item) : Type 0 where
  field : Numbered
  there : find (λ (g : Numbered). bytes_eq i.name g.0) given ≡ Some field

given_one : (given : List Numbered) (i : Item) → lacks given i ≡ false → IsGiven given i
given_one given i h = (let f = any_found (λ (g : Numbered). bytes_eq i.name g.0) given (not-false (has_number given i.name) h) in record { field = f.0; there = f.1 })

-- an item with its number in front of the others
given_front : (given : List Numbered) (i : Item) (is : List Item) (g : IsGiven given i) → filter_map (renumbered given) (i ∷ is) ≡ (i.name, g.field.1) ∷ filter_map (renumbered given) is
given_front given i is g = ap (λ (o : Option Numbered). cons_option (option_map (λ (x : ℤ). (i.name, x)) (option_map (λ (k : Numbered). k.1) o)) (filter_map (renumbered given) is)) g.there

lacking_parts : (given : List Numbered) (i : Item) (is : List Item) → find (lacks given) (i ∷ is) ≡ None → IsGiven given i × (find (lacks given) is ≡ None)
lacking_parts given i is h = (let f = found_none (lacks given) i is h in (given_one given i f.0, f.1))

pub given_names : (given : List Numbered) (items : List Item) → find (lacks given) items ≡ None → map (λ (i : Numbered). i.0) (filter_map (renumbered given) items) ≡ item_names items
given_names given [] h = refl
given_names given (i ∷ is) h =
    let l = lacking_parts given i is h in
    ap (map (λ (i : Numbered). i.0)) (given_front given i is l.0) ∙ ap (λ ns. i.name ∷ ns) (given_names given is l.1)

-- no later item has its number
given_later : (given : List Numbered) (i : Item) (g : IsGiven given i) (is : List Item) → all_differ one_number given ≡ true → find (lacks given) is ≡ None → list_any (same_name i.name) (item_names is) ≡ false → list_any (one_number (i.name, g.field.1)) (filter_map (renumbered given) is) ≡ false
given_later given i g [] d h n = refl
given_later given i g (j ∷ js) d h n =
    let l = lacking_parts given j js h in
    let o = or_parts (same_name i.name j.name) (list_any (same_name i.name) (item_names js)) n in
    ap (list_any (one_number (i.name, g.field.1))) (given_front given j js l.0)
    ∙ or_from (int_eq g.field.1 l.0.field.1) (list_any (one_number (i.name, g.field.1)) (filter_map (renumbered given) js))
    (false_from_ne_true (int_eq g.field.1 l.0.field.1) (λ same. true≢false (sym (ap (same_name i.name) (sym (one_name given i.name j.name g.field l.0.field d g.there l.0.there same)) ∙ same_name-refl i.name) ∙ o.0)))
    (given_later given i g js d l.1 o.1)

pub given_differ : (given : List Numbered) (items : List Item) → all_differ one_number given ≡ true → find (lacks given) items ≡ None → all_differ same_name (item_names items) ≡ true → all_differ one_number (filter_map (renumbered given) items) ≡ true
given_differ given [] d h n = refl
given_differ given (i ∷ is) d h n =
    let l = lacking_parts given i is h in
    let o = and_parts (not (list_any (same_name i.name) (item_names is))) (all_differ same_name (item_names is)) n in
    ap (all_differ one_number) (given_front given i is l.0)
    ∙ and_from (not (list_any (one_number (i.name, l.0.field.1)) (filter_map (renumbered given) is))) (all_differ one_number (filter_map (renumbered given) is))
    (not_from_false (list_any (one_number (i.name, l.0.field.1)) (filter_map (renumbered given) is)) (given_later given i l.0 is d l.1 (not-true (list_any (same_name i.name) (item_names is)) o.0)))
    (given_differ given is d l.1 o.1)

-- ---- the items of a site without a reason

pub record AreNumbered (items : List Item) (values : List Numbered) : Type 0 where
  pub names : map (λ (i : Numbered). i.0) values ≡ item_names items
  pub numbers : all_differ one_number values ≡ true

pub values_numbered : (items : List Item) (braces : Option (List Field)) → fault_of (enumerated items) braces ≡ None → all_differ same_name (item_names items) ≡ true → AreNumbered items (values_of items braces)
values_numbered items None h n = record { names = numbered_names items; numbers = numbers_differ (item_numbers items) (both_none (twins (item_numbers items)) (braces_fault items None) h).0 }
values_numbered items (Some fs) h n =
    let o = both_none (twins (item_numbers items)) (braces_fault items (Some fs)) h in
    let b = both_none (twins (field_numbers fs)) (lacking (field_numbers fs) items) o.1 in
    let all = unmapped (λ (i : Item). (i.name, i.name)) (find (lacks (field_numbers fs)) items) b.1 in
    record { names = given_names (field_numbers fs) items all; numbers = given_differ (field_numbers fs) items (numbers_differ (field_numbers fs) b.0) all n }
