-- What stands at the first place of a name is the first of this name.
use Rattle.std.proofs.Common.{◌≡◌, ℕ, suc, ◌+◌, Bool, true, false, cond, List, [], ◌∷◌, Option, Some, None, refl, sym, ap, ◌∙◌, arith}
use Rattle.std.specs.Prelude.{option_map, option_and_then, slice_get, find}
use Rattle.std.specs.List.{enumerate_from, position_from}
use Rattle.std.specs.Str.{bytes_eq}
use Rattle.acn_num.specs.Names.{Name}
use Rattle.acn_asn_syntax.specs.Mirror.{Component}
use Rattle.acn_acn_syntax.specs.Mirror as acn
use Rattle.acn_firsts.specs.Placed.{place_of, noted_all}
use Rattle.acn_index.specs.Keyed.{keyed, firsts}
use Rattle.acn_index.proofs.KeyedLaws.{first_from, alone}
use Rattle.acn_slots.specs.Slots.{name_in_text, component_named}
use Rattle.acn_slots.specs.Listed.{numbered, component_at, text_at, component_key, text_key}

module _ {A : Type 0} (test : A → Bool) where
  abbrev on_item : ℕ × A → Bool
  on_item p = test p.1

  -- so far behind a number
  abbrev behind : ℕ → List A → ℕ → Option (ℕ × A)
  behind n xs i = option_map (λ (x : A). (i + n, x)) (slice_get xs i)

  later : (i : ℕ) (xs : List A) → position_from test (i + 1) xs ≡ option_map suc (position_from test i xs)
  later i [] = refl
  later i (x ∷ xs) = ap (cond (test x) (Some (i + 1))) (later (i + 1) xs) ∙ by (test x)
    where
      by : (b : Bool) → cond b (Some (i + 1)) (option_map suc (position_from test (i + 1) xs)) ≡ option_map suc (cond b (Some i) (position_from test (i + 1) xs))
      by true = ap Some (omega arith)
      by false = refl

  moved : (n : ℕ) (x : A) (xs : List A) (o : Option ℕ) → option_and_then (behind (n + 1) xs) o ≡ option_and_then (behind n (x ∷ xs)) (option_map suc o)
  moved n x xs None = refl
  moved n x xs (Some i) = ap (λ (k : ℕ). option_map (λ (y : A). (k, y)) (slice_get xs i)) (omega arith)

  next_found : (n : ℕ) (x : A) (xs : List A) (b : Bool) → option_and_then (behind (n + 1) xs) (position_from test 0 xs) ≡ find on_item (enumerate_from (n + 1) xs)
      → option_and_then (behind n (x ∷ xs)) (cond b (Some 0) (position_from test 1 xs)) ≡ cond b (Some (n, x)) (find on_item (enumerate_from (n + 1) xs))
  next_found n x xs true e = ap (λ (k : ℕ). Some (k, x)) (omega arith)
  next_found n x xs false e = ap (option_and_then (behind n (x ∷ xs))) (later 0 xs) ∙ (sym (moved n x xs (position_from test 0 xs)) ∙ e)

  found_behind : (n : ℕ) (xs : List A) → option_and_then (behind n xs) (position_from test 0 xs) ≡ find on_item (enumerate_from n xs)
  found_behind n [] = refl
  found_behind n (x ∷ xs) = next_found n x xs (test x) (found_behind (n + 1) xs)

  found_numbered : (xs : List A) → option_and_then (numbered xs) (position_from test 0 xs) ≡ find on_item (enumerate_from 0 xs)
  found_numbered xs = at_front (position_from test 0 xs) ∙ found_behind 0 xs
    where
      at_front : (o : Option ℕ) → option_and_then (numbered xs) o ≡ option_and_then (behind 0 xs) o
      at_front None = refl
      at_front (Some i) = ap (λ (k : ℕ). option_map (λ (y : A). (k, y)) (slice_get xs i)) (omega arith)

  next_alone : (n : ℕ) (x : A) (xs : List A) (b : Bool) → option_map (λ (p : ℕ × A). p.1) (find on_item (enumerate_from (n + 1) xs)) ≡ find test xs
      → option_map (λ (p : ℕ × A). p.1) (cond b (Some (n, x)) (find on_item (enumerate_from (n + 1) xs))) ≡ cond b (Some x) (find test xs)
  next_alone n x xs true e = refl
  next_alone n x xs false e = e

  without_number : (n : ℕ) (xs : List A) → option_map (λ (p : ℕ × A). p.1) (find on_item (enumerate_from n xs)) ≡ find test xs
  without_number n [] = refl
  without_number n (x ∷ xs) = next_alone n x xs (test x) (without_number (n + 1) xs)

module _ {A : Type 0} (name_of : A → Name) (q : Name) where
  abbrev is_named : A → Bool
  is_named x = bytes_eq (name_of x) q

  abbrev key : A → List Name
  key x = name_of x ∷ []

  first_listed : (xs : List A) (kept : List (Name × ℕ)) (r : Option ℕ) → kept ≡ firsts key xs → ((all : List (Name × ℕ)) → kept ≡ noted_all [] all → r ≡ place_of q all) → option_and_then (numbered xs) r ≡ find (on_item is_named) (enumerate_from 0 xs)
  first_listed xs kept r e first =
      ap (option_and_then (numbered xs)) (first (keyed key 0 xs) e ∙ first_from key is_named q (λ (x : A). alone (name_of x) q) 0 xs)
      ∙ found_numbered is_named xs

pub component_first : (cs : List Component) (q : Name) (kept : List (Name × ℕ)) (r : Option ℕ) → kept ≡ firsts component_key cs → ((all : List (Name × ℕ)) → kept ≡ noted_all [] all → r ≡ place_of q all) → option_and_then (numbered cs) r ≡ component_at cs q
component_first cs q kept r e first = first_listed (λ (c : Component). c.name) q cs kept r e first

pub text_first : (fs : List acn.Field) (q : Name) (kept : List (Name × ℕ)) (r : Option ℕ) → kept ≡ firsts text_key fs → ((all : List (Name × ℕ)) → kept ≡ noted_all [] all → r ≡ place_of q all) → option_and_then (numbered fs) r ≡ text_at fs q
text_first fs q kept r e first = first_listed name_in_text q fs kept r e first

pub component_alone : (cs : List Component) (q : Name) (o : Option (ℕ × Component)) → o ≡ component_at cs q → option_map (λ (p : ℕ × Component). p.1) o ≡ component_named cs q
component_alone cs q o e = ap (option_map (λ (p : ℕ × Component). p.1)) e ∙ without_number (λ (c : Component). bytes_eq c.name q) 0 cs

pub text_alone : (fs : List acn.Field) (q : Name) (o : Option (ℕ × acn.Field)) → o ≡ text_at fs q → option_map (λ (p : ℕ × acn.Field). p.1) o ≡ find (λ (f : acn.Field). bytes_eq (name_in_text f) q) fs
text_alone fs q o e = ap (option_map (λ (p : ℕ × acn.Field). p.1)) e ∙ without_number (λ (f : acn.Field). bytes_eq (name_in_text f) q) 0 fs
