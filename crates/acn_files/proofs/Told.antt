-- Contents of files, one more after the others.
use Rattle.std.proofs.Common.{◌≡◌, ℕ, zero, suc, ◌+◌, ◌<◌, ◌≤◌, List, [], ◌∷◌, ◌++◌, length, take, map, get_or, Option, Some, None, refl, sym, ap, ◌∙◌, subst, arith, inl, inr}
use Rattle.std.specs.Prelude.{slice_get, Result, Ok, Err, IfErr}
use native.Mathlib.Decide.{dec_lt}
use Rattle.acn_num.specs.declared.limits.TheConstants.{MOST_FILE_BYTES}
use Rattle.acn_outside.specs.Counts.{Rose}
use Rattle.acn_outside.specs.Whole.{IsWhole}
use Rattle.acn_outside.specs.declared.whole.WholeFault.TheVariants.{Failed}
use Rattle.acn_files.specs.declared.whole.FilesFault.{FilesFault}
use Rattle.acn_files.specs.Contents.{Told, AreWhole, IsShort, AreShort}

pub whole_more : (told : Told) (names contents : List (List ℕ)) (name bytes : List ℕ) → AreWhole told names contents → IsWhole (told name) bytes × (length bytes ≤ MOST_FILE_BYTES)
    → AreWhole told (names ++ name ∷ []) (contents ++ bytes ∷ [])
whole_more told [] [] name bytes w h = (h, tt)
whole_more told [] (b ∷ bs) name bytes w h = absurd w
whole_more told (n ∷ ns) [] name bytes w h = absurd w
whole_more told (n ∷ ns) (b ∷ bs) name bytes w h = (w.0, whole_more told ns bs name bytes w.1 h)

short_one : (file : Option (List ℕ)) (bytes : List ℕ) → IsWhole file bytes × (length bytes ≤ MOST_FILE_BYTES) → IsShort file
short_one None bytes h = tt
short_one (Some all) bytes h = subst (λ (xs : List ℕ). length xs ≤ MOST_FILE_BYTES) h.0 h.1

pub short_of_whole : (told : Told) (names contents : List (List ℕ)) → AreWhole told names contents → AreShort told names
short_of_whole told [] contents w = tt
short_of_whole told (n ∷ ns) [] w = absurd w
short_of_whole told (n ∷ ns) (b ∷ bs) w = (short_one (told n) b w.0, short_of_whole told ns bs w.1)

module _ {A B : Type 0} (f : A → B) where
  pub name_there : (xs : List A) (k : ℕ) (x : A) → k < length xs → x ≡ get_or xs k x → slice_get (map f xs) k ≡ Some (f x)
  name_there [] k x h e = absurd (omega arith)
  name_there (y ∷ xs) zero x h e = ap (λ z. Some (f z)) (sym e)
  name_there (y ∷ xs) (suc k) x h e = name_there xs k x (omega arith) e

  taken_next : (xs : List A) (k : ℕ) (x : A) → k < length xs → x ≡ get_or xs k x → take (suc k) (map f xs) ≡ take k (map f xs) ++ f x ∷ []
  taken_next [] k x h e = absurd (omega arith)
  taken_next (y ∷ xs) zero x h e = ap (λ z. f z ∷ []) (sym e)
  taken_next (y ∷ xs) (suc k) x h e = ap (λ more. f y ∷ more) (taken_next xs k x (omega arith) e)

  pub taken_more : (xs : List A) (k : ℕ) (x : A) → k < length xs → x ≡ get_or xs k x → take k (map f xs) ++ f x ∷ [] ≡ take (k + 1) (map f xs)
  taken_more xs k x h e =
      let one : suc k ≡ k + 1 = omega arith in
      sym (taken_next xs k x h e) ∙ ap (λ n. take n (map f xs)) one

  pub taken_all : (xs : List A) (k : ℕ) → length xs ≤ k → take k (map f xs) ≡ map f xs
  taken_all [] zero h = refl
  taken_all [] (suc k) h = refl
  taken_all (y ∷ xs) zero h = absurd (omega arith)
  taken_all (y ∷ xs) (suc k) h = ap (λ more. f y ∷ more) (taken_all xs k (omega arith))

-- what holds in any case
pub of_any : {A P : Type 0} → (r : Result A FilesFault) → P → IfErr r (λ e. (e.fault ≡ Failed → ⊥) → P)
of_any (Ok x) p = tt
of_any (Err e) p = λ not_so. p

pub rose_back : (a b c : ℕ) → a ≤ b → b ≤ c → Rose b c → Rose a c
rose_back a b c h l (inl less) = inl (omega (arith, h, less))
rose_back a b c h l (inr full) = elim (dec_lt a c) [ yes p ↦ inl p | no p ↦ inr (omega (arith, h, l, full, p)) ]
