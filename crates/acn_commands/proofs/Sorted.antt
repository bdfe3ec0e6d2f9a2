-- Files with their names and contents.
use Rattle.std.proofs.Common.{◌≡◌, ℕ, zero, suc, ◌+◌, ◌<◌, ◌≤◌, Bool, true, false, ◌&&◌, List, [], ◌∷◌, ◌++◌, length, map, take, get_or, Option, Some, None, refl, sym, ap, ◌∙◌, subst, arith}
use Rattle.std.specs.Prelude.{slice_get}
use Rattle.std.specs.List.{list_all}
use Rattle.acn_files.specs.Contents.{Told, AreWhole}
use Rattle.acn_num.specs.declared.limits.TheConstants.{MOST_FILE_BYTES}
use Rattle.acn_sources.specs.Files.{AreShort}
use Rattle.acn_sources.specs.Names.{kind_of_name}
use Rattle.acn_sources.specs.declared.sources.File.{File}
use Rattle.acn_commands.specs.Asked.{AreFilesOf}

pub files_more : (names contents : List (List ℕ)) (files : List File) (name bytes : List ℕ) (file : File) → AreFilesOf names contents files → kind_of_name name ≡ Some file.kind → file.bytes.now ≡ bytes
    → AreFilesOf (names ++ name ∷ []) (contents ++ bytes ∷ []) (files ++ file ∷ [])
files_more [] [] [] name bytes file all k b = ((k, b), tt)
files_more (n ∷ ns) (c ∷ cs) (f ∷ fs) name bytes file all k b = (all.0, files_more ns cs fs name bytes file all.1 k b)
files_more [] [] (f ∷ fs) name bytes file all k b = absurd all
files_more [] (c ∷ cs) fs name bytes file all k b = absurd all
files_more (n ∷ ns) [] fs name bytes file all k b = absurd all
files_more (n ∷ ns) (c ∷ cs) [] name bytes file all k b = absurd all

pub same_count : (names contents : List (List ℕ)) (files : List File) → AreFilesOf names contents files → length files ≡ length names
same_count [] [] [] all = refl
same_count (n ∷ ns) (c ∷ cs) (f ∷ fs) all = ap suc (same_count ns cs fs all.1)
same_count [] [] (f ∷ fs) all = absurd all
same_count [] (c ∷ cs) fs all = absurd all
same_count (n ∷ ns) [] fs all = absurd all
same_count (n ∷ ns) (c ∷ cs) [] all = absurd all

pub whole_count : (told : Told) (names contents : List (List ℕ)) → AreWhole told names contents → length names ≡ length contents
whole_count told [] [] all = refl
whole_count told (n ∷ ns) (c ∷ cs) all = ap suc (whole_count told ns cs all.1)
whole_count told [] (c ∷ cs) all = absurd all
whole_count told (n ∷ ns) [] all = absurd all

pub files_short : (told : Told) (names contents : List (List ℕ)) (files : List File) → AreWhole told names contents → AreFilesOf names contents files → AreShort files
files_short told [] [] [] w all n f e = absurd (nothing e)
  where
    nothing : None ≡ Some f → ⊥
    nothing e' = cc
files_short told (n ∷ ns) (c ∷ cs) (f ∷ fs) w all zero g e = by (short_is e)
  where
    by : f ≡ g → length g.bytes.now ≤ MOST_FILE_BYTES
    by h = subst (λ (file : File). length file.bytes.now ≤ MOST_FILE_BYTES) h (subst (λ (b : List ℕ). length b ≤ MOST_FILE_BYTES) (sym all.0.1) w.0.1)

    short_is : Some f ≡ Some g → f ≡ g
    short_is h = grind arith
files_short told (n ∷ ns) (c ∷ cs) (f ∷ fs) w all (suc k) g e = files_short told ns cs fs w.1 all.1 k g e
files_short told [] [] (f ∷ fs) w all n g e = absurd all
files_short told [] (c ∷ cs) fs w all n g e = absurd all
files_short told (m ∷ ns) [] fs w all n g e = absurd all
files_short told (m ∷ ns) (c ∷ cs) [] w all n g e = absurd all

-- the bytes of a file are the contents of its number
pub bytes_there : (names contents : List (List ℕ)) (files : List File) (k : ℕ) (file : File) → AreFilesOf names contents files → slice_get files k ≡ Some file → slice_get contents k ≡ Some file.bytes.now
bytes_there (n ∷ ns) (c ∷ cs) (f ∷ fs) zero file all e = ap Some (sym all.0.1) ∙ ap (λ (o : Option File). bytes_in o) e
  where
    bytes_in : Option File → Option (List ℕ)
    bytes_in None = None
    bytes_in (Some g) = Some g.bytes.now
bytes_there (n ∷ ns) (c ∷ cs) (f ∷ fs) (suc k) file all e = bytes_there ns cs fs k file all.1 e
bytes_there [] [] [] k file all e = cc
bytes_there [] [] (f ∷ fs) k file all e = absurd all
bytes_there [] (c ∷ cs) fs k file all e = absurd all
bytes_there (n ∷ ns) [] fs k file all e = absurd all
bytes_there (n ∷ ns) (c ∷ cs) [] k file all e = absurd all

module _ {A : Type 0} where
  pub item_at : (xs : List A) (k : ℕ) (d : A) → k < length xs → slice_get xs k ≡ Some (get_or xs k d)
  item_at [] k d h = absurd (omega arith)
  item_at (y ∷ xs) zero d h = refl
  item_at (y ∷ xs) (suc k) d h = item_at xs k d (omega arith)

and_is : (a b : Bool) → (a && b) ≡ true → (a ≡ true) × (b ≡ true)
and_is true b e = (refl, e)
and_is false b e = cc

module _ {A B : Type 0} (f : A → B) where
  pub map_count : (xs : List A) → length (map f xs) ≡ length xs
  map_count [] = refl
  map_count (x ∷ xs) = ap suc (map_count xs)

  pub test_there : (p : B → Bool) (xs : List A) (k : ℕ) (x : A) → k < length xs → x ≡ get_or xs k x → list_all p (map f xs) ≡ true → p (f x) ≡ true
  test_there p [] k x h e all = absurd (omega arith)
  test_there p (y ∷ xs) zero x h e all = subst (λ z. p (f z) ≡ true) (sym e) (and_is (p (f y)) (list_all p (map f xs)) all).0
  test_there p (y ∷ xs) (suc k) x h e all = test_there p xs k x (omega arith) e (and_is (p (f y)) (list_all p (map f xs)) all).1

  pub name_there : (xs : List A) (k : ℕ) (x : A) → k < length xs → x ≡ get_or xs k x → slice_get (map f xs) k ≡ Some (f x)
  name_there [] k x h e = absurd (omega arith)
  name_there (y ∷ xs) zero x h e = ap (λ z. Some (f z)) (sym e)
  name_there (y ∷ xs) (suc k) x h e = name_there xs k x (omega arith) e

  taken_next : (xs : List A) (k : ℕ) (x : A) → k < length xs → x ≡ get_or xs k x → take (suc k) (map f xs) ≡ take k (map f xs) ++ f x ∷ []
  taken_next [] k x h e = absurd (omega arith)
  taken_next (y ∷ xs) zero x h e = ap (λ z. f z ∷ []) (sym e)
  taken_next (y ∷ xs) (suc k) x h e = ap (λ more. f y ∷ more) (taken_next xs k x (omega arith) e)

  pub taken_more : (xs : List A) (k : ℕ) (x : A) → k < length xs → x ≡ get_or xs k x → take k (map f xs) ++ f x ∷ [] ≡ take (k + 1) (map f xs)
  taken_more xs k x h e =
      let one : suc k ≡ k + 1 = omega arith in
      sym (taken_next xs k x h e) ∙ ap (λ n. take n (map f xs)) one
