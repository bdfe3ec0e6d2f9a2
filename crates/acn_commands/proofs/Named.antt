-- The types of names, one after the other.
use Rattle.std.proofs.Common.{◌≡◌, ℕ, zero, suc, ◌+◌, ◌<◌, List, [], ◌∷◌, ◌++◌, length, map, take, drop, get_or, Option, Some, None, refl, ap, ◌∙◌, arith}
use Rattle.std.specs.Prelude.{All}
use Rattle.std.proofs.lemmas.List.Elements.{All-append}
use Rattle.acn_index.specs.Lookup.{type_in}
use Rattle.acn_index.specs.World.{World}
use Rattle.acn_index.specs.declared.sources.TypeId.{TypeId}
use Rattle.acn_words.specs.Names.{TypeName}
use Rattle.acn_commands.specs.Asked.{with_type, types_named}

some_is : (us ts : List TypeId) → Some us ≡ Some ts → us ≡ ts
some_is us ts e = grind arith

with_more : (o : Option TypeId) (p q : Option (List TypeId)) (ts : List TypeId) (t : TypeId) → ((us : List TypeId) → p ≡ Some us → q ≡ Some (us ++ t ∷ [])) → with_type o p ≡ Some ts → with_type o q ≡ Some (ts ++ t ∷ [])
with_more (Some a) (Some us) q ts t h e = rw (h us refl) (ap (λ (xs : List TypeId). Some (xs ++ t ∷ [])) (some_is (a ∷ us) ts e))
with_more (Some a) None q ts t h e = absurd (cc)
with_more None (Some us) q ts t h e = absurd (cc)
with_more None None q ts t h e = absurd (cc)

-- one name more, with its type
pub more_named : (w : World) (front : List TypeName) (of : TypeName) (ts : List TypeId) (t : TypeId) → types_named w front ≡ Some ts → type_in w of.module_name of.name ≡ Some t → types_named w (front ++ of ∷ []) ≡ Some (ts ++ t ∷ [])
more_named w [] of ts t e is = rw is (ap (λ (xs : List TypeId). Some (xs ++ t ∷ [])) (some_is [] ts e))
more_named w (x ∷ front) of ts t e is =
    with_more (type_in w x.module_name x.name) (types_named w front) (types_named w (front ++ of ∷ [])) ts t (λ us h. more_named w front of us t h is) e

module _ {A B : Type 0} (f : A → B) where
  cut : (xs : List A) (k : ℕ) (d : A) → k < length xs → map f xs ≡ map f (take k xs) ++ f (get_or xs k d) ∷ map f (drop (suc k) xs)
  cut [] k d h = absurd (omega arith)
  cut (y ∷ xs) zero d h = refl
  cut (y ∷ xs) (suc k) d h = ap (λ more. f y ∷ more) (cut xs k d (omega arith))

  next : (xs : List A) (k : ℕ) (d : A) → k < length xs → map f (take k xs) ++ f (get_or xs k d) ∷ [] ≡ map f (take (suc k) xs)
  next [] k d h = absurd (omega arith)
  next (y ∷ xs) zero d h = refl
  next (y ∷ xs) (suc k) d h = ap (λ more. f y ∷ more) (next xs k d (omega arith))

  -- the items before one, with it
  pub one_taken : (xs : List A) (k : ℕ) (d : A) → k < length xs → map f (take k xs) ++ f (get_or xs k d) ∷ [] ≡ map f (take (k + 1) xs)
  one_taken xs k d h =
      let one : suc k ≡ k + 1 = omega arith in
      next xs k d h ∙ ap (λ n. map f (take n xs)) one

  -- the items before one, it, and those behind it
  pub parts_at : (xs : List A) (k : ℕ) (d : A) → k < length xs → map f xs ≡ map f (take k xs) ++ f (get_or xs k d) ∷ map f (drop (suc k) xs)
  parts_at xs k d h = cut xs k d h

-- an item behind others of which this holds, if it holds of it
pub all_more : {A : Type 0} (P : A → Type 0) (xs : List A) (x : A) → All P xs → P x → All P (xs ++ x ∷ [])
all_more P xs x all h = All-append P xs (x ∷ []) all one
  where
    one : All P (x ∷ [])
    one zero d lt = h
    one (suc k) d lt = absurd (omega arith)
