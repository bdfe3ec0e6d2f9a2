-- The first answer over a list.
use Rattle.std.proofs.Common.{◌≡◌, ℕ, zero, suc, ◌+◌, ◌<◌, List, [], ◌∷◌, Option, Some, None, refl, ◌∙◌, arith}
use Rattle.std.specs.Prelude.{slice_get}
use Rattle.acn_grammar.specs.Slots.{first_of_two}
use Rattle.acn_check.specs.First.{first_of}

module _ {A B : Type 0} (f : ℕ → A → Option B) where
  -- the answer comes from an element, and none comes from those before it
  pub record Found (k : ℕ) (xs : List A) (b : B) : Type 0 where
    pub place : ℕ
    pub number : ℕ
    pub item : A
    pub counts : number ≡ k + place
    pub is_item : slice_get xs place ≡ Some item
    pub gives : f number item ≡ Some b
    pub before : (j n : ℕ) (y : A) → n ≡ k + j → j < place → slice_get xs j ≡ Some y → f n y ≡ None

  here : (k : ℕ) (x : A) (n : ℕ) (y : A) → n ≡ k + 0 → Some x ≡ Some y → f k x ≡ None → f n y ≡ None
  here k x n y e h g = (let m : n ≡ k = omega arith in let same : x ≡ y = cc in cc)

  shifted : (k : ℕ) (x : A) (xs : List A) (b : B) → f k x ≡ None → Found (suc k) xs b → Found k (x ∷ xs) b
  shifted k x xs b h r = record {
    place = suc r.place;
    number = r.number;
    item = r.item;
    counts = (let c = r.counts in omega arith);
    is_item = r.is_item;
    gives = r.gives;
    before = behind r.place r.before;
  }
    where
      behind : (place : ℕ) → ((j n : ℕ) (y : A) → n ≡ suc k + j → j < place → slice_get xs j ≡ Some y → f n y ≡ None) → (j n : ℕ) (y : A) → n ≡ k + j → j < suc place → slice_get (x ∷ xs) j ≡ Some y → f n y ≡ None
      behind place more zero n y c l s = here k x n y c s h
      behind place more (suc j) n y c l s = more j n y (omega arith) (omega arith) s

  some_by : (k : ℕ) (x : A) (xs : List A) (b : B) → ((e : first_of f (suc k) xs ≡ Some b) → Found (suc k) xs b) → (o : Option B) → f k x ≡ o → first_of_two o (first_of f (suc k) xs) ≡ Some b → Found k (x ∷ xs) b
  some_by k x xs b more (Some c) h g = record { place = 0; number = k; item = x; counts = omega arith; is_item = refl; gives = h ∙ g; before = λ j n y c' l s. absurd (omega arith) }
  some_by k x xs b more None h g = shifted k x xs b h (more g)

  pub first_some : (k : ℕ) (xs : List A) (b : B) → first_of f k xs ≡ Some b → Found k xs b
  first_some k [] b e = cc
  first_some k (x ∷ xs) b e = some_by k x xs b (λ g. first_some (suc k) xs b g) (f k x) refl e

  none_by : (k : ℕ) (x : A) (xs : List A) → (first_of f (suc k) xs ≡ None → (j n : ℕ) (y : A) → n ≡ suc k + j → slice_get xs j ≡ Some y → f n y ≡ None)
      → (o : Option B) → f k x ≡ o → first_of_two o (first_of f (suc k) xs) ≡ None → (j n : ℕ) (y : A) → n ≡ k + j → slice_get (x ∷ xs) j ≡ Some y → f n y ≡ None
  none_by k x xs more (Some c) h g j n y e s = cc
  none_by k x xs more None h g zero n y e s = here k x n y e s h
  none_by k x xs more None h g (suc j) n y e s = more g j n y (omega arith) s

  pub first_none : (k : ℕ) (xs : List A) → first_of f k xs ≡ None → (j n : ℕ) (y : A) → n ≡ k + j → slice_get xs j ≡ Some y → f n y ≡ None
  first_none k [] e j n y c s = cc
  first_none k (x ∷ xs) e j n y c s = none_by k x xs (λ g. first_none (suc k) xs g) (f k x) refl e j n y c s
