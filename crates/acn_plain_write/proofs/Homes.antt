-- The least numbers of the slots at home.
use Rattle.std.proofs.Common.{◌≡◌, ℕ, zero, suc, ◌+◌, ◌<◌, ◌≤◌, ℤ, List, [], ◌∷◌, ◌++◌, length, map, get_or, drop, drop_of_length-le, Option, Some, refl, sym, ap, ◌∙◌, subst, arith, add-one, append_assoc, append-nil}
use Rattle.std.specs.Prelude.{option_map, unwrap_or}
use Rattle.std.specs.List.{AllByRecursion, zip}
use Rattle.std.proofs.lemmas.Int.{ints}
use Rattle.acn_asks.specs.Heard.{Hears}
use Rattle.acn_asks.specs.declared.asked.Asked.{Asked}
use Rattle.acn_determinants.specs.Determinants.{SequenceIn, IsLeafIn, steps_of}
use Rattle.acn_determinants.specs.declared.homes.Determinant.{Determinant}
use Rattle.acn_grammar.specs.Asks.{Ask, field_steps}
use Rattle.acn_grammar.specs.AsksOn.{LeastAnswer, form_asks_on}
use Rattle.acn_grammar.specs.Grammar.{Grammar, Fields, Places, seq, record_of}
use Rattle.acn_grammar.specs.Slots.{domain_of, slot_leaf}
use Rattle.acn_grammar.specs.declared.node.NumLeaf.{NumLeaf}
use Rattle.acn_plain_write.specs.Home.{AreLeast, IsLeast}
use Rattle.acn_plain_write.specs.Ready.{HomeReady}

pub least_one : (set : List (ℤ × ℤ)) (wanted : List Ask) (x y : ℤ) → LeastAnswer set wanted x → LeastAnswer set wanted y → x ≡ y
least_one set wanted x y p q =
    let one = p.first y q.answers in
    let two = q.first x p.answers in
    omega (arith, ints)

head_of : {A : Type 0} (x y : A) (xs ys : List A) → x ∷ xs ≡ y ∷ ys → x ≡ y
head_of x y xs ys e = cc

tail_of : {A : Type 0} (x y : A) (xs ys : List A) → x ∷ xs ≡ y ∷ ys → xs ≡ ys
tail_of x y xs ys e = cc

domain_is : (root : Grammar) (s : ℕ) (leaf : NumLeaf) → slot_leaf root s ≡ Some leaf → domain_of root s ≡ leaf.set
domain_is root s leaf e = ap (λ (o : Option NumLeaf). unwrap_or (option_map (λ (l : NumLeaf). l.set) o) []) e

module _ (heard : List (List ℕ × Asked)) (path : List ℕ) where
  are_least : (set : ℕ → List (ℤ × ℤ)) (wanted : ℕ → List Ask) (place : ℕ → Option (List ℕ)) (all : List Determinant) (home : List ℕ) (xs : List ℤ) → length xs ≡ length home → map steps_of all ≡ map (λ (s : ℕ). (s, place s)) home
      → AllByRecursion (λ (d : Determinant). set d.slot ≡ d.leaf.now.set) all → AllByRecursion (λ e. LeastAnswer (set e.0) (wanted e.0) e.1) (zip home xs) → AllByRecursion (λ s. Hears (set s) (wanted s) heard (path ++ unwrap_or (place s) [])) home → AreLeast heard path all home xs
  are_least set wanted place [] [] [] l m f p h = tt
  are_least set wanted place [] [] (x ∷ xs) l m f p h = absurd (omega arith)
  are_least set wanted place [] (s ∷ home) xs l m f p h = cc
  are_least set wanted place (d ∷ all) [] xs l m f p h = cc
  are_least set wanted place (d ∷ all) (s ∷ home) [] l m f p h = absurd (omega arith)
  are_least set wanted place (d ∷ all) (s ∷ home) (x ∷ xs) l m f p h =
      let e = head_of (steps_of d) (s, place s) (map steps_of all) (map (λ (t : ℕ). (t, place t)) home) m in
      let slot : d.slot ≡ s = ap (λ (q : ℕ × Option (List ℕ)). q.0) e in
      let steps : Some d.steps ≡ place s = ap (λ (q : ℕ × Option (List ℕ)). q.1) e in
      let same : set s ≡ d.leaf.now.set = ap set (sym slot) ∙ f.0 in
      let here : path ++ unwrap_or (place s) [] ≡ path ++ d.steps = ap (λ (o : Option (List ℕ)). path ++ unwrap_or o []) (sym steps) in (
        slot,
        record {
          wanted = wanted s;
          hears = subst (λ (z : List ℕ). Hears d.leaf.now.set (wanted s) heard z) here (subst (λ (z : List (ℤ × ℤ)). Hears z (wanted s) heard (path ++ unwrap_or (place s) [])) same h.0);
          least = subst (λ (z : List (ℤ × ℤ)). LeastAnswer z (wanted s) x) same p.0;
        },
        are_least set wanted place all home xs (omega arith) (tail_of (steps_of d) (s, place s) (map steps_of all) (map (λ (t : ℕ). (t, place t)) home) m) f.1 p.1 h.1,
      )

  each_domain : (root : Grammar) (all : List Determinant) → AllByRecursion (IsLeafIn root) all → AllByRecursion (λ (d : Determinant). domain_of root d.slot ≡ d.leaf.now.set) all
  each_domain root [] h = tt
  each_domain root (d ∷ all) h = (domain_is root d.slot d.leaf.now h.0, each_domain root all h.1)

  pub home_least : (root : Grammar) (fields : Fields) (home : List ℕ) (ps : Places) (xs : List ℤ) (all : List Determinant) → HomeReady root heard path fields home ps xs → map steps_of all ≡ map (λ (s : ℕ). (s, field_steps fields 0 s)) home → ((r : Grammar) → SequenceIn r fields home → AllByRecursion (IsLeafIn r) all)
      → AreLeast heard path all home xs
  home_least root fields home ps xs all h steps leaves =
      are_least (domain_of root) (λ s. form_asks_on root s (seq fields home) (record_of ps)) (λ s. field_steps fields 0 s) all home xs h.count steps (each_domain root all (leaves root h.sound)) h.least h.told

  -- the next one
  pub record Next (d : Determinant) (home behind : List ℕ) (xs later : List ℤ) : Type 0 where
    pub number : ℤ
    pub is : IsLeast heard path d number
    pub zipped : zip home xs ≡ (d.slot, number) ∷ zip behind later

  pub next_at : (all : List Determinant) (home : List ℕ) (xs : List ℤ) (i : ℕ) (d : Determinant) → AreLeast heard path all home xs → i < length all → d ≡ get_or all i d → Next d (drop i home) (drop (i + 1) home) (drop i xs) (drop (i + 1) xs)
  next_at all home xs i d a h e = subst (λ n. Next d (drop i home) (drop n home) (drop i xs) (drop n xs)) (sym (add-one i)) (there all home xs i a h e)
    where
      there : (ds : List Determinant) (ss : List ℕ) (ys : List ℤ) (n : ℕ) → AreLeast heard path ds ss ys → n < length ds → d ≡ get_or ds n d → Next d (drop n ss) (drop (suc n) ss) (drop n ys) (drop (suc n) ys)
      there [] ss ys n a h e = absurd (omega arith)
      there (x ∷ ds) [] ys n a h e = absurd a
      there (x ∷ ds) (s ∷ ss) [] n a h e = absurd a
      there (x ∷ ds) (s ∷ ss) (y ∷ ys) zero a h e = record { number = y; is = subst (λ (z : Determinant). IsLeast heard path z y) (sym e) a.1; zipped = ap (λ n. (n, y) ∷ zip ss ys) (sym a.0 ∙ ap (λ (z : Determinant). z.slot) (sym e)) }
      there (x ∷ ds) (s ∷ ss) (y ∷ ys) (suc n) a h e = there ds ss ys n a.2 (omega (arith, h)) e

  no_pairs : (ss : List ℕ) (ys : List ℤ) (n : ℕ) → ss ≡ [] → ys ≡ [] → zip (drop n ss) (drop n ys) ≡ []
  no_pairs ss ys n e f =
      let one : drop n ss ≡ [] = drop_of_length-le ss (omega (arith, ap length e)) in
      let two : drop n ys ≡ [] = drop_of_length-le ys (omega (arith, ap length f)) in
      ap (λ (z : List ℕ). zip z (drop n ys)) one ∙ ap (λ (z : List ℤ). zip [] z) two

  -- none is left
  pub none_at : (all : List Determinant) (home : List ℕ) (xs : List ℤ) (i : ℕ) → AreLeast heard path all home xs → length all ≤ i → zip (drop i home) (drop i xs) ≡ []
  none_at [] [] [] i a h = no_pairs [] [] i refl refl
  none_at [] [] (x ∷ xs) i a h = absurd a
  none_at [] (s ∷ home) xs i a h = absurd a
  none_at (d ∷ all) [] xs i a h = absurd a
  none_at (d ∷ all) (s ∷ home) [] i a h = absurd a
  none_at (d ∷ all) (s ∷ home) (x ∷ xs) zero a h = absurd (omega arith)
  none_at (d ∷ all) (s ∷ home) (x ∷ xs) (suc i) a h = none_at all home xs i a.2 (omega (arith, h))

-- one number more
pub one_more : (numbers new whole rest behind : List (ℕ × ℤ)) (e : ℕ × ℤ) → new ≡ numbers ++ e ∷ [] → rest ≡ e ∷ behind → numbers ++ rest ≡ whole → new ++ behind ≡ whole
one_more numbers new whole rest behind e grown next so_far = ap (λ t. t ++ behind) grown ∙ (append_assoc numbers (e ∷ []) behind ∙ (ap (λ t. numbers ++ t) (sym next) ∙ so_far))

pub no_more : (numbers whole rest : List (ℕ × ℤ)) → rest ≡ [] → numbers ++ rest ≡ whole → numbers ≡ whole
no_more numbers whole rest none so_far = sym (append-nil numbers) ∙ (ap (λ t. numbers ++ t) (sym none) ∙ so_far)
