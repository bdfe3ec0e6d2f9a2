-- What the code keeps of the tokens before a place is what their level counts.
use Rattle.std.proofs.Common.{◌≡◌, ℕ, zero, suc, ◌+◌, ◌-◌, ◌<◌, ◌≤◌, Bool, true, false, ◌&&◌, ◌||◌, cond, not, nat_lt, nat_le, List, [], ◌∷◌, ◌++◌, length, get_or, set, replicate, reverse, refl, sym, ap, subst, ◌∙◌, ltb-true, ltb-false, le-leb, lt-ltb, arith}
use Rattle.std.proofs.lemmas.List.{reverse-append, get_or-set_same, get_or-set_other, length-set, length-replicate}
use Rattle.std.proofs.lemmas.List.Sums.{take_while-cons, sum_by-append}
use Rattle.std.specs.Cmp.Derive.{both_true}
use Rattle.std.specs.List.{count_by, take_while}
use Rattle.std.specs.Prelude.{codes}
use Rattle.acn_lex.specs.Lexeme.{Lexeme, same_kind}
use Rattle.acn_lex.specs.declared.Kind.TheVariants.{Mark}
use Rattle.acn_cursor.specs.Steps.{token, sees}
use Rattle.acn_cursor.proofs.Laws.{sees_found}
use Rattle.acn_cursor.specs.Level.{none, given_back, ofs_behind, before_behind, behind}
use Rattle.acn_cursor.specs.Screens.{opens, closes, shuts, is_of, restarts, is_mark, is_inside, outside, ofs_since, is_over, count_of}
use Rattle.acn_cursor.specs.declared.level.Level.{Level}
use Rattle.acn_cursor.specs.declared.level.TheConstants.{MOST_LEVEL}

-- the words OF that count among these tokens, the nearest first, where so many pairs of marks are passed over
abbrev pub ofs_of : ℕ → List Lexeme → ℕ
ofs_of n ts = count_by is_of (take_while (λ t. not (restarts t)) (outside n ts))

count_one : (p : Lexeme → Bool) (front : List Lexeme) (t : Lexeme) → count_by p (front ++ t ∷ []) ≡ count_by p front + count_of (p t)
count_one p front t = sum_by-append (λ x. cond (p x) 1 0) front (t ∷ []) ∙ ap (λ n. count_by p front + n) (omega arith)

count_in_front : (p : Lexeme → Bool) (t : Lexeme) (ts : List Lexeme) → count_by p (t ∷ ts) ≡ count_of (p t) + count_by p ts
count_in_front p t ts = sum_by-append (λ x. cond (p x) 1 0) (t ∷ []) ts ∙ ap (λ n. n + count_by p ts) (omega arith)

count_turned : (p : Lexeme → Bool) (front : List Lexeme) → count_by p (reverse front) ≡ count_by p front
count_turned p [] = refl
count_turned p (t ∷ ts) =
    ap (λ xs. count_by p xs) (reverse-append (t ∷ []) ts) ∙ count_one p (reverse ts) t ∙ omega (arith, count_turned p ts, count_in_front p t ts)

small_set : (xs : List ℕ) (k i n most : ℕ) → ((i : ℕ) → get_or xs i 0 ≤ most) → n ≤ most → get_or (set xs k n) i 0 ≤ most
small_set [] k i n most all le = omega arith
small_set (x ∷ xs) zero zero n most all le = le
small_set (x ∷ xs) zero (suc i) n most all le = all (suc i)
small_set (x ∷ xs) (suc k) zero n most all le = all 0
small_set (x ∷ xs) (suc k) (suc i) n most all le = small_set xs k i n most (λ j. all (suc j)) le

zeros : (n i : ℕ) → get_or (replicate n 0) i 0 ≤ 0
zeros zero i = omega arith
zeros (suc n) zero = omega arith
zeros (suc n) (suc i) = zeros n i

-- what the level behind these tokens counts, at most one a token
pub record IsLevel (l : Level) (front : List Lexeme) (at : ℕ) : Type 0 where
  pub opened : l.opened ≡ count_by opens front
  pub closed : l.closed ≡ count_by closes front
  pub ofs : l.ofs ≡ ofs_since front
  pub before : (i j : ℕ) → l.closed + i + suc j ≡ l.opened → l.opened ≤ l.closed + MOST_LEVEL → get_or l.before i 0 ≡ ofs_of (suc j) (reverse front)
  pub places : length l.before ≡ MOST_LEVEL
  pub few_opened : l.opened ≤ at
  pub few_closed : l.closed ≤ at
  pub few_ofs : l.ofs ≤ at
  pub few_before : (i : ℕ) → get_or l.before i 0 ≤ at

over_by : (a b c d e f : ℕ) → a ≡ d → b ≡ e → c ≡ f → nat_lt (b + MOST_LEVEL) (a + c) ≡ nat_lt (e + MOST_LEVEL) (d + f)
over_by a b c d e f p q r = cc (p, q, r)

pub is_over_by : (l : Level) (front : List Lexeme) (at : ℕ) → IsLevel l front at → nat_lt (l.closed + MOST_LEVEL) (l.opened + l.ofs) ≡ is_over front
is_over_by l front at level = over_by l.opened l.closed l.ofs _ _ _ level.opened level.closed level.ofs

pub not_over : (opened closed ofs : ℕ) → nat_lt (closed + MOST_LEVEL) (opened + ofs) ≡ false → opened ≤ closed + MOST_LEVEL
not_over opened closed ofs e = omega (arith, ltb-false (closed + MOST_LEVEL) (opened + ofs) e)

-- a mark that opens doesn't close
opens_alone : (t : Lexeme) → opens t ≡ true → closes t ≡ false
unfolding opens closes shuts sees same_kind
opens_alone t o = by_first (is_mark (codes "{") t) refl
  where
    by_first : (b : Bool) → is_mark (codes "{") t ≡ b → closes t ≡ false
    by_first true e = let k : t ≡ token Mark (codes "{") = cc (sees_found Mark (codes "{") (t ∷ []) e) in subst (λ x. closes x ≡ false) (sym k) refl
    by_first false e =
        let f : is_mark (codes "(") t ≡ true = sym (ap (λ b. b || is_mark (codes "(") t) e) ∙ o in
        let k : t ≡ token Mark (codes "(") = cc (sees_found Mark (codes "(") (t ∷ []) f) in
        subst (λ x. closes x ≡ false) (sym k) refl

module _ (l : Level) (front : List Lexeme) (at : ℕ) (t : Lexeme) (level : IsLevel l front at) (high : l.opened ≤ l.closed + MOST_LEVEL) where
  abbrev rs : List Lexeme
  rs = reverse front

  turned : reverse (front ++ t ∷ []) ≡ t ∷ rs
  turned = reverse-append front (t ∷ [])

  inside_is : nat_lt l.closed l.opened ≡ is_inside rs
  inside_is = let o = level.opened ∙ sym (count_turned opens front) in let c = level.closed ∙ sym (count_turned closes front) in cc (o, c)

  abbrev Given : Bool → Type 0
  Given b = cond b (get_or l.before (l.opened - l.closed - 1) 0) 0 ≡ count_by is_of (take_while (λ t. not (restarts t)) (cond b (outside 1 rs) []))

  given_by : (b : Bool) → nat_lt l.closed l.opened ≡ b → Given b
  given_by true e = let lt : l.closed < l.opened = ltb-true l.closed l.opened e in level.before (l.opened - l.closed - 1) 0 (omega (arith, lt)) high
  given_by false e = refl

  given_is : given_back l ≡ count_by is_of (take_while (λ t. not (restarts t)) (cond (is_inside rs) (outside 1 rs) []))
  given_is = rw (sym inside_is) (given_by (nat_lt l.closed l.opened) refl)

  counted_by : (b : Bool) → cond b 0 (l.ofs + count_of (is_of t)) ≡ count_by is_of (cond (not b) (t ∷ take_while (λ t. not (restarts t)) (outside 0 rs)) [])
  counted_by true = refl
  counted_by false = omega (arith, level.ofs, count_in_front is_of t (take_while (λ t. not (restarts t)) (outside 0 rs)))

  ofs_is : ofs_behind l t ≡ ofs_of 0 (t ∷ rs)
  ofs_is = by_shuts (shuts t)
    where
      by_shuts : (b : Bool) → cond b (given_back l) (cond (restarts t) 0 (l.ofs + count_of (is_of t)))
          ≡ count_by is_of (take_while (λ t. not (restarts t)) (cond b (cond (is_inside rs) (outside 1 rs) []) (t ∷ outside 0 rs)))
      by_shuts true = given_is
      by_shuts false = rw (take_while-cons (λ t. not (restarts t)) t (outside 0 rs)) (counted_by (restarts t))

  abbrev Before : Bool → Bool → List ℕ → Type 0
  Before o c before = (i j : ℕ) → l.closed + count_of c + i + suc j ≡ l.opened + count_of o → l.opened + count_of o ≤ l.closed + count_of c + MOST_LEVEL
      → get_or before i 0 ≡ count_by is_of (take_while (λ t. not (restarts t)) (cond o (outside j rs) (outside (cond c (suc (suc j)) (suc j)) rs)))

  set_other : (i : ℕ) → i < l.opened - l.closed → get_or (set l.before (l.opened - l.closed) l.ofs) i 0 ≡ get_or l.before i 0
  set_other i lt = get_or-set_other l.before (l.opened - l.closed) i l.ofs 0 (λ e. absurd (omega (arith, e, lt)))

  opened_by : (b : Bool) → (nat_le l.closed l.opened && nat_lt (l.opened - l.closed) MOST_LEVEL) ≡ b → Before true false (cond b (set l.before (l.opened - l.closed) l.ofs) l.before)
  opened_by true e i zero is fits =
      let place : i ≡ l.opened - l.closed = omega (arith, is) in
      let room : l.opened - l.closed < length l.before = omega (arith, is, fits, level.places) in
      ap (λ k. get_or (set l.before (l.opened - l.closed) l.ofs) k 0) place ∙ get_or-set_same l.before (l.opened - l.closed) l.ofs 0 room ∙ level.ofs
  opened_by true e i (suc j) is fits = set_other i (omega (arith, is)) ∙ level.before i j (omega (arith, is)) high
  opened_by false e i j is fits =
      let le : nat_le l.closed l.opened ≡ true = le-leb l.closed l.opened (omega (arith, is)) in
      let lt : nat_lt (l.opened - l.closed) MOST_LEVEL ≡ true = lt-ltb (l.opened - l.closed) MOST_LEVEL (omega (arith, is, fits)) in
      let k : true ≡ false = sym (both_true le lt) ∙ e in
      absurd cc

  closed_by : (c : Bool) → Before false c l.before
  closed_by true i j is fits = level.before i (suc j) (omega (arith, is)) high
  closed_by false i j is fits = level.before i j (omega (arith, is)) high

  before_is : (o : Bool) → opens t ≡ o → Before o (closes t) (cond (o && nat_le l.closed l.opened && nat_lt (l.opened - l.closed) MOST_LEVEL) (set l.before (l.opened - l.closed) l.ofs) l.before)
  before_is true e = rw (opens_alone t e) (opened_by (nat_le l.closed l.opened && nat_lt (l.opened - l.closed) MOST_LEVEL) refl)
  before_is false e = closed_by (closes t)

  set_or_not : (P : List ℕ → Type 0) → P (set l.before (l.opened - l.closed) l.ofs) → P l.before → P (before_behind l t)
  set_or_not P written kept = by_test (opens t && nat_le l.closed l.opened && nat_lt (l.opened - l.closed) MOST_LEVEL)
    where
      by_test : (b : Bool) → P (cond b (set l.before (l.opened - l.closed) l.ofs) l.before)
      by_test true = written
      by_test false = kept

  few_set : (i : ℕ) → get_or (set l.before (l.opened - l.closed) l.ofs) i 0 ≤ at + 1
  few_set i = omega (arith, small_set l.before (l.opened - l.closed) i l.ofs at level.few_before level.few_ofs)

  count_fits : (b : Bool) (m : ℕ) → m ≤ at → m + count_of b ≤ at + 1
  count_fits true m le = omega arith
  count_fits false m le = omega arith

  ofs_fits : (s r : Bool) → cond s (given_back l) (cond r 0 (l.ofs + count_of (is_of t))) ≤ at + 1
  ofs_fits true r = given_fits (nat_lt l.closed l.opened)
    where
      given_fits : (b : Bool) → cond b (get_or l.before (l.opened - l.closed - 1) 0) 0 ≤ at + 1
      given_fits true = omega (arith, level.few_before (l.opened - l.closed - 1))
      given_fits false = omega arith
  ofs_fits false true = omega arith
  ofs_fits false false = count_fits (is_of t) l.ofs level.few_ofs

  -- the level behind one more token
  pub level_one : IsLevel (behind l t) (front ++ t ∷ []) (at + 1)
  level_one = record {
    opened = ap (λ n. n + count_of (opens t)) level.opened ∙ sym (count_one opens front t);
    closed = ap (λ n. n + count_of (closes t)) level.closed ∙ sym (count_one closes front t);
    ofs = rw turned ofs_is;
    before = rw turned (before_is (opens t) refl);
    places = set_or_not (λ xs. length xs ≡ MOST_LEVEL) (length-set l.before (l.opened - l.closed) l.ofs ∙ level.places) level.places;
    few_opened = count_fits (opens t) l.opened level.few_opened;
    few_closed = count_fits (closes t) l.closed level.few_closed;
    few_ofs = ofs_fits (shuts t) (restarts t);
    few_before = set_or_not (λ xs. (i : ℕ) → get_or xs i 0 ≤ at + 1) few_set (λ i. omega (arith, level.few_before i));
  }

-- before the first token
pub level_none : IsLevel none [] 0
level_none = record {
  opened = refl;
  closed = refl;
  ofs = refl;
  before = λ i j is fits. absurd (omega (arith, is));
  places = length-replicate {A = ℕ} MOST_LEVEL 0;
  few_opened = omega arith;
  few_closed = omega arith;
  few_ofs = omega arith;
  few_before = λ i. zeros MOST_LEVEL i;
}
