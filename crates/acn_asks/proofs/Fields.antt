-- What is kept of fields by their paths, as a map's entries.
use Rattle.std.proofs.Common.{◌≡◌, ℕ, ℤ, Bool, true, false, cond, List, [], ◌∷◌, ◌++◌, Option, Some, None, is_some, refl, sym, ap, ◌∙◌, subst, true≢false, nat_eq, ◌&&◌}
use Rattle.std.specs.Prelude.{map, option_map, Result, Ok, Err, OnOk, IfErr}
use Rattle.std.specs.Cmp.Lexicographic.{pointwise}
use Rattle.std.specs.Map.{lookup, set_value}
use Rattle.acn_grammar.specs.Asks.{same_name}
use Rattle.acn_grammar.proofs.Characters.{same_name-is, same_name-refl}
use Rattle.acn_grammar.specs.Asks.{Ask}
use Rattle.acn_grammar.specs.Faults.{ask_of}
use Rattle.acn_asks.specs.Heard.{kept_of, IsKept, Hears, Declines, DeclinesFirst}
use Rattle.acn_asks.specs.Kept.{Keeps, Refuses, Contradicted}
use Rattle.acn_asks.specs.declared.asked.Unmet.{Unmet}
use Rattle.acn_asks.specs.declared.asked.Unmet.TheVariants.{Conflict, NoMemory}
use Rattle.acn_asks.specs.declared.asked.Asked.{Asked}

same_path : (xs ys : List ℕ) → pointwise nat_eq xs ys ≡ same_name xs ys
same_path [] [] = refl
same_path [] (y ∷ ys) = refl
same_path (x ∷ xs) [] = refl
same_path (x ∷ xs) (y ∷ ys) = ap (λ b. nat_eq x y && b) (same_path xs ys)

-- with another in the place of what is kept of a field
abbrev pub replaced : (field : List ℕ) → Asked → List (List ℕ × Asked) → List (List ℕ × Asked)
replaced field w [] = []
replaced field w (e ∷ es) = cond (same_name field e.0) ((e.0, w) ∷ es) (e ∷ replaced field w es)

module _ {K : Type 0} (text : K → List ℕ) where
  abbrev pub seen : List (K × Asked) → List (List ℕ × Asked)
  seen es = map (λ (e : K × Asked). (text e.0, e.1)) es

  pub looked_up : (q : List ℕ) (es : List (K × Asked)) → lookup (λ k. pointwise nat_eq q (text k)) es ≡ kept_of q (seen es)
  looked_up q [] = refl
  looked_up q (e ∷ es) = ap (λ b. cond b (Some e.1) (lookup (λ k. pointwise nat_eq q (text k)) es)) (same_path q (text e.0)) ∙ ap (cond (same_name q (text e.0)) (Some e.1)) (looked_up q es)

  pub one_more : (es : List (K × Asked)) (k : K) (w : Asked) → seen (es ++ (k, w) ∷ []) ≡ seen es ++ (text k, w) ∷ []
  one_more [] k w = refl
  one_more (e ∷ es) k w = ap (λ (z : List (List ℕ × Asked)). (text e.0, e.1) ∷ z) (one_more es k w)

  seen_cond : (b : Bool) (xs ys : List (K × Asked)) → seen (cond b xs ys) ≡ cond b (seen xs) (seen ys)
  seen_cond true xs ys = refl
  seen_cond false xs ys = refl

  pub written : (q : List ℕ) (w : Asked) (es : List (K × Asked)) → seen (set_value (λ k. pointwise nat_eq q (text k)) es w) ≡ replaced q w (seen es)
  written q w [] = refl
  written q w (e ∷ es) =
      let rest = set_value (λ k. pointwise nat_eq q (text k)) es w in
      seen_cond (pointwise nat_eq q (text e.0)) ((e.0, w) ∷ es) (e ∷ rest)
      ∙ (ap (λ b. cond b ((text e.0, w) ∷ seen es) ((text e.0, e.1) ∷ seen rest)) (same_path q (text e.0))
      ∙ ap (λ z. cond (same_name q (text e.0)) ((text e.0, w) ∷ seen es) ((text e.0, e.1) ∷ z)) (written q w es))

-- The field itself.

replace_at : (b : Bool) (q path : List ℕ) (w a : Asked) (es more : List (List ℕ × Asked)) → same_name q path ≡ b → is_some (cond b (Some a) (kept_of q es)) ≡ true
    → (is_some (kept_of q es) ≡ true → kept_of q more ≡ Some w) → kept_of q (cond b ((path, w) ∷ es) ((path, a) ∷ more)) ≡ Some w
replace_at true q path w a es more e h rest = ap (λ b. cond b (Some w) (kept_of q es)) e
replace_at false q path w a es more e h rest = ap (λ b. cond b (Some a) (kept_of q more)) e ∙ rest h

pub at_replaced : (q : List ℕ) (w : Asked) (es : List (List ℕ × Asked)) → is_some (kept_of q es) ≡ true → kept_of q (replaced q w es) ≡ Some w
at_replaced q w [] h = absurd (true≢false (sym h))
at_replaced q w (e ∷ es) h = replace_at (same_name q e.0) q e.0 w e.1 es (replaced q w es) refl h (λ g. at_replaced q w es g)

none_then : (b : Bool) (a w : Asked) (x y : Option Asked) → cond b (Some a) x ≡ None → (x ≡ None → y ≡ Some w) → cond b (Some a) y ≡ Some w
none_then true a w x y h rest = (let no = ap is_some h in absurd (true≢false no))
none_then false a w x y h rest = rest h

pub at_added : (q : List ℕ) (w : Asked) (es : List (List ℕ × Asked)) → kept_of q es ≡ None → kept_of q (es ++ (q, w) ∷ []) ≡ Some w
at_added q w [] h = ap (λ b. cond b (Some w) None) (same_name-refl q)
at_added q w (e ∷ es) h = none_then (same_name q e.0) e.1 w (kept_of q es) (kept_of q (es ++ (q, w) ∷ [])) h (λ g. at_added q w es g)

-- Another field.

not_both : (q other path : List ℕ) → same_name q other ≡ false → same_name q path ≡ true → same_name other path ≡ true → ⊥
not_both q other path h s t =
    let same : q ≡ other = same_name-is q path s ∙ sym (same_name-is other path t) in
    true≢false (sym (ap (λ x. same_name x other) same ∙ same_name-refl other) ∙ h)

replace_other : (b c : Bool) (q other path : List ℕ) (w a : Asked) (es more : List (List ℕ × Asked)) → same_name q other ≡ false → same_name q path ≡ b → same_name other path ≡ c
    → kept_of other more ≡ kept_of other es → kept_of other (cond b ((path, w) ∷ es) ((path, a) ∷ more)) ≡ cond c (Some a) (kept_of other es)
replace_other true true q other path w a es more h s t rest = absurd (not_both q other path h s t)
replace_other true false q other path w a es more h s t rest = ap (λ b. cond b (Some w) (kept_of other es)) t
replace_other false c q other path w a es more h s t rest = ap (λ b. cond b (Some a) (kept_of other more)) t ∙ ap (cond c (Some a)) rest

pub others_replaced : (q other : List ℕ) (w : Asked) (es : List (List ℕ × Asked)) → same_name q other ≡ false → kept_of other (replaced q w es) ≡ kept_of other es
others_replaced q other w [] h = refl
others_replaced q other w (e ∷ es) h = replace_other (same_name q e.0) (same_name other e.0) q other e.0 w e.1 es (replaced q w es) h refl refl (others_replaced q other w es h)

pub turned : (q other : List ℕ) (b : Bool) → same_name q other ≡ false → same_name other q ≡ b → b ≡ false
turned q other true h t = absurd (not_both q other q h (same_name-refl q) t)
turned q other false h t = refl

pub others_added : (q other : List ℕ) (w : Asked) (es : List (List ℕ × Asked)) → same_name q other ≡ false → kept_of other (es ++ (q, w) ∷ []) ≡ kept_of other es
others_added q other w [] h = ap (λ b. cond b (Some w) None) (turned q other (same_name other q) h refl)
others_added q other w (e ∷ es) h = ap (cond (same_name other e.0) (Some e.1)) (others_added q other w es h)

-- What is kept of a field, from what a look-up found.

pub heard_some : (set : List (ℤ × ℤ)) (wanted : List Ask) (o : Option Asked) (a : Asked) → o ≡ Some a → IsKept set wanted o → Keeps set wanted a
heard_some set wanted o a e h = subst (λ x. IsKept set wanted x) e h

pub some_heard : (set : List (ℤ × ℤ)) (wanted : List Ask) (o : Option Asked) (a : Asked) → o ≡ Some a → Keeps set wanted a → IsKept set wanted o
some_heard set wanted o a e h = subst (λ x. IsKept set wanted x) (sym e) h

pub heard_none : (set : List (ℤ × ℤ)) (wanted : List Ask) (o : Option Asked) → o ≡ None → IsKept set wanted o → wanted ≡ []
heard_none set wanted o e h = subst (λ x. IsKept set wanted x) e h

pub is_none : {A : Type 0} (x : Option A) → is_some x ≡ false → x ≡ None
is_none None h = refl
is_none (Some x) h = absurd (true≢false h)

pub declines_first : (set : List (ℤ × ℤ)) (heard : List (List ℕ × Asked)) (field : List ℕ) (w : Ask) (u : Unmet) → kept_of field heard ≡ None → DeclinesFirst set w u → Declines set heard field w u
declines_first set heard field w (Conflict earlier) none h = λ before k. subst (λ l. Contradicted set l w (option_map ask_of earlier)) (sym (heard_none set before (kept_of field heard) none k)) h
declines_first set heard field w NoMemory none h = tt

pub declines_more : (set : List (ℤ × ℤ)) (heard : List (List ℕ × Asked)) (field : List ℕ) (w : Ask) (a : Asked) (u : Unmet) → kept_of field heard ≡ Some a → Refuses set a w u → Declines set heard field w u
declines_more set heard field w a (Conflict earlier) there h = λ before k. h before (heard_some set before (kept_of field heard) a there k)
declines_more set heard field w a NoMemory there h = tt

pub heard_more : (set : List (ℤ × ℤ)) (field : List ℕ) (w : Ask) (heard new : List (List ℕ × Asked)) (a b : Asked) → kept_of field heard ≡ Some a → new ≡ replaced field b heard
    → ((before : List Ask) → Keeps set before a → Keeps set (before ++ w ∷ []) b) → (before : List Ask) → Hears set before heard field → Hears set (before ++ w ∷ []) new field
heard_more set field w heard new a b there e f before h =
    some_heard set (before ++ w ∷ []) (kept_of field new) b (ap (kept_of field) e ∙ at_replaced field b heard (ap is_some there)) (f before (heard_some set before (kept_of field heard) a there h))

pub heard_first : (set : List (ℤ × ℤ)) (field : List ℕ) (w : Ask) (heard new : List (List ℕ × Asked)) (b : Asked) → kept_of field heard ≡ None → new ≡ heard ++ (field, b) ∷ []
    → Keeps set (w ∷ []) b → (before : List Ask) → Hears set before heard field → Hears set (before ++ w ∷ []) new field
heard_first set field w heard new b none e f before h =
    some_heard set (before ++ w ∷ []) (kept_of field new) b (ap (kept_of field) e ∙ at_added field b heard none)
    (subst (λ l. Keeps set (l ++ w ∷ []) b) (sym (heard_none set before (kept_of field heard) none h)) f)

-- Results.

pub ok_after : {X E A B : Type 0} (r s : Result X E) → s ≡ r → OnOk r A → (A → B) → OnOk s B
ok_after {X} {E} {A} {B} (Ok x) s e h f = subst (λ z. OnOk z B) (sym e) (f h)
ok_after {X} {E} {A} {B} (Err x) s e h f = subst (λ z. OnOk z B) (sym e) tt

pub err_after : {X E : Type 0} {A B : E → Type 0} (r s : Result X E) → s ≡ r → IfErr r A → ((e : E) → A e → B e) → IfErr s B
err_after {X} {E} {A} {B} (Ok x) s e h f = subst (λ z. IfErr z B) (sym e) tt
err_after {X} {E} {A} {B} (Err x) s e h f = subst (λ z. IfErr z B) (sym e) (f x h)

pub ok_both : {X E A B C : Type 0} (r : Result X E) → OnOk r A → OnOk r B → (A → B → C) → OnOk r C
ok_both (Ok x) h g f = f h g
ok_both (Err x) h g f = tt
