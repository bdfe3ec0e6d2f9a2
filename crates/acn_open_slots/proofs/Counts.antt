-- Numbers that are noted, each slot once, against the slots at home.
use Rattle.std.proofs.Common.{◌≡◌, ℕ, suc, ◌+◌, ◌<◌, ◌≤◌, ℤ, Bool, true, false, not, ◌&&◌, ◌||◌, List, [], ◌∷◌, ◌++◌, length, map, filter, Option, Some, None, refl, sym, ap, ◌∙◌, arith, nat_eq, subst, IsTrue, if◌then◌else◌}
use Rattle.std.proofs.lemmas.Bool.{eqb-true, and_parts}
use Rattle.std.proofs.lemmas.Bool.Decides.{nat_tests}
use Rattle.std.specs.List.{list_any}
use Rattle.acn_grammar.specs.Env.{Env, at_slot}
use Rattle.acn_grammar.specs.Leaves.{all_differ}
use Rattle.acn_grammar.specs.Tree.{holds}
use Rattle.acn_open_slots.specs.Noted.{OnceEach, APlaceIsFree}

-- a list without the first that is s
abbrev without : ℕ → List ℕ → List ℕ
without s [] = []
without s (t ∷ ts) = if nat_eq t s then ts else t ∷ without s ts

self_eq : (s : ℕ) → nat_eq s s ≡ true
self_eq s = grind (arith, nat_tests)

without_length : (s : ℕ) (ts : List ℕ) → holds ts s ≡ true → length (without s ts) + 1 ≡ length ts
without_length s [] h = absurd (cc)
without_length s (t ∷ ts) h = by (nat_eq t s) refl (without_length s ts)
  where
    by : (b : Bool) → nat_eq t s ≡ b → (holds ts s ≡ true → length (without s ts) + 1 ≡ length ts) → length (without s (t ∷ ts)) + 1 ≡ length (t ∷ ts)
    by true e f = rw e (omega arith)
    by false e f = (let k : holds ts s ≡ true = rw e at h in let l = f k in rw e (omega (arith, l)))

without_holds : (s u : ℕ) (ts : List ℕ) → nat_eq s u ≡ false → holds ts u ≡ true → holds (without s ts) u ≡ true
without_holds s u [] d h = h
without_holds s u (t ∷ ts) d h = by (nat_eq t s) refl (nat_eq t u) refl (without_holds s u ts d)
  where
    by : (b : Bool) → nat_eq t s ≡ b → (c : Bool) → nat_eq t u ≡ c → (holds ts u ≡ true → holds (without s ts) u ≡ true) → holds (without s (t ∷ ts)) u ≡ true
    by true e true f r = (let p = eqb-true t s e in let q : nat_eq s u ≡ true = subst (λ (n : ℕ). nat_eq n u ≡ true) p f in absurd (cc))
    by true e false f r = rw e (let k : holds ts u ≡ true = rw f at h in k)
    by false e true f r = rw e (rw f refl)
    by false e false f r = rw e (rw f (r (rw f at h)))

-- a slot with a number is among the slots that are noted
in_keys : (env : Env) (s : ℕ) (x : ℤ) → at_slot env s ≡ Some x → list_any (nat_eq s) (map (λ e. e.0) env) ≡ true
in_keys [] s x h = absurd (cc)
in_keys (e ∷ env) s x h = by (nat_eq e.0 s) refl (in_keys env s x)
  where
    later : (b : Bool) → list_any (nat_eq s) (map (λ e. e.0) env) ≡ true → (b || list_any (nat_eq s) (map (λ e. e.0) env)) ≡ true
    later true k = refl
    later false k = k

    by : (b : Bool) → nat_eq e.0 s ≡ b → (at_slot env s ≡ Some x → list_any (nat_eq s) (map (λ e. e.0) env) ≡ true) → list_any (nat_eq s) (map (λ e. e.0) (e ∷ env)) ≡ true
    by true q f = (let p = eqb-true e.0 s q in let z : nat_eq s e.0 ≡ true = subst (λ (n : ℕ). nat_eq s n ≡ true) (sym p) (self_eq s) in rw z refl)
    by false q f = later (nat_eq s e.0) (f (rw q at h))

none_of : (b : Bool) → IsTrue (not b) → b ≡ false
none_of true h = absurd (cc)
none_of false h = refl

apart : (e : ℕ × ℤ) (env : Env) (s : ℕ) (x : ℤ) → IsTrue (not (list_any (nat_eq e.0) (map (λ e. e.0) env))) → at_slot env s ≡ Some x → nat_eq e.0 s ≡ false
apart e env s x n h = by (nat_eq e.0 s) refl
  where
    by : (b : Bool) → nat_eq e.0 s ≡ b → nat_eq e.0 s ≡ false
    by false q = q
    by true q =
        (let p = eqb-true e.0 s q in
        let yes' : list_any (nat_eq e.0) (map (λ e. e.0) env) ≡ true = subst (λ (m : ℕ). list_any (nat_eq m) (map (λ e. e.0) env) ≡ true) (sym p) (in_keys env s x h) in
        let no' = none_of (list_any (nat_eq e.0) (map (λ e. e.0) env)) n in
        absurd (cc))

few : (around : List ℕ) (env : Env) → OnceEach env → ((s : ℕ) (x : ℤ) → at_slot env s ≡ Some x → holds around s ≡ true) → length env ≤ length around
few around [] once home = omega arith
few around (e ∷ env) once home =
    (let parts = and_parts (not (list_any (nat_eq e.0) (map (λ e. e.0) env))) (all_differ nat_eq (map (λ e. e.0) env)) once in
    let mine : at_slot (e ∷ env) e.0 ≡ Some e.1 = rw (self_eq e.0) refl in
    let here = home e.0 e.1 mine in
    let l = without_length e.0 around here in
    let rest = few (without e.0 around) env parts.1 (λ s x h. (let d = apart e env s x parts.0 h in without_holds e.0 s around d (home s x (rw d h)))) in
    omega (arith, l, rest))

-- a slot without a number leaves room
pub free : APlaceIsFree
free around env slot once home mine none =
    (let l = without_length slot around mine in
    let rest = few (without slot around) env once (λ s x h. without_holds slot s around (other s x h (nat_eq slot s) refl) (home s x h)) in
    omega (arith, l, rest))
  where
    other : (s : ℕ) (x : ℤ) → at_slot env s ≡ Some x → (b : Bool) → nat_eq slot s ≡ b → nat_eq slot s ≡ false
    other s x h false e = e
    other s x h true e = (let p : slot ≡ s = eqb-true slot s e in let q : at_slot env s ≡ None = subst (λ (n : ℕ). at_slot env n ≡ None) p none in let z : ◌≡◌ {A = Option ℤ} (Some x) None = sym h ∙ q in absurd (cc))

-- one slot more, which had no number
not_in_keys : (env : Env) (s : ℕ) → at_slot env s ≡ None → (t : ℕ) → list_any (nat_eq t) (map (λ e. e.0) env) ≡ true → nat_eq t s ≡ false
not_in_keys [] s h t k = absurd (cc)
not_in_keys (e ∷ env) s h t k = by (nat_eq e.0 s) refl (nat_eq t e.0) refl (λ h'. not_in_keys env s h' t)
  where
    by : (b : Bool) → nat_eq e.0 s ≡ b → (c : Bool) → nat_eq t e.0 ≡ c → (at_slot env s ≡ None → list_any (nat_eq t) (map (λ e. e.0) env) ≡ true → nat_eq t s ≡ false) → nat_eq t s ≡ false
    by true q c f r = (let z : ◌≡◌ {A = Option ℤ} (Some e.1) None = rw q at h in absurd (cc))
    by false q true f r = (let p = eqb-true t e.0 f in subst (λ (n : ℕ). nat_eq n s ≡ false) (sym p) q)
    by false q false f r = r (rw q at h) (rw f at k)

keys_more : (env : Env) (s : ℕ) (x : ℤ) → map (λ e. e.0) (env ++ (s, x) ∷ []) ≡ map (λ e. e.0) env ++ s ∷ []
keys_more [] s x = refl
keys_more (e ∷ env) s x = ap (λ ks. e.0 ∷ ks) (keys_more env s x)

any_more : (t s : ℕ) (ks : List ℕ) → list_any (nat_eq t) ks ≡ false → nat_eq t s ≡ false → list_any (nat_eq t) (ks ++ s ∷ []) ≡ false
any_more t s [] a b = rw b refl
any_more t s (k ∷ ks) a b = by (nat_eq t k) refl (λ h. any_more t s ks h b)
  where
    by : (c : Bool) → nat_eq t k ≡ c → (list_any (nat_eq t) ks ≡ false → list_any (nat_eq t) (ks ++ s ∷ []) ≡ false) → list_any (nat_eq t) ((k ∷ ks) ++ s ∷ []) ≡ false
    by true e f = (let z : true ≡ false = rw e at a in absurd (cc))
    by false e f = rw e (f (rw e at a))

later_any : (b : Bool) (ks : List ℕ) (t : ℕ) → list_any (nat_eq t) ks ≡ true → (b || list_any (nat_eq t) ks) ≡ true
later_any true ks t h = refl
later_any false ks t h = h

differ_more : (ks : List ℕ) (s : ℕ) → IsTrue (all_differ nat_eq ks) → ((t : ℕ) → list_any (nat_eq t) ks ≡ true → nat_eq t s ≡ false) → IsTrue (all_differ nat_eq (ks ++ s ∷ []))
differ_more [] s d n = refl
differ_more (k ∷ ks) s d n =
    (let parts = and_parts (not (list_any (nat_eq k) ks)) (all_differ nat_eq ks) d in
    let a : list_any (nat_eq k) (k ∷ ks) ≡ true = rw (self_eq k) refl in
    let one = any_more k s ks (none_of (list_any (nat_eq k) ks) parts.0) (n k a) in
    rw one (differ_more ks s parts.1 (λ t h. n t (later_any (nat_eq t k) ks t h))))

pub once_more : (env : Env) (s : ℕ) (x : ℤ) → OnceEach env → at_slot env s ≡ None → OnceEach (env ++ (s, x) ∷ [])
once_more env s x o h = subst (λ (ks : List ℕ). IsTrue (all_differ nat_eq ks)) (sym (keys_more env s x)) (differ_more (map (λ e. e.0) env) s o (not_in_keys env s h))

-- without some
any_left : (t : ℕ) (p : ℕ × ℤ → Bool) (env : Env) → list_any (nat_eq t) (map (λ e. e.0) env) ≡ false → list_any (nat_eq t) (map (λ e. e.0) (filter p env)) ≡ false
any_left t p [] h = refl
any_left t p (e ∷ env) h = by (nat_eq t e.0) refl (p e) refl (any_left t p env)
  where
    by : (c : Bool) → nat_eq t e.0 ≡ c → (b : Bool) → p e ≡ b → (list_any (nat_eq t) (map (λ e. e.0) env) ≡ false → list_any (nat_eq t) (map (λ e. e.0) (filter p env)) ≡ false) → list_any (nat_eq t) (map (λ e. e.0) (filter p (e ∷ env))) ≡ false
    by true q b r f = (let z : true ≡ false = rw q at h in absurd (cc))
    by false q true r f = rw r (rw q (f (rw q at h)))
    by false q false r f = rw r (f (rw q at h))

pub once_left : (p : ℕ × ℤ → Bool) (env : Env) → OnceEach env → OnceEach (filter p env)
once_left p [] o = refl
once_left p (e ∷ env) o = by (p e) refl (once_left p env)
  where
    by : (b : Bool) → p e ≡ b → (OnceEach env → OnceEach (filter p env)) → OnceEach (filter p (e ∷ env))
    by false r f = rw r (f (and_parts (not (list_any (nat_eq e.0) (map (λ e. e.0) env))) (all_differ nat_eq (map (λ e. e.0) env)) o).1)
    by true r f = (let parts = and_parts (not (list_any (nat_eq e.0) (map (λ e. e.0) env))) (all_differ nat_eq (map (λ e. e.0) env)) o in rw r (rw (any_left e.0 p env (none_of (list_any (nat_eq e.0) (map (λ e. e.0) env)) parts.0)) (f parts.1)))

pub none_in : (h : List ℕ) → length h ≡ 0 → h ≡ []
none_in [] e = refl
none_in (x ∷ xs) e = absurd (omega (arith, e))

-- where no slot is at home nothing is forgotten
pub all_left : (env : Env) → filter (λ e. not (holds [] e.0)) env ≡ env
all_left [] = refl
all_left (e ∷ env) = ap (λ xs. e ∷ xs) (all_left env)
