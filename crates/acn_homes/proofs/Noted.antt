-- A number that is noted at a path.
use Rattle.std.proofs.Common.{◌≡◌, ℕ, Bool, true, false, cond, List, [], ◌∷◌, ◌++◌, append-nil, Option, Some, None, unwrap_or, bytes_eq, Bor, nat_cmp, refl, sym, ap, ◌∙◌}
use Rattle.std.specs.BTreeMap.{BTreeMap, UpdatesBy, get_by}
use Rattle.std.specs.Cmp.Lexicographic.{slice_cmp, bytes_decides}
use Rattle.std.specs.Global.{Vec}
use Rattle.std.specs.Option.{option_map_or}
use Rattle.std.proofs.lemmas.Cmp.{nat_list_eq_equiv}
use Rattle.std.proofs.lemmas.Map.Text.{btree_map_updates_str}

abbrev Numbers : Type 0
Numbers = BTreeMap (Bor (List ℕ)) (Vec ℕ)

abbrev at : Numbers → List ℕ → Option (Vec ℕ)
at m q = get_by (λ k. slice_cmp nat_cmp q k.now) m

abbrev items : Option (Vec ℕ) → List ℕ
items o = option_map_or (λ v. v.items) o []

unwrapped : (o : Option (Vec ℕ)) (v none : Vec ℕ) → v ≡ unwrap_or o none → none.items ≡ [] → v.items ≡ items o
unwrapped None v none h e = ap (λ (z : Vec ℕ). z.items) h ∙ e
unwrapped (Some w) v none h e = ap (λ (z : Vec ℕ). z.items) h

pub noted : (m n l : Numbers) (home : List ℕ) (here pushed none : Vec ℕ) (k : ℕ) → UpdatesBy (λ x y. slice_cmp nat_cmp x.now y.now) (λ k. slice_cmp nat_cmp home k.now) m n None → UpdatesBy (λ x y. slice_cmp nat_cmp x.now y.now) (λ k. slice_cmp nat_cmp home k.now) n l (Some pushed)
    → here ≡ unwrap_or (at m home) none → none.items ≡ [] → pushed.items ≡ here.items ++ k ∷ [] → (q : List ℕ) → items (at l q) ≡ items (at m q) ++ cond (bytes_eq q home) (k ∷ []) []
noted m n l home here pushed none k out in' h e p q = by (bytes_eq home q) refl
  where
    last : at l q ≡ cond (bytes_eq home q) (Some pushed) (at n q)
    last = btree_map_updates_str home n l (Some pushed) in' q

    first : at n q ≡ cond (bytes_eq home q) None (at m q)
    first = btree_map_updates_str home m n None out q

    turned : bytes_eq q home ≡ bytes_eq home q
    turned = nat_list_eq_equiv.symm q home

    by : (t : Bool) → bytes_eq home q ≡ t → items (at l q) ≡ items (at m q) ++ cond (bytes_eq q home) (k ∷ []) []
    by true is =
        ap items (last ∙ ap (λ (b : Bool). cond b (Some pushed) (at n q)) is)
        ∙ (p ∙ (ap (λ (z : List ℕ). z ++ k ∷ []) (unwrapped (at m home) here none h e ∙ ap (λ (z : List ℕ). items (at m z)) ((bytes_decides home q).0 is))
        ∙ ap (λ (b : Bool). items (at m q) ++ cond b (k ∷ []) []) (sym (turned ∙ is))))
    by false is =
        ap items (last ∙ (ap (λ (b : Bool). cond b (Some pushed) (at n q)) is ∙ (first ∙ ap (λ (b : Bool). cond b None (at m q)) is)))
        ∙ (sym (append-nil (items (at m q))) ∙ ap (λ (b : Bool). items (at m q) ++ cond b (k ∷ []) []) (sym (turned ∙ is)))
