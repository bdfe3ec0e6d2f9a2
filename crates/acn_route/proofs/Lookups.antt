-- The entries of a map as routes.
use Rattle.std.proofs.Common.{◌≡◌, ℕ, ◌==◌, Bool, true, false, cond, List, [], ◌∷◌, ◌++◌, Option, Some, None, IfSome, is_some, Result, Ok, Err, refl, sym, ap, subst, ◌∙◌}
use Rattle.std.specs.Prelude.{option_map, OnOk, OnErr}
use Rattle.std.specs.Borrow.{Bor}
use Rattle.std.specs.Map.{lookup}
use Rattle.acn_route.specs.Listed.{Listed, tree_for, has_route}
use Rattle.acn_route.specs.Ready.{IsReady, AreReady, listed, all_listed}
use Rattle.acn_route.specs.declared.route.Route.{Route}
use Rattle.acn_tree.specs.declared.tree.Tree.{Tree}

there : (b : Bool) (r : Route) (o : Option Route) (t : Option Tree) → option_map (λ (r : Route). r.checked.tree) o ≡ t → option_map (λ (r : Route). r.checked.tree) (cond b (Some r) o) ≡ cond b (Some r.checked.tree) t
there true r o t h = refl
there false r o t h = h

pub looked_up : (a : ℕ) (es : List (ℕ × Route)) → option_map (λ (r : Route). r.checked.tree) (lookup (λ k. a == k) es) ≡ tree_for (all_listed es) a
looked_up a [] = refl
looked_up a (e ∷ es) = there (a == e.0) e.1 (lookup (λ k. a == k) es) (tree_for (all_listed es) a) (looked_up a es)

pub one_more : (es : List (ℕ × Route)) (a : ℕ) (r : Route) → all_listed (es ++ (a, r) ∷ []) ≡ all_listed es ++ listed (a, r) ∷ []
one_more [] a r = refl
one_more (e ∷ es) a r = ap (λ (z : List Listed). listed e ∷ z) (one_more es a r)

pub more_ready : (es : List (ℕ × Route)) (a : ℕ) (r : Route) → AreReady es → IsReady r → AreReady (es ++ (a, r) ∷ [])
more_ready [] a r h ready = (ready, tt)
more_ready (e ∷ es) a r h ready = (h.0, more_ready es a r h.1 ready)

chosen : (b : Bool) (r : Route) (o : Option Route) → IsReady r → IfSome o IsReady → IfSome (cond b (Some r) o) IsReady
chosen true r o h k = h
chosen false r o h k = k

pub found_ready : (a : ℕ) (es : List (ℕ × Route)) → AreReady es → IfSome (lookup (λ k. a == k) es) IsReady
found_ready a [] h = tt
found_ready a (e ∷ es) h = chosen (a == e.0) e.1 (lookup (λ k. a == k) es) h.0 (found_ready a es h.1)

-- ---- what a map gives

copied : (o : Option (Bor Route)) → option_map (λ (b : Bor Route). b.now.checked.tree) o ≡ option_map (λ (r : Route). r.checked.tree) (option_map (λ (b : Bor Route). b.now) o)
copied None = refl
copied (Some b) = refl

pub seen : (a : ℕ) (es : List (ℕ × Route)) (o : Option (Bor Route)) → option_map (λ (b : Bor Route). b.now) o ≡ lookup (λ k. a == k) es → option_map (λ (b : Bor Route). b.now.checked.tree) o ≡ tree_for (all_listed es) a
seen a es o h = copied o ∙ ap (option_map (λ (r : Route). r.checked.tree)) h ∙ looked_up a es

behind : (o : Option (Bor Route)) → IfSome (option_map (λ (b : Bor Route). b.now) o) IsReady → IfSome o (λ b. IsReady b.now)
behind None h = tt
behind (Some b) h = h

pub ready_there : (a : ℕ) (es : List (ℕ × Route)) (o : Option (Bor Route)) → AreReady es → option_map (λ (b : Bor Route). b.now) o ≡ lookup (λ k. a == k) es → IfSome o (λ b. IsReady b.now)
ready_there a es o ready h = behind o (subst (λ (r : Option Route). IfSome r IsReady) (sym h) (found_ready a es ready))

pub has : (a : ℕ) (es : List (ℕ × Route)) → is_some (lookup (λ k. a == k) es) ≡ is_some (tree_for (all_listed es) a)
has a es = kept (lookup (λ k. a == k) es) ∙ ap is_some (looked_up a es)
  where
    kept : (o : Option Route) → is_some o ≡ is_some (option_map (λ (r : Route). r.checked.tree) o)
    kept None = refl
    kept (Some r) = refl

pub told : (a : ℕ) (es : List (ℕ × Route)) (ls : List Listed) (b : Bool) → b ≡ is_some (lookup (λ k. a == k) es) → all_listed es ≡ ls → b ≡ has_route ls a
told a es ls b h e = h ∙ has a es ∙ ap (λ (l : List Listed). has_route l a) e

pub absent : (a : ℕ) (es : List (ℕ × Route)) → false ≡ is_some (lookup (λ k. a == k) es) → lookup (λ k. a == k) es ≡ None
absent a es h = nothing (lookup (λ k. a == k) es) h
  where
    nothing : (o : Option Route) → false ≡ is_some o → o ≡ None
    nothing None h = refl
    nothing (Some r) h = absurd (cc h)

-- one route more
pub added : (a : ℕ) (r : Route) (es new : List (ℕ × Route)) (ls : List Listed) → new ≡ es ++ (a, r) ∷ [] → all_listed es ≡ ls → all_listed new ≡ ls ++ listed (a, r) ∷ []
added a r es new ls e f = ap all_listed e ∙ one_more es a r ∙ ap (λ (l : List Listed). l ++ listed (a, r) ∷ []) f

-- the routes are ready, whether one was added or none
pub ready_after : {B E : Type 0} (r : Result B E) (a : ℕ) (route : Route) (es new : List (ℕ × Route)) → OnOk r (new ≡ es ++ (a, route) ∷ []) → OnErr r (new ≡ es) → AreReady es → IsReady route → AreReady new
ready_after (Ok x) a route es new more same ready one = subst AreReady (sym more) (more_ready es a route ready one)
ready_after (Err e) a route es new more same ready one = subst AreReady (sym same) ready

pub ok_turned : {B E : Type 0} (r : Result B E) (new x y : List (ℕ × Route)) → OnOk r (new ≡ x) → x ≡ y → OnOk r (new ≡ y)
ok_turned (Ok b) new x y h e = h ∙ e
ok_turned (Err f) new x y h e = tt
