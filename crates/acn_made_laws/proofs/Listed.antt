-- The sites of a type: those below one are among them, one step further down.
use Rattle.std.proofs.Common.{◌≡◌, inl, inr, ℕ, zero, suc, ◌+◌, false, List, [], ◌∷◌, ◌++◌, length, map, flat_map, Option, Some, None, option_to_list, refl, ap, subst, ◌∙◌, arith}
use Rattle.acn_asn_syntax.specs.Mirror.{AsnBase, AsnType, component_list, alternative_list, boolean, null, integer, enumerated, octet_string, bit_string, ia5_string, sequence, sequence_of, sequence_size, choice, reference}
use Rattle.acn_home_laws.proofs.Members.{In, each_has, all_have, in_front, in_back, split_in, first_is}
use Rattle.acn_index.specs.World.{World}
use Rattle.acn_made_laws.proofs.BelowSites.{FieldsFrom, AlternativesFrom, fields_in, alternatives_in, element_there}
use Rattle.acn_made_laws.proofs.Fine.{FineSite}
use Rattle.acn_made_laws.proofs.Depth.{FineAll, too_long, one_longer, below_is, braces_fit}
use Rattle.acn_reasons.specs.Braced.{unless_fit}
use Rattle.acn_sites.specs.Sites.{Site, Placed, base_of, below, in_sequence, content_of, content_site, element_site, inside_of, sites_in, sites_below, sites, mark}

-- ---- one step down

abbrev pub IsStep : List ℕ → Site → Type 0
IsStep path x = (k : ℕ) × (x.path ≡ path ++ k ∷ [])

field_step : (path : List ℕ) (k : ℕ) (xs : List Site) → FieldsFrom path k xs → (x : Site) → In x xs → IsStep path x
field_step path k [] h x m = absurd m
field_step path k (y ∷ xs) h x (inl e) = (k, ap (λ (z : Site). z.path) e ∙ h.0)
field_step path k (y ∷ xs) h x (inr m) = field_step path (suc k) xs h.2 x m

alternative_step : (path : List ℕ) (k : ℕ) (xs : List Site) → AlternativesFrom path k xs → (x : Site) → In x xs → IsStep path x
alternative_step path k [] h x m = absurd m
alternative_step path k (y ∷ xs) h x (inl e) = (k, ap (λ (z : Site). z.path) e ∙ h.0)
alternative_step path k (y ∷ xs) h x (inr m) = alternative_step path (suc k) xs h.2 x m

-- ---- lists of lists

pub in_flat : {A B : Type 0} (f : A → List B) (xs : List A) (x : A) (y : B) → In x xs → In y (f x) → In y (flat_map f xs)
in_flat f [] x y m k = absurd m
in_flat f (z ∷ xs) x y (inl e) k = in_front (f z) (flat_map f xs) y (subst (λ v. In y (f v)) e k)
in_flat f (z ∷ xs) x y (inr m) k = in_back (f z) (flat_map f xs) y (in_flat f xs x y m k)

pub from_flat : {A B : Type 0} (f : A → List B) (xs : List A) (y : B) → In y (flat_map f xs) → (x : A) × In x xs × In y (f x)
from_flat f [] y m = absurd m
from_flat f (z ∷ xs) y m = split_in (f z) (flat_map f xs) y m (λ k. (z, inl refl, k)) (λ k. (let r = from_flat f xs y k in (r.0, inr r.1, r.2)))

module _ (w : World) where
  content_step : (s : Site) (o : Option (ℕ × AsnType)) (x : Site) → In x (map (content_site w s) (option_to_list o)) → IsStep s.path x
  content_step s None x m = absurd m
  content_step s (Some t) x m = first_is (content_site w s t) x m (λ e. (0, ap (λ (z : Site). z.path) e))

  step_in : (s : Site) (b : AsnBase) → unless_fit b (below w s).braces ≡ false → (x : Site) → In x (sites_in w s (inside_of b)) → IsStep s.path x
  step_in s boolean h x m = absurd m
  step_in s null h x m = absurd m
  step_in s (integer ns) h x m = absurd m
  step_in s (enumerated items) h x m = absurd m
  step_in s octet_string h x m = content_step s (content_of s.chain) x m
  step_in s bit_string h x m = absurd m
  step_in s ia5_string h x m = absurd m
  step_in s (sequence cs) h x m = field_step s.path 0 (sites_in w s (inside_of (sequence cs))) (fields_in w (in_sequence (component_list cs) (below w s)) cs (below w s).braces h) x m
  step_in s (sequence_of t) h x m = first_is (element_site w s t (below w s) (below w s).braces) x m (λ e. (0, ap (λ (z : Site). z.path) e ∙ (element_there w s t (below w s).braces).0))
  step_in s (sequence_size c t) h x m = first_is (element_site w s t (below w s) (below w s).braces) x m (λ e. (0, ap (λ (z : Site). z.path) e ∙ (element_there w s t (below w s).braces).0))
  step_in s (choice more) h x m = alternative_step s.path 0 (sites_in w s (inside_of (choice more))) (alternatives_in w (below w s) 0 (alternative_list more)) x m
  step_in s (reference from name) h x m = absurd m

  pub step_below : (s : Site) → FineSite w s → (x : Site) → In x (sites_below w s) → IsStep s.path x
  step_below s f x m = step_in s (base_of s) (braces_fit w s f.braces) x (subst (In x) (below_is w s) m)

  -- ---- all sites

  head_in : (n : ℕ) (above : List ℕ) (x : Site) → (q : Placed) × In q (sites n w above x) × (q.site ≡ x)
  unfolding sites
  head_in zero above x = (record { text = above ++ mark x.position; site = x }, inl refl, refl)
  head_in (suc n) above x = (record { text = above ++ mark x.position; site = x }, inl refl, refl)

  pub part_fine : (n : ℕ) (above : List ℕ) (xs : List Site) (x : Site) → In x xs → FineAll w (flat_map (sites n w above) xs) → FineAll w (sites n w above x)
  part_fine n above xs x m f =
      all_have (λ (p : Placed). FineSite w p.site) (sites n w above x)
      (λ p k. each_has (λ (p : Placed). FineSite w p.site) (flat_map (sites n w above) xs) f p (in_flat (sites n w above) xs x p m k))

  -- one below one of them is one of them
  pub below_listed : (n : ℕ) (above : List ℕ) (s : Site) → FineAll w (sites n w above s) → length s.path + n ≡ 65 → (p : Placed) → In p (sites n w above s) → (x : Site) → In x (sites_below w p.site) → (q : Placed) × In q (sites n w above s) × (q.site ≡ x)
  unfolding sites
  below_listed zero above s f l p m x k = absurd (too_long (length s.path) zero f.0.shallow l refl)
  below_listed (suc n) above s f l p (inl e) x k =
      let q = head_in n (above ++ mark s.position) x in
      (q.0, inr (in_flat (sites n w (above ++ mark s.position)) (sites_below w s) x q.0 (subst (λ (z : Placed). In x (sites_below w z.site)) e k) q.1), q.2)
  below_listed (suc n) above s f l p (inr m) x k =
      let r = from_flat (sites n w (above ++ mark s.position)) (sites_below w s) p m in
      let at = step_below s f.0 r.0 r.1 in
      let q = below_listed n (above ++ mark s.position) r.0 (part_fine n (above ++ mark s.position) (sites_below w s) r.0 r.1 f.1) (one_longer s.path at.0 n r.0.path at.1 (deeper l)) p r.2 x k in
      (q.0, inr (in_flat (sites n w (above ++ mark s.position)) (sites_below w s) r.0 q.0 r.1 q.1), q.2)
    where
      deeper : length s.path + suc n ≡ 65 → suc (length s.path) + n ≡ 65
      deeper h = omega (arith, h)
