-- The steps along a chain to an entry that has parameters.
use Rattle.std.proofs.Common.{◌≡◌, ℕ, zero, suc, ◌<◌, ◌≤◌, Bool, true, false, ◌||◌, List, [], ◌∷◌, Option, Some, None, refl, ap, ◌∙◌, arith}
use Rattle.std.specs.Prelude.{filter_map, option_to_list}
use Rattle.std.specs.List.{list_any, cons_option}
use Rattle.acn_index.specs.Lookup.{EntryAt}
use Rattle.acn_index.specs.World.{World}
use Rattle.acn_index.specs.Chains.{Link, next_link, more_links, links_within, link_entry, gives_parameters}
use Rattle.acn_world.specs.Parameters.{gives}

either : (b c : Bool) → (b || c) ≡ ((b || false) || c)
either true c = refl
either false c = refl

module _ (w : World) where
  abbrev pub any_gives : List Link → Bool
  any_gives ls = list_any gives_parameters (filter_map (link_entry w) ls)

  first_or_more : (e : Option EntryAt) (es : List EntryAt) → list_any gives_parameters (cons_option e es) ≡ (list_any gives_parameters (option_to_list e) || list_any gives_parameters es)
  first_or_more None es = refl
  first_or_more (Some e) es = either (gives_parameters e) (list_any gives_parameters es)

  one_link : (l : Link) (ls : List Link) → any_gives (l ∷ ls) ≡ (gives w l || any_gives ls)
  one_link l ls = first_or_more (link_entry w l) (filter_map (link_entry w) ls)

  pub gives_here : (n : ℕ) (l : Link) → 0 < n → gives w l ≡ true → any_gives (links_within n w l) ≡ true
  unfolding links_within
  gives_here zero l lt h = absurd (omega arith)
  gives_here (suc n) l lt h = one_link l (more_links (links_within n w) (next_link w l)) ∙ ap (λ b. b || any_gives (more_links (links_within n w) (next_link w l))) h

  pub ends : (n : ℕ) (l : Link) → gives w l ≡ false → next_link w l ≡ None → any_gives (links_within n w l) ≡ false
  unfolding links_within
  ends zero l h e = refl
  ends (suc n) l h e = rw e (one_link l [] ∙ ap (λ b. b || false) h)

  pub goes : (n m : ℕ) (l next : Link) → n ≡ suc m → gives w l ≡ false → next_link w l ≡ Some next → any_gives (links_within n w l) ≡ any_gives (links_within m w next)
  unfolding links_within
  goes n m l next s h e = rw s (rw e (one_link l (links_within m w next) ∙ ap (λ b. b || any_gives (links_within m w next)) h))

  pub spent : (n : ℕ) (l : Link) → n ≤ 0 → any_gives (links_within n w l) ≡ false
  unfolding links_within
  spent zero l le = refl
  spent (suc n) l le = absurd (omega arith)
