-- The steps along a chain.
use Rattle.std.proofs.Common.{◌≡◌, ℕ, zero, suc, ◌<◌, ◌≤◌, List, [], ◌∷◌, ◌++◌, Option, Some, None, refl, sym, arith, append_assoc}
use Rattle.acn_index.specs.World.{World}
use Rattle.acn_index.specs.Chains.{Link, next_link, more_links, links_within, last_link}

module _ (w : World) (done : List Link) where
  pub ends : (n : ℕ) (l : Link) → 0 < n → next_link w l ≡ None → done ++ links_within n w l ≡ done ++ l ∷ []
  unfolding links_within
  ends zero l lt e = absurd (omega arith)
  ends (suc n) l lt e = rw e refl

  pub goes : (n m : ℕ) (l next : Link) → n ≡ suc m → next_link w l ≡ Some next → done ++ links_within n w l ≡ (done ++ l ∷ []) ++ links_within m w next
  unfolding links_within
  goes n m l next s e = rw s (rw e (sym (append_assoc done (l ∷ []) (links_within m w next))))

  pub spent : (n : ℕ) (l : Link) → n ≤ 0 → done ++ links_within n w l ≡ done ++ []
  unfolding links_within
  spent zero l le = refl
  spent (suc n) l le = absurd (omega arith)

-- the last of the links
module _ (w : World) where
  pub last_ends : (n : ℕ) (l : Link) → next_link w l ≡ None → last_link l (links_within (suc n) w l) ≡ l
  unfolding links_within
  last_ends n l e = rw e refl

  pub last_goes : (n m : ℕ) (l next : Link) → n ≡ suc m → next_link w l ≡ Some next → last_link l (links_within (suc n) w l) ≡ last_link next (links_within (suc m) w next)
  unfolding links_within
  last_goes n m l next s e = rw s (rw e refl)

  no_more : (l : Link) (next : Option Link) → last_link l (more_links (links_within 0 w) next) ≡ l
  unfolding links_within
  no_more l None = refl
  no_more l (Some x) = refl

  pub last_spent : (n : ℕ) (l : Link) → n ≤ 0 → last_link l (links_within (suc n) w l) ≡ l
  unfolding links_within
  last_spent zero l le = no_more l (next_link w l)
  last_spent (suc n) l le = absurd (omega arith)
