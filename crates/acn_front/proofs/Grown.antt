-- Grammars of types, one more behind the others.
use Rattle.std.proofs.Common.{◌≡◌, ℕ, zero, suc, ◌+◌, ◌<◌, ◌≤◌, List, [], ◌∷◌, ◌++◌, length, take, drop, get_or, refl, sym, ap, ◌∙◌, subst, arith}
use Rattle.acn_index.specs.World.{World}
use Rattle.acn_index.specs.declared.sources.TypeId.{TypeId}
use Rattle.acn_tree.specs.declared.tree.Tree.{Tree}
use Rattle.acn_front.specs.Grammars.{IsGrammarOf, AreGrammarsOf, IsTypeFault, IsFirstTypeFault}
use Rattle.acn_front.specs.declared.grammars.TypeFault.{TypeFault}

pub grammars_more : (w : World) (types : List TypeId) (trees : List Tree) (of : TypeId) (tree : Tree) → AreGrammarsOf w types trees → IsGrammarOf w of tree → AreGrammarsOf w (types ++ of ∷ []) (trees ++ tree ∷ [])
grammars_more w [] [] of tree all h = (h, tt)
grammars_more w [] (t ∷ ts) of tree all h = absurd all
grammars_more w (x ∷ xs) [] of tree all h = absurd all
grammars_more w (x ∷ xs) (t ∷ ts) of tree all h = (all.0, grammars_more w xs ts of tree all.1 h)

module _ {A : Type 0} (d : A) where
  parts_at : (xs : List A) (k : ℕ) → k < length xs → xs ≡ take k xs ++ get_or xs k d ∷ drop (suc k) xs
  parts_at [] k h = absurd (omega arith)
  parts_at (y ∷ xs) zero h = refl
  parts_at (y ∷ xs) (suc k) h = ap (λ more. y ∷ more) (parts_at xs k (omega arith))

  taken_next : (xs : List A) (k : ℕ) → k < length xs → take (suc k) xs ≡ take k xs ++ get_or xs k d ∷ []
  taken_next [] k h = absurd (omega arith)
  taken_next (y ∷ xs) zero h = refl
  taken_next (y ∷ xs) (suc k) h = ap (λ more. y ∷ more) (taken_next xs k (omega arith))

module _ (w : World) (types : List TypeId) (k : ℕ) (trees : List Tree) (so_far : AreGrammarsOf w (take k types) trees) (d : TypeId) (inside : k < length types) where
  -- the type behind those that have a grammar has none
  pub first_fault : (f : TypeFault) → IsTypeFault w (get_or types k d) f → IsFirstTypeFault w types f
  first_fault f h = record { front = take k types; of = get_or types k d; back = drop (suc k) types; parts = parts_at d types k inside; trees = trees; before = so_far; fault = h }

  -- or it has one too
  pub one_more : (tree : Tree) → IsGrammarOf w (get_or types k d) tree → AreGrammarsOf w (take (k + 1) types) (trees ++ tree ∷ [])
  one_more tree h =
      let next : suc k ≡ k + 1 = omega arith in
      subst (λ (xs : List TypeId). AreGrammarsOf w xs (trees ++ tree ∷ [])) (sym (taken_next d types k inside) ∙ ap (λ n. take n types) next) (grammars_more w (take k types) trees (get_or types k d) tree so_far h)
