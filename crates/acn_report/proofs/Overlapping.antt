-- The line of two alternatives that overlap, by its parts.
use Rattle.std.proofs.Common.{◌≡◌, ℕ, List, [], ◌∷◌, ◌++◌, map, refl, sym, ap, ◌∙◌, append_assoc, append-nil}
use Rattle.std.specs.Prelude.{ℤ, codes}
use Rattle.std.specs.List.{concat, flat_map}
use Rattle.acn_report.specs.CheckTexts.{overlap_line, pair_text, spaced_pair}
use Rattle.acn_report.specs.Names.{alternative_text, path_text}
use Rattle.acn_tree.specs.declared.tree.Tree.{Tree}

-- the words behind the last one, each behind a space
spaced : {A : Type 0} (f : A → List ℕ) (xs : List A) → concat (flat_map (λ v. codes " " ∷ v ∷ []) (map f xs) ++ codes "\n" ∷ []) ≡ flat_map (λ x. codes " " ++ f x) xs ++ codes "\n"
spaced f [] = refl
spaced f (x ∷ xs) = ap (λ l. codes " " ++ l) (ap (λ l. f x ++ l) (spaced f xs) ∙ sym (append_assoc (f x) (flat_map (λ y. codes " " ++ f y) xs) (codes "\n")))

in_front : (p a b rest : List ℕ) → (codes "acn: " ++ (p ++ (codes ": Overlap " ++ (a ++ (codes " " ++ (b ++ [])))))) ++ rest ≡ codes "acn: " ++ (p ++ (codes ": Overlap " ++ (a ++ (codes " " ++ (b ++ rest)))))
in_front p a b rest = simp (append_assoc, append-nil) refl

pub overlapping : (tree : Tree) (at : List ℕ) (i j : ℕ) (pairs : List (ℕ × ℤ))
    → (codes "acn: " ++ (path_text tree at ++ (codes ": Overlap " ++ (alternative_text tree at i ++ (codes " " ++ (alternative_text tree at j ++ [])))))) ++ (flat_map (spaced_pair tree) pairs ++ codes "\n") ≡ overlap_line tree at i j pairs
overlapping tree at i j pairs =
    in_front (path_text tree at) (alternative_text tree at i) (alternative_text tree at j) (flat_map (spaced_pair tree) pairs ++ codes "\n")
    ∙ ap (λ l. codes "acn: " ++ (path_text tree at ++ (codes ": Overlap " ++ (alternative_text tree at i ++ (codes " " ++ (alternative_text tree at j ++ l)))))) (sym (spaced (pair_text tree) pairs))
