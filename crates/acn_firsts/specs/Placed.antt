-- Names with places, and what is noted of them: each name once, at its first place.
use Rattle.std.specs.Prelude.{ℕ, List, [], ◌∷◌, ◌++◌, map, cond, Option, Some, None, is_some}
use Rattle.std.specs.Str.{bytes_eq}
use Rattle.acn_num.specs.Names.{Name}

-- the first place of a name
unfoldable pub place_of : Name → List (Name × ℕ) → Option ℕ
place_of name [] = None
place_of name (e ∷ es) = cond (bytes_eq name e.0) (Some e.1) (place_of name es)

-- a name that is there keeps its place
unfoldable pub noted : List (Name × ℕ) → Name → ℕ → List (Name × ℕ)
noted es name i = cond (is_some (place_of name es)) es (es ++ (name, i) ∷ [])

-- names with places, noted in turn
unfoldable pub noted_all : List (Name × ℕ) → List (Name × ℕ) → List (Name × ℕ)
noted_all es [] = es
noted_all es (e ∷ more) = noted_all (noted es e.0 e.1) more

-- names, noted at one place
abbrev pub noted_at : List (Name × ℕ) → List Name → ℕ → List (Name × ℕ)
noted_at es names i = noted_all es (map (λ (n : Name). (n, i)) names)
