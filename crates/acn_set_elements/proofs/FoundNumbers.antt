-- The number at the first place of a name is that of the named number.
use Rattle.std.proofs.Common.{◌≡◌, ℕ, suc, ◌+◌, Bool, true, false, cond, List, [], ◌∷◌, Option, Some, None, refl, ap, ◌∙◌, arith}
use Rattle.std.specs.Prelude.{option_map, option_and_then, find}
use Rattle.std.specs.Str.{bytes_eq}
use Rattle.std.specs.Cmp.Lexicographic.{nat_list_eq_equiv}
use Rattle.acn_asn_syntax.specs.declared.types.Named.{Named}
use Rattle.acn_firsts.specs.Placed.{place_of, noted_all}
use Rattle.acn_num.specs.Names.{Name}
use Rattle.acn_set_elements.specs.Numbered.{placed, number_at}
use Rattle.acn_set_elements.specs.Written.{signed, named_in}

moved : (b : Bool) (i : ℕ) (o : Option ℕ) → cond b (Some (i + 1)) (option_map suc o) ≡ option_map suc (cond b (Some i) o)
moved true i o = ap Some (omega arith)
moved false i o = refl

later : (q : Name) (i : ℕ) (ns : List Named) → place_of q (placed (i + 1) ns) ≡ option_map suc (place_of q (placed i ns))
unfolding place_of
later q i [] = refl
later q i (n ∷ ns) = ap (cond (bytes_eq q n.name) (Some (i + 1))) (later q (i + 1) ns) ∙ moved (bytes_eq q n.name) i (place_of q (placed (i + 1) ns))

step : (n : Named) (ns : List Named) (b : Bool) (o : Option ℕ) (f : Option Named) → option_and_then (number_at ns) o ≡ option_map (λ (n : Named). signed n.negative n.number) f → option_and_then (number_at (n ∷ ns)) (cond b (Some 0) (option_map suc o)) ≡ option_map (λ (n : Named). signed n.negative n.number) (cond b (Some n) f)
step n ns true o f h = refl
step n ns false None f h = h
step n ns false (Some k) f h = h

number_found : (q : Name) (ns : List Named) → option_and_then (number_at ns) (place_of q (placed 0 ns)) ≡ named_in ns q
unfolding place_of
number_found q [] = refl
number_found q (n ∷ ns) =
    ap (λ (o : Option ℕ). option_and_then (number_at (n ∷ ns)) (cond (bytes_eq q n.name) (Some 0) o)) (later q 0 ns)
    ∙ (step n ns (bytes_eq q n.name) (place_of q (placed 0 ns)) (find (λ (m : Named). bytes_eq m.name q) ns) (number_found q ns)
    ∙ ap (λ b. option_map (λ (m : Named). signed m.negative m.number) (cond b (Some n) (find (λ (m : Named). bytes_eq m.name q) ns))) (nat_list_eq_equiv.symm q n.name))

-- as a map answers it
pub looked_up_number : (q : Name) (ns : List Named) (kept : List (Name × ℕ)) (r : Option ℕ) → kept ≡ noted_all [] (placed 0 ns) → ((all : List (Name × ℕ)) → kept ≡ noted_all [] all → r ≡ place_of q all) → option_and_then (number_at ns) r ≡ named_in ns q
looked_up_number q ns kept r noted first = ap (option_and_then (number_at ns)) (first (placed 0 ns) noted) ∙ number_found q ns
