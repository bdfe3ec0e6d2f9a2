-- From the clauses of a comparison to what its line says.
use Rattle.std.proofs.Common.{◌≡◌, ℕ, ℤ, suc, List, [], ◌∷◌, length, map, get_or, Option, Some, refl, sym, ap, ◌∙◌, arith}
use Rattle.std.proofs.lemmas.List.{length-map}
use Rattle.std.specs.Prelude.{Result, Ok, Err, IfOk}
use Rattle.acn_check.specs.declared.checked.Checked.{Checked}
use Rattle.acn_compare.specs.Accepts.{Accepts, FirstDifference}
use Rattle.acn_compare.specs.Laws.{ReadsAlike}
use Rattle.acn_compare.specs.declared.answer.Answer.{Answer}
use Rattle.acn_compare.specs.declared.answer.Answer.TheVariants.{Yes, No}
use Rattle.acn_compare.specs.declared.answer.Reason.{Reason}
use Rattle.acn_front.specs.Grammars.{AreGrammarsOf}
use Rattle.acn_grammar.specs.Grammar.{Grammar}
use Rattle.acn_index.specs.World.{World}
use Rattle.acn_index.specs.declared.sources.TypeId.{TypeId}
use Rattle.acn_num.specs.declared.memory.NoMemory.{NoMemory}
use Rattle.acn_tree.specs.declared.tree.Tree.{Tree}
use Rattle.acn_words.specs.Names.{TypeName}
use Rattle.acn_commands.specs.Asked.{with_type, types_named}
use Rattle.acn_commands.specs.Compared.{IsAnswer}
use Rattle.acn_commands.specs.Steps.{Answers}

pub is_answer : (old new : Grammar) (r : Result Answer NoMemory) → (r ≡ Ok Yes → Accepts old new) → ((at : List ℕ) (reason : Reason) (number : Option ℤ) → r ≡ Ok (No at reason number) → FirstDifference old new at reason number)
    → (r ≡ Ok Yes → ReadsAlike old new) → IfOk r (λ answer. IsAnswer old new answer)
is_answer old new (Ok Yes) accepts differs read = (accepts refl, read refl)
is_answer old new (Ok (No at reason number)) accepts differs read = differs at reason number refl
is_answer old new (Err e) accepts differs read = tt

-- the types of two names are two
two_named : (w : World) (a b : TypeName) (types : List TypeId) → types_named w (a ∷ b ∷ []) ≡ Some types → length types ≡ 2
two_named w a b types e = by _ _ types e
  where
    by : (x y : Option TypeId) (ts : List TypeId) → with_type x (with_type y (Some [])) ≡ Some ts → length ts ≡ 2
    by (Some x) (Some y) ts e = ap length (sym (some_is e))
      where
        some_is : Some (x ∷ y ∷ []) ≡ Some ts → (x ∷ y ∷ []) ≡ ts
        some_is h = cc
    by x y ts e = absurd cc

as_many : (w : World) (types : List TypeId) (trees : List Tree) → AreGrammarsOf w types trees → length trees ≡ length types
as_many w [] [] all = refl
as_many w [] (t ∷ trees) all = absurd all
as_many w (x ∷ types) [] all = absurd all
as_many w (x ∷ types) (t ∷ trees) all = ap suc (as_many w types trees all.1)

-- so their grammars are two
two_grammars : (w : World) (a b : TypeName) (trees : List Tree) → Answers w (Some (a ∷ b ∷ [])) trees → length trees ≡ 2
two_grammars w a b trees h = as_many w h.types trees h.grammars ∙ two_named w a b h.types h.question

-- checked trees that answer two names are two
pub two_checked : (w : World) (a b : TypeName) (all : List Checked) → Answers w (Some (a ∷ b ∷ [])) (map (λ c. c.tree) all) → length all ≡ 2
two_checked w a b all h = sym (length-map all (λ (c : Checked). c.tree)) ∙ two_grammars w a b (map (λ (c : Checked). c.tree) all) h

-- and these are their trees
pub trees_of_two : (all : List Checked) → length all ≡ 2 → (x y : Checked) → x ≡ get_or all 0 x → y ≡ get_or all 1 y → map (λ c. c.tree) all ≡ x.tree ∷ y.tree ∷ []
trees_of_two [] two x y first second = absurd (omega arith)
trees_of_two (a ∷ []) two x y first second = absurd (omega arith)
trees_of_two (a ∷ b ∷ []) two x y first second = ap (λ (c : Checked). c.tree ∷ b.tree ∷ []) (sym first) ∙ ap (λ (c : Checked). x.tree ∷ c.tree ∷ []) (sym second)
trees_of_two (a ∷ b ∷ d ∷ rest) two x y first second = absurd (omega arith)
