-- What is refused says nothing, and what sources say is one.
use Rattle.std.proofs.Common.{◌≡◌, false, List, [], ◌∷◌, ◌++◌, Option, Some, None, refl, sym, ap, ◌∙◌, subst}
use Rattle.std.specs.Prelude.{IsTrue, is_some}
use Rattle.acn_check.specs.Checked.{HasNoFault}
use Rattle.acn_grammar.specs.Grammar.{Grammar}
use Rattle.acn_grammar.specs.View.{grammar_of}
use Rattle.acn_index.specs.World.{World, world_of}
use Rattle.acn_index.specs.declared.sources.Sources.{Sources}
use Rattle.acn_index.specs.declared.sources.TypeId.{TypeId}
use Rattle.acn_merge.specs.Merged.{reason_against}
use Rattle.acn_sources.specs.Laws.{AreAlike, OneSources, FaultsHaveNoTrees}
use Rattle.acn_sources.specs.declared.sources.File.{File}
use Rattle.acn_tree.specs.declared.tree.Tree.{Tree}
use Rattle.acn_world.specs.Faults.{IsSound, IsFault}
use Rattle.acn_world.specs.Laws.{NoFaultInASoundWorld}
use Rattle.acn_front.specs.Grammars.{IsTreeOf, IsGrammarOf, IsTypeFault, AreGrammarsOf}
use Rattle.acn_front.specs.Laws.{OneWorld, FaultyFilesHaveNoWorld, RefusedTypesHaveNoGrammars, OneGrammar}
use Rattle.acn_front.specs.declared.grammars.TypeFault.{TypeFault}
use Rattle.acn_front.specs.declared.grammars.TypeFault.TheVariants as type_fault
use Rattle.acn_front.specs.declared.loading.LoadFault.TheVariants as load_fault

module _ (one : OneSources) where
  pub worlds_are_one : OneWorld
  worlds_are_one files others w v h a b = a.same ∙ ap world_of (one files others a.sources b.sources h a.trees b.trees) ∙ sym b.same

  pub files_without_a_world : FaultsHaveNoTrees → NoFaultInASoundWorld → FaultyFilesHaveNoWorld
  files_without_a_world apart sound files others (load_fault.File e) v h fault b = absurd (apart files others e b.sources h fault b.trees)
  files_without_a_world apart sound files others (load_fault.Name f) v h fault b =
      let same : world_of fault.0 ≡ v = ap world_of (one files others fault.0 b.sources h fault.1 b.trees) ∙ sym b.same in
      absurd (sound v f (subst (λ (x : World). IsFault x f) same fault.2) b.sound)
  files_without_a_world apart sound files others load_fault.NoMemory v h fault b = refl

-- a type among those that have grammars has one
grammar_at : (w : World) (front : List TypeId) (of : TypeId) (back : List TypeId) (trees : List Tree) → AreGrammarsOf w (front ++ of ∷ back) trees → (tree : Tree) × IsGrammarOf w of tree
grammar_at w [] of back [] all = absurd all
grammar_at w [] of back (tree ∷ trees) all = (tree, all.0)
grammar_at w (x ∷ front) of back [] all = absurd all
grammar_at w (x ∷ front) of back (tree ∷ trees) all = grammar_at w front of back trees all.1

some_is : (x y : Grammar) → Some x ≡ Some y → x ≡ y
some_is x y e = cc

same_root : (w : World) (of : TypeId) (t u : Tree) → IsTreeOf w of t → IsTreeOf w of u → grammar_of t.root ≡ grammar_of u.root
same_root w of t u a b = some_is (grammar_of t.root) (grammar_of u.root) (a.root ∙ sym b.root)

by_fault : (w : World) (of : TypeId) (f : TypeFault) (tree : Tree) → IsTypeFault w of f → IsGrammarOf w of tree → f ≡ type_fault.NoMemory
by_fault w of (type_fault.Refused r) tree h g = let none : IsTrue false = subst (λ o. IsTrue (is_some o)) g.made.none h.0 in absurd (cc)
by_fault w of (type_fault.Undecodable t f) tree h g =
    let same = same_root w of t tree h.0 g.made in
    absurd ((subst HasNoFault (sym same) g.decodable) h.1.cause h.1.first)
by_fault w of type_fault.NoMemory tree h g = refl

pub types_without_grammars : RefusedTypesHaveNoGrammars
types_without_grammars w types f trees h all =
    let g = grammar_at w h.front h.of h.back trees (subst (λ (xs : List TypeId). AreGrammarsOf w xs trees) h.parts all) in
    by_fault w h.of f g.0 h.fault g.1

pub grammars_are_one : OneGrammar
grammars_are_one w of t u a b = (same_root w of u t b.made a.made, b.made.name ∙ sym a.made.name)
