-- The grammars of types, or why a type has none. (What a type is made into, and what keeps packets from being decoded, are this profile's own.)
use Rattle.std.specs.Prelude.{◌≡◌, List, [], ◌∷◌, ◌++◌, Some, None}
use Rattle.acn_check.specs.Checked.{HasNoFault}
use Rattle.acn_grammar.specs.Check as check
use Rattle.acn_grammar.specs.Check.{FirstFault}
use Rattle.acn_grammar.specs.Faults.{check_fault_of}
use Rattle.acn_grammar.specs.Grammar.{Grammar}
use Rattle.acn_grammar.specs.ItemsNamed.{ItemsNamed}
use Rattle.acn_grammar.specs.View.{grammar_of}
use Rattle.acn_grammar.specs.declared.check_fault.CheckFault.{CheckFault}
use Rattle.acn_grammar.specs.declared.check_fault.CheckFault.TheVariants as check_fault
use Rattle.acn_index.specs.World.{World}
use Rattle.acn_index.specs.declared.sources.TypeId.{TypeId}
use Rattle.acn_merge.specs.Merged.{reason_against, merged, full_name}
use Rattle.acn_merge.specs.Told as merge
use Rattle.acn_merge.specs.declared.fault.MergeFault.{MergeFault}
use Rattle.acn_merge.specs.declared.fault.MergeFault.TheVariants as merge_fault
use Rattle.acn_tree.specs.declared.tree.Tree.{Tree}
use Rattle.acn_front.specs.declared.grammars.TypeFault.{TypeFault}
use Rattle.acn_front.specs.declared.grammars.TypeFault.TheVariants as fault

-- the tree that the type is made into: no node of it has a reason against it
pub record IsTreeOf (w : World) (of : TypeId) (tree : Tree) : Type 0 where
  pub none : reason_against w of ≡ None
  pub root : Some (grammar_of tree.root) ≡ merged w of
  pub name : tree.name ≡ full_name w of
  pub items : ItemsNamed (grammar_of tree.root)

-- the tree of the type, in which nothing keeps packets from being decoded
pub record IsGrammarOf (w : World) (of : TypeId) (tree : Tree) : Type 0 where
  pub made : IsTreeOf w of tree
  pub decodable : HasNoFault (grammar_of tree.root)

-- this comes first of what keeps packets from being decoded
pub record IsUndecodable (root : Grammar) (f : CheckFault) : Type 0 where
  pub cause : check.CheckFault
  pub told : check_fault_of f ≡ Some cause
  pub first : FirstFault root cause

-- Why a type has no grammar. Want of memory is free.
abbrev pub IsTypeFault : World → TypeId → TypeFault → Type 0
IsTypeFault w of (fault.Refused r) = merge.Tells w of (merge_fault.At r)
IsTypeFault w of (fault.Undecodable tree f) = IsTreeOf w of tree × IsUndecodable (grammar_of tree.root) f
IsTypeFault w of fault.NoMemory = Unit {0}

-- a grammar for each type
abbrev pub AreGrammarsOf : World → List TypeId → List Tree → Type 0
AreGrammarsOf w [] [] = Unit {0}
AreGrammarsOf w (of ∷ types) (tree ∷ trees) = IsGrammarOf w of tree × AreGrammarsOf w types trees
AreGrammarsOf w [] (tree ∷ trees) = ⊥
AreGrammarsOf w (of ∷ types) [] = ⊥

-- Why not all of these types have a grammar: those before one have, and that one has none for this.
pub record IsFirstTypeFault (w : World) (types : List TypeId) (f : TypeFault) : Type 0 where
  pub front : List TypeId
  pub of : TypeId
  pub back : List TypeId
  pub parts : types ≡ front ++ of ∷ back
  pub trees : List Tree
  pub before : AreGrammarsOf w front trees
  pub fault : IsTypeFault w of f

-- a refusal of the merge, handed on
abbrev pub merge_told : MergeFault → TypeFault
merge_told (merge_fault.At r) = fault.Refused r
merge_told merge_fault.NoMemory = fault.NoMemory

-- a refusal of the checker, handed on
abbrev pub Tells : Tree → CheckFault → TypeFault → Type 0
Tells tree f (fault.Undecodable t e) = (t ≡ tree) × (e ≡ f)
Tells tree f fault.NoMemory = Unit {0}
Tells tree f _ = ⊥

-- the same, where the checker's own want of memory says nothing of the tree
abbrev pub TellsOf : Tree → CheckFault → TypeFault → Type 0
TellsOf tree check_fault.NoMemory result = result ≡ fault.NoMemory
TellsOf tree f result = Tells tree f result
