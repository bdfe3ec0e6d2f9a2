-- A part of an accepted tree at a path of k steps, whichever slots are at home round it and known before it.
use Rattle.std.specs.Prelude.{ℕ, List}
use Rattle.acn_grammar.specs.Grammar.{Grammar, Form, Fields, Alternatives}
use Rattle.acn_grammar.specs.Scoped.{Known}
use Rattle.acn_grammar.specs.Sound.{Sound, FormSound, FieldsSound, AlternativesSound}

pub record IsSound (root : Grammar) (k : ℕ) (g : Grammar) : Type 0 where
  pub around : List ℕ
  pub known : Known
  pub is : Sound root k around known g

pub record FormIsSound (root : Grammar) (k : ℕ) (form : Form) : Type 0 where
  pub around : List ℕ
  pub known : Known
  pub is : FormSound root k around known form

pub record FieldsAreSound (root : Grammar) (k : ℕ) (fields : Fields) : Type 0 where
  pub around : List ℕ
  pub known : Known
  pub are : FieldsSound root k around known fields

pub record CasesAreSound (root : Grammar) (k : ℕ) (cases : Alternatives) : Type 0 where
  pub around : List ℕ
  pub known : Known
  pub are : AlternativesSound root k around known cases
