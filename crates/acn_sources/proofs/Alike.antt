-- Files that hold the same: they have the same trees, and the same faults.
use Rattle.std.proofs.Common.{◌≡◌, ℕ, zero, suc, ◌≤◌, List, [], ◌∷◌, ◌++◌, length, Option, Some, None, refl, sym, ap, subst, ◌∙◌}
use Rattle.std.specs.Prelude.{slice_get}
use Rattle.acn_lex.specs.declared.fault.LexFault.TheVariants as lex
use Rattle.acn_lex.specs.Laws.{TokensAreDetermined, FaultsHaveNoTokens}
use Rattle.acn_lex.specs.Lexeme.{Placed}
use Rattle.acn_acn_parse.specs.Laws.{OneProperAcn, OneProperMap}
use Rattle.acn_asn_parse.specs.Laws.{OneProperTree}
use Rattle.acn_cursor.specs.Screens.{first_left_out, first_too_deep}
use Rattle.acn_index.specs.declared.sources.Sources.{Sources}
use Rattle.acn_sources.specs.Files.{asn_of, acn_of, map_of, asn_bytes, acn_bytes, map_bytes, AreTrees, AreSources, HasTree, HasFault, IsFirstFault}
use Rattle.acn_sources.specs.Kinds.{IsAsn, IsAsnFault, IsAcn, IsAcnFault, IsMap, IsMapFault, asn_grammar, acn_grammar, map_grammar}
use Rattle.acn_sources.specs.Laws.{AreAlike, OneSources, FaultsHaveNoTrees}
use Rattle.acn_sources.specs.Reading.{Grammar, IsTree, IsFault, unplaced}
use Rattle.acn_sources.specs.declared.fault.FileFault.{FileFault}
use Rattle.acn_sources.specs.declared.fault.FileFault.TheVariants.{BadByte, Unclosed, TooManyTokens, TooWide, LeftOut, TooDeep, Syntax, NoMemory}
use Rattle.acn_sources.specs.declared.fault.SourcesFault.{SourcesFault}
use Rattle.acn_sources.specs.declared.kind.FileKind.{FileKind}
use Rattle.acn_sources.specs.declared.kind.FileKind.TheVariants.{Asn, Acn, Map}
use Rattle.acn_sources.specs.declared.sources.File.{File}
use Rattle.acn_sources.proofs.Gathered.{has_tree, same_sources}

-- ---- one tree

module _ {T : Type 0} (g : Grammar T) (one : TokensAreDetermined) (proper : (t u : T) → g.IsProper t → g.IsProper u → g.tokens_of t ≡ g.tokens_of u → t ≡ u) where
  one_tree : (bytes : List ℕ) (t u : T) → IsTree g bytes t → IsTree g bytes u → t ≡ u
  one_tree bytes t u h k =
      let same : h.1 ≡ k.1 = one bytes h.1 k.1 h.2.0 k.2.0 in
      proper t u h.0 k.0 (sym h.4 ∙ ap unplaced same ∙ k.4)

  one_trees : (bs : List (List ℕ)) (ts us : List T) → AreTrees (IsTree g) bs ts → AreTrees (IsTree g) bs us → ts ≡ us
  one_trees [] [] [] h k = refl
  one_trees [] [] (u ∷ us) h k = absurd k
  one_trees [] (t ∷ ts) us h k = absurd h
  one_trees (b ∷ bs) [] us h k = absurd h
  one_trees (b ∷ bs) (t ∷ ts) [] h k = absurd k
  one_trees (b ∷ bs) (t ∷ ts) (u ∷ us) h k = let p = one_tree b t u h.0 k.0 in let q = one_trees bs ts us h.1 k.1 in cc (p, q)

-- ---- no fault

module _ {T : Type 0} (g : Grammar T) (one : TokensAreDetermined) (apart : FaultsHaveNoTokens) (bytes : List ℕ) (t : T) (h : IsTree g bytes t) where
  here : (us : List Placed) (P : List Placed → Type 0) → P h.1 → h.1 ≡ us → P us
  here us P p e = subst P e p

  no_fault : (e : FileFault) → IsFault g bytes e → ⊥
  no_fault (BadByte at) k = apart bytes (lex.BadByte at) h.1 k h.2.0 h.2.1
  no_fault (Unclosed at) k = apart bytes (lex.Unclosed at) h.1 k h.2.0 h.2.1
  no_fault (TooManyTokens at) k = apart bytes (lex.TooManyTokens at) h.1 k h.2.0 h.2.1
  no_fault (TooWide at) k = apart bytes (lex.TooWide at) h.1 k h.2.0 h.2.1
  no_fault (LeftOut at n) k =
      let read = here k.0 (λ us. first_left_out g.left_out (unplaced us) ≡ None) h.3.read (one bytes h.1 k.0 h.2.0 k.2.0) in
      let both : Some k.1 ≡ None = sym k.3 ∙ read in
      absurd cc
  no_fault (TooDeep at) k =
      let flat = here k.0 (λ us. first_too_deep (unplaced us) ≡ None) h.3.flat (one bytes h.1 k.0 h.2.0 k.2.0) in
      let both : Some k.1 ≡ None = sym k.4 ∙ flat in
      absurd cc
  no_fault (Syntax at) k = k.4 t h.0 (here k.0 (λ us. unplaced us ≡ g.tokens_of t) h.4 (one bytes h.1 k.0 h.2.0 k.2.0))
  no_fault NoMemory k = k

-- ---- files that hold the same

abbrev blank : FileKind → List ℕ → File
blank k b = record { kind = k; bytes = record { ref_ptr = (0, 0); now = b } }

module _ {C : Type 0} (of : FileKind → List ℕ → C) where
  alike : (f g : File) → f.kind ≡ g.kind → f.bytes.now ≡ g.bytes.now → of f.kind f.bytes.now ≡ of g.kind g.bytes.now
  alike f g k b = ap (λ (l : FileKind). of l f.bytes.now) k ∙ ap (λ (c : List ℕ). of g.kind c) b

same_asn : (files others : List File) → AreAlike files others → asn_bytes files ≡ asn_bytes others
same_asn [] [] h = refl
same_asn (f ∷ files) (g ∷ others) h = ap (λ xs. xs ++ asn_bytes files) (alike (λ k b. asn_of (blank k b)) f g h.0.0 h.0.1) ∙ ap (λ xs. asn_of g ++ xs) (same_asn files others h.1)
same_asn [] (g ∷ others) h = absurd h
same_asn (f ∷ files) [] h = absurd h

same_acn : (files others : List File) → AreAlike files others → acn_bytes files ≡ acn_bytes others
same_acn [] [] h = refl
same_acn (f ∷ files) (g ∷ others) h = ap (λ xs. xs ++ acn_bytes files) (alike (λ k b. acn_of (blank k b)) f g h.0.0 h.0.1) ∙ ap (λ xs. acn_of g ++ xs) (same_acn files others h.1)
same_acn [] (g ∷ others) h = absurd h
same_acn (f ∷ files) [] h = absurd h

same_map : (files others : List File) → AreAlike files others → map_bytes files ≡ map_bytes others
same_map [] [] h = refl
same_map (f ∷ files) (g ∷ others) h = ap (λ xs. xs ++ map_bytes files) (alike (λ k b. map_of (blank k b)) f g h.0.0 h.0.1) ∙ ap (λ xs. map_of g ++ xs) (same_map files others h.1)
same_map [] (g ∷ others) h = absurd h
same_map (f ∷ files) [] h = absurd h

module _ (one : TokensAreDetermined) (asn : OneProperTree) (acn : OneProperAcn) (maps : OneProperMap) where
  pub one_sources_of : OneSources
  one_sources_of files others s t h a b = same_sources s t
      (one_trees asn_grammar one asn (asn_bytes others) s.asn t.asn (subst (λ bs. AreTrees IsAsn bs s.asn) (same_asn files others h) a.asn) b.asn)
      (one_trees acn_grammar one acn (acn_bytes others) s.acn t.acn (subst (λ bs. AreTrees IsAcn bs s.acn) (same_acn files others h) a.acn) b.acn)
      (one_trees map_grammar one maps (map_bytes others) s.maps t.maps (subst (λ bs. AreTrees IsMap bs s.maps) (same_map files others h) a.maps) b.maps)

-- the file at the same place holds the same
alike_at : (files others : List File) (n : ℕ) (f : File) → AreAlike files others → slice_get files n ≡ Some f → (g : File) × (slice_get others n ≡ Some g) × (f.kind ≡ g.kind) × (f.bytes.now ≡ g.bytes.now)
alike_at [] others n f h e = absurd cc
alike_at (x ∷ files) (g ∷ others) zero f h e = let k : x ≡ f = cc e in subst (λ (y : File). (z : File) × (Some g ≡ Some z) × (y.kind ≡ z.kind) × (y.bytes.now ≡ z.bytes.now)) k (g, refl, h.0.0, h.0.1)
alike_at (x ∷ files) (g ∷ others) (suc n) f h e = alike_at files others n f h.1 e
alike_at (x ∷ files) [] n f h e = absurd h

module _ (one : TokensAreDetermined) (apart : FaultsHaveNoTokens) where
  by_kind : (k : FileKind) (b : List ℕ) (e : FileFault) → HasTree (blank k b) → HasFault (blank k b) e → ⊥
  by_kind Asn b e h k = no_fault asn_grammar one apart b h.0 h.1 e k
  by_kind Acn b e h k = no_fault acn_grammar one apart b h.0 h.1 e k
  by_kind Map b e h k = no_fault map_grammar one apart b h.0 h.1 e k

  pub no_trees : FaultsHaveNoTrees
  no_trees files others e t h first are =
      let g = alike_at files others e.file first.file h first.stands in
      let fault = subst (λ (c : List ℕ). HasFault (blank g.0.kind c) e.fault) g.3 (subst (λ (l : FileKind). HasFault (blank l first.file.bytes.now) e.fault) g.2 first.fault) in
      by_kind g.0.kind g.0.bytes.now e.fault (has_tree others e.file g.0 t are g.1) fault
