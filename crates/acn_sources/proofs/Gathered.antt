-- The sources of the files that were read so far.
use Rattle.std.proofs.Common.{◌≡◌, ◌≢◌, ℕ, zero, suc, ◌+◌, ◌<◌, ◌≤◌, List, [], ◌∷◌, ◌++◌, length, take, map, Option, Some, None, refl, sym, ap, subst, ◌∙◌, append-nil, inl, inr, arith}
use Rattle.std.specs.Prelude.{Result, Ok, Err, IfOk, IfErr, ◌⊎◌, slice_get}
use Rattle.std.specs.Borrow.{Bor}
use Rattle.std.proofs.lemmas.Bool.{cases_lt}
use Rattle.std.proofs.lemmas.Grind.{flat_map-append}
use Rattle.std.proofs.lemmas.Option.{slice_get_within}
use Rattle.acn_asn_syntax.specs.declared.modules.AsnModules.{AsnModules}
use Rattle.acn_acn_syntax.specs.declared.modules.AcnModules.{AcnModules}
use Rattle.acn_acn_syntax.specs.declared.maps.MapTables.{MapTables}
use Rattle.acn_index.specs.declared.sources.Sources.{Sources}
use Rattle.acn_sources.specs.Kinds.{IsAsn, IsAsnFault, IsAcn, IsAcnFault, IsMap, IsMapFault}
use Rattle.acn_sources.specs.Files.{asn_of, acn_of, map_of, asn_bytes, acn_bytes, map_bytes, AreTrees, IsOnlyTree, AreSources, HasTree, HasFault, IsAdded, IsFirstFault, AnswersSources, AnswersFirst}
use Rattle.acn_sources.specs.Reading.{AnswersFault}
use Rattle.acn_sources.specs.declared.fault.FileFault.{FileFault}
use Rattle.acn_sources.specs.declared.fault.FileFault.TheVariants.{NoMemory}
use Rattle.acn_sources.specs.declared.fault.SourcesFault.{SourcesFault}
use Rattle.acn_sources.specs.declared.kind.FileKind.{FileKind}
use Rattle.acn_sources.specs.declared.kind.FileKind.TheVariants.{Asn, Acn, Map}
use Rattle.acn_sources.specs.declared.sources.File.{File}

module _ {T : Type 0} (IsTree : List ℕ → T → Type 0) where
  one_more : (bs : List (List ℕ)) (ts : List T) (b : List ℕ) (t : T) → AreTrees IsTree bs ts → IsTree b t → AreTrees IsTree (bs ++ b ∷ []) (ts ++ t ∷ [])
  one_more [] [] b t h k = (k, tt)
  one_more (c ∷ bs) (u ∷ ts) b t h k = (h.0, one_more bs ts b t h.1 k)
  one_more [] (u ∷ ts) b t h k = absurd h
  one_more (c ∷ bs) [] b t h k = absurd h

  trees_of : (bs : List (List ℕ)) (ts : List T) → AreTrees (IsOnlyTree IsTree) bs ts → AreTrees IsTree bs ts
  trees_of [] [] h = tt
  trees_of (b ∷ bs) (t ∷ ts) h = (h.0.0, trees_of bs ts h.1)
  trees_of [] (t ∷ ts) h = h
  trees_of (b ∷ bs) [] h = h

  same_trees : (bs : List (List ℕ)) (ts us : List T) → AreTrees (IsOnlyTree IsTree) bs ts → AreTrees IsTree bs us → ts ≡ us
  same_trees [] [] [] h k = refl
  same_trees [] [] (u ∷ us) h k = absurd k
  same_trees [] (t ∷ ts) us h k = absurd h
  same_trees (b ∷ bs) [] us h k = absurd h
  same_trees (b ∷ bs) (t ∷ ts) [] h k = absurd k
  same_trees (b ∷ bs) (t ∷ ts) (u ∷ us) h k = let p = h.0.1 u k.0 in let q = same_trees bs ts us h.1 k.1 in cc (p, q)

-- the files so far have these trees and no others, and no fault
pub record AreGathered (files : List File) (s : Sources) : Type 0 where
  pub asn : AreTrees (IsOnlyTree IsAsn) (asn_bytes files) s.asn
  pub acn : AreTrees (IsOnlyTree IsAcn) (acn_bytes files) s.acn
  pub maps : AreTrees (IsOnlyTree IsMap) (map_bytes files) s.maps

pub record IsSound (f : File) : Type 0 where
  pub tree : HasTree f
  pub sound : (e : FileFault) → HasFault f e → ⊥

-- ---- a file more

kept : {T : Type 0} (P : List ℕ → T → Type 0) (bs : List (List ℕ)) (ts : List T) → AreTrees P bs ts → AreTrees P (bs ++ []) ts
kept P bs ts h = rw (append-nil bs) h

module _ (fs : List File) (s : Sources) (h : AreGathered fs s) where
  more_by : (k : FileKind) (b : Bor (List ℕ)) (new : Sources) → IsAdded (record { kind = k; bytes = b }) s new → AreGathered (fs ++ record { kind = k; bytes = b } ∷ []) new
  more_by Asn b new (t, only, is) = subst (λ x. AreGathered (fs ++ record { kind = Asn; bytes = b } ∷ []) x) (sym is) (record {
    asn = rw (flat_map-append asn_of fs (record { kind = Asn; bytes = b } ∷ [])) (one_more (IsOnlyTree IsAsn) (asn_bytes fs) s.asn b.now t h.asn only);
    acn = rw (flat_map-append acn_of fs (record { kind = Asn; bytes = b } ∷ [])) (kept (IsOnlyTree IsAcn) (acn_bytes fs) s.acn h.acn);
    maps = rw (flat_map-append map_of fs (record { kind = Asn; bytes = b } ∷ [])) (kept (IsOnlyTree IsMap) (map_bytes fs) s.maps h.maps);
  })
  more_by Acn b new (t, only, is) = subst (λ x. AreGathered (fs ++ record { kind = Acn; bytes = b } ∷ []) x) (sym is) (record {
    asn = rw (flat_map-append asn_of fs (record { kind = Acn; bytes = b } ∷ [])) (kept (IsOnlyTree IsAsn) (asn_bytes fs) s.asn h.asn);
    acn = rw (flat_map-append acn_of fs (record { kind = Acn; bytes = b } ∷ [])) (one_more (IsOnlyTree IsAcn) (acn_bytes fs) s.acn b.now t h.acn only);
    maps = rw (flat_map-append map_of fs (record { kind = Acn; bytes = b } ∷ [])) (kept (IsOnlyTree IsMap) (map_bytes fs) s.maps h.maps);
  })
  more_by Map b new (t, only, is) = subst (λ x. AreGathered (fs ++ record { kind = Map; bytes = b } ∷ []) x) (sym is) (record {
    asn = rw (flat_map-append asn_of fs (record { kind = Map; bytes = b } ∷ [])) (kept (IsOnlyTree IsAsn) (asn_bytes fs) s.asn h.asn);
    acn = rw (flat_map-append acn_of fs (record { kind = Map; bytes = b } ∷ [])) (kept (IsOnlyTree IsAcn) (acn_bytes fs) s.acn h.acn);
    maps = rw (flat_map-append map_of fs (record { kind = Map; bytes = b } ∷ [])) (one_more (IsOnlyTree IsMap) (map_bytes fs) s.maps b.now t h.maps only);
  })

  pub gathered_more : (f : File) (new : Sources) → IsAdded f s new → AreGathered (fs ++ f ∷ []) new
  gathered_more f new added = more_by f.kind f.bytes new added

added_tree : (k : FileKind) (b : Bor (List ℕ)) (s new : Sources) → IsAdded (record { kind = k; bytes = b }) s new → HasTree (record { kind = k; bytes = b })
added_tree Asn b s new (t, only, is) = (t, only.0)
added_tree Acn b s new (t, only, is) = (t, only.0)
added_tree Map b s new (t, only, is) = (t, only.0)

pub added_sound : (f : File) (s new : Sources) → IsAdded f s new → ((e : FileFault) → HasFault f e → ⊥) → IsSound f
added_sound f s new added sound = record { tree = added_tree f.kind f.bytes s new added; sound = sound }

-- ---- all files

pub are_sources : (files : List File) (s : Sources) → AreGathered files s → AreSources files s
are_sources files s h = record {
  asn = trees_of IsAsn (asn_bytes files) s.asn h.asn;
  acn = trees_of IsAcn (acn_bytes files) s.acn h.acn;
  maps = trees_of IsMap (map_bytes files) s.maps h.maps;
}

abbrev sources_of : List AsnModules → List AcnModules → List MapTables → Sources
sources_of xs cs ms = record { asn = xs; acn = cs; maps = ms }

pub same_sources : (s u : Sources) → s.asn ≡ u.asn → s.acn ≡ u.acn → s.maps ≡ u.maps → s ≡ u
same_sources s u a b c = ap (λ x. sources_of x s.acn s.maps) a ∙ ap (λ x. sources_of u.asn x s.maps) b ∙ ap (λ x. sources_of u.asn u.acn x) c

pub one_sources : (files : List File) (s u : Sources) → AreGathered files s → AreSources files u → s ≡ u
one_sources files s u h k = same_sources s u
    (same_trees IsAsn (asn_bytes files) s.asn u.asn h.asn k.asn)
    (same_trees IsAcn (acn_bytes files) s.acn u.acn h.acn k.acn)
    (same_trees IsMap (map_bytes files) s.maps u.maps h.maps k.maps)

-- ---- what one file adds

pub added_asn : (f : File) (old : Sources) (t : AsnModules) (rows : List AsnModules) → f.kind ≡ Asn → IsAsn f.bytes.now t → ((u : AsnModules) → IsAsn f.bytes.now u → t ≡ u) → rows ≡ old.asn ++ t ∷ []
    → IsAdded f old (sources_of rows old.acn old.maps)
added_asn f old t rows e tree only is = by_kind f.kind e
  where
    by_kind : (k : FileKind) → k ≡ Asn → IsAdded (record { kind = k; bytes = f.bytes }) old (sources_of rows old.acn old.maps)
    by_kind k e = subst (λ k. IsAdded (record { kind = k; bytes = f.bytes }) old (sources_of rows old.acn old.maps)) (sym e) (t, (tree, only), ap (λ x. sources_of x old.acn old.maps) is)

pub has_asn : (f : File) → f.kind ≡ Asn → HasTree f → (t : AsnModules) × IsAsn f.bytes.now t
has_asn f e h = by_kind f.kind e h
  where
    by_kind : (k : FileKind) → k ≡ Asn → HasTree (record { kind = k; bytes = f.bytes }) → (t : AsnModules) × IsAsn f.bytes.now t
    by_kind k e h = subst (λ k. HasTree (record { kind = k; bytes = f.bytes })) e h

pub added_acn : (f : File) (old : Sources) (t : AcnModules) (rows : List AcnModules) → f.kind ≡ Acn → IsAcn f.bytes.now t → ((u : AcnModules) → IsAcn f.bytes.now u → t ≡ u) → rows ≡ old.acn ++ t ∷ []
    → IsAdded f old (sources_of old.asn rows old.maps)
added_acn f old t rows e tree only is = by_kind f.kind e
  where
    by_kind : (k : FileKind) → k ≡ Acn → IsAdded (record { kind = k; bytes = f.bytes }) old (sources_of old.asn rows old.maps)
    by_kind k e = subst (λ k. IsAdded (record { kind = k; bytes = f.bytes }) old (sources_of old.asn rows old.maps)) (sym e) (t, (tree, only), ap (λ x. sources_of old.asn x old.maps) is)

pub has_acn : (f : File) → f.kind ≡ Acn → HasTree f → (t : AcnModules) × IsAcn f.bytes.now t
has_acn f e h = by_kind f.kind e h
  where
    by_kind : (k : FileKind) → k ≡ Acn → HasTree (record { kind = k; bytes = f.bytes }) → (t : AcnModules) × IsAcn f.bytes.now t
    by_kind k e h = subst (λ k. HasTree (record { kind = k; bytes = f.bytes })) e h

pub added_map : (f : File) (old : Sources) (t : MapTables) (rows : List MapTables) → f.kind ≡ Map → IsMap f.bytes.now t → ((u : MapTables) → IsMap f.bytes.now u → t ≡ u) → rows ≡ old.maps ++ t ∷ []
    → IsAdded f old (sources_of old.asn old.acn rows)
added_map f old t rows e tree only is = by_kind f.kind e
  where
    by_kind : (k : FileKind) → k ≡ Map → IsAdded (record { kind = k; bytes = f.bytes }) old (sources_of old.asn old.acn rows)
    by_kind k e = subst (λ k. IsAdded (record { kind = k; bytes = f.bytes }) old (sources_of old.asn old.acn rows)) (sym e) (t, (tree, only), ap (λ x. sources_of old.asn old.acn x) is)

pub has_map : (f : File) → f.kind ≡ Map → HasTree f → (t : MapTables) × IsMap f.bytes.now t
has_map f e h = by_kind f.kind e h
  where
    by_kind : (k : FileKind) → k ≡ Map → HasTree (record { kind = k; bytes = f.bytes }) → (t : MapTables) × IsMap f.bytes.now t
    by_kind k e h = subst (λ k. HasTree (record { kind = k; bytes = f.bytes })) e h

-- ---- a file among those that have trees

record AreAll (files : List File) (xs : List AsnModules) (cs : List AcnModules) (ms : List MapTables) : Type 0 where
  asn : AreTrees IsAsn (asn_bytes files) xs
  acn : AreTrees IsAcn (acn_bytes files) cs
  maps : AreTrees IsMap (map_bytes files) ms

first_tree : (k : FileKind) (b : Bor (List ℕ)) (fs : List File) (xs : List AsnModules) (cs : List AcnModules) (ms : List MapTables)
    → AreAll (record { kind = k; bytes = b } ∷ fs) xs cs ms → HasTree (record { kind = k; bytes = b })
first_tree Asn b fs [] cs ms h = absurd h.asn
first_tree Asn b fs (t ∷ xs) cs ms h = (t, h.asn.0)
first_tree Acn b fs xs [] ms h = absurd h.acn
first_tree Acn b fs xs (t ∷ cs) ms h = (t, h.acn.0)
first_tree Map b fs xs cs [] h = absurd h.maps
first_tree Map b fs xs cs (t ∷ ms) h = (t, h.maps.0)

other_trees : (k : FileKind) (b : Bor (List ℕ)) (fs : List File) (xs : List AsnModules) (cs : List AcnModules) (ms : List MapTables)
    → AreAll (record { kind = k; bytes = b } ∷ fs) xs cs ms → (xs' : List AsnModules) × (cs' : List AcnModules) × (ms' : List MapTables) × AreAll fs xs' cs' ms'
other_trees Asn b fs [] cs ms h = absurd h.asn
other_trees Asn b fs (t ∷ xs) cs ms h = (xs, cs, ms, record { asn = h.asn.1; acn = h.acn; maps = h.maps })
other_trees Acn b fs xs [] ms h = absurd h.acn
other_trees Acn b fs xs (t ∷ cs) ms h = (xs, cs, ms, record { asn = h.asn; acn = h.acn.1; maps = h.maps })
other_trees Map b fs xs cs [] h = absurd h.maps
other_trees Map b fs xs cs (t ∷ ms) h = (xs, cs, ms, record { asn = h.asn; acn = h.acn; maps = h.maps.1 })

tree_at : (files : List File) (n : ℕ) (f : File) (xs : List AsnModules) (cs : List AcnModules) (ms : List MapTables) → AreAll files xs cs ms → slice_get files n ≡ Some f → HasTree f
tree_at [] n f xs cs ms h e = absurd cc
tree_at (g ∷ fs) zero f xs cs ms h e = let k : g ≡ f = cc e in subst HasTree k (first_tree g.kind g.bytes fs xs cs ms h)
tree_at (g ∷ fs) (suc n) f xs cs ms h e = let o = other_trees g.kind g.bytes fs xs cs ms h in tree_at fs n f o.0 o.1 o.2 o.3 e

pub has_tree : (files : List File) (n : ℕ) (f : File) (s : Sources) → AreSources files s → slice_get files n ≡ Some f → HasTree f
has_tree files n f s h e = tree_at files n f s.asn s.acn s.maps (record { asn = h.asn; acn = h.acn; maps = h.maps }) e

-- ---- the first fault

abbrev pub AreSound : List File → ℕ → Type 0
AreSound files n = (k : ℕ) (f : File) → k < n → slice_get files k ≡ Some f → IsSound f

pub sound_more : (files : List File) (n : ℕ) (f : File) → AreSound files n → slice_get files n ≡ Some f → IsSound f → AreSound files (n + 1)
sound_more files n f before at sound k g lt e = by_place (cases_lt k n)
  where
    by_place : (k < n) ⊎ (n ≤ k) → IsSound g
    by_place (inl l) = before k g l e
    by_place (inr l) =
        let is : k ≡ n = omega (arith, lt, l) in
        let same : Some f ≡ Some g = sym at ∙ ap (slice_get files) (sym is) ∙ e in
        subst IsSound (let same : f ≡ g = cc same in same) sound

pub first_fault : (files : List File) (n : ℕ) (f : File) (e : FileFault) → AreSound files n → slice_get files n ≡ Some f → HasFault f e → IsFirstFault files (record { file = n; fault = e })
first_fault files n f e before at h = record { file = f; stands = at; fault = h; before = λ k g lt is. (before k g lt is).tree }

-- no file has a fault where all have trees
pub no_fault : (files : List File) (n : ℕ) (e : SourcesFault) → AreSound files n → length files ≤ n → IsFirstFault files e → ⊥
no_fault files n e before le h = (before e.file h.file (omega (arith, slice_get_within files e.file h.file h.stands, le)) h.stands).sound e.fault h.fault

abbrev fault_at : ℕ → FileFault → SourcesFault
fault_at n g = record { file = n; fault = g }

-- the fault that is answered is the first
pub is_first : (files : List File) (n : ℕ) (f : File) (g : FileFault) (e : SourcesFault) → AreSound files n → slice_get files n ≡ Some f
    → (HasTree f → g ≡ NoMemory) → ((x : FileFault) → HasFault f x → (x ≡ g) ⊎ (g ≡ NoMemory)) → IsFirstFault files e → AnswersFirst e (Err (record { file = n; fault = g }))
is_first files n f g e before at each first h = by_place (cases_lt e.file n) (cases_lt n e.file)
  where
    by_place : (e.file < n) ⊎ (n ≤ e.file) → (n < e.file) ⊎ (e.file ≤ n) → AnswersFirst e (Err (record { file = n; fault = g }))
    by_place (inl l) q = absurd ((before e.file h.file l h.stands).sound e.fault h.fault)
    by_place (inr l) (inl m) = inr (each (h.before n f m at))
    by_place (inr l) (inr m) =
        let is : e.file ≡ n = omega (arith, l, m) in
        let same : Some h.file ≡ Some f = sym h.stands ∙ ap (slice_get files) is ∙ at in
        by_answer is (first e.fault (subst (λ x. HasFault x e.fault) (let k : h.file ≡ f = cc same in k) h.fault))
      where
        by_answer : e.file ≡ n → (e.fault ≡ g) ⊎ (g ≡ NoMemory) → AnswersFirst e (Err (record { file = n; fault = g }))
        by_answer is (inl k) = inl (ap (λ x. fault_at x e.fault) is ∙ ap (fault_at n) k)
        by_answer is (inr k) = inr k

-- what stands where no file is
abbrev pub blank : File
blank = record { kind = Asn; bytes = record { ref_ptr = (0, 0); now = [] } }

pub none_gathered : (s : Sources) → s.asn ≡ [] → s.acn ≡ [] → s.maps ≡ [] → AreGathered [] s
none_gathered s a b c = record { asn = rw a tt; acn = rw b tt; maps = rw c tt }
