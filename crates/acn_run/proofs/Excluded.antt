-- Sources that are refused have no grammars, so a run doesn't do with them what a command does with grammars.
use Rattle.std.proofs.Common.{◌≡◌, ℕ, zero, suc, ◌≤◌, false, List, [], ◌∷◌, ◌++◌, length, Option, Some, None, refl, sym, ap, ◌∙◌, subst, arith, inl, inr}
use Rattle.std.specs.Prelude.{Result, Ok, Err, ◌⊎◌, IsTrue, is_some, slice_get}
use Rattle.acn_extreme_laws.specs.Single.{FirstUnsingle}
use Rattle.acn_extreme_laws.specs.declared.why.Why.{Why}
use Rattle.acn_files.specs.Contents.{Told, AreWhole}
use Rattle.acn_front.specs.Grammars.{AreGrammarsOf, IsFirstTypeFault}
use Rattle.acn_front.specs.Laws.{OneWorld, FaultyFilesHaveNoWorld, RefusedTypesHaveNoGrammars, OneGrammar}
use Rattle.acn_front.specs.declared.grammars.TypeFault.{TypeFault}
use Rattle.acn_front.specs.declared.grammars.TypeFault.TheVariants as type_fault
use Rattle.acn_front.specs.declared.loading.LoadFault.TheVariants as load_fault
use Rattle.acn_grammar.specs.Grammar.{Grammar}
use Rattle.acn_grammar.specs.Interval.{span}
use Rattle.acn_grammar.specs.View.{grammar_of}
use Rattle.acn_index.specs.Lookup.{type_in}
use Rattle.acn_index.specs.World.{World}
use Rattle.acn_index.specs.declared.sources.TypeId.{TypeId}
use Rattle.acn_num.specs.declared.limits.TheConstants.{MOST_FILE_BYTES}
use Rattle.acn_outside.specs.Whole.{IsWhole, IsTooLong}
use Rattle.acn_route.specs.declared.count.RouteCount.{RouteCount}
use Rattle.acn_route.specs.declared.route_fault.RouteFault.{RouteFault}
use Rattle.acn_route.specs.declared.route_fault.RouteFault.TheVariants as routing
use Rattle.acn_sources.specs.Laws.{AreAlike}
use Rattle.acn_sources.specs.declared.kind.FileKind.{FileKind}
use Rattle.acn_sources.specs.declared.sources.File.{File}
use Rattle.acn_stream.specs.declared.stream_fault.StreamFault.{StreamFault}
use Rattle.acn_stream.specs.declared.stream_fault.StreamFault.TheVariants as stream
use Rattle.acn_tree.specs.declared.tree.Tree.{Tree}
use Rattle.acn_words.specs.Names.{TypeName}
use Rattle.acn_words.specs.Requests.{Request, check, bounds, layout, encode, decode, compare, extremes, route, explain, work, request_in, files_of, types_of, reads_input, asks_extremes}
use Rattle.acn_commands.specs.Asked.{AreFilesOf, AreRead, IsWorldOfNames, HasGrammars, with_type, types_named, types_for}
use Rattle.acn_run.specs.Exactly.{AreTold, EndsRefused, IsRefused}
use Rattle.acn_commands.specs.Outside.{Outside}
use Rattle.acn_commands.specs.Refusals as refusals
use Rattle.acn_commands.specs.Refusals.{Refuses, IsFirstUnknown, HasTypeFault}
use Rattle.acn_commands.specs.Serves.{code_of, IsText, Converts, Routes, StreamEnds, Serves, printed, converted, routed, unconverted, unrouted, broken_off, route_broken, unwritten, cut, route_cut}
use Rattle.acn_run.specs.Run.{Ends, no_form, served}
use Rattle.acn_commands.specs.declared.status.Status.{Status}
use Rattle.acn_commands.specs.declared.status.Status.TheVariants.{Done, Usage, NoGrammar, BadInput, FileFailed, InputFailed, OutputFailed, NoMemory}

-- ---- what files hold

-- a file that is told is whole in one way
one_whole : (file : Option (List ℕ)) (bytes others : List ℕ) → IsTrue (is_some file) → IsWhole file bytes → IsWhole file others → bytes ≡ others
one_whole (Some all) bytes others t a b = a ∙ sym b
one_whole None bytes others t a b = absurd (cc)

same_contents : (told : Told) (names contents others : List (List ℕ)) → AreTold told names → AreWhole told names contents → AreWhole told names others → contents ≡ others
same_contents told [] [] [] t a b = refl
same_contents told [] [] (x ∷ others) t a b = absurd b
same_contents told [] (x ∷ contents) others t a b = absurd a
same_contents told (n ∷ names) [] others t a b = absurd a
same_contents told (n ∷ names) (x ∷ contents) [] t a b = absurd b
same_contents told (n ∷ names) (x ∷ contents) (y ∷ others) t a b =
    let p = one_whole (told n) x y t.0 a.0.0 b.0.0 in
    let q = same_contents told names contents others t.1 a.1 b.1 in
    cc (p, q)

some_kind : (x y : FileKind) → Some x ≡ Some y → x ≡ y
some_kind x y e = cc

are_alike : (names contents : List (List ℕ)) (files others : List File) → AreFilesOf names contents files → AreFilesOf names contents others → AreAlike files others
are_alike [] [] [] [] a b = tt
are_alike [] [] [] (g ∷ others) a b = absurd b
are_alike [] [] (f ∷ files) others a b = absurd a
are_alike [] (x ∷ contents) files others a b = absurd a
are_alike (n ∷ names) [] files others a b = absurd a
are_alike (n ∷ names) (x ∷ contents) [] others a b = absurd a
are_alike (n ∷ names) (x ∷ contents) (f ∷ files) [] a b = absurd b
are_alike (n ∷ names) (x ∷ contents) (f ∷ files) (g ∷ others) a b =
    ((some_kind f.kind g.kind (sym a.0.0 ∙ b.0.0), a.0.1 ∙ sym b.0.1), are_alike names contents files others a.1 b.1)

-- files of these names that were read whole hold the same
alike : (told : Told) (names contents others : List (List ℕ)) (files more : List File) → AreTold told names → AreRead told names contents files → AreRead told names others more → AreAlike files more
alike told names contents others files more t a b =
    are_alike names others files more (subst (λ (xs : List (List ℕ)). AreFilesOf names xs files) (same_contents told names contents others t a.whole b.whole) a.files_are) b.files_are

-- no file that was read whole is too long
not_long : (file : Option (List ℕ)) (bytes : List ℕ) → IsTrue (is_some file) → IsWhole file bytes → length bytes ≤ MOST_FILE_BYTES → IsTooLong file → ⊥
not_long (Some all) bytes t a few long = let same = ap length a in omega (arith, same, few, long)
not_long None bytes t a few long = absurd (cc)

none_too_long : (told : Told) (names contents : List (List ℕ)) (k : ℕ) (name : List ℕ) → AreTold told names → AreWhole told names contents → slice_get names k ≡ Some name → IsTooLong (told name) → ⊥
none_too_long told [] contents k n t a e long = absurd cc
none_too_long told (n ∷ names) [] k name t a e long = absurd a
none_too_long told (n ∷ names) (x ∷ contents) zero name t a e long = let same : n ≡ name = cc e in not_long (told n) x t.0 a.0.0 a.0.1 (subst (λ m. IsTooLong (told m)) (sym same) long)
none_too_long told (n ∷ names) (x ∷ contents) (suc k) name t a e long = none_too_long told names contents k name t.1 a.1 e long

-- ---- types in question

with_none : (o : Option TypeId) (types : List TypeId) → with_type o None ≡ Some types → ⊥
with_none None types e = cc
with_none (Some of) types e = cc

with_known : (o : Option TypeId) (p : Option (List TypeId)) (types : List TypeId) → with_type o p ≡ Some types → (us : List TypeId) × (p ≡ Some us)
with_known (Some of) (Some us) types e = (us, refl)
with_known (Some of) None types e = absurd cc
with_known None (Some us) types e = absurd cc
with_known None None types e = absurd cc

all_named : (w : World) (front : List TypeName) (of : TypeName) (back : List TypeName) (types : List TypeId) → types_named w (front ++ of ∷ back) ≡ Some types → type_in w of.module_name of.name ≡ None → ⊥
all_named w [] of back types e none = absurd (nothing (types_named w back) (subst (λ o. with_type o (types_named w back) ≡ Some types) none e))
  where
    nothing : (p : Option (List TypeId)) → with_type None p ≡ Some types → ⊥
    nothing (Some us) h = cc
    nothing None h = cc
all_named w (x ∷ front) of back types e none =
    let more = with_known (type_in w x.module_name x.name) (types_named w (front ++ of ∷ back)) types e in
    all_named w front of back more.0 more.1 none

none_unknown : (w : World) (names : List TypeName) (of : TypeName) (types : List TypeId) → IsFirstUnknown w names of → types_named w names ≡ Some types → ⊥
none_unknown w names of types h e = all_named w h.front of h.back types (subst (λ (ns : List TypeName). types_named w ns ≡ Some types) h.parts e) h.unknown

pub same_head : (x y : Tree) → x ∷ [] ≡ y ∷ [] → x ≡ y
same_head x y e = cc

some_types : (x y : List TypeId) → Some x ≡ Some y → x ≡ y
some_types x y e = cc

module _ (one : OneWorld) (none : FaultyFilesHaveNoWorld) (refuse : RefusedTypesHaveNoGrammars) (single : OneGrammar) (told : Told) (request : Request) (are : AreTold told (files_of request)) where
  -- what the files say is one world
  one_world : (w v : World) → IsWorldOfNames told (files_of request) w → IsWorldOfNames told (files_of request) v → w ≡ v
  one_world w v a b = one a.files b.files w v (alike told (files_of request) a.contents b.contents a.files b.files are a.read b.read) a.world b.world

  module _ (trees : List Tree) (has : HasGrammars told request trees) where
    here : (w : World) → IsWorldOfNames told (files_of request) w → w ≡ has.world
    here w read = one_world w has.world read has.read

    no_fault : (w : World) (f : TypeFault) → HasTypeFault told request w f → f ≡ type_fault.NoMemory
    no_fault w f h =
        let same = here w h.read in
        let question = subst (λ (v : World). types_for v (types_of request) ≡ Some h.types) same h.question in
        let types = some_types has.types h.types (sym has.question ∙ question) in
        let first = subst (λ (v : World). IsFirstTypeFault v h.types f) same h.first in
        refuse has.world h.types f trees first (subst (λ (xs : List TypeId). AreGrammarsOf has.world xs trees) types has.grammars)

    -- something keeps the packets of the one type that has a grammar from being put together part by part
    abbrev IsUnsingle : Type 0
    IsUnsingle = IsTrue (asks_extremes request) × (tree : Tree) × (trees ≡ tree ∷ []) × (at : List ℕ) × (why : Why) × FirstUnsingle (grammar_of tree.root) at why

    -- the packets of the one type that has a grammar may be empty
    abbrev MayBeEmpty : Type 0
    MayBeEmpty = IsTrue (reads_input request) × (tree : Tree) × (trees ≡ tree ∷ []) × ((span (grammar_of tree.root)).least ≡ 0)

    pub one_tree : (tree : Tree) → HasGrammars told request (tree ∷ []) → (t : Tree) × (trees ≡ t ∷ []) × (grammar_of t.root ≡ grammar_of tree.root)
    one_tree tree h =
        let same = one_world h.world has.world h.read has.read in
        let question = subst (λ (v : World). types_for v (types_of request) ≡ Some h.types) same h.question in
        let types = some_types has.types h.types (sym has.question ∙ question) in
        by h.types trees (subst (λ (v : World). AreGrammarsOf v h.types (tree ∷ [])) same h.grammars) (subst (λ (xs : List TypeId). AreGrammarsOf has.world xs trees) types has.grammars)
      where
        by : (types : List TypeId) (ts : List Tree) → AreGrammarsOf has.world types (tree ∷ []) → AreGrammarsOf has.world types ts → (t : Tree) × (ts ≡ t ∷ []) × (grammar_of t.root ≡ grammar_of tree.root)
        by [] ts a b = absurd a
        by (of ∷ []) [] a b = absurd b
        by (of ∷ []) (t ∷ []) a b = (t, refl, (single has.world of tree t a.0 b.0).0)
        by (of ∷ []) (t ∷ u ∷ ts) a b = absurd b.1
        by (of ∷ x ∷ types) ts a b = absurd a.1

    -- where grammars are there, only that packets may be empty, or can't be put together part by part, refuses the sources
    pub may_be_empty : (line : List ℕ) → Refuses told request line → MayBeEmpty ⊎ IsUnsingle
    may_be_empty line (refusals.too_long k name stands first) = absurd (none_too_long told (files_of request) has.read.contents k first.name are has.read.read.whole first.stands first.long)
    may_be_empty line (refusals.file contents files name bytes f read fault n b) =
        let h = none files has.read.files (load_fault.File f) has.world (alike told (files_of request) contents has.read.contents files has.read.files are read has.read.read) fault has.read.world in
        absurd (cc)
    may_be_empty line (refusals.name contents files f read fault) =
        let h = none files has.read.files (load_fault.Name f) has.world (alike told (files_of request) contents has.read.contents files has.read.files are read has.read.read) fault has.read.world in
        absurd (cc)
    may_be_empty line (refusals.unknown w names of read is first) =
        let asked = subst (λ (v : World). IsFirstUnknown v names of) (here w read) first in
        let question = subst (λ o. types_for has.world o ≡ Some has.types) is has.question in
        absurd (none_unknown has.world names of has.types asked question)
    may_be_empty line (refusals.unmade w r h) = let e = no_fault w (type_fault.Refused r) h in absurd (cc)
    may_be_empty line (refusals.undecodable w tree f h) = let e = no_fault w (type_fault.Undecodable tree f) h in absurd (cc)
    may_be_empty line (refusals.empty tree h reads least) =
        let t = one_tree tree h in
        inl (reads, t.0, t.1, ap (λ (g : Grammar). (span g).least) t.2 ∙ least)
    may_be_empty line (refusals.unsingle tree at why h asks first) =
        let t = one_tree tree h in
        inr (asks, t.0, t.1, at, why, subst (λ (g : Grammar). FirstUnsingle g at why) (sym t.2) first)

-- what is printed by a command doesn't come of one that reads the input
no_text : (request : Request) (trees : List Tree) (text : List ℕ) → IsTrue (reads_input request) → IsText request trees text → ⊥
no_text (encode of names) trees text reads is = absurd is
no_text (decode of names) trees text reads is = absurd is
no_text (check names) trees text reads is = cc
no_text (bounds names) trees text reads is = cc
no_text (layout of names) trees text reads is = cc
no_text (compare old new names) trees text reads is = cc
no_text (extremes of names) trees text reads is = cc
no_text (route routes names) trees text reads is = cc
no_text (explain of names) trees text reads is = absurd is
no_text (work of start count names) trees text reads is = cc

-- a shortest and a longest packet are told of single grammars alone
no_extremes : (request : Request) (trees : List Tree) (text : List ℕ) (tree : Tree) (at : List ℕ) (why : Why) → IsTrue (asks_extremes request) → trees ≡ tree ∷ [] → FirstUnsingle (grammar_of tree.root) at why → IsText request trees text → ⊥
no_extremes (extremes of names) trees text tree at why asks same first is =
    let h = subst (λ (ts : List Tree). IsText (extremes of names) ts text) same is in
    h.single why first.number first.here first.stands first.shows
no_extremes (check names) trees text tree at why asks same first is = cc
no_extremes (bounds names) trees text tree at why asks same first is = cc
no_extremes (layout of names) trees text tree at why asks same first is = cc
no_extremes (encode of names) trees text tree at why asks same first is = cc
no_extremes (decode of names) trees text tree at why asks same first is = cc
no_extremes (compare old new names) trees text tree at why asks same first is = cc
no_extremes (route routes names) trees text tree at why asks same first is = cc
no_extremes (explain of names) trees text tree at why asks same first is = cc
no_extremes (work of start count names) trees text tree at why asks same first is = cc

module _ (b a : Outside) where
  -- what asks for extremes converts no input
  no_stream : (request : Request) (tree : Tree) (result : Result ℕ StreamFault) → IsTrue (asks_extremes request) → StreamEnds request tree b a result → ⊥
  no_stream (extremes of names) tree result asks e = absurd e
  no_stream (check names) tree result asks e = cc
  no_stream (bounds names) tree result asks e = cc
  no_stream (layout of names) tree result asks e = cc
  no_stream (encode of names) tree result asks e = cc
  no_stream (decode of names) tree result asks e = cc
  no_stream (compare old new names) tree result asks e = cc
  no_stream (route routes names) tree result asks e = cc
  no_stream (explain of names) tree result asks e = cc
  no_stream (work of start count names) tree result asks e = cc

  -- neither that packets may be empty nor that they can't be put together refuses routes
  no_routes : (request : Request) (trees : List Tree) (result : Result RouteCount RouteFault) → Routes request trees b a result → (reads_input request ≡ false) × (asks_extremes request ≡ false)
  no_routes (route routes names) trees result e = (refl, refl)
  no_routes (check names) trees result e = absurd e
  no_routes (bounds names) trees result e = absurd e
  no_routes (layout of names) trees result e = absurd e
  no_routes (encode of names) trees result e = absurd e
  no_routes (decode of names) trees result e = absurd e
  no_routes (compare old new names) trees result e = absurd e
  no_routes (extremes of names) trees result e = absurd e
  no_routes (explain of names) trees result e = absurd e
  no_routes (work of start count names) trees result e = absurd e

module _ (one : OneWorld) (none : FaultyFilesHaveNoWorld) (refuse : RefusedTypesHaveNoGrammars) (single : OneGrammar) (b a : Outside) where
  module _ (request : Request) (are : AreTold b.files (files_of request)) (line : List ℕ) (why : Refuses b.files request line) where
    not_converted : (tree : Tree) (result : Result ℕ StreamFault) → HasGrammars b.files request (tree ∷ []) → Converts request tree b a result → ⊥
    not_converted tree result has c =
        by (may_be_empty one none refuse single b.files request are (tree ∷ []) has line why)
      where
        by : MayBeEmpty one none refuse single b.files request are (tree ∷ []) has ⊎ IsUnsingle one none refuse single b.files request are (tree ∷ []) has → ⊥
        by (inl e) =
            let same = same_head tree e.1 e.2 in
            let least = subst (λ (t : Tree). (span (grammar_of t.root)).least ≡ 0) (sym same) e.3 in
            omega (arith, least, c.some)
        by (inr e) = no_stream b a request tree result e.0 c.ends

    not_printed : (trees : List Tree) (text : List ℕ) → HasGrammars b.files request trees → IsText request trees text → ⊥
    not_printed trees text has is = by (may_be_empty one none refuse single b.files request are trees has line why)
      where
        by : MayBeEmpty one none refuse single b.files request are trees has ⊎ IsUnsingle one none refuse single b.files request are trees has → ⊥
        by (inl e) = no_text request trees text e.0 is
        by (inr e) = no_extremes request trees text e.1 e.3 e.4 e.0 e.2 e.5 is

    not_routed : (trees : List Tree) (result : Result RouteCount RouteFault) → HasGrammars b.files request trees → Routes request trees b a result → ⊥
    not_routed trees result has r = by (may_be_empty one none refuse single b.files request are trees has line why)
      where
        by : MayBeEmpty one none refuse single b.files request are trees has ⊎ IsUnsingle one none refuse single b.files request are trees has → ⊥
        by (inl e) = let reads = (no_routes b a request trees result r).0 in let asked = e.0 in cc
        by (inr e) = let asks = (no_routes b a request trees result r).1 in let asked = e.0 in cc

    ends_refused : (status : Status) → Serves b a request status → EndsRefused (code_of status)
    ends_refused Done (printed trees text has is unread gains silent) = absurd (not_printed trees text has is)
    ends_refused Done (converted tree count has c stay silent) = absurd (not_converted tree (Ok count) has c)
    ends_refused Done (routed trees counts has e stay silent) = absurd (not_routed trees (Ok counts) has e)
    ends_refused NoGrammar s = inl refl
    ends_refused BadInput (unconverted tree fault has of c stay says) = absurd (not_converted tree (Err fault) has c)
    ends_refused BadInput (unrouted trees fault has of e stay says) = absurd (not_routed trees (Err fault) has e)
    ends_refused FileFailed s = inr (inl refl)
    ends_refused InputFailed (broken_off tree has c rose says) = absurd (not_converted tree (Err stream.InputFault) has c)
    ends_refused InputFailed (route_broken trees has e rose says) = absurd (not_routed trees (Err routing.InputFault) has e)
    ends_refused OutputFailed (unwritten trees text has is unread gains rose says) = absurd (not_printed trees text has is)
    ends_refused OutputFailed (cut tree has c rose says) = absurd (not_converted tree (Err stream.OutputFault) has c)
    ends_refused OutputFailed (route_cut trees has e rose says) = absurd (not_routed trees (Err routing.OutputFault) has e)
    ends_refused NoMemory s = inr (inr refl)
    ends_refused Usage s = elim s [ ]

  one_request : (x y : Request) (words : List (List ℕ)) → request_in words ≡ Some x → request_in words ≡ Some y → x ≡ y
  one_request x y words e f = cc

  by_end : (words : List (List ℕ)) (request : Request) → request_in words ≡ Some request → (status : Status) → Ends b a words status → IsRefused b.files request (code_of status)
  by_end words request is Usage (no_form nothing untouched says) = absurd (cc)
  by_end words request is status (served other s was serves) = λ are line why. ends_refused request are line why status (subst (λ (r : Request). Serves b a r status) (one_request other request words was is) serves)

  -- a run whose sources are refused ends so
  pub refuses : (words words' : List (List ℕ)) (status : Status) (code : ℕ) → words ≡ words' → code ≡ code_of status → Ends b a words status → (request : Request) → request_in words' ≡ Some request → IsRefused b.files request code
  refuses words words' status code same is ends request asks = subst (λ n. IsRefused b.files request n) (sym is) (by_end words request (ap request_in same ∙ asks) status ends)
