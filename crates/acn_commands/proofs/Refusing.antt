-- From what is said of sources to why the request is refused.
use Rattle.std.proofs.Common.{◌≡◌, ℕ, List, [], ◌∷◌, Option, Some, None, refl, sym, ap, ◌∙◌, subst, arith}
use Rattle.std.specs.Prelude.{Result, Ok, Err, IfErr, OnOk, slice_get}
use Rattle.acn_files.specs.Contents.{Told, IsFirstTooLong}
use Rattle.acn_files.specs.declared.whole.FilesFault.{FilesFault}
use Rattle.acn_front.specs.Grammars.{IsTypeFault, IsFirstTypeFault}
use Rattle.acn_front.specs.Loaded.{IsLoadFault}
use Rattle.acn_front.specs.declared.grammars.TypeFault.{TypeFault}
use Rattle.acn_front.specs.declared.grammars.TypeFault.TheVariants as type_fault
use Rattle.acn_front.specs.declared.loading.LoadFault.TheVariants as load_fault
use Rattle.acn_index.specs.Lookup.{type_in}
use Rattle.acn_index.specs.World.{World}
use Rattle.acn_index.specs.declared.sources.TypeId.{TypeId}
use Rattle.acn_outside.specs.Counts.{Rose}
use Rattle.acn_outside.specs.declared.whole.WholeFault.TheVariants as whole
use Rattle.acn_print.specs.Printing.{Output}
use Rattle.acn_report.specs.CheckTexts.{no_memory_line}
use Rattle.acn_source_report.specs.Texts.{name_line, unreadable_line}
use Rattle.acn_sources.specs.declared.fault.SourcesFault.{SourcesFault}
use Rattle.acn_sources.specs.declared.sources.File.{File}
use Rattle.acn_words.specs.Names.{TypeName}
use Rattle.acn_words.specs.Requests.{Request, files_of, types_of}
use Rattle.acn_world.specs.declared.fault.NameFault.{NameFault}
use Rattle.acn_commands.specs.Asked.{AreRead, IsWorldOfNames, with_type, types_for}
use Rattle.acn_commands.specs.Outside.{Says}
use Rattle.acn_commands.specs.Refusals as refusals
use Rattle.acn_commands.specs.Refusals.{HasTypeFault, IsFirstUnknown, unknown_line}
use Rattle.acn_commands.specs.Serves.{refused, unreadable, stopped}
use Rattle.acn_commands.specs.Steps.{EndsEarly, EndsForFiles, EndsForWorld, IsUnread, SaysOfName, SaysOfFile, TellsTypeFault}
use Rattle.acn_commands.specs.declared.status.Status.{Status}
use Rattle.acn_commands.specs.declared.status.Status.TheVariants.{Done, Usage, NoGrammar, BadInput, FileFailed, InputFailed, OutputFailed, NoMemory}
use Rattle.acn_commands.proofs.Sorted.{bytes_there}

some_is : {A : Type 0} (x y : A) → Some x ≡ Some y → x ≡ y
some_is x y e = grind arith

-- what holds in any case
pub of_ok : {A E P : Type 0} → (r : Result A E) → P → OnOk r P
of_ok (Ok x) p = p
of_ok (Err e) p = tt

pub of_err : {A E : Type 0} → (r : Result A E) (Q : E → Type 0) → ((e : E) → Q e) → IfErr r Q
of_err (Ok x) Q q = tt
of_err (Err e) Q q = q e

module _ (told : Told) (faults faults' : List ℕ → ℕ) (request : Request) (err err' : Output) where
  -- memory ran out
  pub memory_ends : (status : Status) → status ≡ NoMemory → Says no_memory_line err err' → EndsEarly told faults faults' err err' request status
  memory_ends status e says i n o = rw e (stopped (record { unread = record { input = refl; faults = refl }; out = refl }) says)

  -- the sources are refused
  refusal_ends : (status : Status) (line : List ℕ) → status ≡ NoGrammar → refusals.Refuses told request line → Says line err err' → EndsEarly told faults faults' err err' request status
  refusal_ends status line e why says i n o = rw e (refused line why (record { unread = record { input = refl; faults = refl }; out = refl }) says)

  module _ (f : FilesFault) (too_long : f.fault ≡ whole.TooLong → IsFirstTooLong told (files_of request) f.file)
      (failed : f.fault ≡ whole.Failed → (name : List ℕ) × (slice_get (files_of request) f.file ≡ Some name) × Rose (faults name) (faults' name)) where
    unreadable_ends : (e : f.fault ≡ whole.Failed) → SaysOfName (files_of request) f.file unreadable_line err err' → EndsEarly told faults faults' err err' request FileFailed
    unreadable_ends e s i n o =
        let h = failed e in
        let same : h.0 ≡ s.name = some_is h.0 s.name (sym h.1 ∙ s.named) in
        unreadable f.file s.name s.named (subst (λ (name : List ℕ). Rose (faults name) (faults' name)) same h.2) (record { unread = record { input = refl; faults = refl }; out = refl }) s.says

    pub unread_ends : (status : Status) → IsUnread (files_of request) f err err' status → EndsEarly told faults faults' err err' request status
    unread_ends FileFailed h = unreadable_ends h.0 h.1
    unread_ends NoGrammar h = refusal_ends NoGrammar _ refl (refusals.too_long f.file h.1.name h.1.named (too_long h.0)) h.1.says
    unread_ends NoMemory h = memory_ends NoMemory refl h.1
    unread_ends Done h = absurd h
    unread_ends Usage h = absurd h
    unread_ends BadInput h = absurd h
    unread_ends InputFailed h = absurd h
    unread_ends OutputFailed h = absurd h

-- the status of a file that couldn't be read
pub unread_failed : (names : List (List ℕ)) (f : FilesFault) (err err' : Output) (status : Status) → IsUnread names f err err' status → f.fault ≡ whole.Failed → status ≡ FileFailed
unread_failed names f err err' FileFailed h e = refl
unread_failed names f err err' NoGrammar h e = let is = h.0 in cc
unread_failed names f err err' NoMemory h e = let is = h.0 in cc
unread_failed names f err err' Done h e = absurd h
unread_failed names f err err' Usage h e = absurd h
unread_failed names f err err' BadInput h e = absurd h
unread_failed names f err err' InputFailed h e = absurd h
unread_failed names f err err' OutputFailed h e = absurd h

module _ (names contents : List (List ℕ)) (files : List File) (err err' : Output) (status : Status) where
  -- a file has no tree
  pub file_ends : (f : SourcesFault) → status ≡ NoGrammar → IsLoadFault files (load_fault.File f) → SaysOfFile names files f err err' → EndsForFiles names contents files err err' status
  file_ends f e load s told faults faults' request read is =
      let read' = subst (λ (xs : List (List ℕ)). AreRead told xs contents files) (sym is) read in
      let named = subst (λ (xs : List (List ℕ)). slice_get xs f.file ≡ Some s.name) (sym is) s.named in
      refusal_ends told faults faults' request err err' status _ e (refusals.file contents files s.name s.file.bytes.now f read' load named (bytes_there names contents files f.file s.file read.files_are s.stands)) s.says

  -- a name leads nowhere
  pub name_ends : (f : NameFault) → status ≡ NoGrammar → IsLoadFault files (load_fault.Name f) → Says (name_line f) err err' → EndsForFiles names contents files err err' status
  name_ends f e load says told faults faults' request read is =
      let read' = subst (λ (xs : List (List ℕ)). AreRead told xs contents files) (sym is) read in
      refusal_ends told faults faults' request err err' status _ e (refusals.name contents files f read' load) says

-- a type in question has no grammar
module _ (w : World) (named : Option (List TypeName)) (types : List TypeId) (question : types_for w named ≡ Some types) (err err' : Output) where
  fault_of : (told : Told) (request : Request) (f : TypeFault) → IsWorldOfNames told (files_of request) w → types_of request ≡ named → IsFirstTypeFault w types f → HasTypeFault told request w f
  fault_of told request f read is first = record { types = types; read = read; question = rw is question; first = first }

  pub type_ends : (f : TypeFault) (status : Status) → IsFirstTypeFault w types f → TellsTypeFault f err err' status → EndsForWorld w named err err' status
  type_ends (type_fault.Refused r) status first t told faults faults' request read is =
      refusal_ends told faults faults' request err err' status _ t.0 (refusals.unmade w r (fault_of told request _ read is first)) t.1
  type_ends (type_fault.Undecodable tree g) status first t told faults faults' request read is =
      refusal_ends told faults faults' request err err' status _ t.0 (refusals.undecodable w tree g (fault_of told request _ read is first)) t.1
  type_ends type_fault.NoMemory status first t told faults faults' request read is = memory_ends told faults faults' request err err' status t.0 t.1

-- one type alone
pub one_fault : (w : World) (of : TypeId) (f : TypeFault) → IsTypeFault w of f → IsFirstTypeFault w (of ∷ []) f
one_fault w of f h = record { front = []; of = of; back = []; parts = refl; trees = []; before = tt; fault = h }

pub is_named : (w : World) (of : TypeName) (t : TypeId) → Some t ≡ type_in w of.module_name of.name → types_for w (Some (of ∷ [])) ≡ Some (t ∷ [])
is_named w of t e = ap (λ o. with_type o (Some [])) (sym e)

-- the one type that is named isn't there
pub one_unknown : (w : World) (of : TypeName) → None ≡ type_in w of.module_name of.name → IsFirstUnknown w (of ∷ []) of
one_unknown w of e = record { front = []; back = []; parts = refl; known = ([], refl); unknown = sym e }

-- a type that is named isn't there
pub unknown_ends : (w : World) (names : List TypeName) (of : TypeName) (err err' : Output) (status : Status) → IsFirstUnknown w names of → status ≡ NoGrammar → Says (unknown_line of) err err' → EndsForWorld w (Some names) err err' status
unknown_ends w names of err err' status first e says told faults faults' request read is =
    refusal_ends told faults faults' request err err' status _ e (refusals.unknown w names of read is first) says
