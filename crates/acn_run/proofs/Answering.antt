-- Two runs of the same words over the same files and the same input end alike.
use Rattle.std.proofs.Common.{◌≡◌, ◌⊎◌, ℕ, List, [], ◌∷◌, Option, Some, None, inl, inr, refl, sym, ap, subst, ◌∙◌}
use Rattle.std.specs.List.{AllByRecursion}
use Rattle.std.specs.Prelude.{Ok}
use Rattle.acn_files.specs.Contents.{Told}
use Rattle.acn_front.specs.Laws.{OneWorld, FaultyFilesHaveNoWorld, RefusedTypesHaveNoGrammars, OneGrammar}
use Rattle.acn_grammar.specs.Code.{Written}
use Rattle.acn_grammar.specs.Grammar.{Grammar, Data, node, seq, no_fields}
use Rattle.acn_grammar.specs.View.{grammar_of}
use Rattle.acn_outside.specs.Moves.{Gains, Takes}
use Rattle.acn_packet_laws.specs.Laws.{IsAccepted, RefusedIsNotSpelled}
use Rattle.acn_route.specs.Laws.{OneSpace}
use Rattle.acn_route.specs.Routing.{packets_of}
use Rattle.acn_route.specs.declared.count.RouteCount.{RouteCount}
use Rattle.acn_stream.specs.Encoding.{Packets, IsEncoded}
use Rattle.acn_explain.specs.Texts.{packet_text}
use Rattle.acn_stream.specs.Recording.{Text, lines_text, texts}
use Rattle.acn_stream.specs.Decoding.{IsDone}
use Rattle.acn_stream_laws.proofs.Gaining.{left_of, all_given}
use Rattle.acn_stream_laws.specs.Laws.{RecordingsAreDecoded, RecordingsAreShown, LinesAreEncoded, IsNotRefused}
use Rattle.acn_tree.specs.declared.tree.Tree.{Tree}
use Rattle.acn_words.specs.Requests.{Request, check, bounds, layout, encode, decode, compare, extremes, route, explain, work, request_in, files_of}
use Rattle.acn_commands.specs.Asked.{HasGrammars}
use Rattle.acn_run.specs.Complete.{IsUnrefused, NothingFailed, Holds, IsLinesOf, IsRecordingOf, CanBeRouted, CanBeConverted, DoesTheWhole, IsComplete}
use Rattle.acn_run.specs.Complete as whole
use Rattle.acn_run.specs.Exactly.{AreTold, EndsRefused}
use Rattle.acn_run.specs.OneAnswer.{Answers}
use Rattle.acn_commands.specs.Outside.{Outside}
use Rattle.acn_commands.specs.Refusals.{Refuses}
use Rattle.acn_commands.specs.Serves.{code_of, IsText, Routes, StreamEnds, Serves, printed, converted, routed, refused}
use Rattle.acn_run.specs.Run.{Ends, no_form, served}
use Rattle.acn_commands.specs.declared.status.Status.{Status}
use Rattle.acn_commands.specs.declared.status.Status.TheVariants.{Done, Usage, NoGrammar, BadInput, FileFailed, InputFailed, OutputFailed, NoMemory}
use Rattle.acn_commands.specs.declared.streams.TheConstants.{MOST_INPUT_BYTES}
use Rattle.acn_run.proofs.Completing.{completes}
use Rattle.acn_run.proofs.Ended.{is_accepted}
use Rattle.acn_run.proofs.Excluded.{refuses, one_tree, same_head}
use Rattle.acn_run.proofs.Unfailed.{unfailed}

-- ---- what a run that did the whole says of its input

-- of a command whose text was printed nothing is asked of the input
text_holds : (request : Request) (trees : List Tree) (text : List ℕ) (g : Grammar) (input : Option (List ℕ)) → IsText request trees text → ((values : List Data) × Holds request g input values) × CanBeRouted request input
text_holds (check names) trees text g input is = (([], tt), tt)
text_holds (bounds names) trees text g input is = (([], tt), tt)
text_holds (layout of names) trees text g input is = (([], tt), tt)
text_holds (encode of names) trees text g input is = absurd is
text_holds (decode of names) trees text g input is = absurd is
text_holds (compare old new names) trees text g input is = (([], tt), tt)
text_holds (extremes of names) trees text g input is = (([], tt), tt)
text_holds (route routes names) trees text g input is = absurd is
text_holds (explain of names) trees text g input is = absurd is
text_holds (work of start count names) trees text g input is = (([], tt), tt)

-- some grammar, of which nothing is asked
some_grammar : Grammar
some_grammar = node 0 (seq no_fields [])

module _ (unspelled : RefusedIsNotSpelled) where
  free : (g : Grammar) → IsAccepted g → (values : List Data) (packets : List ℕ) → Packets g values packets → AllByRecursion (IsNotRefused g) values
  free g ok [] packets h = tt
  free g ok (d ∷ values) packets h = ((λ why r. unspelled g Written d why h.first.spelling ok r h.first.written), free g ok values h.rest h.second)

  module _ (b a : Outside) (bytes : List ℕ) (is : b.input ≡ Some bytes) where
    abbrev HoldsSome : Request → Grammar → Type 0
    HoldsSome request g = ((values : List Data) × Holds request g b.input values) × CanBeRouted request b.input

    of_recording : (tree : Tree) (text : Text (grammar_of tree.root)) (count : ℕ) → IsDone (grammar_of tree.root) text MOST_INPUT_BYTES b.input a.input b.out.0 a.out.0 count → (values : List Data) × IsRecordingOf (grammar_of tree.root) b.input values
    of_recording tree text count e =
        let done = subst (λ i. IsDone (grammar_of tree.root) text MOST_INPUT_BYTES i a.input b.out.0 a.out.0 count) is e in
        let same = all_given bytes done.given a.input (left_of bytes done.given a.input done.taken) done.used_up in
        (done.values, record { bytes = done.given; is = is ∙ ap Some same; recording = done.recording; within = done.within })

    of_lines : (tree : Tree) → IsAccepted (grammar_of tree.root) → (count : ℕ) → IsEncoded (grammar_of tree.root) MOST_INPUT_BYTES b.input a.input (Gains b.out.0 a.out.0) count → (values : List Data) × IsLinesOf (grammar_of tree.root) b.input values
    of_lines tree ok count e =
        let done = subst (λ i. IsEncoded (grammar_of tree.root) MOST_INPUT_BYTES i a.input (Gains b.out.0 a.out.0) count) is e in
        let same = all_given bytes done.given a.input (left_of bytes done.given a.input done.taken) done.used_up in (
          done.values,
          record {
            bytes = done.given;
            ls = done.ls;
            is = is ∙ ap Some same;
            lines = done.lines;
            give = done.writes.give;
            none_refused = free (grammar_of tree.root) ok done.values done.writes.packets done.writes.are;
            within = done.within;
          },
        )

    of_stream : (request : Request) (tree : Tree) (count : ℕ) → IsAccepted (grammar_of tree.root) → StreamEnds request tree b a (Ok count) → HoldsSome request (grammar_of tree.root)
    of_stream (encode of names) tree count ok e = (of_lines tree ok count e, tt)
    of_stream (decode of names) tree count ok e = (of_recording tree (lines_text (grammar_of tree.root)) count e, tt)
    of_stream (explain of names) tree count ok e = (of_recording tree (texts (grammar_of tree.root) (packet_text tree) 1) count e, tt)
    of_stream (check names) tree count ok e = absurd e
    of_stream (bounds names) tree count ok e = absurd e
    of_stream (layout of names) tree count ok e = absurd e
    of_stream (compare old new names) tree count ok e = absurd e
    of_stream (extremes of names) tree count ok e = absurd e
    of_stream (route routes names) tree count ok e = absurd e
    of_stream (work of start count' names) tree count ok e = absurd e

    of_routes : (request : Request) (trees : List Tree) (counts : RouteCount) (g : Grammar) → Routes request trees b a (Ok counts) → HoldsSome request g
    of_routes (route routes names) trees counts g e =
        let same = all_given bytes e.given a.input (left_of bytes e.given a.input (subst (λ i. Takes i a.input e.given) is e.taken)) e.used_up in
        (([], tt), (packets_of e.lines, record { bytes = e.given; is = is ∙ ap Some same; space = e.space; within = e.within }))
    of_routes (check names) trees counts g e = absurd e
    of_routes (bounds names) trees counts g e = absurd e
    of_routes (layout of names) trees counts g e = absurd e
    of_routes (encode of names) trees counts g e = absurd e
    of_routes (decode of names) trees counts g e = absurd e
    of_routes (compare old new names) trees counts g e = absurd e
    of_routes (extremes of names) trees counts g e = absurd e
    of_routes (explain of names) trees counts g e = absurd e
    of_routes (work of start count names) trees counts g e = absurd e

    module _ (one : OneWorld) (none : FaultyFilesHaveNoWorld) (refuse : RefusedTypesHaveNoGrammars) (single : OneGrammar) (request : Request) (are : AreTold b.files (files_of request)) where
      same_grammar : (tree other : Tree) → HasGrammars b.files request (tree ∷ []) → HasGrammars b.files request (other ∷ []) → grammar_of tree.root ≡ grammar_of other.root
      same_grammar tree other has also =
          let t = one_tree one none refuse single b.files request are (tree ∷ []) has other also in
          ap (λ (x : Tree). grammar_of x.root) (same_head tree t.0 t.1) ∙ t.2

      -- a run that did the whole says that its input can be converted
      can_be : Serves b a request Done → CanBeConverted b request
      can_be (printed trees text has is' unread gains silent) =
          ((λ tree has'. (text_holds request trees text (grammar_of tree.root) b.input is').0), (text_holds request trees text some_grammar b.input is').1)
      can_be (converted tree count has c stay silent) =
          let holds = of_stream request tree count (is_accepted b.files request tree has) c.ends in
          ((λ other has'. subst (λ (g : Grammar). (values : List Data) × Holds request g b.input values) (same_grammar tree other has has') holds.0), holds.1)
      can_be (routed trees counts has e stay silent) = ((λ tree has'. (of_routes request trees counts (grammar_of tree.root) e).0), (of_routes request trees counts some_grammar e).1)

done_is_no_grammar : code_of Done ≡ code_of NoGrammar → ⊥
done_is_no_grammar e = cc

-- ---- two runs

-- a run that does the whole, or runs out of memory
whole_is : (b a : Outside) (request : Request) (code : ℕ) → DoesTheWhole b a request code → (code ≡ code_of Done) ⊎ (code ≡ code_of NoMemory)
whole_is b a request code (whole.printed trees text has is gains) = inl refl
whole_is b a request code (whole.converted tree values text has holds are gains) = inl refl
whole_is b a request code (whole.routed trees lines has are gains) = inl refl
whole_is b a request code whole.out_of_memory = inr refl

pub record Laws : Type 0 where
  pub decoded : RecordingsAreDecoded
  pub shown : RecordingsAreShown
  pub encoded : LinesAreEncoded
  pub space : OneSpace
  pub one : OneWorld
  pub none : FaultyFilesHaveNoWorld
  pub refuse : RefusedTypesHaveNoGrammars
  pub single : OneGrammar
  pub unspelled : RefusedIsNotSpelled

module _ (laws : Laws) (words : List (List ℕ)) (files : Told) (input : List ℕ) (are : (request : Request) → request_in words ≡ Some request → AreTold files (files_of request)) where
  -- a run, by its status
  record Run (b a : Outside) (status : Status) : Type 0 where
    files_are : b.files ≡ files
    input_is : b.input ≡ Some input
    ends : Ends b a words status
    sure : NothingFailed b a
    lasts : code_of status ≡ code_of NoMemory → ⊥

  module _ (b a : Outside) (status : Status) (r : Run b a status) where
    -- what is refused is refused by each run
    at_refused : (request : Request) → request_in words ≡ Some request → (line : List ℕ) → Refuses files request line → code_of status ≡ code_of NoGrammar
    at_refused request asks line why =
        by (
        refuses laws.one laws.none laws.refuse laws.single b a words words status (code_of status) refl refl r.ends request asks (subst (λ t. AreTold t (files_of request)) (sym r.files_are) (are request asks)) line
        (subst (λ t. Refuses t request line) (sym r.files_are) why)
        )
      where
        by : EndsRefused (code_of status) → code_of status ≡ code_of NoGrammar
        by (inl e) = e
        by (inr (inl e)) = absurd ((unfailed b a words status r.sure r.ends).0 e)
        by (inr (inr e)) = absurd (r.lasts e)

    -- what isn't refused, and can be converted, is done by each run
    at_whole : (request : Request) → request_in words ≡ Some request → ((line : List ℕ) → Refuses files request line → ⊥) → CanBeConverted b request → code_of status ≡ code_of Done
    at_whole request asks unrefused can =
        by (
        whole_is b a request (code_of status) (
        completes laws.decoded laws.shown laws.encoded laws.space b a words words status (code_of status) refl refl r.ends request asks (λ line why. unrefused line (subst (λ t. Refuses t request line) r.files_are why)) r.sure can
        )
        )
      where
        by : (code_of status ≡ code_of Done) ⊎ (code_of status ≡ code_of NoMemory) → code_of status ≡ code_of Done
        by (inl e) = e
        by (inr e) = absurd (r.lasts e)

    at_none : request_in words ≡ None → code_of status ≡ code_of Usage
    at_none none = by status r.ends
      where
        by : (s : Status) → Ends b a words s → code_of s ≡ code_of Usage
        by Usage (no_form is u says) = refl
        by s (served request t is serves) = absurd (cc)

  module _ (b a c d : Outside) where
    both_see : (s t : Status) → Run b a s → Run c d t → (request : Request) → CanBeConverted b request → CanBeConverted c request
    both_see s t p q request can =
        let same : b.files ≡ c.files = p.files_are ∙ sym q.files_are in
        let input_same : b.input ≡ c.input = p.input_is ∙ sym q.input_is in (
          λ tree has. subst (λ i. (values : List Data) × Holds request (grammar_of tree.root) i values) input_same (can.0 tree (subst (λ f. HasGrammars f request (tree ∷ [])) (sym same) has)),
          subst (λ i. CanBeRouted request i) input_same can.1,
        )

    -- where one did the whole, so did the other
    if_done : (t : Status) → Run b a Done → Run c d t → code_of t ≡ code_of Done
    if_done t p q = by p.ends
      where
        by_request : (request : Request) → request_in words ≡ Some request → Serves b a request Done → code_of t ≡ code_of Done
        by_request request asks serves =
            let told = subst (λ f. AreTold f (files_of request)) (sym p.files_are) (are request asks) in
            at_whole c d t q request asks (λ line why. absurd (done_is_no_grammar (at_refused b a Done p request asks line why)))
            (both_see Done t p q request (can_be laws.unspelled b a input p.input_is laws.one laws.none laws.refuse laws.single request told serves))

        by : Ends b a words Done → code_of t ≡ code_of Done
        by (served request s asks serves) = by_request request asks serves

    if_refused : (t : Status) → Run b a NoGrammar → Run c d t → code_of t ≡ code_of NoGrammar
    if_refused t p q = by p.ends
      where
        by_request : (request : Request) → request_in words ≡ Some request → Serves b a request NoGrammar → code_of t ≡ code_of NoGrammar
        by_request request asks (refused line why untouched says) = at_refused c d t q request asks line (subst (λ f. Refuses f request line) p.files_are why)

        by : Ends b a words NoGrammar → code_of t ≡ code_of NoGrammar
        by (served request s asks serves) = by_request request asks serves

    if_usage : (t : Status) → Run b a Usage → Run c d t → code_of t ≡ code_of Usage
    if_usage t p q = by p.ends
      where
        no_serving : (request : Request) → Serves b a request Usage → ⊥
        no_serving request s = elim s [ ]

        by : Ends b a words Usage → code_of t ≡ code_of Usage
        by (no_form none u says) = at_none c d t q none
        by (served request s asks serves) = absurd (no_serving request serves)

  module _ (b a c d : Outside) where
    -- by the status of the one, and where that is 3 by that of the other
    agree : (s t : Status) → Run b a s → Run c d t → code_of s ≡ code_of t
    agree Done t p q = sym (if_done b a c d t p q)
    agree Usage t p q = sym (if_usage b a c d t p q)
    agree NoGrammar t p q = sym (if_refused b a c d t p q)
    agree BadInput Done p q = if_done c d b a BadInput q p
    agree BadInput Usage p q = if_usage c d b a BadInput q p
    agree BadInput NoGrammar p q = if_refused c d b a BadInput q p
    agree BadInput BadInput p q = refl
    agree BadInput FileFailed p q = absurd ((unfailed c d words FileFailed q.sure q.ends).0 refl)
    agree BadInput InputFailed p q = absurd ((unfailed c d words InputFailed q.sure q.ends).1 refl)
    agree BadInput OutputFailed p q = absurd ((unfailed c d words OutputFailed q.sure q.ends).2 refl)
    agree BadInput NoMemory p q = absurd (q.lasts refl)
    agree FileFailed t p q = absurd ((unfailed b a words FileFailed p.sure p.ends).0 refl)
    agree InputFailed t p q = absurd ((unfailed b a words InputFailed p.sure p.ends).1 refl)
    agree OutputFailed t p q = absurd ((unfailed b a words OutputFailed p.sure p.ends).2 refl)
    agree NoMemory t p q = absurd (p.lasts refl)

  run_of : (code : ℕ) (r : Answers words files input code) → Run r.before r.after r.ends.status
  run_of code r =
      record { files_are = r.files_are; input_is = r.input_is; ends = r.ends.ends; sure = r.sure; lasts = λ e. r.lasts (r.ends.is ∙ e) }

  pub one_answer : (x y : ℕ) → Answers words files input x → Answers words files input y → x ≡ y
  one_answer x y p q = p.ends.is ∙ agree p.before p.after q.before q.after p.ends.status q.ends.status (run_of x p) (run_of y q) ∙ sym q.ends.is
