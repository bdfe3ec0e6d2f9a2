-- That a run does the whole where nothing is refused and nothing fails, from how it ends and the laws of streams.
use Rattle.std.proofs.Common.{◌≡◌, ℕ, ◌<◌, true, List, [], ◌∷◌, ◌++◌, length, Option, Some, refl, sym, ap, subst, arith, ◌∙◌, append-nil}
use Rattle.std.specs.Prelude.{Result, Ok, Err, IsErrOf}
use Rattle.acn_explain.specs.Explaining.{ExplainEnds}
use Rattle.acn_explain.specs.Texts.{packet_text}
use Rattle.acn_grammar.specs.Grammar.{Grammar, Data}
use Rattle.acn_grammar.specs.Interval.{span}
use Rattle.acn_grammar.specs.View.{grammar_of}
use Rattle.acn_outside.specs.Moves.{Takes, Gains, IsUsedUp}
use Rattle.acn_packet_laws.specs.Laws.{IsAccepted}
use Rattle.acn_route.specs.Laws.{OneSpace}
use Rattle.acn_route.specs.Listed.{Listed}
use Rattle.acn_route.specs.Routing.{Line, RouteEnds, packets_of, text_of}
use Rattle.acn_route.specs.Space.{Begun, IsUnfinished, Space}
use Rattle.acn_route.specs.declared.count.RouteCount.{RouteCount}
use Rattle.acn_route.specs.declared.route_fault.RouteFault.{RouteFault}
use Rattle.acn_route.specs.declared.route_fault.RouteFault.TheVariants as routing
use Rattle.acn_stream.specs.Decoding.{DecodeEnds}
use Rattle.acn_stream.specs.Encoding.{EncodeEnds}
use Rattle.acn_stream.specs.Recording.{Text, lines, texts}
use Rattle.acn_stream.specs.declared.stream_fault.StreamFault.{StreamFault}
use Rattle.acn_stream.specs.declared.stream_fault.StreamFault.TheVariants as stream
use Rattle.acn_stream_laws.specs.Laws.{RecordingsAreDecoded, RecordingsAreShown, LinesAreEncoded, NoRefusal, NoShowRefusal}
use Rattle.acn_stream_laws.proofs.Gaining.{all_given, left_of, not_past}
use Rattle.acn_tree.specs.declared.tree.Tree.{Tree}
use Rattle.acn_words.specs.Names.{TypeName}
use Rattle.acn_words.specs.Routes.{Route}
use Rattle.acn_words.specs.Requests.{Request, check, bounds, layout, encode, decode, compare, extremes, route, explain, work, request_in}
use Rattle.acn_commands.specs.Asked.{HasGrammars}
use Rattle.acn_run.specs.Complete as complete
use Rattle.acn_run.specs.Complete.{NothingFailed, IsUnrefused, Holds, AreConverted, AreRouted, AreSpacePackets, CanBeConverted, CanBeRouted, DoesTheWhole, IsComplete}
use Rattle.acn_commands.specs.Outside.{Outside}
use Rattle.acn_commands.specs.Routed.{is_of_packets, listed_by}
use Rattle.acn_commands.specs.Serves.{code_of, is_of_input, Converts, StreamEnds, Routes, Serves, printed, converted, routed, refused, unconverted, unrouted, unreadable, broken_off, route_broken, unwritten, cut, route_cut, stopped, halted, route_halted}
use Rattle.acn_run.specs.Run.{Ends, no_form, served}
use Rattle.acn_commands.specs.declared.status.Status.{Status}
use Rattle.acn_commands.specs.declared.status.Status.TheVariants.{Done, Usage, NoGrammar, BadInput, FileFailed, InputFailed, OutputFailed, NoMemory}
use Rattle.acn_commands.specs.declared.streams.TheConstants.{MOST_INPUT_BYTES}
use Rattle.acn_run.proofs.Ended.{is_accepted}

ok_is_no_fault : (count : ℕ) (fault : StreamFault) → Ok count ≡ Err fault → ⊥
ok_is_no_fault count fault e = cc

is_no_empty : (fault : StreamFault) → is_of_input fault ≡ true → (result : Result ℕ StreamFault) → result ≡ Err fault → result ≡ Err stream.EmptyPacket → ⊥
is_no_empty fault of result is e = cc

-- of a fault of the input it is said that something is refused
says_refused : (o o' : Option (List ℕ)) (bytes : List ℕ) (packets : ℕ) (fault : StreamFault) → is_of_input fault ≡ true → NoRefusal o o' bytes packets (Err fault) → ⊥
says_refused o o' bytes packets (stream.LineTooLong k) of n = n
says_refused o o' bytes packets stream.InputTooLong of n = n
says_refused o o' bytes packets stream.EmptyPacket of n = n
says_refused o o' bytes packets (stream.Packet k fault) of n = n
says_refused o o' bytes packets (stream.BadLine k fault) of n = n
says_refused o o' bytes packets (stream.Unfit k fault) of n = n
says_refused o o' bytes packets stream.InputFault of n = cc
says_refused o o' bytes packets stream.OutputFault of n = cc
says_refused o o' bytes packets stream.NoMemory of n = cc

-- nor is it said that something is refused where packets are shown
shown_refused : (g : Grammar) (text : Text g) (values : List Data) (bytes : List ℕ) (o o' : Option (List ℕ)) (fault : StreamFault) → is_of_input fault ≡ true → NoShowRefusal g text values bytes o o' (Err fault) → ⊥
shown_refused g text values bytes o o' (stream.LineTooLong k) of n = n
shown_refused g text values bytes o o' stream.InputTooLong of n = n
shown_refused g text values bytes o o' stream.EmptyPacket of n = n
shown_refused g text values bytes o o' (stream.Packet k fault) of n = n
shown_refused g text values bytes o o' (stream.BadLine k fault) of n = n
shown_refused g text values bytes o o' (stream.Unfit k fault) of n = n
shown_refused g text values bytes o o' stream.InputFault of n = cc
shown_refused g text values bytes o o' stream.OutputFault of n = cc
shown_refused g text values bytes o o' stream.NoMemory of n = cc

-- the laws of streams
record Laws : Type 0 where
  decoded : RecordingsAreDecoded
  shown : RecordingsAreShown
  encoded : LinesAreEncoded
  space : OneSpace

module _ (b a : Outside) (tree : Tree) where
  abbrev g : Grammar
  g = grammar_of tree.root

  -- how the stream of an input ended that holds values
  abbrev Whole : Request → List Data → Result ℕ StreamFault → Type 0
  Whole request values (Ok count) = (text : List ℕ) × AreConverted request tree b.input values text × Gains b.out.0 a.out.0 text
  Whole request values (Err fault) = is_of_input fault ≡ true → ⊥

  of_bytes : (request : Request) (values : List Data) (text : List ℕ) → AreConverted request tree b.input values text → (result : Result ℕ StreamFault) → NoRefusal b.out.0 a.out.0 text (length values) result → Whole request values result
  of_bytes request values text are (Ok count) n = (text, are, n.1)
  of_bytes request values text are (Err fault) n = λ of. says_refused b.out.0 a.out.0 text (length values) fault of n

  of_pieces : (of : TypeName) (names : List (List ℕ)) (values : List Data) (bytes : List ℕ) → b.input ≡ Some bytes → (result : Result ℕ StreamFault) → NoShowRefusal g (texts g (packet_text tree) 1) values bytes b.out.0 a.out.0 result
      → Whole (explain of names) values result
  of_pieces of names values bytes is (Ok count) n = (texts g (packet_text tree) 1 values bytes n.1, record { bytes = bytes; is = is; recording = n.1; text_is = refl }, n.2)
  of_pieces of names values bytes is (Err fault) n = λ e. shown_refused g (texts g (packet_text tree) 1) values bytes b.out.0 a.out.0 fault e n

  module _ (laws : Laws) (ok : IsAccepted (grammar_of tree.root)) (bits : 0 < (span (grammar_of tree.root)).least) where
    not_refused : (request : Request) (values : List Data) (result : Result ℕ StreamFault) → Holds request g b.input values → StreamEnds request tree b a result → (IsErrOf result stream.EmptyPacket → (span g).least ≡ 0) → Whole request values result
    not_refused (encode of names) values result h c empty =
        let w = laws.encoded g MOST_INPUT_BYTES h.ls values h.bytes a.input b.out.0 a.out.0 result ok bits h.lines h.give h.none_refused h.within (subst (λ i. EncodeEnds g MOST_INPUT_BYTES i a.input b.out.0 a.out.0 result) h.is c) empty in
        of_bytes (encode of names) values w.packets w.are result w.ends
    not_refused (decode of names) values result h c empty =
        of_bytes (decode of names) values (lines g values) refl result
        (laws.decoded g MOST_INPUT_BYTES values h.bytes a.input b.out.0 a.out.0 result ok bits h.recording h.within (subst (λ i. DecodeEnds g MOST_INPUT_BYTES i a.input b.out.0 a.out.0 result) h.is c) empty)
    not_refused (explain of names) values result h c empty =
        of_pieces of names values h.bytes h.is result
        (laws.shown g (texts g (packet_text tree) 1) MOST_INPUT_BYTES values h.bytes a.input b.out.0 a.out.0 result ok bits h.recording h.within (subst (λ i. ExplainEnds tree MOST_INPUT_BYTES i a.input b.out.0 a.out.0 result) h.is c) empty)
    not_refused (check names) values result h c empty = absurd c
    not_refused (bounds names) values result h c empty = absurd c
    not_refused (layout of names) values result h c empty = absurd c
    not_refused (compare old new names) values result h c empty = absurd c
    not_refused (extremes of names) values result h c empty = absurd c
    not_refused (route routes names) values result h c empty = absurd c
    not_refused (work of start count names) values result h c empty = absurd c

-- Space packets.

unfinished_none : IsUnfinished []
unfinished_none n e = absurd cc

module _ (laws : Laws) (b a : Outside) where
  -- how routing of an input ended that is space packets
  abbrev RoutedWhole : Request → List Tree → Result RouteCount RouteFault → Type 0
  RoutedWhole request trees (Ok counts) = (ls : List Line) × AreRouted request trees b.input ls × Gains b.out.0 a.out.0 (text_of ls)
  RoutedWhole request trees (Err fault) = is_of_packets fault ≡ true → ⊥

  module _ (routes : List Route) (names : List (List ℕ)) (trees : List Tree) (packets : List (List ℕ)) (h : AreSpacePackets b.input packets) where
    abbrev listed : List Listed
    listed = listed_by routes trees

    all_came : (given : List ℕ) → Takes b.input a.input given → IsUsedUp a.input → h.bytes ≡ given
    all_came given t used = all_given h.bytes given a.input (left_of h.bytes given a.input (subst (λ i. Takes i a.input given) h.is t)) used

    none_cut : (given : List ℕ) (others : List (List ℕ)) (rest : List ℕ) → h.bytes ≡ given → Begun given others rest → IsUnfinished rest → 0 < length rest → ⊥
    none_cut given others rest same begun unfinished some =
        let whole : Begun given packets [] = record { front = given; whole = sym (append-nil given); space = subst (λ bytes. Space bytes packets) same h.space } in
        omega (arith, some, ap length (laws.space given rest [] others packets begun unfinished whole unfinished_none).1)

    by_result : (result : Result RouteCount RouteFault) → RouteEnds listed MOST_INPUT_BYTES b.input a.input b.out.0 a.out.0 result → RoutedWhole (route routes names) trees result
    by_result (Ok counts) e =
        let same = all_came e.given e.taken e.used_up in (
          e.lines,
          record {
            routes = routes;
            names = names;
            is = refl;
            each = e.each;
            packets = record { bytes = h.bytes; is = h.is; space = subst (λ bytes. Space bytes (packets_of e.lines)) (sym same) e.space; within = h.within };
          },
          e.written,
        )
    by_result (Err (routing.Cut number left)) e = λ of. none_cut e.given (packets_of e.lines) e.rest (all_came e.given e.taken e.used_up) (e.routed).begun e.unfinished e.some
    by_result (Err routing.InputTooLong) e = λ of. not_past h.bytes e.given e.byte MOST_INPUT_BYTES a.input (subst (λ i. Takes i a.input (e.given ++ e.byte ∷ [])) h.is e.taken) e.full h.within
    by_result (Err routing.InputFault) e = λ of. cc
    by_result (Err routing.OutputFault) e = λ of. cc
    by_result (Err routing.NoMemory) e = λ of. cc

  not_misrouted : (request : Request) (trees : List Tree) (result : Result RouteCount RouteFault) → CanBeRouted request b.input → Routes request trees b a result → RoutedWhole request trees result
  not_misrouted (route routes names) trees result can e = by_result routes names trees can.0 can.1 result e
  not_misrouted (check names) trees result can e = absurd e
  not_misrouted (bounds names) trees result can e = absurd e
  not_misrouted (layout of names) trees result can e = absurd e
  not_misrouted (encode of names) trees result can e = absurd e
  not_misrouted (decode of names) trees result can e = absurd e
  not_misrouted (compare old new names) trees result can e = absurd e
  not_misrouted (extremes of names) trees result can e = absurd e
  not_misrouted (explain of names) trees result can e = absurd e
  not_misrouted (work of start count names) trees result can e = absurd e

module _ (laws : Laws) (b a : Outside) (request : Request) (unrefused : IsUnrefused b.files request) (sure : NothingFailed b a) (can : CanBeConverted b request) where
  ended : (tree : Tree) → HasGrammars b.files request (tree ∷ []) → (result : Result ℕ StreamFault) → Converts request tree b a result → (IsErrOf result stream.EmptyPacket → ⊥)
      → (values : List Data) × Holds request (grammar_of tree.root) b.input values × Whole b a tree request values result
  ended tree has result c begun =
      let held = can.0 tree has in
      (held.0, held.1, not_refused b a tree laws (is_accepted b.files request tree has) c.some request held.0 result held.1 c.ends (λ e. absurd (begun e)))

  whole : (status : Status) → Serves b a request status → DoesTheWhole b a request (code_of status)
  whole Done (printed trees text has is unread gains silent) = complete.printed trees text has is gains
  whole Done (converted tree count has c stay silent) =
      let e = ended tree has (Ok count) c (λ x. ok_is_no_fault count stream.EmptyPacket x) in
      complete.converted tree e.0 e.2.0 has e.1 e.2.1 e.2.2
  whole Done (routed trees counts has e stay silent) =
      let r = not_misrouted laws b a request trees (Ok counts) can.1 e in
      complete.routed trees r.0 has r.1 r.2
  whole NoGrammar (refused line why untouched says) = absurd (unrefused line why)
  whole BadInput (unconverted tree fault has of c stay says) =
      let e = ended tree has (Err fault) c (λ x. is_no_empty fault of (Err fault) refl x) in
      absurd (e.2 of)
  whole BadInput (unrouted trees fault has of e stay says) = absurd (not_misrouted laws b a request trees (Err fault) can.1 e of)
  whole FileFailed (unreadable k name is rose untouched says) = absurd (sure.files name rose)
  whole InputFailed (broken_off tree has c rose says) = absurd (sure.input rose)
  whole InputFailed (route_broken trees has e rose says) = absurd (sure.input rose)
  whole OutputFailed (unwritten trees text has is unread gains rose says) = absurd (sure.out rose)
  whole OutputFailed (cut tree has c rose says) = absurd (sure.out rose)
  whole OutputFailed (route_cut trees has e rose says) = absurd (sure.out rose)
  whole NoMemory (stopped untouched says) = complete.out_of_memory
  whole NoMemory (halted tree has c stay says) = complete.out_of_memory
  whole NoMemory (route_halted trees has e stay says) = complete.out_of_memory
  whole Usage s = elim s [ ]

module _ (laws : Laws) (b a : Outside) (words : List (List ℕ)) where
  by_end : (request : Request) → request_in words ≡ Some request → (status : Status) → Ends b a words status → IsComplete b a request (code_of status)
  by_end request is status (no_form none untouched says) = absurd (cc)
  by_end request is status (served other s was serves) = λ unrefused sure can. whole laws b a request unrefused sure can status (subst (λ r. Serves b a r status) (one_request other request was is) serves)
    where
      one_request : (x y : Request) → request_in words ≡ Some x → request_in words ≡ Some y → x ≡ y
      one_request x y e f = cc

  completes_by : (words' : List (List ℕ)) (status : Status) (code : ℕ) → words ≡ words' → code ≡ code_of status → Ends b a words status → (request : Request) → request_in words' ≡ Some request → IsComplete b a request code
  completes_by words' status code same is ends request asks = subst (λ n. IsComplete b a request n) (sym is) (by_end request (ap request_in same ∙ asks) status ends)

-- a run that ends so is complete, by what is known of its words and its number
pub completes : RecordingsAreDecoded → RecordingsAreShown → LinesAreEncoded → OneSpace → (b a : Outside) (words words' : List (List ℕ)) (status : Status) (code : ℕ) → words ≡ words' → code ≡ code_of status → Ends b a words status
    → (request : Request) → request_in words' ≡ Some request → IsComplete b a request code
completes decoded shown encoded space b a = completes_by (record { decoded = decoded; shown = shown; encoded = encoded; space = space }) b a
