-- That a run of which a line is refused ends there, from how it ends and the law of such lines.
use Rattle.std.proofs.Common.{◌≡◌, ℕ, ◌+◌, ◌<◌, List, [], ◌∷◌, length, Some, refl, sym, ap, subst, ◌∙◌}
use Rattle.std.specs.Prelude.{Result, Ok, Err, IsErrOf, IsTrue}
use Rattle.acn_grammar.specs.Interval.{span}
use Rattle.acn_grammar.specs.View.{grammar_of}
use Rattle.acn_packet_laws.specs.Laws.{IsAccepted}
use Rattle.acn_route.specs.declared.count.RouteCount.{RouteCount}
use Rattle.acn_route.specs.declared.route_fault.RouteFault.{RouteFault}
use Rattle.acn_stream.specs.Encoding.{EncodeEnds}
use Rattle.acn_stream.specs.declared.stream_fault.StreamFault.{StreamFault}
use Rattle.acn_stream.specs.declared.stream_fault.StreamFault.TheVariants as stream
use Rattle.acn_stream_laws.specs.Laws.{RefusesLine, RefusedLinesAreNamed}
use Rattle.acn_tree.specs.declared.tree.Tree.{Tree}
use Rattle.acn_words.specs.Requests.{Request, check, bounds, layout, encode, decode, compare, extremes, route, explain, work, request_in}
use Rattle.acn_commands.specs.Asked.{HasGrammars}
use Rattle.acn_run.specs.Complete.{IsUnrefused, NothingFailed}
use Rattle.acn_commands.specs.Outside.{Outside}
use Rattle.acn_commands.specs.Serves.{code_of, IsText, Routes, StreamEnds, Serves, printed, converted, routed, refused, unconverted, unrouted, unreadable, broken_off, route_broken, unwritten, cut, route_cut, stopped, halted, route_halted}
use Rattle.acn_run.specs.Run.{Ends, no_form, served}
use Rattle.acn_run.specs.Stuck.{reads_lines, IsRefusedInput, EndsAtALine, at_line, line_out_of_memory, IsRefusedRun}
use Rattle.acn_commands.specs.declared.status.Status.{Status}
use Rattle.acn_commands.specs.declared.status.Status.TheVariants.{Done, Usage, NoGrammar, BadInput, FileFailed, InputFailed, OutputFailed, NoMemory}
use Rattle.acn_commands.specs.declared.streams.TheConstants.{MOST_INPUT_BYTES}
use Rattle.acn_run.proofs.Ended.{is_accepted}
use Rattle.acn_run.proofs.Stopping.{is_no_empty}

no_text : (request : Request) (trees : List Tree) (text : List ℕ) → IsTrue (reads_lines request) → IsText request trees text → ⊥
no_text (encode of names) trees text reads is = absurd is
no_text (decode of names) trees text reads is = cc
no_text (explain of names) trees text reads is = cc
no_text (check names) trees text reads is = cc
no_text (bounds names) trees text reads is = cc
no_text (layout of names) trees text reads is = cc
no_text (compare old new names) trees text reads is = cc
no_text (extremes of names) trees text reads is = cc
no_text (route routes names) trees text reads is = cc
no_text (work of start count names) trees text reads is = cc

module _ (b a : Outside) where
  no_routes : (request : Request) (trees : List Tree) (result : Result RouteCount RouteFault) → IsTrue (reads_lines request) → Routes request trees b a result → ⊥
  no_routes (encode of names) trees result reads e = absurd e
  no_routes (decode of names) trees result reads e = cc
  no_routes (explain of names) trees result reads e = cc
  no_routes (check names) trees result reads e = cc
  no_routes (bounds names) trees result reads e = cc
  no_routes (layout of names) trees result reads e = cc
  no_routes (compare old new names) trees result reads e = cc
  no_routes (extremes of names) trees result reads e = cc
  no_routes (route routes names) trees result reads e = cc
  no_routes (work of start count names) trees result reads e = cc

  module _ (law : RefusedLinesAreNamed) (tree : Tree) (ok : IsAccepted (grammar_of tree.root)) (some : 0 < (span (grammar_of tree.root)).least) (input : IsRefusedInput b tree) where
    stops : (request : Request) (result : Result ℕ StreamFault) → IsTrue (reads_lines request) → StreamEnds request tree b a result → (IsErrOf result stream.EmptyPacket → (span (grammar_of tree.root)).least ≡ 0) → RefusesLine (length input.ls + 1) input.why result
    stops (encode of names) result reads e empty =
        law (grammar_of tree.root) MOST_INPUT_BYTES input.ls input.bytes input.why a.input b.out.0 a.out.0 result ok some input.refused input.within
        (subst (λ i. EncodeEnds (grammar_of tree.root) MOST_INPUT_BYTES i a.input b.out.0 a.out.0 result) input.is e) empty
    stops (decode of names) result reads e empty = cc
    stops (explain of names) result reads e empty = cc
    stops (check names) result reads e empty = cc
    stops (bounds names) result reads e empty = cc
    stops (layout of names) result reads e empty = cc
    stops (compare old new names) result reads e empty = cc
    stops (extremes of names) result reads e empty = cc
    stops (route routes names) result reads e empty = cc
    stops (work of start count names) result reads e empty = cc

module _ (law : RefusedLinesAreNamed) (b a : Outside) (request : Request) (reads : IsTrue (reads_lines request)) (unrefused : IsUnrefused b.files request) (sure : NothingFailed b a)
    (bad : (tree : Tree) → HasGrammars b.files request (tree ∷ []) → IsRefusedInput b tree) where
  by_status : (status : Status) → Serves b a request status → EndsAtALine b a request (code_of status)
  by_status Done (printed trees text has is unread gains silent) = absurd (no_text request trees text reads is)
  by_status Done (converted tree count has c stay silent) = absurd (stops b a law tree (is_accepted b.files request tree has) c.some (bad tree has) request (Ok count) reads c.ends (λ e. cc))
  by_status Done (routed trees counts has e stay silent) = absurd (no_routes b a request trees (Ok counts) reads e)
  by_status NoGrammar (refused line why untouched said) = absurd (unrefused line why)
  by_status BadInput (unconverted tree fault has of c stay said) =
      at_line tree (bad tree has) fault has of (stops b a law tree (is_accepted b.files request tree has) c.some (bad tree has) request (Err fault) reads c.ends (λ e. absurd (is_no_empty fault of (Err fault) refl e))) said
  by_status BadInput (unrouted trees fault has of e stay said) = absurd (no_routes b a request trees (Err fault) reads e)
  by_status FileFailed (unreadable k name is rose untouched said) = absurd (sure.files name rose)
  by_status InputFailed (broken_off tree has c rose said) = absurd (sure.input rose)
  by_status InputFailed (route_broken trees has e rose said) = absurd (sure.input rose)
  by_status OutputFailed (unwritten trees text has is unread gains rose said) = absurd (sure.out rose)
  by_status OutputFailed (cut tree has c rose said) = absurd (sure.out rose)
  by_status OutputFailed (route_cut trees has e rose said) = absurd (sure.out rose)
  by_status NoMemory (stopped untouched said) = line_out_of_memory
  by_status NoMemory (halted tree has c stay said) = line_out_of_memory
  by_status NoMemory (route_halted trees has e stay said) = line_out_of_memory
  by_status Usage s = elim s [ ]

module _ (law : RefusedLinesAreNamed) (b a : Outside) (words : List (List ℕ)) where
  by_end : (request : Request) → request_in words ≡ Some request → (status : Status) → Ends b a words status → IsRefusedRun b a request (code_of status)
  by_end request is status (no_form none untouched said) = absurd (cc)
  by_end request is status (served other s was serves) =
      λ reads unrefused sure bad. by_status law b a request reads unrefused sure bad status (subst (λ r. Serves b a r status) (one_request other request was is) serves)
    where
      one_request : (x y : Request) → request_in words ≡ Some x → request_in words ≡ Some y → x ≡ y
      one_request x y e f = cc

  -- a run that ends so ends at the line that is refused
  pub names_it : (words' : List (List ℕ)) (status : Status) (code : ℕ) → words ≡ words' → code ≡ code_of status → Ends b a words status → (request : Request) → request_in words' ≡ Some request → IsRefusedRun b a request code
  names_it words' status code same is ends request asks = subst (λ n. IsRefusedRun b a request n) (sym is) (by_end request (ap request_in same ∙ asks) status ends)
