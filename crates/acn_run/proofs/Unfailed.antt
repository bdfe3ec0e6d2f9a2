-- Where no count of faults rose no device failed; and where what came in is refused no count changed.
use Rattle.std.proofs.Common.{◌≡◌, ℕ, List, inl, inr, ap, subst}
use Rattle.acn_print.specs.Printing.{Output}
use Rattle.acn_run.specs.Complete.{NothingFailed, CountsStay}
use Rattle.acn_run.specs.Exactly.{EndsInRefusal, EndsUnfailed}
use Rattle.acn_commands.specs.Outside.{Outside, IsUntouched, StreamsStay}
use Rattle.acn_commands.specs.Serves.{code_of, Serves, refused, unconverted, unrouted, unreadable, broken_off, route_broken, unwritten, cut, route_cut}
use Rattle.acn_run.specs.Run.{Ends, no_form, served}
use Rattle.acn_commands.specs.Steps.{FilesStay}
use Rattle.acn_commands.specs.declared.status.Status.{Status}
use Rattle.acn_commands.specs.declared.status.Status.TheVariants.{Done, Usage, NoGrammar, BadInput, FileFailed, InputFailed, OutputFailed, NoMemory}
use Rattle.acn_words.specs.Requests.{Request}

module _ (b a : Outside) (sure : NothingFailed b a) (request : Request) where
  by_status : (status : Status) → Serves b a request status → EndsUnfailed (code_of status)
  by_status Done s = (λ e. cc, λ e. cc, λ e. cc)
  by_status NoGrammar s = (λ e. cc, λ e. cc, λ e. cc)
  by_status BadInput s = (λ e. cc, λ e. cc, λ e. cc)
  by_status FileFailed (unreadable k name is rose untouched says) = absurd (sure.files name rose)
  by_status InputFailed (broken_off tree has c rose says) = absurd (sure.input rose)
  by_status InputFailed (route_broken trees has e rose says) = absurd (sure.input rose)
  by_status OutputFailed (unwritten trees text has is unread gains rose says) = absurd (sure.out rose)
  by_status OutputFailed (cut tree has c rose says) = absurd (sure.out rose)
  by_status OutputFailed (route_cut trees has e rose says) = absurd (sure.out rose)
  by_status NoMemory s = (λ e. cc, λ e. cc, λ e. cc)
  by_status Usage s = elim s [ ]

pub unfailed : (b a : Outside) (words : List (List ℕ)) (status : Status) → NothingFailed b a → Ends b a words status → EndsUnfailed (code_of status)
unfailed b a words Usage sure (no_form none untouched says) = (λ e. cc, λ e. cc, λ e. cc)
unfailed b a words status sure (served request s is serves) = by_status b a sure request status serves

module _ (b a : Outside) where
  -- what wasn't touched didn't fail
  of_untouched : IsUntouched b a → StreamsStay b a
  of_untouched u = record { input = u.unread.faults; out = ap (λ (o : Output). o.1) u.out }

  of_refused : (request : Request) → Serves b a request NoGrammar → StreamsStay b a
  of_refused request (refused line why untouched says) = of_untouched untouched

  of_bad : (request : Request) → Serves b a request BadInput → StreamsStay b a
  of_bad request (unconverted tree fault has of c stay says) = stay
  of_bad request (unrouted trees fault has of e stay says) = stay

  -- neither of the two numbers
  neither : (code : ℕ) → (code ≡ 2 → ⊥) → (code ≡ 3 → ⊥) → EndsInRefusal code → ⊥
  neither code a b (inl e) = a e
  neither code a b (inr e) = b e

  in_refusal : (words : List (List ℕ)) (status : Status) → Ends b a words status → EndsInRefusal (code_of status) → StreamsStay b a
  in_refusal words NoGrammar (served request s is serves) h = of_refused request serves
  in_refusal words BadInput (served request s is serves) h = of_bad request serves
  in_refusal words Done ends h = absurd (neither 0 (λ e. cc) (λ e. cc) h)
  in_refusal words Usage ends h = absurd (neither 1 (λ e. cc) (λ e. cc) h)
  in_refusal words FileFailed ends h = absurd (neither 4 (λ e. cc) (λ e. cc) h)
  in_refusal words InputFailed ends h = absurd (neither 5 (λ e. cc) (λ e. cc) h)
  in_refusal words OutputFailed ends h = absurd (neither 6 (λ e. cc) (λ e. cc) h)
  in_refusal words NoMemory ends h = absurd (neither 7 (λ e. cc) (λ e. cc) h)

  pub quiet : (words : List (List ℕ)) (status : Status) → FilesStay b.file_faults a.file_faults status → Ends b a words status → EndsInRefusal (code_of status) → CountsStay b a
  quiet words status files ends h = record {
    files = files (λ e. neither 4 (λ k. cc) (λ k. cc) (subst EndsInRefusal (ap code_of e) h));
    streams = in_refusal words status ends h;
  }
