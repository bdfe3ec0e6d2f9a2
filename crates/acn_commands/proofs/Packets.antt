-- From how routing ended to how the request is served.
use Rattle.std.proofs.Common.{◌≡◌, ℕ, suc, List, [], ◌∷◌, length, map, Option, Some, None, refl, sym, ap, ◌∙◌, subst}
use Rattle.std.specs.Prelude.{Result, Ok, Err, IsErrOf}
use Rattle.acn_files.specs.Contents.{Told}
use Rattle.std.proofs.lemmas.List.{length-map}
use Rattle.std.specs.List.{AllByRecursion}
use Rattle.acn_check.specs.declared.checked.Checked.{Checked}
use Rattle.acn_front.specs.Grammars.{AreGrammarsOf}
use Rattle.acn_grammar.specs.ItemsNamed.{ItemsNamed}
use Rattle.acn_grammar.specs.View.{grammar_of}
use Rattle.acn_index.specs.Lookup.{type_in}
use Rattle.acn_index.specs.World.{World}
use Rattle.acn_index.specs.declared.sources.TypeId.{TypeId}
use Rattle.acn_outside.specs.Counts.{Rose, Stays}
use Rattle.acn_print.specs.Printing.{Output}
use Rattle.acn_route.specs.Routing.{RouteEnds}
use Rattle.acn_route.specs.declared.count.RouteCount.{RouteCount}
use Rattle.acn_route.specs.declared.route_fault.RouteFault.{RouteFault}
use Rattle.acn_route.specs.declared.route_fault.RouteFault.TheVariants as routing
use Rattle.acn_tree.specs.declared.tree.Tree.{Tree}
use Rattle.acn_words.specs.Names.{TypeName}
use Rattle.acn_words.specs.Requests.{Request, route}
use Rattle.acn_words.specs.Routes.{Route}
use Rattle.acn_commands.specs.Asked.{HasGrammars, IsWorldOfNames, types_named, with_type}
use Rattle.acn_commands.specs.Outside.{Outside, seen, Says, StreamsStay}
use Rattle.acn_commands.specs.Routed.{listed_by}
use Rattle.acn_commands.specs.Serves.{Serves, routed, unrouted, route_broken, route_cut, route_halted, stopped}
use Rattle.acn_commands.specs.Steps.{Answers, AnswersStream, EndsRoutes, unready, begun, TellsRoutes, RoutesFailedSo}
use Rattle.acn_commands.specs.declared.status.Status.{Status}
use Rattle.acn_commands.specs.declared.streams.TheConstants.{MOST_INPUT_BYTES}
use Rattle.acn_commands.proofs.Serving.{grammars_are}

pub routes_failed_so : (r : Result RouteCount RouteFault) (n n' m m' : ℕ) → (IsErrOf r routing.InputFault → Rose n n') → (IsErrOf r routing.OutputFault → Rose m m') → ((IsErrOf r routing.InputFault → ⊥) → Stays n n')
    → ((IsErrOf r routing.OutputFault → ⊥) → Stays m m') → RoutesFailedSo r n n' m m'
routes_failed_so (Ok counts) n n' m m' i o p q = (p (λ e. cc), q (λ e. cc))
routes_failed_so (Err (routing.Cut number left)) n n' m m' i o p q = (p (λ e. cc), q (λ e. cc))
routes_failed_so (Err routing.InputTooLong) n n' m m' i o p q = (p (λ e. cc), q (λ e. cc))
routes_failed_so (Err routing.InputFault) n n' m m' i o p q = i refl
routes_failed_so (Err routing.OutputFault) n n' m m' i o p q = o refl
routes_failed_so (Err routing.NoMemory) n n' m m' i o p q = (p (λ e. cc), q (λ e. cc))

-- Checked trees of the types that routes name.

named_count : (w : World) (names : List TypeName) (types : List TypeId) → types_named w names ≡ Some types → length types ≡ length names
named_count w [] types e = by types e
  where
    by : (types : List TypeId) → Some [] ≡ Some types → length types ≡ 0
    by [] e = refl
    by (t ∷ types) e = cc
named_count w (of ∷ names) types e = by (type_in w of.module_name of.name) (types_named w names) (λ us h. named_count w names us h) types e
  where
    by : (x : Option TypeId) (y : Option (List TypeId)) → ((us : List TypeId) → y ≡ Some us → length us ≡ length names) → (ts : List TypeId) → with_type x y ≡ Some ts → length ts ≡ suc (length names)
    by (Some t) (Some us) more ts e = ap length (sym (some_is e)) ∙ ap suc (more us refl)
      where
        some_is : Some (t ∷ us) ≡ Some ts → (t ∷ us) ≡ ts
        some_is h = cc
    by (Some t) None more ts e = absurd cc
    by None (Some us) more ts e = absurd cc
    by None None more ts e = absurd cc

as_many : (w : World) (types : List TypeId) (trees : List Tree) → AreGrammarsOf w types trees → length trees ≡ length types
as_many w [] [] all = refl
as_many w [] (t ∷ trees) all = absurd all
as_many w (x ∷ types) [] all = absurd all
as_many w (x ∷ types) (t ∷ trees) all = ap suc (as_many w types trees all.1)

pub as_many_checked : {A : Type 0} (w : World) (routes : List Route) (words : List A) (all : List Checked) → length routes ≡ length words → Answers w (Some (map (λ r. r.of) routes)) (map (λ c. c.tree) all) → length all ≡ length words
as_many_checked w routes words all same h =
    sym (length-map all (λ (c : Checked). c.tree)) ∙ (as_many w h.types (map (λ (c : Checked). c.tree) all) h.grammars ∙ (named_count w (map (λ (r : Route). r.of) routes) h.types h.question ∙ (length-map routes (λ (r : Route). r.of) ∙ same)))

-- and their items have numbers of 32 bits
pub all_named : (w : World) (all : List Checked) (types : List TypeId) → AreGrammarsOf w types (map (λ c. c.tree) all) → AllByRecursion (λ c. ItemsNamed (grammar_of c.tree.root)) all
all_named w [] types h = tt
all_named w (c ∷ all) [] h = absurd h
all_named w (c ∷ all) (t ∷ types) h = (h.0.made.items, all_named w all types h.1)

module _ (routes : List Route) (names : List (List ℕ)) (w : World) (trees : List Tree) (answers : Answers w (Some (map (λ r. r.of) routes)) trees) where
  abbrev asked : Request
  asked = route routes names

  module _ (i i' : Option (List ℕ)) (n n' : ℕ) (o o' err err1 err' : Output) (same : err1 ≡ err) (told : Told) (faults faults' : List ℕ → ℕ) (read : IsWorldOfNames told names w) where
    abbrev before : Outside
    before = seen told faults i n o err

    abbrev after : Outside
    after = seen told faults' i' n' o' err'

    has : HasGrammars told asked trees
    has = grammars_are told asked w (Some (map (λ r. r.of) routes)) trees read refl answers

    said : (line : List ℕ) → Says line err1 err' → Says line err err'
    said line h = subst (λ (x : Output). Says line x err') same h

    stay : Stays n n' × Stays o.1 o'.1 → StreamsStay before after
    stay s = record { input = s.0; out = s.1 }

    by_result : (result : Result RouteCount RouteFault) (status : Status) → RouteEnds (listed_by routes trees) MOST_INPUT_BYTES i i' o.0 o'.0 result → TellsRoutes result err1 err' status → RoutesFailedSo result n n' o.1 o'.1
        → Serves before after asked status
    by_result (Ok counts) status e t f = rw t.0 (routed trees counts has e (stay f) (t.1 ∙ same))
    by_result (Err (routing.Cut number left)) status e t f = rw t.0 (unrouted trees (routing.Cut number left) has refl e (stay f) (said _ t.1))
    by_result (Err routing.InputTooLong) status e t f = rw t.0 (unrouted trees routing.InputTooLong has refl e (stay f) (said _ t.1))
    by_result (Err routing.InputFault) status e t f = rw t.0 (route_broken trees has e f (said _ t.1))
    by_result (Err routing.OutputFault) status e t f = rw t.0 (route_cut trees has e f (said _ t.1))
    by_result (Err routing.NoMemory) status e t f = rw t.0 (route_halted trees has e (stay f) (said _ t.1))

    by_routes : (status : Status) → EndsRoutes (listed_by routes trees) i i' n n' o o' err1 err' status → Serves before after asked status
    by_routes status (unready input faults_are out says) = stopped (record { unread = record { input = input; faults = faults_are }; out = out }) (said _ says)
    by_routes status (begun result s e t f) = by_result result s e t f

  pub routes_serve : (i i' : Option (List ℕ)) (n n' : ℕ) (o o' err err1 err' : Output) (status : Status) → err1 ≡ err → EndsRoutes (listed_by routes trees) i i' n n' o o' err1 err' status → AnswersStream asked w i i' n n' o o' err err' status
  routes_serve i i' n n' o o' err err1 err' status same e told faults faults' read = by_routes i i' n n' o o' err err1 err' same told faults faults' read status e
