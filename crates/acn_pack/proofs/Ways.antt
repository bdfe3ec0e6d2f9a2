-- Events that ran, and what is left of them.
use Rattle.std.proofs.Common.{◌≡◌, ℕ, ◌+◌, ◌<◌, List, [], ◌∷◌, ◌++◌, drop, get_or, length, map, refl, sym, ◌∙◌, subst, inl, inr}
use Rattle.std.specs.Prelude.{Result, Ok, Err, OnOk, OnErr, IsErrAnd}
use Rattle.acn_events.specs.Event.{Event, Halt}
use Rattle.acn_events.proofs.Joins.{run_then, stops_then, stops_front}
use Rattle.acn_writer.specs.Answers.{Comes, HaltsFor, state_of}
use Rattle.acn_writer.specs.Halts.{class_of, halt_of}
use Rattle.acn_writer.specs.declared.halt.Halt.{Halt as HaltData}
use Rattle.acn_writer.specs.declared.halt.Halted.{Halted}
use Rattle.acn_writer.specs.declared.writer.Writer.{Writer}
use Rattle.acn_pack.proofs.Fields.{item_first}
use Rattle.acn_pack.specs.Packs.{Ran, Stopped, Packs, PacksTo, GoesOn}

module _ {N S A : ℕ} where
  pub begin : (es : List Event) (m : Writer N S A) → GoesOn es es m m
  begin es m = record { runs = λ n r. r; stops = λ n h s. s; same_buffer = refl }

  -- an event, or some, behind what ran
  pub then_one : (whole rest : List Event) (event : List ℕ → Event) (path : List ℕ) (m n o : Writer N S A) → GoesOn whole (event path ∷ rest) m n → Comes event n o → GoesOn whole rest m o
  then_one whole rest event path m n o g s =
      record { runs = λ p r. g.runs p (state_of o, s.step path, r); stops = λ p h r. g.stops p h (inr (state_of o, s.step path, r)); same_buffer = s.same_buffer ∙ g.same_buffer }

  pub then_some : (whole a rest : List Event) (m n o : Writer N S A) → GoesOn whole (a ++ rest) m n → Ran a n o → GoesOn whole rest m o
  then_some whole a rest m n o g s =
      record {
        runs = λ p r. g.runs p (run_then a rest (state_of n) (state_of o) p s.runs r);
        stops = λ p h r. g.stops p h (stops_then (class_of S A) a rest (state_of n) (state_of o) p h s.runs r);
        same_buffer = s.same_buffer ∙ g.same_buffer;
      }

  -- what is left goes on by itself
  pub then_on : (whole some rest : List Event) (m n o : Writer N S A) → GoesOn whole some m n → GoesOn some rest n o → GoesOn whole rest m o
  then_on whole some rest m n o g s = record { runs = λ p r. g.runs p (s.runs p r); stops = λ p h r. g.stops p h (s.stops p h r); same_buffer = s.same_buffer ∙ g.same_buffer }

  -- other lists of events, which are the same
  pub left_as : (whole rest other : List Event) (m n : Writer N S A) → rest ≡ other → GoesOn whole rest m n → GoesOn whole other m n
  left_as whole rest other m n e g = subst (λ (es : List Event). GoesOn whole es m n) e g

  pub whole_as : (whole other rest : List Event) (m n : Writer N S A) → whole ≡ other → GoesOn whole rest m n → GoesOn other rest m n
  whole_as whole other rest m n e g = subst (λ (es : List Event). GoesOn es rest m n) e g

  pub packs_as : {R : Type 0} (es other : List Event) (m n : Writer N S A) (path : List ℕ) (why : HaltData) (r : Result R Halted) → es ≡ other → Packs es m n path why r → Packs other m n path why r
  packs_as es other m n path why r e p = subst (λ (x : List Event). Packs x m n path why r) e p

  pub stopped_as : (es other : List Event) (m n : Writer N S A) (h : Halt) → es ≡ other → Stopped es m n h → Stopped other m n h
  stopped_as es other m n h e s = subst (λ (x : List Event). Stopped x m n h) e s

  -- the whole stops where an event halts, or where some stop
  pub stop_one : (whole rest : List Event) (event : List ℕ → Event) (path : List ℕ) (m n o : Writer N S A) (why : HaltData) → GoesOn whole (event path ∷ rest) m n → HaltsFor event n o why → Stopped whole m o (halt_of path why)
  stop_one whole rest event path m n o why g s = record { stops = g.stops (state_of o) (halt_of path why) (inl (s.same_state, s.halts path)); same_buffer = s.same_buffer ∙ g.same_buffer }

  pub stop_some : (whole a rest : List Event) (m n o : Writer N S A) (h : Halt) → GoesOn whole (a ++ rest) m n → Stopped a n o h → Stopped whole m o h
  stop_some whole a rest m n o h g s = record { stops = g.stops (state_of o) h (stops_front (class_of S A) a rest (state_of n) (state_of o) h s.stops); same_buffer = s.same_buffer ∙ g.same_buffer }

  pub stop_on : (whole rest : List Event) (m n o : Writer N S A) (h : Halt) → GoesOn whole rest m n → Stopped rest n o h → Stopped whole m o h
  stop_on whole rest m n o h g s = record { stops = g.stops (state_of o) h s.stops; same_buffer = s.same_buffer ∙ g.same_buffer }

  -- the whole ran
  pub ended : (whole : List Event) (m n : Writer N S A) → GoesOn whole [] m n → Ran whole m n
  ended whole m n g = record { runs = g.runs (state_of n) refl; same_buffer = g.same_buffer }

  pub ran_on : (whole rest : List Event) (m n o : Writer N S A) → GoesOn whole rest m n → Ran rest n o → Ran whole m o
  ran_on whole rest m n o g s = record { runs = g.runs (state_of o) s.runs; same_buffer = s.same_buffer ∙ g.same_buffer }

  pub nothing : (es : List Event) (m : Writer N S A) → es ≡ [] → Ran es m m
  nothing es m e = subst (λ (x : List Event). Ran x m m) (sym e) (record { runs = refl; same_buffer = refl })

  -- what is left is all that is done
  pub last : {R : Type 0} (whole rest : List Event) (m n o : Writer N S A) (path : List ℕ) (why : HaltData) (r : Result R Halted) → GoesOn whole rest m n → Packs rest n o path why r → Packs whole m o path why r
  last whole rest m n o path why (Ok x) g p = record { runs = g.runs (state_of o) p.runs; same_buffer = p.same_buffer ∙ g.same_buffer }
  last whole rest m n o path why (Err e) g p = stop_on whole rest m n o (halt_of path why) g p

  -- one event by itself
  pub came : (e : Event) (m n : Writer N S A) → Comes (λ path. e) m n → Ran (e ∷ []) m n
  came e m n s = ended (e ∷ []) m n (then_one (e ∷ []) [] (λ path. e) [] m m n (begin (e ∷ []) m) s)

  pub halted : (e : Event) (m n : Writer N S A) (path : List ℕ) (why : HaltData) → HaltsFor (λ path. e) m n why → Stopped (e ∷ []) m n (halt_of path why)
  halted e m n path why s = stop_one (e ∷ []) [] (λ path. e) path m m n why (begin (e ∷ []) m) s

  -- the same of one event
  pub last_one : {R : Type 0} (whole : List Event) (event : List ℕ → Event) (m n o : Writer N S A) (path : List ℕ) (why : HaltData) (r : Result R Halted)
      → GoesOn whole (event path ∷ []) m n → OnOk r (Comes event n o) → OnErr r (HaltsFor event n o why) → Packs whole m o path why r
  last_one whole event m n o path why (Ok x) g a b = ended whole m o (then_one whole [] event path m n o g a)
  last_one whole event m n o path why (Err e) g a b = stop_one whole [] event path m n o why g b

  pub one : {R : Type 0} (event : List ℕ → Event) (m n : Writer N S A) (path : List ℕ) (why : HaltData) (r : Result R Halted) → OnOk r (Comes event m n) → OnErr r (HaltsFor event m n why) → Packs (event path ∷ []) m n path why r
  one event m n path why r a b = last_one (event path ∷ []) event m m n path why r (begin (event path ∷ []) m) a b

  -- what `?` returns
  pub failed : {R : Type 0} (whole : List Event) (m o : Writer N S A) (path : List ℕ) (why : HaltData) (e : Halted) (r : Result R Halted) → IsErrAnd r (λ y. y ≡ e) → Stopped whole m o (halt_of path why) → Packs whole m o path why r
  failed whole m o path why e (Ok x) is s = absurd is
  failed whole m o path why e (Err y) is s = s

  pub failed_to : {R : Type 0} (whole : List Event) (rest : R → List Event) (m o : Writer N S A) (path : List ℕ) (why : HaltData) (e : Halted) (r : Result R Halted) → IsErrAnd r (λ y. y ≡ e) → Stopped whole m o (halt_of path why) → PacksTo whole rest m o path why r
  failed_to whole rest m o path why e (Ok x) is s = absurd is
  failed_to whole rest m o path why e (Err y) is s = s

  pub failed_one : {R : Type 0} (whole rest : List Event) (event : List ℕ → Event) (path : List ℕ) (m n o : Writer N S A) (why : HaltData) (e : Halted) (r : Result R Halted)
      → IsErrAnd r (λ y. y ≡ e) → GoesOn whole (event path ∷ rest) m n → HaltsFor event n o why → Packs whole m o path why r
  failed_one whole rest event path m n o why e r is g s = failed whole m o path why e r is (stop_one whole rest event path m n o why g s)

  pub failed_some : {R : Type 0} (whole a rest : List Event) (path : List ℕ) (m n o : Writer N S A) (why : HaltData) (e : Halted) (r : Result R Halted)
      → IsErrAnd r (λ y. y ≡ e) → GoesOn whole (a ++ rest) m n → Stopped a n o (halt_of path why) → Packs whole m o path why r
  failed_some whole a rest path m n o why e r is g s = failed whole m o path why e r is (stop_some whole a rest m n o (halt_of path why) g s)

  -- contents that end, whichever count is named
  pub close_ran : {R : Type 0} (event : ℕ → List ℕ → Event) (m n : Writer N S A) (r : Result R Halted) → OnOk r ((k : ℕ) → Comes (event k) m n) → (k : ℕ) → OnOk r (Comes (event k) m n)
  close_ran event m n (Ok x) a k = a k
  close_ran event m n (Err y) a k = tt

  pub close_halted : {R : Type 0} (event : ℕ → List ℕ → Event) (m n : Writer N S A) (why : HaltData) (r : Result R Halted) → OnErr r ((k : ℕ) → HaltsFor (event k) m n why) → (k : ℕ) → OnErr r (HaltsFor (event k) m n why)
  close_halted event m n why (Ok x) a k = tt
  close_halted event m n why (Err y) a k = a k

  -- one more of a list of which each item has one event
  module _ {X : Type 0} (event : X → Event) (xs : List X) (i : ℕ) (d : X) (m n : Writer N S A) (there : i < length xs) (done : GoesOn (map event xs) (map event (drop i xs)) m n) where
    each_here : GoesOn (map event xs) (event (get_or xs i d) ∷ map event (drop (i + 1) xs)) m n
    each_here = left_as (map event xs) (map event (drop i xs)) (event (get_or xs i d) ∷ map event (drop (i + 1) xs)) m n (item_first event i d xs there) done

    pub each_on : (o : Writer N S A) → Ran (event (get_or xs i d) ∷ []) n o → GoesOn (map event xs) (map event (drop (i + 1) xs)) m o
    each_on o s = then_some (map event xs) (event (get_or xs i d) ∷ []) (map event (drop (i + 1) xs)) m n o each_here s

    pub each_stops : {R : Type 0} (path : List ℕ) (o : Writer N S A) (why : HaltData) (e : Halted) (r : Result R Halted) → IsErrAnd r (λ y. y ≡ e) → Stopped (event (get_or xs i d) ∷ []) n o (halt_of path why) → Packs (map event xs) m o path why r
    each_stops path o why e r is s = failed_some (map event xs) (event (get_or xs i d) ∷ []) (map event (drop (i + 1) xs)) path m n o why e r is each_here s
