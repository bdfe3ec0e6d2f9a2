-- Where events come in good order, and what they begin and ask comes from the nodes of an accepted tree, the largest table isn't full.
use Rattle.std.proofs.Common.{◌≡◌, ℕ, ℤ, pos, Bool, true, false, not, ◌&&◌, ◌||◌, List, [], ◌∷◌, ◌++◌, length, nat_eq, refl, sym, ◌∙◌, subst, arith, inl, inr}
use Rattle.std.specs.Prelude.{if◌then◌else◌}
use Rattle.std.specs.List.{AllByRecursion}
use Rattle.std.proofs.lemmas.Bool.{eqb-true}
use Rattle.acn_fill.specs.Table.{AllBegun, TooMany, begun}
use Rattle.acn_grammar.specs.Asks.{Ask, Equal, Avoid}
use Rattle.acn_grammar.specs.AsksOn.{on, size_asks_on}
use Rattle.acn_grammar.specs.Check.{CheckFault, Undecodable}
use Rattle.acn_grammar.specs.Grammar.{Grammar}
use Rattle.acn_grammar.specs.Scoped.{Known}
use Rattle.acn_grammar.specs.Slots.{domain_of}
use Rattle.acn_grammar.specs.Walk.{nodes_of, root_node}
use Rattle.acn_grammar.specs.declared.limits.TheConstants.{MOST_OPEN_SLOTS}
use Rattle.acn_grammar.specs.declared.node.SizeRule.{SizeRule}
use Rattle.acn_grammar.specs.declared.node.SizeRule.TheVariants.{Prefix, Slot, Ended}
use Rattle.acn_grammar.proofs.WholeTests.{either}
use Rattle.acn_packet_laws.specs.Laws.{AcceptedIsSound, NoFaultWithoutAFirst}
use Rattle.acn_events.specs.Event.{Event, State, aligns, copies, begins, puts, sizes, codes, texts, opens, notes, wants, fills, enters, closes, full}
use Rattle.acn_events.specs.Events.{events}
use Rattle.acn_events.specs.Laws.{EventsAreInOrder, first_state}
use Rattle.acn_events.specs.Marks.{Mark, marked, first_mark, ask_on, Right, AllRight}
use Rattle.acn_events.specs.Steps.{Overflows, Stops}
use Rattle.acn_events.proofs.Keeping.{kept_keeps}
use Rattle.acn_events.proofs.Standing.{Stands, base_depth, first_stands, stands_on}
use Rattle.acn_event_limits.specs.Laws.{largest, LargestTablesHaveRoom}
use Rattle.acn_event_limits.proofs.Limits.{few_compared}
use Rattle.acn_event_limits.proofs.Members.{Member, each_of_both, holds_member, member_among, member_holds, never, no_longer, numbers_differ, slots_differ}
use Rattle.acn_event_limits.proofs.Sources.{IsCompared, IsField, AskSourced, Sourced, AllSourced, node_from}
use Rattle.acn_event_limits.proofs.Within.{HasHome, Housed, AllHoused, all_housed}

-- one slot more isn't begun beside all that have room
no_more_slots : (s : ℕ) (ks : Known) (m : State) → ks s ≡ false → ((t : ℕ) → begun m.table t ≡ ks t) → HasHome s ks → AllBegun MOST_OPEN_SLOTS m.table → ⊥
no_more_slots s ks m fresh known home all =
    let few = home.few in
    let many = all.many in
    let most = no_longer (s ∷ all.slots) home.around ((λ h. never (ks s) (is_known s h) fresh), slots_differ all.slots all.differ) here in
    absurd (omega (arith, few, many, most))
  where
    is_known : (t : ℕ) → Member t all.slots → ks t ≡ true
    is_known t h = sym (known t) ∙ all.begun_each t (member_holds all.slots t h)

    here : (t : ℕ) → Member t (s ∷ all.slots) → Member t home.around
    here t (inl e) = subst (λ z. Member z home.around) e (holds_member home.around s home.own)
    here t (inr h) = holds_member home.around t (home.others t (is_known t h))

-- what was asked of a slot holds of each ask
asked_of : (P : Ask → Type 0) (wanted early late : List Ask) (a : Ask) → wanted ≡ early ++ a ∷ late → AllByRecursion P wanted → P a
asked_of P [] [] late a e h = cc
asked_of P [] (b ∷ early) late a e h = cc
asked_of P (c ∷ wanted) [] late a e h = let same : c ≡ a = cc in subst P same h.0
asked_of P (c ∷ wanted) (b ∷ early) late a e h = let rest : wanted ≡ early ++ a ∷ late = cc in asked_of P wanted early late a rest h.1

module _ (root : Grammar) (none : (f : CheckFault) → Undecodable root f → ⊥) (size : ℕ) where
  -- what the events so far asked, and which slots they began, comes from the nodes
  record Comes (p : Mark) : Type 0 where
    pub fields : (s : ℕ) → p.known s ≡ true → IsField (nodes_of root) s
    pub asks : (s : ℕ) → AllByRecursion (AskSourced (nodes_of root) s) (p.asked s)

  on_from : (s t : ℕ) (a : Ask) → AskSourced (nodes_of root) t a → AllByRecursion (AskSourced (nodes_of root) s) (on s t a)
  on_from s t a h = by (nat_eq t s) (λ e. subst (λ z. AskSourced (nodes_of root) z a) (eqb-true t s e) h)
    where
      by : (b : Bool) → (b ≡ true → AskSourced (nodes_of root) s a) → AllByRecursion (AskSourced (nodes_of root) s) (if b then a ∷ [] else [])
      by true f = (f refl, tt)
      by false f = tt

  size_from : (s n : ℕ) (rule : SizeRule) → AllByRecursion (AskSourced (nodes_of root) s) (size_asks_on s n rule)
  size_from s n (Slot t) = on_from s t (Equal (pos n)) tt
  size_from s n (Prefix low width) = tt
  size_from s n (Ended q) = tt

  -- an event that begins and ends no slot
  comes_asked : (p : Mark) (e : Event) → Comes p → ((s : ℕ) → AllByRecursion (AskSourced (nodes_of root) s) (ask_on s e)) → (s : ℕ) → AllByRecursion (AskSourced (nodes_of root) s) (p.asked s ++ ask_on s e)
  comes_asked p e h f s = each_of_both (AskSourced (nodes_of root) s) (p.asked s) (ask_on s e) (h.asks s) (f s)

  comes_begun : (p : Mark) (t : ℕ) → Comes p → IsField (nodes_of root) t → (s : ℕ) → (nat_eq t s || p.known s) ≡ true → IsField (nodes_of root) s
  comes_begun p t h f s e = either {F = IsField (nodes_of root) s} (nat_eq t s) (p.known s) e (λ q. subst (λ z. IsField (nodes_of root) z) (eqb-true t s q) f) (λ q. h.fields s q)

  comes_on : (e : Event) (p : Mark) → Sourced (nodes_of root) e → Comes p → Comes (marked e p)
  comes_on (aligns a) p f h = record { fields = h.fields; asks = comes_asked p (aligns a) h (λ s. tt) }
  comes_on (copies bs) p f h = record { fields = h.fields; asks = comes_asked p (copies bs) h (λ s. tt) }
  comes_on (begins homes bs) p f h = record { fields = h.fields; asks = comes_asked p (begins homes bs) h (λ s. tt) }
  comes_on (puts width k) p f h = record { fields = h.fields; asks = comes_asked p (puts width k) h (λ s. tt) }
  comes_on (sizes sizing k) p f h = record { fields = h.fields; asks = comes_asked p (sizes sizing k) h (λ s. tt) }
  comes_on (codes leaf x) p f h = record { fields = h.fields; asks = comes_asked p (codes leaf x) h (λ s. tt) }
  comes_on (texts leaf cs) p f h = record { fields = h.fields; asks = comes_asked p (texts leaf cs) h (λ s. tt) }
  comes_on (opens t leaf) p f h = record { fields = comes_begun p t h f; asks = comes_asked p (opens t leaf) h (λ s. tt) }
  comes_on (notes path t set x) p f h = record { fields = comes_begun p t h f; asks = comes_asked p (notes path t set x) h (λ s. on_from s t (Equal x) tt) }
  comes_on (wants path t a) p f h = record { fields = h.fields; asks = comes_asked p (wants path t a) h (λ s. on_from s t a f) }
  comes_on (fills t) p f h = record { fields = λ s e. h.fields s (first (p.known s) (not (nat_eq t s)) e); asks = λ s. by s (nat_eq t s) }
    where
      first : (a b : Bool) → (a && b) ≡ true → a ≡ true
      first true b e = refl
      first false b e = e

      by : (s : ℕ) (b : Bool) → AllByRecursion (AskSourced (nodes_of root) s) (if b then [] else p.asked s)
      by s true = tt
      by s false = h.asks s
  comes_on (enters rule) p f h = record { fields = h.fields; asks = comes_asked p (enters rule) h (λ s. tt) }
  comes_on (closes path sizing k) p f h = record { fields = h.fields; asks = comes_asked p (closes path sizing k) h (λ s. size_from s k sizing.rule) }

  -- one number more isn't to be avoided beside all that have room
  no_more_numbers : (s : ℕ) (k : ℤ) (p : Mark) → Comes p → IsField (nodes_of root) s → IsCompared (nodes_of root) s k → TooMany (p.asked s) k → ⊥
  no_more_numbers s k p h field mine many =
      let l = many.many in
      few_compared root none s field (k ∷ many.numbers) (numbers_differ (k ∷ many.numbers) many.differ) compared (omega (arith, l))
    where
      compared : (x : ℤ) → Member x (k ∷ many.numbers) → IsCompared (nodes_of root) s x
      compared x (inl e) = subst (λ z. IsCompared (nodes_of root) s z) e mine
      compared x (inr m) = let a = many.asked x (member_among many.numbers x m) in asked_of (AskSourced (nodes_of root) s) (p.asked s) a.early a.late (Avoid x) a.is (h.asks s)

  avoids_few : (path : List ℕ) (s : ℕ) (a : Ask) (p : Mark) (m : State) → p.known s ≡ true → AskSourced (nodes_of root) s a → Comes p → Stands root size p m → Overflows largest (wants path s a) m → ⊥
  avoids_few path s (Equal x) p m known f h stands o = o
  avoids_few path s (Avoid k) p m known f h stands o =
      no_more_numbers s k p h (h.fields s known) f (o (omega arith) (domain_of root s) (p.asked s) (kept_keeps (domain_of root s) (p.asked s) s m.table (stands.known s ∙ known) (stands.keeps s)))

  has_room : (e : Event) (p : Mark) (m : State) → Right root e p → Housed e p.known → Sourced (nodes_of root) e → Comes p → Stands root size p m → Overflows largest e m → ⊥
  has_room (aligns a) p m r home f h stands o = o
  has_room (copies bs) p m r home f h stands o = o
  has_room (begins homes bs) p m r home f h stands o = o
  has_room (puts width k) p m r home f h stands o = o
  has_room (sizes sizing k) p m r home f h stands o = o
  has_room (codes leaf x) p m r home f h stands o = o
  has_room (texts leaf cs) p m r home f h stands o = o
  has_room (opens s leaf) p m r home f h stands o = no_more_slots s p.known m r.fresh stands.known home o
  has_room (notes path s set x) p m r home f h stands o = no_more_slots s p.known m r.0 stands.known home o
  has_room (wants path s a) p m r home f h stands o = avoids_few path s a p m r f h stands o
  has_room (fills s) p m r home f h stands o = o
  has_room (enters rule) p m r home f h stands o =
      let few = r.0 in
      let many = (base_depth m.contents p.outer stands.contents).1 in
      absurd (omega (arith, few, many, o))
  has_room (closes path sizing k) p m r home f h stands o = o

  never_full : (es : List Event) (p : Mark) (m n : State) → AllRight root es p → AllHoused es p.known → AllSourced (nodes_of root) es → Comes p → Stands root size p m → Stops largest es m n full → ⊥
  never_full [] p m n r home f h stands stop = stop
  never_full (e ∷ es) p m n r home f h stands (inl stop) = has_room e p m r.0 home.0 f.0 h stands stop.1
  never_full (e ∷ es) p m n r home f h stands (inr stop) = never_full es (marked e p) stop.0 n r.1 home.1 f.1 (comes_on e p f.0 h) (stands_on root size e p m stop.0 r.0 stop.1 stands) stop.2

pub largest_has_room : AcceptedIsSound → NoFaultWithoutAFirst → EventsAreInOrder → LargestTablesHaveRoom
largest_has_room sound none order root d buf n accepted shaped stop =
    never_full root (none root accepted.sound) (length buf) (events root root [] d) first_mark (first_state buf) n (order root d accepted shaped).right (all_housed root (sound root accepted) d)
    (node_from (nodes_of root) root root root_node [] [] (λ at h. h) [] d) (record { fields = λ s e. cc; asks = λ s. tt }) (first_stands root buf) stop
