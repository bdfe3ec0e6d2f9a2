-- The first fault of a well-formed tree, computed.
use Rattle.std.proofs.Common.{◌≡◌, ◌⊎◌, inl, inr, ℕ, ◌<◌, List, [], ◌∷◌, Option, Some, None, refl, sym, ap, ◌∙◌, subst, arith, nat_lt}
use Rattle.std.specs.Prelude.{MatchOption}
use Rattle.acn_grammar.specs.Check.{CheckFault, too_long, too_many_values, Evidence, Before, FirstFault, number_of_fault}
use Rattle.acn_grammar.specs.Grammar.{Grammar}
use Rattle.acn_grammar.specs.Interval.{span, value_count}
use Rattle.acn_packet_laws.specs.Laws.{WidthsAreLengths}
use Rattle.acn_grammar.specs.Slots.{first_of_two}
use Rattle.acn_grammar.specs.Tree.{IsTree}
use Rattle.acn_check.specs.Checked.{HasNoFault}
use Rattle.acn_check.specs.Facts.{Facts}
use Rattle.acn_check.specs.First.{Det, Tally, dets, first_of, first_behind, first_wrong_kind, behind, wrong_kind, no_width, overlap_at, unclear, no_use, no_item_at, mixed_at, long, much_open, many_values, ambiguous_at}
use Rattle.acn_check.specs.Order.{dubious, beyond, many_equals, lines_of, tallies_of, first_fault}
use Rattle.acn_check.proofs.Assembly.{tail, KindLaw, FirstOfKind, FromLaw, by_nodes, step, no_more, ranked, first_fault as first_of_all}
use Rattle.acn_check.proofs.KindEnds.{ambiguous_law}
use Rattle.acn_check.proofs.KindItems.{item_law}
use Rattle.acn_check.proofs.KindLaws.{by_tails, plain_law, use_law}
use Rattle.acn_check.proofs.KindPairs.{pair_law}
use Rattle.acn_check.proofs.KindPlaces.{unclear_law, mixed_law, open_law}
use Rattle.acn_check.proofs.KindSlots.{width_law, unused_law, equals_law}
use Rattle.acn_check.proofs.KindUses.{behind_law, kind_law, only_true, only_none}
use Rattle.acn_check.proofs.Numbers.{only_too_long, only_too_many_values, plain_tail}
use Rattle.std.proofs.lemmas.Bool.{ltb-true, lt-ltb}

-- Limits of the whole tree.

module _ (root : Grammar) where
  -- a fault of the whole tree stands at its root
  at_root : (n : ℕ) → ((f : CheckFault) (u : ℕ) → number_of_fault f ≡ n → tail f u ≡ u ∷ 0 ∷ 0 ∷ []) → ((g : CheckFault) (k u : ℕ) → number_of_fault g ≡ n → Evidence root g k u → k ≡ 0)
      → (f : CheckFault) → number_of_fault f ≡ n → Evidence root f 0 0 → FirstOfKind root n f
  at_root n plain zero f kind e = record {
    node = 0;
    use_here = 0;
    kind = kind;
    holds = e;
    first = λ g k u is e' b. by g k u is (zero g k u is e') (ranked root f g 0 0 k u b);
  }
    where
      by : (g : CheckFault) (k u : ℕ) → number_of_fault g ≡ n → k ≡ 0 → (number_of_fault g < number_of_fault f) ⊎ ((number_of_fault g ≡ number_of_fault f) × ((k < 0) ⊎ ((k ≡ 0) × Before root (tail g u) (tail f 0)))) → ⊥
      by g k u is z (inl l) = absurd (omega arith)
      by g k u is z (inr (same, inl l)) = absurd (omega arith)
      by g k u is z (inr (same, inr (z', b))) = (let l = by_tails root n plain g f u 0 is kind b in absurd (omega (arith, l)))

  long_zero : (g : CheckFault) (k u : ℕ) → number_of_fault g ≡ 9 → Evidence root g k u → k ≡ 0
  long_zero g k u is e = (let o = only_too_long g is in let e' : Evidence root (too_long o.0) k u = subst (λ x. Evidence root x k u) o.1 e in e'.at_root)

  long_law : KindLaw root 9 (long root)
  long_law = record {
    some = λ f e.
        let o = only_true (nat_lt 524336 (span root).greatest) (too_long (span root).greatest) f e in
        at_root 9 (λ g u is. plain_tail g u (λ four. absurd (omega arith)) (λ seven. absurd (omega arith))) long_zero f (ap number_of_fault (sym o.1)) (subst (λ x. Evidence root x 0 0) o.1 (record { at_root = refl; bits_are = refl; many = ltb-true 524336 (span root).greatest o.0 }));
    none = λ e f k u is evidence.
        let o = only_too_long f is in
        let e' : Evidence root (too_long o.0) k u = subst (λ x. Evidence root x k u) o.1 evidence in
        only_none (nat_lt 524336 (span root).greatest) (too_long (span root).greatest) (lt-ltb 524336 (span root).greatest (let a = e'.bits_are in let b = e'.many in omega (arith, a, b))) e;
  }

  values_zero : (g : CheckFault) (k u : ℕ) → number_of_fault g ≡ 12 → Evidence root g k u → k ≡ 0
  values_zero g k u is e = (let o = only_too_many_values g is in let e' : Evidence root (too_many_values o.0) k u = subst (λ x. Evidence root x k u) o.1 e in e'.at_root)

  values_law : KindLaw root 12 (many_values root)
  values_law = record {
    some = λ f e.
        let o = only_true (nat_lt 1048576 (value_count root)) (too_many_values (value_count root)) f e in
        at_root 12 (λ g u is. plain_tail g u (λ four. absurd (omega arith)) (λ seven. absurd (omega arith))) values_zero f (ap number_of_fault (sym o.1)) (subst (λ x. Evidence root x 0 0) o.1 (record { at_root = refl; count_is = refl; many = ltb-true 1048576 (value_count root) o.0 }));
    none = λ e f k u is evidence.
        let o = only_too_many_values f is in
        let e' : Evidence root (too_many_values o.0) k u = subst (λ x. Evidence root x k u) o.1 evidence in
        only_none (nat_lt 1048576 (value_count root)) (too_many_values (value_count root)) (lt-ltb 1048576 (value_count root) (let a = e'.count_is in let b = e'.many in omega (arith, a, b))) e;
  }

-- All kinds.

grouped : (a b c d r : Option CheckFault) → first_of_two (first_of_two a (first_of_two b (first_of_two c d))) r ≡ first_of_two a (first_of_two b (first_of_two c (first_of_two d r)))
grouped (Some f) b c d r = refl
grouped None (Some f) c d r = refl
grouped None None (Some f) d r = refl
grouped None None None d r = refl

alone : (o : Option CheckFault) → first_of_two o None ≡ o
alone None = refl
alone (Some f) = refl

module _ (root : Grammar) (tree : IsTree root) where
  abbrev l : List Facts
  l = lines_of root

  abbrev ds : List Det
  ds = dets 0 (lines_of root)

  abbrev ts : List Tally
  ts = tallies_of (lines_of root)

  all_kinds : WidthsAreLengths → FromLaw root 1 (first_of_two (first_of (first_behind ds) 0 l) (first_of_two (first_of (first_wrong_kind ds) 0 l) (first_of_two (first_of (no_width ds) 0 l) (first_of_two (first_of (overlap_at ds) 0 l)
      (first_of_two (first_of unclear 0 l) (first_of_two (first_of (no_use ts) 0 l) (first_of_two (first_of (no_item_at ds) 0 l) (first_of_two (first_of mixed_at 0 l)
      (first_of_two (long root) (first_of_two (first_of much_open 0 l) (first_of_two (first_of (many_equals root) 0 l) (first_of_two (many_values root) (first_of_two (first_of ambiguous_at 0 l) None)))))))))))))
  all_kinds widths =
      step root 1 _ _ (by_nodes root 1 (first_behind ds) (use_law root 1 (behind ds) (behind_law root tree)))
      (step root 2 _ _ (by_nodes root 2 (first_wrong_kind ds) (use_law root 2 (λ k f named. wrong_kind ds f named) (kind_law root tree)))
      (step root 3 _ _ (by_nodes root 3 (no_width ds) (plain_law root 3 (no_width ds) (width_law root tree widths)))
      (step root 4 _ _ (by_nodes root 4 (overlap_at ds) (pair_law root tree))
      (step root 5 _ _ (by_nodes root 5 unclear (plain_law root 5 unclear (unclear_law root)))
      (step root 6 _ _ (by_nodes root 6 (no_use ts) (plain_law root 6 (no_use ts) (unused_law root tree)))
      (step root 7 _ _ (by_nodes root 7 (no_item_at ds) (item_law root tree))
      (step root 8 _ _ (by_nodes root 8 mixed_at (plain_law root 8 mixed_at (mixed_law root)))
      (step root 9 _ _ (long_law root)
      (step root 10 _ _ (by_nodes root 10 much_open (plain_law root 10 much_open (open_law root)))
      (step root 11 _ _ (by_nodes root 11 (many_equals root) (plain_law root 11 (many_equals root) (equals_law root tree)))
      (step root 12 _ _ (values_law root)
      (step root 13 _ _ (by_nodes root 13 ambiguous_at (plain_law root 13 ambiguous_at (ambiguous_law root tree))) (no_more root)))))))))))))

  regrouped : first_fault root ≡ first_of_two (first_of (first_behind ds) 0 l) (first_of_two (first_of (first_wrong_kind ds) 0 l) (first_of_two (first_of (no_width ds) 0 l) (first_of_two (first_of (overlap_at ds) 0 l)
      (first_of_two (first_of unclear 0 l) (first_of_two (first_of (no_use ts) 0 l) (first_of_two (first_of (no_item_at ds) 0 l) (first_of_two (first_of mixed_at 0 l)
      (first_of_two (long root) (first_of_two (first_of much_open 0 l) (first_of_two (first_of (many_equals root) 0 l) (first_of_two (many_values root) (first_of_two (first_of ambiguous_at 0 l) None))))))))))))
  unfolding first_fault
  regrouped =
      let b = beyond root l (first_of (many_equals root) 0 l) in
      grouped (first_of (first_behind ds) 0 l) (first_of (first_wrong_kind ds) 0 l) (first_of (no_width ds) 0 l) (first_of (overlap_at ds) 0 l) (first_of_two (dubious ds ts l) b)
      ∙ (ap (λ o. first_of_two (first_of (first_behind ds) 0 l) (first_of_two (first_of (first_wrong_kind ds) 0 l) (first_of_two (first_of (no_width ds) 0 l) (first_of_two (first_of (overlap_at ds) 0 l) o))))
      (grouped (first_of unclear 0 l) (first_of (no_use ts) 0 l) (first_of (no_item_at ds) 0 l) (first_of mixed_at 0 l) b)
      ∙ ap (λ o. first_of_two (first_of (first_behind ds) 0 l) (first_of_two (first_of (first_wrong_kind ds) 0 l) (first_of_two (first_of (no_width ds) 0 l) (first_of_two (first_of (overlap_at ds) 0 l)
      (first_of_two (first_of unclear 0 l) (first_of_two (first_of (no_use ts) 0 l) (first_of_two (first_of (no_item_at ds) 0 l) (first_of_two (first_of mixed_at 0 l)
      (first_of_two (long root) (first_of_two (first_of much_open 0 l) (first_of_two (first_of (many_equals root) 0 l) (first_of_two (many_values root) o))))))))))))
      (sym (alone (first_of ambiguous_at 0 l))))

  -- the fault that is computed is the first, and where none is there is none
  pub first_is : WidthsAreLengths → MatchOption (first_fault root) (HasNoFault root) (FirstFault root)
  first_is widths = first_of_all root (first_fault root) (subst (FromLaw root 1) (sym regrouped) (all_kinds widths))
