-- What the pass keeps of nodes tells what they show.
use Rattle.std.proofs.Common.{◌≡◌, ℕ, ◌+◌, Bool, List, [], ◌∷◌, map, Option, Some, None, refl, ap, ◌∙◌, nat_lt}
use Rattle.std.specs.Prelude.{if◌then◌else◌}
use Rattle.acn_grammar.specs.Grammar.{Grammar}
use Rattle.acn_extreme_laws.specs.Facts.{Facts, all_uses, uses_of, used_twice as used_twice_by, shows as shows_by, first_path, first_by as first_path_by, or_first, first_among as first_fact}
use Rattle.acn_extreme_laws.specs.declared.why.Why.{Why}
use Rattle.acn_extreme_laws.specs.declared.why.Why.TheVariants.{TwoUses, ThroughAList, CountNotPermitted, TerminatorAlone, OfAComponent}
use Rattle.acn_single.specs.Lines.{seen, all_seen_uses, used_twice, shows, first_seen, first_by, first_among}

module _ (root : Grammar) where
  same_uses : (s : ℕ) (fs : List Facts) → all_seen_uses s (map (seen root) fs) ≡ all_uses s fs
  same_uses s [] = refl
  same_uses s (f ∷ fs) = ap (λ n. uses_of s f + n) (same_uses s fs)

  same_twice : (all : List Facts) (slot : Option ℕ) → used_twice (map (seen root) all) slot ≡ used_twice_by all slot
  same_twice all None = refl
  same_twice all (Some s) = ap (nat_lt 1) (same_uses s all)

  same_shown : (all : List Facts) (why : Why) (f : Facts) → shows (map (seen root) all) why (seen root f) ≡ shows_by root all why f
  same_shown all TwoUses f = same_twice all f.tag.slot
  same_shown all ThroughAList f = refl
  same_shown all CountNotPermitted f = refl
  same_shown all TerminatorAlone f = refl
  same_shown all OfAComponent f = refl

  same_first : (all : List Facts) (why : Why) (fs : List Facts) → first_seen (shows (map (seen root) all) why) (map (seen root) fs) ≡ first_path (shows_by root all why) fs
  same_first all why [] = refl
  same_first all why (f ∷ fs) =
      ap (λ (b : Bool). if b then Some f.path else first_seen (shows (map (seen root) all) why) (map (seen root) fs)) (same_shown all why f)
      ∙ ap (λ o. if shows_by root all why f then Some f.path else o) (same_first all why fs)

  same_by : (all : List Facts) (why : Why) → first_by (map (seen root) all) why ≡ first_path_by root all why
  same_by all why = same_first all why all

  joined : (a b c d e a' b' c' d' e' : Option (List ℕ)) → a ≡ a' → b ≡ b' → c ≡ c' → d ≡ d' → e ≡ e'
      → or_first TwoUses a (or_first ThroughAList b (or_first CountNotPermitted c (or_first TerminatorAlone d (or_first OfAComponent e None))))
      ≡ or_first TwoUses a' (or_first ThroughAList b' (or_first CountNotPermitted c' (or_first TerminatorAlone d' (or_first OfAComponent e' None))))
  joined a b c d e a' b' c' d' e' p q r s t = rw (p, q, r, s, t) refl

  -- the pass finds the least reason
  pub pass_finds : (all : List Facts) → first_among (map (seen root) all) ≡ first_fact root all
  pass_finds all = joined _ _ _ _ _ _ _ _ _ _ (same_by all TwoUses) (same_by all ThroughAList) (same_by all CountNotPermitted) (same_by all TerminatorAlone) (same_by all OfAComponent)
