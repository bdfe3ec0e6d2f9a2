-- A value of the tree's form is written, or refused.
use Rattle.std.proofs.Common.{◌≡◌, Bool, List, [], ◌∷◌, ◌++◌, Option, Some, None, refl, sym, ◌∙◌, append_assoc, false, inl, inr, ◌⊎◌, subst}
use Rattle.std.specs.List.{AllByRecursion}
use Rattle.acn_grammar.specs.Asks.{Moment, asks, counts, moments}
use Rattle.acn_grammar.specs.Front.{IsWritten}
use Rattle.acn_grammar.specs.Meets.{Unfit, breach, breaches, first_of}
use Rattle.acn_grammar.specs.Refused.{FirstUnmet, Refused, RefusedAfter}
use Rattle.acn_packet_laws.specs.Laws.{EachValueIsWrittenOrRefused}
use Rattle.acn_packet_laws.proofs.AskHomes.{tree_homes}
use Rattle.acn_packet_laws.proofs.FirstUnmets.{first_or_met}
use Rattle.acn_packet_laws.proofs.Lengths.{root_steady}
use Rattle.acn_packet_laws.proofs.OneRefusals.{EachMet}
use Rattle.acn_packet_laws.proofs.SoundLaws.{accepted_sound_nodes}
use Rattle.acn_packet_laws.proofs.Used.{accepted_used}
use Rattle.acn_packet_laws.proofs.WrittenNodes.{Counted, write_node}

none_first : (us : List Unfit) → first_of us ≡ None → us ≡ []
none_first [] e = refl
none_first (u ∷ us) e = cc

pub each_written : EachValueIsWrittenOrRefused
each_written root d a shaped = by (breach root d) refl
  where
    all_counted : (ms early rest : List Moment) → EachMet root ms → ms ≡ early ++ rest → AllByRecursion Counted rest
    all_counted ms early [] met e = tt
    all_counted ms early (counts path n sizing ∷ rest) met e = (met early rest (counts path n sizing) e, all_counted ms (early ++ counts path n sizing ∷ []) rest met (e ∙ sym (append_assoc early (counts path n sizing ∷ []) rest)))
    all_counted ms early (asks path field s w ∷ rest) met e = (tt, all_counted ms (early ++ asks path field s w ∷ []) rest met (e ∙ sym (append_assoc early (asks path field s w ∷ []) rest)))

    written : EachMet root (moments root root [] [] d) → breaches [] root d ≡ [] → (bs : List Bool) × IsWritten root d bs
    written met none =
        write_node root a d met root 0 [] (λ s. false) (accepted_sound_nodes root a) (tree_homes root a.formed) (root_steady root a) (accepted_used root a) [] (λ m q. refl) [] d (λ r o e. e) shaped none
        (all_counted (moments root root [] [] d) [] (moments root root [] [] d) met refl) [] (λ t h. cc) 0

    by : (o : Option Unfit) → breach root d ≡ o → ((bs : List Bool) × IsWritten root d bs) ⊎ ((u : Unfit) × Refused root d u)
    by (Some u) e = inr (u, subst (λ x. RefusedAfter root x d u) (sym e) refl)
    by None e = scanned (first_or_met root (moments root root [] [] d))
      where
        scanned : ((u : Unfit) × FirstUnmet root (moments root root [] [] d) u) ⊎ EachMet root (moments root root [] [] d) → ((bs : List Bool) × IsWritten root d bs) ⊎ ((u : Unfit) × Refused root d u)
        scanned (inl f) = inr (f.0, subst (λ x. RefusedAfter root x d f.0) (sym e) f.1)
        scanned (inr met) = inl (written met (none_first (breaches [] root d) e))
