-- A walk over sites and then over those behind them is one walk over all.
use Rattle.std.proofs.Common.{◌≡◌, ℕ, zero, suc, ◌+◌, ◌-◌, ◌<◌, List, [], ◌∷◌, ◌++◌, length, Option, Some, None, refl, ◌∙◌, ap, sym, arith, option_map, ◌≤◌, drop, drop_of_length-le}
use Rattle.std.proofs.lemmas.List.{length-append}
use Rattle.std.proofs.lemmas.List.{append-nil, append_assoc, at_drop_more}
use Rattle.std.proofs.lemmas.Grind.{flat_map-append}
use Rattle.std.specs.Prelude.{Result, Ok, Err, flat_map, get_or, option_to_list, IsTrue, is_some}
use Rattle.std.specs.Option.{option_or}
use Rattle.acn_index.specs.World.{World}
use Rattle.acn_index.specs.declared.sources.TypeId.{TypeId}
use Rattle.acn_sites.specs.Sites.{Site, Placed, sites, sites_of, sites_below, root_site, mark}
use Rattle.acn_sites.specs.View.{site_view, sites_view}
use Rattle.acn_sites.specs.declared.site.Site as program
use Rattle.acn_survey.specs.Reasons.{Fault, fault_at, fault_from}
use Rattle.acn_homes.specs.declared.uses.Use.{Use}
use Rattle.acn_survey.specs.View.{answer, fault_of_site}
use Rattle.acn_survey.specs.declared.reason.Refused.{Refused}
use Rattle.acn_survey.specs.Seen.{Noted, behind, unless_fault, surveyed}
use Rattle.acn_survey.specs.Walk.{field_at, inserted_fields, uses_of, uses_at}

-- going on behind what a walk answers
abbrev pub going_on : Result Noted Fault → (Noted → Result Noted Fault) → Result Noted Fault
going_on (Ok n) f = f n
going_on (Err e) f = Err e

one_less : (d : ℕ) → d ≡ suc d - 1
one_less d = omega arith

abbrev the_noted : ℕ → List (List ℕ) → List Use → Noted
the_noted a fs us = record { next = a; fields = fs; uses = us }

module _ (w : World) where
  option_or_assoc : {A : Type 0} (a b c : Option A) → option_or (option_or a b) c ≡ option_or a (option_or b c)
  option_or_assoc None b c = refl
  option_or_assoc (Some x) b c = refl

  fault_append : (n : ℕ) (ps qs : List Placed) → fault_from w n (ps ++ qs) ≡ option_or (fault_from w n ps) (fault_from w (n + length ps) qs)
  unfolding fault_from
  fault_append n [] qs = ap (λ k. fault_from w k qs) (omega arith)
  fault_append n (p ∷ ps) qs =
      ap (option_or (fault_at w n p)) (fault_append (suc n) ps qs)
      ∙ (sym (option_or_assoc (fault_at w n p) (fault_from w (suc n) ps) (fault_from w (suc n + length ps) qs))
      ∙ ap (λ k. option_or (fault_from w n (p ∷ ps)) (fault_from w k qs)) (omega arith))

  inserted_append : (ps qs : List Placed) → inserted_fields (ps ++ qs) ≡ inserted_fields ps ++ inserted_fields qs
  unfolding inserted_fields
  inserted_append ps qs = flat_map-append (λ (p : Placed). field_at p.site) ps qs

  uses_append : (ps qs : List Placed) → uses_of w (ps ++ qs) ≡ uses_of w ps ++ uses_of w qs
  unfolding uses_of
  uses_append ps qs = flat_map-append (λ (p : Placed). uses_at w p.site) ps qs

  same_noted : (a b : ℕ) (fs gs : List (List ℕ)) (us vs : List Use) → a ≡ b → fs ≡ gs → us ≡ vs → the_noted a fs us ≡ the_noted b gs vs
  same_noted a b fs gs us vs e f g = ap (λ k. the_noted k fs us) e ∙ (ap (λ k. the_noted b k us) f ∙ ap (λ k. the_noted b gs k) g)

  behind_append : (n : Noted) (ps qs : List Placed) → behind w n (ps ++ qs) ≡ behind w (behind w n ps) qs
  behind_append n ps qs = same_noted _ _ _ _ _ _
      (omega (arith, length-append ps qs))
      (ap (λ x. n.fields ++ x) (inserted_append ps qs) ∙ sym (append_assoc n.fields (inserted_fields ps) (inserted_fields qs)))
      (ap (λ x. n.uses ++ x) (uses_append ps qs) ∙ sym (append_assoc n.uses (uses_of w ps) (uses_of w qs)))

  unless_both : (o : Option Fault) (n : Noted) (ps qs : List Placed) → o ≡ fault_from w n.next ps
      → unless_fault (option_or o (fault_from w (n.next + length ps) qs)) (behind w n (ps ++ qs)) ≡ going_on (unless_fault o (behind w n ps)) (λ m. surveyed w m qs)
  unfolding surveyed
  unless_both None n ps qs e = ap (unless_fault (fault_from w (n.next + length ps) qs)) (behind_append n ps qs)
  unless_both (Some f) n ps qs e = refl

  pub surveyed_append : (n : Noted) (ps qs : List Placed) → surveyed w n (ps ++ qs) ≡ going_on (surveyed w n ps) (λ m. surveyed w m qs)
  unfolding surveyed
  surveyed_append n ps qs =
      ap (λ o. unless_fault o (behind w n (ps ++ qs))) (fault_append n.next ps qs)
      ∙ unless_both (fault_from w n.next ps) n ps qs refl

  pub surveyed_none : (n : Noted) → Ok n ≡ surveyed w n []
  unfolding surveyed fault_from inserted_fields uses_of
  surveyed_none n = ap Ok (same_noted _ _ _ _ _ _ (omega arith) (sym (append-nil n.fields)) (sym (append-nil n.uses)))

  -- one site
  pub one_noted : (n : Noted) (text : List ℕ) (s : Site) (fs : List (List ℕ)) (us : List Use) → fs ≡ n.fields ++ field_at s → us ≡ n.uses ++ uses_at w s
      → the_noted (n.next + 1) fs us ≡ behind w n (record { text = text; site = s } ∷ [])
  unfolding inserted_fields uses_of
  one_noted n text s fs us e f = same_noted _ _ _ _ _ _ refl
      (e ∙ ap (λ x. n.fields ++ x) (sym (append-nil (field_at s))))
      (f ∙ ap (λ x. n.uses ++ x) (sym (append-nil (uses_at w s))))

  -- ---- what a walk answers over some sites and those behind them

  ok_is : (x : Result Noted Fault) (n : Noted) → Some (Ok n) ≡ Some x → Ok n ≡ x
  ok_is x n e = cc e

  pub passes : (old mid new : Noted) (ps qs : List Placed) (told : Option Refused) → Some (Ok mid) ≡ Some (surveyed w old ps) → answer told new ≡ Some (surveyed w mid qs) → answer told new ≡ Some (surveyed w old (ps ++ qs))
  passes old mid new ps qs told e a = a ∙ ap Some (sym (surveyed_append old ps qs ∙ ap (λ x. going_on x (λ m. surveyed w m qs)) (sym (ok_is (surveyed w old ps) mid e))))

  -- as an equation of what is left
  pub goes_on : (old mid : Noted) (ps qs : List Placed) → Some (Ok mid) ≡ Some (surveyed w old ps) → surveyed w mid qs ≡ surveyed w old (ps ++ qs)
  goes_on old mid ps qs e = sym (surveyed_append old ps qs ∙ ap (λ x. going_on x (λ m. surveyed w m qs)) (sym (ok_is (surveyed w old ps) mid e)))

  stops_by : (old : Noted) (ps qs : List Placed) (o : Option Fault) (x : Result Noted Fault) → x ≡ surveyed w old ps → option_map Err o ≡ Some x → option_map Err o ≡ Some (surveyed w old (ps ++ qs))
  stops_by old ps qs None x e h = absurd (cc h)
  stops_by old ps qs (Some f) (Ok m) e h = absurd (cc h)
  stops_by old ps qs (Some f) (Err g) e h = h ∙ ap Some (sym (surveyed_append old ps qs ∙ ap (λ x. going_on x (λ m. surveyed w m qs)) (sym e)))

  pub stops : (old : Noted) (ps qs : List Placed) (o : Option Fault) → option_map Err o ≡ Some (surveyed w old ps) → option_map Err o ≡ Some (surveyed w old (ps ++ qs))
  stops old ps qs o h = stops_by old ps qs o (surveyed w old ps) refl h

  -- a site and those below it, at least one step down
  pub down : (depth : ℕ) (above : List ℕ) (s : Site) → 0 < depth → sites depth w above s ≡ (record { text = above ++ mark s.position; site = s } ∷ []) ++ flat_map (sites (depth - 1) w (above ++ mark s.position)) (sites_below w s)
  unfolding sites
  down zero above s h = absurd (omega (arith, h))
  down (suc d) above s h = ap (λ k. (record { text = above ++ mark s.position; site = s } ∷ []) ++ flat_map (sites k w (above ++ mark s.position)) (sites_below w s)) (one_less d)

  pub ends : (above : List ℕ) (s : Site) → sites zero w above s ≡ record { text = above ++ mark s.position; site = s } ∷ []
  unfolding sites
  ends above s = refl

  -- ---- a walk down from a site, and over sites in turn

  -- where it stops at the site, whatever stands below
  stops_above : (old : Noted) (depth : ℕ) (above : List ℕ) (s : Site) (o : Option Fault) → option_map Err o ≡ Some (surveyed w old (record { text = above ++ mark s.position; site = s } ∷ [])) → option_map Err o ≡ Some (surveyed w old (sites depth w above s))
  stops_above old zero above s o h = h ∙ ap (λ ps. Some (surveyed w old ps)) (sym (ends above s))
  stops_above old (suc d) above s o h = stops old (record { text = above ++ mark s.position; site = s } ∷ []) _ o h ∙ ap (λ ps. Some (surveyed w old ps)) (sym (down (suc d) above s (omega arith)))

  pub stops_site : (old new : Noted) (depth : ℕ) (above text : List ℕ) (s : Site) (told : Option Refused) (r : Refused) → told ≡ Some r → text ≡ above ++ mark s.position
      → answer told new ≡ Some (surveyed w old (record { text = text; site = s } ∷ [])) → option_map Err (fault_of_site r) ≡ Some (surveyed w old (sites depth w above s))
  stops_site old new depth above text s told r is e h = stops_above old depth above s (fault_of_site r) (ap (λ t. answer t new) (sym is) ∙ (h ∙ ap (λ t. Some (surveyed w old (record { text = t; site = s } ∷ []))) e))

  pub passes_site : (old mid new : Noted) (depth : ℕ) (above text : List ℕ) (s : Site) (first told : Option Refused) (below : List Site) → first ≡ None → text ≡ above ++ mark s.position → below ≡ sites_below w s → 0 < depth
      → answer first mid ≡ Some (surveyed w old (record { text = text; site = s } ∷ [])) → answer told new ≡ Some (surveyed w mid (flat_map (sites (depth - 1) w text) below))
      → answer told new ≡ Some (surveyed w old (sites depth w above s))
  passes_site old mid new depth above text s first told below is e b long h k =
      passes old mid new (record { text = above ++ mark s.position; site = s } ∷ []) (flat_map (sites (depth - 1) w (above ++ mark s.position)) (sites_below w s)) told
      (ap (λ t. answer t mid) (sym is) ∙ (h ∙ ap (λ t. Some (surveyed w old (record { text = t; site = s } ∷ []))) e))
      (k ∙ (ap (λ bs. Some (surveyed w mid (flat_map (sites (depth - 1) w text) bs))) b ∙ ap (λ t. Some (surveyed w mid (flat_map (sites (depth - 1) w t) (sites_below w s)))) e))
      ∙ ap (λ ps. Some (surveyed w old ps)) (sym (down depth above s long))

  abbrev all_below : (depth : ℕ) (above : List ℕ) → List program.Site → List Placed
  all_below depth above ss = flat_map (sites depth w above) (sites_view ss)

  turn : (depth : ℕ) (above : List ℕ) (ss : List program.Site) (i : ℕ) (s : program.Site) → i < length ss → s ≡ get_or ss i s → all_below depth above (drop i ss) ≡ sites depth w above (site_view s) ++ all_below depth above (drop (i + 1) ss)
  turn depth above ss i s lt is = at_drop_more (all_below depth above) ss i s lt ∙ ap (λ z. all_below depth above (z ∷ drop (i + 1) ss)) (sym is)

  pub stops_among : (start now new : Noted) (depth : ℕ) (above : List ℕ) (ss : List program.Site) (i : ℕ) (s : program.Site) (told : Option Refused) (r : Refused) → i < length ss → s ≡ get_or ss i s
      → surveyed w now (all_below depth above (drop i ss)) ≡ surveyed w start (all_below depth above ss) → told ≡ Some r → answer told new ≡ Some (surveyed w now (sites depth w above (site_view s)))
      → option_map Err (fault_of_site r) ≡ Some (surveyed w start (all_below depth above ss))
  stops_among start now new depth above ss i s told r lt at inv is h =
      stops now (sites depth w above (site_view s)) (all_below depth above (drop (i + 1) ss)) (fault_of_site r) (ap (λ t. answer t new) (sym is) ∙ h)
      ∙ ap Some (ap (surveyed w now) (sym (turn depth above ss i s lt at)) ∙ inv)

  pub goes_among : (start now new : Noted) (depth : ℕ) (above : List ℕ) (ss : List program.Site) (i : ℕ) (s : program.Site) (told : Option Refused) → i < length ss → s ≡ get_or ss i s
      → surveyed w now (all_below depth above (drop i ss)) ≡ surveyed w start (all_below depth above ss) → told ≡ None → answer told new ≡ Some (surveyed w now (sites depth w above (site_view s)))
      → surveyed w new (all_below depth above (drop (i + 1) ss)) ≡ surveyed w start (all_below depth above ss)
  goes_among start now new depth above ss i s told lt at inv is h =
      goes_on now new (sites depth w above (site_view s)) (all_below depth above (drop (i + 1) ss)) (ap (λ t. answer t new) (sym is) ∙ h)
      ∙ (ap (surveyed w now) (sym (turn depth above ss i s lt at)) ∙ inv)

  pub ends_among : (start now : Noted) (depth : ℕ) (above : List ℕ) (ss : List program.Site) (i : ℕ) → length ss ≤ i
      → surveyed w now (all_below depth above (drop i ss)) ≡ surveyed w start (all_below depth above ss) → Some (Ok now) ≡ Some (surveyed w start (all_below depth above ss))
  ends_among start now depth above ss i le inv = ap Some (surveyed_none now ∙ (ap (λ z. surveyed w now (all_below depth above z)) (sym (drop_of_length-le ss le)) ∙ inv))

  -- ---- the whole walk

  pub all_sites : (of : TypeId) (s : Site) → Some s ≡ root_site w of → sites_of w of ≡ sites 65 w [] s
  unfolding sites_of
  all_sites of s e = ap (λ o. flat_map (sites 65 w []) (option_to_list o)) (sym e) ∙ append-nil (sites 65 w [] s)

  fault_told : (n : Noted) (ps : List Placed) (o x : Option Fault) → option_map Err o ≡ Some (unless_fault x (behind w n ps)) → o ≡ x
  fault_told n ps None x h = absurd (cc h)
  fault_told n ps (Some f) None h = absurd (cc h)
  fault_told n ps (Some f) (Some g) h = cc h

  fault_there : (n : Noted) (ps : List Placed) (o x : Option Fault) → option_map Err o ≡ Some (unless_fault x (behind w n ps)) → IsTrue (is_some x)
  fault_there n ps None x h = absurd (cc h)
  fault_there n ps (Some f) None h = absurd (cc h)
  fault_there n ps (Some f) (Some g) h = refl

  -- where a walk stops there is a fault
  pub walk_has_fault : (n : Noted) (ps : List Placed) (o : Option Fault) → option_map Err o ≡ Some (surveyed w n ps) → IsTrue (is_some (fault_from w n.next ps))
  unfolding surveyed
  walk_has_fault n ps o h = fault_there n ps o (fault_from w n.next ps) h

  pub fault_of_walk : (n : Noted) (ps : List Placed) (o : Option Fault) → option_map Err o ≡ Some (surveyed w n ps) → o ≡ fault_from w n.next ps
  unfolding surveyed
  fault_of_walk n ps o h = fault_told n ps o (fault_from w n.next ps) h

  none_told : (n m : Noted) (ps : List Placed) (x : Option Fault) → Some (Ok m) ≡ Some (unless_fault x (behind w n ps)) → (x ≡ None) × (m ≡ behind w n ps)
  none_told n m ps None h = (refl, cc h)
  none_told n m ps (Some g) h = absurd (cc h)

  pub end_of_walk : (n m : Noted) (ps : List Placed) → Some (Ok m) ≡ Some (surveyed w n ps) → (fault_from w n.next ps ≡ None) × (m ≡ behind w n ps)
  unfolding surveyed
  end_of_walk n m ps h = none_told n m ps (fault_from w n.next ps) h
