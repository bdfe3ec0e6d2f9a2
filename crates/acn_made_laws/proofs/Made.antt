-- The tree that is made of the sites of a type without a reason.
use Rattle.std.proofs.Common.{◌≡◌, Bool, ◌∙◌, inl, inr, ◌+◌, true, List, [], ◌∷◌, length, refl, sym, ap, subst, suc, nat_le, nat_lt, false, None, arith, ◌≤◌, ℕ}
use Rattle.std.proofs.lemmas.Bool.Decides.{nat_tests}
use Rattle.std.specs.List.{AllByRecursion, AllZip}
use Rattle.acn_grammar.specs.Asks.{same_name}
use Rattle.acn_grammar.specs.Leaves.{all_differ}
use Rattle.acn_grammar.specs.Tree.{is_align, form_fine, role_fine, is_tree}
use Rattle.acn_grammar.specs.Walk.{Stand, nodes_of}
use Rattle.acn_grammar.specs.declared.limits.TheConstants.{MOST_NODES}
use Rattle.acn_home_laws.specs.Laws.{NodesRise, NodesInsideGoOn}
use Rattle.acn_home_laws.specs.Numbered.{IsNumbered}
use Rattle.acn_home_laws.specs.Rules.{slots_fine, SlotRulesHold}
use Rattle.acn_home_laws.proofs.Members.{In, each_has, all_have}
use Rattle.acn_home_laws.proofs.Unique.{one_there}
use Rattle.acn_homes.specs.Homes.{Path, Rises, slots}
use Rattle.acn_homes.specs.Laws.{NamedFieldsAreNumbered}
use Rattle.acn_index.specs.World.{World}
use Rattle.acn_index.specs.declared.sources.TypeId.{TypeId}
use Rattle.acn_made.specs.Made.{made}
use Rattle.acn_made.specs.Named.{Slots}
use Rattle.acn_made_laws.proofs.Depth.{FineAll}
use Rattle.acn_made_laws.proofs.Facts.{is_numbered}
use Rattle.acn_made_laws.proofs.Fine.{FineSite, all_fine, few_sites}
use Rattle.acn_made_laws.proofs.Leading.{Listing}
use Rattle.acn_made_laws.proofs.Listed.{below_listed}
use Rattle.acn_made_laws.proofs.Reaching.{ScopeRound, all_round}
use Rattle.acn_made_laws.proofs.Roles.{roles_fine}
use Rattle.acn_made_laws.proofs.Choices.{few_inside, node_ruled}
use Rattle.acn_made_laws.proofs.Names.{outer_fine}
use Rattle.acn_made_laws.proofs.Whole.{align_fine, fine_whole}
use Rattle.acn_made_laws.proofs.Standing.{StandAll, nodes_stand, paths_stand, root_is, all_sites}
use Rattle.acn_made_laws.specs.Laws.{WithoutReason, root_of_type, InsertedFieldsFit, NamesInsideDiffer, names_inside, has_some, is_ruled, is_outer}
use Rattle.acn_made_laws.specs.Standing.{StandsFor}
use Rattle.acn_num.specs.declared.limits.TheConstants.{MOST_STEPS}
use Rattle.acn_sites.specs.Sites.{Site, Placed, base_of, below, sites, sites_of, sites_below}
use Rattle.acn_survey.specs.Reasons.{reason_at}
use Rattle.acn_survey.specs.Walk.{inserted_fields, uses_of}

left_of : {A B : Type 0} (R : A → B → Type 0) (xs : List A) (ys : List B) → AllZip R xs ys → (x : A) → In x xs → (y : B) × In y ys × R x y
left_of R [] [] h x m = absurd m
left_of R [] (z ∷ ys) h x m = absurd h
left_of R (v ∷ xs) [] h x m = absurd h
left_of R (v ∷ xs) (z ∷ ys) h x (inl e) = (z, inl refl, subst (λ q. R q z) (sym e) h.0)
left_of R (v ∷ xs) (z ∷ ys) h x (inr m) = (let r = left_of R xs ys h.1 x m in (r.0, inr r.1, r.2))

right_of : {A B : Type 0} (R : A → B → Type 0) (xs : List A) (ys : List B) → AllZip R xs ys → (y : B) → In y ys → (x : A) × In x xs × R x y
right_of R [] [] h y m = absurd m
right_of R [] (z ∷ ys) h y m = absurd h
right_of R (v ∷ xs) [] h y m = absurd h
right_of R (v ∷ xs) (z ∷ ys) h y (inl e) = (v, inl refl, subst (R v) (sym e) h.0)
right_of R (v ∷ xs) (z ∷ ys) h y (inr m) = (let r = right_of R xs ys h.1 y m in (r.0, inr r.1, r.2))

module _ (w : World) (of : TypeId) (s : Site) (sound : WithoutReason w of s) where
  abbrev ps : List Placed
  ps = sites_of w of

  abbrev ss : Slots
  ss = slots (inserted_fields ps) (uses_of w ps)

  abbrev all : List Stand
  all = nodes_of (made (MOST_STEPS + 1) w ss s)

  stand : StandAll w ss all ps
  stand = nodes_stand w of s sound ss

  fine : FineAll w ps
  fine = all_fine w 1 ps sound.1

  fine_down : FineAll w (sites 65 w [] s)
  fine_down = subst (FineAll w) (all_sites w of s sound.0) fine

  at_root : length s.path + 65 ≡ 65
  at_root = ap (λ (q : Path). length q + 65) (root_is w of s sound.0).0

  below_there : (p : Placed) → In p ps → (x : Site) → In x (sites_below w p.site) → (q : Placed) × In q ps × (q.site ≡ x)
  below_there p m x k =
      let r = below_listed w 65 [] s fine_down at_root p (subst (In p) (all_sites w of s sound.0) m) x k in
      (r.0, subst (In r.0) (sym (all_sites w of s sound.0)) r.1, r.2)

  known : NodesRise → Listing w ss ps all
  known rise = record {
    fine = λ p m. each_has (λ (p : Placed). FineSite w p.site) ps fine p m;
    node = λ p m. right_of (λ (at : Stand) (p : Placed). StandsFor w ss at p.site) all ps stand p m;
    site = λ at m. left_of (λ (at : Stand) (p : Placed). StandsFor w ss at p.site) all ps stand at m;
    below = below_there;
    one = λ p q m k e. ap (λ (z : Placed). z.site) (one_there (λ (z : Placed). z.site.path) ps (subst Rises (paths_stand w of s sound ss) (rise (made (MOST_STEPS + 1) w ss s))) p q m k e);
  }

  rounds : (rise : NodesRise) (p : Placed) → In p ps → ScopeRound w ss ps all (known rise) p.site.path p.site.scope
  rounds rise p m =
      all_round w ss ps all (known rise) 65 [] s fine_down at_root (λ q k. subst (In q) (sym (all_sites w of s sound.0)) k)
      (subst (ScopeRound w ss ps all (known rise) s.path) (sym (root_is w of s sound.0).2) (record { frames = tt; bound = tt })) p (subst (In p) (all_sites w of s sound.0) m)

  pub numbered_there : NamedFieldsAreNumbered → NodesRise → IsNumbered (root_of_type w of s) (inserted_fields ps) (uses_of w ps)
  numbered_there law rise = is_numbered w ps (made (MOST_STEPS + 1) w ss s) (known rise) (rounds rise) law

  pub rules_there : NamedFieldsAreNumbered → NodesRise → SlotRulesHold → slots_fine (nodes_of (root_of_type w of s)) ≡ true
  rules_there law rise rules = rules (root_of_type w of s) (inserted_fields ps) (uses_of w ps) (numbered_there law rise)

  pub without_reason : AllByRecursion (λ (p : Placed). (number : ℕ) × (reason_at w number p.site ≡ None)) ps
  without_reason = all_have (λ (p : Placed). (number : ℕ) × (reason_at w number p.site ≡ None)) ps (λ p m. (let f = each_has (λ (p : Placed). FineSite w p.site) ps fine p m in (f.number, f.none)))

  -- as many nodes as sites
  same_length : (xs : List Stand) (qs : List Placed) → StandAll w ss xs qs → length xs ≡ length qs
  same_length [] [] h = refl
  same_length [] (q ∷ qs) h = absurd h
  same_length (x ∷ xs) [] h = absurd h
  same_length (x ∷ xs) (q ∷ qs) h = ap (λ (n : ℕ). suc n) (same_length xs qs h.1)

  few_nodes : nat_le (length all) MOST_NODES ≡ true
  few_nodes = (let e = same_length all ps stand in let l = few_sites w 1 ps (omega arith) sound.1 in is_most (length all) (omega (arith, e, l)))
    where
      is_most : (n : ℕ) → n ≤ MOST_NODES → nat_le n MOST_NODES ≡ true
      is_most n l = grind (arith, nat_tests)

  short_paths : NodesRise → AllByRecursion (λ (at : Stand). nat_le (length at.path) MOST_STEPS ≡ true) all
  short_paths rise = all_have (λ (at : Stand). nat_le (length at.path) MOST_STEPS ≡ true) all
      (λ at m. (let p = (known rise).site at m in ap (λ (q : Path). nat_le (length q) MOST_STEPS) p.2.path ∙ not_deep (length p.0.site.path) (each_has (λ (p : Placed). FineSite w p.site) ps fine p.0 p.1).shallow))
    where
      not_deep : (n : ℕ) → nat_lt MOST_STEPS n ≡ false → nat_le n MOST_STEPS ≡ true
      not_deep n h = grind (arith, nat_tests)

  pub within_limits : NodesRise → (nat_le (length (nodes_of (root_of_type w of s))) MOST_NODES ≡ true) × AllByRecursion (λ (at : Stand). nat_le (length at.path) MOST_STEPS ≡ true) (nodes_of (root_of_type w of s))
  within_limits rise = (few_nodes, short_paths rise)

  pub roles_there : NamedFieldsAreNumbered → NodesRise → InsertedFieldsFit w of → AllByRecursion (λ (at : Stand). role_fine at.role at.form ≡ true) (nodes_of (root_of_type w of s))
  roles_there law rise fit = roles_fine w ps (made (MOST_STEPS + 1) w ss s) (known rise) (rounds rise) law fit

  -- ---- all rules

  aligned : NodesRise → AllByRecursion (λ (at : Stand). is_align at.align ≡ true) all
  aligned rise = all_have (λ (at : Stand). is_align at.align ≡ true) all (λ at m. (let p = (known rise).site at m in ap is_align p.2.align ∙ align_fine p.0.site))

  pub choices_there : NodesRise → NodesInsideGoOn → AllByRecursion (λ (at : Stand). is_ruled at.form ≡ true) (nodes_of (root_of_type w of s))
  choices_there rise law = all_have (λ (at : Stand). is_ruled at.form ≡ true) all
      (λ at m. (let p = (known rise).site at m in node_ruled w ss at p.0.site p.2 (let l = few_inside law (made (MOST_STEPS + 1) w ss s) at m in omega (arith, l, not_over (length all) few_nodes))))
    where
      not_over : (n : ℕ) → nat_le n MOST_NODES ≡ true → n ≤ MOST_NODES
      not_over n h = grind (arith, nat_tests)

  pub whole_there : NamedFieldsAreNumbered → NodesRise → SlotRulesHold → InsertedFieldsFit w of → AllByRecursion (λ (at : Stand). form_fine at.form ≡ true) (nodes_of (root_of_type w of s)) → is_tree (root_of_type w of s) ≡ true
  whole_there law rise rules fit formed = fine_whole all few_nodes (short_paths rise) (aligned rise) formed (roles_there law rise fit) (rules_there law rise rules)

  pub outer_there : NodesRise → NodesInsideGoOn → NamesInsideDiffer w of → AllByRecursion (λ (at : Stand). is_outer at.form ≡ true → form_fine at.form ≡ true) (nodes_of (root_of_type w of s))
  outer_there rise law differ = all_have (λ (at : Stand). is_outer at.form ≡ true → form_fine at.form ≡ true) all
      (λ at m. (let p = (known rise).site at m in
      let d = each_has (λ (p : Placed). (all_differ same_name (names_inside (base_of p.site) (below w p.site).braces) ≡ true) × (has_some (base_of p.site) ≡ true)) ps differ p.0 p.1 in
      outer_fine w ss at p.0.site p.2 (each_has (λ (p : Placed). FineSite w p.site) ps fine p.0 p.1) d.0 d.1 (each_has (λ (at : Stand). is_ruled at.form ≡ true) all (choices_there rise law) at m)))

  pub leaves_there : NamedFieldsAreNumbered → NodesRise → NodesInsideGoOn → SlotRulesHold → InsertedFieldsFit w of → NamesInsideDiffer w of → AllByRecursion (λ (at : Stand). is_outer at.form ≡ false → form_fine at.form ≡ true) (nodes_of (root_of_type w of s)) → is_tree (root_of_type w of s) ≡ true
  leaves_there law rise inner rules fit differ leaves =
      whole_there law rise rules fit
      (all_have (λ (at : Stand). form_fine at.form ≡ true) all
      (λ at m. either (form_fine at.form ≡ true) (is_outer at.form)
      (each_has (λ (at : Stand). is_outer at.form ≡ true → form_fine at.form ≡ true) all (outer_there rise inner differ) at m)
      (each_has (λ (at : Stand). is_outer at.form ≡ false → form_fine at.form ≡ true) all leaves at m)))
    where
      either : (P : Type 0) (b : Bool) → (b ≡ true → P) → (b ≡ false → P) → P
      either P true f g = f refl
      either P false f g = g refl
