-- Contents as they are kept: one more, and the innermost.
use Rattle.std.proofs.Common.{◌≡◌, ℕ, zero, suc, ◌+◌, ◌-◌, ◌<◌, ◌≤◌, true, false, List, [], ◌∷◌, ◌++◌, length, take, get_or, remove, Option, Some, None, refl, sym, ap, ◌∙◌, subst, arith}
use Rattle.std.specs.Prelude.{is_some, slice_get}
use Rattle.acn_bits.specs.Overwrite.{Gap}
use Rattle.acn_events.specs.Event.{Frame}
use Rattle.acn_events.specs.Steps.{gap_of, tail_of}
use Rattle.acn_fill.specs.Table.{have_holes}
use Rattle.acn_writer.specs.Contents.{are_sized, frames_before, frames_of}
use Rattle.acn_writer.specs.declared.frame.Opening.{Opening}

abbrev pub frame : ℕ → Option Gap → Frame
frame base gap = record { base = base; gap = gap }

frames_push_before : (done : List Frame) (os : List Opening) (o : Opening) (gs : List (Option Gap)) (g : Option Gap) → have_holes gs ≡ are_sized os → frames_before done (os ++ o ∷ []) (gs ++ g ∷ []) ≡ frame o.base g ∷ frames_before done os gs
frames_push_before done [] o [] g h = refl
frames_push_before done [] o (x ∷ gs) g h = cc
frames_push_before done (p ∷ os) o [] g h = cc
frames_push_before done (p ∷ os) o (x ∷ gs) g h = frames_push_before (frame p.base x ∷ done) os o gs g cc

pub frames_push : (os os' : List Opening) (o : Opening) (gs gs' : List (Option Gap)) (g : Option Gap) → os' ≡ os ++ o ∷ [] → gs' ≡ gs ++ g ∷ [] → have_holes gs ≡ are_sized os → frames_of os' gs' ≡ frame o.base g ∷ frames_of os gs
frames_push os os' o gs gs' g p q h = ap (λ z. frames_of z gs') p ∙ (ap (λ z. frames_of (os ++ o ∷ []) z) q ∙ frames_push_before [] os o gs g h)

holes_push : (gs : List (Option Gap)) (g : Option Gap) → have_holes (gs ++ g ∷ []) ≡ have_holes gs ++ is_some g ∷ []
holes_push [] g = refl
holes_push (x ∷ gs) g = ap (λ z. is_some x ∷ z) (holes_push gs g)

sized_push : (os : List Opening) (o : Opening) → are_sized (os ++ o ∷ []) ≡ are_sized os ++ o.sized ∷ []
sized_push [] o = refl
sized_push (x ∷ os) o = ap (λ z. x.sized ∷ z) (sized_push os o)

pub tied_push : (os os' : List Opening) (o : Opening) (gs gs' : List (Option Gap)) (g : Option Gap) → os' ≡ os ++ o ∷ [] → gs' ≡ gs ++ g ∷ [] → is_some g ≡ o.sized → have_holes gs ≡ are_sized os → have_holes gs' ≡ are_sized os'
tied_push os os' o gs gs' g p q k h =
    ap have_holes q ∙ (holes_push gs g ∙ (ap (λ z. z ++ is_some g ∷ []) h ∙ (ap (λ z. are_sized os ++ z ∷ []) k ∙ (sym (sized_push os o) ∙ sym (ap are_sized p)))))

pub frames_long : (os : List Opening) (gs : List (Option Gap)) → have_holes gs ≡ are_sized os → length (frames_of os gs) ≡ length os
frames_long os gs h = long_before [] os gs h ∙ none (length os)
  where
    none : (n : ℕ) → n + 0 ≡ n
    none n = omega arith

    long_before : (done : List Frame) (os : List Opening) (gs : List (Option Gap)) → have_holes gs ≡ are_sized os → length (frames_before done os gs) ≡ length os + length done
    long_before done [] [] h = omega arith
    long_before done [] (x ∷ gs) h = cc
    long_before done (p ∷ os) [] h = cc
    long_before done (p ∷ os) (x ∷ gs) h = (let r = long_before (frame p.base x ∷ done) os gs cc in omega (arith, r))

pub holes_long : (os : List Opening) (gs : List (Option Gap)) → have_holes gs ≡ are_sized os → length gs ≡ length os
holes_long [] [] h = refl
holes_long [] (x ∷ gs) h = cc
holes_long (p ∷ os) [] h = cc
holes_long (p ∷ os) (x ∷ gs) h = ap suc (holes_long os gs cc)

-- The last opening and hole are those of the innermost contents.
pub record Last (os : List Opening) (o : Opening) (gs : List (Option Gap)) (at : ℕ) : Type 0 where
  pub gap : Option Gap
  pub hole : slice_get gs at ≡ Some gap
  pub sized : is_some gap ≡ o.sized
  pub tied : have_holes (remove gs at) ≡ are_sized os
  pub split : gs ≡ remove gs at ++ gap ∷ []

last_hole : (os : List Opening) (o : Opening) (gs : List (Option Gap)) → have_holes gs ≡ are_sized (os ++ o ∷ []) → Last os o gs (length os)
last_hole [] o [] h = cc
last_hole [] o (g ∷ []) h = record { gap = g; hole = refl; sized = cc; tied = refl; split = refl }
last_hole [] o (g ∷ x ∷ gs) h = cc
last_hole (p ∷ os) o [] h = cc
last_hole (p ∷ os) o (x ∷ gs) h =
    let tails : have_holes gs ≡ are_sized (os ++ o ∷ []) = cc in
    let heads : is_some x ≡ p.sized = cc in
    let r = last_hole os o gs tails in
    record {
      gap = r.gap;
      hole = r.hole;
      sized = r.sized;
      tied = ap (λ z. z ∷ have_holes (remove gs (length os))) heads ∙ ap (λ z. p.sized ∷ z) r.tied;
      split = ap (λ z. x ∷ z) r.split;
    }

pub innermost : (os os' : List Opening) (o : Opening) (gs : List (Option Gap)) (at : ℕ) → os' ≡ os ++ o ∷ [] → at ≡ length os → have_holes gs ≡ are_sized os' → Last os o gs at
innermost os os' o gs at p q h = subst (λ (k : ℕ). Last os o gs k) (sym q) (last_hole os o gs (h ∙ ap are_sized p))

pub innermost_frames : (os os' : List Opening) (o : Opening) (gs : List (Option Gap)) (at : ℕ) (last : Last os o gs at) → os' ≡ os ++ o ∷ [] → frames_of os' gs ≡ frame o.base last.gap ∷ frames_of os (remove gs at)
innermost_frames os os' o gs at last p = ap (λ z. frames_of os' z) last.split ∙ frames_push os os' o (remove gs at) (remove gs at ++ last.gap ∷ []) last.gap p refl last.tied

last_split : (xs : List Opening) (i : ℕ) (d : Opening) → suc i ≡ length xs → xs ≡ take i xs ++ get_or xs i d ∷ []
last_split [] i d h = absurd (omega (arith, h))
last_split (x ∷ []) zero d h = refl
last_split (x ∷ y ∷ xs) zero d h = absurd (omega (arith, h))
last_split (x ∷ xs) (suc i) d h = ap (λ z. x ∷ z) (last_split xs i d (omega (arith, h)))

take_long : (n : ℕ) (xs : List Opening) → n ≤ length xs → length (take n xs) ≡ n
take_long zero xs h = refl
take_long (suc n) [] h = absurd (omega arith)
take_long (suc n) (x ∷ xs) h = ap suc (take_long n xs (omega arith))

-- the innermost contents are those of the last opening
pub at_end : (os : List Opening) (gs : List (Option Gap)) (i : ℕ) (d : Opening) → suc i ≡ length os → have_holes gs ≡ are_sized os → (last : Last (take i os) (get_or os i d) gs i) × (frames_of os gs ≡ frame (get_or os i d).base last.gap ∷ frames_of (take i os) (remove gs i))
at_end os gs i d n h =
    let split = last_split os i d n in
    let long : i ≡ length (take i os) = sym (take_long i os (omega (arith, n))) in
    let last = innermost (take i os) os (get_or os i d) gs i split long h in
    (last, innermost_frames (take i os) os (get_or os i d) gs i last split)

abbrev pub no_opening : Opening
no_opening = record { base = 0; sized = false }

-- the hole of the innermost
pub hole_so : (os : List Opening) (gs : List (Option Gap)) (fs : List Frame) (n : ℕ) → n ≡ length os → have_holes gs ≡ are_sized os → frames_of os gs ≡ fs → 0 < length fs → slice_get gs (n - 1) ≡ Some (gap_of fs)
hole_so os gs fs n e h f some =
    let long = sym (frames_long os gs h) ∙ ap length f in
    let r = at_end os gs (n - 1) no_opening (omega (arith, e, long, some)) h in
    r.0.hole ∙ ap Some (sym (ap gap_of (sym f ∙ r.1)))

-- what is left without the innermost
pub left_so : (os os' : List Opening) (gs gs' : List (Option Gap)) (fs : List Frame) (n : ℕ) → n ≡ length os → have_holes gs ≡ are_sized os → frames_of os gs ≡ fs → 0 < length fs → os' ≡ take (length os - 1) os → gs' ≡ remove gs (n - 1) → (have_holes gs' ≡ are_sized os') × (frames_of os' gs' ≡ tail_of fs)
left_so os os' gs gs' fs n e h f some p q =
    let long = sym (frames_long os gs h) ∙ ap length f in
    let r = at_end os gs (n - 1) no_opening (omega (arith, e, long, some)) h in
    let at : length os - 1 ≡ n - 1 = ap (λ (k : ℕ). k - 1) (sym e) in
    let front : os' ≡ take (n - 1) os = p ∙ ap (λ (k : ℕ). take k os) at in
    (ap have_holes q ∙ (r.0.tied ∙ sym (ap are_sized front)), ap (λ z. frames_of z gs') front ∙ (ap (λ z. frames_of (take (n - 1) os) z) q ∙ (sym (ap tail_of r.1) ∙ ap tail_of f)))

pub some_begun : (fs : List Frame) (g : Gap) → gap_of fs ≡ Some g → 0 < length fs
some_begun [] g h = cc
some_begun (f ∷ fs) g h = omega arith

pub none_kept : (gs : List (Option Gap)) (os : List Opening) → have_holes gs ≡ are_sized os → frames_of os gs ≡ [] → gs ≡ []
none_kept [] os h e = refl
none_kept (g ∷ gs) os h e = (let a = holes_long os (g ∷ gs) h in let b = sym (frames_long os (g ∷ gs) h) ∙ ap length e in absurd (omega (arith, a, b)))

pub with_gap : (o : Option Gap) → is_some o ≡ true → (g : Gap) × (o ≡ Some g)
with_gap None h = cc
with_gap (Some g) h = (g, refl)

pub without_gap : (o : Option Gap) → is_some o ≡ false → o ≡ None
without_gap None h = refl
without_gap (Some g) h = cc
