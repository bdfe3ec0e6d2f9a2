-- Files that are short enough, one more among them.
use Rattle.std.proofs.Common.{◌≡◌, ℕ, zero, suc, ◌≤◌, List, [], ◌∷◌, ◌++◌, length, Some, None, subst}
use Rattle.std.specs.Prelude.{slice_get}
use Rattle.acn_num.specs.declared.limits.TheConstants.{MOST_FILE_BYTES}
use Rattle.acn_sources.specs.Files.{AreShort}
use Rattle.acn_sources.specs.declared.sources.File.{File}

some_same : {A : Type 0} (x y : A) → Some x ≡ Some y → x ≡ y
some_same x y e = cc e

pub short_push : (xs : List File) (f : File) → AreShort xs → length f.bytes.now ≤ MOST_FILE_BYTES → AreShort (xs ++ f ∷ [])
short_push [] f h s zero g e = subst (λ x. length x.bytes.now ≤ MOST_FILE_BYTES) (some_same f g e) s
short_push [] f h s (suc n) g e = cc e
short_push (x ∷ xs) f h s zero g e = h zero g e
short_push (x ∷ xs) f h s (suc n) g e = short_push xs f (λ m k d. h (suc m) k d) s n g e
