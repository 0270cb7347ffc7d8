-- When two texts are the same.
use Rattle.std.proofs.Common.{◌≡◌, ℕ, List, [], ◌∷◌, ◌&&◌, Bool, false, eqb, length, refl, sym, ap, ◌∙◌}
use Rattle.std.specs.Str.{bytes_eq}
use Rattle.std.proofs.lemmas.Slice.Eq.{bytes_eq-Decides}
use Rattle.std.proofs.lemmas.Bool.{false_from_ne_true}
use Rattle.scanning.specs.Scanning.{same_bytes, SameMeansEqual}

-- For callers: `==` on two texts answers whether they are the same.
pub same_is_eq : (a b : List ℕ) → same_bytes a b ≡ bytes_eq a b
unfolding same_bytes
same_is_eq [] [] = refl
same_is_eq [] (y ∷ ys) = refl
same_is_eq (x ∷ xs) [] = refl
same_is_eq (x ∷ xs) (y ∷ ys) = ap (λ (rest : Bool). eqb x y && rest) (same_is_eq xs ys)

pub same_means_equal : SameMeansEqual
same_means_equal = record {
  sound = λ a b same. (bytes_eq-Decides a b).0 (sym (same_is_eq a b) ∙ same);
  complete = λ a. same_is_eq a a ∙ (bytes_eq-Decides a a).1 refl;
}

-- texts of different lengths are not the same
pub lengths_differ : (a b : List ℕ) → (length a ≡ length b → ⊥) → same_bytes a b ≡ false
lengths_differ a b differ = false_from_ne_true (same_bytes a b) (λ same. differ (ap length (same_means_equal.sound a b same)))
