-- The written header, and that it is one by the grammar.
use mathlib.Core.Path.{◌≡◌, refl, sym, ap, ◌∙◌}
use mathlib.Core.List.{List, [], ◌∷◌, ◌++◌, append_assoc}
use Prim.Native.Nat.{ℕ, zero, suc, ◌+◌, ◌*◌, ◌^◌, ◌≤◌, ◌<◌}
use native.Mathlib.Omega.{arith}
use lib.ListN.{length, length-append}
use Rattle.text.specs.Text.{ascii}
use Rattle.text.specs.Decimal.{decimal_within, decimal}
use Rattle.text.proofs.Decimal.{decimal_means}
use Rattle.netpbm.specs.Header.{area_limit, header_text, written_limit, WrittenHeadersFit}
use Rattle.netpbm.specs.Grammar.{Parts, text_of, Numeral, IsHeader}
use Rattle.netpbm.proofs.WhiteTexts.{one_space}

pub header_size : (width height : ℕ) → length (header_text width height) ≡ length (decimal width) + length (decimal height) + 9
unfolding header_text
header_size width height = simp length-append (omega arith)

-- a factor of a positive product is at most the product
factor_at_most : (m n : ℕ) → 0 < m * n → m ≤ m * n
factor_at_most m zero some = absurd (omega arith)
factor_at_most m (suc n) some = omega arith

-- A picture of accepted size.
module _ (width height : ℕ) (some : 0 < width * height) (most : width * height ≤ area_limit) where
  -- its sides have at most five digits
  pub width_fits : width < 10 ^ 5
  width_fits = omega (arith, factor_at_most width height some)

  pub height_fits : height < 10 ^ 5
  height_fits = omega (arith, factor_at_most height width (omega arith))

  -- so its header is short
  header_short : length (header_text width height) ≤ written_limit
  header_short =
      omega (
        arith,
        header_size width height,
        decimal_means.most width 5 (omega arith) width_fits,
        decimal_means.most height 5 (omega arith) height_fits,
      )

pub written_headers_fit : WrittenHeadersFit
written_headers_fit = header_short

-- its parts
abbrev pub written_parts : ℕ → ℕ → Parts
written_parts width height = record {
  before_width = 10 ∷ [];
  width = decimal width;
  before_height = 32 ∷ [];
  height = decimal height;
  before_largest = 10 ∷ [];
  largest = decimal 255;
  last = 10;
}

largest_text : decimal 255 ≡ 50 ∷ 53 ∷ 53 ∷ []
unfolding decimal decimal_within
largest_text = refl

pub written_text : (width height : ℕ) → header_text width height ≡ text_of (written_parts width height)
unfolding header_text
written_text width height =
    let front = ascii "P6\n" ++ decimal width ++ (32 ∷ []) ++ decimal height in
    ap (λ (digits : List ℕ). front ++ (10 ∷ (digits ++ (10 ∷ [])))) (sym largest_text)
    ∙ sym (append_assoc front (10 ∷ []) (decimal 255 ++ (10 ∷ [])))
    ∙ sym (append_assoc (front ++ (10 ∷ [])) (decimal 255) (10 ∷ []))

-- a number of at most five digits
written_numeral : (n : ℕ) → n < 10 ^ 5 → Numeral (decimal n)
written_numeral n less = record {
  some = decimal_means.some n;
  most = decimal_means.most n 5 (omega arith) less;
  digits = decimal_means.digits n;
}

pub written_is_header : (width height : ℕ) → width < 10 ^ 5 → height < 10 ^ 5 → IsHeader (written_parts width height)
written_is_header width height narrow low =
    let widths = written_numeral width narrow in
    let heights = written_numeral height low in
    record {
      before_width = one_space 10 refl;
      width = widths;
      before_height = one_space 32 refl;
      height = heights;
      before_largest = one_space 10 refl;
      largest = written_numeral 255 (omega arith);
      last = refl;
      limit = omega (arith, header_size width height, ap length (written_text width height), widths.most, heights.most);
    }
