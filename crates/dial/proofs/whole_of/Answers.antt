-- `dial::whole_of` meets its contract: the tests of the range, the cut and the comparison with it find the whole number, and it alone.
use Rattle.std.proofs.Common.{◌≡◌, ℕ, ◌^◌, ◌<◌, ◌≤◌, false, true, pos, sym, ap, ◌∙◌, le_trans, lt_of_lt_of_le, lt_of_le_of_lt, le_of_lt, lit≤, le→leb}
use mathlib.Core.Bool.{false≢true}
use lib.Ieee.{Float, binary64, fin, of_bits, of_int, in_float, to_unsigned, eq, le}
use lib.Ieee.Back.{round_whole}
use lib.Ieee.Exact.{HasValue}
use Rattle.dial.specs.Dial.{IsExactly}
use Rattle.dial.proofs.Exact.{complete, none}
use Rattle.dial.proofs.Machine.{known, equal, Within, within}
use Rattle.dial.proofs.whole_of.Goals as goal

-- a whole number of 32 bits is a 64-bit float
float_of : (k : ℕ) → k < 2 ^ 32 → HasValue (of_int binary64 (pos k)) false k 1
unfolding of_int
float_of k fits = round_whole binary64 false k (le_trans (le_of_lt fits) (lit≤ tt))

-- what passes both tests of the range can be cut
in_range : (y : Float) (top : ℕ) → top < 2 ^ 32 → le (fin false 0 (pos 0)) y ≡ true → le y (of_int binary64 (pos top)) ≡ true → Within y top
in_range y top fits above below = within y _ top (float_of top fits) (lt_of_lt_of_le fits (lit≤ tt)) above below

-- the cut is at most top, and so a number of 32 bits
at_most_top : (y : Float) (top k : ℕ) → Within y top → k ≡ to_unsigned 64 y → k ≤ top
at_most_top y top k passed cut = rw cut passed.few

pub truncating_f64_to_u64-k-requires-clause-lower_bound : goal.truncating_f64_to_u64-k-requires-clause-lower_bound
unfolding of_bits
truncating_f64_to_u64-k-requires-clause-lower_bound c =
    (in_range c.args.y c.args.top c.ranges.top.fits c.if-y.true (rw c.from-last.ensures at c.if-y-last.true)).above_minus_one

pub truncating_f64_to_u64-k-requires-clause-upper_bound : goal.truncating_f64_to_u64-k-requires-clause-upper_bound
unfolding of_bits
truncating_f64_to_u64-k-requires-clause-upper_bound c =
    (in_range c.args.y c.args.top c.ranges.top.fits c.if-y.true (rw c.from-last.ensures at c.if-y-last.true)).below_the_end

pub int_to_float-k : goal.int_to_float-k
unfolding in_float of_bits
int_to_float-k c =
    let passed = in_range c.args.y c.args.top c.ranges.top.fits c.if-y.true (rw c.from-last.ensures at c.if-y-last.true) in
    let few = at_most_top _ _ _ passed c.truncating_f64_to_u64-k.ensures in
    le→leb c.truncating_f64_to_u64-k.result (2 ^ 53) (le_trans (le_of_lt (lt_of_le_of_lt few c.ranges.top.fits)) (lit≤ tt))

pub overflow_cast-result : goal.overflow_cast-result
unfolding of_bits
overflow_cast-result c =
    let passed = in_range c.args.y c.args.top c.ranges.top.fits c.if-y.true (rw c.from-last.ensures at c.if-y-last.true) in
    let few = at_most_top _ _ _ passed c.truncating_f64_to_u64-k.ensures in
    record { fits = lt_of_le_of_lt few c.ranges.top.fits }

-- what equals its cut is that whole number
pub returns-then-k-y : goal.returns-then-k-y
unfolding of_bits
returns-then-k-y c =
    let passed = in_range c.args.y c.args.top c.ranges.top.fits c.if-y.true (rw c.from-last.ensures at c.if-y-last.true) in
    let few = at_most_top _ _ _ passed c.truncating_f64_to_u64-k.ensures in
    sym (complete 1 _ _ _ few (equal _ _ _ (float_of _ (lt_of_le_of_lt few c.ranges.top.fits)) c.if-k-y.true))

-- and a whole number equals its cut
never : (y : Float) (top cut : ℕ) → top < 2 ^ 32 → cut ≡ to_unsigned 64 y → eq (of_int binary64 (pos cut)) y ≡ false
    → (k : ℕ) → k ≤ top → IsExactly y k 1 → ⊥
never y top cut fits is differ k range exact =
    let small : k < 2 ^ 32 = lt_of_le_of_lt range fits in
    let same : cut ≡ k = is ∙ (known y k exact).cut (lt_of_lt_of_le small (lit≤ tt)) in
    let equals = ap (λ (j : ℕ). eq (of_int binary64 (pos j)) y) same ∙ (known y k exact).back _ (float_of k small) in
    false≢true (sym differ ∙ equals)

pub returns-else-k-y : goal.returns-else-k-y
returns-else-k-y c =
    sym
    (none 1 c.args.top c.args.y
    (never c.args.y c.args.top _ c.ranges.top.fits c.truncating_f64_to_u64-k.ensures c.if-k-y.false))

-- what fails a test of the range is no whole number in it
pub returns-else-y : goal.returns-else-y
unfolding of_bits
returns-else-y c = sym (none 1 c.args.top c.args.y (λ k range exact. false≢true (sym c.if-y.false ∙ (known c.args.y k exact).above)))

pub returns-else-y-last : goal.returns-else-y-last
returns-else-y-last c =
    let top = float_of c.args.top c.ranges.top.fits in
    sym
    (none 1 c.args.top c.args.y
    (λ k range exact. false≢true (sym (rw c.from-last.ensures at c.if-y-last.false) ∙ (known c.args.y k exact).below _ _ top range)))
