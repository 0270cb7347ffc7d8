-- A pixel, channel by channel.
use mathlib.Core.Path.{◌≡◌, refl}
use Prim.Native.Nat.{ℕ, ◌≤◌}
use native.Mathlib.Omega.{arith}
use Rattle.pixel.specs.Moving.{PixelSample}
use Rattle.pixel.specs.Move.{Channel, Channel.red, Channel.green, Channel.blue, sample, InRange, intensity, each_sample}
use Rattle.pixel.specs.declared.Pixel.{Pixel}

pub sample_each : (g : ℕ → ℕ) (p : Pixel) (a : Channel) → sample (each_sample g p) a ≡ g (sample p a)
sample_each g p red = refl
sample_each g p green = refl
sample_each g p blue = refl

-- a sample and the intensity of its pixel
pub inside : (p : Pixel) (f : ℕ) → InRange p → f ≤ 765 → (a : Channel) → PixelSample (intensity p) f (sample p a)
inside p f bytes le red = omega (arith, bytes red, bytes green, bytes blue)
inside p f bytes le green = omega (arith, bytes red, bytes green, bytes blue)
inside p f bytes le blue = omega (arith, bytes red, bytes green, bytes blue)

pub black_samples : (p : Pixel) → intensity p ≡ 0 → (a : Channel) → sample p a ≡ 0
black_samples p e red = omega arith
black_samples p e green = omega arith
black_samples p e blue = omega arith

pub white_samples : (p : Pixel) → InRange p → intensity p ≡ 765 → (a : Channel) → sample p a ≡ 255
white_samples p bytes e red = omega (arith, bytes red, bytes green, bytes blue)
white_samples p bytes e green = omega (arith, bytes red, bytes green, bytes blue)
white_samples p bytes e blue = omega (arith, bytes red, bytes green, bytes blue)
