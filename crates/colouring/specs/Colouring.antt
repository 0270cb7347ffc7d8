-- Colouring a strip by a curve and a method (document 01, "Moving a pixel"), and under a setting of the dial (document 02, wish 1).
use Rattle.std.specs.Prelude.{not, List, [], ◌∷◌, map, ℕ, eqb, length}
use Rattle.refusal.specs.Refusal.{Check, ◌refuses◌}
use Rattle.tables.specs.Table.{at}
use Rattle.pixel.specs.Move.{intensity, moved}
use Rattle.pixel.specs.Strip.{is_whole, pixels_of, bytes_of}
use Rattle.pixel.specs.declared.Method.{Method}
use Rattle.pixel.specs.declared.Pixel.{Pixel}
use Rattle.settings.specs.Setting.{written_under}
use Rattle.settings.specs.declared.Setting.{Setting}

-- The checks of the runs that a colouring brings, 2 and 8. 2: the source's length is not a multiple of 3. 8: destination and source differ
-- in length.
abbrev pub size_checks : List ℕ → List ℕ → List Check
size_checks source destination =
    not (is_whole (length source)) refuses 2 ∷ not (eqb (length destination) (length source)) refuses 8 ∷ []

-- A strip with each of its pixels changed, at the same place.
abbrev pub each_pixel : (Pixel → Pixel) → List ℕ → List ℕ
each_pixel change strip = bytes_of (map change (pixels_of strip))

-- "Colouring moves each source pixel to the curve's entry for its sum and writes it at the same place in the destination."
unfoldable pub coloured_strip : Method → List ℕ → List ℕ → List ℕ
coloured_strip method curve source = each_pixel (λ p. moved method p (at curve (intensity p))) source

-- The same under a setting: full balance, mix, held move or copy, as the setting has it.
unfoldable pub coloured_under : Setting → Method → List ℕ → List ℕ → List ℕ
coloured_under setting method curve source = each_pixel (λ p. written_under setting method (at curve (intensity p)) p) source
