-- What functions of this crate that no customer calls require or ensure. No outside call's contract cites these.
use Rattle.std.specs.Prelude.{◌≡◌, List, ℕ, ◌*◌, ◌≤◌, ◌<◌}
use Rattle.netpbm.specs.Header.{area_limit}
use Rattle.netpbm.specs.declared.Header.{Header}
use Rattle.still.specs.Still.{own_curve, file_header, file_samples}

-- A picture of this width and height has so many samples and is within the limit.
pub record PictureFits (width height samples : ℕ) : Type 0 where
  pub exact : samples ≡ 3 * (width * height)
  pub some : 0 < width * height
  pub most : width * height ≤ area_limit

-- The curve is the samples' own, by which `balanced` colours them.
abbrev pub OwnCurve : List ℕ → List ℕ → Type 0
OwnCurve samples curve = curve ≡ own_curve samples

-- The picture is the file's: what its header says, and its samples.
pub record PictureOf (file : List ℕ) (read : Header) (bytes : List ℕ) : Type 0 where
  pub header : read ≡ file_header file
  pub samples : bytes ≡ file_samples file
