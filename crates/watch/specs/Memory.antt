-- Where the memory of a process is told.
use Rattle.std.specs.Prelude.{◌≡◌, ◌++◌, ℕ, List, codes}
use Rattle.std.specs.Str.{trim}
use Rattle.std.specs.Str.Parse.{digits_value, without_leading_plus}

-- The text has the one somewhere, then the middle, and behind that the other.
pub record StandsBetween (text opening closing middle : List ℕ) : Type 0 where
  pub before : List ℕ
  pub after : List ℕ
  pub whole : text ≡ before ++ (opening ++ (middle ++ (closing ++ after)))

-- The text has `VmHWM:` somewhere, and behind it this number of kilobytes in decimal digits, with white space around it.
pub record IsToldIn (text : List ℕ) (kilobytes : ℕ) : Type 0 where
  pub number : List ℕ
  pub there : StandsBetween text (codes "VmHWM:") (codes "kB") number
  pub value : digits_value 10 (without_leading_plus (trim number)) ≡ kilobytes
