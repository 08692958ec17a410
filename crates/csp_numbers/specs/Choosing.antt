-- How a channel's fields have values.
use Rattle.std.specs.Prelude.{◌≡◌, ◌<◌, ◌≤◌, ℕ, Option, Some, None}

-- that is the count, or it is more than so many
abbrev pub IsCountWithin : ℕ → ℕ → Option ℕ → Type 0
IsCountWithin most n (Some count) = (count ≡ n) × (n ≤ most)
IsCountWithin most n None = most < n
