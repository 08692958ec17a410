-- Times between two looks at a clock.
use Rattle.std.specs.Prelude.{◌-◌, ℕ, Option, Some, None}

-- how much later the second time is, where both are known; nothing, where it is earlier
abbrev pub between : Option ℕ → Option ℕ → Option ℕ
between (Some begun) (Some ended) = Some (ended - begun)
between (Some begun) None = None
between None ended = None
