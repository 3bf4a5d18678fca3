-- A fraction in tenths of a per cent.
use Rattle.std.specs.Prelude.{◌≡◌, ℕ, ◌+◌, ◌-◌, ◌*◌, ◌≤◌}

-- how far t tenths of a per cent, which are t / 1000, lie from n / d, with 1000 d for the unit
abbrev pub distance : ℕ → ℕ → ℕ → ℕ
distance n d t = (1000 * n - t * d) + (t * d - 1000 * n)

-- t tenths of a per cent are nearest to n / d, and of two that are equally near the upper: a half goes up
pub record Rounded (n d t : ℕ) : Type 0 where
  pub nearest : (u : ℕ) → distance n d t ≤ distance n d u
  pub upper : (u : ℕ) → distance n d u ≡ distance n d t → u ≤ t
