-- The integer quotient that rounds to the nearest tenth, a half going up.
use Rattle.std.proofs.Common.{◌≡◌, ℕ, ◌+◌, ◌*◌, ◌/◌, ◌<◌, ◌≤◌, ⊎_elim, le_refl, mul-le-mul_right, div-mul-le_self, arith}
use native.Mathlib.Nat.{lt-div-mul-add}
use Rattle.std.proofs.lemmas.Bool.{cases_order, cases_lt}
use Rattle.sheet.specs.Rounding.{distance, Rounded}

module _ (n d t : ℕ) (real : 0 < d) (is : t ≡ (2000 * n + d) / (2 * d)) where
  at_least : 2 * (t * d) ≤ 2000 * n + d
  at_least = let h = div-mul-le_self (2000 * n + d) (2 * d) in let k : t * (2 * d) ≤ 2000 * n + d = rw is h in omega arith

  at_most : 2000 * n + d < 2 * (t * d) + 2 * d
  at_most =
      let p : 0 < 2 * d = omega arith in
      let h = lt-div-mul-add {a = 2000 * n + d} {b = 2 * d} p in
      let k : 2000 * n + d < t * (2 * d) + 2 * d = rw is h in
      omega arith

  -- a greater number of tenths is farther off
  above : (u : ℕ) → t < u → distance n d t < distance n d u
  above u l =
      let a = at_least in
      let b = at_most in
      let m : (t + 1) * d ≤ u * d = mul-le-mul_right d (omega arith) in
      omega arith

  -- a smaller one is not nearer
  below : (u : ℕ) → u < t → distance n d t ≤ distance n d u
  below u l =
      let a = at_least in
      let b = at_most in
      let m : (u + 1) * d ≤ t * d = mul-le-mul_right d (omega arith) in
      omega arith

  pub rounded : Rounded n d t
  rounded =
      record {
        nearest = λ u.
            ⊎_elim (λ e. rw e (le_refl (distance n d u))) (⊎_elim (λ l. let h = above u l in omega arith) (λ l. below u l)) (cases_order t u);
        upper = λ u e. ⊎_elim (λ l. absurd (let h = above u l in omega arith)) (λ g. g) (cases_lt t u);
      }

  pub rounded_small : n ≤ d → t ≤ 1000
  rounded_small h =
      let a = at_least in
      ⊎_elim (λ l. absurd (let m : 1001 * d ≤ t * d = mul-le-mul_right d l in omega arith)) (λ g. g) (cases_lt 1000 t)
