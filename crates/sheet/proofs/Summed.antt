-- The sums of a place, row by row.
use Rattle.std.proofs.Common.{◌≡◌, ℕ, zero, suc, ◌+◌, ◌-◌, ◌<◌, ◌≤◌, Bool, true, false, not, ◌&&◌, eqb, List, [], ◌∷◌, map, length, get_or, drop, is_some, Some, None, Option, sym, refl, ap, ◌∙◌, subst, inl, inr, add-zero, add_assoc, mul-le-mul, zero-add, arith}
use Rattle.std.specs.Option.{option_map}
use Rattle.std.specs.List.{slice_get}
use Rattle.std.proofs.lemmas.List.{drop_more, drop_all}
use Rattle.std.proofs.lemmas.Bool.{eq-eqb, ne_eqb, eqb-true, cases_Bool, and_parts}
use Rattle.sheet.specs.declared.rates.RateSums.{RateSums}
use Rattle.sheet.specs.declared.row.Row as unit
use Rattle.sheet.specs.declared.share.Share.{Share}
use Rattle.sheet.specs.Limits.{greatest_rate, most_rows}
use Rattle.sheet.specs.Kept.{FirstBlank}
use Rattle.sheet.specs.Model.{Row}
use Rattle.sheet.specs.Rates.{split, split_by, split_of, add_rates, add_splits, total, rows_at, blank_in, first_blank, Bounded, no_rates}
use Rattle.sheet.specs.Holds.{row_of}
use Rattle.std.proofs.lemmas.Option.{none-some}

add_rates_assoc : (x y z : RateSums) → add_rates (add_rates x y) z ≡ add_rates x (add_rates y z)
add_rates_assoc x y z =
    rw (
      add_assoc x.safe y.safe z.safe,
      add_assoc x.dangerous_detected y.dangerous_detected z.dangerous_detected,
      add_assoc x.dangerous_undetected y.dangerous_undetected z.dangerous_undetected,
      add_assoc x.safe_detected y.safe_detected z.safe_detected,
    )

add_splits_more : (x y : RateSums) (o : Option RateSums) → add_splits (Some (add_rates x y)) o ≡ add_splits (Some x) (add_splits (Some y) o)
add_splits_more x y None = refl
add_splits_more x y (Some z) = ap (λ w. Some w) (add_rates_assoc x y z)

no_rates_add : (x : RateSums) → add_rates no_rates x ≡ x
no_rates_add x = rw (zero-add x.safe, zero-add x.dangerous_detected, zero-add x.dangerous_undetected, zero-add x.safe_detected)

pub add_splits_none : (o : Option RateSums) → add_splits (Some no_rates) o ≡ o
add_splits_none None = refl
add_splits_none (Some x) = ap (λ w. Some w) (no_rates_add x)

pub nothing_more : (x : RateSums) → add_splits (Some x) (Some no_rates) ≡ Some x
nothing_more x =
    ap (λ w. Some w)
    (rw (add-zero x.safe, add-zero x.dangerous_detected, add-zero x.dangerous_undetected, add-zero x.safe_detected))

-- sums s of a place's rows before row i, of the rows all, with rest to come: no share was blank so far
pub record Summing (p : ℕ) (all : List Row) (i : ℕ) (rest : List Row) (s : RateSums) : Type 0 where
  pub sums_so_far : add_splits (Some s) (total (rows_at p rest)) ≡ total (rows_at p all)
  pub none_blank : blank_in p i rest ≡ blank_in p 0 all
  pub bounded : Bounded i s

pub sum_start : (p : ℕ) (rs : List Row) → Summing p rs 0 rs no_rates
sum_start p rs =
    record {
      sums_so_far = add_splits_none (total (rows_at p rs));
      none_blank = refl;
      bounded =
          record { safe_bound = omega arith; detected_bound = omega arith; undetected_bound = omega arith; safe_detected_bound = omega arith };
    }

module _ (p : ℕ) (all : List Row) (i : ℕ) (r : Row) (rest : List Row) (s : RateSums) (h : Summing p all i (r ∷ rest) s) where
  -- a row of another place
  pub sum_pass : (r.place ≡ p → ⊥) → Summing p all (i + 1) rest s
  sum_pass ne =
      let e = ne_eqb r.place p ne in
      let b = h.bounded in
      record {
        sums_so_far = rw e at h.sums_so_far;
        none_blank = rw e at h.none_blank;
        bounded =
            record { safe_bound = omega arith; detected_bound = omega arith; undetected_bound = omega arith; safe_detected_bound = omega arith };
      }

  module _ (at : r.place ≡ p) where
    -- a row of the place, whose split is x
    pub sum_add : (x : RateSums) → split_of r ≡ Some x → Bounded 1 x → Summing p all (i + 1) rest (add_rates s x)
    sum_add x k c =
        let e = eq-eqb r.place p at in
        let b = h.bounded in
        record {
          sums_so_far = add_splits_more s x (total (rows_at p rest)) ∙ (rw (e, k) at h.sums_so_far);
          none_blank = rw (e, k) at h.none_blank;
          bounded =
              record { safe_bound = omega arith; detected_bound = omega arith; undetected_bound = omega arith; safe_detected_bound = omega arith };
        }

    -- a row of the place with a blank share
    pub sum_stop : split_of r ≡ None → (total (rows_at p all) ≡ None) × (blank_in p 0 all ≡ Some i)
    sum_stop k = let e = eq-eqb r.place p at in (sym (rw (e, k) at h.sums_so_far), sym (rw (e, k) at h.none_blank))

pub sum_end : (p : ℕ) (all : List Row) (i : ℕ) (s : RateSums) → Summing p all i [] s → (total (rows_at p all) ≡ Some s) × (blank_in p 0 all ≡ None)
sum_end p all i s h = (sym h.sums_so_far ∙ nothing_more s, sym h.none_blank)

-- what one row adds
share_bounded : (rate s dc : ℕ) → rate ≤ greatest_rate → s ≤ 1000 → dc ≤ 1000 → Bounded 1 (split rate s dc)
share_bounded rate s dc a b c =
    let d : 1000 - s ≤ 1000 = omega arith in
    let e : 1000 - dc ≤ 1000 = omega arith in
    let f = mul-le-mul a b in
    let g = mul-le-mul a d in
    record {
      safe_bound = omega (arith, f);
      detected_bound = omega (arith, mul-le-mul g c);
      undetected_bound = omega (arith, mul-le-mul g e);
      safe_detected_bound = omega (arith, mul-le-mul f c);
    }

module _ (rate : ℕ) (most : rate ≤ greatest_rate) where
  split_bounded : (s dc : Option Share) (x : RateSums)
      → split_by rate (option_map (λ a. a.thousandths) s) (option_map (λ a. a.thousandths) dc) ≡ Some x → Bounded 1 x
  split_bounded None dc x e = absurd (none-some _ e)
  split_bounded (Some a) None x e = absurd (none-some _ e)
  split_bounded (Some a) (Some b) x e =
      let q : split rate a.thousandths b.thousandths ≡ x = cc in
      let P : RateSums → Type 0 = Bounded 1 in
      subst P q (share_bounded rate a.thousandths b.thousandths most a.within b.within)

pub row_bounded : (r : unit.Row) (x : RateSums) → split_of (row_of r) ≡ Some x → Bounded 1 x
row_bounded r x e = split_bounded r.rate r.most r.safe r.coverage x e

pub bounded_up : (m n : ℕ) (x : RateSums) → m ≤ n → Bounded m x → Bounded n x
bounded_up m n x h b =
    record { safe_bound = omega arith; detected_bound = omega arith; undetected_bound = omega arith; safe_detected_bound = omega arith }

-- the rows as the unit reads them: row i is next, or none is
module _ (p : ℕ) (rs : List unit.Row) (i : ℕ) (s : RateSums) (h : Summing p (map row_of rs) i (map row_of (drop i rs)) s) where
  pub sum_next : (r : unit.Row) → i < length rs → r ≡ get_or rs i r
      → Summing p (map row_of rs) i (row_of r ∷ map row_of (drop (i + 1) rs)) s
  sum_next r l e =
      let f : drop i rs ≡ r ∷ drop (i + 1) rs = drop_more rs i r l ∙ ap (λ x. x ∷ drop (i + 1) rs) (sym e) in
      let P : List unit.Row → Type 0 = λ l. Summing p (map row_of rs) i (map row_of l) s in
      subst P f h

  pub sum_last : length rs ≤ i → Summing p (map row_of rs) i [] s
  sum_last l = let P : List unit.Row → Type 0 = λ l. Summing p (map row_of rs) i (map row_of l) s in subst P (drop_all i rs l) h

pub few_so_far : (i : ℕ) (rs : List unit.Row) (s : RateSums) → i ≤ length rs → length rs ≤ most_rows → Bounded i s → Bounded most_rows s
few_so_far i rs s l n h = bounded_up i most_rows s (omega arith) h

no_split : (o : Option RateSums) → not (is_some o) ≡ true → o ≡ None
no_split None h = refl
no_split (Some x) h = let z : ◌≡◌ {A = ℕ} 0 1 = cc in absurd (omega arith)

some_split : (a : Bool) (o : Option RateSums) → (a && not (is_some o)) ≡ false → a ≡ true → is_some o ≡ true
some_split a (Some x) h e = refl
some_split true None h e = let z : ◌≡◌ {A = ℕ} 0 1 = cc in absurd (omega arith)
some_split false None h e = e

-- a row more before the others: it is not the one
before : (p : ℕ) (r : Row) (rs : List Row) (j : ℕ) → (eqb r.place p && not (is_some (split_of r))) ≡ false → FirstBlank rs p j
    → (k : ℕ) (w : Row) → k < suc j → slice_get (r ∷ rs) k ≡ Some w → w.place ≡ p → is_some (split_of w) ≡ true
before p r rs j h b zero w l e f =
    let q : r ≡ w = cc in
    let P : Row → Type 0 = λ v. (eqb v.place p && not (is_some (split_of v))) ≡ false in
    some_split (eqb w.place p) (split_of w) (subst P q h) (eq-eqb w.place p f)
before p r rs j h b (suc k) w l e f = b.none_before k w (omega arith) e f

blank_at : (p n : ℕ) (rs : List Row) (i : ℕ) → blank_in p n rs ≡ Some i → (j : ℕ) × (i ≡ n + j) × FirstBlank rs p j
blank_at p n [] i e = absurd (none-some _ e)
blank_at p n (r ∷ rs) i e =
    elim (cases_Bool (eqb r.place p && not (is_some (split_of r)))) [
      | inl h ↦
          let f : Some n ≡ Some i = rw h at e in
          let q : n ≡ i = cc in
          let a = and_parts (eqb r.place p) (not (is_some (split_of r))) h in (
            0,
            omega arith,
            record {
              row = r;
              stands = refl;
              at_the_place = eqb-true r.place p a.0;
              share_blank = no_split (split_of r) a.1;
              none_before = λ k w l. absurd (omega arith);
            },
          )
      | inr h ↦
          let f : blank_in p (n + 1) rs ≡ Some i = rw h at e in
          let b = blank_at p (n + 1) rs i f in (
            suc b.0,
            omega (arith, b.1),
            record {
              row = b.2.row;
              stands = b.2.stands;
              at_the_place = b.2.at_the_place;
              share_blank = b.2.share_blank;
              none_before = before p r rs b.0 h b.2;
            },
          )
    ]

-- the first row with a blank share is that
pub first_blank_is : (p : ℕ) (rs : List Row) (i : ℕ) → first_blank p rs ≡ Some i → FirstBlank rs p i
first_blank_is p rs i e =
    let b = blank_at p 0 rs i e in
    let q : b.0 ≡ i = omega (arith, b.1) in
    let P : ℕ → Type 0 = FirstBlank rs p in
    subst P q b.2
