-- The places in turn: each number below eight is that of a place, so that none is passed over.
use Rattle.std.proofs.Common.{◌≡◌, ℕ, ◌+◌, ◌<◌, ◌≤◌, List, [], ◌∷◌, None, Some, Option, ◌∙◌, sym, subst, arith}
use Rattle.std.proofs.iter.Yields.{nat_range_steps}
use Rattle.std.specs.Fn.{Called, Mut}
use Rattle.std.specs.Iterator.{YieldsThen}
use Rattle.std.specs.Iterator.Adapters.{filter_map_steps}
use Rattle.std.specs.List.{FoldsTo}
use Rattle.std.specs.Option.{IsSome, MatchOption}
use Rattle.std.specs.declared.iter.FilterMap.{FilterMap}
use Rattle.std.specs.declared.ops.Range.{Range}

-- a number that is passed over is beyond the range, so that none is
none_passed : {F : Type 0} (R : F → ℕ → F → Type 0) (beyond : (f : F) (x : ℕ) (h : F) → R f x h → 7 < x) (xs : List ℕ) (f h : F) (s t : Range ℕ) (o : Option ℕ)
    → s.end ≡ 8 → YieldsThen nat_range_steps s xs o t → FoldsTo R f xs h → nat_range_steps s o t
none_passed R beyond [] f h s t o e y c = subst (λ (k : Range ℕ). nat_range_steps k o t) (sym y.1) y.2
none_passed R beyond (x ∷ xs) f h s t o e y c = absurd (omega (arith, e, beyond f x c.0 c.1, y.1.1.1.0, y.1.1.1.1))

turn : {F P : Type 0} (number : P → ℕ) (g : Mut F (ℕ × Unit {0}) (Option P))
    (says : (f : F) (x : ℕ) (r : Option P) (h : F) → Called g f (x, tt) r h → MatchOption r (7 < x) (λ p. number p ≡ x))
    (s t : Range ℕ) (f h : F) (o : Option ℕ) (r : Option P) → s.end ≡ 8 → nat_range_steps s o t
    → MatchOption o ((r ≡ None) × (h ≡ f)) (λ x. Called g f (x, tt) r h × IsSome r)
    → (t.end ≡ 8) × MatchOption r (8 ≤ s.start) (λ p. (number p ≡ s.start) × (s.start < 8) × (t.start ≡ s.start + 1))
turn number g says s t f h None None e k c = (k.0 ∙ e, omega (arith, e, k.1.0))
turn number g says s t f h None (Some p) e k c = absurd (cc)
turn number g says s t f h (Some x) None e k c = absurd (cc)
turn number g says s t f h (Some x) (Some p) e k c = (k.0 ∙ e, (says f x (Some p) h c.0 ∙ k.1.1, omega (arith, e, k.1.0), k.1.2))

-- the next place, whose number is where the range stands, or none where the range is at its end
pub place_turn : {F P : Type 0} {g : Mut F (ℕ × Unit {0}) (Option P)} (number : P → ℕ) (s t : FilterMap (Range ℕ) F) (r : Option P)
    → s.iter.end ≡ 8 → filter_map_steps nat_range_steps g s r t
    → ((f : F) (x : ℕ) (r : Option P) (h : F) → Called g f (x, tt) r h → MatchOption r (7 < x) (λ p. number p ≡ x))
    → (t.iter.end ≡ 8) × MatchOption r (8 ≤ s.iter.start) (λ p. (number p ≡ s.iter.start) × (s.iter.start < 8) × (t.iter.start ≡ s.iter.start + 1))
place_turn {F} {P} {g} number s t r e d says =
    turn number g says s.iter t.iter d.2 t.f d.1 r e (none_passed (λ p x q. Called g p (x, tt) None q) (λ f x h c. says f x None h c) d.0 s.f d.2 s.iter t.iter d.1 e d.3 d.4) d.5
