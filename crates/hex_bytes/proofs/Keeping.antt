-- Bytes that are kept are held, one byte more is kept, and values are equal just where they hold the same bytes.
use Rattle.std.specs.Prelude.{IsTrue, ◌↔◌}
use Rattle.std.specs.Str.{bytes_eq}
use Rattle.std.proofs.lemmas.Slice.Eq.{bytes_eq-Decides}
use Rattle.std.proofs.lemmas.Bool.{and_parts, eq-eqb, eqb-true}
use Rattle.std.proofs.Common.{Bool, ◌&&◌, eqb, sym, ◌∙◌, ◌≡◌, ℕ, suc, ◌+◌, ◌-◌, ◌<◌, ◌≤◌, List, [], ◌∷◌, ◌++◌, length, take, drop, set, replicate, refl, ap, subst, arith}
use denote.Struct.Props.{props}
use lib.Seq.{take-append_seam}
use Rattle.std.proofs.lemmas.List.{length_push, drop-replicate}
use Rattle.hex_bytes.specs.declared.bytes.Bytes.{Bytes}
use Rattle.hex_bytes.specs.Capacity.{capacity, IsKept, padded}
use Rattle.hex_bytes.specs.Kept.{held}

-- what is kept is held
pub held_kept : (bs : List ℕ) → take (length bs) (padded bs) ≡ bs
held_kept bs = take-append_seam bs (replicate (capacity - length bs) 0)

kept : (a : List ℕ) (n : ℕ) (bs : List ℕ) → a ≡ padded bs → n ≡ length bs → length bs ≤ capacity → IsKept a n
kept a n bs e q h = rw (e, q) (record { few = h; count = rw (held_kept bs) refl; is = rw (held_kept bs) refl })

-- a byte takes the place of the first zero
set_first : (bs : List ℕ) (b m : ℕ) → set (bs ++ replicate (suc m) 0) (length bs) b ≡ (bs ++ (b ∷ [])) ++ replicate m 0
set_first [] b m = refl
set_first (x ∷ xs) b m = ap (λ (l : List ℕ). x ∷ l) (set_first xs b m)

set_padded : (bs : List ℕ) (b : ℕ) → length bs < capacity → set (padded bs) (length bs) b ≡ padded (bs ++ (b ∷ []))
set_padded bs b h =
    let n : capacity - length bs ≡ suc (capacity - (length bs + 1)) = omega arith in
    rw (n, set_first bs b (capacity - (length bs + 1)), length_push bs b) refl

pushed_as : (a : List ℕ) (n b : ℕ) (bs : List ℕ) → a ≡ padded bs → n ≡ length bs → length bs < capacity → set a n b ≡ padded (bs ++ (b ∷ []))
pushed_as a n b bs e q h = rw (e, q) (set_padded bs b h)

pub pushed : (a : List ℕ) (n b : ℕ) → IsKept a n → n < capacity → set a n b ≡ padded (take n a ++ (b ∷ []))
pushed a n b k h = pushed_as a n b (take n a) k.is (sym k.count) (rw k.count h)

pub pushed_kept : (a : List ℕ) (n b : ℕ) → IsKept a n → n < capacity → IsKept (set a n b) (n + 1)
pushed_kept a n b k h =
    let l : n + 1 ≡ length (take n a ++ (b ∷ [])) = sym (length_push (take n a) b ∙ ap (λ (m : ℕ). m + 1) k.count) in
    kept _ _ (take n a ++ (b ∷ [])) (pushed a n b k h) l (omega (arith, l, h))

-- one byte more is held
pub pushed_held : (a : List ℕ) (n b : ℕ) → IsKept a n → n < capacity → take (n + 1) (set a n b) ≡ take n a ++ (b ∷ [])
pushed_held a n b k h =
    let l : n + 1 ≡ length (take n a ++ (b ∷ [])) = sym (length_push (take n a) b ∙ ap (λ (m : ℕ). m + 1) k.count) in
    rw (pushed a n b k h, l) (held_kept (take n a ++ (b ∷ [])))

-- bytes that are written over the front of zeros are kept
pub sliced : (xs ys : List ℕ) → ys ≡ xs → length xs ≤ capacity → IsKept (ys ++ drop (length xs) (replicate 2048 0)) (length xs)
sliced xs ys e h = kept _ _ xs (rw (e, drop-replicate {X = ℕ} (length xs) 2048 0) refl) refl h

-- two values are equal, by a comparison of their fields, just where they hold the same bytes
pub same_kept : (r : Bool) (a b : Bytes) → r ≡ (bytes_eq a.array b.array && eqb a.length b.length) → IsTrue r ↔ (held a ≡ held b)
same_kept r a b e = (
  λ t.
      let both = and_parts (bytes_eq a.array b.array) (eqb a.length b.length) (sym e ∙ t) in
      let arrays : a.array ≡ b.array = (bytes_eq-Decides _ _).0 both.0 in
      let lengths : a.length ≡ b.length = eqb-true _ _ both.1 in
      ap (take a.length) arrays ∙ ap (λ (n : ℕ). take n b.array) lengths,
  λ q.
      let arrays : a.array ≡ b.array = a.kept.is ∙ (ap padded q ∙ sym b.kept.is) in
      let lengths : a.length ≡ b.length = sym a.kept.count ∙ (ap (λ (l : List ℕ). length l) q ∙ b.kept.count) in
      rw (e, arrays, lengths, (bytes_eq-Decides b.array b.array).1 refl, eq-eqb b.length b.length refl) refl,
)

-- so values that hold the same bytes are one value
kept_prop : (a : List ℕ) (n : ℕ) → IsProp (IsKept a n)
kept_prop a n = hlevel props

abbrev made : (a : List ℕ) (n : ℕ) → IsKept a n → Bytes
made a n k = record { array = a; length = n; kept = k }

same_fields : (a b : List ℕ) (n m : ℕ) (k : IsKept a n) (l : IsKept b m) → a ≡ b → n ≡ m → made a n k ≡ made b m l
same_fields a b n m k l e q =
    let P : ℕ → Type 0 = λ x. (j : IsKept a x) → made a n k ≡ made a x j in
    let Q : List ℕ → Type 0 = λ x. (j : IsKept x m) → made a n k ≡ made x m j in
    subst Q e (subst P q (λ j. ap (made a n) (kept_prop a n k j))) l

pub same_bytes : (a b : Bytes) → held a ≡ held b → a ≡ b
same_bytes a b q =
    let arrays : a.array ≡ b.array = a.kept.is ∙ (ap padded q ∙ sym b.kept.is) in
    let lengths : a.length ≡ b.length = sym a.kept.count ∙ (ap (λ (l : List ℕ). length l) q ∙ b.kept.count) in
    same_fields a.array b.array a.length b.length a.kept b.kept arrays lengths
