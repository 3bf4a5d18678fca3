-- A field's bytes are read as that field.
use Rattle.std.proofs.Common.{◌≡◌, ℕ, ◌+◌, ◌*◌, ◌/◌, ◌%◌, ◌<◌, ◌≤◌, true, false, List, ◌++◌, None, Ok, ap, ◌∙◌, arith}
use Rattle.std.proofs.lemmas.Nat.{from_be_bytes-to_be_bytes_2, from_be_bytes-to_be_bytes_4}
use Rattle.std.proofs.lemmas.Bool.Decides.{nat_tests}
use Rattle.card.specs.declared.entry.Entry.{Entry}
use Rattle.card.specs.Entries.{field_bytes, share, width}
use Rattle.card.specs.Reading.{entry_at, entry_made, in_order, reads, step}
use Rattle.card.proofs.Takes.{answer_is, entry_put, entry_refusal, made_is}
use Rattle.sheet.proofs.Accepted.{in_row, in_set}
use Rattle.sheet.specs.Calls.{over_share}
use Rattle.sheet.specs.Limits.{allowed}
use Rattle.sheet.specs.Model.{Model}

four_of : (n : ℕ) → n < 4294967296 → n / 16777216 % 256 * 16777216 + n / 65536 % 256 * 65536 + n / 256 % 256 * 256 + n % 256 ≡ n
four_of n h = from_be_bytes-to_be_bytes_4 n h

two_of : (n : ℕ) → n ≤ 65535 → n / 256 % 256 * 256 + n % 256 ≡ n
two_of n h = from_be_bytes-to_be_bytes_2 n (omega arith)

-- numbers that their bytes can hold
Holdable : Entry → Type 0
Holdable (Entry.Mode l) = Unit {0}
Holdable (Entry.Setting p f v) = v < 4294967296
Holdable (Entry.Row p r s c) = (r < 4294967296) × (s ≤ 65535) × (c ≤ 65535)

entry_of : (e : Entry) (bs : List ℕ) → Holdable e → entry_at (field_bytes e ++ bs) ≡ Ok e
unfolding entry_at Holdable
entry_of (Entry.Mode l) bs h = grind (arith, nat_tests)
entry_of (Entry.Setting p f v) bs h = grind (arith, nat_tests, four_of)
entry_of (Entry.Row p r s c) bs h = grind (arith, nat_tests, four_of, two_of)

allowed_most : (f v : ℕ) → allowed f v ≡ true → v ≤ 200000
allowed_most f v q = grind (arith, nat_tests)

share_most : (s : ℕ) → over_share (share s) ≡ false → s ≤ 65535
share_most s q = grind (arith, nat_tests)

taken_holdable : (m : Model) (e : Entry) → entry_refusal m e ≡ None → Holdable e
unfolding Holdable
taken_holdable m (Entry.Mode l) q = tt
taken_holdable m (Entry.Setting p f v) q = let k = allowed_most f v (in_set p f v q).value in omega arith
taken_holdable m (Entry.Row p r s c) q =
    let i = in_row m p r (share s) (share c) q in (omega (arith, i.most), share_most s i.safe, share_most c i.coverage)

pub step_of : (m : Model) (e : Entry) (bs : List ℕ) → in_order m e ≡ true → entry_refusal m e ≡ None → step m (field_bytes e ++ bs) ≡ Ok e
unfolding step
step_of m e bs o q = rw (entry_of e bs (taken_holdable m e q), o, answer_is m e, q)

-- one field
reads_made : (e : Entry) (n : Model) (at : ℕ) (bs : List ℕ) → in_order n e ≡ true → entry_refusal n e ≡ None
    → reads (field_bytes e ++ bs) 0 at n ≡ reads bs 0 (at + width e) (entry_made n e)
unfolding reads
reads_made (Entry.Mode l) n at bs o q = rw (step_of n (Entry.Mode l) bs o q)
reads_made (Entry.Setting p f v) n at bs o q = rw (step_of n (Entry.Setting p f v) bs o q)
reads_made (Entry.Row p r s c) n at bs o q = rw (step_of n (Entry.Row p r s c) bs o q)

pub reads_entry : (e : Entry) (n : Model) (at : ℕ) (bs : List ℕ) → in_order n e ≡ true → entry_refusal n e ≡ None
    → reads (field_bytes e ++ bs) 0 at n ≡ reads bs 0 (at + width e) (entry_put n e)
reads_entry e n at bs o q = reads_made e n at bs o q ∙ ap (reads bs 0 (at + width e)) (made_is n e q)
