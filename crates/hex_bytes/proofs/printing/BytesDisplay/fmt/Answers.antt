use Rattle.std.proofs.Common.{ℕ, ◌+◌, ◌/◌, ◌%◌, true, List, ◌++◌, get_or, take, sym, refl, ap, ◌∙◌, arith, rules}
use Rattle.std.proofs.Output.{has_written_append, has_written_of_eq}
use Rattle.std.specs.Char.{encode_utf8}
use Rattle.hex_bytes.specs.Digits.{hex_text}
use Rattle.hex_bytes.proofs.Pairing.{hex_more, pair_text}
use Rattle.hex_bytes.proofs.printing.BytesDisplay.fmt.Goals as goal

pub loop-b-preserved : goal.loop-b-preserved
loop-b-preserved g c = λ plain.
    let xs : List ℕ = c.as_slice-bytes.result.now in
    let i : ℕ = c.loop-b.b-index in
    let before : List ℕ = hex_text (take i xs) in
    let pair : List ℕ = encode_utf8 c.lower_case-high.result ++ encode_utf8 c.lower_case-low.result in
    let p = c.loop-b.invariant plain in
    let e = pair_text c.lower_case-high.result c.lower_case-low.result (get_or xs i 0 / 16) (get_or xs i 0 % 16) (search rules) (omega arith) c.lower_case-high.ensures c.lower_case-low.ensures in
    has_written_of_eq g.W.Write.write_str_gives c.args.f.now (before ++ pair) (hex_text (take (i + 1) xs)) c.write.new.self
    (ap (λ (l : List ℕ). before ++ l) e ∙ sym (hex_more xs i c.loop-b-test.true))
    (has_written_append g.W.Write.write_str_gives c.args.f.now before c.loop-b.f pair c.write.new.self p (c.in_ok-write.ensures.writes p.plain (refl {a = true})))
