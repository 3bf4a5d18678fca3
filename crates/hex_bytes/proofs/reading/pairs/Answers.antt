use Rattle.std.proofs.Common.{◌≡◌, ◌∙◌, arith, rules}
use Rattle.std.proofs.lemmas.List.{length_push}
use Rattle.std.specs.Slice.Iter.{chunks_rest}
use Rattle.hex_bytes.specs.Digits.{hex_of}
use Rattle.hex_bytes.specs.Kept.{held}
use Rattle.hex_bytes.proofs.Pairing.{hex_none, hex_step}
use Rattle.hex_bytes.proofs.reading.pairs.Goals as goal

pub loop-pair-init : goal.loop-pair-init
loop-pair-init c =
    let rest : chunks_rest c.into_iter-pair-iterator.result ≡ c.args.word.now = search rules in
    (search rules, tt, search rules, search rules, rw (c.none-bytes.ensures, rest) (hex_none (hex_of c.args.word.now)))

pub loop-pair-preserved : goal.loop-pair-preserved
loop-pair-preserved c =
    let inv = c.loop-pair.invariant in
    let steps = c.in-Some.ensures.steps in
    let read = hex_step _ c.in-Some.pair.now (chunks_rest c.next.new.self) (held c.loop-pair.bytes) c.in_ok-byte.field-0 steps.1.0 c.in_ok-byte.ensures in
    let more = length_push (held c.loop-pair.bytes) c.in_ok-byte.field-0 in
    (search rules, tt, steps.0 ∙ inv.2, rw c.push.ensures (omega (arith, read.0, more, inv.3)), rw c.push.ensures (inv.4 ∙ read.1))
