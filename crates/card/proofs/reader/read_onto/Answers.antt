use Rattle.std.proofs.Common.{ℕ, ◌∙◌, List, [], ◌∷◌, ◌++◌, take, drop, refl, append-nil, ◌≡◌, ◌-◌, ◌<◌, length, sym, ap, arith, length-append, rules, Ok, Err}
use Rattle.std.proofs.lemmas.Result.{err_from_is_err_and}
use Rattle.std.proofs.lemmas.List.{take_rest}
use Rattle.sheet.specs.Model.{Model, new_model}
use Rattle.sheet.proofs.Sounds.{sound_new}
use Rattle.card.specs.declared.fault.CardFault.{CardFault}
use Rattle.card.specs.Entries.{card}
use Rattle.card.specs.Refusals.{at_byte, cause_refusal}
use Rattle.card.proofs.Loads.{made_sound}
use Rattle.card.proofs.Ordered.{last_start}
use Rattle.card.proofs.reader.read_onto.Goals as goal

none_left : (xs rest bs : List ℕ) → length rest ≡ 0 → xs ++ rest ≡ bs → xs ≡ bs
none_left xs [] bs h q = sym (append-nil xs) ∙ q
none_left xs (r ∷ rest) bs h q = absurd (omega arith)

-- a new sheet has no bytes
new_card : (m : Model) (bs : List ℕ) → m ≡ new_model → card m ++ bs ≡ bs
unfolding card
new_card m bs e = rw e refl

-- what stood before some bytes and a field's bytes stands before the rest of them
rest_on : (xs ys bs all : List ℕ) (w v : ℕ) → w ≡ v → xs ++ drop v bs ≡ ys ++ bs → ys ++ bs ≡ all → xs ++ take (length bs - w) (drop w bs) ≡ all
rest_on xs ys bs all w v e q r = rw (e, take_rest) (q ∙ r)

pub loop-rest-init : goal.loop-rest-init
loop-rest-init c = (rw c.requires last_start, rw c.requires sound_new, new_card _ _ c.requires)

pub loop-rest-preserved : goal.loop-rest-preserved
loop-rest-preserved c =
    let q : c.step.result ≡ Ok c.in_ok-entry.entry = search rules in
    let s = rw q at c.step.ensures.stepped in
    (s.last, rw s.made (made_sound _ c.in_ok-entry.entry c.loop-rest.invariant.1), rest_on _ _ _ _ _ _ c.width.ensures s.follow c.loop-rest.invariant.2)

pub returns-in_err-entry : goal.returns-in_err-entry
returns-in_err-entry c =
    let f : CardFault = c.in_err-entry.field-0.0 in
    let q : c.step.result ≡ Err f.cause = search rules in
    let b : f.byte ≡ length c.args.bytes.now - length c.loop-rest.rest.now = search rules in
    let p = err_from_is_err_and c.from_residual.result c.from_residual.ensures.1 in
    let h : 0 < length c.loop-rest.rest.now = search rules in
    let s = c.loop-rest.sheet in
    let l = ap length c.loop-rest.invariant.2 in
    let a = length-append (card s) c.loop-rest.rest.now in
    let n : f.byte ≡ length (card s) = omega arith in
    rw (p.1, p.2) (record {
      accepted = tt;
      sound = tt;
      refused =
          record {
            so_far = s;
            is_sound = c.loop-rest.invariant.1;
            rest = c.loop-rest.rest.now;
            begins = sym c.loop-rest.invariant.2;
            more = h;
            why = cause_refusal f.cause;
            refused_here = sym (rw q at c.step.ensures.value);
            with_byte = ap (λ k. at_byte k (cause_refusal f.cause)) n;
          };
    })

pub returns : goal.returns
returns c =
    let h : length c.loop-rest.rest.now ≡ 0 = search rules in
    record { accepted = none_left _ _ _ h c.loop-rest.invariant.2; sound = c.loop-rest.invariant.1; refused = tt }
