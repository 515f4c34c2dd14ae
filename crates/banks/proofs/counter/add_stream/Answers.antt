use Rattle.std.proofs.Common.{◌≡◌, ℕ, ◌+◌, ◌/◌, ◌%◌, ◌<◌, ◌≢◌, List, length, get_or, ap, ◌∙◌, ap₂, arith, get_or-set_other, get_or-set_same, below_more}
use lib.Bits.{bit_xor}
use Rattle.std.proofs.lemmas.List.FromFn.{fill_by_all}
use Rattle.aes.specs.Cipher.{schedule, cipher, aes128}
use Rattle.aes.specs.declared.state.Row.{Row}
use Rattle.keys.specs.Keys.{key_octets}
use Rattle.banks.specs.Mea1.{counter_block, output_block, stream, mea1}
use Rattle.banks.specs.Stream.{length_output}
use Rattle.banks.proofs.counter.add_stream.Goals as goal
use Rattle.banks.proofs.counter.add_stream.Goals.{then-i-eq0, else-i-eq0}

pub loop-i-preserved : goal.loop-i-preserved
unfolding stream output_block aes128
loop-i-preserved c =
    let key = c.args.key.now in
    let iv = c.args.iv.now in
    let i = c.loop-i.i in
    let keys : c.expand-keys.result.rounds ≡ schedule (key_octets key) =
    c.expand-keys.ensures ∙ ap schedule c.from.ensures.octets_are in
    let block : c.if-i-eq0.block ≡ output_block key iv (i / 16) =
    elim c.if-i-eq0.branch [
      | then-i-eq0 w ↦
          w.block-is
          ∙ w.output_block-block.ensures
          ∙ ap (λ (ks : List (List Row)). cipher ks (counter_block iv (i / 16))) keys
      | else-i-eq0 w ↦ w.block-is ∙ c.loop-i.invariant.current (omega (arith, w.if-i-eq0.false))
    ] in
    let within : i < length c.loop-i.octets = omega arith in
    record {
      done =
          below_more _ _
          (λ k h. let other : k ≢ i = omega arith in rw get_or-set_other (c.loop-i.invariant.done k h))
          (rw get_or-set_same
          (ap₂ bit_xor (c.loop-i.invariant.untouched i (omega arith)) (ap (λ (b : List ℕ). get_or b (i % 16) 0) block)));
      untouched =
          λ k h. let other : k ≢ i = omega arith in rw get_or-set_other (c.loop-i.invariant.untouched k (omega arith));
      sixteen = ap length block ∙ length_output key iv (i / 16);
      current = λ h. let same : i / 16 ≡ (i + 1) / 16 = omega arith in block ∙ ap (output_block key iv) same;
    }

pub returns : goal.returns
unfolding mea1
returns c =
    let key = c.args.key.now in
    let iv = c.args.iv.now in
    fill_by_all (λ (j : ℕ). bit_xor (get_or c.args.octets.now j 0) (stream key iv j)) c.loop-i.octets
    (length c.args.octets.now) 0 (omega arith) (λ k h. c.loop-i.invariant.done k (omega arith))
