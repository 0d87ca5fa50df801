use Rattle.std.proofs.Common.{◌≡◌, false, bit_or, ap, sym, ◌∙◌}
use Rattle.std.proofs.lemmas.List.{drop_more}
use Rattle.ic3_frames.specs.Signatures.{signature_of}
use Rattle.ic3_frames.proofs.SignatureLaws.{signature_step, signature_end, signature_in}
use Rattle.ic3_frames.proofs.signatures.signature_of.Goals as goal

pub loop-literal-preserved : goal.loop-literal-preserved
loop-literal-preserved c =
    signature_step c.args.literals.now c.loop-literal.literal-index c.loop-literal.signature c.bit_of-signature.result _
    (drop_more c.args.literals.now c.loop-literal.literal-index (record { var = 0; positive = false }) c.loop-literal-test.true)
    c.bit_of-signature.ensures c.loop-literal.invariant

pub returns : goal.returns
returns c =
    let all : c.loop-literal.signature ≡ signature_of c.args.literals.now =
    signature_end c.args.literals.now c.loop-literal.literal-index c.loop-literal.signature c.loop-literal-test.false c.loop-literal.invariant
    in
    record {
      signature = all;
      parts =
          λ part among.
          ap (bit_or (signature_of part)) all ∙ (signature_in part c.args.literals.now among ∙ sym all);
    }
