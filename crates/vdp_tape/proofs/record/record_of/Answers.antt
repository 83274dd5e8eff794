-- The bytes of the definition, by what the parts ensure.
use Rattle.std.proofs.Common.{[], ◌∷◌, false, ◌∙◌, arith}
use Rattle.vdp_tape.proofs.Records.{one_byte, two_down, bit_byte, kind_fits, flag_bit_fits, flags_fit}
use Rattle.vdp_tape.specs.Record.{flag_bit, flag_byte, kept_of}
use Rattle.vdp_tape.proofs.record.record_of.Goals as goal

pub returns : goal.returns
returns c =
    let t = c.args.t in
    let k = t.control in
    simp (
      c.from-kept.ensures,
      c.to_be_bytes.ensures,
      c.to_be_bytes-2.ensures,
      c.to_be_bytes-3.ensures,
      c.to_be_bytes-4.ensures,
      c.to_be_bytes-5.ensures,
      c.to_be_bytes-6.ensures,
      c.from-pending.ensures ∙ bit_byte k.port.pending,
      c.flag_byte-sprites.ensures,
      c.flag_byte-interrupts.ensures,
      two_down,
      one_byte (kept_of t.store).kind (kind_fits t.store),
      one_byte k.port.code (omega (arith, c.well_formed)),
      one_byte (flag_bit k.port.pending) (flag_bit_fits k.port.pending).0,
      one_byte k.dma.kind (omega (arith, c.well_formed)),
      one_byte k.dma.fill (omega (arith, c.well_formed)),
      one_byte (flag_byte (k.flags.overflow ∷ k.flags.collision ∷ k.flags.used_up ∷ [])) (flags_fit k.flags.overflow k.flags.collision k.flags.used_up),
      one_byte k.timing.counter (omega (arith, c.well_formed)),
      one_byte (flag_byte (k.timing.vertical ∷ k.timing.horizontal ∷ [])) (flags_fit k.timing.vertical k.timing.horizontal false),
    )
