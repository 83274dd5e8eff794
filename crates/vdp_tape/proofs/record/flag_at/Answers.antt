-- The flag is the lowest bit once the byte is shifted.
use Rattle.vdp_tape.proofs.Records.{flag_shifted}
use Rattle.vdp_tape.proofs.record.flag_at.Goals as goal

pub returns : goal.returns
returns c = flag_shifted c.args.i c.args.n
