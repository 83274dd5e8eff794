-- The fresh state: definition, The state ("A fresh state has 0 in every field and nothing set, but for the line, which
-- is 261, and PAL, which is as asked.").
use Rattle.std.specs.Prelude.{Bool, false, replicate}
use Rattle.vdp_state.specs.declared.state.State.{State}
use Rattle.vdp_state.specs.Good.{last_line}

unfoldable pub fresh : Bool → State
fresh pal = record {
  registers = replicate 24 0;
  cram = replicate 64 0;
  vsram = replicate 40 0;
  control = record {
    port = record { address = 0; code = 0; pending = false };
    dma = record { kind = 0; remaining = 0; source = 0; fill = 0 };
    flags = record { overflow = false; collision = false; used_up = false };
    timing = record { line = last_line; counter = 0; vertical = false; horizontal = false };
  };
  pal = pal;
}
