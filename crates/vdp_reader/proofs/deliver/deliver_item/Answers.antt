-- An item that names no missing register is called, and the reader goes by what its call gives.
use Rattle.std.proofs.Common.{sym, ◌∙◌}
use Rattle.vdp_state.specs.State.{chip}
use Rattle.vdp_reader.proofs.Deliveries.{done_called, refused_called}
use Rattle.vdp_reader.proofs.deliver.deliver_item.Goals as goal

pub returns-in-Ok : goal.returns-in-Ok
returns-in-Ok c =
    let a = c.args in
    done_called a.memories.cartridge.now a.memories.ram.now (chip a.s a.vram.now) a.pixels.now a.item a.taken (sym c.names_missing.ensures ∙ c.if-names_missing.false) c.in-Ok.ensures c.after_call.ensures

pub returns-in-Err : goal.returns-in-Err
returns-in-Err c =
    let a = c.args in
    refused_called a.memories.cartridge.now a.memories.ram.now (chip a.s a.vram.now) a.pixels.now a.item a.taken (sym c.names_missing.ensures ∙ c.if-names_missing.false) c.in-Err.refusal c.in-Err.ensures c.after_call-in-Err.ensures
