-- A transfer is its port writes, proved: a unit and the data write of its word go side by side.
use Prim.Native.Nat.{ℕ, zero, suc, ◌<◌, ◌≤◌}
use mathlib.Core.Path.{◌≡◌, refl, sym, ap, ap₂, subst, ◌∙◌}
use mathlib.Core.Bool.{Bool, false}
use mathlib.Core.List.{List}
use native.Mathlib.Omega.{arith}
use borrow.Author.Tests.{eq-eqb, le-leb}
use Rattle.vdp_state.specs.declared.state.Control.{Control}
use Rattle.vdp_state.specs.declared.state.Dma.{Dma}
use Rattle.vdp_state.specs.declared.state.State.{State}
use Rattle.vdp_state.specs.declared.state.Step.{Step}
use Rattle.vdp_state.specs.declared.state.Store.{Store}
use Rattle.vdp_state.specs.declared.state.Store.TheVariants.{Nothing, Vram, Cram, Vsram, Register}
use Rattle.vdp_state.specs.Answer.{first}
use Rattle.vdp_state.specs.Cell.{stored, stored_in, perform, made}
use Rattle.vdp_state.specs.State.{Chip, chip, with_control, with_port, with_dma}
use Rattle.vdp_state.proofs.Facts.{tested, state_dma, some_remaining}
use Rattle.vdp_state.proofs.Laws.{good_colours, good_scrolls, good_control_lem, good_of}
use Rattle.vdp_state.proofs.Bools.{both}
use Rattle.vdp_ports.specs.Data.{data_tests, data_write_step, data_write}
use Rattle.vdp_ports.specs.Length.{idle}
use Rattle.vdp_ports.proofs.Writes.{Idle, idle_accepts, idle_after_write}
use Rattle.vdp_dma.specs.InTurn.{left, in_turn, NoneRefused}
use Rattle.vdp_dma.specs.PortWrites.{words_moved, made_idle, port_writes, WholeTransfer, TransferAsWrites, not_pending, SameButPending}
use Rattle.vdp_dma.specs.Run.{run, ran, units_made}
use Rattle.vdp_dma.specs.Source.{word_from, next_source}
use Rattle.vdp_dma.specs.Unit.{transfer_step, unit}
use Rattle.vdp_dma.proofs.Accepted.{number_is, Done, done, sizes}
use Rattle.vdp_dma.proofs.InTurn.{number_of, done_left}
use Rattle.vdp_dma.proofs.Remaining.{dma, unit_dma_lem, ran_dma, next_going, idle_after}

-- a chip with the DMA made idle, and pending set or clear
abbrev put_idle : Bool → Chip → Chip
put_idle pending c =
    let k = c.state.control in
    chip (with_control c.state (with_dma (with_port k (record { address = k.port.address; code = k.port.code; pending = pending })) idle)) c.vram

-- ---- one word
stored_beside : (s : State) (k : Control) (x : Store) → stored (with_control s k) x ≡ with_control (stored s x) k
stored_beside s k Nothing = refl
stored_beside s k (Vram place w) = refl
stored_beside s k (Cram i w) = refl
stored_beside s k (Vsram i w) = refl
stored_beside s k (Register i b) = refl

-- a unit's word as a data write: the same store, the address moved by the same
module _ (pending : Bool) (c : Chip) (w : ℕ) where
  abbrev write : Step
  write = data_write_step (put_idle pending c).state w

  abbrev move : Step
  move = transfer_step c.state w

  store_alike : write.store ≡ move.store
  unfolding data_write_step
  store_alike = refl

  address_alike : write.control.port.address ≡ move.control.port.address
  unfolding data_write_step
  address_alike = refl

  -- so the data write leaves what the unit leaves, with the DMA idle and pending clear
  unit_as_write : perform (put_idle pending c) write ≡ put_idle false (perform c move)
  unfolding perform data_write_step
  unit_as_write =
      let k = c.state.control in
      ap (λ (s : State). chip (with_control s write.control) (stored_in c.vram write.store)) (stored_beside c.state (put_idle pending c).state.control write.store)
      ∙ ap₂ (λ (x : Store) (a : ℕ). chip (with_control (stored c.state x) (with_dma (with_port k (record { address = a; code = k.port.code; pending = false })) idle)) (stored_in c.vram x)) store_alike address_alike

-- an idle chip serves a data write
module _ (c : Chip) (w : ℕ) (i : Idle c) where
  abbrev next : Chip
  next = perform c (data_write_step c.state w)

  write_number_lem : (data_write c w).answer.number ≡ 0
  write_number_lem = number_of (first (data_tests c)) 0 c next ∙ idle_accepts c i

  write_left : left (data_write c w) ≡ next
  write_left = done_left (first (data_tests c)) 0 c next (idle_accepts c i)

-- pending after n data writes
abbrev pending_after : ℕ → Bool → Bool
pending_after zero pending = pending
pending_after (suc n) pending = false

stays_clear : (n : ℕ) → pending_after n false ≡ false
stays_clear zero = refl
stays_clear (suc n) = refl

pending_clear : (n : ℕ) (pending : Bool) → 0 < n → pending_after n pending ≡ false
pending_clear zero pending h = absurd (let bad : ⊥ = omega arith in bad)
pending_clear (suc n) pending h = refl

-- ---- n words
module _ (cartridge ram : List ℕ) where
  -- n units of a transfer remain, the next from this source
  record Moving (c : Chip) (source n : ℕ) : Type 0 where
    pub kind : (dma c).kind ≡ 2
    pub place : (dma c).source ≡ source
    pub enough : n ≤ (dma c).remaining

  moving_next : (c : Chip) (source n : ℕ) → 0 < n → Moving c source (suc n) → Moving (made (unit cartridge ram) c) (next_source source) n
  unfolding perform
  moving_next c source n some m =
      let e = unit_dma_lem cartridge ram c ∙ next_going (dma c) (omega (arith, m.enough)) in
      record {
        kind = ap (λ (d : Dma). d.kind) e ∙ m.kind;
        place = ap (λ (d : Dma). d.source) e ∙ simp (eq-eqb (dma c).kind 2 m.kind) (ap next_source m.place);
        enough = omega (arith, ap (λ (d : Dma). d.remaining) e, m.enough);
      }

  -- the unit that a transfer makes
  transfer_unit : (c : Chip) (source n : ℕ) → Moving c source n → unit cartridge ram c ≡ transfer_step c.state (word_from cartridge ram source)
  transfer_unit c source n m = simp (eq-eqb (dma c).kind 2 m.kind) (ap (λ (x : ℕ). transfer_step c.state (word_from cartridge ram x)) m.place)

  record Written (n source : ℕ) (pending : Bool) (c : Chip) : Type 0 where
    pub served : NoneRefused data_write (words_moved cartridge ram source n) (put_idle pending c)
    pub same : put_idle (pending_after n pending) (ran cartridge ram n c) ≡ in_turn data_write (words_moved cartridge ram source n) (put_idle pending c)

  words_written : (n source : ℕ) (pending : Bool) (c : Chip) → (0 < n → Moving c source n) → Idle (put_idle pending c) → Written n source pending c
  words_written zero source pending c m i = record { served = tt; same = refl }
  words_written (suc n) source pending c m i =
      let now : Moving c source (suc n) = m (omega arith) in
      let w : ℕ = word_from cartridge ram source in
      let words : List ℕ = words_moved cartridge ram (next_source source) n in
      let before : Chip = put_idle pending c in
      let after : Chip = made (unit cartridge ram) c in
      let step : perform before (data_write_step before.state w) ≡ put_idle false after = unit_as_write pending c w ∙ ap (λ (t : Step). put_idle false (perform c t)) (sym (transfer_unit c source (suc n) now)) in
      let next : left (data_write before w) ≡ put_idle false after = write_left before w i ∙ step in
      let ih : Written n (next_source source) false after = words_written n (next_source source) false after (λ some. moving_next c source n some now) (subst Idle step (idle_after_write before w i)) in
      record {
        served = (write_number_lem before w i, subst (NoneRefused data_write words) (sym next) ih.served);
        same = ap (λ (b : Bool). put_idle b (ran cartridge ram n after)) (sym (stays_clear n)) ∙ ih.same ∙ ap (in_turn data_write words) (sym next);
      }

-- ---- a whole transfer
module _ (c : Chip) (cartridge ram : List ℕ) (budget : ℕ) (t : WholeTransfer c cartridge ram budget) where
  abbrev remaining : ℕ
  remaining = (dma c).remaining

  ran_whole : Done c cartridge ram budget
  ran_whole = done c cartridge ram budget (sym (number_is c cartridge ram budget) ∙ t.accepted)

  some : 0 < remaining
  some = some_remaining (dma c) (state_dma c.state ran_whole.accepted.state) (omega (arith, t.kind))

  -- at its start, with the DMA made idle
  idle_start : Idle (made_idle c)
  idle_start =
      let s = c.state in
      let g = ran_whole.accepted.state in
      let k = tested s.control (good_control_lem s g) in
      record {
        good = good_of _ (good_colours s g) (good_scrolls s g) (both (both (le-leb _ _ k.code) refl) k.timing);
        size = (sizes c.vram cartridge ram ran_whole.accepted.memory).vram_size;
        kind = refl;
      }

  whole_written : Written cartridge ram remaining (dma c).source c.state.control.port.pending c
  whole_written =
      words_written cartridge ram remaining (dma c).source c.state.control.port.pending c
      (λ more. record { kind = t.kind; place = refl; enough = omega arith }) idle_start

  -- all units are made, and then the DMA is idle
  all_made : left (run c cartridge ram budget) ≡ ran cartridge ram remaining c
  all_made = ran_whole.chip ∙ ap (λ (n : ℕ). ran cartridge ram n c) (let e : units_made c.state budget ≡ remaining = omega (arith, t.enough) in e)

  idle_end : dma (ran cartridge ram remaining c) ≡ idle
  idle_end = ran_dma cartridge ram remaining c ∙ idle_after remaining (dma c) some refl

  whole_same : not_pending (left (run c cartridge ram budget)) ≡ port_writes cartridge ram c
  whole_same =
      let end : Chip = ran cartridge ram remaining c in
      ap not_pending all_made
      ∙ ap (λ (d : Dma). chip (with_control end.state (with_dma (not_pending end).state.control d)) end.vram) idle_end
      ∙ ap (λ (b : Bool). put_idle b end) (sym (pending_clear remaining c.state.control.port.pending some)) ∙ whole_written.same

pub same_but_pending : SameButPending
same_but_pending c cartridge ram budget t = whole_same c cartridge ram budget t

pub transfer_as_writes : TransferAsWrites
transfer_as_writes c cartridge ram budget t =
    let e = whole_same c cartridge ram budget t in (
      (whole_written c cartridge ram budget t).served,
      record {
        vram = ap (λ (x : Chip). x.vram) e;
        colours = ap (λ (x : Chip). x.state.cram) e;
        scrolls = ap (λ (x : Chip). x.state.vsram) e;
        address = ap (λ (x : Chip). x.state.control.port.address) e;
      },
    )
