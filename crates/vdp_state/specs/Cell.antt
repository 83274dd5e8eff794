-- Cells: what a step does to the chip, the step that undoes it, and steps one after the other (definition, The tape).
use Rattle.std.specs.Prelude.{ℕ, zero, suc, ◌+◌, ◌*◌, ◌/◌, ◌%◌, List, get_or, set}
use Rattle.vdp_state.specs.declared.state.State.{State}
use Rattle.vdp_state.specs.declared.state.Step.{Step}
use Rattle.vdp_state.specs.declared.state.Store.{Store}
use Rattle.vdp_state.specs.declared.state.Store.TheVariants.{Nothing, Vram, Cram, Vsram, Register}
use Rattle.vdp_state.specs.State.{Chip, with_registers, with_cram, with_vsram, with_control}

-- a VRAM word, upper byte first
abbrev pub word_at : List ℕ → ℕ → ℕ
word_at m place = get_or m place 0 * 256 + get_or m (place + 1) 0

abbrev pub put_word : List ℕ → ℕ → ℕ → List ℕ
put_word m place w = set (set m place (w / 256)) (place + 1) (w % 256)

-- the state and VRAM once a cell holds its content
abbrev pub stored : State → Store → State
stored s Nothing = s
stored s (Vram place w) = s
stored s (Cram i w) = with_cram s (set s.cram i w)
stored s (Vsram i w) = with_vsram s (set s.vsram i w)
stored s (Register i b) = with_registers s (set s.registers i b)

abbrev pub stored_in : List ℕ → Store → List ℕ
stored_in m Nothing = m
stored_in m (Vram place w) = put_word m place w
stored_in m (Cram i w) = m
stored_in m (Vsram i w) = m
stored_in m (Register i b) = m

-- a step: the cell is stored and the control part replaced
abbrev pub after : State → Step → State
after s t = with_control (stored s t.store) t.control

unfoldable pub perform : Chip → Step → Chip
perform c t = record { state = after c.state t; vram = stored_in c.vram t.store }

-- the same cell with what it holds now
abbrev pub present : Chip → Store → Store
present c Nothing = Nothing
present c (Vram place w) = Vram place (word_at c.vram place)
present c (Cram i w) = Cram i (get_or c.state.cram i 0)
present c (Vsram i w) = Vsram i (get_or c.state.vsram i 0)
present c (Register i b) = Register i (get_or c.state.registers i 0)

-- the step that undoes a step: the control part as it is now, and the old content of the cell
unfoldable pub undoing : Chip → Step → Step
undoing c t = record { control = c.state.control; store = present c t.store }

-- f, n times: a run, a recorded run and the book's pages are iterations
abbrev pub iterate : {A : Type 0} → (A → A) → ℕ → A → A
iterate f zero x = x
iterate f (suc n) x = iterate f n (f x)

-- n steps, each decided by the chip as the last one left it
abbrev pub made : (Chip → Step) → Chip → Chip
made step c = perform c (step c)

abbrev pub steps : (Chip → Step) → ℕ → Chip → Chip
steps step n c = iterate (made step) n c
