-- A command of the stream: op (1), a (1), b (2, big-endian), c (4, big-endian).
use Rattle.std.specs.Prelude.{ℕ, ◌+◌, ◌*◌, List, get_or}
use Rattle.vdp_state.specs.Cell.{word_at}
use Rattle.stream.specs.declared.command.Command.{Command}

-- the command that 8 bytes are
abbrev pub command_of : List ℕ → Command
command_of bytes =
    record {
      op = get_or bytes 0 0;
      a = get_or bytes 1 0;
      b = word_at bytes 2;
      c = word_at bytes 4 * 65536 + word_at bytes 6;
    }
