-- For proofs alone: what was read of one shell, as the definitions of the grammar have it.
use Rattle.std.specs.Prelude.{◌++◌, map, string_bytes, option_to_list}
use Rattle.nest_spec.specs.Words.{ShellRead, shell_read}
use Rattle.nest_spec.specs.inside.LinkWords.{text_of}
use Rattle.nest_spec.specs.declared.shell_reading.ShellRead.{ShellRead as ShellInside}

-- What was read, with words and names as bytes.
abbrev pub shell_given : ShellInside → ShellRead
shell_given r =
    shell_read r.shell (option_to_list (text_of r.up_trace) ++ option_to_list (text_of r.down_trace))
    (option_to_list (text_of r.up_log) ++ option_to_list (text_of r.down_log))
    r.place (map string_bytes r.rest.now)
