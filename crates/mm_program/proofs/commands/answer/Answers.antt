use Rattle.std.proofs.Common.{◌≡◌, ◌∙◌, Some, ap, map, string_bytes, subst, sym}
use Rattle.option_words.specs.declared.command.Command.{Command}
use Rattle.option_words.specs.declared.command.Command.TheVariants.{Make}
use Rattle.command_ends.specs.Alone.{IsLeftAlone}
use Rattle.command_ends.specs.Readings.{Reading}
use Rattle.command_ends.proofs.EndLemmas.{ends_of, ends_usage}
use Rattle.mm_program.specs.Commands.{reading_of}
use Rattle.mm_program.specs.Tasks.{Task, work}
use Rattle.mm_program.proofs.TopLemmas.{command_is, reading_named}
use Rattle.mm_program.proofs.commands.answer.Goals as goal

pub returns-in-Some-clause-ends : goal.returns-in-Some-clause-ends
returns-in-Some-clause-ends g c =
    ends_of (work g.P.Conn.Link.view) _ _ _ _ _
    (reading_named string_bytes c.args.words.now c.word-item.result c.as_str.result.now _ c.named.result
    c.in-len1-up.len_at_least c.word-item.is c.as_str.ensures.value c.in-Some.is c.named.ensures)
    c.answer_command.ensures.ends

pub returns-in-Some-clause-port : goal.returns-in-Some-clause-port
returns-in-Some-clause-port g c = λ other.
    c.answer_command.ensures.port (λ is. other ((command_is string_bytes c.args.words.now c.word-item.result c.as_str.result.now _ c.named.result
    c.in-len1-up.len_at_least c.word-item.is c.as_str.ensures.value c.in-Some.is c.named.ensures)
    ∙ ap Some is))

pub returns-in-Some-clause-make : goal.returns-in-Some-clause-make
returns-in-Some-clause-make g c = λ make.
    let same : Some c.in-Some.command ≡ Some Make = sym (command_is string_bytes c.args.words.now c.word-item.result c.as_str.result.now _ c.named.result
    c.in-len1-up.len_at_least c.word-item.is c.as_str.ensures.value c.in-Some.is c.named.ensures)
    ∙ make in
    c.answer_command.ensures.make (cc same)

pub returns-in-Some-clause-alone : goal.returns-in-Some-clause-alone
returns-in-Some-clause-alone g c =
    subst (λ (reading : Reading Task). IsLeftAlone reading (g.D.Disk.view c.args.disk.now)
    (g.D.Disk.view c.answer_command.new.disk))
    (reading_named string_bytes c.args.words.now c.word-item.result c.as_str.result.now _ c.named.result
    c.in-len1-up.len_at_least c.word-item.is c.as_str.ensures.value c.in-Some.is c.named.ensures)
    c.answer_command.ensures.alone

pub returns-in-None-clause-ends : goal.returns-in-None-clause-ends
returns-in-None-clause-ends g c =
    ends_usage (work g.P.Conn.Link.view) _ (reading_of (map string_bytes c.args.words.now)) _
    (reading_named string_bytes c.args.words.now c.word-item.result c.as_str.result.now _ c.named.result
    c.in-len1-up.len_at_least c.word-item.is c.as_str.ensures.value c.in-None.is c.named.ensures)
    c.no_command-in-None.ensures
