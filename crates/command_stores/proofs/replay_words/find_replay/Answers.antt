use Rattle.std.proofs.Common.{◌∙◌, ap, map, option_map, string_bytes}
use Rattle.option_words.specs.Commands.{table_of}
use Rattle.option_words.specs.declared.command.Command.TheVariants.{Replay}
use Rattle.option_words.proofs.WordLemmas.{job_of_given, no_job_of_given}
use Rattle.command_stores.specs.Replaying.{replay_from, replay_job_of}
use Rattle.command_stores.proofs.replay_words.find_replay.Goals as goal

pub returns-in-Some : goal.returns-in-Some
unfolding replay_job_of
returns-in-Some c =
    job_of_given replay_from (λ v. map (λ o. option_map (λ s. s.now) o) v.items) (table_of Replay)
    (map string_bytes c.args.words.now) _ c.in-Some.given _ c.in-Some.is c.in_ok-given.ensures
    (c.replay_job.ensures ∙ ap (λ l. replay_from (map (λ o. option_map (λ s. s.now) o) l)) c.deref.ensures.value)

pub returns-in-None : goal.returns-in-None
unfolding replay_job_of
returns-in-None c =
    no_job_of_given replay_from (λ v. map (λ o. option_map (λ s. s.now) o) v.items) (table_of Replay)
    (map string_bytes c.args.words.now) _ c.in-None.is c.in_ok-given.ensures
