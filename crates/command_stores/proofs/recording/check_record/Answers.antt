use Rattle.std.proofs.Common.{[], ◌∷◌}
use Rattle.command_stores.specs.Recording.{record_inputs}
use Rattle.command_stores.specs.inside.Values.{record_values}
use Rattle.command_stores.proofs.NameLemmas.{names_accepted, names_read}
use Rattle.command_stores.proofs.recording.check_record.Goals as goal

pub returns-clause-read : goal.returns-clause-read
returns-clause-read c =
    let job = record_values c.args.job.now in
    names_read (job.client ∷ job.server ∷ []) job.out (record_inputs job) c.check_names.result c.check_names.ensures

pub returns-clause-accepts : goal.returns-clause-accepts
returns-clause-accepts c =
    let job = record_values c.args.job.now in
    names_accepted (job.client ∷ job.server ∷ []) job.out (record_inputs job) c.check_names.result c.check_names.ensures
    (λ refusal is. cc is)
